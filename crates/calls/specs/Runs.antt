-- Runs: calls one after the other, and what an onlooker sees of them.
use Rattle.std.specs.Prelude.{ℕ, List, [], ◌∷◌, Result}
use Rattle.messages.specs.Refusals.{Facts}
use Rattle.transport.specs.Lanes.{Rule}
use Rattle.calls.specs.declared.reports.Report.{Report}
use Rattle.calls.specs.declared.call.Call.{Call}
use Rattle.calls.specs.declared.call.Call.TheVariants as call
use Rattle.calls.specs.Model.{Model}
use Rattle.calls.specs.Outcomes.{called}

-- the results of a run
abbrev pub results : {K : Type 0} → Rule → (K → List ℕ) → ℕ → Model → List K → List (Call K) → List (Result Report Facts)
results room meaning size m ks [] = []
results room meaning size m ks (c ∷ cs) =
    let o = called room meaning size m ks c in
    o.0 ∷ results room meaning size o.1 o.2 cs

-- the pool and the keys in use after a run
abbrev pub after_run : {K : Type 0} → Rule → (K → List ℕ) → ℕ → Model → List K → List (Call K) → Model × List K
after_run room meaning size m ks [] = (m, ks)
after_run room meaning size m ks (c ∷ cs) =
    let o = called room meaning size m ks c in
    after_run room meaning size o.1 o.2 cs

-- a call with its key as what it means
abbrev pub meant : {K : Type 0} → (K → List ℕ) → Call K → Call (List ℕ)
meant meaning (call.Start zone key q board) = call.Start zone (meaning key) q board
meant meaning (call.DeliverUp zone) = call.DeliverUp zone
meant meaning (call.DeliverDown zone) = call.DeliverDown zone
meant meaning (call.TakeUp key) = call.TakeUp (meaning key)
meant meaning (call.LetGo zone key) = call.LetGo zone (meaning key)

-- a call and its result
pub record Event : Type 0 where
  pub asked : Call (List ℕ)
  pub result : Result Report Facts

-- what an onlooker sees: each call with its result
abbrev pub trace : List (Call (List ℕ)) → List (Result Report Facts) → List Event
trace [] rs = []
trace (c ∷ cs) [] = []
trace (c ∷ cs) (r ∷ rs) = record { asked = c; result = r } ∷ trace cs rs

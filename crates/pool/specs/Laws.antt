-- The law of every run of a pool that was opened with what is loaded at each place.
use Rattle.std.specs.Prelude.{ℕ, List, map, Option, Result}
use Rattle.messages.specs.declared.assignments.Assignment.{Assignment}
use Rattle.messages.specs.Refusals.{Facts}
use Rattle.transport.specs.Lanes.{Rule}
use Rattle.calls.specs.declared.call.Call.{Call}
use Rattle.calls.specs.declared.reports.Report.{Report}
use Rattle.calls.specs.Model.{Model}
use Rattle.calls.specs.Runs.{trace, results, after_run, meant}
use Rattle.calls.specs.Opening.{Load, JustOpened, TiedTo}
use Rattle.calls.specs.Law.{Law}
use Rattle.pool.specs.Stocks.{loads_in}

-- for every register whose known keys are distinct and tied to what was loaded, and every list of calls
abbrev pub LawfulWith : Rule → Model → (ℕ → Load) → Type 0
LawfulWith room m loads =
    (size : ℕ) (ks : List (List ℕ)) (stock : List ℕ → Option Assignment) → TiedTo ks loads stock →
    (calls : List (Call (List ℕ))) →
    let after = after_run room (λ k. k) size m ks calls in
    Law stock m.plan.first_number (trace calls (results room (λ k. k) size m ks calls)) after.0 after.1

-- a stock's values are tied to a pool and to the keys in use: distinct keys, each at the place where its value is loaded
abbrev pub Tied : {K : Type 0} → (K → List ℕ) → Model → List K → (List ℕ → Option Assignment) → Type 0
Tied meaning m ks stock = TiedTo (map meaning ks) (loads_in m) stock

-- the law of one run of calls, for the caller's own kind of key: it holds where the pool is as opened and the stock is tied to it
abbrev pub LawfulRun : {K : Type 0} → (K → List ℕ) → Model → List K → List (Call K) → List (Result Report Facts) → Model → List K → Type 0
LawfulRun meaning m ks calls told m' ks' =
    (stock : List ℕ → Option Assignment) → JustOpened m (loads_in m) → Tied meaning m ks stock →
    Law stock m.plan.first_number (trace (map (meant meaning) calls) told) m' (map meaning ks')

-- One turn of a run.
use Rattle.std.proofs.Common.{◌≡◌, ℕ, ◌+◌, ◌<◌, List, [], ◌∷◌, ◌++◌, map, length, get_or, drop, IfErr, Ok, Err, Result, sym, ap, ◌∙◌, append_assoc}
use Rattle.std.proofs.lemmas.List.{at_drop_more, map_push}
use Rattle.messages.specs.Refusals.{Facts}
use Rattle.transport.specs.Lanes.{Rule}
use Rattle.calls.specs.declared.reports.Report.{Report}
use Rattle.calls.specs.declared.call.Call.{Call}
use Rattle.calls.specs.declared.faults.Fault.{Fault}
use Rattle.calls.specs.Faults.{seen}
use Rattle.calls.specs.Model.{Model}
use Rattle.calls.specs.Zones.{Done}
use Rattle.calls.specs.Outcomes.{Outcome, done, called}
use Rattle.calls.specs.Runs.{results, after_run}
use Rattle.pool.specs.Pools.{done_keyless}

-- a call without a key leaves the register's keys
pub keyless : {K : Type 0} (m m' : Model) (ks : List K) (r : Result Report Facts) (x : Done) → (r, m') ≡ done_keyless m x → (r, m', ks) ≡ done m ks ks x
keyless {K} m m' ks r (Ok ch) e = ap (λ (p : Result Report Facts × Model). let o : Outcome K = (p.0, p.1, ks) in o) e
keyless {K} m m' ks r (Err f) e = ap (λ (p : Result Report Facts × Model). let o : Outcome K = (p.0, p.1, ks) in o) e

-- what a refusal leaves, with a fact that holds whatever the result
pub refused_also : {X Y : Type 0} (r : Result X Y) (P Q : Type 0) → IfErr r (λ _. P) → Q → IfErr r (λ _. P × Q)
refused_also (Ok x) P Q p q = tt
refused_also (Err y) P Q p q = (p, q)

module _ {K : Type 0} (room : Rule) (meaning : K → List ℕ) (size : ℕ) (m : Model) (ks : List K) (cs : List (Call K)) (i : ℕ) (x : Call K) (h : i < length cs) (is : x ≡ get_or cs i x) where
  -- the results so far and those to come, after a call that did as the rules say
  pub turn : (m' : Model) (ks' : List K) (r : Result Report Fault) (xs xs' : List (Result Report Fault))
      → xs' ≡ xs ++ r ∷ [] → (seen r, m', ks') ≡ called room meaning size m ks x
      → map seen xs' ++ results room meaning size m' ks' (drop (i + 1) cs) ≡ map seen xs ++ results room meaning size m ks (drop i cs)
  turn m' ks' r xs xs' p e =
      ap (λ (v : List (Result Report Fault)). map seen v ++ results room meaning size m' ks' (drop (i + 1) cs)) p
      ∙ ap (λ (v : List (Result Report Facts)). v ++ results room meaning size m' ks' (drop (i + 1) cs)) (map_push seen xs r)
      ∙ append_assoc (map seen xs) (seen r ∷ []) (results room meaning size m' ks' (drop (i + 1) cs))
      ∙ ap (λ (o : Outcome K). map seen xs ++ o.0 ∷ results room meaning size o.1 o.2 (drop (i + 1) cs)) e
      ∙ ap (λ (y : Call K). map seen xs ++ results room meaning size m ks (y ∷ drop (i + 1) cs)) is
      ∙ ap (λ (ys : List (Result Report Facts)). map seen xs ++ ys) (sym (at_drop_more (results room meaning size m ks) cs i x h))

  pub turn_after : (m' : Model) (ks' : List K) (r : Result Report Fault)
      → (seen r, m', ks') ≡ called room meaning size m ks x
      → after_run room meaning size m' ks' (drop (i + 1) cs) ≡ after_run room meaning size m ks (drop i cs)
  turn_after m' ks' r e =
      ap (λ (o : Outcome K). after_run room meaning size o.1 o.2 (drop (i + 1) cs)) e
      ∙ ap (λ (y : Call K). after_run room meaning size m ks (y ∷ drop (i + 1) cs)) is
      ∙ sym (at_drop_more (after_run room meaning size m ks) cs i x h)

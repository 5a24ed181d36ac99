-- A whole run, from what each of its parts promises.
use Rattle.std.proofs.Common.{◌≡◌, ℕ, List, [], map, None, Ok, Err, Option, Result, sym, ap, ◌∙◌, subst}
use Rattle.messages.specs.declared.assignments.Assignment.{Assignment}
use Rattle.messages.specs.Refusals.{Facts}
use Rattle.transport.specs.Lanes.{Rule}
use Rattle.rules.specs.declared.plan.Plan.{Plan}
use Rattle.calls.specs.declared.reports.Report.{Report}
use Rattle.calls.specs.declared.call.Call.{Call}
use Rattle.calls.specs.declared.stock.Stock.{Stock}
use Rattle.calls.specs.Model.{Model}
use Rattle.calls.specs.Runs.{results, after_run, meant, trace}
use Rattle.calls.specs.Law.{Law}
use Rattle.lawful.proofs.Lawful.{lawful}
use Rattle.lawful.proofs.Meanings.{results_meant, after_meant}
use Rattle.pool.specs.Stocks.{LoadOutcome, unloaded, load_all, loads_in, stock_values}
use Rattle.pool.specs.Laws.{LawfulWith, Tied, LawfulRun}
use Rattle.pool.specs.Whole.{Whole, calls_on, whole_run, Ran}
use Rattle.pool.proofs.Ties.{Stocked, StockedIn, unstocked, stocked_all}

-- the law of a run from a pool m, for the caller's own kind of key
module _ {K : Type 0} (room : Rule) (meaning : K → List ℕ) (size : ℕ) (m : Model) (ks : List K) (calls : List (Call K))
    (told : List (Result Report Facts)) (is : told ≡ results room meaning size m ks calls) (last : Model × List K) (ends : last ≡ after_run room meaning size m ks calls) where
  abbrev asked : List (Call (List ℕ))
  asked = map (meant meaning) calls

  pub keyed_law : (stock : List ℕ → Option Assignment) → Tied meaning m ks stock → LawfulWith room m (loads_in m) → Law stock m.plan.first_number (trace asked told) last.0 (map meaning last.1)
  keyed_law stock tied every =
      let first : Law stock m.plan.first_number (trace asked (results room (λ k. k) size m (map meaning ks) asked)) (after_run room (λ k. k) size m (map meaning ks) asked).0 (after_run room (λ k. k) size m (map meaning ks) asked).1
      = every size (map meaning ks) stock tied asked in
      let with_results : Law stock m.plan.first_number (trace asked told) (after_run room (λ k. k) size m (map meaning ks) asked).0 (after_run room (λ k. k) size m (map meaning ks) asked).1
      = subst (λ (rs : List (Result Report Facts)). Law stock m.plan.first_number (trace asked rs) (after_run room (λ k. k) size m (map meaning ks) asked).0 (after_run room (λ k. k) size m (map meaning ks) asked).1) (sym (is ∙ results_meant meaning room size m ks calls)) first in
      subst (λ (q : Model × List (List ℕ)). Law stock m.plan.first_number (trace asked told) q.0 q.1) (sym (ap (λ (q : Model × List K). let p : Model × List (List ℕ) = (q.0, map meaning q.1) in p) ends ∙ after_meant meaning room size m ks calls)) with_results

  -- from the opening on
  pub lawful_run : LawfulRun meaning m ks calls told last.0 last.1
  lawful_run stock opened tied = keyed_law stock tied (lawful room m (loads_in m) opened)

module _ {K : Type 0} (room : Rule) (meaning : K → List ℕ) (plan : Plan) (size : ℕ) (stock : List (Stock K)) (calls : List (Call K))
    (m : Model) (ks : List K) (loaded : (Ok tt, m, ks) ≡ load_all meaning size (unloaded plan) [] stock) where
  stocked : Stocked plan m (map meaning ks) (stock_values meaning stock)
  stocked = subst (λ (o : LoadOutcome K). StockedIn meaning size plan o (stock_values meaning stock)) (sym loaded) (stocked_all meaning size plan stock (unloaded plan) [] (λ key. None) (unstocked plan))

  module _ (told : List (Result Report Facts)) (is : told ≡ results room meaning size m ks calls) (last : Model × List K) (ends : last ≡ after_run room meaning size m ks calls) where
    rules : (Ok told, last.0, last.1) ≡ whole_run room meaning plan size stock calls
    rules =
        ap (λ (rs : List (Result Report Facts)). let o : Whole K = (Ok rs, last.0, last.1) in o) is
        ∙ ap (λ (q : Model × List K). let o : Whole K = (Ok (results room meaning size m ks calls), q.0, q.1) in o) ends
        ∙ ap (calls_on room meaning size calls) loaded

    law : LawfulWith room m (loads_in m) → Law (stock_values meaning stock) plan.first_number (trace (map (meant meaning) calls) told) last.0 (map meaning last.1)
    law every =
        subst (λ (p : Plan). Law (stock_values meaning stock) p.first_number (trace (map (meant meaning) calls) told) last.0 (map meaning last.1)) stocked.planned
        (keyed_law room meaning size m ks calls told is last ends (stock_values meaning stock) stocked.tied every)

    pub ran : LawfulWith room m (loads_in m) → Ran room meaning plan size stock calls told
    ran every = record { pool = last.0; keys = last.1; by_rules = rules; by_law = law every }

-- a stock that is refused
pub refused_stock : {K : Type 0} (room : Rule) (meaning : K → List ℕ) (plan : Plan) (size : ℕ) (stock : List (Stock K)) (calls : List (Call K)) (f : Facts) (m : Model) (ks : List K) → (Err f, m, ks) ≡ load_all meaning size (unloaded plan) [] stock → (whole_run room meaning plan size stock calls).0 ≡ Err f
refused_stock {K} room meaning plan size stock calls f m ks e = sym (ap (λ (o : LoadOutcome K). (calls_on room meaning size calls o).0) e)

-- a fresh register and a fresh pool
pub from_fresh : {K : Type 0} (meaning : K → List ℕ) (stock : List (Stock K)) (size size' : ℕ) (m m' : Model) (ks ks' : List K) → size ≡ size' → m ≡ m' → ks ≡ ks'
    → load_all meaning size m ks stock ≡ load_all meaning size' m' ks' stock
from_fresh meaning stock size size' m m' ks ks' p q r = cc

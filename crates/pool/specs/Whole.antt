-- A whole run: the stock is loaded, the pool is opened, and the calls are made one after the other.
use Rattle.std.specs.Prelude.{◌≡◌, ℕ, List, [], map, Some, None, Ok, Err, Option, Result}
use Rattle.messages.specs.Refusals.{Facts}
use Rattle.transport.specs.Lanes.{Rule}
use Rattle.rules.specs.declared.plan.Plan.{Plan}
use Rattle.calls.specs.declared.reports.Report.{Report}
use Rattle.calls.specs.declared.call.Call.{Call}
use Rattle.calls.specs.declared.stock.Stock.{Stock}
use Rattle.calls.specs.Faults.{facts_of}
use Rattle.calls.specs.Model.{Model}
use Rattle.calls.specs.Runs.{results, after_run, meant, trace}
use Rattle.calls.specs.Law.{Law}
use Rattle.pool.specs.declared.running.RunFault.{RunFault}
use Rattle.pool.specs.declared.running.RunFault.TheVariants.{Memory, Pool}
use Rattle.pool.specs.Stocks.{LoadOutcome, unloaded, load_all, stock_values}

-- what stopped a run: the facts of the stock's refusal, or none where memory was wanting
abbrev pub stop_facts : RunFault → Option Facts
stop_facts Memory = None
stop_facts (Pool f) = Some (facts_of f)

-- the results of the calls or the stock's refusal, and the pool and the keys in use at the end
abbrev pub Whole : Type 0 → Type 0
Whole K = Result (List (Result Report Facts)) Facts × Model × List K

module _ {K : Type 0} where
  -- the calls on a pool that was loaded; a refusal of the stock ends the run before the first call
  abbrev pub calls_on : Rule → (K → List ℕ) → ℕ → List (Call K) → LoadOutcome K → Whole K
  calls_on room meaning size calls (Ok u, m, ks) =
      let after = after_run room meaning size m ks calls in
      (Ok (results room meaning size m ks calls), after.0, after.1)
  calls_on room meaning size calls (Err f, m, ks) = (Err f, m, ks)

  -- the stock, then the calls
  abbrev pub whole_run : Rule → (K → List ℕ) → Plan → ℕ → List (Stock K) → List (Call K) → Whole K
  whole_run room meaning plan size stock calls = calls_on room meaning size calls (load_all meaning size (unloaded plan) [] stock)

  -- the results told are those of the rules, and with the pool at the end they obey the law: an onlooker who knows the stock never objects
  pub record Ran (room : Rule) (meaning : K → List ℕ) (plan : Plan) (size : ℕ) (stock : List (Stock K)) (calls : List (Call K)) (told : List (Result Report Facts)) : Type 0 where
    pub pool : Model
    pub keys : List K
    pub by_rules : (Ok told, pool, keys) ≡ whole_run room meaning plan size stock calls
    pub by_law : Law (stock_values meaning stock) plan.first_number (trace (map (meant meaning) calls) told) pool (map meaning keys)

  -- a refusal of the stock is that of the rules; want of memory comes before anything is done
  abbrev pub StoppedBy : Rule → (K → List ℕ) → Plan → ℕ → List (Stock K) → List (Call K) → Option Facts → Type 0
  StoppedBy room meaning plan size stock calls None = Unit {0}
  StoppedBy room meaning plan size stock calls (Some f) = (whole_run room meaning plan size stock calls).0 ≡ Err f

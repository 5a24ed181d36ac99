-- One turn of loading.
use Rattle.std.proofs.Common.{◌≡◌, ℕ, ◌+◌, ◌<◌, List, ◌∷◌, length, get_or, drop, Ok, Err, Result, sym, ap, ◌∙◌}
use Rattle.std.proofs.lemmas.List.{at_drop_more}
use Rattle.calls.specs.declared.stock.Stock.{Stock}
use Rattle.calls.specs.declared.faults.Fault.{Fault}
use Rattle.calls.specs.Faults.{facts_of, seen}
use Rattle.calls.specs.Model.{Model}
use Rattle.pool.specs.Stocks.{LoadOutcome, load_one, load_all, then_load}

module _ {K : Type 0} (meaning : K → List ℕ) (size : ℕ) (m : Model) (ks : List K) (xs : List (Stock K)) (i : ℕ) (x : Stock K) (h : i < length xs) (is : x ≡ get_or xs i x) (m' : Model) (ks' : List K) (r : Result (Unit {0}) Fault) (e : (seen r, m', ks') ≡ load_one meaning size m ks x) where
  -- the load of this turn, and then the rest of the stock
  here : then_load (seen r, m', ks') (λ n ls. load_all meaning size n ls (drop (i + 1) xs)) ≡ load_all meaning size m ks (drop i xs)
  here =
      ap (λ (o : LoadOutcome K). then_load o (λ n ls. load_all meaning size n ls (drop (i + 1) xs))) e
      ∙ ap (λ (y : Stock K). load_all meaning size m ks (y ∷ drop (i + 1) xs)) is
      ∙ sym (at_drop_more (load_all meaning size m ks) xs i x h)

  pub goes_on : r ≡ Ok tt → load_all meaning size m' ks' (drop (i + 1) xs) ≡ load_all meaning size m ks (drop i xs)
  goes_on ok = ap (λ (y : Result (Unit {0}) Fault). then_load (seen y, m', ks') (λ n ls. load_all meaning size n ls (drop (i + 1) xs))) (sym ok) ∙ here

  pub ends : (f : Fault) → r ≡ Err f → (Err (facts_of f), m', ks') ≡ load_all meaning size m ks (drop i xs)
  ends f err = ap (λ (y : Result (Unit {0}) Fault). then_load (seen y, m', ks') (λ n ls. load_all meaning size n ls (drop (i + 1) xs))) (sym err) ∙ here

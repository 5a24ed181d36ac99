-- What holds at each place of a list that is set at one place, or that has one item throughout.
use Rattle.std.proofs.Common.{◌≡◌, ℕ, ◌<◌, ◌≤◌, List, length, get_or, set, replicate, ⊎_elim, arith}
use Rattle.std.proofs.lemmas.List.{length-set, length-replicate, get_or-set_same, get_or-set_other, get_or_past, get_or-replicate}
use Rattle.std.proofs.lemmas.Bool.{cases_lt, cases_eq}

module _ {X : Type 0} (P : X → Type 0) where
  pub set_each : (xs : List X) (at : ℕ) (x d : X) → P x → ((k : ℕ) → P (get_or xs k d)) → (k : ℕ) → P (get_or (set xs at x) k d)
  set_each xs at x d new old k = ⊎_elim
      (λ (same : k ≡ at). ⊎_elim
      (λ (l : at < length xs). rw (same, get_or-set_same xs at x d l) new)
      (λ (l : length xs ≤ at). let past : length (set xs at x) ≤ k = simp length-set (omega arith) in
      rw (get_or_past (set xs at x) k d past) (rw (get_or_past xs k d (omega arith)) at (old k)))
      (cases_lt at (length xs)))
      (λ (ne : k ≡ at → ⊥). rw (get_or-set_other xs at k x d ne) (old k))
      (cases_eq k at)

  pub replicate_each : (n : ℕ) (x d : X) → P x → P d → (k : ℕ) → P (get_or (replicate n x) k d)
  replicate_each n x d item default k = ⊎_elim
      (λ (l : k < n). rw (get_or-replicate n k x d l) item)
      (λ (l : n ≤ k). let past : length (replicate n x) ≤ k = simp length-replicate (omega arith) in rw (get_or_past (replicate n x) k d past) default)
      (cases_lt k n)

-- What is written of the lent row: only the places of keys that came into use.
use Rattle.std.proofs.Common.{◌≡◌, ℕ, ◌+◌, ◌-◌, ◌≤◌, List, ◌++◌, length, drop, sym, refl, ap, ◌∙◌, arith, take-append-drop}
use Rattle.std.proofs.lemmas.List.{length-take-le, drop-drop}
use Rattle.keys.specs.declared.key.Key.{Ghosts}
use Rattle.keys.specs.declared.register.Register.{Register}
use Rattle.keys.specs.Registers.{row_of, in_use, RowKept}

module _ {K : Type 0} where
  drop_more : (n m : ℕ) (xs ys : List K) → n ≤ m → drop n xs ≡ drop n ys → drop m xs ≡ drop m ys
  drop_more n m xs ys h e =
      let sum : n + (m - n) ≡ m = omega arith in
      ap (λ (k : ℕ). drop k xs) (sym sum) ∙ sym (drop-drop (m - n) n xs) ∙ ap (drop (m - n)) e ∙ drop-drop (m - n) n ys ∙ ap (λ (k : ℕ). drop k ys) sum

  pub row_kept_same : {key : Ghosts K} (r : Register K key) → RowKept r r
  row_kept_same r = record { lender = refl; len = refl; grows = omega arith; rest = refl }

  pub row_kept_twice : {key : Ghosts K} (a b c : Register K key) → RowKept a b → RowKept b c → RowKept a c
  row_kept_twice a b c p q =
      record {
        lender = q.lender ∙ p.lender;
        len = q.len ∙ p.len;
        grows = omega (arith, p.grows, q.grows);
        rest = q.rest ∙ drop_more (length (in_use b)) (length (in_use c)) (row_of b) (row_of a) q.grows p.rest;
      }

  -- the whole row after a call: the keys in use, then the rest as it was
  pub row_filled : {key : Ghosts K} (a b : Register K key) → RowKept a b → row_of b ≡ in_use b ++ drop (length (in_use b)) (row_of a)
  row_filled a b p =
      sym (take-append-drop b.used (row_of b))
      ∙ ap (λ (n : ℕ). in_use b ++ drop n (row_of b)) (sym (length-take-le b.used (row_of b) b.within))
      ∙ ap (λ (xs : List K). in_use b ++ xs) p.rest

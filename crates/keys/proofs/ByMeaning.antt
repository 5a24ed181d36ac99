-- Places depend on keys by their meanings only: each definition at keys is the same at the list of their meanings.
use Rattle.std.proofs.Common.{◌≡◌, ℕ, ◌+◌, Bool, true, false, cond, ltb, List, [], ◌∷◌, ◌++◌, map, length, Some, None, Option, sym, refl, ap, ◌∙◌}
use Rattle.std.proofs.lemmas.List.{length-map, map_push}
use Rattle.keys.specs.Places.{same_meaning, first_from, place_of, known_or_next, place_given, keys_with, keys_after}

module _ {K : Type 0} (m : K → List ℕ) where
  first_from_lem : (key : K) (n : ℕ) (ks : List K) → first_from (λ k. same_meaning m k key) n ks ≡ first_from (λ w. same_meaning (λ x. x) w (m key)) n (map m ks)
  first_from_lem key n [] = refl
  first_from_lem key n (k ∷ ks) = ap (λ (o : Option ℕ). cond (same_meaning m k key) (Some n) o) (first_from_lem key (n + 1) ks)

  pub place_by_meaning : (key : K) (ks : List K) → place_of m ks key ≡ place_of (λ w. w) (map m ks) (m key)
  place_by_meaning key ks = first_from_lem key 0 ks

  pub given_by_meaning : (key : K) (size : ℕ) (ks : List K) → place_given m ks size key ≡ place_given (λ w. w) (map m ks) size (m key)
  given_by_meaning key size ks =
      ap (λ (o : Option ℕ). known_or_next o (length ks) size) (place_by_meaning key ks)
      ∙ ap (λ (n : ℕ). known_or_next (place_of (λ w. w) (map m ks) (m key)) n size) (sym (length-map ks m))

  map_cond : (b : Bool) (xs ys : List K) → map m (cond b xs ys) ≡ cond b (map m xs) (map m ys)
  map_cond true xs ys = refl
  map_cond false xs ys = refl

  with_by_meaning : (o : Option ℕ) (key : K) (size : ℕ) (ks : List K) → map m (keys_with o ks size key) ≡ keys_with o (map m ks) size (m key)
  with_by_meaning (Some i) key size ks = refl
  with_by_meaning None key size ks =
      map_cond (ltb (length ks) size) (ks ++ key ∷ []) ks
      ∙ ap (λ (ws : List (List ℕ)). cond (ltb (length ks) size) ws (map m ks)) (map_push m ks key)
      ∙ ap (λ (n : ℕ). cond (ltb n size) (map m ks ++ m key ∷ []) (map m ks)) (sym (length-map ks m))

  pub after_by_meaning : (key : K) (size : ℕ) (ks : List K) → map m (keys_after m ks size key) ≡ keys_after (λ w. w) (map m ks) size (m key)
  after_by_meaning key size ks =
      with_by_meaning (place_of m ks key) key size ks ∙ ap (λ (o : Option ℕ). keys_with o (map m ks) size (m key)) (place_by_meaning key ks)

-- The promises on places, proved for every list of keys and every meaning.
use Rattle.std.proofs.Common.{◌≡◌, ℕ, ◌+◌, ◌<◌, ◌≤◌, Bool, true, false, cond, ltb, List, [], ◌∷◌, ◌++◌, map, length, get_or, take, set, Some, None, Option, sym, refl, ap, subst, ◌∙◌, ⊎_elim, arith}
use Rattle.std.proofs.lemmas.Slice.Eq.{bytes_eq-Decides}
use Rattle.std.proofs.lemmas.Bool.Decides.{not_from_Decides}
use Rattle.std.proofs.lemmas.Bool.{cases_lt, cond_both, cond_below}
use Rattle.std.proofs.lemmas.List.{get_or-map, length_push, length-map, map_push, get_or_push, get_or_append_left, take_more_set, take-set}
use Rattle.std.proofs.lemmas.List.Quantifiers.{position-Some}
use Rattle.std.proofs.lemmas.List.Sums.{fails_before_first}
use Rattle.std.proofs.lemmas.Option.{none-some}
use Rattle.std.proofs.lemmas.Iterator.Adapters.{position_from-zero}
use Rattle.std.specs.List.{position_or_len}
use Rattle.keys.specs.Places.{same_meaning, first_from, place_of, keys_with, keys_after}
use Rattle.keys.specs.Promises.{meaning_at, Apart, SamePlaceSameMeaning, OwnPlaces, PlacesStay}

module _ {K : Type 0} (m : K → List ℕ) (key : K) where
  abbrev alike : K → Bool
  alike k = same_meaning m k key

  means_at : (ks : List K) (i : ℕ) → i < length ks → meaning_at m ks i ≡ m (get_or ks i key)
  means_at ks i h = get_or-map m ks i key [] h

  -- the key in use at the place that is found means the same
  found : (ks : List K) (i : ℕ) → place_of m ks key ≡ Some i → (i < length ks) × (meaning_at m ks i ≡ m key)
  found ks i e =
      let p = position-Some alike ks i key (position_from-zero alike ks ∙ e) in
      (p.0, means_at ks i p.0 ∙ (bytes_eq-Decides (m (get_or ks i key)) (m key)).0 p.1)

  -- where none is found, no key in use means the same
  missing : (ks : List K) → place_of m ks key ≡ None → (j : ℕ) → j < length ks → meaning_at m ks j ≡ m key → ⊥
  missing ks e j h w =
      let first = position_or_len alike ks in
      let all : length ks ≤ first = ⊎_elim (λ l. absurd (none-some first (sym (cond_below first (length ks) (Some first) None l ∙ position_from-zero alike ks ∙ e)))) (λ l. l) (cases_lt first (length ks)) in
      not_from_Decides _ (bytes_eq-Decides (m (get_or ks j key)) (m key)) (fails_before_first alike ks j key (omega (arith, all))) (sym (means_at ks j h) ∙ w)

  -- keys that come after change no place found
  longer_here : (n i : ℕ) (b : Bool) (x y : Option ℕ) → cond b (Some n) x ≡ Some i → (x ≡ Some i → y ≡ Some i) → cond b (Some n) y ≡ Some i
  longer_here n i true x y e ih = e
  longer_here n i false x y e ih = ih e

  longer : (n i : ℕ) (ks more : List K) → first_from alike n ks ≡ Some i → first_from alike n (ks ++ more) ≡ Some i
  longer n i [] more e = let z : ◌≡◌ {A = ℕ} 0 1 = cc in absurd (omega arith)
  longer n i (k ∷ ks) more e = longer_here n i (alike k) _ _ e (longer (n + 1) i ks more)

  -- what holds of the keys in use, and with a new key added, holds of the keys after
  after_here : (P : List K → Type 0) (ks : List K) (size : ℕ) (o : Option ℕ) → place_of m ks key ≡ o → P ks → (place_of m ks key ≡ None → P (ks ++ key ∷ [])) → P (keys_with o ks size key)
  after_here P ks size (Some i) e old new = old
  after_here P ks size None e old new = cond_both (ltb (length ks) size) (ks ++ key ∷ []) ks P (λ _. new e) (λ _. old)

  pub after : (P : List K → Type 0) (ks : List K) (size : ℕ) → P ks → (place_of m ks key ≡ None → P (ks ++ key ∷ [])) → P (keys_after m ks size key)
  after P ks size old new = after_here P ks size (place_of m ks key) refl old new

module _ {K : Type 0} (m : K → List ℕ) where
  -- the key in use at the place of a key means the same
  pub place_means : (key : K) (ks : List K) (i : ℕ) → place_of m ks key ≡ Some i → (i < length ks) × (meaning_at m ks i ≡ m key)
  place_means key ks i e = found m key ks i e

  pub same_place_same_meaning : (ks : List K) → SamePlaceSameMeaning m ks
  unfolding SamePlaceSameMeaning
  same_place_same_meaning ks a b i j p q = (
    λ e. sym (place_means a ks i p).1 ∙ ap (meaning_at m ks) e ∙ (place_means b ks j q).1,
    λ e. let t : place_of m ks a ≡ place_of m ks b = ap (λ w. first_from (λ k. same_meaning (λ x. x) (m k) w) 0 ks) e in cc,
  )

  -- a key in use is found, at no other place than its own
  own_here : (ks : List K) → Apart m ks → (key : K) (i : ℕ) → i < length ks → meaning_at m ks i ≡ m key → (o : Option ℕ) → place_of m ks key ≡ o → o ≡ Some i
  unfolding Apart
  own_here ks apart key i h w None e = absurd (missing m key ks e i h w)
  own_here ks apart key i h w (Some j) e =
      let p = place_means key ks j e in
      ap (λ n. Some n) (apart j i p.0 h (p.1 ∙ sym w))

  pub own_places : (ks : List K) → Apart m ks → OwnPlaces m ks
  unfolding OwnPlaces
  own_places ks apart key i h w = own_here ks apart key i h w (place_of m ks key) refl

  pub places_stay : (ks : List K) (size : ℕ) (new : K) → PlacesStay m ks (keys_after m ks size new)
  unfolding PlacesStay
  places_stay ks size new key i e = after m new (λ after. place_of m after key ≡ Some i) ks size e (λ _. longer m key 0 i ks (new ∷ []) e)

  -- what the keys mean with one more at the end
  means_before : (ks : List K) (new : K) (i : ℕ) → i < length ks → meaning_at m (ks ++ new ∷ []) i ≡ meaning_at m ks i
  means_before ks new i h = let l : i < length (map m ks) = simp length-map h in rw map_push (get_or_append_left (map m ks) (m new ∷ []) [] i l)

  means_last : (ks : List K) (new : K) (i : ℕ) → i ≡ length ks → meaning_at m (ks ++ new ∷ []) i ≡ m new
  means_last ks new i e = rw map_push (get_or_push (map m ks) (m new) [] i (length-map ks m ∙ sym e))

  apart_push : (ks : List K) (new : K) → Apart m ks → place_of m ks new ≡ None → Apart m (ks ++ new ∷ [])
  unfolding Apart
  apart_push ks new apart none i j hi hj e =
      let li : i < length ks + 1 = simp length_push at hi in
      let lj : j < length ks + 1 = simp length_push at hj in
      ⊎_elim
      (λ bi. ⊎_elim
      (λ bj. apart i j bi bj (sym (means_before ks new i bi) ∙ e ∙ means_before ks new j bj))
      (λ aj. absurd (missing m new ks none i bi (sym (means_before ks new i bi) ∙ e ∙ means_last ks new j (omega arith))))
      (cases_lt j (length ks)))
      (λ ai. ⊎_elim
      (λ bj. absurd (missing m new ks none j bj (sym (means_before ks new j bj) ∙ sym e ∙ means_last ks new i (omega arith))))
      (λ aj. omega arith)
      (cases_lt j (length ks)))
      (cases_lt i (length ks))

  pub stays_apart : (ks : List K) (size : ℕ) (new : K) → Apart m ks → Apart m (keys_after m ks size new)
  stays_apart ks size new apart = after m new (Apart m) ks size apart (apart_push ks new apart)

  -- with a new key written behind the keys in use, these stay apart, with the new one and without it
  pub apart_behind : (row : List K) (used n : ℕ) (new : K) → used ≤ n → n ≤ used + 1 → used < length row → None ≡ place_of m (take used row) new → Apart m (take used row) → Apart m (take n (set row used new))
  apart_behind row used n new low high h none apart = ⊎_elim
      (λ (more : used < n).
      let is : used + 1 ≡ n = omega arith in
      let pushed = sym (take_more_set row used new h) ∙ ap (λ (k : ℕ). take k (set row used new)) is in
      subst (Apart m) pushed (apart_push (take used row) new apart (sym none)))
      (λ (same : n ≤ used).
      let is : used ≡ n = omega arith in
      subst (Apart m) (sym (take-set row used new) ∙ ap (λ (k : ℕ). take k (set row used new)) is) apart)
      (cases_lt used n)

  pub stay_more : (row : List K) (used : ℕ) (new : K) → used < length row → PlacesStay m (take used row) (take (used + 1) (set row used new))
  unfolding PlacesStay
  stay_more row used new h key i e = rw (take_more_set row used new h) (longer m key 0 i (take used row) (new ∷ []) e)

  pub stay_same : (ks : List K) → PlacesStay m ks ks
  unfolding PlacesStay
  stay_same ks key i e = e

  pub apart_none : Apart m []
  unfolding Apart
  apart_none i j hi hj e = omega arith

-- what `Register::add` promises beside its place and its keys
pub ruleset adding = (same_place_same_meaning, own_places, stay_more, stay_same)

-- The places of keys, where a key is its own meaning: a list of numbers.
use Rattle.std.proofs.Common.{◌≡◌, ℕ, zero, suc, ◌+◌, ◌<◌, Bool, true, false, cond, ltb, List, [], ◌∷◌, ◌++◌, length, get_or, Some, None, Option, refl, ap, ◌∙◌, ⊎_elim, arith}
use Rattle.std.specs.Str.{bytes_eq}
use Rattle.std.proofs.lemmas.Slice.Eq.{bytes_eq-Decides}
use Rattle.std.proofs.lemmas.List.{map-id}
use Rattle.std.proofs.lemmas.Option.{slice_get-get_or, slice_get_past}
use Rattle.std.proofs.lemmas.Bool.{cases_lt}
use Rattle.std.proofs.lemmas.Bool.Decides.{not_from_Decides}
use Rattle.keys.specs.Places.{first_from, place_of, known_or_next, place_given, keys_with, keys_after, key_at}
use Rattle.keys.specs.Promises.{Apart, OwnPlaces}
use Rattle.keys.proofs.Promises.{place_means, own_places, stays_apart}

abbrev Key : Type 0
Key = List ℕ

-- ── one key ──

pub same_key : (a b : List ℕ) → bytes_eq a b ≡ true → a ≡ b
same_key a b = (bytes_eq-Decides a b).0

pub other_key : (a b : List ℕ) → bytes_eq a b ≡ false → a ≡ b → ⊥
other_key a b = not_from_Decides (bytes_eq a b) (bytes_eq-Decides a b)

pub key_itself : (a : List ℕ) → bytes_eq a a ≡ true
key_itself a = (bytes_eq-Decides a a).1 refl

-- ── a key in use and its place ──

-- what stands at a place, by its number
pub at_within : (ks : List Key) (key : Key) (p : ℕ) → key_at ks p ≡ Some key → p < length ks
at_within ks key p e =
    ⊎_elim
    (λ h. h)
    (λ h. let n = slice_get_past ks p h in let z : ◌≡◌ {A = ℕ} 0 1 = cc in absurd (omega arith))
    (cases_lt p (length ks))

pub at_means : (ks : List Key) (key : Key) (p : ℕ) → key_at ks p ≡ Some key → get_or ks p [] ≡ key
at_means ks key p e = let n = slice_get-get_or ks p [] (at_within ks key p e) in cc

place_reads : (ks : List Key) (key : Key) (p : ℕ) → place_of (λ k. k) ks key ≡ Some p → get_or ks p [] ≡ key
place_reads ks key p e = rw map-id at (place_means (λ k. k) key ks p e).1

pub place_below_length : (ks : List (List ℕ)) (key : List ℕ) (p : ℕ) → place_of (λ k. k) ks key ≡ Some p → p < length ks
place_below_length ks key p e = (place_means (λ k. k) key ks p e).0

pub place_is_at : (ks : List (List ℕ)) (key : List ℕ) (p : ℕ) → place_of (λ k. k) ks key ≡ Some p → key_at ks p ≡ Some key
place_is_at ks key p e = slice_get-get_or ks p [] (place_below_length ks key p e) ∙ ap (λ (k : Key). Some k) (place_reads ks key p e)

pub at_is_place : (ks : List (List ℕ)) (key : List ℕ) (p : ℕ) → Apart (λ k. k) ks → key_at ks p ≡ Some key → place_of (λ k. k) ks key ≡ Some p
unfolding OwnPlaces
at_is_place ks key p apart e = own_places (λ k. k) ks apart key p (at_within ks key p e) (rw map-id (at_means ks key p e))

-- ── a key that has no place ──

nowhere_here : (n : ℕ) (k key : Key) (ks : List Key) (b : Bool) → bytes_eq k key ≡ b → cond b (Some n) (first_from (λ k. bytes_eq k key) (n + 1) ks) ≡ None → (first_from (λ k. bytes_eq k key) (n + 1) ks ≡ None → (p : ℕ) → key_at ks p ≡ Some key → ⊥) → (p : ℕ) → key_at (k ∷ ks) p ≡ Some key → ⊥
nowhere_here n k key ks true t e ih p at = let z : ◌≡◌ {A = ℕ} 0 1 = cc in omega arith
nowhere_here n k key ks false t e ih zero at = let is : k ≡ key = cc in other_key k key t is
nowhere_here n k key ks false t e ih (suc p) at = ih e p at

nowhere_from : (n : ℕ) (ks : List Key) (key : Key) → first_from (λ k. bytes_eq k key) n ks ≡ None → (p : ℕ) → key_at ks p ≡ Some key → ⊥
nowhere_from n [] key e p at = let z : ◌≡◌ {A = ℕ} 0 1 = cc in omega arith
nowhere_from n (k ∷ ks) key e p at = nowhere_here n k key ks (bytes_eq k key) refl e (nowhere_from (n + 1) ks key) p at

pub unknown_is_nowhere : (ks : List (List ℕ)) (key : List ℕ) → place_of (λ k. k) ks key ≡ None → (p : ℕ) → key_at ks p ≡ Some key → ⊥
unknown_is_nowhere ks key e p at = nowhere_from 0 ks key e p at

-- ── a key added ──

pub data Given (ks : List (List ℕ)) (size : ℕ) (key : List ℕ) (p : ℕ) : Type 0 where
  known : place_of (λ k. k) ks key ≡ Some p → keys_after (λ k. k) ks size key ≡ ks → Given ks size key p
  next : place_of (λ k. k) ks key ≡ None → p ≡ length ks → keys_after (λ k. k) ks size key ≡ ks ++ key ∷ [] → Given ks size key p

pub apart_after : (ks : List (List ℕ)) (size : ℕ) (key : List ℕ) → Apart (λ k. k) ks → Apart (λ k. k) (keys_after (λ k. k) ks size key)
apart_after ks size key apart = stays_apart (λ k. k) ks size key apart

given_by : (ks : List Key) (size : ℕ) (key : Key) (p : ℕ) (o : Option ℕ) (b : Bool) → place_of (λ k. k) ks key ≡ o → ltb (length ks) size ≡ b → known_or_next o (length ks) size ≡ Some p → Given ks size key p
given_by ks size key p (Some i) b e t g =
    let is : i ≡ p = cc in
    known (rw (← is) e) (ap (λ (o : Option ℕ). keys_with o ks size key) e)
given_by ks size key p None true e t g =
    let is : p ≡ length ks = (let c : cond true (Some (length ks)) None ≡ Some p = (rw t at g) in cc) in
    next e is (ap (λ (o : Option ℕ). keys_with o ks size key) e ∙ ap (λ (b : Bool). cond b (ks ++ key ∷ []) ks) t)
given_by ks size key p None false e t g =
    let c : None ≡ Some p = (rw t at g) in
    let z : ◌≡◌ {A = ℕ} 0 1 = cc in absurd (omega arith)

pub given : (ks : List (List ℕ)) (size : ℕ) (key : List ℕ) (p : ℕ) → place_given (λ k. k) ks size key ≡ Some p → Given ks size key p
given ks size key p g = given_by ks size key p (place_of (λ k. k) ks key) (ltb (length ks) size) refl refl g

pub key_at_push_last : (ks : List (List ℕ)) (key : List ℕ) (p : ℕ) → p ≡ length ks → key_at (ks ++ key ∷ []) p ≡ Some key
key_at_push_last [] key zero e = refl
key_at_push_last [] key (suc p) e = absurd (omega arith)
key_at_push_last (k ∷ ks) key zero e = absurd (omega arith)
key_at_push_last (k ∷ ks) key (suc p) e = key_at_push_last ks key p (omega arith)

pub key_at_push_before : (ks : List (List ℕ)) (key : List ℕ) (p : ℕ) → (p ≡ length ks → ⊥) → key_at (ks ++ key ∷ []) p ≡ key_at ks p
key_at_push_before [] key zero h = absurd (h refl)
key_at_push_before [] key (suc p) h = refl
key_at_push_before (k ∷ ks) key zero h = refl
key_at_push_before (k ∷ ks) key (suc p) h = key_at_push_before ks key p (λ e. h (omega arith))

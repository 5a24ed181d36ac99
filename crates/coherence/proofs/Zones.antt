-- Zones compared, and lists of zones.
use Rattle.std.proofs.Common.{◌≡◌, ℕ, Bool, true, false, cond, not, eqb, ltb, List, [], ◌∷◌, Some, None, sym, refl, ap, ◌∙◌, subst, arith}
use mathlib.Core.Bool.{false≢true}
use Rattle.std.proofs.lemmas.Bool.{eqb-true, eqb-false, eq-eqb, ne_eqb}
use Rattle.directory.specs.Lists.{listed, without}

-- ── zones ──

pub same : (z : ℕ) → eqb z z ≡ true
same z = eq-eqb z z refl

pub are_equal : {y z : ℕ} → eqb y z ≡ true → y ≡ z
are_equal {y} {z} e = eqb-true y z e

pub data Apart (y z : ℕ) : Type 0 where
  equal : y ≡ z → Apart y z
  apart : eqb y z ≡ false → Apart y z

pub compare_zones : (y z : ℕ) → Apart y z
compare_zones y z = go (eqb y z) refl
  where
    go : (b : Bool) → eqb y z ≡ b → Apart y z
    go true e = equal (are_equal e)
    go false e = apart e

pub flip : (y z : ℕ) → eqb y z ≡ false → eqb z y ≡ false
flip y z n = ne_eqb z y (λ e. eqb-false y z n (sym e))

-- a zone below 8 is no zone above 7
pub beyond_apart : (y z : ℕ) → ltb z 8 ≡ true → ltb y 8 ≡ false → eqb y z ≡ false
beyond_apart y z a b = ne_eqb y z (λ e. false≢true (sym b ∙ rw e a))

-- what holds at one zone and at all others holds everywhere
pub everywhere : (P : ℕ → Type 0) (z : ℕ) → P z → ((y : ℕ) → eqb y z ≡ false → P y) → (y : ℕ) → P y
everywhere P z h f y = go (compare_zones y z)
  where
    go : Apart y z → P y
    go (equal e) = subst P (sym e) h
    go (apart n) = f y n

pub clash_some : {A : Type 0} {x : A} → Some x ≡ None → ⊥
clash_some e = let z : ◌≡◌ {A = ℕ} 0 1 = cc in omega arith

-- ── lists ──

pub struck_off : (z : ℕ) (xs : List ℕ) → listed (without z xs) z ≡ false
struck_off z [] = refl
struck_off z (x ∷ xs) = go (eqb x z) refl (struck_off z xs)
  where
    go : (b : Bool) → eqb x z ≡ b → listed (without z xs) z ≡ false → listed (cond (not b) (x ∷ without z xs) (without z xs)) z ≡ false
    go true e h = h
    go false e h = rw e h

pub others_listed : (y z : ℕ) (xs : List ℕ) → eqb y z ≡ false → listed (without z xs) y ≡ listed xs y
others_listed y z [] n = refl
others_listed y z (x ∷ xs) n = go (eqb x z) refl (others_listed y z xs n)
  where
    go : (b : Bool) → eqb x z ≡ b → listed (without z xs) y ≡ listed xs y → listed (cond (not b) (x ∷ without z xs) (without z xs)) y ≡ listed (x ∷ xs) y
    go true e h = let m : eqb x y ≡ false = rw (are_equal e) (flip y z n) in rw m h
    go false e h = ap (λ b. cond (eqb x y) true b) h

-- where striking x off leaves nothing nobody else is listed
pub none_else : (x y : ℕ) (xs : List ℕ) → eqb y x ≡ false → without x xs ≡ [] → listed xs y ≡ false
none_else x y xs n e = sym (others_listed y x xs n) ∙ ap (λ l. listed l y) e

pub unlisted_still : (y z : ℕ) (xs : List ℕ) → listed xs y ≡ false → listed (without z xs) y ≡ false
unlisted_still y z xs h = go (compare_zones y z)
  where
    go : Apart y z → listed (without z xs) y ≡ false
    go (equal e) = rw e (struck_off z xs)
    go (apart n) = others_listed y z xs n ∙ h

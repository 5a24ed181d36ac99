-- Lists of zones: what a strike leaves, and that distinct zones below eight are at most eight.
use Rattle.std.proofs.Common.{◌≡◌, ℕ, ◌<◌, ◌≤◌, true, false, eqb, ltb, List, [], ◌∷◌, ◌++◌, length, refl, arith}
use Rattle.std.specs.List.{list_any, AllByRecursion, IsDistinct}
use Rattle.std.proofs.lemmas.Bool.Decides.{nat_tests}
use Rattle.std.proofs.lemmas.Map.Steps.{length-le_from_distinct_below}
use Rattle.directory.specs.Lists.{listed, without}
use Rattle.directory.specs.Sound.{proper}

unlisted_apart : (z : ℕ) (zs : List ℕ) → listed zs z ≡ false → AllByRecursion (λ y. eqb z y ≡ false) zs
unlisted_apart z [] h = tt
unlisted_apart z (y ∷ zs) h = (grind (arith, nat_tests), unlisted_apart z zs (grind (arith, nat_tests)))

proper_distinct : (zs : List ℕ) → proper zs ≡ true → IsDistinct eqb zs
unfolding IsDistinct
proper_distinct [] h = tt
proper_distinct (z ∷ zs) h = (unlisted_apart z zs (grind (arith, nat_tests)), proper_distinct zs (grind (arith, nat_tests)))

proper_below : (q : ℕ) (zs : List ℕ) → proper zs ≡ true → list_any (eqb q) zs ≡ true → q < 8
proper_below q [] h m = grind arith
proper_below q (z ∷ zs) h m = let ih = proper_below q zs in grind (arith, nat_tests)

pub proper_length : (zs : List ℕ) → proper zs ≡ true → length zs ≤ 8
proper_length zs h = length-le_from_distinct_below zs 8 (proper_distinct zs h) (λ q. proper_below q zs h)

pub unlisted_without : (n x : ℕ) (zs : List ℕ) → listed zs x ≡ false → listed (without n zs) x ≡ false
unlisted_without n x [] h = refl
unlisted_without n x (z ∷ zs) h = let ih = unlisted_without n x zs in grind (arith, nat_tests)

pub proper_without : (n : ℕ) (zs : List ℕ) → proper zs ≡ true → proper (without n zs) ≡ true
proper_without n [] h = refl
proper_without n (z ∷ zs) h = let ih = proper_without n zs in let u = unlisted_without n z zs in grind (arith, nat_tests)

unlisted_push : (x z : ℕ) (zs : List ℕ) → listed zs x ≡ false → eqb z x ≡ false → listed (zs ++ z ∷ []) x ≡ false
unlisted_push x z [] h e = rw e
unlisted_push x z (y ∷ zs) h e = let ih = unlisted_push x z zs in grind (arith, nat_tests)

pub proper_push : (z : ℕ) (zs : List ℕ) → proper zs ≡ true → ltb z 8 ≡ true → listed zs z ≡ false → proper (zs ++ z ∷ []) ≡ true
proper_push z [] h b u = rw b
proper_push z (y ∷ zs) h b u = let ih = proper_push z zs in let k = unlisted_push y z zs in grind (arith, nat_tests)

-- Places of keys, over the list of the keys in use, in order of place. `m` tells what a key means.
use Rattle.std.specs.Prelude.{ℕ, Bool, cond, List, [], ◌∷◌, ◌++◌, length, Some, None, Option, nat_lt}
use Rattle.std.specs.List.{position_from, slice_get}
use Rattle.std.specs.Str.{bytes_eq}

-- whether two keys mean the same
abbrev pub same_meaning : {K : Type 0} → (K → List ℕ) → K → K → Bool
same_meaning m a b = bytes_eq (m a) (m b)

-- the place of the first key that passes a test, counted from `n`
abbrev pub first_from : {K : Type 0} → (K → Bool) → ℕ → List K → Option ℕ
first_from test n ks = position_from test n ks

-- the place that a key has: that of the key in use which means the same
abbrev pub place_of : {K : Type 0} → (K → List ℕ) → List K → K → Option ℕ
place_of m ks key = first_from (λ k. same_meaning m k key) 0 ks

-- the place known, or else the next unused one, where a row of `size` has one
abbrev pub known_or_next : Option ℕ → ℕ → ℕ → Option ℕ
known_or_next (Some place) used size = Some place
known_or_next None used size = cond (nat_lt used size) (Some used) None

-- the place that a key has, or would be given
abbrev pub place_given : {K : Type 0} → (K → List ℕ) → List K → ℕ → K → Option ℕ
place_given m ks size key = known_or_next (place_of m ks key) (length ks) size

-- the keys in use with a key added: one that has a place adds nothing, a new one comes last, a full row takes none
abbrev pub keys_with : {K : Type 0} → Option ℕ → List K → ℕ → K → List K
keys_with (Some place) ks size key = ks
keys_with None ks size key = cond (nat_lt (length ks) size) (ks ++ key ∷ []) ks

-- the keys in use once a key is given its place
abbrev pub keys_after : {K : Type 0} → (K → List ℕ) → List K → ℕ → K → List K
keys_after m ks size key = keys_with (place_of m ks key) ks size key

-- the key in use at a place
abbrev pub key_at : {K : Type 0} → List K → ℕ → Option K
key_at ks place = slice_get ks place

-- What a register promises of places.
use Rattle.std.specs.Prelude.{◌≡◌, ℕ, ◌<◌, List, [], map, length, Some, slice_index_or}
use Rattle.std.specs.Coded.{Π_prop, →_prop, Coded-set, coded_ℕ}
use Rattle.keys.specs.Places.{place_of}

-- what the key in use at a place means
abbrev pub meaning_at : {K : Type 0} → (K → List ℕ) → List K → ℕ → List ℕ
meaning_at m ks place = slice_index_or (map m ks) place []

-- no two keys in use mean the same
unfoldable pub Apart : {K : Type 0} → (K → List ℕ) → List K → Type 0
Apart m ks = (i j : ℕ) → i < length ks → j < length ks → meaning_at m ks i ≡ meaning_at m ks j → i ≡ j

-- keys are apart in one way only
pub Apart-prop : {K : Type 0} (m : K → List ℕ) (ks : List K) → IsProp (Apart m ks)
unfolding Apart
Apart-prop m ks = Π_prop (λ i. Π_prop (λ j. →_prop (→_prop (→_prop (Coded-set coded_ℕ i j)))))

-- two keys that have places have the same place exactly when they mean the same
unfoldable pub SamePlaceSameMeaning : {K : Type 0} → (K → List ℕ) → List K → Type 0
SamePlaceSameMeaning {K} m ks = (a b : K) (i j : ℕ) → place_of m ks a ≡ Some i → place_of m ks b ≡ Some j → (i ≡ j → m a ≡ m b) × (m a ≡ m b → i ≡ j)

-- a key has the place of the key in use that means the same
unfoldable pub OwnPlaces : {K : Type 0} → (K → List ℕ) → List K → Type 0
OwnPlaces {K} m ks = (key : K) (i : ℕ) → i < length ks → meaning_at m ks i ≡ m key → place_of m ks key ≡ Some i

-- a key that has a place keeps it
unfoldable pub PlacesStay : {K : Type 0} → (K → List ℕ) → List K → List K → Type 0
PlacesStay {K} m before after = (key : K) (i : ℕ) → place_of m before key ≡ Some i → place_of m after key ≡ Some i

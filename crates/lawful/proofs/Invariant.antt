-- The invariant of a pool as an onlooker knows it: every place is coherent, and numbers, keys and values fit.
use Rattle.std.proofs.Common.{◌≡◌, ℕ, ◌<◌, List, length, None}
use Rattle.keys.specs.Places.{place_of, key_at}
use Rattle.keys.specs.Promises.{Apart}
use Rattle.calls.specs.Model.{Model}
use Rattle.calls.specs.Onlookers.{Onlooker}
use Rattle.coherence.proofs.Invariant.{Inv}
use Rattle.lawful.proofs.Lanes.{PlacesBelow}
use Rattle.lawful.proofs.Numbers.{Numbers}
use Rattle.lawful.proofs.Systems.{system_at, waits_at, number_at}

pub record PoolInv (m : Model) (ks : List (List ℕ)) (o : Onlooker) : Type 0 where
  pub sixteen : length m.lanes ≡ 16
  pub many_slots : length m.slots ≡ 256
  pub many_rows : length m.rows ≡ 32
  pub in_range : PlacesBelow m.lanes
  pub coherent : (p : ℕ) → p < 32 → Inv (system_at m ks o p)
  pub keys_apart : Apart (λ k. k) ks
  pub unknown_empty : (key : List ℕ) → place_of (λ k. k) ks key ≡ None → o.values key ≡ None
  pub same_next : o.next ≡ m.next
  pub numbers : Numbers (waits_at m.slots) (number_at m.slots) o.entries m.next (key_at ks)

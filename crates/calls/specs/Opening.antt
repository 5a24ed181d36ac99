-- A pool as it is opened: what was loaded, and how it is tied to the register's keys.
use Rattle.std.specs.Prelude.{◌≡◌, ℕ, ◌<◌, cond, List, [], ◌∷◌, length, Some, None, Option, ◌==◌}
use Rattle.messages.specs.declared.assignments.Assignment.{Assignment}
use Rattle.line.specs.declared.states.State.{State}
use Rattle.line.specs.declared.states.State.TheVariants.{Invalid, Exclusive}
use Rattle.directory.specs.Directory.{Directory, directory}
use Rattle.transport.specs.Lanes.{all_empty}
use Rattle.keys.specs.Places.{place_of}
use Rattle.keys.specs.Promises.{Apart}
use Rattle.calls.specs.declared.slots.Slot.{Slot}
use Rattle.calls.specs.Model.{Model, state_at, row_at, fresh_row}

-- what was loaded at a place: a zone and an assignment, or nothing
abbrev pub Load : Type 0
Load = Option (ℕ × Assignment)

-- the directory of a place: the loaded zone alone is listed
abbrev pub loaded_row : Load → Directory
loaded_row None = fresh_row
loaded_row (Some (zone, a)) = directory (zone ∷ []) [] None

-- a zone's line: E with the assignment at the loaded zone, else I
abbrev pub loaded_state : Load → ℕ → State
loaded_state None zone = Invalid
loaded_state (Some (z, a)) zone = cond (zone == z) (Exclusive a) Invalid

-- the assignment loaded
abbrev pub loaded_value : Load → Option Assignment
loaded_value None = None
loaded_value (Some (z, a)) = Some a

-- the loaded zone, if any, is below 8
abbrev pub ZoneBelow : Load → Type 0
ZoneBelow None = Unit {0}
ZoneBelow (Some (z, a)) = z < 8

-- tables in which each place has what was loaded there, at a zone below 8, and nothing else
pub record LoadedTables (slots : List Slot) (rows : List Directory) (loads : ℕ → Load) : Type 0 where
  pub many_slots : length slots ≡ 256
  pub many_rows : length rows ≡ 32
  pub zones : (place : ℕ) → place < 32 → ZoneBelow (loads place)

-- a pool as opening leaves it: no message waits, the first number comes next, and each place has what was loaded there
pub record JustOpened (m : Model) (loads : ℕ → Load) : Type 0 where
  pub lanes_empty : m.lanes ≡ all_empty
  pub many_slots : length m.slots ≡ 256
  pub many_rows : length m.rows ≡ 32
  pub first_next : m.next ≡ m.plan.first_number
  pub zones : (place : ℕ) → place < 32 → ZoneBelow (loads place)
  pub rows_loaded : (place : ℕ) → place < 32 → row_at m place ≡ loaded_row (loads place)
  pub lines_loaded : (zone place : ℕ) → zone < 8 → place < 32 → state_at m zone place ≡ loaded_state (loads place) zone

-- a register with which the stock was loaded: known keys are distinct; a known key has in the stock what was loaded at its place,
-- an unknown key has nothing there; and nothing was loaded at a place that no key has
pub record TiedTo (ks : List (List ℕ)) (loads : ℕ → Load) (stock : List ℕ → Option Assignment) : Type 0 where
  pub apart : Apart (λ k. k) ks
  pub known : (key : List ℕ) (place : ℕ) → place_of (λ k. k) ks key ≡ Some place → stock key ≡ loaded_value (loads place)
  pub unknown : (key : List ℕ) → place_of (λ k. k) ks key ≡ None → stock key ≡ None
  pub unused_empty : (place : ℕ) → (place < length ks → ⊥) → loads place ≡ None

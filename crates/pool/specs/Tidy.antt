-- Tables in which each place has what was loaded there, and nothing else.
use Rattle.std.specs.Prelude.{◌≡◌, ℕ, ◌+◌, ◌*◌, ◌<◌, Bool, true, false, cond, not, ◌&&◌, List, [], ◌∷◌, is_some, ◌==◌, nat_lt, slice_index_or}
use Rattle.line.specs.declared.states.State.{State}
use Rattle.line.specs.declared.states.State.TheVariants.{Invalid, Exclusive}
use Rattle.directory.specs.Directory.{Directory}
use Rattle.calls.specs.declared.slots.Slot.{Slot}
use Rattle.calls.specs.Model.{blank_slot, fresh_row}
use Rattle.calls.specs.Questions.{none_wait}

-- whether a line is in I
abbrev pub is_invalid : State → Bool
is_invalid Invalid = true
is_invalid _ = false

-- whether a line is in E
abbrev pub is_exclusive : State → Bool
is_exclusive (Exclusive copy) = true
is_exclusive _ = false

-- at most one zone, below 8
abbrev pub one_at_most : List ℕ → Bool
one_at_most [] = true
one_at_most (z ∷ []) = nat_lt z 8
one_at_most (z ∷ y ∷ zs) = false

-- at most one zone is listed, and no request waits or is served
abbrev pub tidy_row : Directory → Bool
tidy_row d = one_at_most d.list && (none_wait d.waiting && not (is_some d.served))

-- a zone's line, by the cache list: E where the zone is listed, else I
abbrev pub tidy_line : List ℕ → ℕ → State → Bool
tidy_line [] zone l = is_invalid l
tidy_line (z ∷ zs) zone l = cond (zone == z) (is_exclusive l) (is_invalid l)

-- the directory of each place is as loading leaves it
abbrev pub TidyRows : List Directory → Type 0
TidyRows rows = (place : ℕ) → tidy_row (slice_index_or rows place fresh_row) ≡ true

-- the line of each zone and place is as loading leaves it
abbrev pub TidyLines : List Slot → List Directory → Type 0
TidyLines slots rows =
    (zone place : ℕ) → (zone < 8) × (place < 32) → tidy_line (slice_index_or rows place fresh_row).list zone (slice_index_or slots (zone * 32 + place) blank_slot).line.state ≡ true

-- What an opened pool means: lines with their request numbers, directories, lanes, the next number, counts.
use Rattle.std.specs.Prelude.{ℕ, ◌+◌, ◌*◌, List, [], None, slice_index_or}
use Rattle.line.specs.declared.states.State.{State}
use Rattle.line.specs.declared.states.State.TheVariants.{Invalid}
use Rattle.directory.specs.Directory.{Directory, directory}
use Rattle.transport.specs.Lanes.{Lists}
use Rattle.rules.specs.declared.plan.Plan.{Plan}
use Rattle.calls.specs.declared.slots.Slot.{Slot}
use Rattle.calls.specs.declared.slots.Counts.{Counts}

-- all that a call on an opened pool may change, and its plan
pub record Model : Type 0 where
  pub plan : Plan
  -- the 16 lanes, up lanes first
  pub lanes : Lists
  -- 256 lines: for each of eight zones 32 places
  pub slots : List Slot
  -- the directory for each of 32 places
  pub rows : List Directory
  -- the number of the next accepted start
  pub next : ℕ
  -- the counts of each of eight zones
  pub counts : List Counts

-- a line in a state, with the number of its last request
abbrev pub slot : State → ℕ → Slot
slot l n = record { line = record { state = l }; number = n }

-- a line in I that had no request
abbrev pub blank_slot : Slot
blank_slot = slot Invalid 0

-- the line of a zone for a place, with its number
abbrev pub slot_at : Model → ℕ → ℕ → Slot
slot_at m zone place = slice_index_or m.slots (zone * 32 + place) blank_slot

-- the state of a zone's line for a place
abbrev pub state_at : Model → ℕ → ℕ → State
state_at m zone place = (slot_at m zone place).line.state

-- a directory where nobody is listed and nothing waits
abbrev pub fresh_row : Directory
fresh_row = directory [] [] None

-- the directory of a place
abbrev pub row_at : Model → ℕ → Directory
row_at m place = slice_index_or m.rows place fresh_row

-- no start accepted yet
abbrev pub no_counts : Counts
no_counts = record { hits = 0; starts = 0 }

-- the counts of a zone
abbrev pub counts_at : Model → ℕ → Counts
counts_at m zone = slice_index_or m.counts zone no_counts

-- Directories that are sound at every place.
use Rattle.std.specs.Prelude.{◌≡◌, ℕ, true, List, slice_index_or}
use Rattle.directory.specs.Directory.{Directory}
use Rattle.directory.specs.Sound.{sound}
use Rattle.calls.specs.Model.{fresh_row}

-- the directory of each place is sound
abbrev pub SoundRows : List Directory → Type 0
SoundRows ds = (place : ℕ) → sound (slice_index_or ds place fresh_row) ≡ true

-- The pause board: a mark for each of the eight zones. A zone above 7 has no mark: it is not paused, and marking it changes nothing.
use Rattle.std.specs.Prelude.{ℕ, Bool, false, cond, Ok, Err, Result, slice_index_or, slice_set}
use Rattle.rules.specs.declared.board.PauseBoard.{PauseBoard}

-- whether a zone is paused
abbrev pub paused_at : PauseBoard → ℕ → Bool
paused_at board zone = slice_index_or board.marks zone false

-- the board with one mark set
abbrev pub with_mark : PauseBoard → ℕ → Bool → PauseBoard
with_mark board zone paused = record { marks = slice_set board.marks zone paused }

-- refusal 7 where the zone is paused
abbrev pub open_at : PauseBoard → ℕ → Result (Unit {0}) ℕ
open_at board zone = cond (paused_at board zone) (Err 7) (Ok tt)

-- two zones asked in turn
abbrev pub both_open : PauseBoard → ℕ → ℕ → Result (Unit {0}) ℕ
both_open board first second = cond (paused_at board first) (Err 7) (open_at board second)

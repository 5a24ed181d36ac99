-- What setting a mark and putting it back leaves.
use Rattle.std.proofs.Common.{◌≡◌, ℕ, ◌≤◌, Bool, false, List, length, ap, ◌∙◌}
use Rattle.std.proofs.lemmas.List.{set-set, set_past, set-get_or}
use Rattle.rules.specs.declared.board.PauseBoard.{PauseBoard}
use Rattle.rules.specs.Boards.{paused_at, with_mark}

board_of : List Bool → PauseBoard
board_of marks = record { marks = marks }

-- boards are equal where their marks are
pub same_boards : (b c : PauseBoard) → b.marks ≡ c.marks → b ≡ c
unfolding board_of
same_boards b c e = ap board_of e

-- the former mark put back
pub mark_back : (board : PauseBoard) (zone : ℕ) (paused : Bool) → with_mark (with_mark board zone paused) zone (paused_at board zone) ≡ board
mark_back board zone paused = same_boards _ _ (set-set board.marks zone paused (paused_at board zone) ∙ set-get_or board.marks zone false)

-- past the marks there is nothing to set
pub mark_past : (board : PauseBoard) (zone : ℕ) (paused : Bool) → length board.marks ≤ zone → with_mark board zone paused ≡ board
mark_past board zone paused h = same_boards _ _ (set_past board.marks zone paused h)

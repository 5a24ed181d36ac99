use Rattle.std.proofs.Common.{◌≡◌, ◌≤◌, take}
use Rattle.transport.specs.Room.{set_size}
use Rattle.transport.proofs.lanes.LaneSet.size.Given as goal

abbrev pub invariant-loop-marked : goal.invariant-loop-marked
invariant-loop-marked l = (l.size ≡ set_size (take l.marked-index l.marked-items)) × (l.size ≤ l.marked-index)

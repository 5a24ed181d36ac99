use Rattle.std.proofs.Common.{◌≡◌, ◌≤◌, length, take, filter}
use Rattle.transport.specs.Belt.{of_lane}
use Rattle.transport.proofs.belt.Belt.count_of.Given as goal

abbrev pub invariant-loop-entry : goal.invariant-loop-entry
invariant-loop-entry l = (l.count ≡ length (filter (of_lane l.lane) (take l.entry-index l.entry-items))) × (l.count ≤ l.entry-index)

use Rattle.std.proofs.Common.{◌≡◌, drop}
use Rattle.transport.specs.Belt.{lane_of}
use Rattle.transport.proofs.belt.Belt.behind.Given as goal

-- the messages looked at are out, and as many of the lane are out of the count
abbrev pub invariant-loop-entry : goal.invariant-loop-entry
invariant-loop-entry l = drop l.older (lane_of (drop l.entry-index l.entry-items) l.lane) ≡ drop l.ahead (lane_of l.entry-items l.lane)

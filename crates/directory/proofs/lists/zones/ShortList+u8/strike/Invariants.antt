use Rattle.std.proofs.Common.{◌≡◌, ◌≤◌, length, take}
use Rattle.directory.specs.Lists.{items_of, without}
use Rattle.directory.proofs.lists.zones.ShortList+u8.strike.Given as goal

abbrev pub invariant-loop-listed : goal.invariant-loop-listed
invariant-loop-listed l = (items_of l.left ≡ without l.zone (take l.listed-index l.listed-items)) × (length (items_of l.left) ≤ l.listed-index)

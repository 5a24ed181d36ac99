use Rattle.std.proofs.Common.{length}
use Rattle.directory.proofs.rows.checking.+is_proper.Given as goal

abbrev pub decreases-is_proper : goal.decreases-is_proper
decreases-is_proper l = length l.zones.now

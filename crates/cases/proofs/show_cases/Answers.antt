-- Each case by computation, but the belt's.
use Rattle.std.proofs.Common.{rules}
use Rattle.transport.proofs.Limits.{belt_at_62}
use Rattle.cases.proofs.show_cases.Goals as goal

pub returns : goal.returns
returns c = search (rules, belt_at_62)

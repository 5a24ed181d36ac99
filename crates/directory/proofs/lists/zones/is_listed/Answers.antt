use Rattle.std.proofs.Common.{◌∙◌}
use Rattle.directory.proofs.Searches.{any_listed}
use Rattle.directory.proofs.lists.zones.is_listed.Goals as goal

pub returns : goal.returns
returns c = c.contains.ensures.value ∙ any_listed c.args.zone c.args.zones.now

use Rattle.lawful.specs.Theorem.{EveryRunIsLawful}
use Rattle.lawful.proofs.Lawful.{lawful}
use Rattle.lawful.proofs.model_is_lawful.Goals as goal

pub returns : goal.returns
unfolding EveryRunIsLawful
returns c = lawful

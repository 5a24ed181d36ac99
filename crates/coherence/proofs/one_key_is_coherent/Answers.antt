use Rattle.coherence.proofs.Safety.{every_run_is_safe}
use Rattle.coherence.proofs.Crossings.{crossings_are_reached}
use Rattle.coherence.proofs.one_key_is_coherent.Goals as goal

pub returns : goal.returns
returns c = record { coherent = every_run_is_safe; crossings = crossings_are_reached }

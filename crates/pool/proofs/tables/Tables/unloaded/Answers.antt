use Rattle.std.proofs.Common.{replicate, ap}
use Rattle.directory.specs.Directory.{Directory}
use Rattle.pool.proofs.Rows.{fresh_sound}
use Rattle.pool.proofs.tables.Tables.unloaded.Goals as goal

pub invariant_of-result-clause-sound_rows : goal.invariant_of-result-clause-sound_rows
invariant_of-result-clause-sound_rows c = fresh_sound _ (ap (λ (d : Directory). replicate 32 d) c.fresh_row.ensures)

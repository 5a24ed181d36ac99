use Rattle.std.proofs.Common.{◌∙◌}
use Rattle.std.proofs.lemmas.List.{length-set}
use Rattle.pool.proofs.Rows.{set_sound}
use Rattle.pool.proofs.tables.Tables.keep.Goals as goal

pub invariant_of-self-clause-many_rows : goal.invariant_of-self-clause-many_rows
invariant_of-self-clause-many_rows c = length-set c.args.self.now.rows c.from.result c.row.result ∙ c.args.self.now.many_rows

pub invariant_of-self-clause-sound_rows : goal.invariant_of-self-clause-sound_rows
invariant_of-self-clause-sound_rows c = set_sound c.args.self.now.rows c.from.result c.row.result _ c.row.ensures c.args.kept.ok c.args.self.now.sound_rows

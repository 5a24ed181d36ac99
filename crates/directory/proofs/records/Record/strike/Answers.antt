use Rattle.directory.specs.Directory.{view_of}
use Rattle.directory.proofs.Soundness.{struck_sound}
use Rattle.directory.proofs.records.Record.strike.Goals as goal

pub invariant_of-self : goal.invariant_of-self
invariant_of-self c = record { ok = rw c.strike-self.ensures (struck_sound c.args.zone (view_of c.args.self.now.row) c.args.self.now.ok) }

use Rattle.std.proofs.Common.{sym, ◌∙◌, lit<}
use Rattle.directory.specs.Directory.{view_of}
use Rattle.directory.proofs.Soundness.{queue_room, joined_sound}
use Rattle.directory.proofs.records.Record.demand_arrives.Goals as goal

pub push_back-self-requires : goal.push_back-self-requires
push_back-self-requires c =
    (lit< tt, queue_room c.args.zone (view_of c.args.self.now.row) c.requires c.args.self.now.ok (sym c.is_busy.ensures ∙ c.if-is_busy.false))

pub invariant_of-self : goal.invariant_of-self
invariant_of-self c =
    record { ok = rw c.push_back-self.ensures (joined_sound (record { zone = c.args.zone; demand = c.args.demand }) (view_of c.args.self.now.row) c.requires c.args.self.now.ok (sym c.is_busy.ensures ∙ c.if-is_busy.false)) }

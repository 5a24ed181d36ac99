use Rattle.directory.specs.Lists.{items_of}
use Rattle.directory.proofs.Soundness.{left_fits, left_sound}
use Rattle.directory.proofs.records.Record.end.Goals as goal

pub list_left-requires : goal.list_left-requires
list_left-requires c =
    let row = c.args.self.now.row in
    rw c.reply-reply.ensures (left_fits c.args.served (items_of row.list) (items_of row.waiting) (simp c.requires at c.args.self.now.ok))

pub invariant_of-self : goal.invariant_of-self
invariant_of-self c =
    let row = c.args.self.now.row in
    record { ok = rw (c.list_left.ensures, c.reply-reply.ensures) (left_sound c.args.served (items_of row.list) (items_of row.waiting) (simp c.requires at c.args.self.now.ok)) }

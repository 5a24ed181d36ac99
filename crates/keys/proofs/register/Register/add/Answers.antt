use Rattle.std.proofs.Common.{arith}
use Rattle.keys.proofs.Promises.{apart_behind}
use Rattle.keys.proofs.register.Register.add.Goals as goal

pub invariant_of-self-2-clause-apart : goal.invariant_of-self-2-clause-apart
invariant_of-self-2-clause-apart g c =
    let old = c.args.self.now in
    apart_behind g.K.Key.meaning old.row.now old.used _ c.args.key (omega arith) (omega arith) c.if-next-self.false c.in_default.ensures old.apart

use Rattle.std.proofs.Common.{length}
use Rattle.transport.proofs.Sendings.{SentSoFar}
use Rattle.transport.proofs.sending.send_each.Given as goal

abbrev pub invariant-loop-zone : goal.invariant-loop-zone
invariant-loop-zone g l =
    let t = g.T.Transport in
    SentSoFar t.room (t.waiting l.fn.transport) (t.waiting l.transport) l.place l.fn.outgoing.to (length l.yielded)

use Rattle.std.proofs.Common.{◌≡◌, ℕ, ◌+◌, length, sym, refl, ap, ◌∙◌, subst, rules}
use Rattle.std.proofs.lemmas.List.{length_push}
use Rattle.transport.specs.Sending.{down_message}
use Rattle.transport.proofs.RoomLaws.{not_refused}
use Rattle.transport.proofs.Sendings.{SentSoFar, zone_turn, ready_start, ready_skip, sent_none, sent_one, sent_skip, turn}
use Rattle.transport.proofs.sending.send_each.Goals as goal

pub loop-zone-init : goal.loop-zone-init
loop-zone-init g c = (sent_none _ _ _, ready_start g.T.Transport.room _ _ c.requires)

pub loop-zone-preserved-in-Continue-1 : goal.loop-zone-preserved-in-Continue-1
loop-zone-preserved-in-Continue-1 g c =
    let t = g.T.Transport in
    let to = c.args.outgoing.to in
    let place = c.args.place in
    let z = c.in-Some.zone in
    let d = c.in-Some-next.down in
    let start = t.waiting c.args.transport.now in
    let before = t.waiting c.loop-zone.transport in
    let after = t.waiting c.put.new.self in
    let long : length to ≡ 8 = search rules in
    let here = zone_turn t.room start before place to c.loop-zone.yielded c.into_iter-zone-iterator.result c.loop-zone.zone-iterator c.next.new.self c.next.result z c.in-Some.field-0-1
    long (cc) (cc) c.loop-zone.yielded_by c.in-Some.is c.next.ensures.steps c.loop-zone.invariant in
    let done = turn t.room g.met.T.Transport.part g.met.T.Transport.rest before after to z d (down_message place d) c.put.result
    here.small (here.is ∙ c.in-Some-next.is) here.so_far.1 c.put.ensures.answer c.put.ensures.lists in
    subst (SentSoFar t.room start after place to) (ap (λ (n : ℕ). n + 1) here.same ∙ sym (length_push c.loop-zone.yielded (z, c.in-Some.field-0-1)))
    (sent_one start place to z before after d (here.is ∙ c.in-Some-next.is) here.so_far.0 done.lists, done.ready)

pub returns-in_err-put : goal.returns-in_err-put
returns-in_err-put g c =
    let t = g.T.Transport in
    let to = c.args.outgoing.to in
    let place = c.args.place in
    let z = c.in-Some.zone in
    let d = c.in-Some-next.down in
    let start = t.waiting c.args.transport.now in
    let before = t.waiting c.loop-zone.transport in
    let long : length to ≡ 8 = search rules in
    let here = zone_turn t.room start before place to c.loop-zone.yielded c.into_iter-zone-iterator.result c.loop-zone.zone-iterator c.next.new.self c.next.result z c.in-Some.field-0-1
    long (cc) (cc) c.loop-zone.yielded_by c.in-Some.is c.next.ensures.steps c.loop-zone.invariant in
    let done = turn t.room g.met.T.Transport.part g.met.T.Transport.rest before (t.waiting c.put.new.self) to z d (down_message place d) c.put.result
    here.small (here.is ∙ c.in-Some-next.is) here.so_far.1 c.put.ensures.answer c.put.ensures.lists in
    absurd (not_refused _ _ done.answer c.in_err-put.was)

pub loop-zone-preserved : goal.loop-zone-preserved
loop-zone-preserved g c =
    let t = g.T.Transport in
    let to = c.args.outgoing.to in
    let place = c.args.place in
    let z = c.in-Some.zone in
    let start = t.waiting c.args.transport.now in
    let before = t.waiting c.loop-zone.transport in
    let long : length to ≡ 8 = search rules in
    let here = zone_turn t.room start before place to c.loop-zone.yielded c.into_iter-zone-iterator.result c.loop-zone.zone-iterator c.next.new.self c.next.result z c.in-Some.field-0-1
    long (cc) (cc) c.loop-zone.yielded_by c.in-Some.is c.next.ensures.steps c.loop-zone.invariant in
    subst (SentSoFar t.room start before place to) (ap (λ (n : ℕ). n + 1) here.same ∙ sym (length_push c.loop-zone.yielded (z, c.in-Some.field-0-1)))
    (sent_skip start place to z before before (here.is ∙ c.in_default.is) here.so_far.0 refl, ready_skip t.room before to z here.so_far.1)

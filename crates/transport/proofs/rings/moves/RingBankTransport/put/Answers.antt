use Rattle.std.proofs.Common.{◌≡◌, ◌<◌, ◌≤◌, true, false, List, length, map, Some, sym, ap, ◌∙◌, arith}
use Rattle.std.proofs.lemmas.Bool.{leb-true, leb-false}
use Rattle.std.proofs.lemmas.List.{set-get_or}
use Rattle.transport.specs.declared.ring.Ring.{Ring}
use Rattle.transport.specs.Lanes.{lane_number, lane_at, only_lane}
use Rattle.transport.specs.Ring.{ring_items, bank_lists}
use Rattle.transport.specs.Room.{made_depth, rings_room}
use Rattle.transport.specs.RingRoom.{lane_read, lane_pushed, made_is, only_full, only_free}
use Rattle.transport.proofs.Answered.{number_small, full_answer, full_lists, done_answer, done_lists}
use Rattle.transport.proofs.rings.moves.RingBankTransport.put.Goals as goal

pub returns-then-is_full : goal.returns-then-is_full
returns-then-is_full g c =
    let bank = c.args.self.now in
    let i = c.in_ok-i.i in
    let lists = bank_lists bank in
    let depth = made_depth g.row.DEPTH in
    let made : depth ≡ g.row.DEPTH = made_is g.row.DEPTH bank.deep in
    let room = rings_room depth in
    let was = c.index-self-i.result in
    let e : Some i ≡ lane_number c.args.lane = sym c.in_ok-i.ensures.ok_part ∙ c.number.ensures.number in
    let small = number_small c.args.lane i e in
    let read = ap length (lane_read bank.rings i was (omega (arith, bank.sixteen))) in
    let many : depth ≤ length (lane_at lists i) = omega (arith, made, leb-true g.row.DEPTH _ (sym c.is_full.ensures ∙ c.if-is_full.true)) in
    let full : room lists (only_lane i) ≡ false = only_full depth lists i small many in
    record {
      answer = full_answer room lists c.args.lane i e _ _ c.no_room.ensures c.zone-then-is_full.ensures full;
      lists = ap (λ (rings : List (Ring g.row.DEPTH)). map ring_items rings) (set-get_or bank.rings i was) ∙ full_lists room lists c.args.lane i e c.args.message full;
    }

pub returns : goal.returns
returns g c =
    let bank = c.args.self.now in
    let i = c.in_ok-i.i in
    let lists = bank_lists bank in
    let depth = made_depth g.row.DEPTH in
    let made : depth ≡ g.row.DEPTH = made_is g.row.DEPTH bank.deep in
    let room = rings_room depth in
    let was = c.index-self-i.result in
    let e : Some i ≡ lane_number c.args.lane = sym c.in_ok-i.ensures.ok_part ∙ c.number.ensures.number in
    let small = number_small c.args.lane i e in
    let within : i < length bank.rings = omega (arith, bank.sixteen) in
    let read = ap length (lane_read bank.rings i was within) in
    let few : length (lane_at lists i) < depth = omega (arith, made, leb-false g.row.DEPTH _ (sym c.is_full.ensures ∙ c.if-is_full.false)) in
    let free : room lists (only_lane i) ≡ true = only_free depth lists i small few in
    record {
      answer = done_answer room lists c.args.lane i e free;
      lists = done_lists room lists c.args.lane i e c.args.message _ (lane_pushed bank.rings i was within c.args.message c.push.new.self c.push.ensures) free;
    }

use Rattle.std.proofs.Common.{◌≡◌, true, false, Some, sym, ap, ◌∙◌, arith}
use Rattle.transport.specs.Lanes.{lane_number, only_lane}
use Rattle.transport.specs.Room.{belt_room}
use Rattle.transport.specs.Belt.{held, lanes_of, belt_lists}
use Rattle.transport.specs.BeltRoom.{belt_admits, belt_refuses, size_one}
use Rattle.transport.proofs.Answered.{number_small, full_answer, full_lists, done_answer, done_lists}
use Rattle.transport.proofs.BeltLists.{waiting_held, lists_pushed}
use Rattle.transport.proofs.belt.moves.BeltTransport.put.Goals as goal

pub returns-then-self-ge-BELT_SIZE : goal.returns-then-self-ge-BELT_SIZE
returns-then-self-ge-BELT_SIZE c =
    let belt = c.args.self.now in
    let i = c.in_ok-i.i in
    let lists = belt_lists belt in
    let e : Some i ≡ lane_number c.args.lane = sym c.in_ok-i.ensures.ok_part ∙ c.number.ensures.number in
    let alone = size_one i (number_small c.args.lane i e) in
    let full : belt_room lists (only_lane i) ≡ false = belt_refuses lists (only_lane i) (omega (arith, waiting_held belt)) in
    record {
      answer = full_answer belt_room lists c.args.lane i e _ _ c.no_room.ensures c.zone-then-self-ge-BELT_SIZE.ensures full;
      lists = full_lists belt_room lists c.args.lane i e c.args.message full;
    }

pub returns : goal.returns
returns c =
    let belt = c.args.self.now in
    let i = c.in_ok-i.i in
    let lists = belt_lists belt in
    let e : Some i ≡ lane_number c.args.lane = sym c.in_ok-i.ensures.ok_part ∙ c.number.ensures.number in
    let small = number_small c.args.lane i e in
    let alone = size_one i small in
    let free : belt_room lists (only_lane i) ≡ true = belt_admits lists (only_lane i) (omega (arith, waiting_held belt)) in
    record {
      answer = done_answer belt_room lists c.args.lane i e free;
      lists = done_lists belt_room lists c.args.lane i e c.args.message (belt_lists c.push.new.self)
          (ap lanes_of c.push.ensures ∙ lists_pushed (held belt) i c.args.message small) free;
    }

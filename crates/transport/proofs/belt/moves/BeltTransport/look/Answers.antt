use Rattle.std.proofs.Common.{Some, sym, ap, ◌∙◌, arith}
use Rattle.std.proofs.lemmas.List.{get_or-take}
use Rattle.transport.specs.declared.entry.Entry.{Entry}
use Rattle.transport.specs.Lanes.{oldest_of}
use Rattle.transport.specs.Ring.{blank}
use Rattle.transport.specs.Belt.{held, lanes_of, entry_of}
use Rattle.transport.proofs.Answered.{number_small, oldest_is}
use Rattle.transport.proofs.BeltLists.{length_held, lane_is, lane_first, first_found, none_found}
use Rattle.transport.proofs.belt.moves.BeltTransport.look.Goals as goal

pub returns-in_err-first : goal.returns-in_err-first
returns-in_err-first c =
    let es = held c.args.self.now in
    let i = c.in_ok-i.i in
    let e = c.in_ok-i.ensures.number in
    let none = lane_is es i (number_small c.args.lane i e) ∙ none_found es i c.in_err-first.ensures in
    c.from_residual-in_err-first.ensures ∙ ap oldest_of (sym none) ∙ oldest_is (lanes_of es) c.args.lane i e

pub returns : goal.returns
returns c =
    let belt = c.args.self.now in
    let es = held belt in
    let i = c.in_ok-i.i in
    let at = c.in_ok-first.first in
    let e = c.in_ok-i.ensures.number in
    let found = first_found es i at c.in_ok-first.ensures in
    let n = length_held belt in
    let first = lane_first es i at (number_small c.args.lane i e) found (entry_of 0 blank) in
    let here = get_or-take belt.len belt.entries at (entry_of 0 blank) (omega (arith, found.0)) in
    ap (λ (x : Entry). Some x.message) (sym here) ∙ ap oldest_of (sym first) ∙ oldest_is (lanes_of es) c.args.lane i e

use Rattle.std.proofs.Common.{ℕ, not, ap, sym, ◌∙◌, rules}
use borrow.Author.Tests.{tests}
use Rattle.std.proofs.lemmas.Iterator.{YieldsList-from_slice, YieldsList-from_map, YieldsList-from_zip}
use Rattle.std.proofs.lemmas.Iterator.Consumers.{YieldsList-at}
use Rattle.std.proofs.lemmas.Iterator.Search.{any_from_yields_List}
use Rattle.transport.specs.Ring.{bank_lists}
use Rattle.transport.specs.Room.{rings_room}
use Rattle.transport.specs.RingRoom.{made_is}
use Rattle.transport.proofs.RingLists.{both, full, none_full}
use Rattle.transport.proofs.rings.moves.RingBankTransport.has_room.Goals as goal

pub returns : goal.returns
returns g c =
    let depth = g.row.DEPTH in
    let bank = c.args.self.now in
    let marks = c.args.set.marks in
    let found = any_from_yields_List both c.any.new.self _ c.any.result c.any.ensures.ran
    (YieldsList-from_zip (YieldsList-at c.zip.ensures.first (YieldsList-from_slice marks (cc)))
    (YieldsList-at c.zip.ensures.second (YieldsList-from_map _ full (YieldsList-at c.map-full.ensures.source (YieldsList-from_slice bank.rings (cc))) c.map-full.ensures.closure (λ x r q k. search (rules, tests)))))
    (λ x b q k. search (rules, tests)) in
    ap not found ∙ none_full bank.rings marks bank.sixteen (search rules) ∙ ap (λ (d : ℕ). rings_room d (bank_lists bank) marks) (sym (made_is depth bank.deep))

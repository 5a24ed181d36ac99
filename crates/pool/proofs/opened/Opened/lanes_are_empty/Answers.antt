use Rattle.std.proofs.Common.{refl, ◌∙◌, rules}
use Rattle.std.proofs.lemmas.Iterator.{YieldsList-from_range}
use Rattle.std.proofs.lemmas.Iterator.Search.{all_from_yields_List}
use borrow.Author.Tests.{tests}
use Rattle.pool.specs.Questions.{lane_is_empty}
use Rattle.pool.proofs.Asking.{all_lanes}
use Rattle.pool.proofs.opened.Opened.lanes_are_empty.Goals as goal

pub returns : goal.returns
returns g c =
    let t = c.args.self.now.transport in
    let lists = g.T.Transport.waiting t in
    all_from_yields_List (lane_is_empty lists) _ _ c.all.result c.all.ensures.ran (YieldsList-from_range 0 16 16 refl refl) (λ x b q k. search (rules, tests))
    ∙ all_lanes lists (g.met.T.Transport.lanes t)

use Rattle.std.proofs.Common.{eqb, ◌∙◌, rules}
use borrow.Author.Tests.{tests}
use Rattle.std.proofs.lemmas.Iterator.{YieldsList-from_slice}
use Rattle.std.proofs.lemmas.Iterator.Search.{any_from_yields_List}
use Rattle.directory.specs.declared.rows.Waiting.{Waiting}
use Rattle.directory.specs.Lists.{items_of}
use Rattle.directory.proofs.Searches.{any_waiting}
use Rattle.directory.proofs.lists.zones.ShortList+Waiting.has_request_of.Goals as goal

pub returns : goal.returns
returns c =
    any_from_yields_List (λ (w : Waiting). eqb w.zone c.args.zone) _ _ _ c.any.ensures.ran (YieldsList-from_slice (items_of c.args.self) cc) (λ x b q k. search (rules, tests))
    ∙ any_waiting c.args.zone (items_of c.args.self)

use Rattle.std.proofs.Common.{is_some, ◌∙◌, rules}
use borrow.Author.Tests.{tests}
use Rattle.std.proofs.lemmas.Iterator.{YieldsList-from_slice}
use Rattle.std.proofs.lemmas.Iterator.Search.{any_from_yields_List}
use Rattle.directory.specs.Lists.{items_of}
use Rattle.directory.specs.Serving.{ask_of_listed}
use Rattle.directory.proofs.Searches.{any_awaited}
use Rattle.directory.proofs.rows.Served.awaits_any.Goals as goal

pub returns : goal.returns
returns c =
    any_from_yields_List (λ zone. is_some (ask_of_listed c.args.self zone)) _ _ _ c.any.ensures.ran (YieldsList-from_slice (items_of c.args.list) cc) (λ x b q k. search (rules, tests))
    ∙ any_awaited c.args.self (items_of c.args.list)

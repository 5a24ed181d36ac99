use Rattle.std.proofs.Common.{is_some, ◌∙◌, rules}
use Rattle.std.proofs.lemmas.Iterator.{YieldsList-from_slice}
use Rattle.std.proofs.lemmas.Iterator.Search.{any_from_yields_List}
use borrow.Author.Tests.{tests}
use Rattle.pool.proofs.Sendings.{any_sends}
use Rattle.pool.proofs.row_changes.sends_any.Goals as goal

pub returns : goal.returns
returns c =
    any_from_yields_List is_some _ _ c.any.result c.any.ensures.ran (YieldsList-from_slice c.args.outgoing.to cc) (λ x b q k. search (rules, tests))
    ∙ any_sends c.args.outgoing.to

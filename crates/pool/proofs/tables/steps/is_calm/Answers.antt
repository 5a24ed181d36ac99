use Rattle.std.proofs.Common.{rules}
use borrow.Author.Tests.{tests}
use Rattle.pool.proofs.Asking.{row_calm}
use Rattle.pool.proofs.tables.steps.is_calm.Goals as goal

pub returns : goal.returns
returns c = row_calm c.args.row c.from_row.result c.from_row.ensures c.is_some_and.result (search (rules, tests))

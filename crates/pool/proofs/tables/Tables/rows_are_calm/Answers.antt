use Rattle.std.proofs.Common.{◌&&◌, ◌∙◌, rules}
use Rattle.std.proofs.lemmas.Iterator.{YieldsList-from_slice}
use Rattle.std.proofs.lemmas.Iterator.Search.{all_from_yields_List}
use borrow.Author.Tests.{tests}
use Rattle.directory.specs.Directory.{view_of}
use Rattle.directory.specs.Sound.{sound}
use Rattle.calls.specs.Questions.{none_wait}
use Rattle.pool.proofs.Asking.{all_rows}
use Rattle.pool.proofs.tables.Tables.rows_are_calm.Goals as goal

pub returns : goal.returns
returns c =
    let rows = c.args.self.now.rows in
    all_from_yields_List (λ row. sound (view_of row) && none_wait (view_of row).waiting) _ _ c.all.result c.all.ensures.ran (YieldsList-from_slice rows cc) (λ x b q k. search (rules, tests))
    ∙ all_rows rows c.args.self.now.sound_rows

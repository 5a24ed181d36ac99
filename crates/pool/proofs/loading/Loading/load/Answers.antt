use Rattle.pool.proofs.Tidiness.{loaded_rows, loaded_lines}
use Rattle.pool.proofs.loading.Loading.load.Goals as goal

pub invariant_of-self-clause-tidy_rows : goal.invariant_of-self-clause-tidy_rows
invariant_of-self-clause-tidy_rows g c =
    let done = c.load.ensures in
    loaded_rows c.args.self.now.tables.slots _ _ _ c.args.stock.assignment done.in_range.0 done.in_range.1 _ done.rows c.args.self.now.tidy_rows

pub invariant_of-self-clause-tidy_lines : goal.invariant_of-self-clause-tidy_lines
invariant_of-self-clause-tidy_lines g c =
    let old = c.args.self.now in
    let was = old.tables in
    let done = c.load.ensures in
    loaded_lines was.slots was.rows _ _ _ done.in_range.0 done.in_range.1 _ _ done.slots done.rows was.many_slots was.many_rows c.in_ok-place.ensures.free old.tidy_lines

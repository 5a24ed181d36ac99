use Rattle.std.proofs.Common.{◌∙◌}
use Rattle.std.proofs.lemmas.List.{length-map}
use Rattle.directory.specs.Directory.{view_of}
use Rattle.lawful.proofs.Lawful.{lawful}
use Rattle.pool.specs.Stocks.{loads_in}
use Rattle.pool.specs.Pools.{model_of}
use Rattle.pool.proofs.Openings.{just_opened}
use Rattle.pool.proofs.loading.Loading.open.Goals as goal

pub returns-clause-as_loaded : goal.returns-clause-as_loaded
returns-clause-as_loaded g c =
    let old = c.args.self in
    just_opened _ old.lanes_empty old.tables.many_slots (length-map old.tables.rows view_of ∙ old.tables.many_rows) c.first_number.ensures old.tidy_rows old.tidy_lines

pub returns-clause-law : goal.returns-clause-law
returns-clause-law g c =
    let old = c.args.self in
    let m = model_of g.T.Transport (record { plan = old.plan; transport = old.transport; tables = old.tables; next = c.first_number.result }) in
    lawful g.T.Transport.room m (loads_in m) (just_opened m old.lanes_empty old.tables.many_slots (length-map old.tables.rows view_of ∙ old.tables.many_rows) c.first_number.ensures old.tidy_rows old.tidy_lines)

-- What an opened pool means: its model, read off its fields and its transport's lists.
use Rattle.std.specs.Prelude.{map, Ok, Err, Result}
use Rattle.messages.specs.Refusals.{Facts}
use Rattle.directory.specs.Directory.{view_of}
use Rattle.transport.specs.declared.interface.Transport as transport
use Rattle.calls.specs.declared.reports.Report.{Report}
use Rattle.calls.specs.Model.{Model}
use Rattle.calls.specs.Zones.{Done}
use Rattle.pool.specs.declared.opened.Opened.{Opened}

-- the rows by their views, the lanes by the transport's lists, all else as it is stored
abbrev pub model_of : {T : Type 0} → transport.Ghosts T → Opened T → Model
model_of t p =
    record {
      plan = p.plan;
      lanes = t.waiting p.transport;
      slots = p.tables.slots;
      rows = map view_of p.tables.rows;
      next = p.next;
      counts = p.tables.counts;
    }

-- the outcome of a call without a key: a refused one changes nothing
abbrev pub done_keyless : Model → Done → Result Report Facts × Model
done_keyless m (Ok (r, m')) = (Ok r, m')
done_keyless m (Err f) = (Err f, m)

-- What a call that is not refused does, decided before anything is written.
use Rattle.std.specs.Prelude.{◌≡◌, ℕ, ◌+◌, ◌*◌, true, List, Some, None, Ok, Err, Option, Result, slice_set}
use Rattle.directory.specs.Directory.{view_of}
use Rattle.transport.specs.declared.lanes.Lane.{Lane}
use Rattle.transport.specs.Lanes.{Lists, Rule, taken}
use Rattle.line.specs.declared.states.State.{State}
use Rattle.line.specs.Outcomes.{Outcome}
use Rattle.calls.specs.declared.faults.Fault.{Fault}
use Rattle.calls.specs.declared.slots.Counts.{Counts}
use Rattle.calls.specs.Faults.{facts_of}
use Rattle.calls.specs.Model.{Model, slot, state_at}
use Rattle.calls.specs.Sending.{sent_up, up_admits, sent_down, down_admits}
use Rattle.calls.specs.Directories.{with_row}
use Rattle.calls.specs.Zones.{Done}
use Rattle.pool.specs.declared.line_changes.LineChange.{LineChange}
use Rattle.pool.specs.declared.row_changes.RowChange.{RowChange}
use Rattle.pool.specs.Steps.{state_in}

-- the lanes once a delivered message is taken
abbrev pub after_take : Lists → Option Lane → Lists
after_take lists None = lists
after_take lists (Some lane) = taken lists lane

-- the counts with those of one zone set
abbrev pub counts_with : List Counts → ℕ → Option Counts → List Counts
counts_with counts zone None = counts
counts_with counts zone (Some c) = slice_set counts zone c

-- ── a change of one line ──

module _ {S : Type 0} where
  -- the pool after a change of one line, whose step comes to what `outcome` says
  abbrev pub line_changed : (S → State → Outcome) → Model → LineChange S → Model
  line_changed outcome m ch =
      record {
        plan = m.plan;
        lanes = sent_up (after_take m.lanes ch.delivered) ch.zone ch.place ch.sent;
        slots = slice_set m.slots (ch.zone * 32 + ch.place) (slot (state_in (outcome ch.step (state_at m ch.zone ch.place))) ch.number);
        rows = m.rows;
        next = ch.next;
        counts = counts_with m.counts ch.zone ch.counts;
      }

  -- a decision as an outcome
  abbrev pub line_done : (S → State → Outcome) → Model → Result (LineChange S) Fault → Done
  line_done outcome m (Ok ch) = Ok (ch.report, line_changed outcome m ch)
  line_done outcome m (Err f) = Err (facts_of f)

  -- a change that can be made: there is room for what its line sends
  abbrev pub LineReady : Rule → Lists → LineChange S → Type 0
  LineReady room lists ch = up_admits room lists ch.zone ch.sent ≡ true

-- ── a change of one row ──

-- the pool after a change of one row
abbrev pub row_changed : Model → RowChange → Model
row_changed m ch = with_row m ch.place (view_of ch.kept.row) (sent_down (after_take m.lanes ch.delivered) ch.place ch.outgoing.to)

-- a decision as an outcome
abbrev pub row_done : Model → Result RowChange Fault → Done
row_done m (Ok ch) = Ok (ch.report, row_changed m ch)
row_done m (Err f) = Err (facts_of f)

-- a change that can be made: there is room for what the directory sends
abbrev pub RowReady : Rule → Lists → RowChange → Type 0
RowReady room lists ch = down_admits room lists ch.outgoing.to ≡ true

-- What a zone does in the pool: a start, a let-go, a delivery from its down lane. Refusals in their order: read each call
-- from its last definition (`.._call`) upward, through its place or message, to what comes of the line's step (`.._by`).
use Rattle.std.specs.Prelude.{ℕ, ◌+◌, ◌*◌, min, cond, Some, None, Ok, Err, Option, Result, nat_lt, slice_set}
use Rattle.messages.specs.declared.requests.Request.{Request}
use Rattle.messages.specs.declared.requests.Answer.{Answer}
use Rattle.messages.specs.declared.kinds.Up.{Up as UpKind}
use Rattle.messages.specs.declared.kinds.Message.{Message}
use Rattle.messages.specs.Refusals.{Facts}
use Rattle.line.specs.declared.states.State.{State}
use Rattle.line.specs.Outcomes.{Outcome, refused, moved}
use Rattle.line.specs.Requested.{requested}
use Rattle.line.specs.Received.{received}
use Rattle.line.specs.LetGo.{let_go}
use Rattle.transport.specs.declared.faults.Subject.TheVariants.{Zone}
use Rattle.transport.specs.declared.lanes.Lane.TheVariants.{Down}
use Rattle.transport.specs.Faults as transport
use Rattle.transport.specs.Lanes.{Lists, Rule, oldest, taken}
use Rattle.rules.specs.declared.board.PauseBoard.{PauseBoard}
use Rattle.rules.specs.Boards.{paused_at}
use Rattle.calls.specs.declared.slots.Counts.{Counts}
use Rattle.calls.specs.declared.reports.Report.{Report}
use Rattle.calls.specs.Faults.{about_zone}
use Rattle.calls.specs.Model.{Model, slot, slot_at, state_at, counts_at}
use Rattle.calls.specs.Sending.{sent_up, up_admits}

-- what an accepted call reports, and the pool after it; or the facts of its refusal
abbrev pub Done : Type 0
Done = Result (Report × Model) Facts

-- the pool with the line of one zone and place, and its request number, set
abbrev pub with_slot : Model → ℕ → ℕ → State → ℕ → Lists → Model
with_slot m zone place l number lanes =
    record { plan = m.plan; lanes = lanes; slots = slice_set m.slots (zone * 32 + place) (slot l number); rows = m.rows; next = m.next; counts = m.counts }

-- room for what is sent up, or refusal 11 by the transport
abbrev pub if_up_room : Rule → Model → ℕ → Option UpKind → Report × Model → Done
if_up_room room m zone sent done = cond (up_admits room m.lanes zone sent) (Ok done) (Err (transport.refused 11 (Zone zone)))

-- ── a start ──

-- a request answered in its own start is settled there
abbrev pub start_report : ℕ → Option Answer → Report
start_report n None = record { number = Some n; settled = None; answered = None }
start_report n (Some a) = record { number = Some n; settled = Some n; answered = Some (record { number = n; answer = a }) }

-- one more; numbers end at 4,294,967,295, so that no count passes it
abbrev pub one_more : ℕ → ℕ
one_more n = min (n + 1) 4294967295

-- one start more, and one hit more where the start was answered by itself
abbrev pub start_counts : Counts → Option Answer → Counts
start_counts c None = record { hits = c.hits; starts = one_more c.starts }
start_counts c (Some a) = record { hits = one_more c.hits; starts = one_more c.starts }

-- the pool after an accepted start
abbrev pub started_model : Model → ℕ → ℕ → Option UpKind → Option Answer → State → Model
started_model m zone place sent answer l =
    record {
      plan = m.plan;
      lanes = sent_up m.lanes zone place sent;
      slots = slice_set m.slots (zone * 32 + place) (slot l m.next);
      rows = m.rows;
      next = m.next + 1;
      counts = slice_set m.counts zone (start_counts (counts_at m zone) answer);
    }

-- 9 where the line waits, 10 where the numbers are used up, 11
abbrev pub start_by : Rule → Model → ℕ → ℕ → Outcome → Done
start_by room m zone place (refused n l) = Err (about_zone n zone)
start_by room m zone place (moved sent answer l) =
    cond (nat_lt 4294967295 m.next) (Err (about_zone 10 zone))
    (if_up_room room m zone sent (start_report m.next answer, started_model m zone place sent answer l))

-- 8 where the key's place, known or next, is not in the row or not below the pool's places
abbrev pub start_in : Rule → Model → ℕ → Request → Option ℕ → Done
start_in room m zone q None = Err (about_zone 8 zone)
start_in room m zone q (Some place) =
    cond (nat_lt place m.plan.places) (start_by room m zone place (requested (state_at m zone place) q)) (Err (about_zone 8 zone))

-- 6 where the pool has no such zone, 7 where the zone is paused
abbrev pub start_call : Rule → Model → Option ℕ → PauseBoard → ℕ → Request → Done
start_call room m place board zone q =
    cond (nat_lt zone m.plan.zones) (cond (paused_at board zone) (Err (about_zone 7 zone)) (start_in room m zone q place)) (Err (about_zone 6 zone))

-- ── a let-go ──

-- a report of nothing
abbrev pub silent : Report
silent = record { number = None; settled = None; answered = None }

-- 12 where the line is not SU, 11
abbrev pub let_go_by : Rule → Model → ℕ → ℕ → Outcome → Done
let_go_by room m zone place (refused n l) = Err (about_zone n zone)
let_go_by room m zone place (moved sent answer l) =
    if_up_room room m zone sent (silent, with_slot m zone place l (slot_at m zone place).number (sent_up m.lanes zone place sent))

-- 13 where the key has no known place in this pool
abbrev pub let_go_in : Rule → Model → ℕ → Option ℕ → Done
let_go_in room m zone None = Err (about_zone 13 zone)
let_go_in room m zone (Some place) =
    cond (nat_lt place m.plan.places) (let_go_by room m zone place (let_go (state_at m zone place))) (Err (about_zone 13 zone))

-- 6 where the pool has no such zone
abbrev pub let_go_call : Rule → Model → Option ℕ → ℕ → Done
let_go_call room m place zone = cond (nat_lt zone m.plan.zones) (let_go_in room m zone place) (Err (about_zone 6 zone))

-- ── a delivery from the down lane ──

-- a delivery reports an answer under the number of the zone's request
abbrev pub down_report : ℕ → Option Answer → Report
down_report n None = silent
down_report n (Some a) = record { number = None; settled = None; answered = Some (record { number = n; answer = a }) }

-- the refusal of the line's step, with the zone; else 11, or what the step leaves
abbrev pub down_by : Rule → Model → ℕ → ℕ → Outcome → Done
down_by room m zone place (refused n l) = Err (about_zone n zone)
down_by room m zone place (moved sent answer l) =
    if_up_room room m zone sent
    (down_report (slot_at m zone place).number answer, with_slot m zone place l (slot_at m zone place).number (sent_up (taken m.lanes (Down zone)) zone place sent))

-- 14 where the lane is empty
abbrev pub down_from : Rule → Model → ℕ → Option Message → Done
down_from room m zone None = Err (about_zone 14 zone)
down_from room m zone (Some x) =
    cond (nat_lt x.place 32) (down_by room m zone x.place (received (state_at m zone x.place) x.kind)) (Err (about_zone 17 zone))

-- 6 where the pool has no such zone
abbrev pub down_call : Rule → Model → ℕ → Done
down_call room m zone = cond (nat_lt zone m.plan.zones) (down_from room m zone (oldest m.lanes (Down zone))) (Err (about_zone 6 zone))

-- What the directory does in the pool: a delivery from a zone's up lane, and a take-up. Refusals in their order: read each call
-- from its last definition (`.._call`) upward, to what comes of the directory's step (`.._by`).
use Rattle.std.specs.Prelude.{ℕ, cond, List, Some, None, Ok, Err, Option, nat_lt, slice_set}
use Rattle.messages.specs.declared.kinds.Down.{Down as DownKind}
use Rattle.messages.specs.declared.kinds.Message.{Message}
use Rattle.directory.specs.Directory.{Directory, Outcome, refused, went}
use Rattle.directory.specs.Arrivals.{delivered}
use Rattle.directory.specs.TakeUp.{taken_up}
use Rattle.transport.specs.declared.faults.Subject.{Subject}
use Rattle.transport.specs.declared.faults.Subject.TheVariants.{Zone, Place}
use Rattle.transport.specs.declared.lanes.Lane.TheVariants.{Up}
use Rattle.transport.specs.Faults as transport
use Rattle.transport.specs.Lanes.{Lists, Rule, oldest, taken}
use Rattle.calls.specs.declared.reports.Report.{Report}
use Rattle.calls.specs.Faults.{about_zone, about_place, about_nothing}
use Rattle.calls.specs.Model.{Model, slot_at, row_at}
use Rattle.calls.specs.Sending.{sent_down, down_admits}
use Rattle.calls.specs.Zones.{Done}

-- the number of the request that a zone waits for at a place
abbrev pub number_of : Model → ℕ → Option ℕ → Option ℕ
number_of m place None = None
number_of m place (Some zone) = Some (slot_at m zone place).number

-- what a step of the directory reports: the request settled, if any
abbrev pub settled_report : Option ℕ → Report
settled_report n = record { number = None; settled = n; answered = None }

-- the pool with the directory of one place, and the lanes, set
abbrev pub with_row : Model → ℕ → Directory → Lists → Model
with_row m place d lanes = record { plan = m.plan; lanes = lanes; slots = m.slots; rows = slice_set m.rows place d; next = m.next; counts = m.counts }

-- room for what is sent down, or refusal 11 by the transport; `lanes` are the lanes once a delivered message is taken
abbrev pub if_down_room : Rule → Model → Subject → ℕ → List (Option DownKind) → Option ℕ → Directory → Lists → Done
if_down_room room m subject place to settled d lanes =
    cond (down_admits room m.lanes to)
    (Ok (settled_report (number_of m place settled), with_row m place d (sent_down lanes place to)))
    (Err (transport.refused 11 subject))

-- ── a delivery from an up lane ──

-- the refusal of the directory's step, with the zone; else 11, or what the step leaves
abbrev pub up_by : Rule → Model → ℕ → ℕ → Outcome → Done
up_by room m zone place (refused n d) = Err (about_zone n zone)
up_by room m zone place (went to settled d) = if_down_room room m (Zone zone) place to settled d (taken m.lanes (Up zone))

-- 14 where the lane is empty
abbrev pub up_from : Rule → Model → ℕ → Option Message → Done
up_from room m zone None = Err (about_zone 14 zone)
up_from room m zone (Some x) =
    cond (nat_lt x.place 32) (up_by room m zone x.place (delivered x.kind zone (row_at m x.place))) (Err (about_zone 17 zone))

-- 6 where the pool has no such zone
abbrev pub up_call : Rule → Model → ℕ → Done
up_call room m zone = cond (nat_lt zone m.plan.zones) (up_from room m zone (oldest m.lanes (Up zone))) (Err (about_zone 6 zone))

-- ── a take-up ──

-- 15 where the place is being served, 16 where nothing waits there, 11
abbrev pub take_up_by : Rule → Model → ℕ → Outcome → Done
take_up_by room m place (refused n d) = Err (about_place n place)
take_up_by room m place (went to settled d) = if_down_room room m (Place place) place to settled d m.lanes

-- 13 where the key has no known place in this pool
abbrev pub take_up_call : Rule → Model → Option ℕ → Done
take_up_call room m None = Err (about_nothing 13)
take_up_call room m (Some place) = cond (nat_lt place m.plan.places) (take_up_by room m place (taken_up (row_at m place))) (Err (about_nothing 13))

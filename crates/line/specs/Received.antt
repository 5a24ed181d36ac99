-- What a message from the directory does at a line: the tables of asks and of replies by states.
use Rattle.std.specs.Prelude.{ℕ, Some, None, Ok, Err, Option, Result}
use Rattle.messages.specs.declared.assignments.Assignment.{Assignment}
use Rattle.messages.specs.declared.requests.Answer.{Answer}
use Rattle.messages.specs.declared.requests.Answer.TheVariants.{Nothing, Old, Stored, Removed}
use Rattle.messages.specs.declared.kinds.Up.{Up}
use Rattle.messages.specs.declared.kinds.Up.TheVariants.{Data, Purged}
use Rattle.messages.specs.declared.kinds.Ask.{Ask}
use Rattle.messages.specs.declared.kinds.Ask.TheVariants.{SendData, SendDataAndInvalidate, Invalidate}
use Rattle.messages.specs.declared.kinds.Reply.{Reply}
use Rattle.messages.specs.declared.kinds.Reply.TheVariants.{DataFound, ExclusionMade, NoDataFound}
use Rattle.messages.specs.declared.kinds.Down.{Down}
use Rattle.messages.specs.declared.kinds.Down.TheVariants as down
use Rattle.messages.specs.declared.kinds.Kind.{Kind}
use Rattle.messages.specs.declared.kinds.Kind.TheVariants as kind
use Rattle.messages.specs.declared.refusals.Refusal.{Refusal}
use Rattle.messages.specs.Refusals.{refusal_number}
use Rattle.line.specs.declared.states.Write.{Write}
use Rattle.line.specs.declared.states.Write.TheVariants as write
use Rattle.line.specs.declared.states.Purge.{Purge}
use Rattle.line.specs.declared.states.Purge.TheVariants as purge
use Rattle.line.specs.declared.states.State.{State}
use Rattle.line.specs.declared.states.State.TheVariants.{Invalid, Exclusive, SharedOwned, SharedUnowned, WaitingExclusion, WaitingExclusionIfAny, WaitingPurge, WaitingSharedData, WaitingExclusiveData, WaitingExclusiveDataIfAny, WaitingPurgeData}
use Rattle.line.specs.Outcomes.{Outcome, refused, moved, answers}

-- ── asks ──

-- E and SO: what is sent, and the state after
abbrev pub of_owner : Assignment → Ask → Up × State
of_owner copy SendData = (Data copy, SharedUnowned copy)
of_owner copy SendDataAndInvalidate = (Data copy, Invalid)
of_owner copy Invalidate = (Purged, Invalid)

-- WE, WEI and WP: what is sent, and what is left of the copy
abbrev pub given : Option Assignment → Ask → Result (Up × Option Assignment) ℕ
given None a = Err 17
given (Some copy) SendData = Ok (Data copy, Some copy)
given (Some copy) SendDataAndInvalidate = Ok (Data copy, None)
given (Some copy) Invalidate = Ok (Purged, None)

-- what is sent, or a refusal's number, together with what is left of the copy
abbrev pub with_rest : Result Up Refusal → Option Assignment → Result (Up × Option Assignment) ℕ
with_rest (Ok m) rest = Ok (m, rest)
with_rest (Err e) rest = Err (refusal_number e)

-- a message is sent up, and nothing is answered
abbrev pub sends : Up × State → Outcome
sends (m, l) = moved (Some m) None l

-- nothing is sent and nothing changes
abbrev pub ignores : State → Outcome
ignores l = moved None None l

-- SU
abbrev pub of_unowned : Assignment → Ask → Outcome
of_unowned copy SendData = refused 17 (SharedUnowned copy)
of_unowned copy SendDataAndInvalidate = refused 17 (SharedUnowned copy)
of_unowned copy Invalidate = sends (Purged, Invalid)

-- a waiting line that keeps `rest` of its copy is `waits rest`
abbrev pub of_waiting : (Option Assignment → State) → Option Assignment → Result (Up × Option Assignment) ℕ → Outcome
of_waiting waits copy (Ok (m, rest)) = sends (m, waits rest)
of_waiting waits copy (Err n) = refused n (waits copy)

-- the table of asks: others than E, SO, SU, WE, WEI and WP pass over them
abbrev pub asked : State → Ask → Outcome
asked (Exclusive copy) a = sends (of_owner copy a)
asked (SharedOwned copy) a = sends (of_owner copy a)
asked (SharedUnowned copy) a = of_unowned copy a
asked (WaitingExclusion w copy) a = of_waiting (WaitingExclusion w) copy (given copy a)
asked (WaitingExclusionIfAny new copy) a = of_waiting (WaitingExclusionIfAny new) copy (given copy a)
asked (WaitingPurge p copy) a = of_waiting (WaitingPurge p) copy (given copy a)
asked Invalid a = ignores Invalid
asked WaitingSharedData a = ignores WaitingSharedData
asked (WaitingExclusiveData w) a = ignores (WaitingExclusiveData w)
asked (WaitingExclusiveDataIfAny new) a = ignores (WaitingExclusiveDataIfAny new)
asked (WaitingPurgeData p) a = ignores (WaitingPurgeData p)

-- ── replies ──

-- the answer "old": the message's assignment, the line's copy, or none; 17 where a copy is needed and lacking
abbrev pub old_answered : Option Assignment → Reply → Result Answer ℕ
old_answered copy (DataFound found) = Ok (Old found)
old_answered (Some copy) ExclusionMade = Ok (Old copy)
old_answered None ExclusionMade = Err 17
old_answered copy NoDataFound = Ok Nothing

-- an answer together with the state after it
abbrev pub with_state : State → Result Answer ℕ → Result (Answer × State) ℕ
with_state l (Ok a) = Ok (a, l)
with_state l (Err n) = Err n

-- WE and WED: always E, with the new assignment
abbrev pub write_ends : Write → Option Assignment → Reply → Result (Answer × State) ℕ
write_ends (write.Put new) copy r = Ok (Stored, Exclusive new)
write_ends (write.GetIfAnyAndPut new) copy r = with_state (Exclusive new) (old_answered copy r)

-- WEI and WEID: E with the new assignment, or I on no_data_found
abbrev pub write_if_any_ends : Assignment → Option Assignment → Reply → Result (Answer × State) ℕ
write_if_any_ends new copy (DataFound found) = with_state (Exclusive new) (old_answered copy (DataFound found))
write_if_any_ends new copy ExclusionMade = with_state (Exclusive new) (old_answered copy ExclusionMade)
write_if_any_ends new copy NoDataFound = Ok (Nothing, Invalid)

-- WP and WPD: always I; a remove is answered removed, except on no_data_found
abbrev pub purge_ends : Purge → Option Assignment → Reply → Result (Answer × State) ℕ
purge_ends purge.GetIfAny copy r = with_state Invalid (old_answered copy r)
purge_ends purge.Remove copy (DataFound found) = Ok (Removed, Invalid)
purge_ends purge.Remove copy ExclusionMade = Ok (Removed, Invalid)
purge_ends purge.Remove copy NoDataFound = Ok (Nothing, Invalid)

-- WSD: SO with the message's assignment, or I
abbrev pub read_ends : Reply → Result (Answer × State) ℕ
read_ends (DataFound found) = Ok (Old found, SharedOwned found)
read_ends ExclusionMade = Err 17
read_ends NoDataFound = Ok (Nothing, Invalid)

-- the request is answered, or the reply refused and the line left as it was
abbrev pub ends : State → Result (Answer × State) ℕ → Outcome
ends l (Ok (a, next)) = answers a next
ends l (Err n) = refused n l

-- the table of replies: a line that does not wait refuses them
abbrev pub replied : State → Reply → Outcome
replied Invalid r = refused 17 Invalid
replied (Exclusive copy) r = refused 17 (Exclusive copy)
replied (SharedOwned copy) r = refused 17 (SharedOwned copy)
replied (SharedUnowned copy) r = refused 17 (SharedUnowned copy)
replied (WaitingExclusion w copy) r = ends (WaitingExclusion w copy) (write_ends w copy r)
replied (WaitingExclusiveData w) r = ends (WaitingExclusiveData w) (write_ends w None r)
replied (WaitingExclusionIfAny new copy) r = ends (WaitingExclusionIfAny new copy) (write_if_any_ends new copy r)
replied (WaitingExclusiveDataIfAny new) r = ends (WaitingExclusiveDataIfAny new) (write_if_any_ends new None r)
replied (WaitingPurge p copy) r = ends (WaitingPurge p copy) (purge_ends p copy r)
replied (WaitingPurgeData p) r = ends (WaitingPurgeData p) (purge_ends p None r)
replied WaitingSharedData r = ends WaitingSharedData (read_ends r)

-- ── any message ──

-- an ask or a reply
abbrev pub received_down : State → Down → Outcome
received_down l (down.Ask a) = asked l a
received_down l (down.Reply r) = replied l r

-- a kind that travels up has no place in a down lane
abbrev pub received : State → Kind → Outcome
received l (kind.Up u) = refused 17 l
received l (kind.Down d) = received_down l d

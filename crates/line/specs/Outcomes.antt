-- What a step of a line comes to.
use Rattle.std.specs.Prelude.{ℕ, Some, None, Ok, Err, Option, Result}
use Rattle.messages.specs.declared.kinds.Up.{Up}
use Rattle.messages.specs.declared.kinds.Up.TheVariants as up
use Rattle.messages.specs.declared.kinds.Demand.{Demand}
use Rattle.messages.specs.declared.requests.Answer.{Answer}
use Rattle.messages.specs.declared.refusals.Refusal.{Refusal}
use Rattle.messages.specs.Refusals.{refusal_number}
use Rattle.line.specs.declared.states.State.{State}
use Rattle.line.specs.declared.states.Effect.{Effect}

-- a refusal with its number, or the message sent and the answer given; and the line's state at the end
pub data Outcome : Type 0 where
  refused : ℕ → State → Outcome
  moved : Option Up → Option Answer → State → Outcome

-- the outcome that a step's result and the state at exit tell
abbrev pub outcome_of : Result Effect Refusal → State → Outcome
outcome_of (Ok e) l = moved e.sent e.answer l
outcome_of (Err r) l = refused (refusal_number r) l

-- the same, of a step that is not refused
abbrev pub moved_to : Effect × State → Outcome
moved_to (e, l) = moved e.sent e.answer l

-- a request is sent to the directory, and the line waits
abbrev pub demands : Demand → State → Outcome
demands k l = moved (Some (up.Demand k)) None l

-- the request is answered
abbrev pub answers : Answer → State → Outcome
answers a l = moved None (Some a) l

-- the request is answered, and the zone reports that it left the cache list
abbrev pub reports : Answer → State → Outcome
reports a l = moved (Some up.Report) (Some a) l

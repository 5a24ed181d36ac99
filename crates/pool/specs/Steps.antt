-- What is known of a line's step before it is done.
use Rattle.std.specs.Prelude.{ℕ, Ok, Err, Option, Result}
use Rattle.messages.specs.declared.kinds.Up.{Up}
use Rattle.messages.specs.declared.requests.Answer.{Answer}
use Rattle.messages.specs.Refusals.{Facts}
use Rattle.line.specs.declared.states.Effect.{Effect}
use Rattle.line.specs.declared.states.State.{State}
use Rattle.line.specs.Outcomes.{Outcome, refused, moved}
use Rattle.calls.specs.declared.faults.Fault.{Fault}
use Rattle.calls.specs.Faults.{about_zone, facts_of}

-- the state that a step ends with; a refused one leaves it as it was
abbrev pub state_in : Outcome → State
state_in (refused n l) = l
state_in (moved sent answer l) = l

-- what a step sends and answers, or the facts of its refusal with the zone
abbrev pub effect_in : ℕ → Outcome → Result (Option Up × Option Answer) Facts
effect_in zone (refused n l) = Err (about_zone n zone)
effect_in zone (moved sent answer l) = Ok (sent, answer)

-- the same, of an effect or a fault
abbrev pub effect_seen : Result Effect Fault → Result (Option Up × Option Answer) Facts
effect_seen (Ok e) = Ok (e.sent, e.answer)
effect_seen (Err f) = Err (facts_of f)

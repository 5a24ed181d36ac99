-- What a step that was foreseen comes to.
use Rattle.std.proofs.Common.{◌≡◌, ℕ, Ok, Err, Option, Result, sym, refl, ap}
use Rattle.messages.specs.declared.kinds.Up.{Up}
use Rattle.messages.specs.declared.requests.Answer.{Answer}
use Rattle.messages.specs.Refusals.{Facts}
use Rattle.line.specs.declared.states.Effect.{Effect}
use Rattle.line.specs.declared.states.State.{State}
use Rattle.line.specs.Outcomes.{Outcome, refused, moved}
use Rattle.transport.specs.Lanes.{Rule}
use Rattle.calls.specs.declared.faults.Fault.{Fault}
use Rattle.calls.specs.Faults.{about_zone, facts_of}
use Rattle.calls.specs.Model.{Model}
use Rattle.calls.specs.Zones.{start_by, down_by}
use Rattle.pool.specs.Steps.{state_in, effect_in, effect_seen}

-- `by` goes on from an outcome, and ends with the facts of a refusal
module _ (zone : ℕ) {Y : Type 0} (by : Outcome → Result Y Facts) (ends : (n : ℕ) (l : State) → by (refused n l) ≡ Err (about_zone n zone)) where
  goes_on : (o : Outcome) (e : Effect) → effect_seen (Ok e) ≡ effect_in zone o → by o ≡ by (moved e.sent e.answer (state_in o))
  goes_on (refused n l) e h = cc
  goes_on (moved sent answer l) e h =
      let same : ◌≡◌ {A = Option Up × Option Answer} (e.sent, e.answer) (sent, answer) = cc in
      ap (λ (p : Option Up × Option Answer). by (moved p.0 p.1 l)) (sym same)

  stops : (o : Outcome) (f : Fault) → effect_seen (Err f) ≡ effect_in zone o → by o ≡ Err (facts_of f)
  stops (refused n l) f h = cc (ends n l)
  stops (moved sent answer l) f h = cc

module _ (room : Rule) (m : Model) (zone place : ℕ) where
  pub start_goes_on : (o : Outcome) (e : Effect) → effect_seen (Ok e) ≡ effect_in zone o → start_by room m zone place o ≡ start_by room m zone place (moved e.sent e.answer (state_in o))
  start_goes_on = goes_on zone (start_by room m zone place) (λ n l. refl)

  pub start_stops : (o : Outcome) (f : Fault) → effect_seen (Err f) ≡ effect_in zone o → start_by room m zone place o ≡ Err (facts_of f)
  start_stops = stops zone (start_by room m zone place) (λ n l. refl)

  pub down_goes_on : (o : Outcome) (e : Effect) → effect_seen (Ok e) ≡ effect_in zone o → down_by room m zone place o ≡ down_by room m zone place (moved e.sent e.answer (state_in o))
  down_goes_on = goes_on zone (down_by room m zone place) (λ n l. refl)

  pub down_stops : (o : Outcome) (f : Fault) → effect_seen (Err f) ≡ effect_in zone o → down_by room m zone place o ≡ Err (facts_of f)
  down_stops = stops zone (down_by room m zone place) (λ n l. refl)

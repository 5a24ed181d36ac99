-- What the directory keeps for one place, and what a step of it comes to.
use Rattle.std.specs.Prelude.{ℕ, List, ◌∷◌, map, Some, None, Ok, Err, Option, Result}
use Rattle.messages.specs.declared.kinds.Down.{Down}
use Rattle.messages.specs.declared.refusals.Refusal.{Refusal}
use Rattle.messages.specs.Refusals.{refusal_number}
use Rattle.directory.specs.declared.rows.Waiting.{Waiting}
use Rattle.directory.specs.declared.rows.Served.{Served}
use Rattle.directory.specs.declared.rows.Row.{Row}
use Rattle.directory.specs.declared.rows.Effect.{Effect}
use Rattle.directory.specs.Lists.{items_of}

-- the cache list, owner first; the waiting requests in order of arrival; at most one request being served
pub record Directory : Type 0 where
  pub list : List ℕ
  pub waiting : List Waiting
  pub served : Option Served

-- what a row of a table stands for
abbrev pub view_of : Row → Directory
view_of r = record { list = items_of r.list; waiting = items_of r.waiting; served = r.served }

-- a directory from its three parts
abbrev pub directory : List ℕ → List Waiting → Option Served → Directory
directory list waiting served = record { list = list; waiting = waiting; served = served }

-- a refusal with its number, or the message sent to each of the eight zones and the zone whose request was settled;
-- and the directory at the end
pub data Outcome : Type 0 where
  refused : ℕ → Directory → Outcome
  went : List (Option Down) → Option ℕ → Directory → Outcome

-- the outcome that a step's result and the directory at exit tell
abbrev pub outcome_of : Result Effect Refusal → Directory → Outcome
outcome_of (Ok e) d = went e.outgoing.to e.settled d
outcome_of (Err r) d = refused (refusal_number r) d

-- the zones whose requests wait
abbrev pub requesters : List Waiting → List ℕ
requesters ws = map (λ w. w.zone) ws

-- the zones of a served request, if any, and of the waiting ones
abbrev pub busy_with : Option Served → List Waiting → List ℕ
busy_with None ws = requesters ws
busy_with (Some s) ws = s.zone ∷ requesters ws

-- the zones whose requests wait or are served
abbrev pub busy : Directory → List ℕ
busy d = busy_with d.served d.waiting

-- Questions to a pool, by the register's keys in use.
use Rattle.std.specs.Prelude.{ℕ, Bool, true, false, cond, ◌&&◌, List, [], ◌∷◌, Some, None, Option, nat_lt}
use Rattle.messages.specs.declared.assignments.Assignment.{Assignment}
use Rattle.messages.specs.declared.kinds.Message.{Message}
use Rattle.line.specs.Questions.{readable, holds_exclusively}
use Rattle.directory.specs.Directory.{Directory}
use Rattle.directory.specs.declared.rows.Waiting.{Waiting}
use Rattle.transport.specs.Lanes.{Lists}
use Rattle.keys.specs.Places.{place_of}
use Rattle.calls.specs.Model.{Model, state_at}

-- a key's place in this pool
abbrev pub place_in : Model → Option ℕ → Option ℕ
place_in m None = None
place_in m (Some place) = cond (nat_lt place m.plan.places) (Some place) None

-- what a zone can read at a place of this pool; nothing where the pool has no such zone
abbrev pub reads_at : Model → ℕ → Option ℕ → Option Assignment
reads_at m zone None = None
reads_at m zone (Some place) = cond (nat_lt zone m.plan.zones) (readable (state_at m zone place)) None

-- what a zone can read of a key: what its line would itself answer to carbon_copy
abbrev pub reads : {K : Type 0} → (K → List ℕ) → Model → List K → ℕ → K → Option Assignment
reads meaning m ks zone key = reads_at m zone (place_in m (place_of meaning ks key))

-- whether a zone holds exclusively at a place of this pool; no where the pool has no such zone
abbrev pub holds_at : Model → ℕ → Option ℕ → Bool
holds_at m zone None = false
holds_at m zone (Some place) = cond (nat_lt zone m.plan.zones) (holds_exclusively (state_at m zone place)) false

-- whether a zone holds a key exclusively: its line would itself answer put
abbrev pub holds : {K : Type 0} → (K → List ℕ) → Model → List K → ℕ → K → Bool
holds meaning m ks zone key = holds_at m zone (place_in m (place_of meaning ks key))

-- a lane has no message
abbrev pub no_messages : List Message → Bool
no_messages [] = true
no_messages (x ∷ xs) = false

-- no lane has a message
abbrev pub lanes_empty : Lists → Bool
lanes_empty [] = true
lanes_empty (l ∷ ls) = no_messages l && lanes_empty ls

-- no request waits
abbrev pub none_wait : List Waiting → Bool
none_wait [] = true
none_wait (w ∷ ws) = false

-- no request waits at any place; one that is served does not count
abbrev pub rows_calm : List Directory → Bool
rows_calm [] = true
rows_calm (d ∷ ds) = none_wait d.waiting && rows_calm ds

-- quiet: all lanes are empty, and no request waits at the directory
unfoldable pub quiet : Model → Bool
quiet m = lanes_empty m.lanes && rows_calm m.rows

-- One key in the whole pool: the central pool's value, the directory's record, and each zone's lanes, line and outstanding request.
use Rattle.std.specs.Prelude.{ℕ, cond, List, [], ◌∷◌, Some, None, Option, ◌==◌}
use Rattle.messages.specs.declared.assignments.Assignment.{Assignment}
use Rattle.messages.specs.declared.requests.Request.{Request}
use Rattle.messages.specs.declared.requests.Answer.{Answer}
use Rattle.messages.specs.declared.kinds.Kind.{Kind}
use Rattle.line.specs.declared.states.State.{State}
use Rattle.line.specs.declared.states.State.TheVariants.{Invalid, Exclusive}
use Rattle.directory.specs.Directory.{Directory, directory}

-- a zone's request: none is outstanding; accepted and not settled; settled, with the answer that the central pool gave
pub data Pending : Type 0 where
  free : Pending
  accepted : Request → Pending
  settled : Request → Answer → Pending

-- by zones; a lane holds its messages of this key, the oldest first
pub record System : Type 0 where
  pub central : Option Assignment
  pub dir : Directory
  pub up : ℕ → List Kind
  pub down : ℕ → List Kind
  pub line : ℕ → State
  pub pending : ℕ → Pending

-- f with a at a zone
abbrev pub at {ℓ} : {A : Type ℓ} → ℕ → A → (ℕ → A) → ℕ → A
at zone a f y = cond (y == zone) a (f y)

-- nobody has the key
abbrev pub fresh : System
fresh =
    record {
      central = None;
      dir = directory [] [] None;
      up = λ y. [];
      down = λ y. [];
      line = λ y. Invalid;
      pending = λ y. free;
    }

-- one zone has the only copy
abbrev pub loaded : ℕ → Assignment → System
loaded zone v =
    record {
      central = Some v;
      dir = directory (zone ∷ []) [] None;
      up = λ y. [];
      down = λ y. [];
      line = at zone (Exclusive v) (λ y. Invalid);
      pending = λ y. free;
    }

-- The invariant of one key.
use Rattle.std.proofs.Common.{◌≡◌, ℕ, Bool, true, false, ◌&&◌, ltb, List, [], ◌∷◌, is_some, Some, None, Option}
use Rattle.messages.specs.declared.assignments.Assignment.{Assignment}
use Rattle.messages.specs.declared.kinds.Kind.{Kind}
use Rattle.directory.specs.declared.rows.Rule.{Rule}
use Rattle.directory.specs.declared.rows.Rule.TheVariants.{Sharing, Fetching, Clearing}
use Rattle.directory.specs.declared.rows.Waiting.{Waiting}
use Rattle.directory.specs.declared.rows.Served.{Served}
use Rattle.directory.specs.Lists.{listed}
use Rattle.directory.specs.Serving.{rule_of, awaits_any}
use Rattle.directory.specs.TakeUp.{wants_data}
use Rattle.coherence.specs.System.{System}
use Rattle.coherence.proofs.Views.{Link}
use Rattle.coherence.proofs.Seen.{waiting_of, seen}

-- a zone has at most one request waiting
abbrev pub Distinct : List Waiting → Type 0
Distinct [] = Unit {0}
Distinct (w ∷ ws) = (waiting_of ws w.zone ≡ None) × Distinct ws

-- What has come for a served request, by its rule, whether its zone was listed, and whether the owner at the take-up is still
-- listed; c is the central pool's value.
abbrev pub Brought : Rule → Bool → Bool → Option Assignment → Option Assignment → Bool → Type 0
Brought Sharing was_listed true c found purged = found ≡ None
Brought Sharing was_listed false c found purged = (found ≡ None) × (c ≡ None)
Brought Fetching was_listed true c found purged = found ≡ None
Brought Fetching was_listed false c found purged = found ≡ c
Brought Clearing true owner_listed c found purged = Unit {0}
Brought Clearing false true c found purged = purged ≡ false
Brought Clearing false false c found purged = purged ≡ is_some c

pub record Serves (c : Option Assignment) (xs : List ℕ) (ws : List Waiting) (s : Served) : Type 0 where
  -- the requester is one of the eight zones, listed exactly if it was at the take-up, and has no other request waiting
  pub a_zone : ltb s.zone 8 ≡ true
  pub listed_as_before : listed xs s.zone ≡ s.was_listed
  pub unqueued : waiting_of ws s.zone ≡ None
  -- a demand for data is never a listed zone's
  pub has_its_place : (s.was_listed && wants_data s.demand) ≡ false
  pub brought : Brought (rule_of s.demand s.was_listed) s.was_listed (listed xs s.owner) c s.found s.owner_purged

-- an empty list means an empty pool; a request is served only while some zone is awaited
abbrev pub Ready : Option Assignment → List ℕ → List Waiting → Option Served → Type 0
Ready c xs ws None = xs ≡ [] → c ≡ None
Ready c xs ws (Some s) = Serves c xs ws s × (awaits_any s xs ≡ true)

abbrev pub Linked : System → ℕ → Type 0
Linked s y = Link s.central (seen s.dir y) (s.up y) (s.line y) (s.down y) (s.pending y)

-- there is no zone above 7: none is listed, has a request waiting, or has sent anything
abbrev pub Beyond : (ℕ → List Kind) → List ℕ → List Waiting → Type 0
Beyond up xs ws = (y : ℕ) → ltb y 8 ≡ false → (listed xs y ≡ false) × (waiting_of ws y ≡ None) × (up y ≡ [])

pub record Inv (s : System) : Type 0 where
  pub linked : (y : ℕ) → Linked s y
  pub beyond : Beyond s.up s.dir.list s.dir.waiting
  pub distinct : Distinct s.dir.waiting
  pub ready : Ready s.central s.dir.list s.dir.waiting s.dir.served

-- The steps of one key, each from the outcome that the line's or the directory's own definition gives; and the runs that they make.
use Rattle.std.specs.Prelude.{◌≡◌, ℕ, ◌<◌, List, [], ◌∷◌, ◌++◌, Some, None, Option, slice_index_or}
use Rattle.messages.specs.declared.assignments.Assignment.{Assignment}
use Rattle.messages.specs.declared.requests.Request.{Request}
use Rattle.messages.specs.declared.requests.Answer.{Answer}
use Rattle.messages.specs.declared.kinds.Up.{Up}
use Rattle.messages.specs.declared.kinds.Down.{Down}
use Rattle.messages.specs.declared.kinds.Kind.{Kind}
use Rattle.messages.specs.declared.kinds.Kind.TheVariants as kind
use Rattle.messages.specs.Central.{answered, left}
use Rattle.line.specs.declared.states.State.{State}
use Rattle.line.specs.Outcomes.{moved}
use Rattle.line.specs.Requested.{requested}
use Rattle.line.specs.LetGo.{let_go}
use Rattle.line.specs.Received.{received}
use Rattle.directory.specs.Directory.{Directory, went}
use Rattle.directory.specs.Arrivals.{delivered}
use Rattle.directory.specs.TakeUp.{taken_up}
use Rattle.coherence.specs.System.{System, Pending, free, accepted, settled, at, fresh, loaded}

-- ── a zone's steps ──

-- what joins the up lane
abbrev pub sent_up : Option Up → List Kind
sent_up None = []
sent_up (Some m) = kind.Up m ∷ []

-- a request that is answered in its start is served by the central pool at once
abbrev pub central_at_start : Option Answer → Request → Option Assignment → Option Assignment
central_at_start None r c = c
central_at_start (Some a) r c = left r c

-- and one that is not is outstanding from now on
abbrev pub pending_at_start : Option Answer → Request → Pending → Pending
pending_at_start None r p = accepted r
pending_at_start (Some a) r p = p

-- zone z starts the request r: its line sends, answers and is l afterwards
abbrev pub after_request : System → ℕ → Request → Option Up → Option Answer → State → System
after_request s z r sent answer l =
    record {
      central = central_at_start answer r s.central;
      dir = s.dir;
      up = at z (s.up z ++ sent_up sent) s.up;
      down = s.down;
      line = at z l s.line;
      pending = at z (pending_at_start answer r (s.pending z)) s.pending;
    }

-- zone z lets its copy go
abbrev pub after_let_go : System → ℕ → Option Up → State → System
after_let_go s z sent l =
    record {
      central = s.central;
      dir = s.dir;
      up = at z (s.up z ++ sent_up sent) s.up;
      down = s.down;
      line = at z l s.line;
      pending = s.pending;
    }

-- an answer by delivery ends the request
abbrev pub pending_at_delivery : Option Answer → Pending → Pending
pending_at_delivery None p = p
pending_at_delivery (Some a) p = free

-- zone z takes the oldest message of its down lane, and rest is left in the lane
abbrev pub after_down : System → ℕ → List Kind → Option Up → Option Answer → State → System
after_down s z rest sent answer l =
    record {
      central = s.central;
      dir = s.dir;
      up = at z (s.up z ++ sent_up sent) s.up;
      down = at z rest s.down;
      line = at z l s.line;
      pending = at z (pending_at_delivery answer (s.pending z)) s.pending;
    }

-- ── the directory's steps ──

-- what joins a down lane
abbrev pub sent_down : Option Down → List Kind
sent_down None = []
sent_down (Some m) = kind.Down m ∷ []

-- a request that is settled is served by the central pool at that moment
abbrev pub central_serving : Pending → Option Assignment → Option Assignment
central_serving free c = c
central_serving (accepted r) c = left r c
central_serving (settled r a) c = c

-- and its answer is kept
abbrev pub pending_served : Pending → Option Assignment → Pending
pending_served free c = free
pending_served (accepted r) c = settled r (answered r c)
pending_served (settled r a) c = settled r a

-- what the central pool has once the zone's request, if any, is settled
abbrev pub central_settling : Option ℕ → System → Option Assignment
central_settling None s = s.central
central_settling (Some x) s = central_serving (s.pending x) s.central

-- the zones' requests once that of one zone, if any, is settled
abbrev pub pending_settling : Option ℕ → System → ℕ → Pending
pending_settling None s = s.pending
pending_settling (Some x) s = at x (pending_served (s.pending x) s.central) s.pending

-- the directory is d afterwards, has sent each zone its message, and has settled a zone's request
abbrev pub after_directory : System → List (Option Down) → Option ℕ → Directory → System
after_directory s to x d =
    record {
      central = central_settling x s;
      dir = d;
      up = s.up;
      down = λ y. s.down y ++ sent_down (slice_index_or to y None);
      line = s.line;
      pending = pending_settling x s;
    }

-- zone z's up lane without its oldest message
abbrev pub taken_from : System → ℕ → List Kind → System
taken_from s z rest =
    record { central = s.central; dir = s.dir; up = at z rest s.up; down = s.down; line = s.line; pending = s.pending }

-- ── runs: any accepted steps of zones below 8, in any order and number ──

-- the states that runs reach
pub data Run : System → Type 0 where
  nobody_has_it : Run fresh
  one_has_it : (z : ℕ) → z < 8 → (v : Assignment) → Run (loaded z v)
  request : {s : System} → Run s → (z : ℕ) → z < 8 → (r : Request) (sent : Option Up) (answer : Option Answer) (l : State) →
      requested (s.line z) r ≡ moved sent answer l → Run (after_request s z r sent answer l)
  letting_go : {s : System} → Run s → (z : ℕ) → z < 8 → (sent : Option Up) (l : State) →
      let_go (s.line z) ≡ moved sent None l → Run (after_let_go s z sent l)
  delivery_down : {s : System} → Run s → (z : ℕ) → z < 8 → (m : Kind) (rest : List Kind) (sent : Option Up) (answer : Option Answer) (l : State) →
      s.down z ≡ m ∷ rest → received (s.line z) m ≡ moved sent answer l → Run (after_down s z rest sent answer l)
  delivery_up : {s : System} → Run s → (z : ℕ) (m : Kind) (rest : List Kind) (to : List (Option Down)) (x : Option ℕ) (d : Directory) →
      s.up z ≡ m ∷ rest → delivered m z s.dir ≡ went to x d → Run (after_directory (taken_from s z rest) to x d)
  take_up : {s : System} → Run s → (to : List (Option Down)) (x : Option ℕ) (d : Directory) →
      taken_up s.dir ≡ went to x d → Run (after_directory s to x d)

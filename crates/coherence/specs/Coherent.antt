-- What holds of one key in every run.
use Rattle.std.specs.Prelude.{◌≡◌, ℕ, ◌≤◌, true, ◌≢◌, List, [], ◌∷◌, length, Some, None, Option}
use Rattle.messages.specs.declared.assignments.Assignment.{Assignment}
use Rattle.messages.specs.declared.requests.Request.{Request}
use Rattle.messages.specs.declared.requests.Answer.{Answer}
use Rattle.messages.specs.declared.kinds.Up.{Up}
use Rattle.messages.specs.declared.kinds.Down.{Down}
use Rattle.messages.specs.declared.kinds.Kind.{Kind}
use Rattle.messages.specs.Central.{answered}
use Rattle.line.specs.declared.states.State.{State}
use Rattle.line.specs.Outcomes as line
use Rattle.line.specs.Requested.{requested}
use Rattle.line.specs.Received.{received}
use Rattle.line.specs.Questions.{readable, answers_put}
use Rattle.directory.specs.Directory.{Directory}
use Rattle.directory.specs.Directory as directory
use Rattle.directory.specs.Arrivals.{delivered}
use Rattle.directory.specs.TakeUp.{taken_up}
use Rattle.coherence.specs.System.{System, free, accepted, settled}
use Rattle.coherence.specs.Steps.{Run}

-- a zone's request is accepted and not settled
abbrev pub Unsettled : System → ℕ → Type 0
Unsettled s x = (r : Request) × (s.pending x ≡ accepted r)

-- what holds of a state of one key
pub record Safe (s : System) : Type 0 where
  -- what a zone can read is what the central pool holds
  pub readers_see_the_central_value : (z : ℕ) (v : Assignment) → readable (s.line z) ≡ Some v → s.central ≡ Some v
  -- while a zone holds the key exclusively, whatever it would put, no other zone can read it
  pub exclusive_excludes_readers : (y z : ℕ) (new : Assignment) → answers_put (s.line z) new ≡ true → y ≢ z → readable (s.line y) ≡ None
  -- a request is accepted exactly at a zone that has none outstanding
  pub one_request_at_a_time : (z : ℕ) (r : Request) (sent : Option Up) (answer : Option Answer) (l : State) →
      requested (s.line z) r ≡ line.moved sent answer l → s.pending z ≡ free
  pub refused_only_while_outstanding : (z : ℕ) (r : Request) (n : ℕ) (l : State) → requested (s.line z) r ≡ line.refused n l → s.pending z ≢ free
  -- an answer in a start is the central pool's at that moment
  pub answer_at_start_is_central : (z : ℕ) (r : Request) (sent : Option Up) (a : Answer) (l : State) →
      requested (s.line z) r ≡ line.moved sent (Some a) l → a ≡ answered r s.central
  -- an answer by a delivery is the one that was kept when the request was settled
  pub answer_by_delivery_is_kept : (z : ℕ) (m : Kind) (rest : List Kind) (sent : Option Up) (a : Answer) (l : State) →
      s.down z ≡ m ∷ rest → received (s.line z) m ≡ line.moved sent (Some a) l → (r : Request) × (s.pending z ≡ settled r a)
  -- a request that a step of the directory settles was accepted and not settled
  pub delivery_settles_once : (z : ℕ) (m : Kind) (rest : List Kind) (to : List (Option Down)) (x : ℕ) (d : Directory) →
      s.up z ≡ m ∷ rest → delivered m z s.dir ≡ directory.went to (Some x) d → Unsettled s x
  pub take_up_settles_once : (to : List (Option Down)) (x : ℕ) (d : Directory) → taken_up s.dir ≡ directory.went to (Some x) d → Unsettled s x
  -- no delivery is refused, and no take-up with 17
  pub down_is_taken : (z : ℕ) (m : Kind) (rest : List Kind) (n : ℕ) (l : State) → s.down z ≡ m ∷ rest → received (s.line z) m ≢ line.refused n l
  pub up_is_taken : (z : ℕ) (m : Kind) (rest : List Kind) (n : ℕ) (d : Directory) → s.up z ≡ m ∷ rest → delivered m z s.dir ≢ directory.refused n d
  pub take_up_has_its_place : (d : Directory) → taken_up s.dir ≢ directory.refused 17 d
  -- where all lanes are empty and nothing waits at the directory, no request is outstanding
  pub quiet_leaves_nothing_open : ((y : ℕ) → (s.up y ≡ []) × (s.down y ≡ [])) → s.dir.waiting ≡ [] → (y : ℕ) → s.pending y ≡ free
  -- no lane holds more than three messages of the key
  pub lanes_hold_three : (z : ℕ) → (length (s.up z) ≤ 3) × (length (s.down z) ≤ 3)

-- every state that a run reaches is safe
abbrev pub Coherent : Type 0
Coherent = (s : System) → Run s → Safe s

-- The numbers with which the tables of a line and of the directory refuse.
use Rattle.std.proofs.Common.{◌≡◌, ℕ, ◌&&◌, List, [], ◌∷◌, Some, None, Option, refl, subst}
use Rattle.std.proofs.lemmas.Bool.{cond_both}
use Rattle.messages.specs.declared.assignments.Assignment.{Assignment}
use Rattle.messages.specs.declared.kinds.Up.{Up}
use Rattle.messages.specs.declared.kinds.Down.{Down}
use Rattle.messages.specs.declared.requests.Request.{Request}
use Rattle.messages.specs.declared.requests.Request.TheVariants as request
use Rattle.messages.specs.declared.requests.Answer.{Answer}
use Rattle.line.specs.declared.states.State.{State}
use Rattle.line.specs.declared.states.State.TheVariants.{Invalid, Exclusive, SharedOwned, SharedUnowned, WaitingExclusion, WaitingExclusionIfAny, WaitingPurge, WaitingSharedData, WaitingExclusiveData, WaitingExclusiveDataIfAny, WaitingPurgeData}
use Rattle.line.specs.Outcomes.{Outcome, refused, moved}
use Rattle.line.specs.Requested.{in_invalid, in_shared, in_exclusive, requested}
use Rattle.line.specs.LetGo.{let_go}
use Rattle.directory.specs.declared.rows.Waiting.{Waiting}
use Rattle.directory.specs.declared.rows.Served.{Served}
use Rattle.directory.specs.Directory as rows
use Rattle.directory.specs.Lists.{listed}
use Rattle.directory.specs.Serving.{awaits_any, ended, serves_on}
use Rattle.directory.specs.TakeUp.{wants_data, begun, asks, takes_first, takes_up, taken_up}

-- ── a line ──

-- an outcome that is no refusal, or refuses with this number
abbrev OnlyBy : ℕ → Outcome → Type 0
OnlyBy r (refused n l) = n ≡ r
OnlyBy r (moved sent answer l) = Unit {0}

in_invalid_lem : (q : Request) → OnlyBy 9 (in_invalid q)
in_invalid_lem request.CarbonCopy = tt
in_invalid_lem (request.Put new) = tt
in_invalid_lem (request.GetIfAnyAndPut new) = tt
in_invalid_lem (request.GetAndPutIfAny new) = tt
in_invalid_lem request.GetIfAny = tt
in_invalid_lem request.Remove = tt

in_shared_lem : (same : State) (copy : Assignment) (q : Request) → OnlyBy 9 (in_shared same copy q)
in_shared_lem same copy request.CarbonCopy = tt
in_shared_lem same copy (request.Put new) = tt
in_shared_lem same copy (request.GetIfAnyAndPut new) = tt
in_shared_lem same copy (request.GetAndPutIfAny new) = tt
in_shared_lem same copy request.GetIfAny = tt
in_shared_lem same copy request.Remove = tt

in_exclusive_lem : (copy : Assignment) (q : Request) → OnlyBy 9 (in_exclusive copy q)
in_exclusive_lem copy request.CarbonCopy = tt
in_exclusive_lem copy (request.Put new) = tt
in_exclusive_lem copy (request.GetIfAnyAndPut new) = tt
in_exclusive_lem copy (request.GetAndPutIfAny new) = tt
in_exclusive_lem copy request.GetIfAny = tt
in_exclusive_lem copy request.Remove = tt

request_only : (l : State) (q : Request) → OnlyBy 9 (requested l q)
request_only Invalid q = in_invalid_lem q
request_only (Exclusive copy) q = in_exclusive_lem copy q
request_only (SharedOwned copy) q = in_shared_lem (SharedOwned copy) copy q
request_only (SharedUnowned copy) q = in_shared_lem (SharedUnowned copy) copy q
request_only (WaitingExclusion w copy) q = refl
request_only (WaitingExclusionIfAny new copy) q = refl
request_only (WaitingPurge p copy) q = refl
request_only WaitingSharedData q = refl
request_only (WaitingExclusiveData w) q = refl
request_only (WaitingExclusiveDataIfAny new) q = refl
request_only (WaitingPurgeData p) q = refl

pub request_refused : (l : State) (q : Request) (n : ℕ) (l' : State) → requested l q ≡ refused n l' → n ≡ 9
request_refused l q n l' e = subst (OnlyBy 9) e (request_only l q)

-- a let-go is refused with 12, or gives no answer
abbrev LetsGo : Outcome → Type 0
LetsGo (refused n l) = n ≡ 12
LetsGo (moved sent answer l) = answer ≡ None

lets_go : (l : State) → LetsGo (let_go l)
lets_go (SharedUnowned copy) = refl
lets_go Invalid = refl
lets_go (Exclusive copy) = refl
lets_go (SharedOwned copy) = refl
lets_go (WaitingExclusion w copy) = refl
lets_go (WaitingExclusionIfAny new copy) = refl
lets_go (WaitingPurge p copy) = refl
lets_go WaitingSharedData = refl
lets_go (WaitingExclusiveData w) = refl
lets_go (WaitingExclusiveDataIfAny new) = refl
lets_go (WaitingPurgeData p) = refl

pub let_go_refused : (l : State) (n : ℕ) (l' : State) → let_go l ≡ refused n l' → n ≡ 12
let_go_refused l n l' e = subst LetsGo e (lets_go l)

pub let_go_silent : (l : State) (sent : Option Up) (answer : Option Answer) (l' : State) → let_go l ≡ moved sent answer l' → answer ≡ None
let_go_silent l sent answer l' e = subst LetsGo e (lets_go l)

-- ── the directory ──

-- the numbers with which a take-up is refused
pub data TakeUpNumber (n : ℕ) : Type 0 where
  place_served : n ≡ 15 → TakeUpNumber n
  nothing_waits : n ≡ 16 → TakeUpNumber n
  misplaced : n ≡ 17 → TakeUpNumber n

abbrev TakesUp : rows.Outcome → Type 0
TakesUp (rows.refused n d) = TakeUpNumber n
TakesUp (rows.went to x d) = Unit {0}

serves_on_lem : (to : List (Option Down)) (s : Served) (list : List ℕ) (ws : List Waiting) → TakesUp (serves_on to s list ws)
serves_on_lem to s list ws = cond_both (awaits_any s list) (rows.went to None (rows.directory list ws (Some s))) (ended s list ws) TakesUp (λ _. tt) (λ _. tt)

takes_first_lem : (list : List ℕ) (ws : List Waiting) → TakesUp (takes_first list ws)
takes_first_lem list [] = nothing_waits refl
takes_first_lem list (w ∷ ws) =
    cond_both (listed list w.zone && wants_data w.demand) (rows.refused 17 (rows.directory list (w ∷ ws) None)) (serves_on (asks (begun w list) list) (begun w list) list ws) TakesUp
    (λ _. misplaced refl)
    (λ _. serves_on_lem (asks (begun w list) list) (begun w list) list ws)

takes_up_lem : (list : List ℕ) (ws : List Waiting) (o : Option Served) → TakesUp (takes_up list ws o)
takes_up_lem list ws (Some s) = place_served refl
takes_up_lem list ws None = takes_first_lem list ws

pub take_up_refused : (d : rows.Directory) (n : ℕ) (d' : rows.Directory) → taken_up d ≡ rows.refused n d' → TakeUpNumber n
take_up_refused d n d' e = subst TakesUp e (takes_up_lem d.list d.waiting d.served)

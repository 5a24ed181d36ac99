-- Which lines wait, and what each step makes of that.
use Rattle.std.proofs.Common.{◌≡◌, ℕ, Bool, true, false, Some, None, Ok, Err, Option, Result, sym, refl, ◌∙◌}
use Rattle.messages.specs.declared.assignments.Assignment.{Assignment}
use Rattle.messages.specs.declared.requests.Request.{Request}
use Rattle.messages.specs.declared.requests.Request.TheVariants as request
use Rattle.messages.specs.declared.requests.Answer.{Answer}
use Rattle.messages.specs.declared.kinds.Up.{Up}
use Rattle.messages.specs.declared.kinds.Ask.{Ask}
use Rattle.messages.specs.declared.kinds.Ask.TheVariants.{SendData, SendDataAndInvalidate, Invalidate}
use Rattle.messages.specs.declared.kinds.Reply.{Reply}
use Rattle.messages.specs.declared.kinds.Reply.TheVariants.{DataFound, ExclusionMade, NoDataFound}
use Rattle.messages.specs.declared.kinds.Down.TheVariants as down
use Rattle.messages.specs.declared.kinds.Kind.{Kind}
use Rattle.messages.specs.declared.kinds.Kind.TheVariants as kind
use Rattle.line.specs.declared.states.Write.{Write}
use Rattle.line.specs.declared.states.Write.TheVariants as write
use Rattle.line.specs.declared.states.Purge.{Purge}
use Rattle.line.specs.declared.states.Purge.TheVariants as purge
use Rattle.line.specs.declared.states.State.{State}
use Rattle.line.specs.declared.states.State.TheVariants.{Invalid, Exclusive, SharedOwned, SharedUnowned, WaitingExclusion, WaitingExclusionIfAny, WaitingPurge, WaitingSharedData, WaitingExclusiveData, WaitingExclusiveDataIfAny, WaitingPurgeData}
use Rattle.line.specs.Outcomes.{Outcome, refused, moved}
use Rattle.line.specs.Requested.{requested, in_invalid, in_shared, in_exclusive}
use Rattle.line.specs.Received.{received, asked, replied, given, of_waiting, write_ends, write_if_any_ends, purge_ends, read_ends, ends, old_answered, with_state}
use Rattle.line.specs.LetGo.{let_go}

abbrev pub waits : State → Bool
waits Invalid = false
waits (Exclusive a) = false
waits (SharedOwned a) = false
waits (SharedUnowned a) = false
waits (WaitingExclusion w c) = true
waits (WaitingExclusionIfAny a c) = true
waits (WaitingPurge p c) = true
waits WaitingSharedData = true
waits (WaitingExclusiveData w) = true
waits (WaitingExclusiveDataIfAny a) = true
waits (WaitingPurgeData p) = true

-- ── a request ──

-- accepted only by a line that does not wait; it waits then exactly if it is not answered
pub data Starts (l : State) : Outcome → Type 0 where
  is_refused : {n : ℕ} {l' : State} → Starts l (refused n l')
  begins : {sent : Option Up} {l' : State} → waits l ≡ false → waits l' ≡ true → Starts l (moved sent None l')
  answers : {sent : Option Up} {a : Answer} {l' : State} → waits l ≡ false → waits l' ≡ false → Starts l (moved sent (Some a) l')

in_invalid_lem : (q : Request) → Starts Invalid (in_invalid q)
in_invalid_lem request.CarbonCopy = begins refl refl
in_invalid_lem (request.Put new) = begins refl refl
in_invalid_lem (request.GetIfAnyAndPut new) = begins refl refl
in_invalid_lem (request.GetAndPutIfAny new) = begins refl refl
in_invalid_lem request.GetIfAny = begins refl refl
in_invalid_lem request.Remove = begins refl refl

in_shared_lem : (l : State) (copy : Assignment) (q : Request) → waits l ≡ false → Starts l (in_shared l copy q)
in_shared_lem l copy request.CarbonCopy h = answers h h
in_shared_lem l copy (request.Put new) h = begins h refl
in_shared_lem l copy (request.GetIfAnyAndPut new) h = begins h refl
in_shared_lem l copy (request.GetAndPutIfAny new) h = begins h refl
in_shared_lem l copy request.GetIfAny h = begins h refl
in_shared_lem l copy request.Remove h = begins h refl

in_exclusive_lem : (copy : Assignment) (q : Request) → Starts (Exclusive copy) (in_exclusive copy q)
in_exclusive_lem copy request.CarbonCopy = answers refl refl
in_exclusive_lem copy (request.Put new) = answers refl refl
in_exclusive_lem copy (request.GetIfAnyAndPut new) = answers refl refl
in_exclusive_lem copy (request.GetAndPutIfAny new) = answers refl refl
in_exclusive_lem copy request.GetIfAny = answers refl refl
in_exclusive_lem copy request.Remove = answers refl refl

pub request_starts : (l : State) (q : Request) → Starts l (requested l q)
request_starts Invalid q = in_invalid_lem q
request_starts (Exclusive copy) q = in_exclusive_lem copy q
request_starts (SharedOwned copy) q = in_shared_lem (SharedOwned copy) copy q refl
request_starts (SharedUnowned copy) q = in_shared_lem (SharedUnowned copy) copy q refl
request_starts (WaitingExclusion w c) q = is_refused
request_starts (WaitingExclusionIfAny a c) q = is_refused
request_starts (WaitingPurge p c) q = is_refused
request_starts WaitingSharedData q = is_refused
request_starts (WaitingExclusiveData w) q = is_refused
request_starts (WaitingExclusiveDataIfAny a) q = is_refused
request_starts (WaitingPurgeData p) q = is_refused

-- ── a let-go ──

pub data Drops (l : State) : Outcome → Type 0 where
  stays : {n : ℕ} {l' : State} → Drops l (refused n l')
  goes : {sent : Option Up} {l' : State} → waits l ≡ false → waits l' ≡ false → Drops l (moved sent None l')

pub let_go_drops : (l : State) → Drops l (let_go l)
let_go_drops Invalid = stays
let_go_drops (Exclusive copy) = stays
let_go_drops (SharedOwned copy) = stays
let_go_drops (SharedUnowned copy) = goes refl refl
let_go_drops (WaitingExclusion w c) = stays
let_go_drops (WaitingExclusionIfAny a c) = stays
let_go_drops (WaitingPurge p c) = stays
let_go_drops WaitingSharedData = stays
let_go_drops (WaitingExclusiveData w) = stays
let_go_drops (WaitingExclusiveDataIfAny a) = stays
let_go_drops (WaitingPurgeData p) = stays

-- ── a message from the directory ──

-- a line waits on unless it is answered, and only a waiting line is answered
pub data Takes (l : State) : Outcome → Type 0 where
  refuses : {n : ℕ} {l' : State} → Takes l (refused n l')
  goes_on : {sent : Option Up} {l' : State} → waits l' ≡ waits l → Takes l (moved sent None l')
  ends_it : {sent : Option Up} {a : Answer} {l' : State} → waits l ≡ true → waits l' ≡ false → Takes l (moved sent (Some a) l')

abbrev Calm : Outcome → Type 0
Calm (refused n l) = Unit {0}
Calm (moved sent None l) = waits l ≡ false
Calm (moved sent (Some a) l) = ⊥

-- E, SO and SU do not wait, before and after
holder_takes : (l : State) (a : Ask) → waits l ≡ false → Calm (asked l a) → Takes l (asked l a)
holder_takes l a h c = go (asked l a) c
  where
    go : (o : Outcome) → Calm o → Takes l o
    go (refused n l') c = refuses
    go (moved sent None l') c = goes_on (c ∙ sym h)
    go (moved sent (Some b) l') c = absurd c

exclusive_calm : (copy : Assignment) (a : Ask) → Calm (asked (Exclusive copy) a)
exclusive_calm copy SendData = refl
exclusive_calm copy SendDataAndInvalidate = refl
exclusive_calm copy Invalidate = refl

unowned_calm : (copy : Assignment) (a : Ask) → Calm (asked (SharedUnowned copy) a)
unowned_calm copy SendData = tt
unowned_calm copy SendDataAndInvalidate = tt
unowned_calm copy Invalidate = refl

waiting_takes : (l : State) (keep : Option Assignment → State) (c : Option Assignment) (a : Ask) → ((o : Option Assignment) → waits (keep o) ≡ waits l) → Takes l (of_waiting keep c (given c a))
waiting_takes l keep None a h = refuses
waiting_takes l keep (Some v) SendData h = goes_on (h (Some v))
waiting_takes l keep (Some v) SendDataAndInvalidate h = goes_on (h None)
waiting_takes l keep (Some v) Invalidate h = goes_on (h None)

pub asked_takes : (l : State) (a : Ask) → Takes l (asked l a)
asked_takes Invalid a = goes_on refl
asked_takes (Exclusive copy) a = holder_takes (Exclusive copy) a refl (exclusive_calm copy a)
asked_takes (SharedOwned copy) a = holder_takes (SharedOwned copy) a refl (exclusive_calm copy a)
asked_takes (SharedUnowned copy) a = holder_takes (SharedUnowned copy) a refl (unowned_calm copy a)
asked_takes (WaitingExclusion w c) a = waiting_takes (WaitingExclusion w c) (WaitingExclusion w) c a (λ o. refl)
asked_takes (WaitingExclusionIfAny n c) a = waiting_takes (WaitingExclusionIfAny n c) (WaitingExclusionIfAny n) c a (λ o. refl)
asked_takes (WaitingPurge p c) a = waiting_takes (WaitingPurge p c) (WaitingPurge p) c a (λ o. refl)
asked_takes WaitingSharedData a = goes_on refl
asked_takes (WaitingExclusiveData w) a = goes_on refl
asked_takes (WaitingExclusiveDataIfAny n) a = goes_on refl
asked_takes (WaitingPurgeData p) a = goes_on refl

-- the end of a wait, by the states that it may lead to
abbrev Settles : Result (Answer × State) ℕ → Type 0
Settles (Ok (a, l)) = waits l ≡ false
Settles (Err n) = Unit {0}

ends_takes : (l : State) (r : Result (Answer × State) ℕ) → waits l ≡ true → Settles r → Takes l (ends l r)
ends_takes l (Ok (a, l')) h s = ends_it h s
ends_takes l (Err n) h s = refuses

with_settles : (l : State) (r : Result Answer ℕ) → waits l ≡ false → Settles (with_state l r)
with_settles l (Ok a) h = h
with_settles l (Err n) h = tt

write_settles : (w : Write) (c : Option Assignment) (r : Reply) → Settles (write_ends w c r)
write_settles (write.Put n) c r = refl
write_settles (write.GetIfAnyAndPut n) c r = with_settles (Exclusive n) (old_answered c r) refl

write_if_any_settles : (n : Assignment) (c : Option Assignment) (r : Reply) → Settles (write_if_any_ends n c r)
write_if_any_settles n c (DataFound v) = with_settles (Exclusive n) (old_answered c (DataFound v)) refl
write_if_any_settles n c ExclusionMade = with_settles (Exclusive n) (old_answered c ExclusionMade) refl
write_if_any_settles n c NoDataFound = refl

purge_settles : (p : Purge) (c : Option Assignment) (r : Reply) → Settles (purge_ends p c r)
purge_settles purge.GetIfAny c r = with_settles Invalid (old_answered c r) refl
purge_settles purge.Remove c (DataFound v) = refl
purge_settles purge.Remove c ExclusionMade = refl
purge_settles purge.Remove c NoDataFound = refl

read_settles : (r : Reply) → Settles (read_ends r)
read_settles (DataFound v) = refl
read_settles ExclusionMade = tt
read_settles NoDataFound = refl

replied_takes : (l : State) (r : Reply) → Takes l (replied l r)
replied_takes Invalid r = refuses
replied_takes (Exclusive copy) r = refuses
replied_takes (SharedOwned copy) r = refuses
replied_takes (SharedUnowned copy) r = refuses
replied_takes (WaitingExclusion w c) r = ends_takes (WaitingExclusion w c) (write_ends w c r) refl (write_settles w c r)
replied_takes (WaitingExclusionIfAny n c) r = ends_takes (WaitingExclusionIfAny n c) (write_if_any_ends n c r) refl (write_if_any_settles n c r)
replied_takes (WaitingPurge p c) r = ends_takes (WaitingPurge p c) (purge_ends p c r) refl (purge_settles p c r)
replied_takes WaitingSharedData r = ends_takes WaitingSharedData (read_ends r) refl (read_settles r)
replied_takes (WaitingExclusiveData w) r = ends_takes (WaitingExclusiveData w) (write_ends w None r) refl (write_settles w None r)
replied_takes (WaitingExclusiveDataIfAny n) r = ends_takes (WaitingExclusiveDataIfAny n) (write_if_any_ends n None r) refl (write_if_any_settles n None r)
replied_takes (WaitingPurgeData p) r = ends_takes (WaitingPurgeData p) (purge_ends p None r) refl (purge_settles p None r)

pub received_takes : (l : State) (k : Kind) → Takes l (received l k)
received_takes l (kind.Up u) = refuses
received_takes l (kind.Down (down.Ask a)) = asked_takes l a
received_takes l (kind.Down (down.Reply r)) = replied_takes l r

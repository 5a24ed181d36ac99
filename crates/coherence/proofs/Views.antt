-- The directory's view of one zone, what the zone's up lane makes of it, and how the zone's line, down lane and request fit it.
use Rattle.std.proofs.Common.{◌≡◌, List, [], ◌∷◌, Some, None, Option}
use Rattle.messages.specs.declared.assignments.Assignment.{Assignment}
use Rattle.messages.specs.declared.requests.Request.{Request}
use Rattle.messages.specs.declared.requests.Request.TheVariants as request
use Rattle.messages.specs.declared.requests.Answer.{Answer}
use Rattle.messages.specs.declared.kinds.Demand.{Demand}
use Rattle.messages.specs.declared.kinds.Demand.TheVariants.{GetSharedData, GetExclusiveData, GetExclusiveDataIfAny, GetRemovedData, Exclude, ExcludeIfAny, PurgeOthers, PurgeAndExclude, PurgeAll}
use Rattle.messages.specs.declared.kinds.Ask.{Ask}
use Rattle.messages.specs.declared.kinds.Ask.TheVariants.{SendData, SendDataAndInvalidate, Invalidate}
use Rattle.messages.specs.declared.kinds.Up.{Up}
use Rattle.messages.specs.declared.kinds.Up.TheVariants as up
use Rattle.messages.specs.declared.kinds.Reply.{Reply}
use Rattle.messages.specs.declared.kinds.Down.TheVariants as down
use Rattle.messages.specs.declared.kinds.Kind.{Kind}
use Rattle.messages.specs.declared.kinds.Kind.TheVariants as kind
use Rattle.line.specs.declared.states.State.{State}
use Rattle.line.specs.declared.states.State.TheVariants as state
use Rattle.line.specs.declared.states.Write.TheVariants as write
use Rattle.line.specs.declared.states.Purge.TheVariants as purge
use Rattle.line.specs.Outcomes.{answers}
use Rattle.line.specs.Received.{received}
use Rattle.coherence.specs.System.{Pending, free, accepted, settled}

abbrev pub an_ask : Ask → Kind
an_ask a = kind.Down (down.Ask a)

abbrev pub a_reply : Reply → Kind
a_reply r = kind.Down (down.Reply r)

-- ── the view ──

-- A zone's part in the cache list. Absent: not listed. Sharer: listed, not the owner. Sole: the owner, with nobody else listed.
-- Left: a report of the zone is under way; the directory itself never has a zone as left.
pub data Role : Type 0 where
  absent left sharer owner sole : Role

-- where the zone's request stands at the directory
pub data Standing : Type 0 where
  idle : Standing
  waiting serving : Demand → Standing

-- the role, what the zone is awaited for, and its request's standing
pub data View : Type 0 where
  view : Role → Option Ask → Standing → View

-- ── the up lane ──

-- Receives c v m w: with c in the central pool, the message m is right at the view v, and makes it w.
pub data Receives : Option Assignment → View → Up → View → Type 0 where
  demand : {c : Option Assignment} {ro : Role} {q : Option Ask} {k : Demand} → Receives c (view ro q idle) (up.Demand k) (view ro q (waiting k))
  shares : {v : Assignment} {ro : Role} {p : Standing} → Receives (Some v) (view ro (Some SendData) p) (up.Data v) (view sharer None p)
  yields : {v : Assignment} {ro : Role} {p : Standing} → Receives (Some v) (view ro (Some SendDataAndInvalidate) p) (up.Data v) (view absent None p)
  purges : {v : Assignment} {ro : Role} {p : Standing} → Receives (Some v) (view ro (Some Invalidate) p) up.Purged (view absent None p)
  lets_go : {c : Option Assignment} {q : Option Ask} → Receives c (view sharer q idle) up.Report (view left None idle)
  gives_up : {q : Option Ask} → Receives None (view sole q idle) up.Report (view left None idle)

-- ReceivesAll c v ms w: the messages ms, received one after the other, make of the view v the view w.
pub data ReceivesAll : Option Assignment → View → List Kind → View → Type 0 where
  done : {c : Option Assignment} {v : View} → ReceivesAll c v [] v
  then : {c : Option Assignment} {u v w : View} {m : Up} {ms : List Kind} →
      Receives c u m v → ReceivesAll c v ms w → ReceivesAll c u (kind.Up m ∷ ms) w

-- ── lines ──

-- a line that waits and was sent without a copy, the demand that it sent, and the request that it waits for
pub data SentBare : State → Demand → Request → Type 0 where
  reading : SentBare state.WaitingSharedData GetSharedData request.CarbonCopy
  putting : {n : Assignment} → SentBare (state.WaitingExclusiveData (write.Put n)) PurgeAndExclude (request.Put n)
  swapping : {n : Assignment} → SentBare (state.WaitingExclusiveData (write.GetIfAnyAndPut n)) GetExclusiveData (request.GetIfAnyAndPut n)
  swapping_if_any : {n : Assignment} → SentBare (state.WaitingExclusiveDataIfAny n) GetExclusiveDataIfAny (request.GetAndPutIfAny n)
  taking : SentBare (state.WaitingPurgeData purge.GetIfAny) GetRemovedData request.GetIfAny
  removing : SentBare (state.WaitingPurgeData purge.Remove) PurgeAll request.Remove

-- a line that waits and was sent with a copy, what is left of the copy, the demand and the request
pub data SentHolding : State → Option Assignment → Demand → Request → Type 0 where
  putting : {n : Assignment} {c : Option Assignment} → SentHolding (state.WaitingExclusion (write.Put n) c) c PurgeAndExclude (request.Put n)
  swapping : {n : Assignment} {c : Option Assignment} → SentHolding (state.WaitingExclusion (write.GetIfAnyAndPut n) c) c Exclude (request.GetIfAnyAndPut n)
  swapping_if_any : {n : Assignment} {c : Option Assignment} → SentHolding (state.WaitingExclusionIfAny n c) c ExcludeIfAny (request.GetAndPutIfAny n)
  taking : {c : Option Assignment} → SentHolding (state.WaitingPurge purge.GetIfAny c) c PurgeOthers request.GetIfAny
  removing : {c : Option Assignment} → SentHolding (state.WaitingPurge purge.Remove c) c PurgeAll request.Remove

pub data Waits : State → Request → Type 0 where
  bare : {l : State} {k : Demand} {r : Request} → SentBare l k r → Waits l r
  with_copy : {l : State} {c : Option Assignment} {k : Demand} {r : Request} → SentHolding l c k r → Waits l r

-- a readable line with its copy, by the roles that allow it
pub data Holds : State → Role → Assignment → Type 0 where
  exclusive : {v : Assignment} → Holds (state.Exclusive v) sole v
  owned_alone : {v : Assignment} → Holds (state.SharedOwned v) sole v
  owned : {v : Assignment} → Holds (state.SharedOwned v) owner v
  unowned : {v : Assignment} → Holds (state.SharedUnowned v) sharer v

-- a line that passes over what the directory asks
pub data Ignores : State → Type 0 where
  by_invalid : Ignores state.Invalid
  by_bare : {l : State} {k : Demand} {r : Request} → SentBare l k r → Ignores l

-- ── how line, down lane and request fit a view ──

pub data Member : Role → Type 0 where
  a_sharer : Member sharer
  an_owner : Member owner
  a_sole : Member sole

pub data Away : Role → Type 0 where
  is_absent : Away absent
  has_left : Away left

-- a request with the demand k stands at the directory
pub data StandsWith : Demand → Standing → Type 0 where
  as_waiting : {k : Demand} → StandsWith k (waiting k)
  as_served : {k : Demand} → StandsWith k (serving k)

-- what may be asked of whom, and the down lane that it makes
pub data Asked : Role → Option Ask → List Kind → Type 0 where
  unasked : {ro : Role} → Asked ro None []
  of_sharer : Asked sharer (Some Invalidate) (an_ask Invalidate ∷ [])
  of_an_owner : {a : Ask} → Asked owner (Some a) (an_ask a ∷ [])
  of_sole : {a : Ask} → Asked sole (Some a) (an_ask a ∷ [])

-- Case c w l d p: once the up lane is read off, the line l, the down lane d and the request p fit the view w.
pub data Case : Option Assignment → View → State → List Kind → Pending → Type 0 where
  -- no copy and no request
  uncopied : {c : Option Assignment} {ro : Role} → Away ro → Case c (view ro None idle) state.Invalid [] free
  -- a request that was sent without a copy
  asking_bare : {c : Option Assignment} {ro : Role} {p : Standing} {l : State} {k : Demand} {r : Request} →
      Away ro → SentBare l k r → StandsWith k p → Case c (view ro None p) l [] (accepted r)
  -- a request that was sent with a copy, and the copy is lost
  asking_lost : {c : Option Assignment} {p : Standing} {l : State} {k : Demand} {r : Request} →
      SentHolding l None k r → StandsWith k p → Case c (view absent None p) l [] (accepted r)
  -- a copy, which is the central pool's value, and no request
  holding : {v : Assignment} {ro : Role} {q : Option Ask} {l : State} {d : List Kind} →
      Holds l ro v → Asked ro q d → Case (Some v) (view ro q idle) l d free
  -- a request that was sent with a copy, and the copy is there
  asking_held : {v : Assignment} {ro : Role} {q : Option Ask} {p : Standing} {l : State} {d : List Kind} {k : Demand} {r : Request} →
      SentHolding l (Some v) k r → Member ro → StandsWith k p → Asked ro q d → Case (Some v) (view ro q p) l d (accepted r)
  -- a settled request whose reply leaves no copy
  answered_away : {c : Option Assignment} {l : State} {m : Kind} {r : Request} {a : Answer} →
      Waits l r → received l m ≡ answers a state.Invalid → Case c (view absent None idle) l (m ∷ []) (settled r a)
  -- a settled request whose reply leaves a copy, which is the central pool's value
  answered_held : {v : Assignment} {ro : Role} {q : Option Ask} {l l' : State} {m : Kind} {d : List Kind} {r : Request} {a : Answer} →
      Waits l r → received l m ≡ answers a l' → Holds l' ro v → Asked ro q d → Case (Some v) (view ro q idle) l (m ∷ d) (settled r a)
  -- before all that, an ask that the zone's own report has answered for
  stale : {c : Option Assignment} {w : View} {l : State} {a : Ask} {d : List Kind} {p : Pending} →
      Ignores l → Case c w l d p → Case c w l (an_ask a ∷ d) p

-- ── what a down lane may hold, by the present view and the up lane ──

-- no answer to an ask is under way
pub data Unanswered : List Kind → Type 0 where
  nothing : Unanswered []
  after_demand : {k : Demand} {ms : List Kind} → Unanswered ms → Unanswered (kind.Up (up.Demand k) ∷ ms)
  after_report : {ms : List Kind} → Unanswered ms → Unanswered (kind.Up up.Report ∷ ms)

-- after a reply: exactly what the zone is asked
pub data Tail : Option Ask → List Kind → Type 0 where
  no_ask : Tail None []
  one_ask : {a : Ask} → Tail (Some a) (an_ask a ∷ [])

pub data Lane : View → List Kind → List Kind → Type 0 where
  empty : {v : View} {ms : List Kind} → Lane v ms []
  asked_now : {ro : Role} {a : Ask} {p : Standing} {ms : List Kind} → Unanswered ms → Lane (view ro (Some a) p) ms (an_ask a ∷ [])
  asked_before : {a : Ask} {p : Standing} {ms : List Kind} → Lane (view absent None p) ms (an_ask a ∷ [])
  reply_first : {ro : Role} {q : Option Ask} {p : Standing} {r : Reply} {d : List Kind} → Tail q d → Lane (view ro q p) [] (a_reply r ∷ d)
  ask_then_reply : {ro : Role} {q : Option Ask} {p : Standing} {a : Ask} {r : Reply} {d : List Kind} →
      Tail q d → Lane (view ro q p) [] (an_ask a ∷ a_reply r ∷ d)

-- a zone is as the directory sees it
abbrev pub Link : Option Assignment → View → List Kind → State → List Kind → Pending → Type 0
Link c v ms l d p = (w : View) × ReceivesAll c v ms w × Case c w l d p × Lane v ms d

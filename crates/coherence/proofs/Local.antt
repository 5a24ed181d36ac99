-- A line's own steps fit the cases: a message from the down lane, a request, and a let-go.
use Rattle.std.proofs.Common.{◌≡◌, ℕ, ◌≢◌, List, [], ◌∷◌, ◌++◌, Some, None, Option, sym, refl, subst, arith}
use Rattle.messages.specs.declared.assignments.Assignment.{Assignment}
use Rattle.messages.specs.declared.requests.Request.{Request}
use Rattle.messages.specs.declared.requests.Request.TheVariants as request
use Rattle.messages.specs.declared.requests.Answer.{Answer}
use Rattle.messages.specs.declared.kinds.Demand.{Demand}
use Rattle.messages.specs.declared.kinds.Ask.{Ask}
use Rattle.messages.specs.declared.kinds.Ask.TheVariants.{SendData, SendDataAndInvalidate, Invalidate}
use Rattle.messages.specs.declared.kinds.Up.{Up}
use Rattle.messages.specs.declared.kinds.Up.TheVariants as up
use Rattle.messages.specs.declared.kinds.Reply.{Reply}
use Rattle.messages.specs.declared.kinds.Kind.{Kind}
use Rattle.messages.specs.declared.kinds.Kind.TheVariants as kind
use Rattle.messages.specs.Central.{answered}
use Rattle.messages.specs.Central as central
use Rattle.line.specs.declared.states.State.{State}
use Rattle.line.specs.declared.states.State.TheVariants as state
use Rattle.line.specs.declared.states.Write.TheVariants as write
use Rattle.line.specs.declared.states.Purge.TheVariants as purge
use Rattle.line.specs.Outcomes.{Outcome, refused, moved, demands}
use Rattle.line.specs.Requested.{requested, in_shared, in_exclusive}
use Rattle.line.specs.LetGo.{let_go}
use Rattle.line.specs.Received.{received, asked, sends, of_owner, of_waiting, given}
use Rattle.coherence.specs.System.{Pending, free, accepted, settled}
use Rattle.coherence.proofs.Views.{an_ask, a_reply, Role, left, sole, Standing, idle, View, view, Receives, demand, shares, yields, purges, lets_go, gives_up, SentBare, SentHolding, Waits, bare, with_copy, Holds, exclusive, owned_alone, owned, unowned, Member, a_sharer, an_owner, a_sole, is_absent, has_left, StandsWith, as_waiting, Asked, unasked, of_sharer, of_an_owner, of_sole, Ignores, by_invalid, by_bare, Case, uncopied, asking_bare, asking_lost, holding, asking_held, answered_away, answered_held, stale, Unanswered, nothing, after_demand, after_report, Tail, no_ask, one_ask, Lane, empty, asked_now, asked_before, reply_first, ask_then_reply}

-- ── a message from the down lane ──

-- What it comes to: no refusal; it is passed over, is answered by a message, or brings the answer kept.
pub data Taken : Option Assignment → View → List Kind → Pending → Outcome → Type 0 where
  passed : {c : Option Assignment} {w : View} {l : State} {d : List Kind} {p : Pending} →
      Case c w l d p → Taken c w d p (moved None None l)
  met : {c : Option Assignment} {w w' : View} {l : State} {m : Up} {p : Pending} →
      Receives c w m w' → Case c w' l [] p → Taken c w [] p (moved (Some m) None l)
  ended : {c : Option Assignment} {w : View} {l : State} {d : List Kind} {r : Request} {a : Answer} →
      Case c w l d free → Taken c w d (settled r a) (moved None (Some a) l)

ignored : {l : State} (a : Ask) → Ignores l → asked l a ≡ moved None None l
ignored a by_invalid = refl
ignored a (by_bare SentBare.reading) = refl
ignored a (by_bare SentBare.putting) = refl
ignored a (by_bare SentBare.swapping) = refl
ignored a (by_bare SentBare.swapping_if_any) = refl
ignored a (by_bare SentBare.taking) = refl
ignored a (by_bare SentBare.removing) = refl

-- an owner without a request is asked
owner_asked : {v : Assignment} {ro : Role} (a : Ask) → Taken (Some v) (view ro (Some a) idle) [] free (sends (of_owner v a))
owner_asked SendData = met shares (holding unowned unasked)
owner_asked SendDataAndInvalidate = met yields (uncopied is_absent)
owner_asked Invalidate = met purges (uncopied is_absent)

-- a line that waits with its copy is asked
waiting_asked : {v : Assignment} {ro : Role} {p : Standing} {k : Demand} {r : Request} (f : Option Assignment → State) →
    ((c : Option Assignment) → SentHolding (f c) c k r) → StandsWith k p → (a : Ask) →
    Taken (Some v) (view ro (Some a) p) [] (accepted r) (of_waiting f (Some v) (given (Some v) a))
waiting_asked {v} f s st SendData = met shares (asking_held (s (Some v)) a_sharer st unasked)
waiting_asked f s st SendDataAndInvalidate = met yields (asking_lost (s None) st)
waiting_asked f s st Invalidate = met purges (asking_lost (s None) st)

copy_asked : {v : Assignment} {ro : Role} {p : Standing} {l : State} {k : Demand} {r : Request} →
    SentHolding l (Some v) k r → StandsWith k p → (a : Ask) → Taken (Some v) (view ro (Some a) p) [] (accepted r) (asked l a)
copy_asked (SentHolding.putting {n = n}) st a = waiting_asked (λ c. state.WaitingExclusion (write.Put n) c) (λ c. SentHolding.putting) st a
copy_asked (SentHolding.swapping {n = n}) st a = waiting_asked (λ c. state.WaitingExclusion (write.GetIfAnyAndPut n) c) (λ c. SentHolding.swapping) st a
copy_asked (SentHolding.swapping_if_any {n = n}) st a = waiting_asked (λ c. state.WaitingExclusionIfAny n c) (λ c. SentHolding.swapping_if_any) st a
copy_asked SentHolding.taking st a = waiting_asked (λ c. state.WaitingPurge purge.GetIfAny c) (λ c. SentHolding.taking) st a
copy_asked SentHolding.removing st a = waiting_asked (λ c. state.WaitingPurge purge.Remove c) (λ c. SentHolding.removing) st a

pub received_fits : {c : Option Assignment} {w : View} {l : State} {m : Kind} {d : List Kind} {p : Pending} →
    Case c w l (m ∷ d) p → Taken c w d p (received l m)
received_fits (holding exclusive (of_sole {a = a})) = owner_asked a
received_fits (holding owned_alone (of_sole {a = a})) = owner_asked a
received_fits (holding owned (of_an_owner {a = a})) = owner_asked a
received_fits (holding unowned of_sharer) = met purges (uncopied is_absent)
received_fits (asking_held s me st of_sharer) = copy_asked s st Invalidate
received_fits (asking_held s me st (of_an_owner {a = a})) = copy_asked s st a
received_fits (asking_held s me st (of_sole {a = a})) = copy_asked s st a
received_fits (answered_away w e) = subst (Taken _ _ _ _) (sym e) (ended (uncopied is_absent))
received_fits (answered_held w e h q) = subst (Taken _ _ _ _) (sym e) (ended (holding h q))
received_fits (stale {a = a} i b) = subst (Taken _ _ _ _) (sym (ignored a i)) (passed b)

-- ── a request ──

-- What it comes to: refusal 9 while another is outstanding; it is sent, and accepted from now on; or it is answered as the
-- central pool does, which serves it now. Only a sole owner changes the key so.
pub data Started : Option Assignment → View → List Kind → Pending → Request → Outcome → Type 0 where
  waits : {c : Option Assignment} {w : View} {d : List Kind} {p : Pending} {r : Request} {l : State} → p ≢ free → Started c w d p r (refused 9 l)
  sent : {c : Option Assignment} {w w' : View} {l : State} {k : Demand} {d : List Kind} {r : Request} →
      Receives c w (up.Demand k) w' → Case c w' l d (accepted r) → Started c w d free r (moved (Some (up.Demand k)) None l)
  read : {c : Option Assignment} {w : View} {l : State} {d : List Kind} →
      Case c w l d free → Started c w d free request.CarbonCopy (moved None (Some (answered request.CarbonCopy c)) l)
  wrote : {c : Option Assignment} {q : Option Ask} {l : State} {d : List Kind} {r : Request} →
      Case (central.left r c) (view sole q idle) l d free → Started c (view sole q idle) d free r (moved None (Some (answered r c)) l)
  reported : {c : Option Assignment} {q : Option Ask} {w : View} {l : State} {d : List Kind} {r : Request} →
      Receives (central.left r c) (view sole q idle) up.Report w → Case (central.left r c) w l d free →
      Started c (view sole q idle) d free r (moved (Some up.Report) (Some (answered r c)) l)

-- what a holder was asked is stale once it has let its copy go
staled : {c : Option Assignment} {ro : Role} {q : Option Ask} {d : List Kind} → Asked ro q d → Case c (view left None idle) state.Invalid d free
staled unasked = uncopied has_left
staled of_sharer = stale by_invalid (uncopied has_left)
staled of_an_owner = stale by_invalid (uncopied has_left)
staled of_sole = stale by_invalid (uncopied has_left)

exclusive_starts : {v : Assignment} {q : Option Ask} {d : List Kind} (r : Request) → Asked sole q d →
    Started (Some v) (view sole q idle) d free r (in_exclusive v r)
exclusive_starts request.CarbonCopy q = read (holding exclusive q)
exclusive_starts (request.Put n) q = wrote (holding exclusive q)
exclusive_starts (request.GetIfAnyAndPut n) q = wrote (holding exclusive q)
exclusive_starts (request.GetAndPutIfAny n) q = wrote (holding exclusive q)
exclusive_starts request.GetIfAny q = reported gives_up (staled q)
exclusive_starts request.Remove q = reported gives_up (staled q)

shared_starts : {v : Assignment} {ro : Role} {q : Option Ask} {l : State} {d : List Kind} (r : Request) → Holds l ro v → Member ro → Asked ro q d →
    Started (Some v) (view ro q idle) d free r (in_shared l v r)
shared_starts request.CarbonCopy h me q = read (holding h q)
shared_starts (request.Put n) h me q = sent demand (asking_held SentHolding.putting me as_waiting q)
shared_starts (request.GetIfAnyAndPut n) h me q = sent demand (asking_held SentHolding.swapping me as_waiting q)
shared_starts (request.GetAndPutIfAny n) h me q = sent demand (asking_held SentHolding.swapping_if_any me as_waiting q)
shared_starts request.GetIfAny h me q = sent demand (asking_held SentHolding.taking me as_waiting q)
shared_starts request.Remove h me q = sent demand (asking_held SentHolding.removing me as_waiting q)

invalid_waits : {r : Request} → Waits state.Invalid r → ⊥
invalid_waits (bare b) = elim b [ ]
invalid_waits (with_copy s) = elim s [ ]

-- a line without a copy starts: what is stale stays in the down lane
bare_starts : {c : Option Assignment} {w : View} {l : State} {d : List Kind} {p : Pending} {k : Demand} {r : Request} →
    Case c w state.Invalid d p → SentBare l k r → Started c w d p r (demands k l)
bare_starts (uncopied a) b = sent demand (asking_bare a b as_waiting)
bare_starts (asking_bare a z st) b = elim z [ ]
bare_starts (asking_lost z st) b = elim z [ ]
bare_starts (holding z q) b = elim z [ ]
bare_starts (asking_held z me st q) b = elim z [ ]
bare_starts (answered_away w e) b = absurd (invalid_waits w)
bare_starts (answered_held w e h q) b = absurd (invalid_waits w)
bare_starts (stale i z) b = more (bare_starts z b) b
  where
    more : {c : Option Assignment} {w : View} {l : State} {a : Ask} {d : List Kind} {p : Pending} {k : Demand} {r : Request} →
        Started c w d p r (demands k l) → SentBare l k r → Started c w (an_ask a ∷ d) p r (demands k l)
    more (sent g z) b = sent g (stale (by_bare b) z)

invalid_starts : {c : Option Assignment} {w : View} {d : List Kind} {p : Pending} (r : Request) →
    Case c w state.Invalid d p → Started c w d p r (requested state.Invalid r)
invalid_starts request.CarbonCopy b = bare_starts b SentBare.reading
invalid_starts (request.Put n) b = bare_starts b SentBare.putting
invalid_starts (request.GetIfAnyAndPut n) b = bare_starts b SentBare.swapping
invalid_starts (request.GetAndPutIfAny n) b = bare_starts b SentBare.swapping_if_any
invalid_starts request.GetIfAny b = bare_starts b SentBare.taking
invalid_starts request.Remove b = bare_starts b SentBare.removing

-- a line that waits refuses both a request and a let-go
pub waiting_refuses : {l : State} {q : Request} (r : Request) → Waits l q → (requested l r ≡ refused 9 l) × (let_go l ≡ refused 12 l)
waiting_refuses r (bare SentBare.reading) = (refl, refl)
waiting_refuses r (bare SentBare.putting) = (refl, refl)
waiting_refuses r (bare SentBare.swapping) = (refl, refl)
waiting_refuses r (bare SentBare.swapping_if_any) = (refl, refl)
waiting_refuses r (bare SentBare.taking) = (refl, refl)
waiting_refuses r (bare SentBare.removing) = (refl, refl)
waiting_refuses r (with_copy SentHolding.putting) = (refl, refl)
waiting_refuses r (with_copy SentHolding.swapping) = (refl, refl)
waiting_refuses r (with_copy SentHolding.swapping_if_any) = (refl, refl)
waiting_refuses r (with_copy SentHolding.taking) = (refl, refl)
waiting_refuses r (with_copy SentHolding.removing) = (refl, refl)

-- a line that waits has a request outstanding
accepted_busy : {r : Request} → accepted r ≢ free
accepted_busy e = let z : ◌≡◌ {A = ℕ} 0 1 = cc in omega arith

settled_busy : {r : Request} {a : Answer} → settled r a ≢ free
settled_busy e = let z : ◌≡◌ {A = ℕ} 0 1 = cc in omega arith

holds_idle : {l : State} {ro : Role} {v : Assignment} {k : Demand} {r : Request} → Holds l ro v → SentBare l k r → ⊥
holds_idle exclusive b = elim b [ ]
holds_idle owned_alone b = elim b [ ]
holds_idle owned b = elim b [ ]
holds_idle unowned b = elim b [ ]

bare_busy : {c : Option Assignment} {w : View} {l : State} {d : List Kind} {p : Pending} {k : Demand} {r : Request} → SentBare l k r → Case c w l d p → p ≢ free
bare_busy z (uncopied a) = elim z [ ]
bare_busy z (asking_bare a b st) = accepted_busy
bare_busy z (asking_lost b st) = accepted_busy
bare_busy z (holding h q) = absurd (holds_idle h z)
bare_busy z (asking_held b me st q) = accepted_busy
bare_busy z (answered_away w e) = settled_busy
bare_busy z (answered_held w e h q) = settled_busy
bare_busy z (stale i b) = bare_busy z b

waiting_starts : {c : Option Assignment} {w : View} {l : State} {d : List Kind} {p : Pending} {q : Request} (r : Request) →
    p ≢ free → Waits l q → Started c w d p r (requested l r)
waiting_starts r n w = subst (Started _ _ _ _ r) (sym (waiting_refuses r w).0) (waits n)

pub requested_fits : {c : Option Assignment} {w : View} {l : State} {d : List Kind} {p : Pending} (r : Request) → Case c w l d p → Started c w d p r (requested l r)
requested_fits r (uncopied a) = invalid_starts r (uncopied a)
requested_fits r (asking_bare a b st) = waiting_starts r accepted_busy (bare b)
requested_fits r (asking_lost s st) = waiting_starts r accepted_busy (with_copy s)
requested_fits r (holding exclusive q) = exclusive_starts r q
requested_fits r (holding owned_alone q) = shared_starts r owned_alone a_sole q
requested_fits r (holding owned q) = shared_starts r owned an_owner q
requested_fits r (holding unowned q) = shared_starts r unowned a_sharer q
requested_fits r (asking_held s me st q) = waiting_starts r accepted_busy (with_copy s)
requested_fits r (answered_away w e) = waiting_starts r settled_busy w
requested_fits r (answered_held w e h q) = waiting_starts r settled_busy w
requested_fits r (stale by_invalid b) = invalid_starts r (stale by_invalid b)
requested_fits r (stale (by_bare z) b) = waiting_starts r (bare_busy z b) (bare z)

-- ── a let-go ──

-- what it comes to: refusal 12, or a report of a zone that has no request
pub data Gone : Option Assignment → View → List Kind → Pending → Outcome → Type 0 where
  kept_it : {c : Option Assignment} {w : View} {d : List Kind} {p : Pending} {l : State} → Gone c w d p (refused 12 l)
  let_it_go : {c : Option Assignment} {w w' : View} {l : State} {d : List Kind} →
      Receives c w up.Report w' → Case c w' l d free → Gone c w d free (moved (Some up.Report) None l)

waiting_keeps : {c : Option Assignment} {w : View} {l : State} {d : List Kind} {p : Pending} {q : Request} → Waits l q → Gone c w d p (let_go l)
waiting_keeps {q = q} w = subst (Gone _ _ _ _) (sym (waiting_refuses q w).1) kept_it

pub let_go_fits : {c : Option Assignment} {w : View} {l : State} {d : List Kind} {p : Pending} → Case c w l d p → Gone c w d p (let_go l)
let_go_fits (uncopied a) = kept_it
let_go_fits (asking_bare a b st) = waiting_keeps (bare b)
let_go_fits (asking_lost s st) = waiting_keeps (with_copy s)
let_go_fits (holding exclusive q) = kept_it
let_go_fits (holding owned_alone q) = kept_it
let_go_fits (holding owned q) = kept_it
let_go_fits (holding unowned q) = let_it_go lets_go (staled q)
let_go_fits (asking_held s me st q) = waiting_keeps (with_copy s)
let_go_fits (answered_away w e) = waiting_keeps w
let_go_fits (answered_held w e h q) = waiting_keeps w
let_go_fits (stale by_invalid b) = kept_it
let_go_fits (stale (by_bare z) b) = waiting_keeps (bare z)

-- ── the lanes along with it ──

-- the down lane without its first message
tail_lane : {ro : Role} {q : Option Ask} {p : Standing} {d : List Kind} → Tail q d → Lane (view ro q p) [] d
tail_lane no_ask = empty
tail_lane one_ask = asked_now nothing

pub lane_next : {v : View} {ms d : List Kind} {m : Kind} → Lane v ms (m ∷ d) → Lane v ms d
lane_next (asked_now u) = empty
lane_next asked_before = empty
lane_next (reply_first t) = tail_lane t
lane_next (ask_then_reply t) = reply_first t

-- a demand or a report at the end of the up lane
pub data Unasked : Up → Type 0 where
  a_demand : {k : Demand} → Unasked (up.Demand k)
  a_report : Unasked up.Report

unanswered_last : {m : Up} {ms : List Kind} → Unasked m → Unanswered ms → Unanswered (ms ++ (kind.Up m ∷ []))
unanswered_last a_demand nothing = after_demand nothing
unanswered_last a_report nothing = after_report nothing
unanswered_last a (after_demand u) = after_demand (unanswered_last a u)
unanswered_last a (after_report u) = after_report (unanswered_last a u)

-- where no request is outstanding no reply is under way
free_unreplied : {c : Option Assignment} {w : View} {l : State} {r : Reply} {d : List Kind} → Case c w l (a_reply r ∷ d) free → ⊥
free_unreplied (holding h q) = elim q [ ]

free_unreplied_behind : {c : Option Assignment} {w : View} {l : State} {a : Ask} {r : Reply} {d : List Kind} → Case c w l (an_ask a ∷ a_reply r ∷ d) free → ⊥
free_unreplied_behind (holding h q) = elim q [ ]
free_unreplied_behind (stale i b) = free_unreplied b

pub lane_more : {c : Option Assignment} {v w : View} {l : State} {ms d : List Kind} {m : Up} → Unasked m → Case c w l d free → Lane v ms d →
    Lane v (ms ++ (kind.Up m ∷ [])) d
lane_more a b empty = empty
lane_more a b (asked_now u) = asked_now (unanswered_last a u)
lane_more a b asked_before = asked_before
lane_more a b (reply_first t) = absurd (free_unreplied b)
lane_more a b (ask_then_reply t) = absurd (free_unreplied_behind b)

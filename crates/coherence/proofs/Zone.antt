-- What a change of the directory's view does to one zone: the link goes along with each. Nothing here speaks of other zones.
use Rattle.std.proofs.Common.{◌≡◌, true, List, [], ◌∷◌, ◌++◌, is_some, Some, None, Option, refl}
use Rattle.messages.specs.declared.assignments.Assignment.{Assignment}
use Rattle.messages.specs.declared.requests.Request.{Request}
use Rattle.messages.specs.declared.requests.Request.TheVariants as request
use Rattle.messages.specs.declared.kinds.Demand.{Demand}
use Rattle.messages.specs.declared.kinds.Demand.TheVariants.{GetSharedData, GetExclusiveData, GetExclusiveDataIfAny, GetRemovedData, Exclude, ExcludeIfAny, PurgeOthers, PurgeAndExclude, PurgeAll}
use Rattle.messages.specs.declared.kinds.Ask.{Ask}
use Rattle.messages.specs.declared.kinds.Ask.TheVariants.{SendData, SendDataAndInvalidate, Invalidate}
use Rattle.messages.specs.declared.kinds.Up.{Up}
use Rattle.messages.specs.declared.kinds.Up.TheVariants as up
use Rattle.messages.specs.declared.kinds.Reply.{Reply}
use Rattle.messages.specs.declared.kinds.Reply.TheVariants.{DataFound, ExclusionMade, NoDataFound}
use Rattle.messages.specs.declared.kinds.Down.{Down}
use Rattle.messages.specs.declared.kinds.Kind.{Kind}
use Rattle.messages.specs.declared.kinds.Kind.TheVariants as kind
use Rattle.messages.specs.Central.{answered}
use Rattle.messages.specs.Central as central
use Rattle.line.specs.declared.states.State.{State}
use Rattle.coherence.specs.System.{Pending, accepted, settled}
use Rattle.coherence.proofs.Views.{an_ask, a_reply, Role, absent, left, sharer, owner, sole, Standing, idle, waiting, serving, View, view, Receives, demand, shares, yields, purges, lets_go, gives_up, ReceivesAll, done, then, SentBare, SentHolding, bare, with_copy, Holds, exclusive, owned_alone, owned, Member, a_sharer, an_owner, a_sole, Away, is_absent, as_waiting, as_served, Asked, unasked, of_sharer, of_an_owner, of_sole, by_invalid, by_bare, Case, uncopied, asking_bare, asking_lost, holding, asking_held, answered_away, answered_held, stale, Unanswered, nothing, after_demand, after_report, no_ask, one_ask, Lane, empty, asked_now, asked_before, reply_first, ask_then_reply, Link}

-- a message at the end of the up lane
pub receives_last : {c : Option Assignment} {u v w : View} {m : Up} {ms : List Kind} →
    ReceivesAll c u ms v → Receives c v m w → ReceivesAll c u (ms ++ (kind.Up m ∷ [])) w
receives_last done g = then g done
receives_last (then h a) g = then h (receives_last a g)

-- ── eased: a report has arrived, or the owner is now alone ──

pub data Eased : Role → Role → Type 0 where
  as_was : {ro : Role} → Eased ro ro
  arrived : Eased left absent
  now_alone : Eased owner sole

data Easing : View → View → Type 0 where
  eases : {ro ro' : Role} {q : Option Ask} {p : Standing} → Eased ro ro' → Easing (view ro q p) (view ro' q p)

receives_eased : {c : Option Assignment} {v v' w : View} {m : Up} → Easing v v' → Receives c v m w → (w' : View) × Receives c v' m w' × Easing w w'
receives_eased (eases e) demand = (_, demand, eases e)
receives_eased (eases e) shares = (_, shares, eases as_was)
receives_eased (eases e) yields = (_, yields, eases as_was)
receives_eased (eases e) purges = (_, purges, eases as_was)
receives_eased (eases as_was) lets_go = (_, lets_go, eases as_was)
receives_eased (eases as_was) gives_up = (_, gives_up, eases as_was)

all_eased : {c : Option Assignment} {v v' w : View} {ms : List Kind} → Easing v v' → ReceivesAll c v ms w → (w' : View) × ReceivesAll c v' ms w' × Easing w w'
all_eased e done = (_, done, e)
all_eased e (then g a) =
    let (v, g', e') = receives_eased e g in
    let (w, a', e'') = all_eased e' a in
    (w, then g' a', e'')

away_eased : {ro ro' : Role} → Eased ro ro' → Away ro → Away ro'
away_eased as_was a = a
away_eased arrived a = is_absent
away_eased now_alone a = elim a [ ]

member_eased : {ro ro' : Role} → Eased ro ro' → Member ro → Member ro'
member_eased as_was m = m
member_eased arrived m = elim m [ ]
member_eased now_alone m = a_sole

holds_eased : {l : State} {ro ro' : Role} {v : Assignment} → Eased ro ro' → Holds l ro v → Holds l ro' v
holds_eased as_was h = h
holds_eased arrived h = elim h [ ]
holds_eased now_alone owned = owned_alone

asked_eased : {ro ro' : Role} {q : Option Ask} {d : List Kind} → Eased ro ro' → Asked ro q d → Asked ro' q d
asked_eased as_was a = a
asked_eased arrived unasked = unasked
asked_eased now_alone unasked = unasked
asked_eased now_alone of_an_owner = of_sole

case_eased : {c : Option Assignment} {w w' : View} {l : State} {d : List Kind} {p : Pending} → Easing w w' → Case c w l d p → Case c w' l d p
case_eased (eases e) (uncopied a) = uncopied (away_eased e a)
case_eased (eases e) (asking_bare a b st) = asking_bare (away_eased e a) b st
case_eased (eases as_was) (asking_lost b st) = asking_lost b st
case_eased (eases e) (holding h q) = holding (holds_eased e h) (asked_eased e q)
case_eased (eases e) (asking_held b me st q) = asking_held b (member_eased e me) st (asked_eased e q)
case_eased (eases as_was) (answered_away w x) = answered_away w x
case_eased (eases e) (answered_held w x h q) = answered_held w x (holds_eased e h) (asked_eased e q)
case_eased e (stale i b) = stale i (case_eased e b)

lane_eased : {ro ro' : Role} {q : Option Ask} {p : Standing} {ms d : List Kind} → Eased ro ro' → Lane (view ro q p) ms d → Lane (view ro' q p) ms d
lane_eased e empty = empty
lane_eased e (asked_now u) = asked_now u
lane_eased as_was asked_before = asked_before
lane_eased e (reply_first t) = reply_first t
lane_eased e (ask_then_reply t) = ask_then_reply t

pub link_eased : {c : Option Assignment} {ro ro' : Role} {q : Option Ask} {p : Standing} {ms d : List Kind} {l : State} {e : Pending} →
    Eased ro ro' → Link c (view ro q p) ms l d e → Link c (view ro' q p) ms l d e
link_eased e (w, a, b, n) =
    let (w', a', e') = all_eased (eases e) a in
    (w', a', case_eased e' b, lane_eased e n)

-- ── asked: the directory asks a listed zone; where a report is under way, the ask is stale ──

pub data MayAsk : Role → Ask → Type 0 where
  ask_sharer : MayAsk sharer Invalidate
  ask_owner : {a : Ask} → MayAsk owner a
  ask_sole : {a : Ask} → MayAsk sole a

data Asking : Ask → View → View → Type 0 where
  in_time : {a : Ask} {ro : Role} {p : Standing} → MayAsk ro a → Asking a (view ro None p) (view ro (Some a) p)
  too_late : {a : Ask} {p : Standing} → Asking a (view left None p) (view left None p)

receives_asking : {c : Option Assignment} {a : Ask} {v v' w : View} {m : Up} → Asking a v v' → Receives c v m w → (w' : View) × Receives c v' m w' × Asking a w w'
receives_asking (in_time y) demand = (_, demand, in_time y)
receives_asking (in_time y) lets_go = (_, lets_go, too_late)
receives_asking (in_time y) gives_up = (_, gives_up, too_late)
receives_asking too_late demand = (_, demand, too_late)

all_asking : {c : Option Assignment} {a : Ask} {v v' w : View} {ms : List Kind} →
    Asking a v v' → ReceivesAll c v ms w → (w' : View) × ReceivesAll c v' ms w' × Asking a w w'
all_asking y done = (_, done, y)
all_asking y (then g a) =
    let (v, g', y') = receives_asking y g in
    let (w, a', y'') = all_asking y' a in
    (w, then g' a', y'')

asked_of : {ro : Role} {a : Ask} → MayAsk ro a → Asked ro (Some a) (an_ask a ∷ [])
asked_of ask_sharer = of_sharer
asked_of ask_owner = of_an_owner
asked_of ask_sole = of_sole

nobody_away : {ro : Role} {a : Ask} → MayAsk ro a → Away ro → ⊥
nobody_away ask_sharer w = elim w [ ]
nobody_away ask_owner w = elim w [ ]
nobody_away ask_sole w = elim w [ ]

case_asking : {c : Option Assignment} {a : Ask} {w w' : View} {l : State} {d : List Kind} {p : Pending} →
    Asking a w w' → Case c w l d p → Case c w' l (d ++ (an_ask a ∷ [])) p
case_asking (in_time y) (uncopied w) = absurd (nobody_away y w)
case_asking (in_time y) (asking_bare w b st) = absurd (nobody_away y w)
case_asking (in_time y) (asking_lost b st) = elim y [ ]
case_asking (in_time y) (holding h unasked) = holding h (asked_of y)
case_asking (in_time y) (asking_held b me st unasked) = asking_held b me st (asked_of y)
case_asking (in_time y) (answered_away w e) = elim y [ ]
case_asking (in_time y) (answered_held w e h unasked) = answered_held w e h (asked_of y)
case_asking (in_time y) (stale i b) = stale i (case_asking (in_time y) b)
case_asking too_late (uncopied w) = stale by_invalid (uncopied w)
case_asking too_late (asking_bare w b st) = stale (by_bare b) (asking_bare w b st)
case_asking too_late (holding h q) = elim h [ ]
case_asking too_late (asking_held b me st q) = elim me [ ]
case_asking too_late (answered_held w e h q) = elim h [ ]
case_asking too_late (stale i b) = stale i (case_asking too_late b)

-- a zone that is asked nothing answers nothing
unasked_unanswered : {c : Option Assignment} {ro : Role} {p : Standing} {w : View} {ms : List Kind} → ReceivesAll c (view ro None p) ms w → Unanswered ms
unasked_unanswered done = nothing
unasked_unanswered (then demand a) = after_demand (unasked_unanswered a)
unasked_unanswered (then lets_go a) = after_report (unasked_unanswered a)
unasked_unanswered (then gives_up a) = after_report (unasked_unanswered a)

lane_asking : {ro : Role} {a : Ask} {p : Standing} {ms d : List Kind} → MayAsk ro a → Unanswered ms → Lane (view ro None p) ms d →
    Lane (view ro (Some a) p) ms (d ++ (an_ask a ∷ []))
lane_asking y u empty = asked_now u
lane_asking y u asked_before = elim y [ ]
lane_asking y u (reply_first no_ask) = reply_first one_ask
lane_asking y u (ask_then_reply no_ask) = ask_then_reply one_ask

pub link_asking : {c : Option Assignment} {ro : Role} {a : Ask} {p : Standing} {ms d : List Kind} {l : State} {e : Pending} →
    MayAsk ro a → Link c (view ro None p) ms l d e → Link c (view ro (Some a) p) ms l (d ++ (an_ask a ∷ [])) e
link_asking y (w, a, b, n) =
    let (w', a', y') = all_asking (in_time y) a in
    (w', a', case_asking y' b, lane_asking y (unasked_unanswered a) n)

-- ── taken up: the request is served from now on ──

data Taking : View → View → Type 0 where
  takes : {ro : Role} {q : Option Ask} {k : Demand} → Taking (view ro q (waiting k)) (view ro q (serving k))

receives_taking : {c : Option Assignment} {v v' w : View} {m : Up} → Taking v v' → Receives c v m w → (w' : View) × Receives c v' m w' × Taking w w'
receives_taking takes shares = (_, shares, takes)
receives_taking takes yields = (_, yields, takes)
receives_taking takes purges = (_, purges, takes)

all_taking : {c : Option Assignment} {v v' w : View} {ms : List Kind} → Taking v v' → ReceivesAll c v ms w → (w' : View) × ReceivesAll c v' ms w' × Taking w w'
all_taking t done = (_, done, t)
all_taking t (then g a) =
    let (v, g', t') = receives_taking t g in
    let (w, a', t'') = all_taking t' a in
    (w, then g' a', t'')

case_taking : {c : Option Assignment} {w w' : View} {l : State} {d : List Kind} {p : Pending} → Taking w w' → Case c w l d p → Case c w' l d p
case_taking takes (asking_bare w b as_waiting) = asking_bare w b as_served
case_taking takes (asking_lost b as_waiting) = asking_lost b as_served
case_taking takes (asking_held b me as_waiting q) = asking_held b me as_served q
case_taking takes (stale i b) = stale i (case_taking takes b)

lane_standing : {ro : Role} {q : Option Ask} {p p' : Standing} {ms d : List Kind} → Lane (view ro q p) ms d → Lane (view ro q p') ms d
lane_standing empty = empty
lane_standing (asked_now u) = asked_now u
lane_standing asked_before = asked_before
lane_standing (reply_first t) = reply_first t
lane_standing (ask_then_reply t) = ask_then_reply t

pub link_taking : {c : Option Assignment} {ro : Role} {q : Option Ask} {k : Demand} {ms d : List Kind} {l : State} {e : Pending} →
    Link c (view ro q (waiting k)) ms l d e → Link c (view ro q (serving k)) ms l d e
link_taking (w, a, b, n) =
    let (w', a', t) = all_taking takes a in
    (w', a', case_taking t b, lane_standing n)

-- ── struck off: a zone that is not listed fits whatever the central pool holds ──

pub data Struck : View → Type 0 where
  struck : {p : Standing} → Struck (view absent None p)

all_struck : {c : Option Assignment} (c' : Option Assignment) {v w : View} {ms : List Kind} → Struck v → ReceivesAll c v ms w → ReceivesAll c' v ms w × Struck w
all_struck c' struck done = (done, struck)
all_struck c' struck (then demand a) =
    let (a', s) = all_struck c' struck a in
    (then demand a', s)

case_struck : {c : Option Assignment} (c' : Option Assignment) {w : View} {l : State} {d : List Kind} {p : Pending} → Struck w → Case c w l d p → Case c' w l d p
case_struck c' struck (uncopied w) = uncopied w
case_struck c' struck (asking_bare w b st) = asking_bare w b st
case_struck c' struck (asking_lost b st) = asking_lost b st
case_struck c' struck (holding h q) = elim h [ ]
case_struck c' struck (asking_held b me st q) = elim me [ ]
case_struck c' struck (answered_away w e) = answered_away w e
case_struck c' struck (answered_held w e h q) = elim h [ ]
case_struck c' struck (stale i b) = stale i (case_struck c' struck b)

pub link_struck : {c : Option Assignment} (c' : Option Assignment) {v : View} {ms d : List Kind} {l : State} {p : Pending} →
    Struck v → Link c v ms l d p → Link c' v ms l d p
link_struck c' s (w, a, b, n) =
    let (a', s') = all_struck c' s a in
    (w, a', case_struck c' s' b, n)

-- ── settled: the served request ends with a reply ──

-- Ends c ro k m ro': with c in the central pool, a demand k of a zone in the role ro may end with m, and leaves the zone in the role ro'.
pub data Ends : Option Assignment → Role → Demand → Reply → Role → Type 0 where
  shared : {v : Assignment} → Ends (Some v) absent GetSharedData (DataFound v) owner
  shared_alone : {v : Assignment} → Ends (Some v) absent GetSharedData (DataFound v) sole
  shared_none : Ends None absent GetSharedData NoDataFound absent
  exclusive_found : {v : Assignment} → Ends (Some v) absent GetExclusiveData (DataFound v) sole
  exclusive_none : Ends None absent GetExclusiveData NoDataFound sole
  if_any_found : {v : Assignment} → Ends (Some v) absent GetExclusiveDataIfAny (DataFound v) sole
  if_any_none : Ends None absent GetExclusiveDataIfAny NoDataFound absent
  removed_found : {v : Assignment} → Ends (Some v) absent GetRemovedData (DataFound v) absent
  removed_none : Ends None absent GetRemovedData NoDataFound absent
  late_exclude : {v : Assignment} → Ends (Some v) absent Exclude (DataFound v) sole
  late_exclude_none : Ends None absent Exclude NoDataFound sole
  late_if_any : {v : Assignment} → Ends (Some v) absent ExcludeIfAny (DataFound v) sole
  late_if_any_none : Ends None absent ExcludeIfAny NoDataFound absent
  late_purge : {v : Assignment} → Ends (Some v) absent PurgeOthers (DataFound v) absent
  late_purge_none : Ends None absent PurgeOthers NoDataFound absent
  excludes : {c : Option Assignment} {ro : Role} → Member ro → Ends c ro Exclude ExclusionMade sole
  excludes_if_any : {c : Option Assignment} {ro : Role} → Member ro → Ends c ro ExcludeIfAny ExclusionMade sole
  purges_others : {c : Option Assignment} {ro : Role} → Member ro → Ends c ro PurgeOthers ExclusionMade absent
  puts : {c : Option Assignment} {ro : Role} → Ends c ro PurgeAndExclude ExclusionMade sole
  clears : {c : Option Assignment} {ro : Role} → Member ro → Ends c ro PurgeAll ExclusionMade absent
  clears_found : {v : Assignment} → Ends (Some v) absent PurgeAll ExclusionMade absent
  clears_none : Ends None absent PurgeAll NoDataFound absent

abbrev Settled : Option Assignment → Role → State → List Kind → Request → Type 0
Settled c ro l d r = Case (central.left r c) (view ro None idle) l d (settled r (answered r c))

pub members_away : {ro : Role} → Member ro → Away ro → ⊥
members_away a_sharer w = elim w [ ]
members_away an_owner w = elim w [ ]
members_away a_sole w = elim w [ ]

-- a line that was sent without a copy
bare_ends : {c : Option Assignment} {ro ro' : Role} {k : Demand} {m : Reply} {l : State} {r : Request} →
    SentBare l k r → Away ro → Ends c ro k m ro' → Settled c ro' l (a_reply m ∷ []) r
bare_ends SentBare.reading w shared = answered_held (bare SentBare.reading) refl owned unasked
bare_ends SentBare.reading w shared_alone = answered_held (bare SentBare.reading) refl owned_alone unasked
bare_ends SentBare.reading w shared_none = answered_away (bare SentBare.reading) refl
bare_ends SentBare.putting w puts = answered_held (bare SentBare.putting) refl exclusive unasked
bare_ends SentBare.swapping w exclusive_found = answered_held (bare SentBare.swapping) refl exclusive unasked
bare_ends SentBare.swapping w exclusive_none = answered_held (bare SentBare.swapping) refl exclusive unasked
bare_ends SentBare.swapping_if_any w if_any_found = answered_held (bare SentBare.swapping_if_any) refl exclusive unasked
bare_ends SentBare.swapping_if_any w if_any_none = answered_away (bare SentBare.swapping_if_any) refl
bare_ends SentBare.taking w removed_found = answered_away (bare SentBare.taking) refl
bare_ends SentBare.taking w removed_none = answered_away (bare SentBare.taking) refl
bare_ends SentBare.removing w (clears me) = absurd (members_away me w)
bare_ends SentBare.removing w clears_found = answered_away (bare SentBare.removing) refl
bare_ends SentBare.removing w clears_none = answered_away (bare SentBare.removing) refl

-- a line that was sent with a copy and has lost it
lost_ends : {c : Option Assignment} {ro' : Role} {k : Demand} {m : Reply} {l : State} {r : Request} →
    SentHolding l None k r → Ends c absent k m ro' → Settled c ro' l (a_reply m ∷ []) r
lost_ends SentHolding.putting puts = answered_held (with_copy SentHolding.putting) refl exclusive unasked
lost_ends SentHolding.swapping late_exclude = answered_held (with_copy SentHolding.swapping) refl exclusive unasked
lost_ends SentHolding.swapping late_exclude_none = answered_held (with_copy SentHolding.swapping) refl exclusive unasked
lost_ends SentHolding.swapping (excludes me) = elim me [ ]
lost_ends SentHolding.swapping_if_any late_if_any = answered_held (with_copy SentHolding.swapping_if_any) refl exclusive unasked
lost_ends SentHolding.swapping_if_any late_if_any_none = answered_away (with_copy SentHolding.swapping_if_any) refl
lost_ends SentHolding.swapping_if_any (excludes_if_any me) = elim me [ ]
lost_ends SentHolding.taking late_purge = answered_away (with_copy SentHolding.taking) refl
lost_ends SentHolding.taking late_purge_none = answered_away (with_copy SentHolding.taking) refl
lost_ends SentHolding.taking (purges_others me) = elim me [ ]
lost_ends SentHolding.removing (clears me) = elim me [ ]
lost_ends SentHolding.removing clears_found = answered_away (with_copy SentHolding.removing) refl
lost_ends SentHolding.removing clears_none = answered_away (with_copy SentHolding.removing) refl

-- a line that has its copy still
held_ends : {v : Assignment} {ro ro' : Role} {k : Demand} {m : Reply} {l : State} {r : Request} →
    SentHolding l (Some v) k r → Member ro → Ends (Some v) ro k m ro' → Settled (Some v) ro' l (a_reply m ∷ []) r
held_ends SentHolding.putting me puts = answered_held (with_copy SentHolding.putting) refl exclusive unasked
held_ends SentHolding.swapping me late_exclude = elim me [ ]
held_ends SentHolding.swapping me (excludes x) = answered_held (with_copy SentHolding.swapping) refl exclusive unasked
held_ends SentHolding.swapping_if_any me late_if_any = elim me [ ]
held_ends SentHolding.swapping_if_any me (excludes_if_any x) = answered_held (with_copy SentHolding.swapping_if_any) refl exclusive unasked
held_ends SentHolding.taking me late_purge = elim me [ ]
held_ends SentHolding.taking me (purges_others x) = answered_away (with_copy SentHolding.taking) refl
held_ends SentHolding.removing me (clears x) = answered_away (with_copy SentHolding.removing) refl
held_ends SentHolding.removing me clears_found = elim me [ ]

case_ends : {c : Option Assignment} {ro ro' : Role} {k : Demand} {m : Reply} {l : State} {d : List Kind} {r : Request} →
    Ends c ro k m ro' → Case c (view ro None (serving k)) l d (accepted r) → Settled c ro' l (d ++ (a_reply m ∷ [])) r
case_ends e (asking_bare w b as_served) = bare_ends b w e
case_ends e (asking_lost b as_served) = lost_ends b e
case_ends e (asking_held b me as_served unasked) = held_ends b me e
case_ends e (stale i b) = stale i (case_ends e b)

-- an accepted request has no reply yet
no_reply_yet : {c : Option Assignment} {w : View} {l : State} {m : Reply} {d : List Kind} {r : Request} → Case c w l (a_reply m ∷ d) (accepted r) → ⊥
no_reply_yet (asking_held b me st q) = elim q [ ]

no_reply_behind : {c : Option Assignment} {w : View} {l : State} {a : Ask} {m : Reply} {d : List Kind} {r : Request} →
    Case c w l (an_ask a ∷ a_reply m ∷ d) (accepted r) → ⊥
no_reply_behind (asking_held b me st q) = elim q [ ]
no_reply_behind (stale i b) = no_reply_yet b

lane_ends : {c : Option Assignment} {w : View} {ro : Role} (ro' : Role) {p p' : Standing} (m : Reply) {l : State} {d : List Kind} {r : Request} →
    Case c w l d (accepted r) → Lane (view ro None p) [] d → Lane (view ro' None p') [] (d ++ (a_reply m ∷ []))
lane_ends ro' m b empty = reply_first no_ask
lane_ends ro' m b asked_before = ask_then_reply no_ask
lane_ends ro' m b (reply_first t) = absurd (no_reply_yet b)
lane_ends ro' m b (ask_then_reply t) = absurd (no_reply_behind b)

pub link_ends : {c : Option Assignment} {ro ro' : Role} {k : Demand} {m : Reply} {ms d : List Kind} {l : State} {r : Request} →
    Ends c ro k m ro' → Link c (view ro None (serving k)) ms l d (accepted r) →
    Link (central.left r c) (view ro' None idle) ms l (d ++ (a_reply m ∷ [])) (settled r (answered r c))
link_ends {ro' = ro'} {m = m} e (w, done, b, n) = (_, done, case_ends e b, lane_ends ro' m b n)
link_ends e (w, then g a, b, n) = elim g [ ]

-- a request that is served is accepted
case_accepted : {c : Option Assignment} {ro : Role} {k : Demand} {l : State} {d : List Kind} {p : Pending} →
    Case c (view ro None (serving k)) l d p → (r : Request) × (p ≡ accepted r)
case_accepted (asking_bare {r = r} w b st) = (r, refl)
case_accepted (asking_lost {r = r} b st) = (r, refl)
case_accepted (asking_held {r = r} b me st q) = (r, refl)
case_accepted (stale i b) = case_accepted b

pub link_accepted : {c : Option Assignment} {ro : Role} {k : Demand} {ms d : List Kind} {l : State} {p : Pending} →
    Link c (view ro None (serving k)) ms l d p → (r : Request) × (p ≡ accepted r)
link_accepted (w, done, b, n) = case_accepted b
link_accepted (w, then g a, b, n) = elim g [ ]

-- the demand that was sent says what the request is
pub data SentFor : Demand → Request → Type 0 where
  to_read : SentFor GetSharedData request.CarbonCopy
  to_put : {n : Assignment} → SentFor PurgeAndExclude (request.Put n)
  to_swap : {n : Assignment} → SentFor GetExclusiveData (request.GetIfAnyAndPut n)
  to_swap_own : {n : Assignment} → SentFor Exclude (request.GetIfAnyAndPut n)
  to_swap_if_any : {n : Assignment} → SentFor GetExclusiveDataIfAny (request.GetAndPutIfAny n)
  to_swap_own_if_any : {n : Assignment} → SentFor ExcludeIfAny (request.GetAndPutIfAny n)
  to_take : SentFor GetRemovedData request.GetIfAny
  to_take_own : SentFor PurgeOthers request.GetIfAny
  to_remove : SentFor PurgeAll request.Remove

bare_for : {l : State} {k : Demand} {r : Request} → SentBare l k r → SentFor k r
bare_for SentBare.reading = to_read
bare_for SentBare.putting = to_put
bare_for SentBare.swapping = to_swap
bare_for SentBare.swapping_if_any = to_swap_if_any
bare_for SentBare.taking = to_take
bare_for SentBare.removing = to_remove

holding_for : {l : State} {c : Option Assignment} {k : Demand} {r : Request} → SentHolding l c k r → SentFor k r
holding_for SentHolding.putting = to_put
holding_for SentHolding.swapping = to_swap_own
holding_for SentHolding.swapping_if_any = to_swap_own_if_any
holding_for SentHolding.taking = to_take_own
holding_for SentHolding.removing = to_remove

case_for : {c : Option Assignment} {ro : Role} {k : Demand} {l : State} {d : List Kind} {r : Request} →
    Case c (view ro None (serving k)) l d (accepted r) → SentFor k r
case_for (asking_bare w b as_served) = bare_for b
case_for (asking_lost b as_served) = holding_for b
case_for (asking_held b me as_served q) = holding_for b
case_for (stale i b) = case_for b

pub link_for : {c : Option Assignment} {ro : Role} {k : Demand} {ms d : List Kind} {l : State} {r : Request} →
    Link c (view ro None (serving k)) ms l d (accepted r) → SentFor k r
link_for (w, done, b, n) = case_for b
link_for (w, then g a, b, n) = elim g [ ]

-- a request that leaves its zone unlisted leaves nothing in the central pool
pub ends_empty : {c : Option Assignment} {ro : Role} {k : Demand} {m : Reply} {r : Request} → SentFor k r → Ends c ro k m absent → central.left r c ≡ None
ends_empty to_read shared_none = refl
ends_empty to_put e = elim e [ ]
ends_empty to_swap e = elim e [ ]
ends_empty to_swap_own e = elim e [ ]
ends_empty to_swap_if_any if_any_none = refl
ends_empty to_swap_own_if_any late_if_any_none = refl
ends_empty to_take e = refl
ends_empty to_take_own e = refl
ends_empty to_remove e = refl

-- ── what the first message of an up lane says of the view, and the link without it ──

lane_demanded : {ro : Role} {q : Option Ask} {p p' : Standing} {k : Demand} {ms d : List Kind} →
    Lane (view ro q p) (kind.Up (up.Demand k) ∷ ms) d → Lane (view ro q p') ms d
lane_demanded empty = empty
lane_demanded (asked_now (after_demand u)) = asked_now u
lane_demanded asked_before = asked_before

pub take_demand : {c : Option Assignment} {ro : Role} {q : Option Ask} {p : Standing} {k : Demand} {ms d : List Kind} {l : State} {e : Pending} →
    Link c (view ro q p) (kind.Up (up.Demand k) ∷ ms) l d e → (p ≡ idle) × Link c (view ro q (waiting k)) ms l d e
take_demand (w, then demand a, b, n) = (refl, (w, a, b, lane_demanded n))

-- what was asked of a zone whose data arrives, and its role then
pub data Sent : Option Ask → Role → Type 0 where
  sent_shared : Sent (Some SendData) sharer
  sent_whole : Sent (Some SendDataAndInvalidate) absent

lane_sent : {ro : Role} {a : Ask} {p : Standing} {x : Assignment} {ms d : List Kind} (w : View) →
    Lane (view ro (Some a) p) (kind.Up (up.Data x) ∷ ms) d → Lane w ms d
lane_sent w empty = empty
lane_sent w (asked_now u) = elim u [ ]

lane_purged : {ro : Role} {a : Ask} {p : Standing} {ms d : List Kind} (w : View) →
    Lane (view ro (Some a) p) (kind.Up up.Purged ∷ ms) d → Lane w ms d
lane_purged w empty = empty
lane_purged w (asked_now u) = elim u [ ]

lane_reported : {ro : Role} {q : Option Ask} {p p' : Standing} {ms d : List Kind} →
    Lane (view ro q p) (kind.Up up.Report ∷ ms) d → Lane (view absent None p') ms d
lane_reported empty = empty
lane_reported (asked_now u) = asked_before
lane_reported asked_before = asked_before

pub take_data : {c : Option Assignment} {ro : Role} {q : Option Ask} {p : Standing} {v : Assignment} {ms d : List Kind} {l : State} {e : Pending} →
    Link c (view ro q p) (kind.Up (up.Data v) ∷ ms) l d e → (ro' : Role) × Sent q ro' × (c ≡ Some v) × Link c (view ro' None p) ms l d e
take_data (w, then shares a, b, n) = (sharer, sent_shared, refl, (w, a, b, lane_sent _ n))
take_data (w, then yields a, b, n) = (absent, sent_whole, refl, (w, a, b, lane_sent _ n))

pub take_purged : {c : Option Assignment} {ro : Role} {q : Option Ask} {p : Standing} {ms d : List Kind} {l : State} {e : Pending} →
    Link c (view ro q p) (kind.Up up.Purged ∷ ms) l d e → (q ≡ Some Invalidate) × (is_some c ≡ true) × Link c (view absent None p) ms l d e
take_purged (w, then purges a, b, n) = (refl, refl, (w, a, b, lane_purged _ n))

-- who reports: a sharer, or the sole owner once the central pool holds nothing
pub data Reports : Option Assignment → Role → Type 0 where
  from_sharer : {c : Option Assignment} → Reports c sharer
  from_sole : Reports None sole

report_arrived : {c : Option Assignment} {w : View} {ms d : List Kind} {l : State} {e : Pending} →
    ReceivesAll c (view left None idle) ms w → Case c w l d e → Lane (view absent None idle) ms d → Link c (view absent None idle) ms l d e
report_arrived a b n =
    let (w', a', e') = all_eased (eases arrived) a in
    (w', a', case_eased e' b, n)

pub take_report : {c : Option Assignment} {ro : Role} {q : Option Ask} {p : Standing} {ms d : List Kind} {l : State} {e : Pending} →
    Link c (view ro q p) (kind.Up up.Report ∷ ms) l d e → Reports c ro × (p ≡ idle) × Link c (view absent None idle) ms l d e
take_report (w, then lets_go a, b, n) = (from_sharer, refl, report_arrived a b (lane_reported n))
take_report (w, then gives_up a, b, n) = (from_sole, refl, report_arrived a b (lane_reported n))

-- nothing that goes down is ever in an up lane
pub take_down : {c : Option Assignment} {v : View} {m : Down} {ms d : List Kind} {l : State} {e : Pending} → Link c v (kind.Down m ∷ ms) l d e → ⊥
take_down (w, a, b, n) = elim a [ ]

-- A request, a let-go and a delivery down at one zone keep the invariant.
use Rattle.std.proofs.Common.{◌≡◌, ℕ, Bool, true, false, eqb, ltb, ◌⊎◌, List, [], ◌∷◌, ◌++◌, Some, None, Option, refl, ap, ◌∙◌, subst, inl, inr, append-nil}
use Rattle.messages.specs.declared.assignments.Assignment.{Assignment}
use Rattle.messages.specs.declared.requests.Request.{Request}
use Rattle.messages.specs.declared.requests.Answer.{Answer}
use Rattle.messages.specs.declared.kinds.Ask.{Ask}
use Rattle.messages.specs.declared.kinds.Up.{Up}
use Rattle.messages.specs.declared.kinds.Kind.{Kind}
use Rattle.line.specs.declared.states.State.{State}
use Rattle.line.specs.Outcomes.{moved}
use Rattle.line.specs.Requested.{requested}
use Rattle.line.specs.LetGo.{let_go}
use Rattle.line.specs.Received.{received}
use Rattle.directory.specs.declared.rows.Rule.{Rule}
use Rattle.directory.specs.declared.rows.Rule.TheVariants.{Sharing, Fetching, Clearing}
use Rattle.directory.specs.declared.rows.Waiting.{Waiting}
use Rattle.directory.specs.declared.rows.Served.{Served}
use Rattle.directory.specs.TakeUp.{owner_of}
use Rattle.coherence.specs.System.{System, Pending, at}
use Rattle.coherence.specs.Steps.{sent_up, central_at_start, pending_at_start, pending_at_delivery, after_request, after_let_go, after_down}
use Rattle.coherence.proofs.Views.{Role, absent, sole, Standing, idle, View, view, Receives, demand, shares, yields, purges, lets_go, gives_up, ReceivesAll, done, then, Case, Lane, empty, Link}
use Rattle.coherence.proofs.Zone.{receives_last, Struck, struck, link_struck}
use Rattle.coherence.proofs.Local.{Taken, passed, met, ended, received_fits, Started, sent, read, wrote, reported, requested_fits, Gone, let_it_go, let_go_fits, a_demand, a_report, lane_more, lane_next}
use Rattle.coherence.proofs.Zones.{same, flip, beyond_apart, everywhere}
use Rattle.coherence.proofs.Seen.{role_under, role_in, asked_in, seen}
use Rattle.coherence.proofs.Roles.{sole_list, sole_owner, role_alone}
use Rattle.coherence.proofs.Awaits.{rule_for}
use Rattle.coherence.proofs.Invariant.{Brought, Ready, Linked, Beyond, Inv}

-- ── a sole owner with no request has an empty up lane ──

pub data Sole : View → Type 0 where
  sole_idle : {q : Option Ask} → Sole (view sole q idle)

never_sole : {c : Option Assignment} {v w : View} {m : Up} → Receives c v m w → Sole w → ⊥
never_sole demand s = elim s [ ]
never_sole shares s = elim s [ ]
never_sole yields s = elim s [ ]
never_sole purges s = elim s [ ]
never_sole lets_go s = elim s [ ]
never_sole gives_up s = elim s [ ]

pub all_sole : {c : Option Assignment} (c' : Option Assignment) {v w : View} {ms : List Kind} → ReceivesAll c v ms w → Sole w → ReceivesAll c' v ms w × Sole v
all_sole c' done s = (done, s)
all_sole c' (then g a) s =
    let (a', s') = all_sole c' a s in
    absurd (never_sole g s')

-- ── and everybody else is struck off ──

others_absent : (o y z : ℕ) (xs : List ℕ) → role_under o xs z ≡ sole → eqb y z ≡ false → role_under o xs y ≡ absent
others_absent o y z xs e n = ap (λ l. role_under o l y) (sole_list o z xs e) ∙ role_alone o y z n

pub others_struck : (xs : List ℕ) (sv : Option Served) (p : Standing) (y z : ℕ) → role_in xs sv z ≡ sole → eqb y z ≡ false →
    Struck (view (role_in xs sv y) (asked_in xs sv y) p)
others_struck xs None p y z e n = rw (others_absent (owner_of xs) y z xs e n) struck
others_struck xs (Some s) p y z e n =
    let l : xs ≡ z ∷ [] = sole_list s.owner z xs e in
    rw (l, flip y z n) struck

pub sole_role : {ro : Role} {q : Option Ask} {p : Standing} → Sole (view ro q p) → ro ≡ sole
sole_role sole_idle = refl

-- ── what has come stays so while a sole owner changes the key ──

brought_inside : (c c' : Option Assignment) (r : Rule) (j : Bool) (f : Option Assignment) (p : Bool) → Brought r j true c f p → Brought r j true c' f p
brought_inside c c' Sharing j f p b = b
brought_inside c c' Fetching j f p b = b
brought_inside c c' Clearing true f p b = b
brought_inside c c' Clearing false f p b = b

ready_sole : (c c' : Option Assignment) (xs : List ℕ) (ws : List Waiting) (sv : Option Served) (z : ℕ) →
    role_in xs sv z ≡ sole → Ready c xs ws sv → Ready c' xs ws sv
ready_sole c c' xs ws None z e h = λ n. let l = sole_list (owner_of xs) z xs e in cc
ready_sole c c' xs ws (Some s) z e (h, busy) =
    let i = sole_owner s.owner z xs e in (
      record {
        a_zone = h.a_zone;
        listed_as_before = h.listed_as_before;
        unqueued = h.unqueued;
        has_its_place = h.has_its_place;
        brought = rw i (brought_inside c c' (rule_for s) s.was_listed s.found s.owner_purged (rw i at h.brought));
      },
      busy,
    )

-- ── a request ──

request_linked : {c : Option Assignment} {v w : View} {ms d : List Kind} {l₀ l : State} {p : Pending} {r : Request} {u : Option Up} {a : Option Answer} →
    Started c w d p r (moved u a l) → ReceivesAll c v ms w → Case c w l₀ d p → Lane v ms d →
    Link (central_at_start a r c) v (ms ++ sent_up u) l d (pending_at_start a r p)
request_linked (sent g b') a b n = (_, receives_last a g, b', lane_more a_demand b n)
request_linked (read b') a b n = rw append-nil (_, a, b', n)
request_linked (wrote b') a b n = rw append-nil (_, (all_sole _ a sole_idle).0, b', n)
request_linked (reported g b') a b n = (_, receives_last (all_sole _ a sole_idle).0 g, b', lane_more a_report b n)

-- the key changes at a sole owner, or not at all
request_changes : {c : Option Assignment} {v w : View} {ms d : List Kind} {p : Pending} {r : Request} {u : Option Up} {a : Option Answer} {l : State} →
    Started c w d p r (moved u a l) → ReceivesAll c v ms w → (central_at_start a r c ≡ c) ⊎ Sole v
request_changes (sent g b') a = inl refl
request_changes (read b') a = inl refl
request_changes {c} (wrote b') a = inr (all_sole c a sole_idle).1
request_changes {c} (reported g b') a = inr (all_sole c a sole_idle).1

-- so the others stay as they are
others_linked : (s : System) (c' : Option Assignment) (y z : ℕ) → eqb y z ≡ false → (c' ≡ s.central) ⊎ Sole (seen s.dir z) → Linked s y →
    Link c' (seen s.dir y) (s.up y) (s.line y) (s.down y) (s.pending y)
others_linked s c' y z n (inl e) h = rw e h
others_linked s c' y z n (inr e) h = link_struck c' (others_struck s.dir.list s.dir.served _ y z (sole_role e) n) h

still_ready : (s : System) (c' : Option Assignment) (z : ℕ) → (c' ≡ s.central) ⊎ Sole (seen s.dir z) →
    Ready s.central s.dir.list s.dir.waiting s.dir.served → Ready c' s.dir.list s.dir.waiting s.dir.served
still_ready s c' z (inl e) h = rw e h
still_ready s c' z (inr e) h = ready_sole s.central c' s.dir.list s.dir.waiting s.dir.served z (sole_role e) h

-- a zone below 8 sends: nothing changes above
still_beyond : (ups : ℕ → List Kind) (xs : List ℕ) (ws : List Waiting) (z : ℕ) (ms : List Kind) → ltb z 8 ≡ true → Beyond ups xs ws → Beyond (at z ms ups) xs ws
still_beyond ups xs ws z ms t f y e = ((f y e).0, (f y e).1, rw (beyond_apart y z t e) (f y e).2)

pub request_keeps : (s : System) (z : ℕ) (r : Request) (u : Option Up) (a : Option Answer) (l : State) → ltb z 8 ≡ true →
    requested (s.line z) r ≡ moved u a l → Inv s → Inv (after_request s z r u a l)
request_keeps s z r u a l t e i =
    let (w, all, b, n) = i.linked z in
    let g = subst (Started _ _ _ _ r) e (requested_fits r b) in
    let o = request_changes g all in
    record {
      linked = everywhere (Linked (after_request s z r u a l)) z (rw same (request_linked g all b n)) (λ y m. rw m (others_linked s _ y z m o (i.linked y)));
      beyond = still_beyond s.up s.dir.list s.dir.waiting z (s.up z ++ sent_up u) t i.beyond;
      distinct = i.distinct;
      ready = still_ready s _ z o i.ready;
    }

-- ── a let-go ──

let_go_linked : {c : Option Assignment} {v w : View} {ms d : List Kind} {l₀ l : State} {p : Pending} {u : Option Up} →
    Gone c w d p (moved u None l) → ReceivesAll c v ms w → Case c w l₀ d p → Lane v ms d → Link c v (ms ++ sent_up u) l d p
let_go_linked (let_it_go g b') a b n = (_, receives_last a g, b', lane_more a_report b n)

pub let_go_keeps : (s : System) (z : ℕ) (u : Option Up) (l : State) → ltb z 8 ≡ true → let_go (s.line z) ≡ moved u None l → Inv s → Inv (after_let_go s z u l)
let_go_keeps s z u l t e i =
    let (w, all, b, n) = i.linked z in
    let g = subst (Gone _ _ _ _) e (let_go_fits b) in
    record {
      linked = everywhere (Linked (after_let_go s z u l)) z (rw same (let_go_linked g all b n)) (λ y m. rw m (i.linked y));
      beyond = still_beyond s.up s.dir.list s.dir.waiting z (s.up z ++ sent_up u) t i.beyond;
      distinct = i.distinct;
      ready = i.ready;
    }

-- ── a delivery down ──

down_linked : {c : Option Assignment} {v w : View} {ms d : List Kind} {m : Kind} {l : State} {p : Pending} {u : Option Up} {a : Option Answer} →
    Taken c w d p (moved u a l) → ReceivesAll c v ms w → Lane v ms (m ∷ d) → Link c v (ms ++ sent_up u) l d (pending_at_delivery a p)
down_linked (passed b) a n = rw append-nil (_, a, b, lane_next n)
down_linked (met g b) a n = (_, receives_last a g, b, empty)
down_linked (ended b) a n = rw append-nil (_, a, b, lane_next n)

pub down_keeps : (s : System) (z : ℕ) (m : Kind) (rest : List Kind) (u : Option Up) (a : Option Answer) (l : State) → ltb z 8 ≡ true →
    s.down z ≡ m ∷ rest → received (s.line z) m ≡ moved u a l → Inv s → Inv (after_down s z rest u a l)
down_keeps s z m rest u a l t d e i =
    let (w, all, b, n) = i.linked z in
    let g = subst (Taken _ _ _ _) e (received_fits (rw d at b)) in
    record {
      linked = everywhere (Linked (after_down s z rest u a l)) z (rw same (down_linked g all (rw d at n))) (λ y k. rw k (i.linked y));
      beyond = still_beyond s.up s.dir.list s.dir.waiting z (s.up z ++ sent_up u) t i.beyond;
      distinct = i.distinct;
      ready = i.ready;
    }

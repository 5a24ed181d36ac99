-- A demand, data or purged that arrives at the directory is not refused, and keeps the invariant.
use Rattle.std.proofs.Common.{◌≡◌, ℕ, Bool, true, false, cond, ◌||◌, eqb, ltb, ◌⊎◌, List, [], ◌∷◌, ◌++◌, is_some, Some, None, Option, sym, refl, ap, ◌∙◌, inl, inr}
use Rattle.messages.specs.declared.assignments.Assignment.{Assignment}
use Rattle.messages.specs.declared.kinds.Demand.{Demand}
use Rattle.messages.specs.declared.kinds.Demand.TheVariants.{GetSharedData}
use Rattle.messages.specs.declared.kinds.Ask.{Ask}
use Rattle.messages.specs.declared.kinds.Ask.TheVariants.{Invalidate}
use Rattle.messages.specs.declared.kinds.Up.TheVariants as up
use Rattle.messages.specs.declared.kinds.Reply.TheVariants.{DataFound}
use Rattle.messages.specs.declared.kinds.Kind.{Kind}
use Rattle.messages.specs.declared.kinds.Kind.TheVariants as kind
use Rattle.directory.specs.declared.rows.Rule.{Rule}
use Rattle.directory.specs.declared.rows.Rule.TheVariants.{Sharing, Fetching, Clearing}
use Rattle.directory.specs.declared.rows.Waiting.{Waiting}
use Rattle.directory.specs.declared.rows.Served.{Served}
use Rattle.directory.specs.Lists.{listed, without}
use Rattle.directory.specs.Directory.{directory}
use Rattle.directory.specs.Serving.{serves_on, ask_by}
use Rattle.directory.specs.Arrivals.{to_nobody, demand_arrives, with_data, with_purged, data_by, purged_by, data_arrives, purged_arrives}
use Rattle.coherence.specs.System.{System, at}
use Rattle.coherence.specs.Steps.{taken_from}
use Rattle.coherence.proofs.Views.{Role, absent, sharer, idle, serving, view, Link}
use Rattle.coherence.proofs.Zone.{Ends, shared, shared_alone, take_demand, take_data, Sent, sent_shared, sent_whole, take_purged}
use Rattle.coherence.proofs.Zones.{same, are_equal, everywhere, Apart, equal, apart, compare_zones, flip, beyond_apart, clash_some, struck_off, others_listed}
use Rattle.coherence.proofs.Seen.{owner_role, role_by, role_under, asked_in, waiting_of, standing_in, seen}
use Rattle.coherence.proofs.Roles.{role_unlisted, sharer_apart, Owns, owns_by, waiting_others, waiting_new, served_stands, others_stand, idle_unqueued, idle_unserved, idle_free}
use Rattle.coherence.proofs.Awaits.{rule_for, asking, awaited_as, asked_to_share, asked_to_yield, asked_to_leave, fetching_shares, leaving_shares, own_unasked, asked_apart, shares_only, reader_unlisted, data_ends_sharing}
use Rattle.coherence.proofs.Settle.{settled_link, settled_reading, requester_accepted, serves_on_keeps}
use Rattle.coherence.proofs.Invariant.{Distinct, Brought, Serves, Ready, Linked, Beyond, Inv}
use Rattle.coherence.proofs.Kept.{Kept, kept_silently, kept_replying, with_directory}
use Rattle.coherence.proofs.Strikes.{beyond_struck, struck_linked, struck_serves}

-- ── a demand ──

distinct_last : (ws : List Waiting) (z : ℕ) (k : Demand) → Distinct ws → waiting_of ws z ≡ None → Distinct (ws ++ (record { zone = z; demand = k } ∷ []))
distinct_last [] z k d n = (refl, tt)
distinct_last (w ∷ ws) z k (f, d) n = go (eqb w.zone z) refl n (distinct_last ws z k d)
  where
    go : (b : Bool) → eqb w.zone z ≡ b → cond b (Some w.demand) (waiting_of ws z) ≡ None →
        (waiting_of ws z ≡ None → Distinct (ws ++ (record { zone = z; demand = k } ∷ []))) → Distinct (w ∷ (ws ++ (record { zone = z; demand = k } ∷ [])))
    go true t n h = absurd (clash_some n)
    go false t n h = (waiting_others w.zone z k ws t ∙ f, h n)

ready_demanded : (c : Option Assignment) (xs : List ℕ) (ws : List Waiting) (sv : Option Served) (z : ℕ) (k : Demand) →
    standing_in ws sv z ≡ idle → Ready c xs ws sv → Ready c xs (ws ++ (record { zone = z; demand = k } ∷ [])) sv
ready_demanded c xs ws None z k e h = h
ready_demanded c xs ws (Some s) z k e (h, busy) = (
  record {
    a_zone = h.a_zone;
    listed_as_before = h.listed_as_before;
    unqueued = waiting_others s.zone z k ws (idle_unserved s ws z e) ∙ h.unqueued;
    has_its_place = h.has_its_place;
    brought = h.brought;
  },
  busy,
)

beyond_demanded : (ups : ℕ → List Kind) (xs : List ℕ) (ws : List Waiting) (z : ℕ) (k : Demand) (rest : List Kind) → ltb z 8 ≡ true → Beyond ups xs ws →
    Beyond (at z rest ups) xs (ws ++ (record { zone = z; demand = k } ∷ []))
beyond_demanded ups xs ws z k rest t f y e =
    let n = beyond_apart y z t e in
    ((f y e).0, waiting_others y z k ws n ∙ (f y e).1, rw n (f y e).2)

pub demand_keeps : (s : System) (z : ℕ) (k : Demand) (rest : List Kind) → ltb z 8 ≡ true → s.up z ≡ kind.Up (up.Demand k) ∷ rest → Inv s →
    Kept (taken_from s z rest) (demand_arrives k z s.dir)
demand_keeps s z k rest t e i =
    let xs = s.dir.list in
    let ws = s.dir.waiting in
    let sv = s.dir.served in
    let h : Link s.central (seen s.dir z) (kind.Up (up.Demand k) ∷ rest) (s.line z) (s.down z) (s.pending z) = rw e at (i.linked z) in
    let (p, h') = take_demand h in
    let f = idle_unqueued (waiting_of ws z) _ z p in
    rw (idle_free sv ws z p)
    (kept_silently (taken_from s z rest) (directory xs (ws ++ (record { zone = z; demand = k } ∷ [])) sv) (record {
      linked = everywhere _ z
          (rw (same, waiting_new z k ws f) h')
          (λ y n. rw (n, waiting_others y z k ws n) (i.linked y));
      beyond = beyond_demanded s.up xs ws z k rest t i.beyond;
      distinct = distinct_last ws z k i.distinct f;
      ready = ready_demanded s.central xs ws sv z k p i.ready;
    }))

-- ── data ──

-- the role of a new owner
shared_by : {v : Assignment} (x : ℕ) (xs : List ℕ) → Ends (Some v) absent GetSharedData (DataFound v) (owner_role (x ∷ xs))
shared_by x [] = shared_alone
shared_by x (y ∷ ys) = shared

not_owner : (a : Bool) (ro ro' : Role) → role_by a false ro ≡ role_by a false ro'
not_owner true ro ro' = refl
not_owner false ro ro' = refl

-- under sharing nothing is asked but of the owner
not_asked : (mine came inside : Bool) → asking Sharing mine came inside false ≡ None
not_asked mine came false = refl
not_asked true came true = refl
not_asked false came true = refl

fetching_asks : (r : Rule) (head came came' : Bool) → r ≡ Fetching → ask_by r head came ≡ ask_by r head came'
fetching_asks r true came came' e = rw e
fetching_asks r false came came' e = rw e

brought_data : (r : Rule) (j i : Bool) (c : Option Assignment) (v : Assignment) (p : Bool) → r ≡ Fetching → i ≡ false → c ≡ Some v → Brought r j i c (Some v) p
brought_data r j i c v p er ei ec = rw (er, ei) (sym ec)

module _ (s : System) (xs : List ℕ) (ws : List Waiting) (sv : Served) (z : ℕ) (v : Assignment) (rest : List Kind)
    (linked : (y : ℕ) → Linked (with_directory s (directory xs ws (Some sv))) y)
    (beyond : Beyond s.up xs ws) (dq : Distinct ws) (h : Serves s.central xs ws sv) (below : ltb z 8 ≡ true) where
  is_owner : Owns (role_under sv.owner xs z) → z ≡ sv.owner
  is_owner o = are_equal (owns_by (listed xs z) (eqb z sv.owner) (owner_role xs) o).1

  owner_out : Owns (role_under sv.owner xs z) → listed (without z xs) sv.owner ≡ false
  owner_out o = rw (← is_owner o) (struck_off z xs)

  -- the others, the former owner among them, are listed as they were, and nothing is asked of them
  readers : rule_for sv ≡ Sharing → Owns (role_under sv.owner xs z) →
      Link s.central (view sharer None (standing_in ws (Some sv) z)) rest (s.line z) (s.down z) (s.pending z) →
      (y : ℕ) → eqb y sv.zone ≡ false →
      Link s.central (view (role_by (listed xs y) false (owner_role (sv.zone ∷ xs))) None (standing_in ws None y)) (at z rest s.up y) (s.line y) (s.down y) (s.pending y)
  readers er o l =
      everywhere
      (λ y. eqb y sv.zone ≡ false →
      Link s.central (view (role_by (listed xs y) false (owner_role (sv.zone ∷ xs))) None (standing_in ws None y)) (at z rest s.up y) (s.line y) (s.down y) (s.pending y))
      z
      (λ m. rw (same, (owns_by (listed xs z) (eqb z sv.owner) (owner_role xs) o).0, others_stand sv (waiting_of ws z) z m) l)
      (λ y n m.
      let k : eqb y sv.owner ≡ false = rw (is_owner o) at n in
      rw (n, others_stand sv (waiting_of ws y) y m, not_owner (listed xs y) (owner_role (sv.zone ∷ xs)) (owner_role xs))
      (rw (k, er, not_asked (eqb y sv.zone) (is_some sv.found) (listed xs y)) at (linked y)))

  share_keeps : rule_for sv ≡ Sharing → Owns (role_under sv.owner xs z) → eqb sv.zone z ≡ false → s.central ≡ Some v →
      Link s.central (view sharer None (standing_in ws (Some sv) z)) rest (s.line z) (s.down z) (s.pending z) →
      Kept (taken_from s z rest) (serves_on to_nobody (with_data sv v) xs ws)
  share_keeps er o n ec l =
      let x = sv.zone in
      let ek = shares_only sv.demand sv.was_listed er in
      let xm : listed xs x ≡ false = h.listed_as_before ∙ reader_unlisted sv.demand sv.was_listed er h.has_its_place in
      let u = own_unasked xs sv in
      let st = served_stands sv ws h.unqueued ∙ ap serving ek in
      let en : Ends s.central (role_under sv.owner xs x) GetSharedData (DataFound v) (owner_role (x ∷ xs)) = rw (ec, role_unlisted sv.owner x xs xm) (shared_by x xs) in
      rw (data_ends_sharing (with_data sv v) xs er refl, ek)
      (kept_replying (taken_from s z rest) x (DataFound v) (directory (x ∷ xs) ws None) h.a_zone (requester_accepted s xs ws sv linked beyond dq h)
      (record {
        linked = everywhere _ x
            (rw (same, n) (settled_link u st refl (rw h.unqueued) en (linked x)))
            (λ y m. rw (m, flip y x m, settled_reading u st (linked x)) (readers er o l y m));
        beyond = λ y e. (rw (flip y x (beyond_apart y x h.a_zone e)) (beyond y e).0, (beyond y e).1, rw (beyond_apart y z below e) (beyond y e).2);
        distinct = dq;
        ready = λ e. cc;
      }))

  yield_keeps : rule_for sv ≡ Fetching → Owns (role_under sv.owner xs z) → eqb sv.zone z ≡ false → s.central ≡ Some v →
      Link s.central (view absent None (standing_in ws (Some sv) z)) rest (s.line z) (s.down z) (s.pending z) →
      Kept (taken_from s z rest) (serves_on to_nobody (with_data sv v) (without z xs) ws)
  yield_keeps er o n ec l =
      serves_on_keeps (taken_from s z rest) (without z xs) ws (with_data sv v)
      (struck_linked s xs ws sv (Some v) sv.owner_purged z rest linked (λ head. fetching_asks (rule_for sv) head true (is_some sv.found) er) l)
      (beyond_struck s.up xs ws z rest below beyond) dq
      (struck_serves s.central xs ws sv (Some v) sv.owner_purged z h n
      (brought_data (rule_for sv) sv.was_listed (listed (without z xs) sv.owner) s.central v sv.owner_purged er (owner_out o) ec))
      (λ sh e. absurd (fetching_shares (sym er ∙ sh)))

  data_served : (q : Option Ask) (ro : Role) → asked_in xs (Some sv) z ≡ q → Sent q ro → s.central ≡ Some v →
      Link s.central (view ro None (standing_in ws (Some sv) z)) rest (s.line z) (s.down z) (s.pending z) →
      Kept (taken_from s z rest) (data_by q sv v z xs ws)
  data_served q ro e sent_shared ec l =
      let (er, o) = asked_to_share (awaited_as xs sv z _ e) in
      share_keeps er o (asked_apart xs sv z _ e) ec l
  data_served q ro e sent_whole ec l =
      let (er, o) = asked_to_yield (awaited_as xs sv z _ e) in
      yield_keeps er o (asked_apart xs sv z _ e) ec l

pub data_keeps : (s : System) (xs : List ℕ) (ws : List Waiting) (sv : Option Served) (z : ℕ) (v : Assignment) (rest : List Kind) →
    ((y : ℕ) → Linked (with_directory s (directory xs ws sv)) y) → Beyond s.up xs ws → Distinct ws → Ready s.central xs ws sv → ltb z 8 ≡ true →
    s.up z ≡ kind.Up (up.Data v) ∷ rest → Kept (taken_from s z rest) (data_arrives sv v z xs ws)
data_keeps s xs ws None z v rest linked beyond dq h below e =
    let (ro, t, ec, l) = take_data (rw e at (linked z)) in elim t [ ]
data_keeps s xs ws (Some sv) z v rest linked beyond dq (h, busy) below e =
    let (ro, t, ec, l) = take_data (rw e at (linked z)) in
    data_served s xs ws sv z v rest linked beyond dq h below _ ro refl t ec l

-- ── purged ──

-- under fetching whether the owner's purged message came does not count
brought_fetching : (r : Rule) (j i : Bool) (c f : Option Assignment) (p p' : Bool) → r ≡ Fetching → Brought r j i c f p → Brought r j i c f p'
brought_fetching r j i c f p p' e b = rw e (go i (rw e at b))
  where
    go : (i : Bool) → Brought Fetching j i c f p → Brought Fetching j i c f p'
    go true b = b
    go false b = b

brought_purged : (j i : Bool) (c f : Option Assignment) (p : Bool) → i ≡ false → is_some c ≡ true → Brought Clearing j i c f (p || true)
brought_purged true i c f p e h = tt
brought_purged false i c f true e h = rw e (sym h)
brought_purged false i c f false e h = rw e (sym h)

or_false : (p : Bool) → (p || false) ≡ p
or_false true = refl
or_false false = refl

module _ (s : System) (xs : List ℕ) (ws : List Waiting) (sv : Served) (z : ℕ) (rest : List Kind)
    (linked : (y : ℕ) → Linked (with_directory s (directory xs ws (Some sv))) y)
    (beyond : Beyond s.up xs ws) (dq : Distinct ws) (h : Serves s.central xs ws sv) (below : ltb z 8 ≡ true) where
  abbrev Brings : Bool → Type 0
  Brings p = Brought (rule_for sv) sv.was_listed (listed (without z xs) sv.owner) s.central sv.found p

  -- what has come once z has left with a purged message
  purged_brings : asked_in xs (Some sv) z ≡ Some Invalidate → is_some s.central ≡ true → Brings (sv.owner_purged || eqb z sv.owner)
  purged_brings e c = go (asked_to_leave (awaited_as xs sv z _ e))
    where
      leaving : rule_for sv ≡ Fetching → eqb z sv.owner ≡ false → Brings (sv.owner_purged || eqb z sv.owner)
      leaving er n =
          rw (others_listed sv.owner z xs (flip z sv.owner n))
          (brought_fetching (rule_for sv) sv.was_listed (listed xs sv.owner) s.central sv.found sv.owner_purged (sv.owner_purged || eqb z sv.owner) er h.brought)

      clearing : Apart z sv.owner → rule_for sv ≡ Clearing → Brings (sv.owner_purged || eqb z sv.owner)
      clearing (equal q) er =
          rw (er, ← q, same) (brought_purged sv.was_listed (listed (without z xs) z) s.central sv.found sv.owner_purged (struck_off z xs) c)
      clearing (apart n) er = rw (others_listed sv.owner z xs (flip z sv.owner n), n, or_false sv.owner_purged) h.brought

      go : ((rule_for sv ≡ Fetching) × (role_under sv.owner xs z ≡ sharer)) ⊎ (rule_for sv ≡ Clearing) → Brings (sv.owner_purged || eqb z sv.owner)
      go (inl (er, el)) = leaving er (sharer_apart (listed xs z) (eqb z sv.owner) xs el)
      go (inr er) = clearing (compare_zones z sv.owner) er

  purged_served : asked_in xs (Some sv) z ≡ Some Invalidate → is_some s.central ≡ true →
      Link s.central (view absent None (standing_in ws (Some sv) z)) rest (s.line z) (s.down z) (s.pending z) →
      Kept (taken_from s z rest) (purged_by (asked_in xs (Some sv) z) sv z xs ws)
  purged_served e c l =
      rw e
      (serves_on_keeps (taken_from s z rest) (without z xs) ws (with_purged sv z)
      (struck_linked s xs ws sv sv.found (sv.owner_purged || eqb z sv.owner) z rest linked (λ head. refl) l)
      (beyond_struck s.up xs ws z rest below beyond) dq
      (struck_serves s.central xs ws sv sv.found (sv.owner_purged || eqb z sv.owner) z h (asked_apart xs sv z _ e) (purged_brings e c))
      (λ sh b. absurd (leaving_shares sh (asked_to_leave (awaited_as xs sv z _ e)))))

pub purged_keeps : (s : System) (xs : List ℕ) (ws : List Waiting) (sv : Option Served) (z : ℕ) (rest : List Kind) →
    ((y : ℕ) → Linked (with_directory s (directory xs ws sv)) y) → Beyond s.up xs ws → Distinct ws → Ready s.central xs ws sv → ltb z 8 ≡ true →
    s.up z ≡ kind.Up up.Purged ∷ rest → Kept (taken_from s z rest) (purged_arrives sv z xs ws)
purged_keeps s xs ws None z rest linked beyond dq h below e =
    let (q, c, l) = take_purged (rw e at (linked z)) in absurd (clash_some (sym q))
purged_keeps s xs ws (Some sv) z rest linked beyond dq (h, busy) below e =
    let (q, c, l) = take_purged (rw e at (linked z)) in
    purged_served s xs ws sv z rest linked beyond dq h below q c l

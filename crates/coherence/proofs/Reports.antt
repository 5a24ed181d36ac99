-- A report that arrives at the directory is not refused, and keeps the invariant.
use Rattle.std.proofs.Common.{◌≡◌, ℕ, Bool, true, false, eqb, ltb, ◌⊎◌, List, [], ◌∷◌, Some, None, Option, sym, refl, ◌∙◌, inl, inr, arith}
use mathlib.Core.Bool.{false≢true}
use Rattle.messages.specs.declared.assignments.Assignment.{Assignment}
use Rattle.messages.specs.declared.kinds.Up.TheVariants as up
use Rattle.messages.specs.declared.kinds.Kind.{Kind}
use Rattle.messages.specs.declared.kinds.Kind.TheVariants as kind
use Rattle.directory.specs.declared.rows.Rule.{Rule}
use Rattle.directory.specs.declared.rows.Rule.TheVariants.{Sharing, Fetching, Clearing}
use Rattle.directory.specs.declared.rows.Waiting.{Waiting}
use Rattle.directory.specs.declared.rows.Served.{Served}
use Rattle.directory.specs.Lists.{listed, without}
use Rattle.directory.specs.Directory.{directory}
use Rattle.directory.specs.Serving.{serves_on, awaits_any}
use Rattle.directory.specs.Arrivals.{to_nobody, report_arrives}
use Rattle.directory.specs.TakeUp.{owner_of}
use Rattle.coherence.specs.System.{System}
use Rattle.coherence.specs.Steps.{taken_from}
use Rattle.coherence.proofs.Views.{Role, absent, sharer, sole, view, Link}
use Rattle.coherence.proofs.Zone.{Eased, as_was, link_eased, take_report, Reports, from_sharer, from_sole}
use Rattle.coherence.proofs.Zones.{same, everywhere, Apart, equal, apart, compare_zones, flip, struck_off, others_listed}
use Rattle.coherence.proofs.Seen.{owner_role, role_by, role_under, standing_in}
use Rattle.coherence.proofs.Roles.{role_others, sole_list, sharer_apart, idle_unserved}
use Rattle.coherence.proofs.Awaits.{rule_for, reader_unlisted, owner_awaited, owner_asked}
use Rattle.coherence.proofs.Settle.{serves_on_keeps}
use Rattle.coherence.proofs.Invariant.{Distinct, Brought, Serves, Ready, Linked, Beyond}
use Rattle.coherence.proofs.Kept.{Kept, kept_silently, with_directory}
use Rattle.coherence.proofs.Strikes.{beyond_struck, struck_linked, struck_serves}

-- who reports is listed, and is the owner only if it is alone and the central pool holds nothing
abbrev Reporter : Option Assignment → Role → Type 0
Reporter c ro = (ro ≡ sharer) ⊎ ((ro ≡ sole) × (c ≡ None))

who_reports : {c : Option Assignment} {ro : Role} → Reports c ro → Reporter c ro
who_reports from_sharer = inl refl
who_reports from_sole = inr (refl, refl)

reporter_listed : {c : Option Assignment} (a b : Bool) (ro : Role) → Reports c (role_by a b ro) → a ≡ true
reporter_listed true b ro r = refl
reporter_listed false b ro r = elim r [ ]

-- ── nothing is served ──

same_owner : (z : ℕ) (xs : List ℕ) → eqb z (owner_of xs) ≡ false → owner_of (without z xs) ≡ owner_of xs
same_owner z [] n = refl
same_owner z (x ∷ xs) n = rw (flip z x n)

some_left : (z : ℕ) (xs : List ℕ) → eqb z (owner_of xs) ≡ false → listed xs z ≡ true → without z xs ≡ [] → ⊥
some_left z [] n m e = false≢true m
some_left z (x ∷ xs) n m e = let e' = rw (flip z x n) at e in let y : ◌≡◌ {A = ℕ} 0 1 = cc in omega arith

idle_others : (c : Option Assignment) (y z : ℕ) (xs : List ℕ) → Reports c (role_under (owner_of xs) xs z) → eqb y z ≡ false →
    Eased (role_under (owner_of xs) xs y) (role_under (owner_of (without z xs)) (without z xs) y)
idle_others c y z xs r n = go (who_reports r)
  where
    go : Reporter c (role_under (owner_of xs) xs z) → Eased (role_under (owner_of xs) xs y) (role_under (owner_of (without z xs)) (without z xs) y)
    go (inl e) = rw (same_owner z xs (sharer_apart (listed xs z) (eqb z (owner_of xs)) xs e)) (role_others (owner_of xs) y z xs n)
    go (inr (e, ec)) =
        let l = sole_list (owner_of xs) z xs e in
        rw (l, same, flip y z n) as_was

idle_ready : (c : Option Assignment) (z : ℕ) (xs : List ℕ) → Reports c (role_under (owner_of xs) xs z) → without z xs ≡ [] → c ≡ None
idle_ready c z xs r e = go (who_reports r)
  where
    go : Reporter c (role_under (owner_of xs) xs z) → c ≡ None
    go (inl p) =
        absurd (some_left z xs (sharer_apart (listed xs z) (eqb z (owner_of xs)) xs p) (reporter_listed (listed xs z) (eqb z (owner_of xs)) (owner_role xs) r) e)
    go (inr (p, ec)) = ec

-- ── a request is served ──

brought_gone : (r : Rule) (j : Bool) (c f : Option Assignment) (p : Bool) → c ≡ None → Brought r j true c f p → Brought r j false c f p
brought_gone Sharing j c f p e b = (b, e)
brought_gone Fetching j c f p e b = b ∙ sym e
brought_gone Clearing true c f p e b = tt
brought_gone Clearing false c f p e b = rw e b

shares_nothing : (r : Rule) (j : Bool) (c f : Option Assignment) (p : Bool) → r ≡ Sharing → Brought r j true c f p → f ≡ None
shares_nothing r j c f p e b = rw e at b

module _ (s : System) (xs : List ℕ) (ws : List Waiting) (sv : Served) (z : ℕ) (rest : List Kind)
    (linked : (y : ℕ) → Linked (with_directory s (directory xs ws (Some sv))) y)
    (beyond : Beyond s.up xs ws) (dq : Distinct ws) (h : Serves s.central xs ws sv) (busy : awaits_any sv xs ≡ true) (below : ltb z 8 ≡ true)
    (r : Reports s.central (role_under sv.owner xs z)) (other : eqb sv.zone z ≡ false)
    (l : Link s.central (view absent None (standing_in ws (Some sv) z)) rest (s.line z) (s.down z) (s.pending z)) where
  -- a reporting owner was alone
  owner_alone : z ≡ sv.owner → (xs ≡ z ∷ []) × (s.central ≡ None)
  owner_alone e = go (who_reports r)
    where
      go : Reporter s.central (role_under sv.owner xs z) → (xs ≡ z ∷ []) × (s.central ≡ None)
      go (inl p) =
          let n = sharer_apart (listed xs z) (eqb z sv.owner) xs p in
          absurd (false≢true (sym (rw (← e) at n) ∙ same z))
      go (inr (p, ec)) = (sole_list sv.owner z xs p, ec)

  report_brings : Brought (rule_for sv) sv.was_listed (listed (without z xs) sv.owner) s.central sv.found sv.owner_purged
  report_brings = go (compare_zones z sv.owner)
    where
      go : Apart z sv.owner → Brought (rule_for sv) sv.was_listed (listed (without z xs) sv.owner) s.central sv.found sv.owner_purged
      go (equal e) =
          let m = reporter_listed (listed xs z) (eqb z sv.owner) (owner_role xs) r in
          rw (← e, struck_off z xs)
          (brought_gone (rule_for sv) sv.was_listed s.central sv.found sv.owner_purged (owner_alone e).1 (rw (← e, m) at h.brought))
      go (apart n) = rw (others_listed sv.owner z xs (flip z sv.owner n)) h.brought

  -- while data is to be shared the requester is not listed, so it is not the owner
  owner_apart : rule_for sv ≡ Sharing → eqb sv.owner sv.zone ≡ false
  owner_apart er = go (compare_zones sv.owner sv.zone)
    where
      go : Apart sv.owner sv.zone → eqb sv.owner sv.zone ≡ false
      go (equal e) =
          let m : listed xs sv.zone ≡ true = rw e at (owner_awaited sv xs er busy) in
          absurd (false≢true (sym (reader_unlisted sv.demand sv.was_listed er h.has_its_place) ∙ sym h.listed_as_before ∙ m))
      go (apart n) = n

  nobody_shares : rule_for sv ≡ Sharing → awaits_any sv (without z xs) ≡ false → without sv.zone (without z xs) ≡ []
  nobody_shares er e = go (compare_zones z sv.owner)
    where
      go : Apart z sv.owner → without sv.zone (without z xs) ≡ []
      go (equal p) = rw ((owner_alone p).0, same)
      go (apart n) =
          let m = owner_awaited sv xs er busy in
          let f = shares_nothing (rule_for sv) sv.was_listed s.central sv.found sv.owner_purged er (rw m at h.brought) in
          absurd (false≢true (sym e ∙ owner_asked sv (without z xs) er f (owner_apart er) (others_listed sv.owner z xs (flip z sv.owner n) ∙ m)))

  report_served : Kept (taken_from s z rest) (serves_on to_nobody sv (without z xs) ws)
  report_served =
      serves_on_keeps (taken_from s z rest) (without z xs) ws sv
      (struck_linked s xs ws sv sv.found sv.owner_purged z rest linked (λ head. refl) l)
      (beyond_struck s.up xs ws z rest below beyond) dq
      (struck_serves s.central xs ws sv sv.found sv.owner_purged z h other report_brings)
      nobody_shares

pub report_keeps : (s : System) (xs : List ℕ) (ws : List Waiting) (sv : Option Served) (z : ℕ) (rest : List Kind) →
    ((y : ℕ) → Linked (with_directory s (directory xs ws sv)) y) → Beyond s.up xs ws → Distinct ws → Ready s.central xs ws sv → ltb z 8 ≡ true →
    s.up z ≡ kind.Up up.Report ∷ rest → Kept (taken_from s z rest) (report_arrives z (directory xs ws sv))
report_keeps s xs ws None z rest linked beyond dq h below e =
    let (r, p, l) = take_report (rw e at (linked z)) in
    rw (reporter_listed (listed xs z) (eqb z (owner_of xs)) (owner_role xs) r)
    (kept_silently (taken_from s z rest) (directory (without z xs) ws None) (record {
      linked = everywhere _ z
          (rw (same, struck_off z xs, p) l)
          (λ y n. rw n (link_eased (idle_others s.central y z xs r n) (linked y)));
      beyond = beyond_struck s.up xs ws z rest below beyond;
      distinct = dq;
      ready = idle_ready s.central z xs r;
    }))
report_keeps s xs ws (Some sv) z rest linked beyond dq (h, busy) below e =
    let (r, p, l) = take_report (rw e at (linked z)) in
    rw (reporter_listed (listed xs z) (eqb z sv.owner) (owner_role xs) r)
    (report_served s xs ws sv z rest linked beyond dq h busy below r (idle_unserved sv ws z p) (rw p l))

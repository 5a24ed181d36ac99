-- A served request for which nobody is awaited any more ends, and one for which somebody is goes on.
use Rattle.std.proofs.Common.{◌≡◌, ℕ, Bool, true, false, cond, ◌&&◌, eqb, List, [], ◌∷◌, ◌++◌, Some, None, Option, sym, refl, ap, ◌∙◌, subst}
use mathlib.Core.Bool.{false≢true}
use Rattle.messages.specs.declared.assignments.Assignment.{Assignment}
use Rattle.messages.specs.declared.requests.Request.{Request}
use Rattle.messages.specs.declared.kinds.Demand.{Demand}
use Rattle.messages.specs.declared.kinds.Demand.TheVariants.{GetSharedData, GetExclusiveData, GetExclusiveDataIfAny, GetRemovedData, Exclude, ExcludeIfAny, PurgeOthers, PurgeAndExclude, PurgeAll}
use Rattle.messages.specs.declared.kinds.Ask.{Ask}
use Rattle.messages.specs.declared.kinds.Reply.{Reply}
use Rattle.messages.specs.declared.kinds.Kind.{Kind}
use Rattle.messages.specs.Central as central
use Rattle.line.specs.declared.states.State.{State}
use Rattle.directory.specs.declared.rows.Rule.{Rule}
use Rattle.directory.specs.declared.rows.Rule.TheVariants.{Sharing, Fetching, Clearing}
use Rattle.directory.specs.declared.rows.Waiting.{Waiting}
use Rattle.directory.specs.declared.rows.Served.{Served}
use Rattle.directory.specs.Lists.{listed, without}
use Rattle.directory.specs.Directory.{directory, went}
use Rattle.directory.specs.Serving.{rule_of, reply_of, list_after, awaits_any, ended, serves_on}
use Rattle.directory.specs.Arrivals.{to_nobody}
use Rattle.directory.specs.TakeUp.{wants_data}
use Rattle.coherence.specs.System.{System, Pending, accepted}
use Rattle.coherence.specs.Steps.{central_serving, pending_served}
use Rattle.coherence.specs.Coherent.{Unsettled}
use Rattle.coherence.proofs.Views.{a_reply, Role, absent, Standing, idle, serving, view, Link}
use Rattle.coherence.proofs.Zone.{Ends, link_ends, link_accepted, link_for, SentFor, to_read, ends_empty, struck, link_struck}
use Rattle.coherence.proofs.Zones.{same, beyond_apart, everywhere, Apart, equal, apart, compare_zones, none_else}
use Rattle.coherence.proofs.Seen.{role_under, role_in, waiting_of}
use Rattle.coherence.proofs.Roles.{role_unlisted, role_member, served_stands, others_stand}
use Rattle.coherence.proofs.Awaits.{rule_for, own_unasked, unlisted_unasked, nobody_left, fetching_shares, clearing_shares}
use Rattle.coherence.proofs.Ends.{role_after, ListedAs, inside, outside, reply_right, leaves_unlisted, others_role, own_role}
use Rattle.coherence.proofs.Invariant.{Distinct, Brought, Serves, Linked, Beyond}
use Rattle.coherence.proofs.Kept.{Kept, kept_silently, kept_replying, with_directory}

-- ── one zone, up to equations of its view ──

pub settled_link : {c : Option Assignment} {ro ro' ro'' : Role} {q : Option Ask} {p p' : Standing} {k : Demand} {m : Reply} {ms d : List Kind} {l : State} {e : Pending} →
    q ≡ None → p ≡ serving k → ro'' ≡ ro' → p' ≡ idle → Ends c ro k m ro' → Link c (view ro q p) ms l d e →
    Link (central_serving e c) (view ro'' None p') ms l (d ++ (a_reply m ∷ [])) (pending_served e c)
settled_link eq ep er ei en h =
    let h' = rw (eq, ep) at h in
    let (r, o) = link_accepted h' in
    rw (er, ei, o) (link_ends en (rw o at h'))

settled_empty : {c : Option Assignment} {ro ro' : Role} {q : Option Ask} {p : Standing} {k : Demand} {m : Reply} {ms d : List Kind} {l : State} {e : Pending} →
    q ≡ None → p ≡ serving k → Ends c ro k m ro' → ro' ≡ absent → Link c (view ro q p) ms l d e → central_serving e c ≡ None
settled_empty {c} {ro} {k = k} {m = m} eq ep en ea h =
    let h' = rw (eq, ep) at h in
    let (r, o) = link_accepted h' in
    rw o (ends_empty (link_for (rw o at h')) (subst (Ends c ro k m) ea en))

-- a carbon_copy changes nothing in the central pool
reads_only : {c : Option Assignment} {r : Request} → SentFor GetSharedData r → central.left r c ≡ c
reads_only to_read = refl

pub settled_reading : {c : Option Assignment} {ro : Role} {q : Option Ask} {p : Standing} {ms d : List Kind} {l : State} {e : Pending} →
    q ≡ None → p ≡ serving GetSharedData → Link c (view ro q p) ms l d e → central_serving e c ≡ c
settled_reading eq ep h =
    let h' = rw (eq, ep) at h in
    let (r, o) = link_accepted h' in
    rw o (reads_only (link_for (rw o at h')))

pub accepted_link : {c : Option Assignment} {ro : Role} {q : Option Ask} {p : Standing} {k : Demand} {ms d : List Kind} {l : State} {e : Pending} →
    q ≡ None → p ≡ serving k → Link c (view ro q p) ms l d e → (r : Request) × (e ≡ accepted r)
accepted_link eq ep h = link_accepted (rw (eq, ep) at h)

struck_link : {c : Option Assignment} (c' : Option Assignment) {ro ro' : Role} {q : Option Ask} {p p' : Standing} {ms d : List Kind} {l : State} {e : Pending} →
    ro ≡ absent → q ≡ None → ro' ≡ absent → p' ≡ p → Link c (view ro q p) ms l d e → Link c' (view ro' None p') ms l d e
struck_link c' e₁ e₂ e₃ e₄ h = rw (e₃, e₄) (link_struck c' struck (rw (e₁, e₂) at h))

-- ── what has come, once nobody else is listed ──

pub listed_as : (o x : ℕ) (xs : List ℕ) (j : Bool) → listed xs x ≡ j → ListedAs j (role_under o xs x)
listed_as o x xs true e = rw e (inside (role_member (eqb x o) xs))
listed_as o x xs false e = rw e outside

-- a listed zone's request is served by clearing
listed_clears : (k : Demand) (c f : Option Assignment) (p : Bool) → wants_data k ≡ false → Brought (rule_of k true) true false c f p
listed_clears GetSharedData c f p a = absurd (false≢true (sym a))
listed_clears GetExclusiveData c f p a = absurd (false≢true (sym a))
listed_clears GetExclusiveDataIfAny c f p a = absurd (false≢true (sym a))
listed_clears GetRemovedData c f p a = absurd (false≢true (sym a))
listed_clears Exclude c f p a = tt
listed_clears ExcludeIfAny c f p a = tt
listed_clears PurgeOthers c f p a = tt
listed_clears PurgeAndExclude c f p a = tt
listed_clears PurgeAll c f p a = tt

-- the owner at the take-up has gone, or it was the requester
brought_all : (k : Demand) (j : Bool) (c f : Option Assignment) (p : Bool) (o x : ℕ) (xs : List ℕ) → listed xs x ≡ j → (j && wants_data k) ≡ false →
    without x xs ≡ [] → Brought (rule_of k j) j (listed xs o) c f p → Brought (rule_of k j) j false c f p
brought_all k true c f p o x xs e a n b = listed_clears k c f p a
brought_all k false c f p o x xs e a n b = go (compare_zones o x)
  where
    go : Apart o x → Brought (rule_of k false) false false c f p
    go (equal h) = rw (h, e) at b
    go (apart h) = rw (none_else x o xs h n) at b

-- ── the end, and the going on ──

module _ (t : System) (xs : List ℕ) (ws : List Waiting) (s : Served)
    (linked : (y : ℕ) → Linked (with_directory t (directory xs ws (Some s))) y)
    (beyond : Beyond t.up xs ws)
    (dq : Distinct ws) (h : Serves t.central xs ws s) where
  all_came : without s.zone xs ≡ [] → Brought (rule_for s) s.was_listed false t.central s.found s.owner_purged
  all_came n =
      brought_all s.demand s.was_listed t.central s.found s.owner_purged s.owner s.zone xs h.listed_as_before h.has_its_place n h.brought

  ends_well : without s.zone xs ≡ [] → Ends t.central (role_under s.owner xs s.zone) s.demand (reply_of s) (role_after s.demand (reply_of s))
  ends_well n =
      reply_right s.demand s.was_listed t.central s.found s.owner_purged h.has_its_place
      (listed_as s.owner s.zone xs s.was_listed h.listed_as_before) (all_came n)

  ends_in : without s.zone xs ≡ [] → role_in (list_after s xs) None s.zone ≡ role_after s.demand (reply_of s)
  ends_in n = own_role s.demand s.was_listed t.central s.found s.owner_purged s.zone xs (all_came n)

  pub requester_accepted : Unsettled t s.zone
  requester_accepted = accepted_link (own_unasked xs s) (served_stands s ws h.unqueued) (linked s.zone)

  pub end_keeps : without s.zone xs ≡ [] → Kept t (ended s xs ws)
  end_keeps n =
      let x = s.zone in
      let u = own_unasked xs s in
      let st = served_stands s ws h.unqueued in
      kept_replying t x (reply_of s) (directory (list_after s xs) ws None) h.a_zone requester_accepted
      (record {
        linked = everywhere _ x
            (rw same (settled_link u st (ends_in n) (rw h.unqueued) (ends_well n) (linked x)))
            (λ y m. rw m
            (struck_link _ (role_unlisted s.owner y xs (none_else x y xs m n))
            (unlisted_unasked xs (Some s) y (none_else x y xs m n))
            (others_role s.demand (reply_of s) x y xs m (none_else x y xs m n))
            (others_stand s (waiting_of ws y) y m) (linked y)));
        beyond = λ y e. (leaves_unlisted s.demand (reply_of s) x y xs (beyond_apart y x h.a_zone e) (beyond y e).0, (beyond y e).1, (beyond y e).2);
        distinct = dq;
        ready = λ e. settled_empty u st (ends_well n) (sym (ends_in n) ∙ ap (λ l. role_in l None x) e) (linked x);
      })

  -- under sharing it is to be shown why nobody else is listed at the end
  pub serves_on_keeps : (rule_for s ≡ Sharing → awaits_any s xs ≡ false → without s.zone xs ≡ []) → Kept t (serves_on to_nobody s xs ws)
  serves_on_keeps f = go (awaits_any s xs) refl
    where
      rest : awaits_any s xs ≡ false → (r : Rule) → rule_for s ≡ r → without s.zone xs ≡ []
      rest e Sharing q = f q e
      rest e Fetching q = nobody_left s xs (λ p. fetching_shares (sym q ∙ p)) e
      rest e Clearing q = nobody_left s xs (λ p. clearing_shares (sym q ∙ p)) e

      go : (b : Bool) → awaits_any s xs ≡ b → Kept t (cond b (went to_nobody None (directory xs ws (Some s))) (ended s xs ws))
      go true e = kept_silently t (directory xs ws (Some s)) (record { linked = linked; beyond = beyond; distinct = dq; ready = (h, e) })
      go false e = end_keeps (rest e (rule_for s) refl)

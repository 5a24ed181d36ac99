-- Every run obeys the law.
use Rattle.std.proofs.Common.{◌≡◌, ℕ, ◌+◌, ◌<◌, Bool, true, false, cond, ◌&&◌, eqb, ltb, List, [], ◌∷◌, Some, None, Option, sym, refl, ap, ◌∙◌, arith}
use Rattle.std.proofs.lemmas.Bool.{ltb-true, eqb-false}
use Rattle.messages.specs.declared.assignments.Assignment.{Assignment}
use Rattle.line.specs.declared.states.State.{State}
use Rattle.line.specs.Questions.{readable, holds_exclusively, answers_put, any_assignment}
use Rattle.transport.specs.Lanes.{Rule, lane_at}
use Rattle.keys.specs.Places.{place_of}
use Rattle.calls.specs.declared.call.Call.{Call}
use Rattle.calls.specs.Model.{Model, state_at}
use Rattle.calls.specs.Questions.{reads, reads_at, holds, holds_at, place_in, quiet, lanes_empty, rows_calm}
use Rattle.calls.specs.Outcomes.{called}
use Rattle.calls.specs.Runs.{Event, trace, results, after_run}
use Rattle.calls.specs.Onlookers.{Onlooker, Entry, unused, accepted, settled, answered, onlooking, after_all, after_result, NeverObjects}
use Rattle.calls.specs.Law.{Outstanding, NoneMisplaced, Agrees, Lawful}
use Rattle.coherence.specs.System.{free}
use Rattle.coherence.proofs.Safety.{safe}
use Rattle.lawful.proofs.Projections.{lane_of}
use Rattle.lawful.proofs.Keys.{place_is_at}
use Rattle.lawful.proofs.Lanes.{lanes_empty_lem, rows_calm_lem}
use Rattle.lawful.proofs.Systems.{value_of, pending_by, system_at, number_at}
use Rattle.lawful.proofs.Invariant.{PoolInv}
use Rattle.lawful.proofs.ZoneSteps.{line_at, pending_at}
use Rattle.lawful.proofs.Calls.{call_well}
use Rattle.lawful.proofs.Openings.{opened_inv}

-- ── a run ──

pub record Ran (o : Onlooker) (seen : List Event) (m : Model) (ks : List (List ℕ)) : Type 0 where
  pub never_objects : NeverObjects o seen
  pub none_misplaced : NoneMisplaced seen
  pub inv_after : PoolInv m ks (after_all o seen)

pub every_run : (room : Rule) (size : ℕ) (calls : List (Call (List ℕ))) (m : Model) (ks : List (List ℕ)) (o : Onlooker) → PoolInv m ks o →
    Ran o (trace calls (results room (λ k. k) size m ks calls)) (after_run room (λ k. k) size m ks calls).0 (after_run room (λ k. k) size m ks calls).1
every_run room size [] m ks o inv = record { never_objects = tt; none_misplaced = tt; inv_after = inv }
every_run room size (c ∷ cs) m ks o inv =
    let k = call_well m ks o inv room size c in
    let rest = every_run room size cs (called room (λ k. k) size m ks c).1 (called room (λ k. k) size m ks c).2 (after_result o c (called room (λ k. k) size m ks c).0) k.inv_after in
    record {
      never_objects = (k.fine, rest.never_objects);
      none_misplaced = (k.not_misplaced, rest.none_misplaced);
      inv_after = rest.inv_after;
    }

-- ── what an onlooker may conclude ──

none_some : {A : Type 0} {a : A} → None ≡ Some a → ⊥
none_some e = let z : ◌≡◌ {A = ℕ} 0 1 = cc in omega arith

no_bool : false ≡ true → ⊥
no_bool e = let z : ◌≡◌ {A = ℕ} 0 1 = ap (λ (b : Bool). cond b 1 0) e in omega arith

module _ (m : Model) (ks : List (List ℕ)) (o : Onlooker) (inv : PoolInv m ks o) where
  -- what a zone reads, it reads at its key's place
  pub record ReadsHere (zone : ℕ) (key : List ℕ) (a : Assignment) : Type 0 where
    pub place : ℕ
    pub zone_below : zone < 8
    pub place_below : place < 32
    pub known : place_of (λ k. k) ks key ≡ Some place
    pub read : readable (state_at m zone place) ≡ Some a

  reads_here : (zone : ℕ) (key : List ℕ) (a : Assignment) → reads (λ k. k) m ks zone key ≡ Some a → ReadsHere zone key a
  reads_here zone key a e = go (place_of (λ k. k) ks key) refl e
    where
      at_zone : (place : ℕ) → place_of (λ k. k) ks key ≡ Some place → place < 32 → (b : Bool) → ltb zone m.plan.zones ≡ b → cond b (readable (state_at m zone place)) None ≡ Some a → ReadsHere zone key a
      at_zone place k hp false t h = absurd (none_some h)
      at_zone place k hp true t h =
          let z = ltb-true zone m.plan.zones t in let b = m.plan.zones_range.1 in
          record { place = place; zone_below = omega arith; place_below = hp; known = k; read = h }

      in_pool : (place : ℕ) → place_of (λ k. k) ks key ≡ Some place → (b : Bool) → ltb place m.plan.places ≡ b → reads_at m zone (cond b (Some place) None) ≡ Some a → ReadsHere zone key a
      in_pool place k false t h = absurd (none_some h)
      in_pool place k true t h =
          let p = ltb-true place m.plan.places t in let b = m.plan.places_range.1 in
          at_zone place k (omega arith) (ltb zone m.plan.zones) refl h

      go : (p : Option ℕ) → place_of (λ k. k) ks key ≡ p → reads_at m zone (place_in m p) ≡ Some a → ReadsHere zone key a
      go None k h = absurd (none_some h)
      go (Some place) k h = in_pool place k (ltb place m.plan.places) refl h

  pub record HoldsHere (zone : ℕ) (key : List ℕ) : Type 0 where
    pub place : ℕ
    pub zone_below : zone < 8
    pub known : place_of (λ k. k) ks key ≡ Some place
    pub held : holds_exclusively (state_at m zone place) ≡ true

  holds_here : (zone : ℕ) (key : List ℕ) → holds (λ k. k) m ks zone key ≡ true → HoldsHere zone key
  holds_here zone key e = go (place_of (λ k. k) ks key) refl e
    where
      at_zone : (place : ℕ) → place_of (λ k. k) ks key ≡ Some place → (b : Bool) → ltb zone m.plan.zones ≡ b → cond b (holds_exclusively (state_at m zone place)) false ≡ true → HoldsHere zone key
      at_zone place k false t h = absurd (no_bool h)
      at_zone place k true t h =
          let z = ltb-true zone m.plan.zones t in let b = m.plan.zones_range.1 in
          record { place = place; zone_below = omega arith; known = k; held = h }

      in_pool : (place : ℕ) → place_of (λ k. k) ks key ≡ Some place → (b : Bool) → ltb place m.plan.places ≡ b → holds_at m zone (cond b (Some place) None) ≡ true → HoldsHere zone key
      in_pool place k false t h = absurd (no_bool h)
      in_pool place k true t h = at_zone place k (ltb zone m.plan.zones) refl h

      go : (p : Option ℕ) → place_of (λ k. k) ks key ≡ p → holds_at m zone (place_in m p) ≡ true → HoldsHere zone key
      go None k h = absurd (no_bool h)
      go (Some place) k h = in_pool place k (ltb place m.plan.places) refl h

  sees_central : (zone : ℕ) (key : List ℕ) (a : Assignment) → reads (λ k. k) m ks zone key ≡ Some a → o.values key ≡ Some a
  sees_central zone key a e =
      let r = reads_here zone key a e in
      sym (ap (value_of o.values) (place_is_at ks key r.place r.known))
      ∙ (safe (system_at m ks o r.place) (inv.coherent r.place r.place_below)).readers_see_the_central_value zone a
      (ap readable (line_at m.slots r.place zone r.zone_below) ∙ r.read)

  excludes : (zone other : ℕ) (key : List ℕ) → holds (λ k. k) m ks zone key ≡ true → eqb other zone ≡ false → reads (λ k. k) m ks other key ≡ None
  excludes zone other key h n = go (reads (λ k. k) m ks other key) refl
    where
      go : (r : Option Assignment) → reads (λ k. k) m ks other key ≡ r → r ≡ None
      go None e = refl
      go (Some a) e =
          let r = reads_here other key a e in
          let x = holds_here zone key h in
          let same : x.place ≡ r.place = some_inj (sym x.known ∙ r.known) in
          let alone = (safe (system_at m ks o r.place) (inv.coherent r.place r.place_below)).exclusive_excludes_readers other zone any_assignment
          (ap (λ (l : State). answers_put l any_assignment) (line_at m.slots r.place zone x.zone_below) ∙ ap (λ (p : ℕ). holds_exclusively (state_at m zone p)) (sym same) ∙ x.held)
          (eqb-false other zone n) in
          absurd (none_some (sym alone ∙ ap readable (line_at m.slots r.place other r.zone_below) ∙ r.read))
        where
          some_inj : {A : Type 0} {b c : A} → Some b ≡ Some c → b ≡ c
          some_inj e = cc

  -- a waiting line whose number is outstanding has a pending request
  not_free : (e : Entry) → Outstanding e → pending_by true e ≡ free → ⊥
  not_free unused h p = h
  not_free (accepted key q) h p = let z : ◌≡◌ {A = ℕ} 0 1 = cc in omega arith
  not_free (settled key q a) h p = let z : ◌≡◌ {A = ℕ} 0 1 = cc in omega arith
  not_free answered h p = h

  and_left : (a b : Bool) → a && b ≡ true → a ≡ true
  and_left true b e = refl
  and_left false b e = e

  and_right : (a b : Bool) → a && b ≡ true → b ≡ true
  and_right true b e = e
  and_right false b e = absurd (no_bool e)

  empty_lane : (place : ℕ) (b : Bool) (i : ℕ) → lane_at m.lanes i ≡ [] → lane_of place (cond b (lane_at m.lanes i) []) ≡ []
  empty_lane place true i e = ap (lane_of place) e
  empty_lane place false i e = refl

  all_answered : quiet m ≡ true → (n : ℕ) → Outstanding (o.entries n) → ⊥
  unfolding quiet
  all_answered q n h =
      let lanes = lanes_empty_lem m.lanes (and_left (lanes_empty m.lanes) (rows_calm m.rows) q) in
      let calm = rows_calm_lem m.rows (and_right (lanes_empty m.lanes) (rows_calm m.rows) q) in
      let w = inv.numbers.held n h in
      let f = (safe (system_at m ks o w.place) (inv.coherent w.place w.place_below)).quiet_leaves_nothing_open
      (λ y. (empty_lane w.place (ltb y 8) y (lanes y), empty_lane w.place (ltb y 8) (8 + y) (lanes (8 + y)))) (calm w.place) w.zone in
      not_free (o.entries n) h
      (ap (λ (k : ℕ). pending_by true (o.entries k)) (sym w.number)
      ∙ ap (λ (b : Bool). pending_by b (o.entries (number_at m.slots w.zone w.place))) (sym w.waiting)
      ∙ sym (pending_at m.slots o.entries w.place w.zone w.zone_below) ∙ f)

  pub agrees : Agrees o m ks
  agrees = record { readers_see_the_central_value = sees_central; exclusive_excludes_readers = excludes; quiet_is_answered = all_answered }

-- ── the law ──

pub lawful : (room : Rule) (m : Model) → Lawful room m
lawful room m loads opened size ks stock tied calls =
    let r = every_run room size calls m ks (onlooking stock m.plan.first_number) (opened_inv m loads opened ks stock tied) in
    record {
      answers_are_central = r.never_objects;
      none_misplaced = r.none_misplaced;
      agrees = agrees _ _ _ r.inv_after;
    }

-- A pool as it is opened has the invariant.
use Rattle.std.proofs.Common.{◌≡◌, ℕ, zero, suc, ◌+◌, ◌*◌, ◌<◌, Bool, true, false, cond, eqb, ltb, List, [], ◌∷◌, length, get_or, replicate, Some, None, Option, sym, refl, ap, ◌∙◌, subst, arith}
use Rattle.std.proofs.lemmas.Bool.{ltb-true, ltb-false, lt-ltb, eqb-true}
use Rattle.messages.specs.declared.assignments.Assignment.{Assignment}
use Rattle.messages.specs.declared.kinds.Message.{Message}
use Rattle.line.specs.declared.states.State.TheVariants.{Invalid, Exclusive}
use Rattle.transport.specs.Lanes.{Lists, all_empty, lane_at}
use Rattle.keys.specs.Places.{key_at}
use Rattle.calls.specs.Model.{Model, state_at, blank_slot}
use Rattle.calls.specs.Onlookers.{Onlooker, unused, onlooking}
use Rattle.calls.specs.Opening.{Load, loaded_row, loaded_state, loaded_value, ZoneBelow, JustOpened, TiedTo}
use Rattle.coherence.specs.System.{free, fresh, loaded}
use Rattle.coherence.proofs.Invariant.{Inv}
use Rattle.coherence.proofs.Same.{inv_same}
use Rattle.coherence.proofs.Runs.{fresh_inv, loaded_inv}
use Rattle.lawful.proofs.Projections.{lane_of}
use Rattle.lawful.proofs.Keys.{at_is_place}
use Rattle.lawful.proofs.Lanes.{places_below_empty, PlacesBelow}
use Rattle.lawful.proofs.Waits.{waits}
use Rattle.lawful.proofs.Systems.{value_of, pending_by, slot_pending, line_of, pending_of, system_at, waits_at}
use Rattle.lawful.proofs.Invariant.{PoolInv}

no_lane : (i : ℕ) → lane_at all_empty i ≡ []
no_lane i = go 16 i
  where
    go : (n i : ℕ) → get_or {A = List Message} (replicate n []) i [] ≡ []
    go zero i = refl
    go (suc n) zero = refl
    go (suc n) (suc i) = go n i

some_key : (ks : List (List ℕ)) (p : ℕ) → p < length ks → (k : List ℕ) × (key_at ks p ≡ Some k)
some_key [] p h = absurd (omega arith)
some_key (k ∷ ks) zero h = (k, refl)
some_key (k ∷ ks) (suc p) h = some_key ks p (omega arith)

some_inj : {A : Type 0} {a b : A} → Some a ≡ Some b → a ≡ b
some_inj e = cc

module _ (m : Model) (loads : ℕ → Load) (opened : JustOpened m loads) (ks : List (List ℕ)) (stock : List ℕ → Option Assignment) (tied : TiedTo ks loads stock) where
  abbrev o : Onlooker
  o = onlooking stock m.plan.first_number

  lane_empty : (b : Bool) (place i : ℕ) → lane_of place (cond b (lane_at m.lanes i) []) ≡ []
  lane_empty true place i = ap (λ (l : Lists). lane_of place (lane_at l i)) opened.lanes_empty ∙ ap (lane_of place) (no_lane i)
  lane_empty false place i = refl

  -- no line waits
  idle_load : (x : Load) (z : ℕ) → waits (loaded_state x z) ≡ false
  idle_load None z = refl
  idle_load (Some (y, a)) z = go (eqb z y)
    where
      go : (b : Bool) → waits (cond b (Exclusive a) Invalid) ≡ false
      go true = refl
      go false = refl

  idle : (z p : ℕ) → z < 8 → p < 32 → waits_at m.slots z p ≡ false
  idle z p hz hp = ap waits (opened.lines_loaded z p hz hp) ∙ idle_load (loads p) z

  pending_free : (p : ℕ) → p < 32 → (y : ℕ) → pending_of m.slots o.entries p y ≡ free
  pending_free p hp y = go (ltb y 8) refl
    where
      go : (b : Bool) → ltb y 8 ≡ b → cond b (slot_pending (get_or m.slots (y * 32 + p) blank_slot) o.entries) free ≡ free
      go false e = refl
      go true e = ap (λ (w : Bool). pending_by w unused) (idle y p (ltb-true y 8 e) hp)

  line_loaded : (p : ℕ) → p < 32 → (y : ℕ) → line_of m.slots p y ≡ cond (ltb y 8) (loaded_state (loads p) y) Invalid
  line_loaded p hp y = go (ltb y 8) refl
    where
      go : (b : Bool) → ltb y 8 ≡ b → cond b (state_at m y p) Invalid ≡ cond b (loaded_state (loads p) y) Invalid
      go false e = refl
      go true e = opened.lines_loaded y p (ltb-true y 8 e) hp

  value_loaded : (p : ℕ) → value_of stock (key_at ks p) ≡ loaded_value (loads p)
  value_loaded p = go (key_at ks p) refl
    where
      go : (k : Option (List ℕ)) → key_at ks p ≡ k → value_of stock k ≡ loaded_value (loads p)
      go (Some k) e = tied.known k p (at_is_place ks k p tied.apart e)
      go None e = ap loaded_value (sym (tied.unused_empty p (λ h. let s = some_key ks p h in never (sym e ∙ s.1))))
        where
          never : {k : List ℕ} → None ≡ Some k → ⊥
          never f = let z : ◌≡◌ {A = ℕ} 0 1 = cc in omega arith

  -- what a place's load makes of its system
  opened_at : (p : ℕ) → p < 32 → (x : Load) → loads p ≡ x → ZoneBelow x → Inv (system_at m ks o p)
  opened_at p hp None e h =
      inv_same fresh (system_at m ks o p)
      (record {
        central_same = value_loaded p ∙ ap loaded_value e;
        dir_same = opened.rows_loaded p hp ∙ ap loaded_row e;
        up_same = λ y. lane_empty (ltb y 8) p y;
        down_same = λ y. lane_empty (ltb y 8) p (8 + y);
        line_same = λ y. line_loaded p hp y ∙ ap (λ (x : Load). cond (ltb y 8) (loaded_state x y) Invalid) e ∙ either (ltb y 8);
        pending_same = pending_free p hp;
      })
      fresh_inv
    where
      either : (b : Bool) → cond b Invalid Invalid ≡ Invalid
      either true = refl
      either false = refl
  opened_at p hp (Some (z, a)) e h =
      inv_same (loaded z a) (system_at m ks o p)
      (record {
        central_same = value_loaded p ∙ ap loaded_value e;
        dir_same = opened.rows_loaded p hp ∙ ap loaded_row e;
        up_same = λ y. lane_empty (ltb y 8) p y;
        down_same = λ y. lane_empty (ltb y 8) p (8 + y);
        line_same = λ y. line_loaded p hp y ∙ ap (λ (x : Load). cond (ltb y 8) (loaded_state x y) Invalid) e ∙ at_z y;
        pending_same = pending_free p hp;
      })
      (loaded_inv z a (lt-ltb z 8 h))
    where
      at_z : (y : ℕ) → cond (ltb y 8) (cond (eqb y z) (Exclusive a) Invalid) Invalid ≡ cond (eqb y z) (Exclusive a) Invalid
      at_z y = go (ltb y 8) (eqb y z) refl refl
        where
          go : (b c : Bool) → ltb y 8 ≡ b → eqb y z ≡ c → cond b (cond c (Exclusive a) Invalid) Invalid ≡ cond c (Exclusive a) Invalid
          go true c f g = refl
          go false false f g = refl
          go false true f g = absurd (let i = ltb-false y 8 f in let j = eqb-true y z g in let k = h in omega arith)

  no_wait : {P : Type 0} (z p : ℕ) → z < 8 → p < 32 → waits_at m.slots z p ≡ true → P
  no_wait z p hz hp w = absurd (let f = sym (idle z p hz hp) ∙ w in let n : ◌≡◌ {A = ℕ} 0 1 = ap (λ (b : Bool). cond b 1 0) f in omega arith)

  pub opened_inv : PoolInv m ks o
  opened_inv =
      record {
        sixteen = ap length opened.lanes_empty;
        many_slots = opened.many_slots;
        many_rows = opened.many_rows;
        in_range = subst PlacesBelow (sym opened.lanes_empty) places_below_empty;
        coherent = λ p hp. opened_at p hp (loads p) refl (opened.zones p hp);
        keys_apart = tied.apart;
        unknown_empty = tied.unknown;
        same_next = sym opened.first_next;
        numbers =
            record {
              below = λ z p hz hp w. no_wait z p hz hp w;
              apart = λ y q z p hy hq hz hp v w e. no_wait z p hz hp w;
              keys = λ z p hz hp w. no_wait z p hz hp w;
              held = λ n h. absurd h;
              ahead = λ n h. refl;
            };
      }

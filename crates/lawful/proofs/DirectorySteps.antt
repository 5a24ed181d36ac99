-- What the directory does in the pool keeps the invariant: a delivery from an up lane, and a take-up.
use Rattle.std.proofs.Common.{◌≡◌, ℕ, ◌+◌, ◌*◌, ◌<◌, Bool, true, false, cond, eqb, ltb, List, ◌++◌, length, get_or, Some, None, Option, sym, refl, ap, ◌∙◌, subst, ⊎_elim, arith, length-set}
use Rattle.std.proofs.lemmas.Bool.{eqb-true, eqb-false, ltb-true, cases_eq}
use Rattle.messages.specs.declared.assignments.Assignment.{Assignment}
use Rattle.messages.specs.declared.requests.Request.{Request}
use Rattle.messages.specs.declared.kinds.Down.{Down as DownKind}
use Rattle.messages.specs.declared.kinds.Kind.{Kind}
use Rattle.messages.specs.declared.kinds.Message.{Message}
use Rattle.messages.specs.Central as central
use Rattle.directory.specs.Directory.{Directory, went}
use Rattle.directory.specs.Arrivals.{delivered}
use Rattle.directory.specs.TakeUp.{taken_up}
use Rattle.transport.specs.declared.lanes.Lane.TheVariants.{Up}
use Rattle.transport.specs.Lanes.{Lists, oldest, taken}
use Rattle.keys.specs.Places.{place_of, key_at}
use Rattle.calls.specs.Model.{Model, row_at, blank_slot}
use Rattle.calls.specs.Sending.{sent_down}
use Rattle.calls.specs.Directories.{with_row}
use Rattle.calls.specs.Onlookers.{Onlooker, Entry, settled, with_value, with_entry}
use Rattle.calls.specs.Law.{Outstanding}
use Rattle.coherence.specs.System.{System, Pending, free, at}
use Rattle.coherence.specs.System as one
use Rattle.coherence.specs.Steps.{after_directory, taken_from, central_serving, pending_served}
use Rattle.coherence.specs.Steps as steps
use Rattle.coherence.proofs.Invariant.{Inv}
use Rattle.coherence.proofs.Same.{inv_same}
use Rattle.coherence.proofs.Runs.{up_keeps, serving_keeps}
use Rattle.coherence.proofs.Safety.{safe}
use Rattle.lawful.proofs.Projections.{up_of, down_of, down_kinds}
use Rattle.lawful.proofs.Keys.{at_is_place, unknown_is_nowhere}
use Rattle.lawful.proofs.Lanes.{PlacesBelow, length_taken, length_sent_down, down_of_sent_down_here, down_of_sent_down_elsewhere, up_of_sent_down, up_of_taken_up_here, up_of_taken_up_other_zone, up_of_taken_up_elsewhere, down_of_taken_up, outcome_length_delivered, outcome_length_taken_up, places_below_taken, places_below_sent_down}
use Rattle.lawful.proofs.Numbers.{Numbers, Here, numbers_same, KeyOf, entry_here, entry_elsewhere}
use Rattle.lawful.proofs.Tables.{row_set_here, row_set_elsewhere}
use Rattle.lawful.proofs.Systems.{value_of, pending_by, slot_pending, pending_of, system_at, waits_at, number_at, pending_kept, value_here, value_elsewhere, IsAccepted, is_accepted}
use Rattle.lawful.proofs.Invariant.{PoolInv}
use Rattle.lawful.proofs.ZoneSteps.{pending_at, each_place}

some_inj : {A : Type 0} {a b : A} → Some a ≡ Some b → a ≡ b
some_inj e = cc

down_kinds_lem : (m : Option DownKind) → down_kinds m ≡ steps.sent_down m
down_kinds_lem None = refl
down_kinds_lem (Some m) = refl

-- a zone whose request is accepted and not settled is below 8, waits, and has its key and request under its number
pub record Requester (m : Model) (o : Onlooker) (p x : ℕ) (r : Request) : Type 0 where
  pub a_zone : x < 8
  pub found : IsAccepted (waits_at m.slots x p) (o.entries (number_at m.slots x p)) r

pub requester : (m : Model) (o : Onlooker) (p x : ℕ) (r : Request) → pending_of m.slots o.entries p x ≡ one.accepted r → Requester m o p x r
requester m o p x r e = go (ltb x 8) refl e
  where
    go : (b : Bool) → ltb x 8 ≡ b → cond b (slot_pending (get_or m.slots (x * 32 + p) blank_slot) o.entries) free ≡ one.accepted r → Requester m o p x r
    go false t h = let z : ◌≡◌ {A = ℕ} 0 1 = cc in absurd (omega arith)
    go true t h = record { a_zone = ltb-true x 8 t; found = is_accepted _ _ r h }

module _ (m : Model) (ks : List (List ℕ)) (o : Onlooker) (inv : PoolInv m ks o) (p : ℕ) (hp : p < 32) (lanes : Lists) (to : List (Option DownKind)) (d : Directory)
    (sixteen : length lanes ≡ 16) (below : PlacesBelow lanes) (eight : length to ≡ 8) (s : System)
    (s-central : s.central ≡ value_of o.values (key_at ks p)) (s-up : (y : ℕ) → up_of lanes p y ≡ s.up y) (s-down : (y : ℕ) → down_of lanes p y ≡ s.down y)
    (s-line : (y : ℕ) → (system_at m ks o p).line y ≡ s.line y) (s-pending : (y : ℕ) → s.pending y ≡ pending_of m.slots o.entries p y)
    (others : (q y : ℕ) → eqb q p ≡ false → (up_of lanes q y ≡ up_of m.lanes q y) × (down_of lanes q y ≡ down_of m.lanes q y)) where
  abbrev served : Model
  served = with_row m p d (sent_down lanes p to)

  directory_keeps : (x : Option ℕ) (o' : Onlooker) → Inv (after_directory s to x d) → o'.next ≡ o.next →
      value_of o'.values (key_at ks p) ≡ (after_directory s to x d).central →
      ((q : ℕ) → eqb q p ≡ false → value_of o'.values (key_at ks q) ≡ value_of o.values (key_at ks q)) →
      ((y : ℕ) → pending_of m.slots o'.entries p y ≡ (after_directory s to x d).pending y) →
      ((q : ℕ) → q < 32 → eqb q p ≡ false → (y : ℕ) → pending_of m.slots o'.entries q y ≡ pending_of m.slots o.entries q y) →
      ((k : List ℕ) → place_of (λ k. k) ks k ≡ None → o'.values k ≡ None) →
      Numbers (waits_at m.slots) (number_at m.slots) o'.entries m.next (key_at ks) →
      PoolInv served ks o'
  directory_keeps x o' i nx here else pend pend-else unknown nums =
      record {
        sixteen = length_sent_down lanes p to ∙ sixteen;
        many_slots = inv.many_slots;
        many_rows = simp length-set inv.many_rows;
        in_range = places_below_sent_down lanes p to hp below;
        coherent = each_place (λ q. Inv (system_at served ks o' q)) p
            (inv_same (after_directory s to x d) (system_at served ks o' p)
            (record {
              central_same = here;
              dir_same = row_set_here m.rows p d inv.many_rows hp;
              up_same = λ y. up_of_sent_down lanes p to sixteen eight p y ∙ s-up y;
              down_same = λ y. down_of_sent_down_here lanes p to sixteen eight y ∙ ap (λ (l : List Kind). l ++ down_kinds (get_or to y None)) (s-down y)
                  ∙ ap (λ (l : List Kind). s.down y ++ l) (down_kinds_lem (get_or to y None));
              line_same = s-line;
              pending_same = pend;
            }) i)
            (λ q hq n. inv_same (system_at m ks o q) (system_at served ks o' q)
            (record {
              central_same = else q n;
              dir_same = row_set_elsewhere m.rows p q d n;
              up_same = λ y. up_of_sent_down lanes p to sixteen eight q y ∙ (others q y n).0;
              down_same = λ y. down_of_sent_down_elsewhere lanes p to sixteen eight q n y ∙ (others q y n).1;
              line_same = λ y. refl;
              pending_same = pend-else q hq n;
            })
            (inv.coherent q hq));
        keys_apart = inv.keys_apart;
        unknown_empty = unknown;
        same_next = nx ∙ inv.same_next;
        numbers = nums;
      }

  -- nobody's request is settled
  pub unsettled_step : Inv (after_directory s to None d) → PoolInv served ks o
  unsettled_step i =
      directory_keeps None o i refl (sym s-central) (λ q n. refl) (λ y. sym (s-pending y)) (λ q hq n y. refl) inv.unknown_empty inv.numbers

  -- the request of zone x is settled
  module _ (x : ℕ) (r : Request) (w : Requester m o p x r) where
    abbrev number : ℕ
    number = number_at m.slots x p

    abbrev key : List ℕ
    key = w.found.key

    abbrev settling : Onlooker
    settling =
        record {
          values = with_value o.values key (central.left r (o.values key));
          entries = with_entry o.entries number (settled key r (central.answered r (o.values key)));
          next = o.next;
        }

    key_here : key_at ks p ≡ Some key
    key_here = subst (λ (e : Entry). KeyOf e (key_at ks p)) w.found.entry (inv.numbers.keys x p w.a_zone hp w.found.waiting)

    central_here : s.central ≡ o.values key
    central_here = s-central ∙ ap (value_of o.values) key_here

    pending_is : s.pending x ≡ one.accepted r
    pending_is = s-pending x ∙ pending_at m.slots o.entries p x w.a_zone
        ∙ ap (λ (b : Bool). pending_by b (o.entries number)) w.found.waiting ∙ ap (pending_by true) w.found.entry

    -- another waiting line has another number
    other_entry : (y q : ℕ) → y < 8 → q < 32 → (Here y q x p → ⊥) → waits_at m.slots y q ≡ true → settling.entries (number_at m.slots y q) ≡ o.entries (number_at m.slots y q)
    other_entry y q hy hq n v =
        entry_elsewhere o.entries number (number_at m.slots y q) _ (λ f. n (inv.numbers.apart y q x p hy hq w.a_zone hp v w.found.waiting f))

    settled_pending : (y : ℕ) → pending_of m.slots settling.entries p y ≡ at x (pending_served (s.pending x) s.central) s.pending y
    settled_pending y = go (eqb y x) refl
      where
        go : (b : Bool) → eqb y x ≡ b → pending_of m.slots settling.entries p y ≡ cond b (pending_served (s.pending x) s.central) (s.pending y)
        go true e =
            ap (pending_of m.slots settling.entries p) (eqb-true y x e)
            ∙ pending_at m.slots settling.entries p x w.a_zone
            ∙ ap (λ (b : Bool). pending_by b (settling.entries number)) w.found.waiting
            ∙ ap (pending_by true) (entry_here o.entries number (settled key r (central.answered r (o.values key))))
            ∙ ap (λ (c : Option Assignment). one.settled r (central.answered r c)) (sym central_here)
            ∙ ap (λ (q : Pending). pending_served q s.central) (sym pending_is)
        go false e = pending_kept m.slots m.slots o.entries settling.entries p y refl (λ hy v. other_entry y p hy hp (λ h. eqb-false y x e h.0) v) ∙ sym (s-pending y)

    key_apart : (q : ℕ) → eqb q p ≡ false → key_at ks q ≡ Some key → ⊥
    key_apart q n h = eqb-false q p n (some_inj (sym (at_is_place ks key q inv.keys_apart h) ∙ at_is_place ks key p inv.keys_apart key_here))

    entry_cases : (P : ℕ → Entry → Type 0) → P number (settled key r (central.answered r (o.values key))) → ((n : ℕ) → (n ≡ number → ⊥) → P n (o.entries n)) → (n : ℕ) → P n (settling.entries n)
    entry_cases P h k n = ⊎_elim
        (λ (e : n ≡ number). subst (λ (j : ℕ). P j (settling.entries j)) (sym e) (subst (P number) (sym (entry_here o.entries number _)) h))
        (λ (ne : n ≡ number → ⊥). subst (P n) (sym (entry_elsewhere o.entries number n _ ne)) (k n ne))
        (cases_eq n number)

    pub settled_step : Inv (after_directory s to (Some x) d) → PoolInv served ks settling
    settled_step i =
        directory_keeps (Some x) settling i refl
        (ap (value_of settling.values) key_here ∙ value_here o.values key (central.left r (o.values key)) ∙ ap (central.left r) (sym central_here)
        ∙ ap (λ (q : Pending). central_serving q s.central) (sym pending_is))
        (λ q n. value_elsewhere o.values key (central.left r (o.values key)) (key_at ks q) (key_apart q n))
        settled_pending
        (λ q hq n y. pending_kept m.slots m.slots o.entries settling.entries q y refl (λ hy v. other_entry y q hy hq (λ h. eqb-false q p n h.1) v))
        (λ k h. value_elsewhere o.values key (central.left r (o.values key)) (Some k) (λ e. unknown_is_nowhere ks k h p (key_here ∙ sym e)) ∙ inv.unknown_empty k h)
        (numbers_same inv.numbers (waits_at m.slots) (number_at m.slots) settling.entries (λ y q hy hq. (refl, refl))
        (entry_cases (λ n e. (k : Option (List ℕ)) → KeyOf (o.entries n) k → KeyOf e k) (λ k h. subst (λ (e : Entry). KeyOf e k) w.found.entry h) (λ n ne k h. h))
        (entry_cases (λ n e. Outstanding e → Outstanding (o.entries n)) (λ h. subst Outstanding (sym w.found.entry) tt) (λ n ne h. h))
        (λ n h. entry_elsewhere o.entries number n _ (λ (e : n ≡ number). let b = inv.numbers.below x p w.a_zone hp w.found.waiting in omega arith)))

-- ── a delivery from an up lane ──

module _ (m : Model) (ks : List (List ℕ)) (o : Onlooker) (inv : PoolInv m ks o) (z : ℕ) (hz : z < 8) (x : Message) (head : oldest m.lanes (Up z) ≡ Some x) (hp : x.place < 32)
    (to : List (Option DownKind)) (settled-zone : Option ℕ) (d : Directory) (e : delivered x.kind z (row_at m x.place) ≡ went to settled-zone d) where
  abbrev up_place : ℕ
  up_place = x.place

  abbrev left_lanes : Lists
  left_lanes = taken m.lanes (Up z)

  abbrev before_up : System
  before_up = system_at m ks o up_place

  abbrev after_take_up : System
  after_take_up = taken_from before_up z (up_of left_lanes up_place z)

  up_left : (y : ℕ) → up_of left_lanes up_place y ≡ after_take_up.up y
  up_left y = go (eqb y z) refl
    where
      go : (b : Bool) → eqb y z ≡ b → up_of left_lanes up_place y ≡ cond b (up_of left_lanes up_place z) (up_of m.lanes up_place y)
      go true t = ap (up_of left_lanes up_place) (eqb-true y z t)
      go false t = up_of_taken_up_other_zone m.lanes z x head inv.sixteen hz up_place y t

  up_inv : Inv (after_directory after_take_up to settled-zone d)
  up_inv = up_keeps before_up z x.kind (up_of left_lanes up_place z) to settled-zone d (up_of_taken_up_here m.lanes z x head inv.sixteen hz) e (inv.coherent up_place hp)

  up_eight : length to ≡ 8
  up_eight = outcome_length_delivered x.kind z (row_at m up_place) to settled-zone d e

  up_others : (q y : ℕ) → eqb q up_place ≡ false → (up_of left_lanes q y ≡ up_of m.lanes q y) × (down_of left_lanes q y ≡ down_of m.lanes q y)
  up_others q y n = (up_of_taken_up_elsewhere m.lanes z x head inv.sixteen hz q n y, down_of_taken_up m.lanes z x head inv.sixteen hz q y)

  pub up_unsettled : settled-zone ≡ None → PoolInv (with_row m up_place d (sent_down left_lanes up_place to)) ks o
  up_unsettled f =
      unsettled_step m ks o inv up_place hp left_lanes to d (length_taken m.lanes (Up z) ∙ inv.sixteen) (places_below_taken m.lanes (Up z) inv.in_range) up_eight after_take_up
      refl up_left (λ y. down_of_taken_up m.lanes z x head inv.sixteen hz up_place y) (λ y. refl) (λ y. refl) up_others
      (subst (λ (s : Option ℕ). Inv (after_directory after_take_up to s d)) f up_inv)

  pub up_requester : (y : ℕ) → settled-zone ≡ Some y → (r : Request) × Requester m o up_place y r
  up_requester y f =
      let a = (safe before_up (inv.coherent up_place hp)).delivery_settles_once z x.kind (up_of left_lanes up_place z) to y d
      (up_of_taken_up_here m.lanes z x head inv.sixteen hz) (e ∙ ap (λ (s : Option ℕ). went to s d) f) in
      (a.0, requester m o up_place y a.0 a.1)

  pub up_settled : (y : ℕ) → settled-zone ≡ Some y → (r : Request) (w : Requester m o up_place y r) →
      PoolInv (with_row m up_place d (sent_down left_lanes up_place to)) ks
      (record {
        values = with_value o.values w.found.key (central.left r (o.values w.found.key));
        entries = with_entry o.entries (number_at m.slots y up_place) (settled w.found.key r (central.answered r (o.values w.found.key)));
        next = o.next;
      })
  up_settled y f r w =
      settled_step m ks o inv up_place hp left_lanes to d (length_taken m.lanes (Up z) ∙ inv.sixteen) (places_below_taken m.lanes (Up z) inv.in_range) up_eight after_take_up
      refl up_left (λ y. down_of_taken_up m.lanes z x head inv.sixteen hz up_place y) (λ y. refl) (λ y. refl) up_others y r w
      (subst (λ (s : Option ℕ). Inv (after_directory after_take_up to s d)) f up_inv)

-- ── a take-up ──

module _ (m : Model) (ks : List (List ℕ)) (o : Onlooker) (inv : PoolInv m ks o) (p : ℕ) (hp : p < 32)
    (to : List (Option DownKind)) (settled-zone : Option ℕ) (d : Directory) (e : taken_up (row_at m p) ≡ went to settled-zone d) where
  abbrev before_take_up : System
  before_take_up = system_at m ks o p

  take_up_inv : Inv (after_directory before_take_up to settled-zone d)
  take_up_inv = serving_keeps before_take_up to settled-zone d e (inv.coherent p hp)

  pub take_up_unsettled : settled-zone ≡ None → PoolInv (with_row m p d (sent_down m.lanes p to)) ks o
  take_up_unsettled f =
      unsettled_step m ks o inv p hp m.lanes to d inv.sixteen inv.in_range (outcome_length_taken_up (row_at m p) to settled-zone d e) before_take_up
      refl (λ y. refl) (λ y. refl) (λ y. refl) (λ y. refl) (λ q y n. (refl, refl))
      (subst (λ (s : Option ℕ). Inv (after_directory before_take_up to s d)) f take_up_inv)

  pub take_up_requester : (y : ℕ) → settled-zone ≡ Some y → (r : Request) × Requester m o p y r
  take_up_requester y f =
      let a = (safe before_take_up (inv.coherent p hp)).take_up_settles_once to y d (e ∙ ap (λ (s : Option ℕ). went to s d) f) in
      (a.0, requester m o p y a.0 a.1)

  pub take_up_settled : (y : ℕ) → settled-zone ≡ Some y → (r : Request) (w : Requester m o p y r) →
      PoolInv (with_row m p d (sent_down m.lanes p to)) ks
      (record {
        values = with_value o.values w.found.key (central.left r (o.values w.found.key));
        entries = with_entry o.entries (number_at m.slots y p) (settled w.found.key r (central.answered r (o.values w.found.key)));
        next = o.next;
      })
  take_up_settled y f r w =
      settled_step m ks o inv p hp m.lanes to d inv.sixteen inv.in_range (outcome_length_taken_up (row_at m p) to settled-zone d e) before_take_up
      refl (λ y. refl) (λ y. refl) (λ y. refl) (λ y. refl) (λ q y n. (refl, refl)) y r w
      (subst (λ (s : Option ℕ). Inv (after_directory before_take_up to s d)) f take_up_inv)

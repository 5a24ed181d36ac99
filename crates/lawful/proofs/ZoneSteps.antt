-- What a zone does in the pool keeps the invariant: a start, a let-go, a delivery from its down lane.
use Rattle.std.proofs.Common.{◌≡◌, ℕ, ◌+◌, ◌*◌, ◌<◌, Bool, true, false, cond, eqb, ◌⊎◌, List, ◌++◌, length, get_or, set, Some, None, Option, sym, refl, ap, ◌∙◌, subst, inl, inr, ⊎_elim, length-set}
use Rattle.std.proofs.lemmas.Bool.{eqb-true, eqb-false, lt-ltb}
use Rattle.messages.specs.declared.requests.Request.{Request}
use Rattle.messages.specs.declared.requests.Answer.{Answer}
use Rattle.messages.specs.declared.kinds.Up.{Up as UpKind}
use Rattle.messages.specs.declared.kinds.Kind.{Kind}
use Rattle.messages.specs.declared.kinds.Message.{Message}
use Rattle.line.specs.declared.states.State.{State}
use Rattle.line.specs.Outcomes.{moved}
use Rattle.line.specs.Received.{received}
use Rattle.line.specs.LetGo.{let_go}
use Rattle.transport.specs.declared.lanes.Lane.TheVariants.{Down}
use Rattle.transport.specs.Lanes.{Lists, oldest, taken}
use Rattle.calls.specs.declared.slots.Slot.{Slot}
use Rattle.calls.specs.Model.{Model, slot, slot_at, state_at, blank_slot}
use Rattle.calls.specs.Sending.{sent_up}
use Rattle.calls.specs.Zones.{with_slot}
use Rattle.calls.specs.Onlookers.{Onlooker, Entry, answered, with_entry}
use Rattle.coherence.specs.System.{System, Pending, free}
use Rattle.coherence.specs.Steps.{after_request, after_let_go, after_down, pending_at_delivery}
use Rattle.coherence.specs.Steps as steps
use Rattle.coherence.proofs.Invariant.{Inv}
use Rattle.coherence.proofs.Same.{inv_same}
use Rattle.coherence.proofs.LineSteps.{let_go_keeps, down_keeps}
use Rattle.coherence.proofs.Safety.{safe}
use Rattle.lawful.proofs.Projections.{up_of, down_of, up_kinds}
use Rattle.lawful.proofs.Lanes.{PlacesBelow, length_sent_up, length_taken, up_of_sent_up_here, up_of_sent_up_elsewhere, down_of_sent_up, down_of_taken_down_here, down_of_taken_down_other_zone, down_of_taken_down_elsewhere, up_of_taken_down, places_below_sent_up, places_below_taken}
use Rattle.lawful.proofs.Numbers.{Here, Elsewhere, is_here, numbers_same, numbers_answered, entry_elsewhere}
use Rattle.lawful.proofs.Waits.{waits, Drops, goes, let_go_drops, Takes, goes_on, ends_it, received_takes}
use Rattle.lawful.proofs.Tables.{slot_set_here, slot_set_other_zone, slot_set_other_place}
use Rattle.lawful.proofs.Systems.{pending_by, slot_pending, line_of, pending_of, system_at, waits_at, number_at, line_here, line_elsewhere, pending_kept, IsSettled, is_settled}
use Rattle.lawful.proofs.Invariant.{PoolInv}

-- the line of a zone below 8
pub line_at : (slots : List Slot) (p z : ℕ) → z < 8 → line_of slots p z ≡ (get_or slots (z * 32 + p) blank_slot).line.state
line_at slots p z h = rw (lt-ltb z 8 h)

pub pending_at : (slots : List Slot) (es : ℕ → Entry) (p z : ℕ) → z < 8 → pending_of slots es p z ≡ slot_pending (get_or slots (z * 32 + p) blank_slot) es
pending_at slots es p z h = rw (lt-ltb z 8 h)

-- another zone or another place
apart_zone : (y q z p : ℕ) → (Here y q z p → ⊥) → (eqb y z ≡ false) ⊎ (eqb q p ≡ false)
apart_zone y q z p n = go (eqb y z) (eqb q p) refl refl
  where
    go : (a b : Bool) → eqb y z ≡ a → eqb q p ≡ b → (eqb y z ≡ false) ⊎ (eqb q p ≡ false)
    go false b e f = inl e
    go true false e f = inr f
    go true true e f = absurd (n (eqb-true y z e, eqb-true q p f))

module _ (slots : List Slot) (z p : ℕ) (s : Slot) (long : length slots ≡ 256) (hz : z < 8) (hp : p < 32) where
  abbrev written : List Slot
  written = set slots (z * 32 + p) s

  pub slot_elsewhere : (y q : ℕ) → q < 32 → (Here y q z p → ⊥) → get_or written (y * 32 + q) blank_slot ≡ get_or slots (y * 32 + q) blank_slot
  slot_elsewhere y q hq n = ⊎_elim
      (λ (e : eqb y z ≡ false). slot_set_other_zone slots z p y q s hp hq e)
      (λ (e : eqb q p ≡ false). slot_set_other_place slots z p y q s hp hq e)
      (apart_zone y q z p n)

  pub others_as_before : Elsewhere (waits_at slots) (waits_at written) (number_at slots) (number_at written) z p
  others_as_before y q hy hq n =
      let e = slot_elsewhere y q hq n in
      (ap (λ (x : Slot). waits x.line.state) e, ap (λ (x : Slot). x.number) e)

  pub here_waits : waits_at written z p ≡ waits s.line.state
  here_waits = ap (λ (x : Slot). waits x.line.state) (slot_set_here slots z p s long hz hp)

  pub here_number : number_at written z p ≡ s.number
  here_number = ap (λ (x : Slot). x.number) (slot_set_here slots z p s long hz hp)

  -- the pending requests of the place, with the slot's own as given
  pub pending_here : (es es' : ℕ → Entry) (w : Pending) → slot_pending s es' ≡ w →
      ((y : ℕ) → y < 8 → eqb y z ≡ false → waits_at slots y p ≡ true → es' (number_at slots y p) ≡ es (number_at slots y p)) →
      (y : ℕ) → pending_of written es' p y ≡ cond (eqb y z) w (pending_of slots es p y)
  pending_here es es' w e h y = go (eqb y z) refl
    where
      go : (b : Bool) → eqb y z ≡ b → pending_of written es' p y ≡ cond b w (pending_of slots es p y)
      go true t = ap (pending_of written es' p) (eqb-true y z t) ∙ pending_at written es' p z hz ∙ ap (λ (x : Slot). slot_pending x es') (slot_set_here slots z p s long hz hp) ∙ e
      go false t = pending_kept slots written es es' p y (slot_set_other_zone slots z p y p s hp hp t) (λ hy v. h y hy t v)

  -- and of another place
  pub pending_elsewhere : (es es' : ℕ → Entry) (q : ℕ) → q < 32 → eqb q p ≡ false →
      ((y : ℕ) → y < 8 → waits_at slots y q ≡ true → es' (number_at slots y q) ≡ es (number_at slots y q)) →
      (y : ℕ) → pending_of written es' q y ≡ pending_of slots es q y
  pending_elsewhere es es' q hq n h y = pending_kept slots written es es' q y (slot_set_other_place slots z p y q s hp hq n) (λ hy v. h y hy v)

-- ── one place and the others ──

pub each_place : (P : ℕ → Type 0) (p : ℕ) → P p → ((q : ℕ) → q < 32 → eqb q p ≡ false → P q) → (q : ℕ) → q < 32 → P q
each_place P p h k q hq = go (eqb q p) refl
  where
    go : (b : Bool) → eqb q p ≡ b → P q
    go true e = subst P (sym (eqb-true q p e)) h
    go false e = k q hq e

pub at_same : {A : Type 0} (f : ℕ → A) (z : ℕ) (w : A) → w ≡ f z → (y : ℕ) → cond (eqb y z) w (f y) ≡ f y
at_same f z w h y = go (eqb y z) refl
  where
    go : (b : Bool) → eqb y z ≡ b → cond b w (f y) ≡ f y
    go true e = h ∙ ap f (sym (eqb-true y z e))
    go false e = refl

pub up_kinds_lem : (sent : Option UpKind) → up_kinds sent ≡ steps.sent_up sent
up_kinds_lem None = refl
up_kinds_lem (Some u) = refl

-- ── a line's step after which the same line waits for the same number ──

module _ (m : Model) (ks : List (List ℕ)) (o : Onlooker) (inv : PoolInv m ks o) (z p : ℕ) (hz : z < 8) (hp : p < 32) (l : State) (lanes : Lists) where
  abbrev kept_slot : Slot
  kept_slot = slot l (slot_at m z p).number

  abbrev stepped : Model
  stepped = with_slot m z p l (slot_at m z p).number lanes

  module _ (same_wait : waits l ≡ waits (state_at m z p)) where
    kept_pending : slot_pending kept_slot o.entries ≡ pending_of m.slots o.entries p z
    kept_pending = ap (λ (b : Bool). pending_by b (o.entries (slot_at m z p).number)) same_wait ∙ sym (pending_at m.slots o.entries p z hz)

    pub stepped_pending : (y : ℕ) → pending_of stepped.slots o.entries p y ≡ pending_of m.slots o.entries p y
    stepped_pending y =
        pending_here m.slots z p kept_slot inv.many_slots hz hp o.entries o.entries _ refl (λ y hy n v. refl) y
        ∙ at_same (pending_of m.slots o.entries p) z _ kept_pending y

    pub quiet_step : length lanes ≡ 16 → PlacesBelow lanes → Inv (system_at stepped ks o p) →
        ((q y : ℕ) → eqb q p ≡ false → (up_of lanes q y ≡ up_of m.lanes q y) × (down_of lanes q y ≡ down_of m.lanes q y)) →
        PoolInv stepped ks o
    quiet_step sixteen below own others =
        record {
          sixteen = sixteen;
          many_slots = simp length-set inv.many_slots;
          many_rows = inv.many_rows;
          in_range = below;
          coherent = each_place (λ q. Inv (system_at stepped ks o q)) p own
              (λ q hq n. inv_same (system_at m ks o q) (system_at stepped ks o q)
              (record {
                central_same = refl;
                dir_same = refl;
                up_same = λ y. (others q y n).0;
                down_same = λ y. (others q y n).1;
                line_same = λ y. line_elsewhere m.slots z p kept_slot inv.many_slots hz hp q y hq n;
                pending_same = pending_elsewhere m.slots z p kept_slot inv.many_slots hz hp o.entries o.entries q hq n (λ y hy v. refl);
              })
              (inv.coherent q hq));
          keys_apart = inv.keys_apart;
          unknown_empty = inv.unknown_empty;
          same_next = inv.same_next;
          numbers = numbers_same inv.numbers (waits_at stepped.slots) (number_at stepped.slots) o.entries same_lines (λ n k h. h) (λ n h. h) (λ n h. refl);
        }
      where
        same_lines : (y q : ℕ) → y < 8 → q < 32 → (waits_at stepped.slots y q ≡ waits_at m.slots y q) × (number_at stepped.slots y q ≡ number_at m.slots y q)
        same_lines y q hy hq = ⊎_elim
            (λ (h : Here y q z p). (
              ap (λ (x : ℕ). waits_at stepped.slots x q) h.0 ∙ ap (λ (x : ℕ). waits_at stepped.slots z x) h.1
                  ∙ here_waits m.slots z p kept_slot inv.many_slots hz hp ∙ same_wait
                  ∙ sym (ap (λ (x : ℕ). waits_at m.slots x q) h.0 ∙ ap (λ (x : ℕ). waits_at m.slots z x) h.1),
              ap (λ (x : ℕ). number_at stepped.slots x q) h.0 ∙ ap (λ (x : ℕ). number_at stepped.slots z x) h.1
                  ∙ here_number m.slots z p kept_slot inv.many_slots hz hp
                  ∙ sym (ap (λ (x : ℕ). number_at m.slots x q) h.0 ∙ ap (λ (x : ℕ). number_at m.slots z x) h.1),
            ))
            (λ (n : Here y q z p → ⊥). others_as_before m.slots z p kept_slot inv.many_slots hz hp y q hy hq n)
            (is_here y q z p)

-- ── a let-go ──

pub let_go_step : (m : Model) (ks : List (List ℕ)) (o : Onlooker) → PoolInv m ks o → (z p : ℕ) → z < 8 → p < 32 → (sent : Option UpKind) (l : State) →
    let_go (state_at m z p) ≡ moved sent None l → PoolInv (with_slot m z p l (slot_at m z p).number (sent_up m.lanes z p sent)) ks o
let_go_step m ks o inv z p hz hp sent l e =
    quiet_step m ks o inv z p hz hp l lanes same_wait
    (length_sent_up m.lanes z p sent ∙ inv.sixteen)
    (places_below_sent_up m.lanes z p sent hp inv.in_range)
    (inv_same (after_let_go s z sent l) (system_at m' ks o p)
    (record {
      central_same = refl;
      dir_same = refl;
      up_same = λ y. up_of_sent_up_here m.lanes z p sent inv.sixteen hz y ∙ ap (λ (x : List Kind). cond (eqb y z) (up_of m.lanes p z ++ x) (up_of m.lanes p y)) (up_kinds_lem sent);
      down_same = λ y. down_of_sent_up m.lanes z p sent inv.sixteen hz p y;
      line_same = line_here m.slots z p (slot l (slot_at m z p).number) inv.many_slots hz hp (lt-ltb z 8 hz);
      pending_same = stepped_pending m ks o inv z p hz hp l lanes same_wait;
    })
    (let_go_keeps s z sent l (lt-ltb z 8 hz) (ap let_go (line_at m.slots p z hz) ∙ e) (inv.coherent p hp)))
    (λ q y n. (up_of_sent_up_elsewhere m.lanes z p sent inv.sixteen hz q y n, down_of_sent_up m.lanes z p sent inv.sixteen hz q y))
  where
    lanes : Lists
    lanes = sent_up m.lanes z p sent

    s : System
    s = system_at m ks o p

    m' : Model
    m' = with_slot m z p l (slot_at m z p).number lanes

    same_wait : waits l ≡ waits (state_at m z p)
    same_wait = go (subst (Drops (state_at m z p)) e (let_go_drops (state_at m z p)))
      where
        go : Drops (state_at m z p) (moved sent None l) → waits l ≡ waits (state_at m z p)
        go (goes h k) = k ∙ sym h

-- ── a delivery from the down lane ──

module _ (m : Model) (ks : List (List ℕ)) (o : Onlooker) (inv : PoolInv m ks o) (z : ℕ) (hz : z < 8) (x : Message) (head : oldest m.lanes (Down z) ≡ Some x) (hp : x.place < 32)
    (sent : Option UpKind) (l : State) where
  abbrev place : ℕ
  place = x.place

  abbrev left_lanes : Lists
  left_lanes = taken m.lanes (Down z)

  abbrev next_lanes : Lists
  next_lanes = sent_up left_lanes z place sent

  abbrev after_delivery : Model
  after_delivery = with_slot m z place l (slot_at m z place).number next_lanes

  left_sixteen : length left_lanes ≡ 16
  left_sixteen = length_taken m.lanes (Down z) ∙ inv.sixteen

  next_sixteen : length next_lanes ≡ 16
  next_sixteen = length_sent_up left_lanes z place sent ∙ left_sixteen

  next_below : PlacesBelow next_lanes
  next_below = places_below_sent_up left_lanes z place sent hp (places_below_taken m.lanes (Down z) inv.in_range)

  next_others : (q y : ℕ) → eqb q place ≡ false → (up_of next_lanes q y ≡ up_of m.lanes q y) × (down_of next_lanes q y ≡ down_of m.lanes q y)
  next_others q y n = (
    up_of_sent_up_elsewhere left_lanes z place sent left_sixteen hz q y n ∙ up_of_taken_down m.lanes z x head inv.sixteen hz q y,
    down_of_sent_up left_lanes z place sent left_sixteen hz q y ∙ down_of_taken_down_elsewhere m.lanes z x head inv.sixteen hz q n y,
  )

  next_up : (y : ℕ) → up_of next_lanes place y ≡ cond (eqb y z) (up_of m.lanes place z ++ steps.sent_up sent) (up_of m.lanes place y)
  next_up y =
      up_of_sent_up_here left_lanes z place sent left_sixteen hz y
      ∙ ap (λ (k : List Kind). cond (eqb y z) (up_of left_lanes place z ++ k) (up_of left_lanes place y)) (up_kinds_lem sent)
      ∙ ap (λ (k : List Kind). cond (eqb y z) (k ++ steps.sent_up sent) (up_of left_lanes place y)) (up_of_taken_down m.lanes z x head inv.sixteen hz place z)
      ∙ ap (λ (k : List Kind). cond (eqb y z) (up_of m.lanes place z ++ steps.sent_up sent) k) (up_of_taken_down m.lanes z x head inv.sixteen hz place y)

  next_down : (y : ℕ) → down_of next_lanes place y ≡ cond (eqb y z) (down_of left_lanes place z) (down_of m.lanes place y)
  next_down y = down_of_sent_up left_lanes z place sent left_sixteen hz place y ∙ go (eqb y z) refl
    where
      go : (b : Bool) → eqb y z ≡ b → down_of left_lanes place y ≡ cond b (down_of left_lanes place z) (down_of m.lanes place y)
      go true e = ap (down_of left_lanes place) (eqb-true y z e)
      go false e = down_of_taken_down_other_zone m.lanes z x head inv.sixteen hz place y e

  abbrev before : System
  before = system_at m ks o place

  delivered_inv : (a : Option Answer) → received (state_at m z place) x.kind ≡ moved sent a l → Inv (after_down before z (down_of left_lanes place z) sent a l)
  delivered_inv a e =
      down_keeps before z x.kind (down_of left_lanes place z) sent a l (lt-ltb z 8 hz) (down_of_taken_down_here m.lanes z x head inv.sixteen hz)
      (ap (λ (s : State). received s x.kind) (line_at m.slots place z hz) ∙ e) (inv.coherent place hp)

  -- the message is not an answer
  pub down_step : received (state_at m z place) x.kind ≡ moved sent None l → PoolInv after_delivery ks o
  down_step e =
      quiet_step m ks o inv z place hz hp l next_lanes same_wait next_sixteen next_below
      (inv_same (after_down before z (down_of left_lanes place z) sent None l) (system_at after_delivery ks o place)
      (record {
        central_same = refl;
        dir_same = refl;
        up_same = next_up;
        down_same = next_down;
        line_same = line_here m.slots z place (slot l (slot_at m z place).number) inv.many_slots hz hp (lt-ltb z 8 hz);
        pending_same = λ y. stepped_pending m ks o inv z place hz hp l next_lanes same_wait y ∙ sym (at_same (pending_of m.slots o.entries place) z _ refl y);
      })
      (delivered_inv None e))
      next_others
    where
      same_wait : waits l ≡ waits (state_at m z place)
      same_wait = go (subst (Takes (state_at m z place)) e (received_takes (state_at m z place) x.kind))
        where
          go : Takes (state_at m z place) (moved sent None l) → waits l ≡ waits (state_at m z place)
          go (goes_on h) = h

  -- the message ends the wait: the answer is the one kept when the request was settled
  module _ (a : Answer) (e : received (state_at m z place) x.kind ≡ moved sent (Some a) l) where
    ended : (waits (state_at m z place) ≡ true) × (waits l ≡ false)
    ended = go (subst (Takes (state_at m z place)) e (received_takes (state_at m z place) x.kind))
      where
        go : Takes (state_at m z place) (moved sent (Some a) l) → (waits (state_at m z place) ≡ true) × (waits l ≡ false)
        go (ends_it h k) = (h, k)

    pub kept_answer : (q : Request) × IsSettled (waits_at m.slots z place) (o.entries (slot_at m z place).number) q a
    kept_answer =
        let k = (safe before (inv.coherent place hp)).answer_by_delivery_is_kept z x.kind (down_of left_lanes place z) sent a l
        (down_of_taken_down_here m.lanes z x head inv.sixteen hz) (ap (λ (s : State). received s x.kind) (line_at m.slots place z hz) ∙ e) in
        (k.0, is_settled _ _ k.0 a (sym (pending_at m.slots o.entries place z hz) ∙ k.1))

    abbrev told : Onlooker
    told = record { values = o.values; entries = with_entry o.entries (slot_at m z place).number answered; next = o.next }

    -- another waiting line has another number
    other_entry : (y q : ℕ) → y < 8 → q < 32 → (Here y q z place → ⊥) → waits_at m.slots y q ≡ true → told.entries (number_at m.slots y q) ≡ o.entries (number_at m.slots y q)
    other_entry y q hy hq n v =
        entry_elsewhere o.entries (slot_at m z place).number (number_at m.slots y q) answered
        (λ f. n (inv.numbers.apart y q z place hy hq hz hp v ended.0 f))

    pub down_answer_step : PoolInv after_delivery ks told
    down_answer_step =
        record {
          sixteen = next_sixteen;
          many_slots = simp length-set inv.many_slots;
          many_rows = inv.many_rows;
          in_range = next_below;
          coherent = each_place (λ q. Inv (system_at after_delivery ks told q)) place
              (inv_same (after_down before z (down_of left_lanes place z) sent (Some a) l) (system_at after_delivery ks told place)
              (record {
                central_same = refl;
                dir_same = refl;
                up_same = next_up;
                down_same = next_down;
                line_same = line_here m.slots z place (slot l (slot_at m z place).number) inv.many_slots hz hp (lt-ltb z 8 hz);
                pending_same = pending_here m.slots z place (slot l (slot_at m z place).number) inv.many_slots hz hp o.entries told.entries free
                    (ap (λ (b : Bool). pending_by b (told.entries (slot_at m z place).number)) ended.1)
                    (λ y hy n v. other_entry y place hy hp (λ h. eqb-false y z n h.0) v);
              })
              (delivered_inv (Some a) e))
              (λ q hq n. inv_same (system_at m ks o q) (system_at after_delivery ks told q)
              (record {
                central_same = refl;
                dir_same = refl;
                up_same = λ y. (next_others q y n).0;
                down_same = λ y. (next_others q y n).1;
                line_same = λ y. line_elsewhere m.slots z place (slot l (slot_at m z place).number) inv.many_slots hz hp q y hq n;
                pending_same = pending_elsewhere m.slots z place (slot l (slot_at m z place).number) inv.many_slots hz hp o.entries told.entries q hq n
                    (λ y hy v. other_entry y q hy hq (λ h. eqb-false q place n h.1) v);
              })
              (inv.coherent q hq));
          keys_apart = inv.keys_apart;
          unknown_empty = inv.unknown_empty;
          same_next = inv.same_next;
          numbers = numbers_answered inv.numbers (waits_at after_delivery.slots) (number_at after_delivery.slots) z place hz hp
              (others_as_before m.slots z place (slot l (slot_at m z place).number) inv.many_slots hz hp) ended.0
              (here_waits m.slots z place (slot l (slot_at m z place).number) inv.many_slots hz hp ∙ ended.1);
        }

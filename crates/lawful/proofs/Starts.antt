-- A start keeps the invariant.
use Rattle.std.proofs.Common.{◌≡◌, ℕ, ◌+◌, ◌<◌, Bool, true, false, cond, eqb, List, [], ◌∷◌, ◌++◌, Some, None, Option, sym, refl, ap, ◌∙◌, subst, arith, length-set}
use Rattle.std.proofs.lemmas.Bool.{eqb-true, eqb-false, lt-ltb}
use Rattle.messages.specs.declared.requests.Request.{Request}
use Rattle.messages.specs.declared.requests.Answer.{Answer}
use Rattle.messages.specs.declared.kinds.Up.{Up as UpKind}
use Rattle.messages.specs.declared.kinds.Kind.{Kind}
use Rattle.messages.specs.Central as central
use Rattle.line.specs.declared.states.State.{State}
use Rattle.line.specs.Outcomes.{moved}
use Rattle.line.specs.Requested.{requested}
use Rattle.keys.specs.Places.{place_of, key_at, keys_after}
use Rattle.keys.specs.Promises.{Apart}
use Rattle.calls.specs.declared.slots.Slot.{Slot}
use Rattle.calls.specs.Model.{Model, slot, slot_at, state_at}
use Rattle.calls.specs.Zones.{started_model}
use Rattle.calls.specs.Law.{Outstanding}
use Rattle.calls.specs.Onlookers.{Onlooker, Entry, accepted, answered, with_value, with_entry}
use Rattle.coherence.specs.System.{System, Pending, free}
use Rattle.coherence.specs.System as one
use Rattle.coherence.specs.Steps.{after_request, central_at_start, pending_at_start}
use Rattle.coherence.specs.Steps as steps
use Rattle.coherence.proofs.Invariant.{Inv}
use Rattle.coherence.proofs.Same.{inv_same}
use Rattle.coherence.proofs.LineSteps.{request_keeps}
use Rattle.coherence.proofs.Safety.{safe}
use Rattle.lawful.proofs.Projections.{up_of}
use Rattle.lawful.proofs.Keys.{Given, known, next, place_is_at, at_is_place, unknown_is_nowhere, at_within, apart_after, key_at_push_last, key_at_push_before}
use Rattle.lawful.proofs.Lanes.{length_sent_up, up_of_sent_up_here, up_of_sent_up_elsewhere, down_of_sent_up, places_below_sent_up}
use Rattle.lawful.proofs.Numbers.{Numbers, numbers_same, numbers_started, numbers_answered_at_start, KeyOf, entry_here, entry_elsewhere}
use Rattle.lawful.proofs.Waits.{waits, Starts, begins, answers, request_starts}
use Rattle.lawful.proofs.Systems.{value_of, pending_by, pending_of, system_at, waits_at, number_at, kept_entries, line_here, line_elsewhere, value_here, value_elsewhere}
use Rattle.lawful.proofs.Invariant.{PoolInv}
use Rattle.lawful.proofs.ZoneSteps.{line_at, pending_at, others_as_before, here_waits, here_number, pending_here, pending_elsewhere, each_place, up_kinds_lem}

-- ── onlookers that know the same ──

pub record SameKnowledge (o o' : Onlooker) : Type 0 where
  pub values_same : (k : List ℕ) → o'.values k ≡ o.values k
  pub entries_same : (n : ℕ) → o'.entries n ≡ o.entries n
  pub next_same : o'.next ≡ o.next

pub inv_onlooker : (m : Model) (ks : List (List ℕ)) (o o' : Onlooker) → SameKnowledge o o' → PoolInv m ks o → PoolInv m ks o'
inv_onlooker m ks o o' e inv =
    record {
      sixteen = inv.sixteen;
      many_slots = inv.many_slots;
      many_rows = inv.many_rows;
      in_range = inv.in_range;
      coherent = λ p hp. inv_same (system_at m ks o p) (system_at m ks o' p)
          (record {
            central_same = value (key_at ks p);
            dir_same = refl;
            up_same = λ y. refl;
            down_same = λ y. refl;
            line_same = λ y. refl;
            pending_same = λ y. kept_entries m.slots o.entries o'.entries p y e.entries_same;
          })
          (inv.coherent p hp);
      keys_apart = inv.keys_apart;
      unknown_empty = λ k h. e.values_same k ∙ inv.unknown_empty k h;
      same_next = e.next_same ∙ inv.same_next;
      numbers = numbers_same inv.numbers (waits_at m.slots) (number_at m.slots) o'.entries (λ y q hy hq. (refl, refl))
          (λ n k h. subst (λ (x : Entry). KeyOf x k) (sym (e.entries_same n)) h) (λ n h. subst Outstanding (e.entries_same n) h) (λ n h. e.entries_same n);
    }
  where
    value : (k : Option (List ℕ)) → value_of o'.values k ≡ value_of o.values k
    value None = refl
    value (Some k) = e.values_same k

-- ── keys with one added ──

-- the keys ks' are ks with key at p
pub record Placed (ks ks' : List (List ℕ)) (key : List ℕ) (p : ℕ) : Type 0 where
  pub here : key_at ks' p ≡ Some key
  pub elsewhere : (q : ℕ) → eqb q p ≡ false → key_at ks' q ≡ key_at ks q
  pub more : (q : ℕ) (k : List ℕ) → key_at ks q ≡ Some k → key_at ks' q ≡ Some k
  pub apart : Apart (λ k. k) ks'
  -- a key that is not among ks' is not among ks, and is another
  pub unknown : (k : List ℕ) → place_of (λ k. k) ks' k ≡ None → (place_of (λ k. k) ks k ≡ None) × (k ≡ key → ⊥)

placed_more : (ks ks' : List (List ℕ)) (key : List ℕ) (p : ℕ) → key_at ks' p ≡ Some key → ((q : ℕ) → eqb q p ≡ false → key_at ks' q ≡ key_at ks q) → ((k : List ℕ) → key_at ks p ≡ Some k → k ≡ key) →
    (q : ℕ) (k : List ℕ) → key_at ks q ≡ Some k → key_at ks' q ≡ Some k
placed_more ks ks' key p here else own q k h = go (eqb q p) refl
  where
    go : (b : Bool) → eqb q p ≡ b → key_at ks' q ≡ Some k
    go false e = else q e ∙ h
    go true e =
        let f = eqb-true q p e in
        ap (key_at ks') f ∙ here ∙ ap (λ (x : List ℕ). Some x) (sym (own k (ap (key_at ks) (sym f) ∙ h)))

some_inj : {A : Type 0} {a b : A} → Some a ≡ Some b → a ≡ b
some_inj e = cc

unknown_still : (ks ks' : List (List ℕ)) → Apart (λ k. k) ks' → ((q : ℕ) (k : List ℕ) → key_at ks q ≡ Some k → key_at ks' q ≡ Some k) → (k : List ℕ) → place_of (λ k. k) ks' k ≡ None → place_of (λ k. k) ks k ≡ None
unknown_still ks ks' apart more k h = go (place_of (λ k. k) ks k) refl
  where
    go : (o : Option ℕ) → place_of (λ k. k) ks k ≡ o → o ≡ None
    go None e = refl
    go (Some q) e = absurd (unknown_is_nowhere ks' k h q (more q k (place_is_at ks k q e)))

pub placed : (ks : List (List ℕ)) (size : ℕ) (key : List ℕ) (p : ℕ) → Apart (λ k. k) ks → Given ks size key p → Placed ks (keys_after (λ k. k) ks size key) key p
placed ks size key p apart (known at_p same) =
    rw same
    (record {
      here = place_is_at ks key p at_p;
      elsewhere = λ q n. refl;
      more = λ q k h. h;
      apart = apart;
      unknown = λ k h. (h, λ e. unknown_is_nowhere ks k h p (place_is_at ks key p at_p ∙ ap (λ (x : List ℕ). Some x) (sym e)));
    })
placed ks size key p apart (next none last pushed) =
    let a : Apart (λ k. k) (ks ++ key ∷ []) = subst (Apart (λ k. k)) pushed (apart_after ks size key apart) in
    let here : key_at (ks ++ key ∷ []) p ≡ Some key = key_at_push_last ks key p last in
    let else : (q : ℕ) → eqb q p ≡ false → key_at (ks ++ key ∷ []) q ≡ key_at ks q = λ q n. key_at_push_before ks key q (λ e. eqb-false q p n (e ∙ sym last)) in
    let m = placed_more ks (ks ++ key ∷ []) key p here else (λ k h. absurd (beyond k h)) in
    rw pushed
    (record {
      here = here;
      elsewhere = else;
      more = m;
      apart = a;
      unknown = λ k h. (unknown_still ks (ks ++ key ∷ []) a m k h, λ e. unknown_is_nowhere (ks ++ key ∷ []) k h p (here ∙ ap (λ (x : List ℕ). Some x) (sym e)));
    })
  where
    beyond : (k : List ℕ) → key_at ks p ≡ Some k → ⊥
    beyond k h = let b = at_within ks k p h in let e = last in omega arith

-- ── the two ends of a start ──

module _ (m : Model) (ks ks' : List (List ℕ)) (o : Onlooker) (inv : PoolInv m ks o) (key : List ℕ) (p : ℕ) (pl : Placed ks ks' key p) (own : value_of o.values (key_at ks p) ≡ o.values key)
    (z : ℕ) (hz : z < 8) (hp : p < 32) (r : Request) (sent : Option UpKind) (l : State) where
  abbrev new_slot : Slot
  new_slot = slot l m.next

  abbrev before : System
  before = system_at m ks o p

  started_line : (a : Option Answer) → requested (state_at m z p) r ≡ moved sent a l → Inv (after_request before z r sent a l)
  started_line a e = request_keeps before z r sent a l (lt-ltb z 8 hz) (ap (λ (s : State). requested s r) (line_at m.slots p z hz) ∙ e) (inv.coherent p hp)

  -- the number given is new to every waiting line
  fresh_number : (e : Entry) (y q : ℕ) → y < 8 → q < 32 → waits_at m.slots y q ≡ true → with_entry o.entries m.next e (number_at m.slots y q) ≡ o.entries (number_at m.slots y q)
  fresh_number e y q hy hq v =
      let b = inv.numbers.below y q hy hq v in
      entry_elsewhere o.entries m.next (number_at m.slots y q) e (λ (i : number_at m.slots y q ≡ m.next). omega arith)

  module _ (a : Option Answer) where
    abbrev started : Model
    started = started_model m z p sent a l

    up_after : (y : ℕ) → up_of started.lanes p y ≡ cond (eqb y z) (up_of m.lanes p z ++ steps.sent_up sent) (up_of m.lanes p y)
    up_after y =
        up_of_sent_up_here m.lanes z p sent inv.sixteen hz y
        ∙ ap (λ (x : List Kind). cond (eqb y z) (up_of m.lanes p z ++ x) (up_of m.lanes p y)) (up_kinds_lem sent)

    -- every place, once the central value and the pending requests are known
    start_keeps : (o' : Onlooker) → o'.next ≡ m.next + 1 →
        requested (state_at m z p) r ≡ moved sent a l →
        value_of o'.values (key_at ks' p) ≡ central_at_start a r (value_of o.values (key_at ks p)) →
        ((q : ℕ) → eqb q p ≡ false → value_of o'.values (key_at ks q) ≡ value_of o.values (key_at ks q)) →
        ((y : ℕ) → pending_of started.slots o'.entries p y ≡ cond (eqb y z) (pending_at_start a r (pending_of m.slots o.entries p z)) (pending_of m.slots o.entries p y)) →
        ((q : ℕ) → q < 32 → eqb q p ≡ false → (y : ℕ) → pending_of started.slots o'.entries q y ≡ pending_of m.slots o.entries q y) →
        ((k : List ℕ) → place_of (λ k. k) ks' k ≡ None → o'.values k ≡ None) →
        Numbers (waits_at started.slots) (number_at started.slots) o'.entries (m.next + 1) (key_at ks') →
        PoolInv started ks' o'
    start_keeps o' nx e here else pend pend-else unknown nums =
        record {
          sixteen = length_sent_up m.lanes z p sent ∙ inv.sixteen;
          many_slots = simp length-set inv.many_slots;
          many_rows = inv.many_rows;
          in_range = places_below_sent_up m.lanes z p sent hp inv.in_range;
          coherent = each_place (λ q. Inv (system_at started ks' o' q)) p
              (inv_same (after_request before z r sent a l) (system_at started ks' o' p)
              (record {
                central_same = here;
                dir_same = refl;
                up_same = up_after;
                down_same = λ y. down_of_sent_up m.lanes z p sent inv.sixteen hz p y;
                line_same = line_here m.slots z p new_slot inv.many_slots hz hp (lt-ltb z 8 hz);
                pending_same = pend;
              })
              (started_line a e))
              (λ q hq n. inv_same (system_at m ks o q) (system_at started ks' o' q)
              (record {
                central_same = ap (value_of o'.values) (pl.elsewhere q n) ∙ else q n;
                dir_same = refl;
                up_same = λ y. up_of_sent_up_elsewhere m.lanes z p sent inv.sixteen hz q y n;
                down_same = λ y. down_of_sent_up m.lanes z p sent inv.sixteen hz q y;
                line_same = λ y. line_elsewhere m.slots z p new_slot inv.many_slots hz hp q y hq n;
                pending_same = pend-else q hq n;
              })
              (inv.coherent q hq));
          keys_apart = pl.apart;
          unknown_empty = unknown;
          same_next = nx;
          numbers = nums;
        }

  -- the request is sent to the directory
  abbrev awaiting : Onlooker
  awaiting = record { values = o.values; entries = with_entry o.entries m.next (accepted key r); next = o.next + 1 }

  pub start_step : requested (state_at m z p) r ≡ moved sent None l → PoolInv (started_model m z p sent None l) ks' awaiting
  start_step e =
      start_keeps None awaiting (ap (λ n. n + 1) inv.same_next) e
      (ap (value_of o.values) pl.here ∙ sym own)
      (λ q n. refl)
      (pending_here m.slots z p new_slot inv.many_slots hz hp o.entries awaiting.entries (one.accepted r)
      (ap (λ (b : Bool). pending_by b (awaiting.entries m.next)) begun.1 ∙ ap (pending_by true) (entry_here o.entries m.next (accepted key r)))
      (λ y hy n v. fresh_number (accepted key r) y p hy hp v))
      (λ q hq n. pending_elsewhere m.slots z p new_slot inv.many_slots hz hp o.entries awaiting.entries q hq n (λ y hy v. fresh_number (accepted key r) y q hy hq v))
      (λ k h. inv.unknown_empty k (pl.unknown k h).0)
      (numbers_started inv.numbers (waits_at slots') (number_at slots') z p hz hp (others_as_before m.slots z p new_slot inv.many_slots hz hp) begun.0 (key_at ks') pl.more key r
      (here_waits m.slots z p new_slot inv.many_slots hz hp ∙ begun.1) (here_number m.slots z p new_slot inv.many_slots hz hp) pl.here)
    where
      slots' : List Slot
      slots' = (started_model m z p sent None l).slots

      begun : (waits (state_at m z p) ≡ false) × (waits l ≡ true)
      begun = go (subst (Starts (state_at m z p)) e (request_starts (state_at m z p) r))
        where
          go : Starts (state_at m z p) (moved sent None l) → (waits (state_at m z p) ≡ false) × (waits l ≡ true)
          go (begins h k) = (h, k)

  -- the request is answered in its start
  abbrev served : Onlooker
  served = record { values = with_value o.values key (central.left r (o.values key)); entries = with_entry o.entries m.next answered; next = o.next + 1 }

  module _ (a : Answer) (e : requested (state_at m z p) r ≡ moved sent (Some a) l) where
    pub own_answer : a ≡ central.answered r (o.values key)
    own_answer =
        (safe before (inv.coherent p hp)).answer_at_start_is_central z r sent a l (ap (λ (s : State). requested s r) (line_at m.slots p z hz) ∙ e)
        ∙ ap (central.answered r) own

    pub start_answer_step : PoolInv (started_model m z p sent (Some a) l) ks' served
    start_answer_step =
        start_keeps (Some a) served (ap (λ n. n + 1) inv.same_next) e
        (ap (value_of served.values) pl.here ∙ value_here o.values key (central.left r (o.values key)) ∙ ap (central.left r) (sym own))
        (λ q n. value_elsewhere o.values key (central.left r (o.values key)) (key_at ks q) (λ h. apart_place q n h))
        (pending_here m.slots z p new_slot inv.many_slots hz hp o.entries served.entries (pending_of m.slots o.entries p z)
        (ap (λ (b : Bool). pending_by b (served.entries m.next)) ended.1
        ∙ sym (pending_at m.slots o.entries p z hz ∙ ap (λ (b : Bool). pending_by b (o.entries (slot_at m z p).number)) ended.0))
        (λ y hy n v. fresh_number answered y p hy hp v))
        (λ q hq n. pending_elsewhere m.slots z p new_slot inv.many_slots hz hp o.entries served.entries q hq n (λ y hy v. fresh_number answered y q hy hq v))
        (λ k h. value_elsewhere o.values key (central.left r (o.values key)) (Some k) (λ i. (pl.unknown k h).1 (some_inj i)) ∙ inv.unknown_empty k (pl.unknown k h).0)
        (numbers_answered_at_start inv.numbers (waits_at slots') (number_at slots') z p hz hp (others_as_before m.slots z p new_slot inv.many_slots hz hp) ended.0 (key_at ks') pl.more
        (here_waits m.slots z p new_slot inv.many_slots hz hp ∙ ended.1))
      where
        slots' : List Slot
        slots' = (started_model m z p sent (Some a) l).slots

        ended : (waits (state_at m z p) ≡ false) × (waits l ≡ false)
        ended = go (subst (Starts (state_at m z p)) e (request_starts (state_at m z p) r))
          where
            go : Starts (state_at m z p) (moved sent (Some a) l) → (waits (state_at m z p) ≡ false) × (waits l ≡ false)
            go (answers h k) = (h, k)

        -- a key has one place
        apart_place : (q : ℕ) → eqb q p ≡ false → key_at ks q ≡ Some key → ⊥
        apart_place q n h =
            let i = at_is_place ks' key q pl.apart (pl.more q key h) in
            let j = at_is_place ks' key p pl.apart pl.here in
            eqb-false q p n (some_inj (sym i ∙ j))

-- Loading ties the register's keys to what is loaded at their places.
use Rattle.std.proofs.Common.{◌≡◌, ℕ, ◌+◌, ◌*◌, ◌<◌, ◌≤◌, Bool, true, false, cond, ltb, ◌≢◌, List, [], ◌∷◌, map, length, IfOk, Some, None, Ok, Err, Option, Result, sym, refl, ap, ◌∙◌, subst, ⊎_elim, arith}
use Rattle.std.specs.Str.{bytes_eq}
use Rattle.std.proofs.lemmas.List.{length-set, length_push, get_or-set_same, get_or-set_other, get_or_past}
use Rattle.std.proofs.lemmas.Bool.{cases_lt, ltb-true}
use Rattle.messages.specs.declared.assignments.Assignment.{Assignment}
use Rattle.messages.specs.Refusals.{Facts}
use Rattle.line.specs.declared.states.State.{State}
use Rattle.line.specs.declared.states.State.TheVariants.{Exclusive}
use Rattle.directory.specs.Directory.{Directory, directory}
use Rattle.keys.specs.Places.{place_of, place_given, keys_after, key_at}
use Rattle.keys.specs.Promises.{Apart, PlacesStay}
use Rattle.keys.proofs.Promises.{places_stay, apart_none}
use Rattle.keys.proofs.ByMeaning.{given_by_meaning, after_by_meaning}
use Rattle.lawful.proofs.Keys.{same_key, other_key, at_within, place_is_at, at_is_place, unknown_is_nowhere, Given, known, next, given, apart_after, key_at_push_last, key_at_push_before}
use Rattle.rules.specs.declared.plan.Plan.{Plan}
use Rattle.calls.specs.declared.slots.Slot.{Slot}
use Rattle.calls.specs.declared.stock.Stock.{Stock}
use Rattle.calls.specs.declared.faults.Fault.{Fault}
use Rattle.calls.specs.Faults.{about_zone, seen}
use Rattle.calls.specs.Model.{Model, slot, blank_slot, state_at, row_at, fresh_row}
use Rattle.calls.specs.Onlookers.{with_value}
use Rattle.calls.specs.Opening.{loaded_value, TiedTo}
use Rattle.pool.specs.Stocks.{unloaded, loaded_with, load_free, load_in, load_place, LoadOutcome, load_done, load_all, then_load, held_by, load_by, loads_in, stocked_from}
use Rattle.pool.specs.Laws.{Tied}
use Rattle.pool.proofs.Places.{replicate_each}

-- a pool of a plan, with the keys in use and the values of the stock so far
pub record Stocked (plan : Plan) (m : Model) (ks : List (List ℕ)) (values : List ℕ → Option Assignment) : Type 0 where
  pub planned : m.plan ≡ plan
  pub many_slots : length m.slots ≡ 256
  pub many_rows : length m.rows ≡ 32
  pub tied : TiedTo ks (loads_in m) values

nothing_there : (plan : Plan) (place : ℕ) → loads_in (unloaded plan) place ≡ None
nothing_there plan place = replicate_each (λ (d : Directory). load_by (λ zone. state_at (unloaded plan) zone place) d.list ≡ None) 32 fresh_row fresh_row refl refl place

pub unstocked : (plan : Plan) → Stocked plan (unloaded plan) [] (λ key. None)
unstocked plan =
    record {
      planned = refl;
      many_slots = refl;
      many_rows = refl;
      tied = record {
        apart = apart_none (λ k. k);
        known = λ key place e. (let z : ◌≡◌ {A = ℕ} 0 1 = cc in absurd (omega arith));
        unknown = λ key e. refl;
        unused_empty = λ place h. nothing_there plan place;
      };
    }

-- ── what one load leaves at each place ──

load_by_same : (states states' : ℕ → State) (list : List ℕ) → ((z : ℕ) → states' z ≡ states z) → load_by states' list ≡ load_by states list
load_by_same states states' [] h = refl
load_by_same states states' (z ∷ zs) h = ap (held_by z) (h z)

module _ (m : Model) (zone place : ℕ) (a : Assignment) (many_slots : length m.slots ≡ 256) (many_rows : length m.rows ≡ 32) (zone_below : zone < 8) (place_below : place < 32) where
  abbrev after : Model
  after = loaded_with m zone a place

  loads_here : loads_in after place ≡ Some (zone, a)
  loads_here =
      ap (λ (d : Directory). load_by (λ z. state_at after z place) d.list) (get_or-set_same m.rows place (directory (zone ∷ []) [] None) fresh_row (omega arith))
      ∙ ap (λ (s : Slot). held_by zone s.line.state) (get_or-set_same m.slots (zone * 32 + place) (slot (Exclusive a) 0) blank_slot (omega arith))

  states_same : (q : ℕ) → q < 32 → (q ≡ place → ⊥) → (z : ℕ) → state_at after z q ≡ state_at m z q
  states_same q below ne z =
      let apart : z * 32 + q ≢ zone * 32 + place = omega arith in
      ap (λ (s : Slot). s.line.state) (get_or-set_other m.slots (zone * 32 + place) (z * 32 + q) (slot (Exclusive a) 0) blank_slot apart)

  loads_elsewhere : (q : ℕ) → (q ≡ place → ⊥) → loads_in after q ≡ loads_in m q
  loads_elsewhere q ne =
      ap (λ (d : Directory). load_by (λ z. state_at after z q) d.list) (get_or-set_other m.rows place q (directory (zone ∷ []) [] None) fresh_row ne)
      ∙ ⊎_elim
      (λ (below : q < 32). load_by_same (λ z. state_at m z q) (λ z. state_at after z q) (row_at m q).list (states_same q below ne))
      (λ (past : 32 ≤ q).
      let fresh : row_at m q ≡ fresh_row = get_or_past m.rows q fresh_row (omega arith) in
      ap (λ (d : Directory). load_by (λ z. state_at after z q) d.list) fresh ∙ sym (ap (λ (d : Directory). load_by (λ z. state_at m z q) d.list) fresh))
      (cases_lt q 32)

-- ── one load keeps the tie ──

key_there : (ks : List (List ℕ)) (size : ℕ) (key : List ℕ) (p : ℕ) → Given ks size key p → key_at (keys_after (λ k. k) ks size key) p ≡ Some key
key_there ks size key p (known e same) = ap (λ (xs : List (List ℕ)). key_at xs p) same ∙ place_is_at ks key p e
key_there ks size key p (next e is more) = ap (λ (xs : List (List ℕ)). key_at xs p) more ∙ key_at_push_last ks key p is

keys_elsewhere : (ks : List (List ℕ)) (size : ℕ) (key : List ℕ) (p q : ℕ) → Given ks size key p → (q ≡ p → ⊥) → key_at (keys_after (λ k. k) ks size key) q ≡ key_at ks q
keys_elsewhere ks size key p q (known e same) ne = ap (λ (xs : List (List ℕ)). key_at xs q) same
keys_elsewhere ks size key p q (next e is more) ne = ap (λ (xs : List (List ℕ)). key_at xs q) more ∙ key_at_push_before ks key q (λ w. ne (w ∙ sym is))

more_keys : (ks : List (List ℕ)) (size : ℕ) (key : List ℕ) (p : ℕ) → Given ks size key p → length ks ≤ length (keys_after (λ k. k) ks size key)
more_keys ks size key p (known e same) = omega (arith, ap length same)
more_keys ks size key p (next e is more) = omega (arith, ap length more, length_push ks key)

module _ (plan : Plan) (m : Model) (ks : List (List ℕ)) (values : List ℕ → Option Assignment) (s : Stocked plan m ks values)
    (zone place size : ℕ) (key : List ℕ) (a : Assignment) (zone_below : zone < 8) (place_below : place < 32) (g : Given ks size key place) where
  abbrev m' : Model
  m' = loaded_with m zone a place

  abbrev ks' : List (List ℕ)
  ks' = keys_after (λ k. k) ks size key

  abbrev values' : List ℕ → Option Assignment
  values' = with_value values key (Some a)

  apart' : Apart (λ k. k) ks'
  apart' = apart_after ks size key s.tied.apart

  here : loads_in m' place ≡ Some (zone, a)
  here = loads_here m zone place a s.many_slots s.many_rows zone_below place_below

  elsewhere : (q : ℕ) → (q ≡ place → ⊥) → loads_in m' q ≡ loads_in m q
  elsewhere = loads_elsewhere m zone place a s.many_slots s.many_rows zone_below place_below

  -- the key that was loaded is at its place, and no other is
  at_place : (k : List ℕ) (q : ℕ) → key_at ks' q ≡ Some k → bytes_eq k key ≡ true → q ≡ place
  at_place k q at same =
      let here = at_is_place ks' key place apart' (key_there ks size key place g) in
      let there = at_is_place ks' key q apart' (at ∙ ap (λ (x : List ℕ). Some x) (same_key k key same)) in
      cc

  known_here : (k : List ℕ) (q : ℕ) → place_of (λ k. k) ks' k ≡ Some q → (b : Bool) → bytes_eq k key ≡ b → cond b (Some a) (values k) ≡ loaded_value (loads_in m' q)
  known_here k q e true same =
      sym (ap (λ (n : ℕ). loaded_value (loads_in m' n)) (at_place k q (place_is_at ks' k q e) same) ∙ ap loaded_value here)
  known_here k q e false other =
      let ne : q ≡ place → ⊥ = λ w.
      let one : ◌≡◌ {A = Option (List ℕ)} (Some k) (Some key) = sym (place_is_at ks' k q e) ∙ ap (λ (n : ℕ). key_at ks' n) w ∙ key_there ks size key place g in
      other_key k key other cc in
      let old : place_of (λ k. k) ks k ≡ Some q = at_is_place ks k q s.tied.apart (sym (keys_elsewhere ks size key place q g ne) ∙ place_is_at ks' k q e) in
      s.tied.known k q old ∙ ap loaded_value (sym (elsewhere q ne))

  not_known : (k : List ℕ) → place_of (λ k. k) ks' k ≡ None → (o : Option ℕ) → place_of (λ k. k) ks k ≡ o → place_of (λ k. k) ks k ≡ None
  unfolding PlacesStay
  not_known k e None is = is
  not_known k e (Some q) is = let both : Some q ≡ None = sym (places_stay (λ k. k) ks size key k q is) ∙ e in cc

  unknown_here : (k : List ℕ) → place_of (λ k. k) ks' k ≡ None → (b : Bool) → bytes_eq k key ≡ b → cond b (Some a) (values k) ≡ None
  unknown_here k e true same =
      absurd (unknown_is_nowhere ks' k e place (key_there ks size key place g ∙ ap (λ (x : List ℕ). Some x) (sym (same_key k key same))))
  unknown_here k e false other = s.tied.unknown k (not_known k e (place_of (λ k. k) ks k) refl)

  pub load_keeps : Stocked plan m' ks' values'
  load_keeps =
      record {
        planned = s.planned;
        many_slots = length-set m.slots (zone * 32 + place) (slot (Exclusive a) 0) ∙ s.many_slots;
        many_rows = length-set m.rows place (directory (zone ∷ []) [] None) ∙ s.many_rows;
        tied = record {
          apart = apart';
          known = λ k q e. known_here k q e (bytes_eq k key) refl;
          unknown = λ k e. unknown_here k e (bytes_eq k key) refl;
          unused_empty = λ q h.
              let within : place < length ks' = at_within ks' key place (key_there ks size key place g) in
              let ne : q ≡ place → ⊥ = λ w. h (omega arith) in
              elsewhere q ne ∙ s.tied.unused_empty q (λ l. h (omega (arith, more_keys ks size key place g)));
        };
      }

-- ── the whole stock ──

-- what an accepted load says of its zone and its place
record Accepted (m : Model) (zone : ℕ) (o : Option ℕ) (place : ℕ) : Type 0 where
  zone_ok : zone < m.plan.zones
  place_ok : place < m.plan.places
  place_is : o ≡ Some place

free_is : (zone place p : ℕ) (list : List ℕ) → load_free zone place list ≡ Ok p → place ≡ p
free_is zone place p [] e = cc
free_is zone place p (z ∷ zs) e = cc

accepted_in : (m : Model) (zone : ℕ) (o : Option ℕ) (p : ℕ) (zone_ok : zone < m.plan.zones) → load_in m zone o ≡ Ok p → Accepted m zone o p
accepted_in m zone None p zone_ok e = cc
accepted_in m zone (Some place) p zone_ok e = go (ltb place m.plan.places) refl e
  where
    go : (b : Bool) → ltb place m.plan.places ≡ b → cond b (load_free zone place (row_at m place).list) (Err (about_zone 8 zone)) ≡ Ok p → Accepted m zone (Some place) p
    go true t e =
        let is : place ≡ p = free_is zone place p (row_at m place).list e in
        record { zone_ok = zone_ok; place_ok = omega (arith, ltb-true place m.plan.places t); place_is = ap (λ (n : ℕ). Some n) is }
    go false t e = cc

accepted : (m : Model) (zone : ℕ) (o : Option ℕ) (p : ℕ) → load_place m zone o ≡ Ok p → Accepted m zone o p
accepted m zone o p e = go (ltb zone m.plan.zones) refl e
  where
    go : (b : Bool) → ltb zone m.plan.zones ≡ b → cond b (load_in m zone o) (Err (about_zone 6 zone)) ≡ Ok p → Accepted m zone o p
    go true t e = accepted_in m zone o p (ltb-true zone m.plan.zones t) e
    go false t e = cc

module _ {K : Type 0} (meaning : K → List ℕ) (size : ℕ) (plan : Plan) where
  abbrev pub StockedIn : LoadOutcome K → (List ℕ → Option Assignment) → Type 0
  StockedIn (Ok u, m, ks) values = Stocked plan m (map meaning ks) values
  StockedIn (Err f, m, ks) values = Unit {0}

  -- one load, accepted or not, and then the rest of the stock
  stocked_more : (x : Stock K) (xs : List (Stock K)) (m : Model) (ks : List K) (values : List ℕ → Option Assignment) → Stocked plan m (map meaning ks) values
      → ((m' : Model) (ks' : List K) (values' : List ℕ → Option Assignment) → Stocked plan m' (map meaning ks') values' → StockedIn (load_all meaning size m' ks' xs) (stocked_from meaning values' xs))
      → (r : Result ℕ Facts) → load_place m x.zone (place_given meaning ks size x.key) ≡ r
      → StockedIn (then_load (load_done m x.zone x.assignment ks (keys_after meaning ks size x.key) r) (λ n ls. load_all meaning size n ls xs)) (stocked_from meaning (with_value values (meaning x.key) (Some x.assignment)) xs)
  stocked_more x xs m ks values s rest (Ok p) e =
      let ok = accepted m x.zone (place_given meaning ks size x.key) p e in
      let zone_below : x.zone < 8 = omega (arith, ok.zone_ok, m.plan.zones_range.1) in
      let place_below : p < 32 = omega (arith, ok.place_ok, m.plan.places_range.1) in
      let there = given (map meaning ks) size (meaning x.key) p (sym (given_by_meaning meaning x.key size ks) ∙ ok.place_is) in
      let kept = load_keeps plan m (map meaning ks) values s x.zone p size (meaning x.key) x.assignment zone_below place_below there in
      let values' = with_value values (meaning x.key) (Some x.assignment) in
      rest (loaded_with m x.zone x.assignment p) (keys_after meaning ks size x.key) values'
      (subst (λ (ws : List (List ℕ)). Stocked plan (loaded_with m x.zone x.assignment p) ws values') (sym (after_by_meaning meaning x.key size ks)) kept)
  stocked_more x xs m ks values s rest (Err f) e = tt

  pub stocked_all : (xs : List (Stock K)) (m : Model) (ks : List K) (values : List ℕ → Option Assignment) → Stocked plan m (map meaning ks) values → StockedIn (load_all meaning size m ks xs) (stocked_from meaning values xs)
  stocked_all [] m ks values s = s
  stocked_all (x ∷ xs) m ks values s =
      stocked_more x xs m ks values s (λ m' ks' values' s'. stocked_all xs m' ks' values' s') (load_place m x.zone (place_given meaning ks size x.key)) refl

  -- an accepted stock is tied, with whatever was tied before it
  pub tied_after : (xs : List (Stock K)) (m m' : Model) (ks ks' : List K) (r : Result (Unit {0}) Fault) → (seen r, m', ks') ≡ load_all meaning size m ks xs
      → m.plan ≡ plan → length m.slots ≡ 256 → length m.rows ≡ 32
      → (values : List ℕ → Option Assignment) → Tied meaning m ks values → IfOk r (λ _. Tied meaning m' ks' (stocked_from meaning values xs))
  tied_after xs m m' ks ks' (Ok u) e planned slots rows values tied =
      let s : Stocked plan m (map meaning ks) values = record { planned = planned; many_slots = slots; many_rows = rows; tied = tied } in
      let after : Stocked plan m' (map meaning ks') (stocked_from meaning values xs) = subst (λ (o : LoadOutcome K). StockedIn o (stocked_from meaning values xs)) (sym e) (stocked_all xs m ks values s) in
      after.tied
  tied_after xs m _ ks _ (Err f) e planned slots rows values tied = tt

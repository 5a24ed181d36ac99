-- A ring's list under a push and a pop, one message of it, and what the room of all rings comes to, at every depth.
use Rattle.std.proofs.Common.{◌≡◌, ℕ, zero, suc, ◌+◌, ◌-◌, ◌*◌, ◌%◌, ◌<◌, ◌≤◌, ltb, ◌≢◌, Bool, true, false, not, ◌&&◌, leb, List, [], ◌∷◌, ◌++◌, map, length, get_or, drop, set, Some, None, sym, refl, ap, ◌∙◌, ⊎_elim, arith}
use Rattle.std.specs.List.{range_with_len, zip, list_any}
use Rattle.std.proofs.lemmas.List.{same_lists, get_or-set_same, get_or-set_other, get_or-map, get_or_default, length-map, drop_more, drop_all}
use Rattle.std.proofs.lemmas.List.Folds.{list_any_at, list_any_none}
use Rattle.std.proofs.lemmas.List.FromFn.{length-map-range_with_len, get_or-map-range_with_len, map-range_with_len_more}
use Rattle.std.proofs.lemmas.Slice.Zip.{get_or-zip, length-zip}
use Rattle.std.proofs.lemmas.Bool.{cases_lt, cond-true, cond-false, false≢true, le-leb, le-ltb, lt-leb, lt-ltb}
use Rattle.std.proofs.lemmas.Nat.{mod-mul-add}
use Rattle.std.proofs.lemmas.Bool.Decides.{nat_tests, same_from_decides}
use Rattle.messages.specs.declared.kinds.Message.{Message}
use Rattle.transport.specs.declared.ring.Ring.{Ring}
use Rattle.transport.specs.Lanes.{Marks, lane_at, oldest_of}
use Rattle.transport.specs.Ring.{ring_items, ring_list, slot_at, around, blank}
use Rattle.transport.specs.Room.{rings_room}
use Rattle.transport.specs.RingRoom.{Free, lane_read, room_tells}

pub length_ring : (depth : ℕ) (slots : List Message) (h n : ℕ) → length (ring_list depth slots h n) ≡ n
unfolding ring_list
length_ring depth slots h n = length-map-range_with_len (slot_at depth slots h) 0 n

-- two counted lists with equal elements
same_counted : (f g : ℕ → Message) (a b n : ℕ) → ((k : ℕ) → k < n → f (a + k) ≡ g (b + k)) → map f (range_with_len a n) ≡ map g (range_with_len b n)
same_counted f g a b n same =
    let lf : length (map f (range_with_len a n)) ≡ n = length-map-range_with_len f a n in
    same_lists _ _ (lf ∙ sym (length-map-range_with_len g b n))
    (λ k d h. let l : k < n = omega arith in get_or-map-range_with_len f a n k (a + k) d l refl ∙ same k l ∙ sym (get_or-map-range_with_len g b n k (b + k) d l refl))

-- slots less than a whole round apart differ
apart : (depth h k n : ℕ) → h < depth → k < n → n < depth → around depth (h + (0 + k)) ≢ around depth (h + n)
apart depth h k n small less few = grind (arith, nat_tests)

inside : (depth h n : ℕ) → h < depth → n < depth → around depth (h + n) < depth
inside depth h n small few = grind (arith, nat_tests)

pub ring_pushed : (depth : ℕ) (slots : List Message) (h n : ℕ) (m : Message) → length slots ≡ depth → h < depth → n < depth
    → ring_list depth (set slots (around depth (h + n)) m) h (n + 1) ≡ ring_list depth slots h n ++ m ∷ []
unfolding ring_list
ring_pushed depth slots h n m long small few =
    let at : ℕ = around depth (h + n) in
    let f : ℕ → Message = slot_at depth (set slots at m) h in
    let within : at < length slots = omega (arith, inside depth h n small few) in
    let old : map f (range_with_len 0 n) ≡ map (slot_at depth slots h) (range_with_len 0 n) = same_counted f (slot_at depth slots h) 0 0 n
    (λ k l. get_or-set_other slots at (around depth (h + (0 + k))) m blank (apart depth h k n small l few)) in
    map-range_with_len_more f 0 n n (omega arith) ∙ ap (λ (xs : List Message). xs ++ f n ∷ []) old
    ∙ ap (λ (x : Message). map (slot_at depth slots h) (range_with_len 0 n) ++ x ∷ []) (get_or-set_same slots at m blank within)

pub ring_none : (depth : ℕ) (slots : List Message) (h n : ℕ) → n ≡ 0 → ring_list depth slots h n ≡ []
unfolding ring_list
ring_none depth slots h n z = rw z refl

one_on : (depth h k n : ℕ) → h < depth → k < n - 1 → n ≤ depth → around depth (h + (0 + 1 + k)) ≡ around depth (around depth (h + 1) + (0 + k))
one_on depth h k n small less few = grind (arith, nat_tests)

at_head : (depth h : ℕ) → h < depth → around depth (h + 0) ≡ h
at_head depth h small = grind (arith, nat_tests)

pub ring_popped : (depth : ℕ) (slots : List Message) (h n : ℕ) → h < depth → 0 < n → n ≤ depth
    → ring_list depth slots h n ≡ get_or slots h blank ∷ ring_list depth slots (around depth (h + 1)) (n - 1)
unfolding ring_list
ring_popped depth slots h n small some few =
    let e : n ≡ suc (n - 1) = omega arith in
    let next : ℕ = around depth (h + 1) in
    let tail : map (slot_at depth slots h) (range_with_len (0 + 1) (n - 1)) ≡ map (slot_at depth slots next) (range_with_len 0 (n - 1)) =
    same_counted (slot_at depth slots h) (slot_at depth slots next) (0 + 1) 0 (n - 1)
    (λ k l. ap (λ (i : ℕ). get_or slots i blank) (one_on depth h k n small l few)) in
    ap (λ (x : ℕ). map (slot_at depth slots h) (range_with_len 0 x)) e
    ∙ ap (λ (i : ℕ). get_or slots i blank ∷ map (slot_at depth slots h) (range_with_len (0 + 1) (n - 1))) (at_head depth h small)
    ∙ ap (λ (xs : List Message). get_or slots h blank ∷ xs) tail

-- the message that has k older ones before it
pub ring_at : (depth : ℕ) (slots : List Message) (h n k : ℕ) → k < n → oldest_of (drop k (ring_list depth slots h n)) ≡ Some (slot_at depth slots h k)
unfolding ring_list
ring_at depth slots h n k few =
    let f : ℕ → Message = slot_at depth slots h in
    let long : length (map f (range_with_len 0 n)) ≡ n = length-map-range_with_len f 0 n in
    ap oldest_of (drop_more (map f (range_with_len 0 n)) k blank (omega arith)) ∙ ap (λ (m : Message). Some m) (get_or-map-range_with_len f 0 n k k blank few (omega arith))

pub ring_past : (depth : ℕ) (slots : List Message) (h n k : ℕ) → n ≤ k → oldest_of (drop k (ring_list depth slots h n)) ≡ None
ring_past depth slots h n k past =
    let long = length_ring depth slots h n in
    ap oldest_of (drop_all k (ring_list depth slots h n) (omega arith))

-- of a list with no oldest, and of a ring with one
pub none_oldest : (ms : List Message) → None ≡ oldest_of ms → ms ≡ []
none_oldest [] e = refl
none_oldest (m ∷ ms) e = cc

pub ring_waits : (depth : ℕ) (slots : List Message) (h n : ℕ) (m : Message) → Some m ≡ oldest_of (ring_list depth slots h n) → 0 < n
unfolding ring_list
ring_waits depth slots h zero m e = cc
ring_waits depth slots h (suc n) m e = omega arith

-- whether a lane is marked and its ring is full, and whether no lane is
abbrev pub both : Bool × Bool → Bool
both p = p.0 && p.1

abbrev pub full : {depth : ℕ} → Ring depth → Bool
full {depth} ring = leb depth (length (ring_items ring))

not_true : (b : Bool) → not b ≡ true → b ≡ false
not_true true e = absurd (false≢true e)
not_true false e = refl

one_free : (b : Bool) (depth n : ℕ) → (b ≡ true → n < depth) → (b && leb depth n) ≡ false
one_free true depth n free = lt-leb depth n (free refl)
one_free false depth n free = refl

module _ {depth : ℕ} (rings : List (Ring depth)) (marks : Marks) (was : Ring depth) (rings_all : length rings ≡ 16) (marks_all : length marks ≡ 16) where
  pairs : List (Bool × Bool)
  pairs = zip marks (map full rings)

  pairs_long : length pairs ≡ 16
  unfolding pairs
  pairs_long =
      let fulls : length (map full rings) ≡ 16 = length-map rings full ∙ rings_all in
      let long = length-zip marks (map full rings) in
      grind (arith, nat_tests)

  pair_at : (k : ℕ) (d : Bool × Bool) → k < 16 → both (get_or pairs k d) ≡ (get_or marks k false && leb depth (length (lane_at (map ring_items rings) k)))
  unfolding pairs
  pair_at k d l =
      let fulls : length (map full rings) ≡ 16 = length-map rings full ∙ rings_all in
      let read : get_or (map full rings) k d.1 ≡ leb depth (length (lane_at (map ring_items rings) k)) =
      get_or-map full rings k was d.1 (omega arith) ∙ ap (λ (ms : List Message). leb depth (length ms)) (sym (lane_read rings k was (omega arith))) in
      ap both (get_or-zip marks (map full rings) k d (omega arith) (omega arith))
      ∙ ap (λ (b : Bool). get_or marks k d.0 && b) read ∙ ap (λ (b : Bool). b && leb depth (length (lane_at (map ring_items rings) k))) (get_or_default marks k d.0 false (omega arith))

  free_of : list_any both pairs ≡ false → (k : ℕ) → k < 16 → Free depth (map ring_items rings) marks k
  free_of none k l marked = ⊎_elim
      (λ (few : length (lane_at (map ring_items rings) k) < depth). few)
      (λ (many : depth ≤ length (lane_at (map ring_items rings) k)).
      let here : both (get_or pairs k (false, false)) ≡ true = pair_at k (false, false) l ∙ ap (λ (b : Bool). b && leb depth (length (lane_at (map ring_items rings) k))) marked ∙ le-leb depth _ many in
      absurd (false≢true (sym none ∙ list_any_at both pairs k (false, false) (omega (arith, pairs_long)) here)))
      (cases_lt (length (lane_at (map ring_items rings) k)) depth)

  none_of : ((k : ℕ) → k < 16 → Free depth (map ring_items rings) marks k) → list_any both pairs ≡ false
  none_of free = list_any_none both pairs (λ k d w.
      let l : k < 16 = omega (arith, pairs_long) in
      pair_at k d l ∙ one_free (get_or marks k false) depth _ (free k l))

  none_full_at : not (list_any both pairs) ≡ rings_room depth (map ring_items rings) marks
  none_full_at = same_from_decides _ _ (
    λ e. free_of (not_true (list_any both pairs) e),
    λ free. ap not (none_of free),
  ) (room_tells depth (map ring_items rings) marks)

pub none_full : {depth : ℕ} (rings : List (Ring depth)) (marks : Marks) → length rings ≡ 16 → length marks ≡ 16 → not (list_any both (zip marks (map full rings))) ≡ rings_room depth (map ring_items rings) marks
unfolding pairs
none_full [] marks rings_all marks_all = absurd (omega arith)
none_full (ring ∷ rings) marks rings_all marks_all = none_full_at (ring ∷ rings) marks ring rings_all marks_all

-- going around once is the remainder by the depth
pub around_is : (depth n : ℕ) → n < depth + depth → n % depth ≡ around depth n
around_is depth n twice = ⊎_elim
    (λ (few : n < depth).
    let e : n ≡ 0 * depth + n = omega arith in
    ap (λ (x : ℕ). x % depth) e ∙ mod-mul-add 0 depth n few ∙ sym (cond-true (ltb n depth) n (n - depth) (lt-ltb n depth few)))
    (λ (many : depth ≤ n).
    let e : n ≡ 1 * depth + (n - depth) = omega arith in
    ap (λ (x : ℕ). x % depth) e ∙ mod-mul-add 1 depth (n - depth) (omega arith) ∙ sym (cond-false (ltb n depth) n (n - depth) (le-ltb n depth many)))
    (cases_lt n depth)

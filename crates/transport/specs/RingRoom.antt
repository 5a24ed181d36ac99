-- The rule of the rings and its laws, at every depth.
use Rattle.std.specs.Prelude.{◌≡◌, ℕ, zero, suc, ◌<◌, ◌≤◌, Bool, true, false, cond, List, [], ◌∷◌, ◌++◌, map, length, drop, set, Decides, nat_lt, slice_index_or, slice_set, refl}
use Rattle.std.proofs.Common.{sym, ap, subst, ◌∙◌, ⊎_elim, arith}
use Rattle.std.proofs.lemmas.List.{get_or-set_same, get_or-set_other, set_past, get_or_past, get_or-replicate, length-drop, length-replicate, length-map, get_or-map, map-set}
use Rattle.std.proofs.lemmas.Bool.{cases_eq, cases_lt, cases_Bool, false≢true, lt-ltb, le-ltb, ltb-true}
use Rattle.std.proofs.lemmas.Bool.Decides.{Decides-below_and, same_from_decides}
use Rattle.messages.specs.declared.kinds.Message.{Message}
use Rattle.transport.specs.declared.ring.Ring.{Ring}
use Rattle.transport.specs.declared.rings.RingBank.{RingBank}
use Rattle.transport.specs.Lanes.{Lists, Marks, no_lane, only_lane, lane_at, joined_at, removed_at, all_empty}
use Rattle.transport.specs.Ring.{ring_items, bank_lists}
use Rattle.transport.specs.Room.{Holds, PartAdmitted, RestAdmitted, TakeAdmits, EmptyAdmits, every_below, lane_free, ring_depth, made_depth, rings_room}

-- a lane of the set has room
abbrev pub Free : ℕ → Lists → Marks → ℕ → Type 0
Free depth lists s k = Holds s k → length (lane_at lists k) < depth

free_tells : (depth : ℕ) (b : Bool) (n : ℕ) → Decides (cond b (nat_lt n depth) true) (b ≡ true → n < depth)
free_tells depth true n = (λ e _. ltb-true n depth e, λ f. lt-ltb n depth (f refl))
free_tells depth false n = (λ _ e. absurd (false≢true e), λ _. refl)

pub room_tells : (depth : ℕ) (lists : Lists) (s : Marks) → Decides (rings_room depth lists s) ((k : ℕ) → k < 16 → Free depth lists s k)
unfolding rings_room
room_tells depth lists s = Decides-below_and (lane_free depth lists s) (Free depth lists s) (every_below (lane_free depth lists s))
    (λ k. free_tells depth (slice_index_or s k false) (length (lane_at lists k))) refl (λ _. refl) 16

-- a set after a lane is struck, and a lane after a take
struck : (s : Marks) (i : ℕ) → slice_index_or (slice_set s i false) i false ≡ false
struck s i = ⊎_elim (λ (l : i < length s). get_or-set_same s i false false l) (λ (l : length s ≤ i). rw (set_past s i false l) (get_or_past s i false l)) (cases_lt i (length s))

fewer : (lists : Lists) (i : ℕ) → length (lane_at (removed_at lists i) i) ≤ length (lane_at lists i)
fewer lists i = ⊎_elim
    (λ (l : i < length lists). let e = get_or-set_same lists i (drop 1 (lane_at lists i)) [] l in rw e (simp length-drop (omega arith)))
    (λ (l : length lists ≤ i). rw (set_past lists i (drop 1 (lane_at lists i)) l) (omega arith))
    (cases_lt i (length lists))

pub part_admitted : (depth : ℕ) → PartAdmitted (rings_room depth)
part_admitted depth lists s t part adm = (room_tells depth lists s).1 (λ k l h. (room_tells depth lists t).0 adm k l (part k h))

pub rest_admitted : (depth : ℕ) → RestAdmitted (rings_room depth)
rest_admitted depth lists s i m holds adm = (room_tells depth (joined_at lists i m) (slice_set s i false)).1
    (λ k l h. ⊎_elim
    (λ (e : k ≡ i). absurd (false≢true (sym (struck s i) ∙ subst (λ (x : ℕ). slice_index_or (slice_set s i false) x false ≡ true) e h)))
    (λ (ne : k ≡ i → ⊥).
    let was : Holds s k = sym (get_or-set_other s i k false false ne) ∙ h in
    rw (get_or-set_other lists i k (lane_at lists i ++ m ∷ []) [] ne) ((room_tells depth lists s).0 adm k l was))
    (cases_eq k i))

pub take_admits : (depth : ℕ) → TakeAdmits (rings_room depth)
take_admits depth lists s i adm = (room_tells depth (removed_at lists i) s).1
    (λ k l h. let was : length (lane_at lists k) < depth = (room_tells depth lists s).0 adm k l h in ⊎_elim
    (λ (e : k ≡ i). subst (λ (x : ℕ). length (lane_at lists x) < depth → length (lane_at (removed_at lists i) x) < depth) (sym e) (λ w. omega (arith, fewer lists i)) was)
    (λ (ne : k ≡ i → ⊥). rw (get_or-set_other lists i k (drop 1 (lane_at lists i)) [] ne) was)
    (cases_eq k i))

pub empty_admits : (depth : ℕ) → 0 < depth → EmptyAdmits (rings_room depth)
empty_admits depth deep s long = (room_tells depth all_empty s).1 (λ k l h. let e = get_or-replicate {A = List Message} 16 k [] [] l in rw e deep)

pub made_deep : (depth : ℕ) → 0 < made_depth depth
made_deep zero = omega arith
made_deep (suc n) = omega arith

-- a depth with a slot is as it is
pub made_is : (depth : ℕ) → 0 < depth → made_depth depth ≡ depth
made_is zero deep = absurd (omega arith)
made_is (suc n) deep = refl

pub ring_deep : 0 < ring_depth
ring_deep = omega arith

-- one lane alone
pub only_tells : (depth : ℕ) (lists : Lists) (i : ℕ) → i < 16 → rings_room depth lists (only_lane i) ≡ nat_lt (length (lane_at lists i)) depth
only_tells depth lists i small = same_from_decides _ _
    (room_tells depth lists (only_lane i)) (
      λ e k l h. ⊎_elim
          (λ (same : k ≡ i). subst (λ (x : ℕ). length (lane_at lists x) < depth) (sym same) (ltb-true (length (lane_at lists i)) depth e))
          (λ (ne : k ≡ i → ⊥). absurd (false≢true (sym (get_or-set_other no_lane i k true false ne ∙ get_or-replicate 16 k false false l) ∙ h)))
          (cases_eq k i),
      λ all. lt-ltb (length (lane_at lists i)) depth (all i small (get_or-set_same no_lane i true false (simp length-replicate (omega arith)))),
    )

pub only_full : (depth : ℕ) (lists : Lists) (i : ℕ) → i < 16 → depth ≤ length (lane_at lists i) → rings_room depth lists (only_lane i) ≡ false
only_full depth lists i small many = only_tells depth lists i small ∙ le-ltb (length (lane_at lists i)) depth many

pub only_free : (depth : ℕ) (lists : Lists) (i : ℕ) → i < 16 → length (lane_at lists i) < depth → rings_room depth lists (only_lane i) ≡ true
only_free depth lists i small few = only_tells depth lists i small ∙ lt-ltb (length (lane_at lists i)) depth few

-- the list of one lane, read and written
module _ {depth : ℕ} (rings : List (Ring depth)) (i : ℕ) (was : Ring depth) (within : i < length rings) where
  pub lane_read : lane_at (map ring_items rings) i ≡ ring_items (slice_index_or rings i was)
  lane_read = get_or-map ring_items rings i was [] within

  pub lane_pushed : (m : Message) (ring : Ring depth) → ring_items ring ≡ ring_items (slice_index_or rings i was) ++ m ∷ [] → map ring_items (slice_set rings i ring) ≡ joined_at (map ring_items rings) i m
  lane_pushed m ring pushed = map-set ring_items rings i ring
      ∙ ap (λ (xs : List Message). set (map ring_items rings) i xs) (pushed ∙ ap (λ (xs : List Message). xs ++ m ∷ []) (sym lane_read))

  pub lane_popped : (ring : Ring depth) → ring_items ring ≡ drop 1 (ring_items (slice_index_or rings i was)) → map ring_items (slice_set rings i ring) ≡ removed_at (map ring_items rings) i
  lane_popped ring popped = map-set ring_items rings i ring
      ∙ ap (λ (xs : List Message). set (map ring_items rings) i xs) (popped ∙ ap (λ (xs : List Message). drop 1 xs) (sym lane_read))

pub bank_lanes : {depth : ℕ} (bank : RingBank depth) → length (bank_lists bank) ≡ 16
bank_lanes bank = length-map bank.rings ring_items ∙ bank.sixteen

-- one lane of the set that is full
pub one_full : (depth : ℕ) (lists : Lists) (s : Marks) (k : ℕ) → k < 16 → Holds s k → depth ≤ length (lane_at lists k) → false ≡ rings_room depth lists s
one_full depth lists s k l h many = ⊎_elim
    (λ (adm : rings_room depth lists s ≡ true). absurd (let few : length (lane_at lists k) < depth = (room_tells depth lists s).0 adm k l h in omega arith))
    (λ (e : rings_room depth lists s ≡ false). sym e)
    (cases_Bool (rings_room depth lists s))

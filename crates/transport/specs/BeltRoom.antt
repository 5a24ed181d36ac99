-- The rule of the belt, and its laws.
use Rattle.std.specs.Prelude.{◌≡◌, ℕ, suc, ◌+◌, ◌<◌, ◌≤◌, Bool, true, false, cond, List, [], ◌∷◌, ◌++◌, length, get_or, drop, slice_index_or, slice_set, refl}
use Rattle.std.proofs.Common.{sym, ◌∙◌, ⊎_elim, arith}
use Rattle.std.proofs.lemmas.List.{get_or-replicate, set_past, get_or_past, length-drop, length_push}
use Rattle.std.proofs.lemmas.List.Sums.{sum_by-cons, sum_by-set, count_by-le-length}
use Rattle.std.proofs.lemmas.Bool.{cases_lt, false≢true, leb-true, le-leb, lt-leb}
use Rattle.messages.specs.declared.kinds.Message.{Message}
use Rattle.transport.specs.Lanes.{Lists, Marks, no_lane, only_lane, lane_at, joined_at, removed_at, all_empty}
use Rattle.transport.specs.Room.{Holds, PartOf, PartAdmitted, RestAdmitted, TakeAdmits, EmptyAdmits, waiting_in, set_size, belt_size, belt_room}

pub belt_admits : (lists : Lists) (s : Marks) → waiting_in lists + set_size s ≤ belt_size → belt_room lists s ≡ true
unfolding belt_room
belt_admits lists s h = le-leb (waiting_in lists + set_size s) belt_size h

pub belt_refuses : (lists : Lists) (s : Marks) → belt_size < waiting_in lists + set_size s → belt_room lists s ≡ false
unfolding belt_room
belt_refuses lists s h = lt-leb (waiting_in lists + set_size s) belt_size h

pub belt_fits : (lists : Lists) (s : Marks) → belt_room lists s ≡ true → waiting_in lists + set_size s ≤ belt_size
unfolding belt_room
belt_fits lists s e = leb-true (waiting_in lists + set_size s) belt_size e

pub size_cons : (b : Bool) (s : Marks) → set_size (b ∷ s) ≡ cond b 1 0 + set_size s
size_cons b s = sum_by-cons (λ (x : Bool). cond x 1 0) b s

first_le : (b c : Bool) → (b ≡ true → c ≡ true) → cond {A = ℕ} b 1 0 ≤ cond c 1 0
first_le true c h = rw (h refl) (omega arith)
first_le false c h = omega arith

pub size_part : (s t : Marks) → PartOf s t → set_size s ≤ set_size t
size_part [] t part = omega arith
size_part (b ∷ s) [] part =
    let h = size_part s [] (λ i e. part (suc i) e) in
    let f = first_le b false (part 0) in
    omega (arith, size_cons b s)
size_part (b ∷ s) (c ∷ t) part =
    let h = size_part s t (λ i e. part (suc i) e) in
    let f = first_le b c (part 0) in
    omega (arith, size_cons b s, size_cons c t)

-- a lane is within the set's marks
holds_within : (s : Marks) (i : ℕ) → Holds s i → i < length s
holds_within s i h = ⊎_elim (λ (l : i < length s). l) (λ (l : length s ≤ i). absurd (false≢true (sym (get_or_past s i false l) ∙ h))) (cases_lt i (length s))

size_struck : (s : Marks) (i : ℕ) → Holds s i → set_size (slice_set s i false) + 1 ≡ set_size s
size_struck s i h =
    let e = sum_by-set (λ (x : Bool). cond x 1 0) s i false false (holds_within s i h) in
    let c : cond {A = ℕ} (slice_index_or s i false) 1 0 ≡ 1 = rw h refl in
    omega arith

-- the waiting messages after one list was replaced
replaced : (lists : Lists) (i : ℕ) (l : List Message) (n : ℕ) → length l ≤ length (lane_at lists i) + n → waiting_in (slice_set lists i l) ≤ waiting_in lists + n
replaced lists i l n h = ⊎_elim
    (λ (w : i < length lists). let e = sum_by-set length lists i l [] w in omega arith)
    (λ (w : length lists ≤ i). rw (set_past lists i l w) (omega arith))
    (cases_lt i (length lists))

pub part_admitted : PartAdmitted belt_room
part_admitted lists s t part adm = belt_admits lists s (omega (arith, size_part s t part, belt_fits lists t adm))

pub rest_admitted : RestAdmitted belt_room
rest_admitted lists s i m holds adm =
    let p = replaced lists i (lane_at lists i ++ m ∷ []) 1 (omega (arith, length_push (lane_at lists i) m)) in
    belt_admits (joined_at lists i m) (slice_set s i false) (omega (arith, size_struck s i holds, belt_fits lists s adm))

pub take_admits : TakeAdmits belt_room
take_admits lists s i adm =
    let p = replaced lists i (drop 1 (lane_at lists i)) 0 (omega (arith, length-drop 1 (lane_at lists i))) in
    belt_admits (removed_at lists i) s (omega (arith, belt_fits lists s adm))

pub empty_admits : EmptyAdmits belt_room
empty_admits s long = belt_admits all_empty s (omega (arith, count_by-le-length (λ (b : Bool). b) s))

-- one lane alone
pub size_one : (i : ℕ) → i < 16 → set_size (only_lane i) ≡ 1
size_one i l =
    let e = sum_by-set (λ (x : Bool). cond x 1 0) no_lane i true false l in
    let c : get_or no_lane i false ≡ false = get_or-replicate 16 i false false l in
    let d : cond {A = ℕ} (slice_index_or no_lane i false) 1 0 ≡ 0 = rw c refl in
    omega arith

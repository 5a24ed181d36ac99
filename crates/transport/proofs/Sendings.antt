-- Sending to several zones: one turn of it under the laws of any room rule, and what each lane gets in all.
use Rattle.std.proofs.Common.{Bor, Iter, ◌≡◌, ℕ, zero, suc, ◌+◌, ◌<◌, ◌≤◌, true, false, ltb, ◌≢◌, List, [], ◌++◌, map, length, get_or, set, replicate, is_some, Some, None, Ok, Option, Result, sym, refl, ap, ◌∙◌, subst, ⊎_elim, add-one, arith}
use Rattle.std.proofs.lemmas.List.{get_or-append-add, get_or-map, get_or_past, get_or-set_other, get_or-set_same, length-set, get_or_default, append-nil}
use Rattle.std.specs.List.{range_with_len, zip}
use Rattle.std.proofs.lemmas.List.FromFn.{length-range_with_len, get_or-range_with_len}
use Rattle.std.specs.declared.iter.Zip.{Zip}
use Rattle.std.specs.declared.ops.Range.{Range}
use Rattle.std.specs.Iterator.{Yields}
use Rattle.std.specs.Iterator.Adapters.{zip_first, zip_second}
use Rattle.std.specs.Slice.Iter.{iter_rest}
use Rattle.std.proofs.iter.Yields.{fronts, nat_range_steps}
use Rattle.std.proofs.lemmas.Iterator.{zips, YieldsList-from_range, YieldsList-from_slice, YieldsList-from_zip}
use Rattle.std.proofs.lemmas.Iterator.Consumers.{YieldsList-turn}
use Rattle.std.proofs.lemmas.Slice.Zip.{get_or-zip, length-zip}
use Rattle.std.proofs.lemmas.Bool.Decides.{nat_tests}
use Rattle.std.proofs.lemmas.Bool.{cases_lt, cases_eq, false≢true, cond-true, lt-ltb}
use Rattle.messages.specs.declared.kinds.Down.{Down}
use Rattle.messages.specs.declared.kinds.Message.{Message}
use Rattle.transport.specs.declared.faults.TransportFault.{TransportFault}
use Rattle.transport.specs.declared.lanes.Lane.TheVariants as lane
use Rattle.transport.specs.Faults.{told}
use Rattle.transport.specs.Lanes.{Lists, Marks, Rule, lane_number, lane_at, joined_at, put_answer, put_lists}
use Rattle.transport.specs.Room.{Holds, PartAdmitted, RestAdmitted}
use Rattle.transport.specs.Sending.{down_marks, down_message, sent_to, posted_at, sent_below, all_sent}
use Rattle.transport.proofs.RoomLaws.{put_admitted}

-- some admitted set holds each lane that is still to get its message
abbrev pub Ready : Rule → Lists → List (Option Down) → ℕ → Type 0
Ready room lists to z = (s : Marks) × (room lists s ≡ true) × ((k : ℕ) → z ≤ k → k < 8 → is_some (get_or to k None) ≡ true → Holds s (8 + k))

-- the lists once the zones below z have their messages, with room for the rest
abbrev pub SentSoFar : Rule → Lists → Lists → ℕ → List (Option Down) → ℕ → Type 0
SentSoFar room start now place to z = (now ≡ sent_below start place to z) × Ready room now to z

-- the zones with what each is sent
abbrev pub by_zone : List (Option Down) → List (ℕ × Option Down)
by_zone to = zip (range_with_len 0 8) to

-- a turn of the loop at zone z, which is sent `next`
pub record ZoneTurn (room : Rule) (start now : Lists) (place : ℕ) (to : List (Option Down)) (n z : ℕ) (next : Option Down) : Type 0 where
  pub small : z < 8
  pub same : z ≡ n
  pub is : get_or to z None ≡ next
  pub so_far : SentSoFar room start now place to z

-- a turn of a `for` over the zones with what each is sent, which has yielded xs
pub zone_turn : (room : Rule) (start now : Lists) (place : ℕ) (to : List (Option Down)) (xs : List (ℕ × Bor (Option Down))) (s t u : Zip (Range ℕ) (Iter (Option Down))) (r : Option (ℕ × Bor (Option Down))) (z : ℕ) (next : Bor (Option Down))
    → length to ≡ 8 → zip_first s ≡ record { start = 0; end = 8 } → iter_rest (zip_second s) ≡ to → Yields (zips nat_range_steps fronts) s xs t → r ≡ Some (z, next) → zips nat_range_steps fronts t r u
    → SentSoFar room start now place to (length xs) → ZoneTurn room start now place to (length xs) z next.now
zone_turn room start now place to xs s t u r z next eight zones sent y is step so_far =
    let n : ℕ = length xs in
    let found = YieldsList-turn (YieldsList-from_zip (YieldsList-from_range 0 8 8 zones refl) (YieldsList-from_slice to sent)) xs t y r u (z, next) is step in
    let within : n < length (by_zone to) = found.0 in
    let counted = length-range_with_len 0 8 in
    let long = length-zip (range_with_len 0 8) to in
    let small : n < 8 = grind (arith, nat_tests) in
    let pair : ◌≡◌ {A = ℕ × Option Down} (z, next.now) (get_or (range_with_len 0 8) n z, get_or to n next.now) = found.1 ∙ get_or-zip (range_with_len 0 8) to n (z, next.now) (omega arith) (omega arith) in
    let number : get_or (range_with_len 0 8) n z ≡ n = omega (arith, get_or-range_with_len 0 8 n z small) in
    let same : z ≡ n = ap (λ (p : ℕ × Option Down). p.0) pair ∙ number in
    record {
      small = omega arith;
      same = same;
      is = ap (λ (k : ℕ). get_or to k None) same ∙ get_or_default to n None next.now (omega arith) ∙ sym (ap (λ (p : ℕ × Option Down). p.1) pair);
      so_far = subst (SentSoFar room start now place to) (sym same) so_far;
    }

some_within : (to : List (Option Down)) (k : ℕ) → is_some (get_or to k None) ≡ true → k < length to
some_within to k h = ⊎_elim (λ (l : k < length to). l) (λ (l : length to ≤ k). absurd (false≢true (ap is_some (sym (get_or_past to k None l)) ∙ h))) (cases_lt k (length to))

marks_down : (to : List (Option Down)) (k : ℕ) → k < length to → get_or (down_marks to) (8 + k) false ≡ is_some (get_or to k None)
unfolding down_marks
marks_down to k l = get_or-append-add (replicate 8 false) (map is_some to) k false ∙ get_or-map is_some to k None false l

pub ready_start : (room : Rule) (lists : Lists) (to : List (Option Down)) → room lists (down_marks to) ≡ true → Ready room lists to 0
ready_start room lists to adm = (down_marks to, adm, λ k _ _ h. marks_down to k (some_within to k h) ∙ h)

pub ready_skip : (room : Rule) (lists : Lists) (to : List (Option Down)) (z : ℕ) → Ready room lists to z → Ready room lists to (z + 1)
ready_skip room lists to z (s, adm, holds) = (s, adm, λ k l. holds k (omega arith))

pub sent_none : (lists : Lists) (place : ℕ) (to : List (Option Down)) → lists ≡ sent_below lists place to 0
unfolding sent_below
sent_none lists place to = refl

pub sent_more : (lists : Lists) (place : ℕ) (to : List (Option Down)) (z : ℕ) → sent_below lists place to (z + 1) ≡ posted_at (sent_below lists place to z) (8 + z) place (get_or to z None)
unfolding sent_below
sent_more lists place to z = rw add-one refl

-- one message is sent
pub record Turn (room : Rule) (before after : Lists) (to : List (Option Down)) (z : ℕ) (m : Message) (r : Result (Unit {0}) TransportFault) : Type 0 where
  pub answer : r ≡ Ok tt
  pub lists : after ≡ joined_at before (8 + z) m
  pub ready : Ready room after to (z + 1)

pub turn : (room : Rule) → PartAdmitted room → RestAdmitted room
    → (before after : Lists) (to : List (Option Down)) (z : ℕ) (d : Down) (m : Message) (r : Result (Unit {0}) TransportFault)
    → z < 8 → get_or to z None ≡ Some d → Ready room before to z
    → told r ≡ put_answer room before (lane.Down z) → after ≡ put_lists room before (lane.Down z) m → Turn room before after to z m r
turn room part rest before after to z d m r small is (s, adm, holds) answered listed =
    let number : Some (8 + z) ≡ lane_number (lane.Down z) = sym (cond-true (ltb z 8) _ _ (lt-ltb z 8 small)) in
    let done = put_admitted room part rest before after s (lane.Down z) (8 + z) m r number (holds z (omega arith) small (ap is_some is)) adm answered listed in
    record {
      answer = done.answer;
      lists = done.lists;
      ready = (
        set s (8 + z) false,
        done.rest,
        λ k l small-k h.
            let ne : 8 + k ≢ 8 + z = omega arith in
            get_or-set_other s (8 + z) (8 + k) false false ne ∙ holds k (omega arith) small-k h,
      );
    }

-- a step of the loop that sends, from the lists where the turn began to those where it ends
module _ (lists : Lists) (place : ℕ) (to : List (Option Down)) (z : ℕ) (before after : Lists) where
  pub sent_one : (d : Down) → get_or to z None ≡ Some d → before ≡ sent_below lists place to z → after ≡ joined_at before (8 + z) (down_message place d) → after ≡ sent_below lists place to (z + 1)
  sent_one d is so_far joined =
      joined ∙ ap (λ (x : Lists). joined_at x (8 + z) (down_message place d)) so_far
      ∙ sym (sent_more lists place to z ∙ ap (posted_at (sent_below lists place to z) (8 + z) place) is)

  pub sent_skip : get_or to z None ≡ None → before ≡ sent_below lists place to z → after ≡ before → after ≡ sent_below lists place to (z + 1)
  sent_skip is so_far same = same ∙ so_far ∙ sym (sent_more lists place to z ∙ ap (posted_at (sent_below lists place to z) (8 + z) place) is)

-- what each lane has after a sending
posted_length : (lists : Lists) (i place : ℕ) (o : Option Down) → length (posted_at lists i place o) ≡ length lists
posted_length lists i place None = refl
posted_length lists i place (Some d) = length-set lists i _

posted_other : (lists : Lists) (i place : ℕ) (o : Option Down) (k : ℕ) → k ≢ i → lane_at (posted_at lists i place o) k ≡ lane_at lists k
posted_other lists i place None k ne = refl
posted_other lists i place (Some d) k ne = get_or-set_other lists i k _ [] ne

posted_same : (lists : Lists) (i place : ℕ) (o : Option Down) → i < length lists → lane_at (posted_at lists i place o) i ≡ lane_at lists i ++ sent_to place o
posted_same lists i place None within = sym (append-nil (lane_at lists i))
posted_same lists i place (Some d) within = get_or-set_same lists i _ [] within

module _ (lists : Lists) (place : ℕ) (to : List (Option Down)) where
  sent_length_below : (n : ℕ) → length (sent_below lists place to n) ≡ length lists
  unfolding sent_below
  sent_length_below zero = refl
  sent_length_below (suc n) = posted_length (sent_below lists place to n) (8 + n) place (get_or to n None) ∙ sent_length_below n

  sent_other_below : (n k : ℕ) → ((z : ℕ) → z < n → k ≢ 8 + z) → lane_at (sent_below lists place to n) k ≡ lane_at lists k
  unfolding sent_below
  sent_other_below zero k apart = refl
  sent_other_below (suc n) k apart =
      posted_other (sent_below lists place to n) (8 + n) place (get_or to n None) k (apart n (omega arith)) ∙ sent_other_below n k (λ z l. apart z (omega arith))

  sent_same_below : (n z : ℕ) → z < n → n + 8 ≤ length lists → lane_at (sent_below lists place to n) (8 + z) ≡ lane_at lists (8 + z) ++ sent_to place (get_or to z None)
  unfolding sent_below
  sent_same_below zero z less within = absurd (omega arith)
  sent_same_below (suc n) z less within =
      let now : Lists = sent_below lists place to n in
      let long : length now ≡ length lists = sent_length_below n in
      ⊎_elim
      (λ (e : z ≡ n). subst (λ (x : ℕ). lane_at (posted_at now (8 + n) place (get_or to n None)) (8 + x) ≡ lane_at lists (8 + x) ++ sent_to place (get_or to x None)) (sym e)
      (posted_same now (8 + n) place (get_or to n None) (omega arith)
      ∙ ap (λ (xs : List Message). xs ++ sent_to place (get_or to n None)) (sent_other_below n (8 + n) (λ x l. let ne : 8 + n ≢ 8 + x = omega arith in ne))))
      (λ (ne : z ≡ n → ⊥).
      let other : 8 + z ≢ 8 + n = omega arith in
      posted_other now (8 + n) place (get_or to n None) (8 + z) other ∙ sent_same_below n z (omega arith) (omega arith))
      (cases_eq z n)

  -- there are as many lists as before, each up lane is as before, and each down lane has at its end what its zone is sent
  pub sent_length : length (all_sent lists place to) ≡ length lists
  sent_length = sent_length_below 8

  pub sent_up : (k : ℕ) → k < 8 → lane_at (all_sent lists place to) k ≡ lane_at lists k
  sent_up k low = sent_other_below 8 k (λ z _. let ne : k ≢ 8 + z = omega arith in ne)

  pub sent_down : length lists ≡ 16 → (z : ℕ) → z < 8 → lane_at (all_sent lists place to) (8 + z) ≡ lane_at lists (8 + z) ++ sent_to place (get_or to z None)
  sent_down sixteen z small = sent_same_below 8 z small (omega arith)

-- What a put, a take, a look or a count comes to once the lane's number is known. For every transport.
use Rattle.std.proofs.Common.{◌≡◌, ℕ, zero, suc, ◌<◌, true, false, List, [], ◌∷◌, length, drop, Some, Ok, Err, Option, sym, refl, ap, ◌∙◌, arith}
use Rattle.std.specs.List.{slice_get}
use Rattle.std.proofs.lemmas.Bool.{cond-true, cond-false}
use Rattle.std.proofs.lemmas.Bool.Decides.{nat_tests}
use Rattle.messages.specs.declared.kinds.Message.{Message}
use Rattle.messages.specs.Refusals.{Facts}
use Rattle.transport.specs.declared.faults.Subject.TheVariants.{Zone}
use Rattle.transport.specs.declared.lanes.Lane.{Lane}
use Rattle.transport.specs.declared.lanes.Lane.TheVariants.{Up, Down}
use Rattle.transport.specs.Faults.{refused}
use Rattle.transport.specs.Lanes.{Lists, Rule, lane_number, zone_of, only_lane, lane_at, joined_at, removed_at, oldest_of, put_answer, put_lists, put_answer_at, put_lists_at, oldest, waiting_count, taken, oldest_at, count_at, taken_at}

pub number_small : (lane : Lane) (i : ℕ) → Some i ≡ lane_number lane → i < 16
number_small (Up z) i e = grind (arith, nat_tests)
number_small (Down z) i e = grind (arith, nat_tests)

module _ (room : Rule) (lists : Lists) (lane : Lane) (i : ℕ) (e : Some i ≡ lane_number lane) where
  pub full_answer : (facts : Facts) (zone : ℕ) → facts ≡ refused 11 (Zone zone) → zone ≡ zone_of lane → room lists (only_lane i) ≡ false → Err facts ≡ put_answer room lists lane
  full_answer facts zone is same full =
      let at : facts ≡ refused 11 (Zone (zone_of lane)) = is ∙ ap (λ (z : ℕ). refused 11 (Zone z)) same in
      ap (λ (f : Facts). Err f) at ∙ sym (ap (put_answer_at room lists (zone_of lane)) (sym e) ∙ cond-false (room lists (only_lane i)) _ _ full)

  pub full_lists : (m : Message) → room lists (only_lane i) ≡ false → lists ≡ put_lists room lists lane m
  full_lists m full = sym (ap (λ (o : Option ℕ). put_lists_at room lists o m) (sym e) ∙ cond-false (room lists (only_lane i)) _ _ full)

  pub done_answer : room lists (only_lane i) ≡ true → Ok tt ≡ put_answer room lists lane
  done_answer free = sym (ap (put_answer_at room lists (zone_of lane)) (sym e) ∙ cond-true (room lists (only_lane i)) _ _ free)

  pub done_lists : (m : Message) (after : Lists) → after ≡ joined_at lists i m → room lists (only_lane i) ≡ true → after ≡ put_lists room lists lane m
  done_lists m after joined free = joined ∙ sym (ap (λ (o : Option ℕ). put_lists_at room lists o m) (sym e) ∙ cond-true (room lists (only_lane i)) _ _ free)

pub oldest_is : (lists : Lists) (lane : Lane) (i : ℕ) → Some i ≡ lane_number lane → oldest_of (lane_at lists i) ≡ oldest lists lane
oldest_is lists lane i e = ap (oldest_at lists) e

-- where the lane's list is ms
pub count_is : (lists : Lists) (lane : Lane) (i : ℕ) (ms : List Message) → Some i ≡ lane_number lane → lane_at lists i ≡ ms → length ms ≡ waiting_count lists lane
count_is lists lane i ms e is = ap length (sym is) ∙ ap (count_at lists) e

pub taken_is : (lists : Lists) (lane : Lane) (i : ℕ) → Some i ≡ lane_number lane → removed_at lists i ≡ taken lists lane
taken_is lists lane i e = ap (taken_at lists) e

-- the first of what is left after n messages is the one at place n
pub nth_is : (ms : List Message) (n : ℕ) → slice_get ms n ≡ oldest_of (drop n ms)
nth_is [] zero = refl
nth_is [] (suc n) = refl
nth_is (m ∷ ms) zero = refl
nth_is (m ∷ ms) (suc n) = nth_is ms n

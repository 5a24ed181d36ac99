-- What the laws of a room rule give to a caller that asked for a set of lanes. For every transport.
use Rattle.std.proofs.Common.{◌≡◌, ℕ, ◌<◌, ◌≤◌, true, false, get_or, set, Some, Ok, Err, Result, sym, refl, ◌∙◌, subst, ⊎_elim, arith}
use Rattle.std.proofs.lemmas.List.{get_or-set_other, get_or-replicate, get_or_past, length-replicate}
use Rattle.std.proofs.lemmas.Bool.{cases_eq, cases_lt, false≢true}
use Rattle.messages.specs.declared.kinds.Message.{Message}
use Rattle.transport.specs.declared.faults.TransportFault.{TransportFault}
use Rattle.transport.specs.declared.lanes.Lane.{Lane}
use Rattle.transport.specs.Faults.{told}
use Rattle.transport.specs.Lanes.{Lists, Marks, Rule, lane_number, no_lane, only_lane, joined_at, put_answer, put_lists}
use Rattle.transport.specs.Room.{Holds, PartOf, PartAdmitted, RestAdmitted}
use Rattle.transport.proofs.Answered.{done_answer, done_lists}

none_holds : (k : ℕ) → get_or no_lane k false ≡ false
none_holds k = ⊎_elim (λ (l : k < 16). get_or-replicate 16 k false false l) (λ (l : 16 ≤ k). get_or_past no_lane k false (simp length-replicate (omega arith))) (cases_lt k 16)

-- a lane alone is part of each set that has it
pub only_part : (s : Marks) (i : ℕ) → Holds s i → PartOf (only_lane i) s
only_part s i holds k h = ⊎_elim
    (λ (e : k ≡ i). subst (Holds s) (sym e) holds)
    (λ (ne : k ≡ i → ⊥). absurd (false≢true (sym (get_or-set_other no_lane i k true false ne ∙ none_holds k) ∙ h)))
    (cases_eq k i)

-- a result that tells no fault has none
pub told_ok : (r : Result (Unit {0}) TransportFault) → told r ≡ Ok tt → r ≡ Ok tt
told_ok (Ok tt) e = refl
told_ok (Err f) e = absurd (let z : ◌≡◌ {A = ℕ} 0 1 = cc in omega arith)

pub not_refused : (r : Result (Unit {0}) TransportFault) (f : TransportFault) → r ≡ Ok tt → r ≡ Err f → ⊥
not_refused r f p q = let z : ◌≡◌ {A = ℕ} 0 1 = cc in omega arith

-- a put on a lane of an admitted set is done, and leaves room for the rest
pub record Done (room : Rule) (before after : Lists) (s : Marks) (i : ℕ) (m : Message) (r : Result (Unit {0}) TransportFault) : Type 0 where
  pub answer : r ≡ Ok tt
  pub lists : after ≡ joined_at before i m
  pub rest : room after (set s i false) ≡ true

pub put_admitted : (room : Rule) → PartAdmitted room → RestAdmitted room
    → (before after : Lists) (s : Marks) (lane : Lane) (i : ℕ) (m : Message) (r : Result (Unit {0}) TransportFault)
    → Some i ≡ lane_number lane → Holds s i → room before s ≡ true
    → told r ≡ put_answer room before lane → after ≡ put_lists room before lane m → Done room before after s i m r
put_admitted room part rest before after s lane i m r e holds adm answered listed =
    let alone : room before (only_lane i) ≡ true = part before (only_lane i) s (only_part s i holds) adm in
    let joined : after ≡ joined_at before i m = listed ∙ sym (done_lists room before lane i e m (joined_at before i m) refl alone) in
    record {
      answer = told_ok r (answered ∙ sym (done_answer room before lane i e alone));
      lists = joined;
      rest = subst (λ (x : Lists). room x (set s i false) ≡ true) (sym joined) (rest before s i m holds adm);
    }

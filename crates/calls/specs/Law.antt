-- The law over runs: what the pool answers is what one central table would have answered.
use Rattle.std.specs.Prelude.{◌≡◌, ℕ, true, false, List, [], ◌∷◌, Some, None, Ok, Err, Option, Result, ◌==◌}
use Rattle.messages.specs.declared.assignments.Assignment.{Assignment}
use Rattle.messages.specs.Refusals.{Facts}
use Rattle.transport.specs.Lanes.{Rule}
use Rattle.calls.specs.declared.reports.Report.{Report}
use Rattle.calls.specs.declared.call.Call.{Call}
use Rattle.calls.specs.Model.{Model}
use Rattle.calls.specs.Questions.{reads, holds, quiet}
use Rattle.calls.specs.Runs.{Event, trace, results, after_run}
use Rattle.calls.specs.Onlookers.{Onlooker, Entry, unused, accepted, settled, answered, onlooking, after_all, NeverObjects}
use Rattle.calls.specs.Opening.{Load, JustOpened, TiedTo}

-- a number that was given and not answered
abbrev pub Outstanding : Entry → Type 0
Outstanding unused = ⊥
Outstanding (accepted key q) = Unit {0}
Outstanding (settled key q a) = Unit {0}
Outstanding answered = ⊥

-- a result that is not refusal 17
abbrev pub NotMisplaced : Result Report Facts → Type 0
NotMisplaced (Ok r) = Unit {0}
NotMisplaced (Err f) = f.number ≡ 17 → ⊥

-- no call of the run met 17
abbrev pub NoneMisplaced : List Event → Type 0
NoneMisplaced [] = Unit {0}
NoneMisplaced (e ∷ es) = NotMisplaced e.result × NoneMisplaced es

-- of the pool m with the keys ks in use, as an onlooker o knows it
pub record Agrees (o : Onlooker) (m : Model) (ks : List (List ℕ)) : Type 0 where
  -- what a zone can read of a key is what the central pool holds
  pub readers_see_the_central_value : (zone : ℕ) (key : List ℕ) (a : Assignment) → reads (λ k. k) m ks zone key ≡ Some a → o.values key ≡ Some a
  -- while one zone holds a key exclusively, no other can read it
  pub exclusive_excludes_readers : (zone other : ℕ) (key : List ℕ) → holds (λ k. k) m ks zone key ≡ true → (other == zone) ≡ false → reads (λ k. k) m ks other key ≡ None
  -- where the pool is quiet, every accepted start has been answered
  pub quiet_is_answered : quiet m ≡ true → (n : ℕ) → Outstanding (o.entries n) → ⊥

-- the law of one run, told by its trace: the onlooker never objects, no call meets 17, and the pool at the end agrees with the onlooker
pub record Law (stock : List ℕ → Option Assignment) (first : ℕ) (seen : List Event) (m : Model) (ks : List (List ℕ)) : Type 0 where
  pub answers_are_central : NeverObjects (onlooking stock first) seen
  pub none_misplaced : NoneMisplaced seen
  pub agrees : Agrees (after_all (onlooking stock first) seen) m ks

-- the law of every run from a pool as it is opened: for every register that is tied to what was loaded, and every list of calls
abbrev pub Lawful : Rule → Model → Type 0
Lawful room m =
    (loads : ℕ → Load) → JustOpened m loads →
    (size : ℕ) (ks : List (List ℕ)) (stock : List ℕ → Option Assignment) → TiedTo ks loads stock →
    (calls : List (Call (List ℕ))) →
    let after = after_run room (λ k. k) size m ks calls in
    Law stock m.plan.first_number (trace calls (results room (λ k. k) size m ks calls)) after.0 after.1

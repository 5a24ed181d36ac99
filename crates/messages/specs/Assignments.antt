-- Assignments by what they read as. Only this file knows the range of a chute.
use Rattle.std.specs.Prelude.{ℕ, min, cond, Ok, Err, Result, nat_lt}
use Rattle.messages.specs.declared.assignments.Assignment.{Assignment}
use Rattle.messages.specs.declared.refusals.Refusal.{Refusal}
use Rattle.messages.specs.Refusals.{refusal_number}

-- the chute that it reads as: from 0 to 9,999, whatever is stored
abbrev pub chute_of : Assignment → ℕ
chute_of a = min a.chute 9999

-- the wave that it reads as
abbrev pub wave_of : Assignment → ℕ
wave_of a = a.wave

-- what comes of making an assignment: the chute and wave that it reads as, or refusal 5
abbrev pub assigned : ℕ → ℕ → Result (ℕ × ℕ) ℕ
assigned chute wave = cond (nat_lt 9999 chute) (Err 5) (Ok (chute, wave))

-- a made assignment by what it reads as, or the refusal's number
abbrev pub read_result : Result Assignment Refusal → Result (ℕ × ℕ) ℕ
read_result (Ok a) = Ok (chute_of a, wave_of a)
read_result (Err e) = Err (refusal_number e)

-- the same by what is stored: nothing else is ever stored than what was given
abbrev pub stored_result : Result Assignment Refusal → Result (ℕ × ℕ) ℕ
stored_result (Ok a) = Ok (a.chute, a.wave)
stored_result (Err e) = Err (refusal_number e)

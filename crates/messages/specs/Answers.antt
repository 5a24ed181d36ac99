-- What each answer stands for.
use Rattle.std.specs.Prelude.{ℕ, Some, None, Option}
use Rattle.messages.specs.declared.assignments.Assignment.{Assignment}
use Rattle.messages.specs.declared.requests.Answer.{Answer}
use Rattle.messages.specs.declared.requests.Answer.TheVariants.{Nothing, Old, Stored, Removed}

-- its number: 0 none, 1 the old assignment, 2 stored, 3 removed
abbrev pub answer_number : Answer → ℕ
answer_number Nothing = 0
answer_number (Old a) = 1
answer_number Stored = 2
answer_number Removed = 3

-- the assignment that it brings
abbrev pub answer_value : Answer → Option Assignment
answer_value Nothing = None
answer_value (Old a) = Some a
answer_value Stored = None
answer_value Removed = None

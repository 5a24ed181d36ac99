-- What a zone can read, and whether it holds a key exclusively: by what its line would itself answer.
use Rattle.std.specs.Prelude.{Bool, true, false, Some, None, Option}
use Rattle.messages.specs.declared.assignments.Assignment.{Assignment}
use Rattle.messages.specs.declared.requests.Request.TheVariants.{CarbonCopy, Put}
use Rattle.messages.specs.declared.requests.Answer.{Answer}
use Rattle.messages.specs.Answers.{answer_value}
use Rattle.line.specs.declared.states.State.{State}
use Rattle.line.specs.Outcomes.{Outcome, refused, moved}
use Rattle.line.specs.Requested.{requested}

-- the answer that a step gives by itself
abbrev pub own_answer : Outcome → Option Answer
own_answer (refused n l) = None
own_answer (moved m a l) = a

-- the assignment of an answer, if one is given and brings one
abbrev pub assignment_in : Option Answer → Option Assignment
assignment_in None = None
assignment_in (Some a) = answer_value a

-- whether an answer is given
abbrev pub is_given : Option Answer → Bool
is_given None = false
is_given (Some a) = true

-- what the line would itself answer to carbon_copy
abbrev pub readable : State → Option Assignment
readable l = assignment_in (own_answer (requested l CarbonCopy))

-- whether the line would itself answer put, whatever is put
abbrev pub answers_put : State → Assignment → Bool
answers_put l new = is_given (own_answer (requested l (Put new)))

-- an assignment to ask with; the answer is the same for every other
abbrev pub any_assignment : Assignment
any_assignment = record { chute = 0; wave = 0 }

-- whether the line would itself answer put
abbrev pub holds_exclusively : State → Bool
holds_exclusively l = answers_put l any_assignment

-- The central pool's table for one key: what a request is answered where the key had `old`, and what the key has afterwards.
use Rattle.std.specs.Prelude.{Some, None, Option}
use Rattle.messages.specs.declared.assignments.Assignment.{Assignment}
use Rattle.messages.specs.declared.requests.Request.{Request}
use Rattle.messages.specs.declared.requests.Request.TheVariants.{CarbonCopy, Put, GetIfAnyAndPut, GetAndPutIfAny, GetIfAny, Remove}
use Rattle.messages.specs.declared.requests.Answer.{Answer}
use Rattle.messages.specs.declared.requests.Answer.TheVariants.{Nothing, Old, Stored, Removed}

-- the answer "old"
abbrev pub old_answer : Option Assignment → Answer
old_answer None = Nothing
old_answer (Some a) = Old a

-- removed if there was an old, else none
abbrev pub removed_answer : Option Assignment → Answer
removed_answer None = Nothing
removed_answer (Some a) = Removed

-- new if there was an old, else none
abbrev pub new_if_any : Option Assignment → Assignment → Option Assignment
new_if_any None new = None
new_if_any (Some a) new = Some new

-- the answer to a request where the key had `old`
abbrev pub answered : Request → Option Assignment → Answer
answered CarbonCopy old = old_answer old
answered (Put new) old = Stored
answered (GetIfAnyAndPut new) old = old_answer old
answered (GetAndPutIfAny new) old = old_answer old
answered GetIfAny old = old_answer old
answered Remove old = removed_answer old

-- what the key has after a request where it had `old`
abbrev pub left : Request → Option Assignment → Option Assignment
left CarbonCopy old = old
left (Put new) old = Some new
left (GetIfAnyAndPut new) old = Some new
left (GetAndPutIfAny new) old = new_if_any old new
left GetIfAny old = None
left Remove old = None

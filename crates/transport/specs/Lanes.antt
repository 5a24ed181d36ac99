-- What a transport means: for each of the 16 lanes the waiting messages, oldest first. What each call on it comes to.
use Rattle.std.specs.Prelude.{ℕ, ◌+◌, Bool, true, false, cond, List, [], ◌∷◌, ◌++◌, length, drop, replicate, Some, None, Ok, Err, Option, Result, nat_lt, slice_index_or, slice_set}
use Rattle.messages.specs.declared.kinds.Message.{Message}
use Rattle.messages.specs.Refusals.{Facts}
use Rattle.transport.specs.declared.faults.Subject.TheVariants.{Zone}
use Rattle.transport.specs.declared.lanes.Lane.{Lane}
use Rattle.transport.specs.declared.lanes.Lane.TheVariants.{Up, Down}
use Rattle.transport.specs.Faults.{refused}

-- the lists of all lanes, by lane number
abbrev pub Lists : Type 0
Lists = List (List Message)

-- a set of lanes: a mark for each lane number
abbrev pub Marks : Type 0
Marks = List Bool

-- a room rule: given the lists alone, whether each lane of a set can take one message more
abbrev pub Rule : Type 0
Rule = Lists → Marks → Bool

-- a lane's number: the up lanes of zones 0 to 7, then their down lanes; none above zone 7
abbrev pub lane_number : Lane → Option ℕ
lane_number (Up z) = cond (nat_lt z 8) (Some z) None
lane_number (Down z) = cond (nat_lt z 8) (Some (8 + z)) None

-- the zone of a lane
abbrev pub zone_of : Lane → ℕ
zone_of (Up z) = z
zone_of (Down z) = z

-- the set of no lane
abbrev pub no_lane : Marks
no_lane = replicate 16 false

-- a set with the lane of a number, if there is one
abbrev pub marked_at : Marks → Option ℕ → Marks
marked_at s None = s
marked_at s (Some i) = slice_set s i true

-- a set with one lane more; as it was where the zone is above 7
abbrev pub also_marked : Marks → Lane → Marks
also_marked s lane = marked_at s (lane_number lane)

-- the set of the lane of number i alone
abbrev pub only_lane : ℕ → Marks
only_lane i = slice_set no_lane i true

-- the list of the lane of number i
abbrev pub lane_at : Lists → ℕ → List Message
lane_at lists i = slice_index_or lists i []

-- the oldest of a list
abbrev pub oldest_of : List Message → Option Message
oldest_of [] = None
oldest_of (m ∷ ms) = Some m

-- a message joins the end of its lane
abbrev pub joined_at : Lists → ℕ → Message → Lists
joined_at lists i m = slice_set lists i (lane_at lists i ++ m ∷ [])

-- the oldest of a lane is removed
abbrev pub removed_at : Lists → ℕ → Lists
removed_at lists i = slice_set lists i (drop 1 (lane_at lists i))

-- a put is refused by 6 above zone 7, else by 11 where the rule does not admit the lane alone
abbrev pub put_answer_at : Rule → Lists → ℕ → Option ℕ → Result (Unit {0}) Facts
put_answer_at room lists zone None = Err (refused 6 (Zone zone))
put_answer_at room lists zone (Some i) = cond (room lists (only_lane i)) (Ok tt) (Err (refused 11 (Zone zone)))

-- the same, of a lane
abbrev pub put_answer : Rule → Lists → Lane → Result (Unit {0}) Facts
put_answer room lists lane = put_answer_at room lists (zone_of lane) (lane_number lane)

-- a put that is not refused joins the end of its lane; a refused one changes nothing
abbrev pub put_lists_at : Rule → Lists → Option ℕ → Message → Lists
put_lists_at room lists None m = lists
put_lists_at room lists (Some i) m = cond (room lists (only_lane i)) (joined_at lists i m) lists

-- the same, of a lane
abbrev pub put_lists : Rule → Lists → Lane → Message → Lists
put_lists room lists lane m = put_lists_at room lists (lane_number lane) m

-- a take and a look answer the oldest of the lane: none where it is empty, and above zone 7
abbrev pub oldest_at : Lists → Option ℕ → Option Message
oldest_at lists None = None
oldest_at lists (Some i) = oldest_of (lane_at lists i)

-- the same, of a lane
abbrev pub oldest : Lists → Lane → Option Message
oldest lists lane = oldest_at lists (lane_number lane)

-- how many messages wait in the lane: 0 above zone 7
abbrev pub count_at : Lists → Option ℕ → ℕ
count_at lists None = 0
count_at lists (Some i) = length (lane_at lists i)

-- the same, of a lane
abbrev pub waiting_count : Lists → Lane → ℕ
waiting_count lists lane = count_at lists (lane_number lane)

-- the message that has `ahead` older ones before it in the lane: none past the end, and above zone 7
abbrev pub behind_at : Lists → Option ℕ → ℕ → Option Message
behind_at lists None ahead = None
behind_at lists (Some i) ahead = oldest_of (drop ahead (lane_at lists i))

-- the same, of a lane; with 0 ahead it is the oldest
abbrev pub waiting_at : Lists → Lane → ℕ → Option Message
waiting_at lists lane ahead = behind_at lists (lane_number lane) ahead

-- a take removes what it answers
abbrev pub taken_at : Lists → Option ℕ → Lists
taken_at lists None = lists
taken_at lists (Some i) = removed_at lists i

-- the same, of a lane
abbrev pub taken : Lists → Lane → Lists
taken lists lane = taken_at lists (lane_number lane)

-- a clear leaves every lane empty
abbrev pub all_empty : Lists
all_empty = replicate 16 []

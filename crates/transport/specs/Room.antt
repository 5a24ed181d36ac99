-- The laws of a room rule, and the rules of the two backplanes with their sizes.
use Rattle.std.specs.Prelude.{◌≡◌, ℕ, zero, suc, ◌+◌, Bool, true, false, cond, ◌&&◌, length, sum_by, count_by, nat_le, nat_lt, slice_index_or, slice_set}
use Rattle.messages.specs.declared.kinds.Message.{Message}
use Rattle.transport.specs.Lanes.{Lists, Marks, Rule, lane_at, joined_at, removed_at, all_empty}

-- the messages that a lane of the rings holds
abbrev pub ring_depth : ℕ
ring_depth = 16

-- the messages that the belt holds in all
abbrev pub belt_size : ℕ
belt_size = 64

-- the lane of number i is in the set
abbrev pub Holds : Marks → ℕ → Type 0
Holds s i = slice_index_or s i false ≡ true

-- every lane of s is in t
abbrev pub PartOf : Marks → Marks → Type 0
PartOf s t = (i : ℕ) → Holds s i → Holds t i

-- part of an admitted set is admitted
abbrev pub PartAdmitted : Rule → Type 0
PartAdmitted room = (lists : Lists) (s t : Marks) → PartOf s t → room lists t ≡ true → room lists s ≡ true

-- after a put on one lane of an admitted set, the rest is admitted
abbrev pub RestAdmitted : Rule → Type 0
RestAdmitted room = (lists : Lists) (s : Marks) (i : ℕ) (m : Message) → Holds s i → room lists s ≡ true → room (joined_at lists i m) (slice_set s i false) ≡ true

-- after a take, what was admitted still is
abbrev pub TakeAdmits : Rule → Type 0
TakeAdmits room = (lists : Lists) (s : Marks) (i : ℕ) → room lists s ≡ true → room (removed_at lists i) s ≡ true

-- with all lanes empty every set is admitted
abbrev pub EmptyAdmits : Rule → Type 0
EmptyAdmits room = (s : Marks) → length s ≡ 16 → room all_empty s ≡ true

-- p holds of each number below n
abbrev pub every_below : (ℕ → Bool) → ℕ → Bool
every_below p zero = true
every_below p (suc n) = p n && every_below p n

-- the lane of number i, if in the set, has fewer than `depth` messages
abbrev pub lane_free : ℕ → Lists → Marks → ℕ → Bool
lane_free depth lists s i = cond (slice_index_or s i false) (nat_lt (length (lane_at lists i)) depth) true

-- the depth of rings that are made: as it is, for no ring is made without a slot
abbrev pub made_depth : ℕ → ℕ
made_depth zero = 1
made_depth (suc n) = suc n

-- rings of a depth admit a set when each of its lanes has fewer messages than that
unfoldable pub rings_room : ℕ → Rule
rings_room depth lists s = every_below (lane_free depth lists s) 16

-- the waiting messages of all lanes
abbrev pub waiting_in : Lists → ℕ
waiting_in lists = sum_by length lists

-- the number of lanes in a set
abbrev pub set_size : Marks → ℕ
set_size s = count_by (λ b. b) s

-- the belt admits a set when the waiting messages plus the set's size are at most its size
unfoldable pub belt_room : Rule
belt_room lists s = nat_le (waiting_in lists + set_size s) belt_size

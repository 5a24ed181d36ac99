-- The lists that the belt shows.
use Rattle.std.specs.Prelude.{ℕ, Bool, List, map, take, filter, ◌==◌}
use Rattle.std.specs.List.{range_with_len}
use Rattle.messages.specs.declared.kinds.Message.{Message}
use Rattle.transport.specs.declared.entry.Entry.{Entry}
use Rattle.transport.specs.declared.belt.Belt.{Belt}
use Rattle.transport.specs.Lanes.{Lists}

-- a message with its lane's number, as it stands on the belt
abbrev pub entry_of : ℕ → Message → Entry
entry_of i m = record { lane = i; message = m }

-- whether an entry is of the lane of number i
abbrev pub of_lane : ℕ → Entry → Bool
of_lane i e = e.lane == i

-- what the belt holds, in order of arrival
abbrev pub held : Belt → List Entry
held belt = take belt.len belt.entries

-- the messages of one lane among the entries
abbrev pub lane_of : List Entry → ℕ → List Message
lane_of es i = map (λ e. e.message) (filter (of_lane i) es)

-- the messages of each lane among the entries
unfoldable pub lanes_of : List Entry → Lists
lanes_of es = map (lane_of es) (range_with_len 0 16)

-- the lists that the belt shows
abbrev pub belt_lists : Belt → Lists
belt_lists belt = lanes_of (held belt)

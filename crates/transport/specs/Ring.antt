-- The list that a ring buffer shows, and the lists of rings for all lanes.
use Rattle.std.specs.Prelude.{ℕ, ◌+◌, ◌-◌, cond, List, map, nat_lt, slice_index_or}
use Rattle.std.specs.List.{range_with_len}
use Rattle.messages.specs.declared.kinds.Message.{Message}
use Rattle.messages.specs.declared.kinds.Kind.TheVariants as kind
use Rattle.messages.specs.declared.kinds.Up.TheVariants as up
use Rattle.messages.specs.declared.kinds.Demand.TheVariants as demand
use Rattle.transport.specs.declared.ring.Ring.{Ring}
use Rattle.transport.specs.declared.rings.RingBank.{RingBank}
use Rattle.transport.specs.Lanes.{Lists}

-- what a slot holds before its first message
abbrev pub blank : Message
blank = record { kind = kind.Up (up.Demand demand.GetSharedData); place = 0 }

-- a slot number below twice the depth, gone around once
abbrev pub around : ℕ → ℕ → ℕ
around depth n = cond (nat_lt n depth) n (n - depth)

-- the message k places after the head
abbrev pub slot_at : ℕ → List Message → ℕ → ℕ → Message
slot_at depth slots head k = slice_index_or slots (around depth (head + k)) blank

-- `len` messages from the head on, going around
unfoldable pub ring_list : ℕ → List Message → ℕ → ℕ → List Message
ring_list depth slots head len = map (slot_at depth slots head) (range_with_len 0 len)

-- the list that a ring shows
abbrev pub ring_items : {depth : ℕ} → Ring depth → List Message
ring_items {depth} r = ring_list depth r.slots r.head r.len

-- the list of each lane's ring
abbrev pub bank_lists : {depth : ℕ} → RingBank depth → Lists
bank_lists bank = map ring_items bank.rings

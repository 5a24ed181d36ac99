-- Questions to a pool, besides what a zone can read, what it holds exclusively, and whether the pool is quiet.
use Rattle.std.specs.Prelude.{ℕ, ◌-◌, Bool, cond, not, is_some, Some, None, Option, nat_lt}
use Rattle.line.specs.declared.lines.Line.{Line}
use Rattle.transport.specs.declared.lanes.Lane.{Lane}
use Rattle.transport.specs.declared.lanes.Lane.TheVariants.{Up, Down}
use Rattle.transport.specs.Lanes.{Lists, oldest}
use Rattle.rules.specs.Shares.{hit_share}
use Rattle.calls.specs.declared.slots.Counts.{Counts}
use Rattle.calls.specs.Model.{Model, slot_at, counts_at}

-- a zone's line for a place, where the pool has the zone
abbrev pub line_at : Model → ℕ → Option ℕ → Option Line
line_at m zone None = None
line_at m zone (Some place) = cond (nat_lt zone m.plan.zones) (Some (slot_at m zone place).line) None

-- the lane of a number: the up lanes by zone, then the down lanes
abbrev pub lane_of : ℕ → Lane
lane_of number = cond (nat_lt number 8) (Up number) (Down (number - 8))

-- whether nothing is to be taken from the lane of a number
abbrev pub lane_is_empty : Lists → ℕ → Bool
lane_is_empty lists number = not (is_some (oldest lists (lane_of number)))

-- a zone's counts, where the pool has the zone
abbrev pub zone_counts : Model → ℕ → Option Counts
zone_counts m zone = cond (nat_lt zone m.plan.zones) (Some (counts_at m zone)) None

-- the hit share of counts, where there are any
abbrev pub share_of : Option Counts → Option ℕ
share_of None = None
share_of (Some c) = hit_share c.hits c.starts

-- a zone's hit share: its starts answered by themselves, in percent of its accepted starts
abbrev pub zone_share : Model → ℕ → Option ℕ
zone_share m zone = share_of (zone_counts m zone)

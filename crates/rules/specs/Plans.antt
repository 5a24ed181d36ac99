-- The sizes of a plan: their ranges, and the order in which they are checked.
use Rattle.std.specs.Prelude.{ℕ, Bool, cond, ◌&&◌, Some, None, Ok, Err, Option, Result, ◌==◌, nat_lt, nat_le}
use Rattle.messages.specs.declared.refusals.Refusal.{Refusal}
use Rattle.messages.specs.Refusals.{refusal_number}
use Rattle.rules.specs.declared.plan.Plan.{Plan}

-- what a plan tells: zones, places, the first request number
pub record Sizes : Type 0 where
  pub zones : ℕ
  pub places : ℕ
  pub first : ℕ

-- 2 to 8 zones
abbrev pub zones_fit : ℕ → Bool
zones_fit zones = nat_le 2 zones && nat_le zones 8

-- 1 to 32 places
abbrev pub places_fit : ℕ → Bool
places_fit places = nat_le 1 places && nat_le places 32

-- what comes of planning: the sizes, or refusal 1 for zones, 2 for places, 3 for a first request number of 0, in this order
abbrev pub planned : ℕ → ℕ → ℕ → Result Sizes ℕ
planned zones places first =
    cond (zones_fit zones)
    (cond (places_fit places) (cond (first == 0) (Err 3) (Ok record { zones = zones; places = places; first = first })) (Err 2))
    (Err 1)

-- a plan by its sizes
abbrev pub sizes_of : Plan → Sizes
sizes_of plan = record { zones = plan.zones; places = plan.places; first = plan.first_number }

-- what making a plan comes to: its sizes, or the refusal's number
abbrev pub read_plan : Result Plan Refusal → Result Sizes ℕ
read_plan (Ok plan) = Ok (sizes_of plan)
read_plan (Err e) = Err (refusal_number e)

-- a zone, where the plan has it
abbrev pub zone_in : Plan → ℕ → Option ℕ
zone_in plan zone = cond (nat_lt zone plan.zones) (Some zone) None

-- a place, where the plan has it
abbrev pub place_in : Plan → ℕ → Option ℕ
place_in plan place = cond (nat_lt place plan.places) (Some place) None

-- a place that some plan has
abbrev pub any_place : ℕ → Option ℕ
any_place place = cond (nat_lt place 32) (Some place) None

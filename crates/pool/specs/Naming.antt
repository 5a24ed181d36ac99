-- What a call names: its zone, its key's place, the message that it delivers.
use Rattle.std.specs.Prelude.{ℕ, cond, Some, None, Ok, Err, Option, Result, nat_lt}
use Rattle.messages.specs.declared.kinds.Kind.{Kind}
use Rattle.messages.specs.declared.kinds.Message.{Message}
use Rattle.messages.specs.Refusals.{Facts}
use Rattle.rules.specs.declared.plan.Plan.{Plan}
use Rattle.rules.specs.Plans.{place_in}
use Rattle.calls.specs.Faults.{about_zone}

-- a zone of the plan, or 6
abbrev pub zone_named : Plan → ℕ → Result ℕ Facts
zone_named plan zone = cond (nat_lt zone plan.zones) (Ok zone) (Err (about_zone 6 zone))

-- a place of the plan
abbrev pub place_named : Plan → Option ℕ → Option ℕ
place_named plan None = None
place_named plan (Some place) = place_in plan place

-- the place and the kind of a zone's message; 14 where its lane is empty, 17 where the place is above 31
abbrev pub due : ℕ → Option Message → Result (ℕ × Kind) Facts
due zone None = Err (about_zone 14 zone)
due zone (Some x) = cond (nat_lt x.place 32) (Ok (x.place, x.kind)) (Err (about_zone 17 zone))

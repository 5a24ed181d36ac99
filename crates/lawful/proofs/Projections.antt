-- One place of a pool: its messages of each lane, in their order, and its lines.
use Rattle.std.proofs.Common.{ℕ, ◌+◌, cond, eqb, ltb, List, [], ◌∷◌, map, Some, None, filter, Option}
use Rattle.messages.specs.declared.kinds.Up.{Up}
use Rattle.messages.specs.declared.kinds.Down.{Down}
use Rattle.messages.specs.declared.kinds.Kind.{Kind}
use Rattle.messages.specs.declared.kinds.Kind.TheVariants as kind
use Rattle.messages.specs.declared.kinds.Message.{Message}
use Rattle.transport.specs.Lanes.{Lists, lane_at}

-- the kinds of a lane's messages about one place
abbrev pub lane_of : ℕ → List Message → List Kind
lane_of place xs = map (λ x. x.kind) (filter (λ x. eqb x.place place) xs)

-- a zone's up lane and its down lane; none above zone 7
abbrev pub up_lane : Lists → ℕ → List Message
up_lane lists z = cond (ltb z 8) (lane_at lists z) []

abbrev pub down_lane : Lists → ℕ → List Message
down_lane lists z = cond (ltb z 8) (lane_at lists (8 + z)) []

abbrev pub up_of : Lists → ℕ → ℕ → List Kind
up_of lists place z = lane_of place (up_lane lists z)

abbrev pub down_of : Lists → ℕ → ℕ → List Kind
down_of lists place z = lane_of place (down_lane lists z)

-- what a line or the directory sends, as a lane's messages
abbrev pub up_kinds : Option Up → List Kind
up_kinds None = []
up_kinds (Some m) = kind.Up m ∷ []

abbrev pub down_kinds : Option Down → List Kind
down_kinds None = []
down_kinds (Some m) = kind.Down m ∷ []

-- The case at the limits.
use Rattle.std.proofs.Common.{arith}
use Rattle.transport.specs.Limits.{BeltAt62}
use Rattle.transport.specs.BeltRoom.{belt_admits, belt_refuses}

pub belt_at_62 : BeltAt62
belt_at_62 lists s waiting = (λ two. belt_admits lists s (omega arith), λ three. belt_refuses lists s (omega arith))

-- A case at the limits: the belt with 62 waiting admits two lanes and not three.
use Rattle.std.specs.Prelude.{◌≡◌, true, false}
use Rattle.transport.specs.Lanes.{Lists, Marks}
use Rattle.transport.specs.Room.{waiting_in, set_size, belt_room}

-- whatever the lists and the set are
abbrev pub BeltAt62 : Type 0
BeltAt62 = (lists : Lists) (s : Marks) → waiting_in lists ≡ 62 → (set_size s ≡ 2 → belt_room lists s ≡ true) × (set_size s ≡ 3 → belt_room lists s ≡ false)

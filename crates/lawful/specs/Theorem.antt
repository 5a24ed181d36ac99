-- The theorem over runs.
use Rattle.transport.specs.Lanes.{Rule}
use Rattle.calls.specs.Model.{Model}
use Rattle.calls.specs.Law.{Lawful}

-- for every room rule and every pool: every list of calls from the opening on obeys the law
unfoldable pub EveryRunIsLawful : Type 0
EveryRunIsLawful = (room : Rule) (m : Model) → Lawful room m

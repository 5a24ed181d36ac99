-- Messages to several zones at once: all of them are sent after one room question, or none.
use Rattle.std.specs.Prelude.{ℕ, zero, suc, ◌+◌, false, cond, List, [], ◌∷◌, ◌++◌, map, replicate, is_some, Some, None, Ok, Err, Option, Result, slice_index_or}
use Rattle.messages.specs.declared.kinds.Down.{Down}
use Rattle.messages.specs.declared.kinds.Kind.TheVariants as kind
use Rattle.messages.specs.declared.kinds.Message.{Message}
use Rattle.messages.specs.Refusals.{Facts}
use Rattle.transport.specs.declared.faults.Subject.{Subject}
use Rattle.transport.specs.Faults.{refused}
use Rattle.transport.specs.Lanes.{Lists, Marks, Rule, joined_at}

-- a set of lanes is admitted, or refused by 11
abbrev pub admit_answer : Rule → Lists → Marks → Subject → Result (Unit {0}) Facts
admit_answer room lists s subject = cond (room lists s) (Ok tt) (Err (refused 11 subject))

-- the down lanes of the zones that get a message
unfoldable pub down_marks : List (Option Down) → Marks
down_marks to = replicate 8 false ++ map is_some to

-- a message down about a place
abbrev pub down_message : ℕ → Down → Message
down_message place d = record { kind = kind.Down d; place = place }

-- what a zone's down lane gets: the message to the zone, if there is one
abbrev pub sent_to : ℕ → Option Down → List Message
sent_to place None = []
sent_to place (Some d) = down_message place d ∷ []

-- the lane of number i gets the message, if there is one
abbrev pub posted_at : Lists → ℕ → ℕ → Option Down → Lists
posted_at lists i place None = lists
posted_at lists i place (Some d) = joined_at lists i (down_message place d)

-- the lists once each zone below n has its message
unfoldable pub sent_below : Lists → ℕ → List (Option Down) → ℕ → Lists
sent_below lists place to zero = lists
sent_below lists place to (suc z) = posted_at (sent_below lists place to z) (8 + z) place (slice_index_or to z None)

-- the lists once every zone has its message
abbrev pub all_sent : Lists → ℕ → List (Option Down) → Lists
all_sent lists place to = sent_below lists place to 8

-- a sending is refused by 11 where the rule does not admit its down lanes, and then changes nothing
abbrev pub send_answer : Rule → Lists → List (Option Down) → Subject → Result (Unit {0}) Facts
send_answer room lists to subject = admit_answer room lists (down_marks to) subject

-- the lists after a sending: all messages, or as they were
abbrev pub send_lists : Rule → Lists → ℕ → List (Option Down) → Lists
send_lists room lists place to = cond (room lists (down_marks to)) (all_sent lists place to) lists

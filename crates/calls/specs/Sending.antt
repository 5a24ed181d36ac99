-- What a call sends, and whether there is room for it.
use Rattle.std.specs.Prelude.{ℕ, Bool, true, false, cond, List, [], ◌∷◌, is_some, Some, None, Option}
use Rattle.messages.specs.declared.kinds.Up.{Up as UpKind}
use Rattle.messages.specs.declared.kinds.Down.{Down as DownKind}
use Rattle.messages.specs.declared.kinds.Kind.TheVariants as kind
use Rattle.messages.specs.declared.kinds.Message.{Message}
use Rattle.transport.specs.declared.lanes.Lane.TheVariants.{Up}
use Rattle.transport.specs.Lanes.{Lists, Rule, no_lane, also_marked, joined_at}
use Rattle.transport.specs.Sending.{down_marks, all_sent}

-- a message up about a place
abbrev pub up_message : ℕ → UpKind → Message
up_message place u = record { kind = kind.Up u; place = place }

-- a zone sends up what its line sends
abbrev pub sent_up : Lists → ℕ → ℕ → Option UpKind → Lists
sent_up lists zone place None = lists
sent_up lists zone place (Some u) = joined_at lists zone (up_message place u)

-- the room rule is asked only where something is sent
abbrev pub up_admits : Rule → Lists → ℕ → Option UpKind → Bool
up_admits room lists zone None = true
up_admits room lists zone (Some u) = room lists (also_marked no_lane (Up zone))

-- whether the directory sends anything
abbrev pub sends_any : List (Option DownKind) → Bool
sends_any [] = false
sends_any (m ∷ ms) = cond (is_some m) true (sends_any ms)

-- the directory sends each zone its message
abbrev pub sent_down : Lists → ℕ → List (Option DownKind) → Lists
sent_down lists place to = cond (sends_any to) (all_sent lists place to) lists

-- the room rule is asked once for all down lanes, and only where something is sent
abbrev pub down_admits : Rule → Lists → List (Option DownKind) → Bool
down_admits room lists to = cond (sends_any to) (room lists (down_marks to)) true

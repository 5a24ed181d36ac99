-- The kinds of message: which travel up, and what they carry.
use Rattle.std.specs.Prelude.{Bool, true, false, Some, None, Option}
use Rattle.messages.specs.declared.assignments.Assignment.{Assignment}
use Rattle.messages.specs.declared.kinds.Up.{Up}
use Rattle.messages.specs.declared.kinds.Up.TheVariants as up
use Rattle.messages.specs.declared.kinds.Reply.{Reply}
use Rattle.messages.specs.declared.kinds.Reply.TheVariants as reply
use Rattle.messages.specs.declared.kinds.Down.{Down}
use Rattle.messages.specs.declared.kinds.Down.TheVariants as down
use Rattle.messages.specs.declared.kinds.Kind.{Kind}
use Rattle.messages.specs.declared.kinds.Kind.TheVariants as kind

-- demands, data, purged and reports travel up; asks and replies travel down
abbrev pub goes_up : Kind → Bool
goes_up (kind.Up u) = true
goes_up (kind.Down d) = false

-- of the kinds that travel up, data
abbrev up_carries : Up → Option Assignment
up_carries (up.Demand k) = None
up_carries (up.Data a) = Some a
up_carries up.Purged = None
up_carries up.Report = None

-- of the replies, data_found
abbrev reply_carries : Reply → Option Assignment
reply_carries (reply.DataFound a) = Some a
reply_carries reply.ExclusionMade = None
reply_carries reply.NoDataFound = None

-- of the kinds that travel down, replies only
abbrev down_carries : Down → Option Assignment
down_carries (down.Ask a) = None
down_carries (down.Reply r) = reply_carries r

-- only data and data_found carry an assignment
abbrev pub carried : Kind → Option Assignment
carried (kind.Up u) = up_carries u
carried (kind.Down d) = down_carries d

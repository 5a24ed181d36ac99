-- A lane never holds more than three messages of the key.
use Rattle.std.proofs.Common.{ℕ, ◌+◌, ◌<◌, ◌≤◌, List, length, Some, None, Option, arith}
use Rattle.messages.specs.declared.assignments.Assignment.{Assignment}
use Rattle.messages.specs.declared.kinds.Ask.{Ask}
use Rattle.messages.specs.declared.kinds.Up.{Up}
use Rattle.messages.specs.declared.kinds.Kind.{Kind}
use Rattle.coherence.proofs.Views.{Role, absent, left, sharer, owner, sole, Standing, idle, waiting, serving, View, view, Receives, demand, shares, yields, purges, lets_go, gives_up, ReceivesAll, done, then, Tail, no_ask, one_ask, Lane, empty, asked_now, asked_before, reply_first, ask_then_reply}

-- how many messages a zone can still send before it hears from the directory: an answer if it is asked, a report if it is
-- listed or asked, a demand if it has no request
abbrev role_weight : Role → ℕ
role_weight absent = 0
role_weight left = 0
role_weight sharer = 1
role_weight owner = 1
role_weight sole = 1

abbrev standing_weight : Standing → ℕ
standing_weight idle = 1
standing_weight (waiting k) = 0
standing_weight (serving k) = 0

abbrev part_weight : Role → Option Ask → ℕ
part_weight ro None = role_weight ro
part_weight ro (Some a) = 2

abbrev weight : View → ℕ
weight (view ro q p) = part_weight ro q + standing_weight p

sharer_weighs : (q : Option Ask) → 1 ≤ part_weight sharer q
sharer_weighs None = omega arith
sharer_weighs (Some a) = omega arith

sole_weighs : (q : Option Ask) → 1 ≤ part_weight sole q
sole_weighs None = omega arith
sole_weighs (Some a) = omega arith

each_weighs : {c : Option Assignment} {v w : View} {m : Up} → Receives c v m w → weight w < weight v
each_weighs demand = omega arith
each_weighs shares = omega arith
each_weighs yields = omega arith
each_weighs purges = omega arith
each_weighs (lets_go {q = q}) = omega (arith, sharer_weighs q)
each_weighs (gives_up {q = q}) = omega (arith, sole_weighs q)

all_weigh : {c : Option Assignment} {v w : View} {ms : List Kind} → ReceivesAll c v ms w → length ms ≤ weight v
all_weigh done = omega arith
all_weigh (then g a) = omega (arith, each_weighs g, all_weigh a)

part_light : (ro : Role) (q : Option Ask) → part_weight ro q ≤ 2
part_light absent None = omega arith
part_light left None = omega arith
part_light sharer None = omega arith
part_light owner None = omega arith
part_light sole None = omega arith
part_light ro (Some a) = omega arith

standing_light : (p : Standing) → standing_weight p ≤ 1
standing_light idle = omega arith
standing_light (waiting k) = omega arith
standing_light (serving k) = omega arith

pub up_short : {c : Option Assignment} {ro : Role} {q : Option Ask} {p : Standing} {w : View} {ms : List Kind} → ReceivesAll c (view ro q p) ms w → length ms ≤ 3
up_short {ro = ro} {q = q} {p = p} a = omega (arith, all_weigh a, part_light ro q, standing_light p)

tail_short : {q : Option Ask} {d : List Kind} → Tail q d → length d ≤ 1
tail_short no_ask = omega arith
tail_short one_ask = omega arith

pub down_short : {v : View} {ms d : List Kind} → Lane v ms d → length d ≤ 3
down_short empty = omega arith
down_short (asked_now u) = omega arith
down_short asked_before = omega arith
down_short (reply_first t) = omega (arith, tail_short t)
down_short (ask_then_reply t) = omega (arith, tail_short t)

-- What a message from a zone does at the directory.
use Rattle.std.specs.Prelude.{ℕ, cond, ◌||◌, List, [], ◌∷◌, ◌++◌, replicate, Some, None, Option, ◌==◌, nat_lt}
use Rattle.messages.specs.declared.assignments.Assignment.{Assignment}
use Rattle.messages.specs.declared.kinds.Demand.{Demand}
use Rattle.messages.specs.declared.kinds.Ask.{Ask}
use Rattle.messages.specs.declared.kinds.Ask.TheVariants.{SendData, SendDataAndInvalidate, Invalidate}
use Rattle.messages.specs.declared.kinds.Up.{Up}
use Rattle.messages.specs.declared.kinds.Up.TheVariants as up
use Rattle.messages.specs.declared.kinds.Down.{Down}
use Rattle.messages.specs.declared.kinds.Kind.{Kind}
use Rattle.messages.specs.declared.kinds.Kind.TheVariants as kind
use Rattle.directory.specs.declared.rows.Waiting.{Waiting}
use Rattle.directory.specs.declared.rows.Served.{Served}
use Rattle.directory.specs.Lists.{listed, without}
use Rattle.directory.specs.Directory.{Directory, directory, Outcome, refused, went, busy}
use Rattle.directory.specs.Serving.{awaited_for, serves_on}

-- no zone gets a message
abbrev pub to_nobody : List (Option Down)
to_nobody = replicate 8 None

-- a demand joins the waiting ones; 17 where one of its zone waits or is served
abbrev pub demand_arrives : Demand → ℕ → Directory → Outcome
demand_arrives k zone d =
    cond (listed (busy d) zone) (refused 17 d)
    (went to_nobody None (directory d.list (d.waiting ++ record { zone = zone; demand = k } ∷ []) d.served))

-- the served request once data has come
abbrev pub with_data : Served → Assignment → Served
with_data s a = record { zone = s.zone; demand = s.demand; was_listed = s.was_listed; owner = s.owner; found = Some a; owner_purged = s.owner_purged }

-- the served request once a zone's purged message has come
abbrev pub with_purged : Served → ℕ → Served
with_purged s zone = record { zone = s.zone; demand = s.demand; was_listed = s.was_listed; owner = s.owner; found = s.found; owner_purged = s.owner_purged || (zone == s.owner) }

-- data from a zone, by what it is awaited for: under fetching it strikes the zone off the list
abbrev pub data_by : Option Ask → Served → Assignment → ℕ → List ℕ → List Waiting → Outcome
data_by None s a zone list ws = refused 17 (directory list ws (Some s))
data_by (Some SendData) s a zone list ws = serves_on to_nobody (with_data s a) list ws
data_by (Some SendDataAndInvalidate) s a zone list ws = serves_on to_nobody (with_data s a) (without zone list) ws
data_by (Some Invalidate) s a zone list ws = refused 17 (directory list ws (Some s))

-- purged from a zone, by what it is awaited for: it strikes the zone off the list
abbrev pub purged_by : Option Ask → Served → ℕ → List ℕ → List Waiting → Outcome
purged_by None s zone list ws = refused 17 (directory list ws (Some s))
purged_by (Some SendData) s zone list ws = refused 17 (directory list ws (Some s))
purged_by (Some SendDataAndInvalidate) s zone list ws = refused 17 (directory list ws (Some s))
purged_by (Some Invalidate) s zone list ws = serves_on to_nobody (with_purged s zone) (without zone list) ws

-- data from a zone: 17 where no request is served
abbrev pub data_arrives : Option Served → Assignment → ℕ → List ℕ → List Waiting → Outcome
data_arrives None a zone list ws = refused 17 (directory list ws None)
data_arrives (Some s) a zone list ws = data_by (awaited_for s list zone) s a zone list ws

-- purged from a zone: 17 where no request is served
abbrev pub purged_arrives : Option Served → ℕ → List ℕ → List Waiting → Outcome
purged_arrives None zone list ws = refused 17 (directory list ws None)
purged_arrives (Some s) zone list ws = purged_by (awaited_for s list zone) s zone list ws

-- a report strikes its zone off the list, and ends the wait for it
abbrev pub report_by : Option Served → ℕ → List ℕ → List Waiting → Outcome
report_by None zone list ws = went to_nobody None (directory (without zone list) ws None)
report_by (Some s) zone list ws = serves_on to_nobody s (without zone list) ws

-- a report from a zone: 17 where the zone is not listed
abbrev pub report_arrives : ℕ → Directory → Outcome
report_arrives zone d = cond (listed d.list zone) (report_by d.served zone d.list d.waiting) (refused 17 d)

-- a message that travels up, by its kind
abbrev pub up_arrives : Up → ℕ → Directory → Outcome
up_arrives (up.Demand k) zone d = demand_arrives k zone d
up_arrives (up.Data a) zone d = data_arrives d.served a zone d.list d.waiting
up_arrives up.Purged zone d = purged_arrives d.served zone d.list d.waiting
up_arrives up.Report zone d = report_arrives zone d

-- a kind that travels down has no place in an up lane
abbrev pub arrives : Kind → ℕ → Directory → Outcome
arrives (kind.Up u) zone d = up_arrives u zone d
arrives (kind.Down m) zone d = refused 17 d

-- there is no zone above 7
abbrev pub delivered : Kind → ℕ → Directory → Outcome
delivered k zone d = cond (nat_lt zone 8) (arrives k zone d) (refused 17 d)

-- The central pool beside the zones: a settled request is served by the table at that moment, and its answer is kept.
use Rattle.std.specs.Prelude.{ℕ, cond, Some, None, Option, nat_lt, slice_index_or, slice_set}
use Rattle.messages.specs.declared.requests.Request.{Request}
use Rattle.messages.specs.declared.requests.Answer.{Answer}
use Rattle.messages.specs.Central.{answered, left}
use Rattle.sorter.specs.declared.central.Central.{Central}
use Rattle.sorter.specs.declared.central.Served.{Served}

-- by whether it is one of the three zones, or above zone 2
abbrev pub of_three : {X : Type 0} → ℕ → X → X → X
of_three zone there above = cond (nat_lt zone 3) there above

-- a zone that has started nothing
abbrev pub untouched : Served
untouched = record { under_way = None; kept = None }

-- what the table has of a zone
abbrev pub of_zone : Central → ℕ → Served
of_zone c zone = slice_index_or c.zones zone untouched

-- a request is under way at a zone, and the answer kept there stays
abbrev pub accepted : Central → ℕ → Request → Central
accepted c zone q =
    of_three zone (record { held = c.held; zones = slice_set c.zones zone (record { under_way = Some q; kept = (of_zone c zone).kept }) }) c

-- the request under way, if any, is served by the table
abbrev pub served_by : Option Request → Central → ℕ → Central
served_by None c zone = c
served_by (Some q) c zone =
    record { held = left q c.held; zones = slice_set c.zones zone (record { under_way = None; kept = Some (answered q c.held) }) }

abbrev pub settled : Central → ℕ → Central
settled c zone = of_three zone (served_by (of_zone c zone).under_way c zone) c

-- the answer kept for a zone's request
abbrev pub kept_for : Central → ℕ → Option Answer
kept_for c zone = of_three zone (of_zone c zone).kept None

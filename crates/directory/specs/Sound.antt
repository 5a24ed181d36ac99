-- What every record is: its zones are distinct and below 8, and a reader that is served is not listed.
use Rattle.std.specs.Prelude.{ℕ, Bool, true, false, cond, not, List, [], ◌∷◌, Some, None, Option, nat_lt}
use Rattle.messages.specs.declared.kinds.Demand.{Demand}
use Rattle.messages.specs.declared.kinds.Demand.TheVariants.{GetSharedData, GetExclusiveData, GetExclusiveDataIfAny, GetRemovedData, Exclude, ExcludeIfAny, PurgeOthers, PurgeAndExclude, PurgeAll}
use Rattle.directory.specs.declared.rows.Served.{Served}
use Rattle.directory.specs.Lists.{listed}
use Rattle.directory.specs.Directory.{Directory, busy}

-- distinct zones, each below 8
abbrev pub proper : List ℕ → Bool
proper [] = true
proper (z ∷ zs) = cond (nat_lt z 8) (cond (listed zs z) false (proper zs)) false

-- whether a demand is get_shared_data
abbrev pub reads_shared : Demand → Bool
reads_shared GetSharedData = true
reads_shared GetExclusiveData = false
reads_shared GetExclusiveDataIfAny = false
reads_shared GetRemovedData = false
reads_shared Exclude = false
reads_shared ExcludeIfAny = false
reads_shared PurgeOthers = false
reads_shared PurgeAndExclude = false
reads_shared PurgeAll = false

-- a zone that is served a shared copy is not listed
abbrev pub reader_apart : Option Served → List ℕ → Bool
reader_apart None list = true
reader_apart (Some s) list = cond (reads_shared s.demand) (not (listed list s.zone)) true

-- the cache list has distinct zones; the waiting and served requests come from distinct zones; a reader is not listed
abbrev pub sound : Directory → Bool
sound d = cond (proper d.list) (cond (proper (busy d)) (reader_apart d.served d.list) false) false

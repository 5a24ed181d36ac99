-- The take-up of the first waiting request.
use Rattle.std.specs.Prelude.{ℕ, Bool, true, false, cond, ◌&&◌, List, [], ◌∷◌, map, Some, None, Option}
use Rattle.std.specs.List.{range_with_len}
use Rattle.messages.specs.declared.kinds.Demand.{Demand}
use Rattle.messages.specs.declared.kinds.Demand.TheVariants.{GetSharedData, GetExclusiveData, GetExclusiveDataIfAny, GetRemovedData, Exclude, ExcludeIfAny, PurgeOthers, PurgeAndExclude, PurgeAll}
use Rattle.messages.specs.declared.kinds.Ask.{Ask}
use Rattle.messages.specs.declared.kinds.Down.{Down}
use Rattle.messages.specs.declared.kinds.Down.TheVariants as down
use Rattle.directory.specs.declared.rows.Waiting.{Waiting}
use Rattle.directory.specs.declared.rows.Served.{Served}
use Rattle.directory.specs.Lists.{listed}
use Rattle.directory.specs.Directory.{Directory, directory, Outcome, refused}
use Rattle.directory.specs.Serving.{awaited_for, serves_on}

-- the demands that only a zone without a copy sends
abbrev pub wants_data : Demand → Bool
wants_data GetSharedData = true
wants_data GetExclusiveData = true
wants_data GetExclusiveDataIfAny = true
wants_data GetRemovedData = true
wants_data Exclude = false
wants_data ExcludeIfAny = false
wants_data PurgeOthers = false
wants_data PurgeAndExclude = false
wants_data PurgeAll = false

-- the owner: the first zone of a list; of an empty list, where nobody is ever asked, 0 stands in
abbrev pub owner_of : List ℕ → ℕ
owner_of [] = 0
owner_of (z ∷ zs) = z

-- a request as its serving begins
abbrev pub begun : Waiting → List ℕ → Served
begun w list =
    record { zone = w.zone; demand = w.demand; was_listed = listed list w.zone; owner = owner_of list; found = None; owner_purged = false }

-- an ask as a kind that travels down
abbrev pub as_down : Option Ask → Option Down
as_down None = None
as_down (Some a) = Some (down.Ask a)

-- what each of the eight zones is asked
unfoldable pub asks : Served → List ℕ → List (Option Down)
asks s list = map (λ zone. as_down (awaited_for s list zone)) (range_with_len 0 8)

-- 16 where none waits, 17 where a listed zone wants data; else the first is served
abbrev pub takes_first : List ℕ → List Waiting → Outcome
takes_first list [] = refused 16 (directory list [] None)
takes_first list (w ∷ ws) =
    cond (listed list w.zone && wants_data w.demand)
    (refused 17 (directory list (w ∷ ws) None))
    (serves_on (asks (begun w list) list) (begun w list) list ws)

-- 15 while a request is served
abbrev pub takes_up : List ℕ → List Waiting → Option Served → Outcome
takes_up list ws (Some s) = refused 15 (directory list ws (Some s))
takes_up list ws None = takes_first list ws

-- what a take-up comes to
abbrev pub taken_up : Directory → Outcome
taken_up d = takes_up d.list d.waiting d.served

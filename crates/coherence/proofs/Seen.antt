-- The directory's view of each zone, read off its record.
use Rattle.std.proofs.Common.{ℕ, Bool, true, false, cond, eqb, List, [], ◌∷◌, Some, None, Option}
use Rattle.messages.specs.declared.kinds.Demand.{Demand}
use Rattle.messages.specs.declared.kinds.Ask.{Ask}
use Rattle.directory.specs.declared.rows.Waiting.{Waiting}
use Rattle.directory.specs.declared.rows.Served.{Served}
use Rattle.directory.specs.Lists.{listed}
use Rattle.directory.specs.Directory.{Directory}
use Rattle.directory.specs.Serving.{awaited_for}
use Rattle.directory.specs.TakeUp.{owner_of}
use Rattle.coherence.proofs.Views.{Role, absent, sharer, owner, sole, Standing, idle, waiting, serving, View, view}

-- the owner's role, by whether somebody else is listed
abbrev pub owner_role : List ℕ → Role
owner_role [] = owner
owner_role (x ∷ []) = sole
owner_role (x ∷ y ∷ ys) = owner

-- by whether the zone is listed, and whether it is the owner
abbrev pub role_by : Bool → Bool → Role → Role
role_by false head ro = absent
role_by true false ro = sharer
role_by true true ro = ro

-- the role of y in a list whose owner is or was o
abbrev pub role_under : ℕ → List ℕ → ℕ → Role
role_under o xs y = role_by (listed xs y) (eqb y o) (owner_role xs)

-- while a request is served the owner is the one at its take-up
abbrev pub role_in : List ℕ → Option Served → ℕ → Role
role_in xs None y = role_under (owner_of xs) xs y
role_in xs (Some s) y = role_under s.owner xs y

abbrev pub asked_in : List ℕ → Option Served → ℕ → Option Ask
asked_in xs None y = None
asked_in xs (Some s) y = awaited_for s xs y

-- the demand that a zone has waiting
abbrev pub waiting_of : List Waiting → ℕ → Option Demand
waiting_of [] y = None
waiting_of (w ∷ ws) y = cond (eqb w.zone y) (Some w.demand) (waiting_of ws y)

-- whose demand is served, and which
abbrev pub served_of : Option Served → Option (ℕ × Demand)
served_of None = None
served_of (Some s) = Some (s.zone, s.demand)

abbrev pub standing_by : Option Demand → Option (ℕ × Demand) → ℕ → Standing
standing_by (Some k) s y = waiting k
standing_by None None y = idle
standing_by None (Some e) y = cond (eqb y e.0) (serving e.1) idle

abbrev pub standing_in : List Waiting → Option Served → ℕ → Standing
standing_in ws sv y = standing_by (waiting_of ws y) (served_of sv) y

abbrev pub seen : Directory → ℕ → View
seen d y = view (role_in d.list d.served y) (asked_in d.list d.served y) (standing_in d.waiting d.served y)

-- Lists of up to eight items, and lists of zones.
use Rattle.std.specs.Prelude.{ℕ, Bool, true, false, cond, not, List, [], ◌∷◌, take, Some, None, filter, Option, ◌==◌}
use Rattle.directory.specs.declared.lists.ShortList.{ShortList}

-- the items of a short list, first to last
abbrev pub items_of : {X : Type 0} → ShortList X → List X
items_of l = take l.used l.items

-- the first item, if any
abbrev pub first_of : {X : Type 0} → List X → Option X
first_of [] = None
first_of (x ∷ xs) = Some x

-- all but the first item
abbrev pub rest_of : {X : Type 0} → List X → List X
rest_of [] = []
rest_of (x ∷ xs) = xs

-- whether a zone is on a list
abbrev pub listed : List ℕ → ℕ → Bool
listed [] zone = false
listed (z ∷ zs) zone = cond (z == zone) true (listed zs zone)

-- a list with a zone struck off
abbrev pub without : ℕ → List ℕ → List ℕ
without zone zs = filter (λ z. not (z == zone)) zs

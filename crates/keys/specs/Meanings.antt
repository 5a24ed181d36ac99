-- What the keys of each kind mean: a list of numbers.
use Rattle.std.specs.Prelude.{ℕ, List, [], ◌∷◌}
use Rattle.keys.specs.declared.kinds.GroupNumber.{GroupNumber}
use Rattle.keys.specs.declared.kinds.CageTag.{CageTag}

-- a group number means its number
abbrev pub group_meaning : GroupNumber → List ℕ
group_meaning group = group.number ∷ []

-- a cage tag means its carrier and its cage; the reprint number is no part of it
abbrev pub tag_meaning : CageTag → List ℕ
tag_meaning tag = tag.carrier ∷ tag.cage ∷ []

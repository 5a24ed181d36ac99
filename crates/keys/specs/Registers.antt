-- A register as its row and the keys in use at the row's front.
use Rattle.std.specs.Prelude.{◌≡◌, ◌≤◌, List, length, take, drop}
use Rattle.keys.specs.declared.key.Key.{Ghosts}
use Rattle.keys.specs.declared.register.Register.{Register}

-- the whole row
abbrev pub row_of : {K : Type 0} {key : Ghosts K} → Register K key → List K
row_of r = r.row.now

-- the keys in use, in order of place
abbrev pub in_use : {K : Type 0} {key : Ghosts K} → Register K key → List K
in_use r = take r.used (row_of r)

-- the rest of the row
abbrev pub rest_of : {K : Type 0} {key : Ghosts K} → Register K key → List K
rest_of r = drop r.used (row_of r)

-- what a call may write of the lent row: the places of keys that came into use, and nothing else
pub record RowKept {K : Type 0} {key : Ghosts K} (before after : Register K key) : Type 0 where
  -- it is the same row
  pub lender : after.row.ghost_name ≡ before.row.ghost_name
  pub len : length (row_of after) ≡ length (row_of before)
  -- no key goes out of use
  pub grows : length (in_use before) ≤ length (in_use after)
  -- past the keys in use the row is as it was
  pub rest : drop (length (in_use after)) (row_of after) ≡ drop (length (in_use after)) (row_of before)

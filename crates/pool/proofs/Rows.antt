-- Rows of the table, by their views.
use Rattle.std.proofs.Common.{◌≡◌, ℕ, ◌<◌, Bool, true, false, cond, List, map, length, get_or, set, replicate, Some, None, Option, sym, refl, ap, ◌∙◌, arith}
use Rattle.std.proofs.lemmas.List.{map-set, get_or-map}
use Rattle.std.specs.Option.{IsSome}
use Rattle.directory.specs.declared.records.Record.{Record}
use Rattle.directory.specs.declared.rows.Row.{Row}
use Rattle.directory.specs.Directory.{Directory, view_of}
use Rattle.directory.specs.Records.{row_in}
use Rattle.directory.specs.Sound.{sound}
use Rattle.calls.specs.Model.{fresh_row}
use Rattle.pool.specs.Rows.{SoundRows}
use Rattle.pool.proofs.Places.{set_each, replicate_each}

pub set_sound : (rows : List Row) (at : ℕ) (row row' : Row) → row ≡ row' → sound (view_of row') ≡ true → SoundRows (map view_of rows) → SoundRows (map view_of (set rows at row))
set_sound rows at row row' e new old place =
    rw (map-set view_of rows at row) (set_each (λ (d : Directory). sound d ≡ true) (map view_of rows) at (view_of row) fresh_row (rw e new) old place)

pub fresh_sound : (ds : List Directory) → ds ≡ replicate 32 fresh_row → SoundRows ds
fresh_sound ds e place = rw e (replicate_each (λ (d : Directory). sound d ≡ true) 32 fresh_row fresh_row refl refl place)

pub set_view : (rows : List Row) (at : ℕ) (row row' : Row) → row ≡ row' → map view_of (set rows at row) ≡ set (map view_of rows) at (view_of row')
set_view rows at row row' e = map-set view_of rows at row ∙ ap (λ (x : Row). set (map view_of rows) at (view_of x)) e

-- a check that holds lets the row through
passed : (r row : Row) (b : Bool) → Some r ≡ cond b (Some row) None → r ≡ row
passed r row b e = grind arith

found_in : (o : Option Record) (row : Row) (b : Bool) → b ≡ true → row_in o ≡ cond b (Some row) None → IsSome o
found_in (Some x) row b t e = refl
found_in None row true t e = cc
found_in None row false t e = cc

-- the record of the row at a place, read at any default
module _ (rows : List Row) (place : ℕ) (d : Row) (h : place < length rows) (o : Option Record) (e : row_in o ≡ cond (sound (view_of (get_or rows place d))) (Some (get_or rows place d)) None) where
  here : view_of (get_or rows place d) ≡ get_or (map view_of rows) place fresh_row
  here = sym (get_or-map view_of rows place d fresh_row h)

  pub view_at : (x : Record) → o ≡ Some x → view_of x.row ≡ get_or (map view_of rows) place fresh_row
  view_at x is = ap view_of (passed x.row (get_or rows place d) _ (ap row_in (sym is) ∙ e)) ∙ here

  pub found : SoundRows (map view_of rows) → IsSome o
  found ok = found_in o (get_or rows place d) _ (ap sound here ∙ ok place) e

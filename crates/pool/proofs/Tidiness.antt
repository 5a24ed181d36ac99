-- Tables in which each place has what was loaded there: as they begin, and after a load.
use Rattle.std.proofs.Common.{◌≡◌, ℕ, ◌+◌, ◌*◌, ◌<◌, true, eqb, ltb, ◌≢◌, List, [], ◌∷◌, map, length, get_or, set, replicate, None, sym, refl, ap, ◌∙◌, ⊎_elim, arith}
use Rattle.std.proofs.lemmas.List.{get_or-set_same, get_or-set_other, length-map}
use Rattle.std.proofs.lemmas.Bool.{cases_eq, cond-true, cond-false, eq-eqb, ne_eqb, lt-ltb, and_from}
use Rattle.messages.specs.declared.assignments.Assignment.{Assignment}
use Rattle.line.specs.declared.states.State.{State}
use Rattle.line.specs.declared.states.State.TheVariants.{Invalid, Exclusive}
use Rattle.directory.specs.declared.rows.Row.{Row}
use Rattle.directory.specs.Directory.{Directory, directory, view_of}
use Rattle.calls.specs.declared.slots.Slot.{Slot}
use Rattle.calls.specs.Model.{slot, blank_slot, fresh_row}
use Rattle.pool.specs.Tidy.{is_invalid, is_exclusive, tidy_row, tidy_line, TidyRows, TidyLines}
use Rattle.pool.proofs.Places.{set_each, replicate_each}

pub fresh_line : (k : ℕ) → (get_or (replicate 256 blank_slot) k blank_slot).line.state ≡ Invalid
fresh_line k = replicate_each (λ (s : Slot). s.line.state ≡ Invalid) 256 blank_slot blank_slot refl refl k

pub fresh_rows : (ds : List Directory) → ds ≡ replicate 32 fresh_row → TidyRows ds
fresh_rows ds e place = rw e (replicate_each (λ (d : Directory). tidy_row d ≡ true) 32 fresh_row fresh_row refl refl place)

fresh_at : (zone place : ℕ) (l : State) → l ≡ Invalid → tidy_line (get_or (replicate 32 fresh_row) place fresh_row).list zone l ≡ true
fresh_at zone place l e =
    let here : is_invalid l ≡ true = ap is_invalid e in
    replicate_each (λ (d : Directory). tidy_line d.list zone l ≡ true) 32 fresh_row fresh_row here here place

pub fresh_lines : (slots : List Slot) (ds : List Directory) → slots ≡ replicate 256 blank_slot → ds ≡ replicate 32 fresh_row → TidyLines slots ds
fresh_lines slots ds p q zone place h = rw (p, q) (fresh_at zone place _ (fresh_line (zone * 32 + place)))

module _ (slots : List Slot) (ds : List Directory) (zone place : ℕ) (a : Assignment) (zone_below : zone < 8) (place_below : place < 32) where
  abbrev slots' : List Slot
  slots' = set slots (zone * 32 + place) (slot (Exclusive a) 0)

  abbrev ds' : List Directory
  ds' = set ds place (directory (zone ∷ []) [] None)

  pub load_rows : TidyRows ds → TidyRows ds'
  load_rows tidy k = set_each (λ (d : Directory). tidy_row d ≡ true) ds place (directory (zone ∷ []) [] None) fresh_row (and_from (ltb zone 8) true (lt-ltb zone 8 zone_below) refl) tidy k

  -- a line that is not written
  other_line : (z p : ℕ) → z * 32 + p ≢ zone * 32 + place → (get_or slots' (z * 32 + p) blank_slot).line.state ≡ (get_or slots (z * 32 + p) blank_slot).line.state
  other_line z p ne = ap (λ (s : Slot). s.line.state) (get_or-set_other slots (zone * 32 + place) (z * 32 + p) (slot (Exclusive a) 0) blank_slot ne)

  -- the lines at the place that is loaded
  here_line : length slots ≡ 256 → (z : ℕ) → tidy_line [] z (get_or slots (z * 32 + place) blank_slot).line.state ≡ true → tidy_line (zone ∷ []) z (get_or slots' (z * 32 + place) blank_slot).line.state ≡ true
  here_line many z old = ⊎_elim
      (λ (same : z ≡ zone).
      cond-true (eqb z zone) _ _ (eq-eqb z zone same)
      ∙ ap (λ (n : ℕ). is_exclusive (get_or slots' (n * 32 + place) blank_slot).line.state) same
      ∙ ap (λ (s : Slot). is_exclusive s.line.state) (get_or-set_same slots (zone * 32 + place) (slot (Exclusive a) 0) blank_slot (omega arith)))
      (λ (ne : z ≡ zone → ⊥).
      let apart : z * 32 + place ≢ zone * 32 + place = omega arith in
      cond-false (eqb z zone) _ _ (ne_eqb z zone ne) ∙ ap is_invalid (other_line z place apart) ∙ old)
      (cases_eq z zone)

  pub load_lines : length slots ≡ 256 → length ds ≡ 32 → (get_or ds place fresh_row).list ≡ [] → TidyLines slots ds → TidyLines slots' ds'
  load_lines many_slots many_rows free tidy z p h = ⊎_elim
      (λ (same : p ≡ place).
      let old : tidy_line [] z (get_or slots (z * 32 + place) blank_slot).line.state ≡ true =
      ap (λ (zs : List ℕ). tidy_line zs z (get_or slots (z * 32 + place) blank_slot).line.state) (sym free) ∙ tidy z place (h.0, place_below) in
      ap (λ (q : ℕ). tidy_line (get_or ds' q fresh_row).list z (get_or slots' (z * 32 + q) blank_slot).line.state) same
      ∙ ap (λ (d : Directory). tidy_line d.list z (get_or slots' (z * 32 + place) blank_slot).line.state) (get_or-set_same ds place (directory (zone ∷ []) [] None) fresh_row (omega arith))
      ∙ here_line many_slots z old)
      (λ (ne : p ≡ place → ⊥).
      let below : p < 32 = h.1 in
      let apart : z * 32 + p ≢ zone * 32 + place = omega arith in
      ap (λ (l : State). tidy_line (get_or ds' p fresh_row).list z l) (other_line z p apart)
      ∙ ap (λ (d : Directory). tidy_line d.list z (get_or slots (z * 32 + p) blank_slot).line.state) (get_or-set_other ds place p (directory (zone ∷ []) [] None) fresh_row ne)
      ∙ tidy z p h)
      (cases_eq p place)

-- the same, of tables that equal those
pub loaded_rows : (slots : List Slot) (ds : List Directory) (zone place : ℕ) (a : Assignment) → zone < 8 → place < 32 → (ds' : List Directory) → ds' ≡ set ds place (directory (zone ∷ []) [] None) → TidyRows ds → TidyRows ds'
loaded_rows slots ds zone place a z p ds' e tidy k = rw e (load_rows slots ds zone place a z p tidy k)

pub loaded_lines : (slots : List Slot) (rows : List Row) (zone place : ℕ) (a : Assignment) → zone < 8 → place < 32 → (slots' : List Slot) (ds' : List Directory)
    → slots' ≡ set slots (zone * 32 + place) (slot (Exclusive a) 0) → ds' ≡ set (map view_of rows) place (directory (zone ∷ []) [] None)
    → length slots ≡ 256 → length rows ≡ 32 → (get_or (map view_of rows) place fresh_row).list ≡ [] → TidyLines slots (map view_of rows) → TidyLines slots' ds'
loaded_lines slots rows zone place a z p slots' ds' e f many_slots many_rows free tidy x y h =
    rw (e, f) (load_lines slots (map view_of rows) zone place a z p many_slots (length-map rows view_of ∙ many_rows) free tidy x y h)

-- A pool as it is opened: each place has what was loaded there.
use Rattle.std.proofs.Common.{◌≡◌, ℕ, ◌<◌, true, false, eqb, ltb, List, [], ◌∷◌, length, Some, None, Option, sym, refl, ap, ◌∙◌, ⊎_elim}
use Rattle.std.proofs.lemmas.Bool.{cases_eq, cond-true, cond-false, eq-eqb, ne_eqb, ltb-true, and_parts, false≢true}
use Rattle.line.specs.declared.states.State.{State}
use Rattle.line.specs.declared.states.State.TheVariants.{Invalid, Exclusive}
use Rattle.directory.specs.declared.rows.Waiting.{Waiting}
use Rattle.directory.specs.declared.rows.Served.{Served}
use Rattle.directory.specs.Directory.{Directory, directory}
use Rattle.transport.specs.Lanes.{all_empty}
use Rattle.calls.specs.Model.{Model, state_at, row_at}
use Rattle.calls.specs.Opening.{Load, loaded_row, loaded_state, ZoneBelow, JustOpened}
use Rattle.pool.specs.Tidy.{is_invalid, is_exclusive, tidy_row, tidy_line, TidyRows, TidyLines}
use Rattle.pool.specs.Stocks.{held_by, load_by, loads_in}

invalid : (l : State) → is_invalid l ≡ true → l ≡ Invalid
invalid Invalid e = refl
invalid _ e = absurd (false≢true e)

record Placed (d : Directory) (states : ℕ → State) (load : Load) : Type 0 where
  below : ZoneBelow load
  row : d ≡ loaded_row load
  lines : (zone : ℕ) → zone < 8 → states zone ≡ loaded_state load zone

module _ (states : ℕ → State) where
  -- the listed zone's line
  alone : (z : ℕ) (l : State) → states z ≡ l → is_exclusive l ≡ true → z < 8 → ((zone : ℕ) → zone < 8 → tidy_line (z ∷ []) zone (states zone) ≡ true) → Placed (directory (z ∷ []) [] None) states (held_by z l)
  alone z (Exclusive a) is e below tidy =
      record {
        below = below;
        row = refl;
        lines = λ zone h. ⊎_elim
            (λ (same : zone ≡ z). ap states same ∙ is ∙ sym (cond-true (eqb zone z) (Exclusive a) Invalid (eq-eqb zone z same)))
            (λ (ne : zone ≡ z → ⊥).
            let off = ne_eqb zone z ne in
            invalid (states zone) (sym (cond-false (eqb zone z) (is_exclusive (states zone)) (is_invalid (states zone)) off) ∙ tidy zone h) ∙ sym (cond-false (eqb zone z) (Exclusive a) Invalid off))
            (cases_eq zone z);
      }
  alone z _ is e below tidy = absurd (false≢true e)

  placed : (list : List ℕ) (ws : List Waiting) (served : Option Served) → tidy_row (directory list ws served) ≡ true → ((zone : ℕ) → zone < 8 → tidy_line list zone (states zone) ≡ true) → Placed (directory list ws served) states (load_by states list)
  placed [] [] None t tidy = record { below = tt; row = refl; lines = λ zone h. invalid (states zone) (tidy zone h) }
  placed [] [] (Some s) t tidy = absurd (false≢true t)
  placed [] (w ∷ ws) served t tidy = absurd (false≢true t)
  placed (z ∷ []) [] None t tidy =
      let below : z < 8 = ltb-true z 8 (and_parts (ltb z 8) true t).0 in
      alone z (states z) refl (sym (cond-true (eqb z z) (is_exclusive (states z)) (is_invalid (states z)) (eq-eqb z z refl)) ∙ tidy z below) below tidy
  placed (z ∷ []) [] (Some s) t tidy = absurd (false≢true (and_parts (ltb z 8) false t).1)
  placed (z ∷ []) (w ∷ ws) served t tidy = absurd (false≢true (and_parts (ltb z 8) false t).1)
  placed (z ∷ y ∷ zs) ws served t tidy = absurd (false≢true t)

pub just_opened : (m : Model) → m.lanes ≡ all_empty → length m.slots ≡ 256 → length m.rows ≡ 32 → m.next ≡ m.plan.first_number → TidyRows m.rows → TidyLines m.slots m.rows → JustOpened m (loads_in m)
just_opened m lanes slots rows next tidy-rows tidy-lines =
    record {
      lanes_empty = lanes;
      many_slots = slots;
      many_rows = rows;
      first_next = next;
      zones = λ place h. (at place h).below;
      rows_loaded = λ place h. (at place h).row;
      lines_loaded = λ zone place l h. (at place h).lines zone l;
    }
  where
    at : (place : ℕ) → place < 32 → Placed (row_at m place) (λ zone. state_at m zone place) (loads_in m place)
    at place h = placed (λ zone. state_at m zone place) (row_at m place).list (row_at m place).waiting (row_at m place).served (tidy-rows place) (λ zone l. tidy-lines zone place (l, h))

-- The tables of lines and of directory rows, with one entry set.
use Rattle.std.proofs.Common.{◌≡◌, ℕ, ◌+◌, ◌*◌, ◌<◌, false, eqb, List, length, get_or, set, arith}
use Rattle.std.proofs.lemmas.List.{get_or-set_same, get_or-set_other}
use Rattle.std.proofs.lemmas.Bool.{eqb-false}
use Rattle.directory.specs.Directory.{Directory}
use Rattle.calls.specs.declared.slots.Slot.{Slot}
use Rattle.calls.specs.Model.{blank_slot, fresh_row}

-- the table of lines has a row of 32 places for each of eight zones
pub slot_set_here : (slots : List Slot) (z p : ℕ) (s : Slot) → length slots ≡ 256 → z < 8 → p < 32 → get_or (set slots (z * 32 + p) s) (z * 32 + p) blank_slot ≡ s
slot_set_here slots z p s long hz hp = get_or-set_same slots (z * 32 + p) s blank_slot (omega arith)

pub slot_set_other_zone : (slots : List Slot) (z p y q : ℕ) (s : Slot) → p < 32 → q < 32 → eqb y z ≡ false → get_or (set slots (z * 32 + p) s) (y * 32 + q) blank_slot ≡ get_or slots (y * 32 + q) blank_slot
slot_set_other_zone slots z p y q s hp hq e = get_or-set_other slots (z * 32 + p) (y * 32 + q) s blank_slot (λ w. eqb-false y z e (omega arith))

pub slot_set_other_place : (slots : List Slot) (z p y q : ℕ) (s : Slot) → p < 32 → q < 32 → eqb q p ≡ false → get_or (set slots (z * 32 + p) s) (y * 32 + q) blank_slot ≡ get_or slots (y * 32 + q) blank_slot
slot_set_other_place slots z p y q s hp hq e = get_or-set_other slots (z * 32 + p) (y * 32 + q) s blank_slot (λ w. eqb-false q p e (omega arith))

pub row_set_here : (rows : List Directory) (p : ℕ) (d : Directory) → length rows ≡ 32 → p < 32 → get_or (set rows p d) p fresh_row ≡ d
row_set_here rows p d long h = get_or-set_same rows p d fresh_row (omega arith)

pub row_set_elsewhere : (rows : List Directory) (p q : ℕ) (d : Directory) → eqb q p ≡ false → get_or (set rows p d) q fresh_row ≡ get_or rows q fresh_row
row_set_elsewhere rows p q d e = get_or-set_other rows p q d fresh_row (eqb-false q p e)

-- Questions to every lane and to every row.
use Rattle.std.proofs.Common.{◌≡◌, ℕ, suc, ◌+◌, ◌<◌, Bool, true, false, cond, not, ◌&&◌, List, [], ◌∷◌, map, length, is_some, Some, None, Option, refl, ap, ◌∙◌, subst, arith}
use Rattle.std.specs.Option.{MatchOption}
use Rattle.std.specs.List.{list_all, range_with_len}
use Rattle.messages.specs.declared.kinds.Message.{Message}
use Rattle.directory.specs.declared.rows.Row.{Row}
use Rattle.directory.specs.declared.rows.Waiting.{Waiting}
use Rattle.directory.specs.Directory.{view_of}
use Rattle.directory.specs.Lists.{first_of}
use Rattle.directory.specs.declared.records.Record.{Record}
use Rattle.directory.specs.Records.{row_in}
use Rattle.directory.specs.Sound.{sound}
use Rattle.transport.specs.Lanes.{Lists, lane_number, lane_at, oldest_of, oldest_at}
use Rattle.calls.specs.Questions.{no_messages, lanes_empty, none_wait, rows_calm}
use Rattle.pool.specs.Questions.{lane_of, lane_is_empty}
use Rattle.pool.specs.Rows.{SoundRows}

-- a test of each number from k on, where it tests the lists one after the other
all_from : (lists : Lists) (test : ℕ → Bool) (k : ℕ) → ((i : ℕ) → i < length lists → test (k + i) ≡ no_messages (lane_at lists i)) → list_all test (range_with_len k (length lists)) ≡ lanes_empty lists
all_from [] test k h = refl
all_from (l ∷ ls) test k h =
    let first : test (k + 0) ≡ no_messages l = h 0 (omega arith) in
    let here : k + 0 ≡ k = omega arith in
    let rest : list_all test (range_with_len (k + 1) (length ls)) ≡ lanes_empty ls = all_from ls test (k + 1) (λ i below. let next : (k + 1) + i ≡ k + suc i = omega arith in ap test next ∙ h (suc i) (omega arith)) in
    cc

no_oldest : (l : List Message) → not (is_some (oldest_of l)) ≡ no_messages l
no_oldest [] = refl
no_oldest (m ∷ ms) = refl

lane_numbered : (i : ℕ) → i < 16 → lane_number (lane_of i) ≡ Some i
lane_numbered i below = grind arith

pub all_lanes : (lists : Lists) → length lists ≡ 16 → list_all (lane_is_empty lists) (range_with_len 0 16) ≡ lanes_empty lists
all_lanes lists many =
    subst (λ (n : ℕ). list_all (lane_is_empty lists) (range_with_len 0 n) ≡ lanes_empty lists) many
    (all_from lists (lane_is_empty lists) 0 (λ i below. let here : 0 + i ≡ i = omega arith in ap (lane_is_empty lists) here ∙ ap (λ o. not (is_some (oldest_at lists o))) (lane_numbered i (omega arith)) ∙ no_oldest (lane_at lists i)))

pub none_waits : (ws : List Waiting) → not (is_some (first_of ws)) ≡ none_wait ws
none_waits [] = refl
none_waits (w ∷ ws) = refl

-- a row's test, from what the check of the row and the record's question say
pub row_calm : (row : Row) (r : Option Record) → row_in r ≡ cond (sound (view_of row)) (Some row) None → (b : Bool) → MatchOption r (b ≡ false) (λ x. b ≡ not (is_some (first_of (view_of x.row).waiting))) → b ≡ (sound (view_of row) && none_wait (view_of row).waiting)
row_calm row r e b h = go (sound (view_of row)) r e h
  where
    go : (s : Bool) (o : Option Record) → row_in o ≡ cond s (Some row) None → MatchOption o (b ≡ false) (λ x. b ≡ not (is_some (first_of (view_of x.row).waiting))) → b ≡ (s && none_wait (view_of row).waiting)
    go true None e h = cc
    go false None e h = h
    go true (Some x) e h =
        let same : x.row ≡ row = cc in
        h ∙ none_waits (view_of x.row).waiting ∙ ap (λ (y : Row). none_wait (view_of y).waiting) same
    go false (Some x) e h = cc

pub all_rows : (rows : List Row) → SoundRows (map view_of rows) → list_all (λ row. sound (view_of row) && none_wait (view_of row).waiting) rows ≡ rows_calm (map view_of rows)
all_rows [] ok = refl
all_rows (row ∷ rows) ok =
    let here : sound (view_of row) ≡ true = ok 0 in
    let rest : list_all (λ row. sound (view_of row) && none_wait (view_of row).waiting) rows ≡ rows_calm (map view_of rows) = all_rows rows (λ place. ok (suc place)) in
    ap (λ (b : Bool). (b && none_wait (view_of row).waiting) && list_all (λ row. sound (view_of row) && none_wait (view_of row).waiting) rows) here
    ∙ ap (λ (b : Bool). none_wait (view_of row).waiting && b) rest

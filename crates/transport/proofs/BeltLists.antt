-- What the belt holds, as a list: what a push, a removal and a look at one lane do to it and to the lists that it shows.
use Rattle.std.proofs.Common.{◌≡◌, ℕ, zero, suc, ◌+◌, ◌-◌, ◌<◌, ◌≤◌, Bool, cond, ltb, ◌≢◌, List, [], ◌∷◌, ◌++◌, map, length, get_or, take, drop, set, filter, Some, None, sym, refl, ap, ◌∙◌, subst, ⊎_elim, add-one, arith}
use borrow.Rule.Slice.PartMut.{put_mid}
use Rattle.std.specs.List.{range_with_len, remove, AllByRecursion, sum_by, count_by, position, position_or_len}
use Rattle.std.proofs.lemmas.List.{same_lists, append-nil, append_assoc, map-append, length-map, length-set, length-take, length-take-le, length-drop, length-append, get_or-set_same, get_or-set_other, take-append-drop, take-take, take_at, drop_more, drop_all, drop-drop, set-get_or, get_or-take}
use Rattle.std.proofs.lemmas.List.FromFn.{length-map-range_with_len, get_or-map-range_with_len, sum_by-map-range_with_len_more}
use Rattle.std.proofs.lemmas.List.Elements.{filter-append}
use Rattle.std.proofs.lemmas.List.Quantifiers.{position-Some}
use Rattle.std.proofs.lemmas.List.Sums.{sum_by-cons, length-filter, fails_before_first}
use Rattle.std.proofs.lemmas.Slice.{between_is}
use Rattle.std.proofs.ByRecursion.{All-from_get_or}
use Rattle.std.proofs.lemmas.Bool.{cases_eq, cond-true, cond-false, eq-eqb, ne_eqb, eqb-true, eqb-false, lt-ltb}
use Rattle.std.proofs.lemmas.Bool.Decides.{nat_tests}
use Rattle.messages.specs.declared.kinds.Message.{Message}
use Rattle.transport.specs.declared.entry.Entry.{Entry}
use Rattle.transport.specs.declared.belt.Belt.{Belt}
use Rattle.transport.specs.Lanes.{Lists, lane_at, joined_at, removed_at, all_empty}
use Rattle.transport.specs.Ring.{blank}
use Rattle.transport.specs.Room.{waiting_in}
use Rattle.transport.specs.Belt.{held, of_lane, entry_of, lane_of, lanes_of, belt_lists}

abbrev below : ℕ → Entry → Bool
below n e = ltb e.lane n

-- how many messages wait
count_step : (n : ℕ) (es : List Entry) → count_by (below (n + 1)) es ≡ count_by (below n) es + count_by (of_lane n) es
count_step n [] = refl
count_step n (e ∷ es) =
    let h = count_step n es in
    let here : cond {A = ℕ} (below (n + 1) e) 1 0 ≡ cond (below n e) 1 0 + cond (of_lane n e) 1 0 = grind (arith, nat_tests) in
    omega (arith, sum_by-cons (λ (x : Entry). cond (below (n + 1) x) 1 0) e es, sum_by-cons (λ (x : Entry). cond (below n x) 1 0) e es, sum_by-cons (λ (x : Entry). cond (of_lane n x) 1 0) e es)

count_none : (es : List Entry) → count_by (below 0) es ≡ 0
count_none [] = refl
count_none (e ∷ es) =
    let h = count_none es in
    let here : cond {A = ℕ} (below 0 e) 1 0 ≡ 0 = grind (arith, nat_tests) in
    omega (arith, sum_by-cons (λ (x : Entry). cond (below 0 x) 1 0) e es)

count_all : (es : List Entry) → AllByRecursion (λ e. e.lane < 16) es → count_by (below 16) es ≡ length es
count_all [] h = refl
count_all (e ∷ es) (l, h) =
    let ih = count_all es h in
    let here : cond {A = ℕ} (below 16 e) 1 0 ≡ 1 = cond-true (below 16 e) 1 0 (lt-ltb e.lane 16 l) in
    omega (arith, sum_by-cons (λ (x : Entry). cond (below 16 x) 1 0) e es)

waiting_below : (es : List Entry) (n : ℕ) → sum_by length (map (lane_of es) (range_with_len 0 n)) ≡ count_by (below n) es
waiting_below es zero = sym (count_none es)
waiting_below es (suc n) =
    let ih = waiting_below es n in
    let more = sum_by-map-range_with_len_more length (lane_of es) 0 n n (omega arith) in
    let lane : length (lane_of es n) ≡ count_by (of_lane n) es = length-map (filter (of_lane n) es) (λ (e : Entry). e.message) ∙ length-filter (of_lane n) es in
    let sum : sum_by length (map (lane_of es) (range_with_len 0 (n + 1))) ≡ count_by (below (n + 1)) es = omega (arith, count_step n es) in
    rw add-one at sum

pub waiting_all : (es : List Entry) → ((k : ℕ) (d : Entry) → k < length es → (get_or es k d).lane < 16) → waiting_in (lanes_of es) ≡ length es
unfolding lanes_of
waiting_all es small = waiting_below es 16 ∙ count_all es (All-from_get_or (λ (e : Entry). e.lane < 16) es (entry_of 0 blank) (λ i l. small i (entry_of 0 blank) l))

-- one lane
pub lane_is : (es : List Entry) (i : ℕ) → i < 16 → lane_at (lanes_of es) i ≡ lane_of es i
unfolding lanes_of
lane_is es i l = get_or-map-range_with_len (lane_of es) 0 16 i i [] l (omega arith)

pub count_is : (es : List Entry) (i : ℕ) → i < 16 → length (filter (of_lane i) es) ≡ length (lane_at (lanes_of es) i)
count_is es i small = sym (length-map (filter (of_lane i) es) (λ (x : Entry). x.message)) ∙ sym (ap length (lane_is es i small))

-- lists that differ in one lane
pub changed_one : (es fs : List Entry) (i : ℕ) → i < 16 → ((k : ℕ) → (k ≢ i) → lane_of fs k ≡ lane_of es k) → lanes_of fs ≡ set (lanes_of es) i (lane_of fs i)
unfolding lanes_of
changed_one es fs i small same =
    let old : Lists = map (lane_of es) (range_with_len 0 16) in
    let lo : length old ≡ 16 = length-map-range_with_len (lane_of es) 0 16 in
    let ln : length (map (lane_of fs) (range_with_len 0 16)) ≡ 16 = length-map-range_with_len (lane_of fs) 0 16 in
    same_lists _ _ (ln ∙ sym (length-set old i (lane_of fs i) ∙ lo))
    (λ k d h. let l : k < 16 = omega arith in
    get_or-map-range_with_len (lane_of fs) 0 16 k k d l (omega arith) ∙ ⊎_elim
    (λ (e : k ≡ i). subst (λ (x : ℕ). lane_of fs x ≡ get_or (set old i (lane_of fs i)) x d) (sym e) (sym (get_or-set_same old i (lane_of fs i) d (omega arith))))
    (λ (ne : k ≡ i → ⊥). same k ne ∙ sym (get_or-set_other old i k (lane_of fs i) d ne ∙ get_or-map-range_with_len (lane_of es) 0 16 k k d l (omega arith)))
    (cases_eq k i))

lane_append : (p q : List Entry) (k : ℕ) → lane_of (p ++ q) k ≡ lane_of p k ++ lane_of q k
lane_append p q k = ap (map (λ (e : Entry). e.message)) (filter-append (of_lane k) p q) ∙ map-append (λ (e : Entry). e.message) (filter (of_lane k) p) (filter (of_lane k) q)

lane_cons_same : (e : Entry) (q : List Entry) (k : ℕ) → e.lane ≡ k → lane_of (e ∷ q) k ≡ e.message ∷ lane_of q k
lane_cons_same e q k h = ap (map (λ (x : Entry). x.message)) (cond-true (of_lane k e) _ _ (eq-eqb e.lane k h))

lane_cons_other : (e : Entry) (q : List Entry) (k : ℕ) → (e.lane ≢ k) → lane_of (e ∷ q) k ≡ lane_of q k
lane_cons_other e q k h = ap (map (λ (x : Entry). x.message)) (cond-false (of_lane k e) _ _ (ne_eqb e.lane k h))

pub lane_none : (p : List Entry) (k : ℕ) → ((j : ℕ) (d : Entry) → j < length p → (get_or p j d).lane ≢ k) → lane_of p k ≡ []
lane_none [] k h = refl
lane_none (e ∷ p) k h = lane_cons_other e p k (h 0 e (omega arith)) ∙ lane_none p k (λ j d l. h (suc j) d (omega arith))

-- the entries from place k on, and their messages of lane i
module _ (es : List Entry) (i k : ℕ) (d : Entry) (within : k < length es) where
  pub lane_here : (get_or es k d).lane ≡ i → lane_of (drop k es) i ≡ (get_or es k d).message ∷ lane_of (drop (k + 1) es) i
  lane_here h = ap (λ (xs : List Entry). lane_of xs i) (drop_more es k d within) ∙ lane_cons_same (get_or es k d) (drop (k + 1) es) i h

  pub lane_past : ((get_or es k d).lane ≢ i) → lane_of (drop k es) i ≡ lane_of (drop (k + 1) es) i
  lane_past h = ap (λ (xs : List Entry). lane_of xs i) (drop_more es k d within) ∙ lane_cons_other (get_or es k d) (drop (k + 1) es) i h

-- a push
pub lists_pushed : (es : List Entry) (i : ℕ) (m : Message) → i < 16 → lanes_of (es ++ entry_of i m ∷ []) ≡ joined_at (lanes_of es) i m
lists_pushed es i m small =
    let other : (k : ℕ) → (k ≢ i) → lane_of (es ++ entry_of i m ∷ []) k ≡ lane_of es k =
    λ k ne. lane_append es (entry_of i m ∷ []) k ∙ ap (λ (xs : List Message). lane_of es k ++ xs) (lane_cons_other (entry_of i m) [] k (λ e. ne (sym e))) ∙ append-nil (lane_of es k) in
    let here : lane_of (es ++ entry_of i m ∷ []) i ≡ lane_at (lanes_of es) i ++ m ∷ [] =
    lane_append es (entry_of i m ∷ []) i ∙ ap (λ (xs : List Message). lane_of es i ++ xs) (lane_cons_same (entry_of i m) [] i refl) ∙ ap (λ (xs : List Message). xs ++ m ∷ []) (sym (lane_is es i small)) in
    changed_one es (es ++ entry_of i m ∷ []) i small other ∙ ap (λ (xs : List Message). set (lanes_of es) i xs) here

-- at place j stands the first entry of lane i
abbrev pub First : List Entry → ℕ → ℕ → Type 0
First es i j = (j < length es) × ((d : Entry) → (get_or es j d).lane ≡ i) × ((k : ℕ) (d : Entry) → k < j → (get_or es k d).lane ≢ i)

-- a removal of the first of its lane
module _ (es : List Entry) (i j : ℕ) (small : i < 16) (first : First es i j) where
  split : (d : Entry) → es ≡ take j es ++ (get_or es j d ∷ drop (suc j) es)
  split d = sym (take-append-drop j es) ∙ ap (λ (xs : List Entry). take j es ++ xs) (drop_more es j d first.0 ∙ ap (λ (n : ℕ). get_or es j d ∷ drop n es) (add-one j))

  before : lane_of (take j es) i ≡ []
  before =
      let w : j < length es = first.0 in
      let long : length (take j es) ≡ j = length-take-le j es (omega arith) in
      lane_none (take j es) i (λ k d l e. let s : k < j = omega arith in first.2 k d s (ap (λ (x : Entry). x.lane) (sym (get_or-take j es k d s)) ∙ e))

  pub lane_first : (d : Entry) → lane_at (lanes_of es) i ≡ (get_or es j d).message ∷ lane_of (drop (suc j) es) i
  lane_first d =
      lane_is es i small ∙ ap (λ (xs : List Entry). lane_of xs i) (split d) ∙ lane_append (take j es) (get_or es j d ∷ drop (suc j) es) i
      ∙ ap (λ (xs : List Message). xs ++ lane_of (get_or es j d ∷ drop (suc j) es) i) before ∙ lane_cons_same (get_or es j d) (drop (suc j) es) i (first.1 d)

  pub lists_removed : (d : Entry) → lanes_of (remove es j) ≡ removed_at (lanes_of es) i
  lists_removed d =
      let other : (k : ℕ) → (k ≢ i) → lane_of (remove es j) k ≡ lane_of es k =
      λ k ne. lane_append (take j es) (drop (suc j) es) k
      ∙ ap (λ (xs : List Message). lane_of (take j es) k ++ xs) (sym (lane_cons_other (get_or es j d) (drop (suc j) es) k (λ e. ne (sym e ∙ first.1 d))))
      ∙ sym (ap (λ (xs : List Entry). lane_of xs k) (split d) ∙ lane_append (take j es) (get_or es j d ∷ drop (suc j) es) k) in
      let here : lane_of (remove es j) i ≡ drop 1 (lane_at (lanes_of es) i) =
      lane_append (take j es) (drop (suc j) es) i ∙ ap (λ (xs : List Message). xs ++ lane_of (drop (suc j) es) i) before
      ∙ sym (ap (λ (xs : List Message). drop 1 xs) (lane_first d)) in
      changed_one es (remove es j) i small other ∙ ap (λ (xs : List Message). set (lanes_of es) i xs) here

-- what `position` finds, and what it means that it finds nothing
pub first_found : (es : List Entry) (i j : ℕ) → Some j ≡ position (of_lane i) es → First es i j
first_found es i j e =
    let at = λ (d : Entry). position-Some (of_lane i) es j d (sym e) in (
      (at (entry_of 0 blank)).0,
      λ d. eqb-true (get_or es j d).lane i (at d).1,
      λ k d l. eqb-false (get_or es k d).lane i ((at d).2 k l),
    )

pub none_found : (es : List Entry) (i : ℕ) → None ≡ position (of_lane i) es → lane_of es i ≡ []
none_found es i e =
    let past : length es ≤ position_or_len (of_lane i) es = grind (arith, nat_tests) in
    lane_none es i (λ k d l. eqb-false (get_or es k d).lane i (fails_before_first (of_lane i) es k d (omega arith)))

-- a lane with nothing in it
pub lists_same : (lists : Lists) (i : ℕ) → lane_at lists i ≡ [] → lists ≡ removed_at lists i
lists_same lists i e = sym (ap (λ (xs : List Message). set lists i (drop 1 xs)) e ∙ ap (λ (xs : List Message). set lists i xs) (sym e) ∙ set-get_or lists i [])

-- of a belt
pub length_held : (belt : Belt) → length (held belt) ≡ belt.len
length_held belt =
    let long = belt.long in
    length-take-le belt.len belt.entries (omega arith)

-- the entries of a belt from place k on, and their messages of lane i
module _ (belt : Belt) (i k : ℕ) (d : Entry) (within : k < belt.len) where
  held_from : drop k (held belt) ≡ get_or belt.entries k d ∷ drop (k + 1) (held belt)
  held_from =
      let n = length_held belt in
      drop_more (held belt) k d (omega arith) ∙ ap (λ (e : Entry). e ∷ drop (k + 1) (held belt)) (get_or-take belt.len belt.entries k d within)

  pub lane_from_same : (get_or belt.entries k d).lane ≡ i → lane_of (drop k (held belt)) i ≡ (get_or belt.entries k d).message ∷ lane_of (drop (k + 1) (held belt)) i
  lane_from_same h = ap (λ (es : List Entry). lane_of es i) held_from ∙ lane_cons_same (get_or belt.entries k d) (drop (k + 1) (held belt)) i h

  pub lane_from_other : ((get_or belt.entries k d).lane ≢ i) → lane_of (drop k (held belt)) i ≡ lane_of (drop (k + 1) (held belt)) i
  lane_from_other h = ap (λ (es : List Entry). lane_of es i) held_from ∙ lane_cons_other (get_or belt.entries k d) (drop (k + 1) (held belt)) i h

pub lane_from_end : (belt : Belt) (i k : ℕ) → belt.len ≤ k → lane_of (drop k (held belt)) i ≡ []
lane_from_end belt i k past =
    let n = length_held belt in
    ap (λ (es : List Entry). lane_of es i) (drop_all k (held belt) (omega arith))

-- one of n messages to leave out is left out
pub one_out : (n : ℕ) (m : Message) (ms : List Message) → (n ≢ 0) → drop (n - 1) ms ≡ drop n (m ∷ ms)
one_out zero m ms some = absurd (some refl)
one_out (suc n) m ms some = ap (λ (k : ℕ). drop k ms) (omega arith)

pub lanes_none : lanes_of [] ≡ all_empty
unfolding lanes_of
lanes_none = refl

pub waiting_held : (belt : Belt) → waiting_in (belt_lists belt) ≡ belt.len
waiting_held belt =
    let n = length_held belt in
    waiting_all (held belt) (λ k d l. subst (λ (e : Entry). e.lane < 16) (sym (get_or-take belt.len belt.entries k d (omega arith))) (belt.lanes k d (omega arith))) ∙ n

-- what holds of the first n holds of one more
pub one_more : (xs : List Entry) (n : ℕ) (e : Entry) → n < length xs → e.lane < 16
    → ((k : ℕ) (d : Entry) → k < n → (get_or xs k d).lane < 16) → (k : ℕ) (d : Entry) → k < n + 1 → (get_or (set xs n e) k d).lane < 16
one_more xs n e within small old k d l = ⊎_elim
    (λ (same : k ≡ n). subst (λ (x : ℕ). (get_or (set xs n e) x d).lane < 16) (sym same) (rw (get_or-set_same xs n e d within) small))
    (λ (ne : k ≡ n → ⊥). rw (get_or-set_other xs n k e d ne) (old k d (omega arith)))
    (cases_eq k n)

-- one less: the part from a to n was turned by one, and the last entry is left out
pub one_less : (xs ys : List Entry) (a n : ℕ) → a < n → n ≤ length xs
    → ys ≡ drop 1 (take (n - a) (drop a xs)) ++ take 1 (take (n - a) (drop a xs))
    → take (n - 1) (put_mid a (n - a) xs ys) ≡ remove (take n xs) a
one_less xs ys a n below within turned =
    let mid : List Entry = take (n - a) (drop a xs) in
    let post : List Entry = drop (n - a) (drop a xs) in
    let front : List Entry = take a xs ++ drop 1 mid in
    let long : length front ≡ n - 1 = simp (length-append, length-take, length-drop) (omega arith) in
    let split : put_mid a (n - a) xs ys ≡ front ++ (take 1 mid ++ post) =
    ap (λ (zs : List Entry). take a xs ++ (zs ++ post)) turned ∙ simp append_assoc in
    let rest : drop 1 mid ≡ drop (suc a) (take n xs) = ap (λ (zs : List Entry). drop 1 zs) (between_is xs a n) ∙ drop-drop 1 a (take n xs) ∙ ap (λ (m : ℕ). drop m (take n xs)) (add-one a) in
    ap (λ (zs : List Entry). take (n - 1) zs) split ∙ take_at front (take 1 mid ++ post) (n - 1) long
    ∙ ap (λ (zs : List Entry). zs ++ drop 1 mid) (sym (take-take a n xs (omega arith))) ∙ ap (λ (zs : List Entry). take a (take n xs) ++ zs) rest

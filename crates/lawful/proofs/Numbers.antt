-- Request numbers: which waiting line has which number, and what the onlooker knows of it.
use Rattle.std.proofs.Common.{◌≡◌, ℕ, ◌+◌, ◌<◌, ◌≤◌, Bool, true, false, cond, eqb, ◌⊎◌, List, Some, Option, sym, refl, ap, ◌∙◌, subst, inl, inr, ⊎_elim, arith, eq-eqb, eqb-true}
use Rattle.std.proofs.lemmas.Bool.{cases_eq}
use Rattle.messages.specs.declared.requests.Request.{Request}
use Rattle.calls.specs.Onlookers.{Entry, unused, accepted, settled, answered, with_entry}
use Rattle.calls.specs.Law.{Outstanding}

-- an entry of a number that a line waits for is about the key of the line's place
abbrev pub KeyOf : Entry → Option (List ℕ) → Type 0
KeyOf unused k = Unit {0}
KeyOf (accepted key q) k = k ≡ Some key
KeyOf (settled key q a) k = k ≡ Some key
KeyOf answered k = Unit {0}

abbrev pub Here : ℕ → ℕ → ℕ → ℕ → Type 0
Here y q z p = (y ≡ z) × (q ≡ p)

-- some line waits for the number n
pub record Holder (W : ℕ → ℕ → Bool) (N : ℕ → ℕ → ℕ) (n : ℕ) : Type 0 where
  pub zone : ℕ
  pub place : ℕ
  pub zone_below : zone < 8
  pub place_below : place < 32
  pub waiting : W zone place ≡ true
  pub number : N zone place ≡ n

-- W tells which lines wait, N their numbers, by zone and place; es what the onlooker knows, K the keys by place
pub record Numbers (W : ℕ → ℕ → Bool) (N : ℕ → ℕ → ℕ) (es : ℕ → Entry) (next : ℕ) (K : ℕ → Option (List ℕ)) : Type 0 where
  pub below : (z p : ℕ) → z < 8 → p < 32 → W z p ≡ true → N z p < next
  pub apart : (y q z p : ℕ) → y < 8 → q < 32 → z < 8 → p < 32 → W y q ≡ true → W z p ≡ true → N y q ≡ N z p → Here y q z p
  pub keys : (z p : ℕ) → z < 8 → p < 32 → W z p ≡ true → KeyOf (es (N z p)) (K p)
  pub held : (n : ℕ) → Outstanding (es n) → Holder W N n
  pub ahead : (n : ℕ) → next ≤ n → es n ≡ unused

-- the line of another zone or place is as before
abbrev pub Elsewhere : (W W' : ℕ → ℕ → Bool) (N N' : ℕ → ℕ → ℕ) → ℕ → ℕ → Type 0
Elsewhere W W' N N' z p = (y q : ℕ) → y < 8 → q < 32 → (Here y q z p → ⊥) → (W' y q ≡ W y q) × (N' y q ≡ N y q)

pub is_here : (y q z p : ℕ) → Here y q z p ⊎ (Here y q z p → ⊥)
is_here y q z p =
    ⊎_elim
    (λ (e : y ≡ z). ⊎_elim (λ (f : q ≡ p). inl (e, f)) (λ (n : q ≡ p → ⊥). inr (λ h. n h.1)) (cases_eq q p))
    (λ (n : y ≡ z → ⊥). inr (λ h. n h.0))
    (cases_eq y z)

no_bool : true ≡ false → ⊥
no_bool e = let z : ◌≡◌ {A = ℕ} 0 1 = ap (λ (b : Bool). cond b 0 1) e in omega arith

-- a number's entry after one entry is written
pub entry_here : (es : ℕ → Entry) (n : ℕ) (e : Entry) → with_entry es n e n ≡ e
entry_here es n e = rw (eq-eqb n n refl)

pub entry_elsewhere : (es : ℕ → Entry) (n m : ℕ) (e : Entry) → (m ≡ n → ⊥) → with_entry es n e m ≡ es m
entry_elsewhere es n m e h = go (eqb m n) refl
  where
    go : (b : Bool) → eqb m n ≡ b → cond b e (es m) ≡ es m
    go true t = absurd (h (eqb-true m n t))
    go false t = refl

module _ {W : ℕ → ℕ → Bool} {N : ℕ → ℕ → ℕ} {es : ℕ → Entry} {next : ℕ} {K : ℕ → Option (List ℕ)} (old : Numbers W N es next K) (W' : ℕ → ℕ → Bool) (N' : ℕ → ℕ → ℕ) where
  -- the same lines wait for the same numbers; entries may be settled
  pub numbers_same : (es' : ℕ → Entry) →
      ((y q : ℕ) → y < 8 → q < 32 → (W' y q ≡ W y q) × (N' y q ≡ N y q)) →
      ((n : ℕ) (k : Option (List ℕ)) → KeyOf (es n) k → KeyOf (es' n) k) →
      ((n : ℕ) → Outstanding (es' n) → Outstanding (es n)) →
      ((n : ℕ) → next ≤ n → es' n ≡ es n) →
      Numbers W' N' es' next K
  numbers_same es' same keyed out later =
      record {
        below = λ z p hz hp w. let s = same z p hz hp in subst (λ n. n < next) (sym s.1) (old.below z p hz hp (sym s.0 ∙ w));
        apart = λ y q z p hy hq hz hp v w e. let s = same y q hy hq in let t = same z p hz hp in
            old.apart y q z p hy hq hz hp (sym s.0 ∙ v) (sym t.0 ∙ w) (sym s.1 ∙ e ∙ t.1);
        keys = λ z p hz hp w. let s = same z p hz hp in
            subst (λ n. KeyOf (es' n) (K p)) (sym s.1) (keyed (N z p) (K p) (old.keys z p hz hp (sym s.0 ∙ w)));
        held = λ n h. let o = old.held n (out n h) in let s = same o.zone o.place o.zone_below o.place_below in
            record { zone = o.zone; place = o.place; zone_below = o.zone_below; place_below = o.place_below; waiting = s.0 ∙ o.waiting; number = s.1 ∙ o.number };
        ahead = λ n h. later n h ∙ old.ahead n h;
      }

module _ {W : ℕ → ℕ → Bool} {N : ℕ → ℕ → ℕ} {es : ℕ → Entry} {next : ℕ} {K : ℕ → Option (List ℕ)} (old : Numbers W N es next K) (W' : ℕ → ℕ → Bool) (N' : ℕ → ℕ → ℕ)
    (z p : ℕ) (hz : z < 8) (hp : p < 32) (others : Elsewhere W W' N N' z p) where
  -- the holder of a number is another line than one that did not wait, or waited for another number
  moved_holder : (n : ℕ) → (h : Holder W N n) → (Here h.zone h.place z p → ⊥) → Holder W' N' n
  moved_holder n h ne =
      let s = others h.zone h.place h.zone_below h.place_below ne in
      record { zone = h.zone; place = h.place; zone_below = h.zone_below; place_below = h.place_below; waiting = s.0 ∙ h.waiting; number = s.1 ∙ h.number }

  -- the line waited, and now is answered
  pub numbers_answered : W z p ≡ true → W' z p ≡ false → Numbers W' N' (with_entry es (N z p) answered) next K
  numbers_answered was is =
      record {
        below = λ y q hy hq v. ⊎_elim
            (λ (h : Here y q z p). absurd (idle y q h v))
            (λ (ne : Here y q z p → ⊥). let s = others y q hy hq ne in subst (λ n. n < next) (sym s.1) (old.below y q hy hq (sym s.0 ∙ v)))
            (is_here y q z p);
        apart = λ y q x r hy hq hx hr v w e. ⊎_elim
            (λ (h : Here y q z p). absurd (idle y q h v))
            (λ (ne : Here y q z p → ⊥). ⊎_elim
            (λ (h : Here x r z p). absurd (idle x r h w))
            (λ (me : Here x r z p → ⊥). let s = others y q hy hq ne in let t = others x r hx hr me in
            old.apart y q x r hy hq hx hr (sym s.0 ∙ v) (sym t.0 ∙ w) (sym s.1 ∙ e ∙ t.1))
            (is_here x r z p))
            (is_here y q z p);
        keys = λ y q hy hq v. ⊎_elim
            (λ (h : Here y q z p). absurd (idle y q h v))
            (λ (ne : Here y q z p → ⊥). let s = others y q hy hq ne in
            let v' = sym s.0 ∙ v in
            let apart-number : N y q ≡ N z p → ⊥ = λ e. ne (old.apart y q z p hy hq hz hp v' was e) in
            subst (λ (n : ℕ). KeyOf (with_entry es (N z p) answered n) (K q)) (sym s.1)
            (subst (λ (e : Entry). KeyOf e (K q)) (sym (entry_elsewhere es (N z p) (N y q) answered apart-number)) (old.keys y q hy hq v')))
            (is_here y q z p);
        held = λ n h. ⊎_elim
            (λ (e : n ≡ N z p). absurd (subst Outstanding (ap (with_entry es (N z p) answered) e ∙ entry_here es (N z p) answered) h))
            (λ (ne : n ≡ N z p → ⊥).
            let o = old.held n (subst Outstanding (entry_elsewhere es (N z p) n answered ne) h) in
            moved_holder n o (λ e. ne (sym o.number ∙ ap (λ (x : ℕ). N x o.place) e.0 ∙ ap (λ (x : ℕ). N z x) e.1)))
            (cases_eq n (N z p));
        ahead = λ n h. let ne : n ≡ N z p → ⊥ = λ e. omega (arith, old.below z p hz hp was) in entry_elsewhere es (N z p) n answered ne ∙ old.ahead n h;
      }
    where
      idle : (y q : ℕ) → Here y q z p → W' y q ≡ true → ⊥
      idle y q h v = no_bool (sym v ∙ ap (λ (x : ℕ). W' x q) h.0 ∙ ap (λ (x : ℕ). W' z x) h.1 ∙ is)

  module _ (was : W z p ≡ false) (K' : ℕ → Option (List ℕ)) (more : (q : ℕ) (k : List ℕ) → K q ≡ Some k → K' q ≡ Some k) where
    keyed_more : (e : Entry) (q : ℕ) → KeyOf e (K q) → KeyOf e (K' q)
    keyed_more unused q h = tt
    keyed_more (accepted key r) q h = more q key h
    keyed_more (settled key r a) q h = more q key h
    keyed_more answered q h = tt

    -- a holder is another line, since this one did not wait
    other_holder : (n : ℕ) → (h : Holder W N n) → Here h.zone h.place z p → ⊥
    other_holder n h e = no_bool (sym h.waiting ∙ ap (λ (x : ℕ). W x h.place) e.0 ∙ ap (λ (x : ℕ). W z x) e.1 ∙ was)

    -- what stays known of another line that waits
    other_key : (e : Entry) (y q : ℕ) → y < 8 → q < 32 → (Here y q z p → ⊥) → W' y q ≡ true → KeyOf (with_entry es next e (N' y q)) (K' q)
    other_key e y q hy hq ne v =
        let s = others y q hy hq ne in
        let v' = sym s.0 ∙ v in
        let fresh : N y q ≡ next → ⊥ = λ (i : N y q ≡ next). omega (arith, old.below y q hy hq v') in
        subst (λ (n : ℕ). KeyOf (with_entry es next e n) (K' q)) (sym s.1)
        (subst (λ (x : Entry). KeyOf x (K' q)) (sym (entry_elsewhere es next (N y q) e fresh)) (keyed_more (es (N y q)) q (old.keys y q hy hq v')))

    later : (e : Entry) (n : ℕ) → next + 1 ≤ n → with_entry es next e n ≡ unused
    later e n h = let ne : n ≡ next → ⊥ = λ (i : n ≡ next). omega arith in entry_elsewhere es next n e ne ∙ old.ahead n (omega arith)

    -- the line did not wait, and starts to wait for the next number
    pub numbers_started : (key : List ℕ) (r : Request) → W' z p ≡ true → N' z p ≡ next → K' p ≡ Some key → Numbers W' N' (with_entry es next (accepted key r)) (next + 1) K'
    numbers_started key r is at_next k =
        record {
          below = λ y q hy hq v. ⊎_elim
              (λ (h : Here y q z p). let e : N' y q ≡ next = number_here y q h in omega arith)
              (λ (ne : Here y q z p → ⊥). let s = others y q hy hq ne in let b = old.below y q hy hq (sym s.0 ∙ v) in let e = s.1 in omega arith)
              (is_here y q z p);
          apart = λ y q x t hy hq hx ht v w e. ⊎_elim
              (λ (h : Here y q z p). ⊎_elim
              (λ (i : Here x t z p). (h.0 ∙ sym i.0, h.1 ∙ sym i.1))
              (λ (me : Here x t z p → ⊥). let s = others x t hx ht me in let b = old.below x t hx ht (sym s.0 ∙ w) in let n = number_here y q h in let m = s.1 in absurd (omega arith))
              (is_here x t z p))
              (λ (ne : Here y q z p → ⊥). let s = others y q hy hq ne in ⊎_elim
              (λ (i : Here x t z p). let b = old.below y q hy hq (sym s.0 ∙ v) in let n = number_here x t i in let m = s.1 in absurd (omega arith))
              (λ (me : Here x t z p → ⊥). let u = others x t hx ht me in
              old.apart y q x t hy hq hx ht (sym s.0 ∙ v) (sym u.0 ∙ w) (sym s.1 ∙ e ∙ u.1))
              (is_here x t z p))
              (is_here y q z p);
          keys = λ y q hy hq v. ⊎_elim
              (λ (h : Here y q z p).
              subst (λ (n : ℕ). KeyOf (with_entry es next (accepted key r) n) (K' q)) (sym (number_here y q h))
              (subst (λ (x : Entry). KeyOf x (K' q)) (sym (entry_here es next (accepted key r))) (ap K' h.1 ∙ k)))
              (λ (ne : Here y q z p → ⊥). other_key (accepted key r) y q hy hq ne v)
              (is_here y q z p);
          held = λ n h. ⊎_elim
              (λ (e : n ≡ next). record { zone = z; place = p; zone_below = hz; place_below = hp; waiting = is; number = at_next ∙ sym e })
              (λ (ne : n ≡ next → ⊥). let o = old.held n (subst Outstanding (entry_elsewhere es next n (accepted key r) ne) h) in moved_holder n o (other_holder n o))
              (cases_eq n next);
          ahead = later (accepted key r);
        }
      where
        number_here : (y q : ℕ) → Here y q z p → N' y q ≡ next
        number_here y q h = ap (λ (x : ℕ). N' x q) h.0 ∙ ap (λ (x : ℕ). N' z x) h.1 ∙ at_next

    -- the line did not wait, and its request is answered in its start
    pub numbers_answered_at_start : W' z p ≡ false → Numbers W' N' (with_entry es next answered) (next + 1) K'
    numbers_answered_at_start is =
        record {
          below = λ y q hy hq v. let s = others y q hy hq (busy y q v) in let b = old.below y q hy hq (sym s.0 ∙ v) in let e = s.1 in omega arith;
          apart = λ y q x t hy hq hx ht v w e. let s = others y q hy hq (busy y q v) in let u = others x t hx ht (busy x t w) in
              old.apart y q x t hy hq hx ht (sym s.0 ∙ v) (sym u.0 ∙ w) (sym s.1 ∙ e ∙ u.1);
          keys = λ y q hy hq v. other_key answered y q hy hq (busy y q v) v;
          held = λ n h. ⊎_elim
              (λ (e : n ≡ next). absurd (subst Outstanding (ap (with_entry es next answered) e ∙ entry_here es next answered) h))
              (λ (ne : n ≡ next → ⊥). let o = old.held n (subst Outstanding (entry_elsewhere es next n answered ne) h) in moved_holder n o (other_holder n o))
              (cases_eq n next);
          ahead = later answered;
        }
      where
        busy : (y q : ℕ) → W' y q ≡ true → Here y q z p → ⊥
        busy y q v h = no_bool (sym v ∙ ap (λ (x : ℕ). W' x q) h.0 ∙ ap (λ (x : ℕ). W' z x) h.1 ∙ is)

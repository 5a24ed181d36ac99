-- What a sending and a take do to the messages of one place, lane by lane.
use Rattle.std.proofs.Common.{◌≡◌, ℕ, zero, suc, ◌+◌, ◌<◌, ◌≤◌, Bool, true, false, cond, ◌&&◌, eqb, ltb, List, [], ◌∷◌, ◌++◌, map, length, get_or, drop, set, replicate, is_some, Some, None, filter, Option, sym, refl, ap, ◌∙◌, subst, ⊎_elim, arith}
use Rattle.std.specs.List.{AllByRecursion}
use Rattle.std.proofs.lemmas.List.Elements.{filter-append}
use Rattle.std.proofs.ByRecursion.{All-push, All-drop}
use Rattle.std.proofs.lemmas.List.{length-set, get_or-set_same, get_or-set_other, get_or_past, set_past, append-nil, map-append}
use Rattle.std.proofs.lemmas.Bool.{eqb-true, eqb-false, eq-eqb, ne_eqb, ltb-true, lt-ltb, le-ltb, cond-true, cond_both, cases_lt, cases_eq, and_parts}
use Rattle.messages.specs.declared.kinds.Up.{Up as UpKind}
use Rattle.messages.specs.declared.kinds.Down.{Down as DownKind}
use Rattle.messages.specs.declared.kinds.Kind.{Kind}
use Rattle.messages.specs.declared.kinds.Message.{Message}
use Rattle.messages.specs.declared.assignments.Assignment.{Assignment}
use Rattle.messages.specs.declared.kinds.Ask.{Ask}
use Rattle.messages.specs.declared.kinds.Ask.TheVariants.{SendData, SendDataAndInvalidate, Invalidate}
use Rattle.messages.specs.declared.kinds.Up.TheVariants as up
use Rattle.messages.specs.declared.kinds.Kind.TheVariants as kind
use Rattle.directory.specs.declared.rows.Waiting.{Waiting}
use Rattle.directory.specs.declared.rows.Served.{Served}
use Rattle.directory.specs.Lists.{listed}
use Rattle.directory.specs.Directory.{Directory, directory, Outcome, refused, went, busy}
use Rattle.directory.specs.Serving.{awaited_for, awaits_any, ended, serves_on}
use Rattle.directory.specs.Arrivals.{to_nobody, with_data, with_purged, data_by, purged_by, data_arrives, purged_arrives, report_by, up_arrives, arrives, delivered}
use Rattle.directory.specs.TakeUp.{wants_data, begun, asks, takes_first, takes_up, taken_up}
use Rattle.transport.specs.declared.lanes.Lane.{Lane}
use Rattle.transport.specs.declared.lanes.Lane.TheVariants.{Up, Down}
use Rattle.transport.specs.Lanes.{Lists, lane_number, lane_at, oldest_of, oldest_at, oldest, joined_at, removed_at, taken_at, taken, all_empty}
use Rattle.transport.specs.Sending.{sent_to, posted_at, sent_below, down_message}
use Rattle.calls.specs.Sending.{up_message, sent_up, sends_any, sent_down}
use Rattle.calls.specs.Model.{fresh_row}
use Rattle.calls.specs.Questions.{no_messages, lanes_empty, none_wait, rows_calm}
use Rattle.lawful.proofs.Projections.{lane_of, up_of, down_of, up_kinds, down_kinds}

-- ── the messages of one place in one lane ──

lane_append : (q : ℕ) (xs ys : List Message) → lane_of q (xs ++ ys) ≡ lane_of q xs ++ lane_of q ys
lane_append q xs ys =
    ap (map (λ x. x.kind)) (filter-append (λ x. eqb x.place q) xs ys)
    ∙ map-append (λ x. x.kind) (filter (λ x. eqb x.place q) xs) (filter (λ x. eqb x.place q) ys)

-- a first message counts at its own place only
first_by : (q : ℕ) (x : Message) (ys : List Message) (b : Bool) → eqb x.place q ≡ b → lane_of q (x ∷ ys) ≡ cond b (x.kind ∷ lane_of q ys) (lane_of q ys)
first_by q x ys true e = ap (λ (b : Bool). map (λ x. x.kind) (cond b (x ∷ filter (λ x. eqb x.place q) ys) (filter (λ x. eqb x.place q) ys))) e
first_by q x ys false e = ap (λ (b : Bool). map (λ x. x.kind) (cond b (x ∷ filter (λ x. eqb x.place q) ys) (filter (λ x. eqb x.place q) ys))) e

first_here : (x : Message) (ys : List Message) → lane_of x.place (x ∷ ys) ≡ x.kind ∷ lane_of x.place ys
first_here x ys = first_by x.place x ys true (eq-eqb x.place x.place refl)

first_elsewhere : (q : ℕ) (x : Message) (ys : List Message) → eqb q x.place ≡ false → lane_of q (x ∷ ys) ≡ lane_of q ys
first_elsewhere q x ys e = first_by q x ys false (ne_eqb x.place q (λ w. eqb-false q x.place e (sym w)))

-- a zone's lanes in two pools agree at a place where the lanes of their numbers do
in_lane : (b : Bool) (q : ℕ) (xs ys : List Message) → (b ≡ true → lane_of q xs ≡ lane_of q ys) → lane_of q (cond b xs []) ≡ lane_of q (cond b ys [])
in_lane true q xs ys h = h refl
in_lane false q xs ys h = refl

up_same : (a b : Lists) (q y : ℕ) → (y < 8 → lane_of q (lane_at a y) ≡ lane_of q (lane_at b y)) → up_of a q y ≡ up_of b q y
up_same a b q y h = in_lane (ltb y 8) q (lane_at a y) (lane_at b y) (λ t. h (ltb-true y 8 t))

down_same : (a b : Lists) (q y : ℕ) → (y < 8 → lane_of q (lane_at a (8 + y)) ≡ lane_of q (lane_at b (8 + y))) → down_of a q y ≡ down_of b q y
down_same a b q y h = in_lane (ltb y 8) q (lane_at a (8 + y)) (lane_at b (8 + y)) (λ t. h (ltb-true y 8 t))

up_is : (a : Lists) (q y : ℕ) → y < 8 → up_of a q y ≡ lane_of q (lane_at a y)
up_is a q y h = ap (lane_of q) (cond-true (ltb y 8) (lane_at a y) [] (lt-ltb y 8 h))

down_is : (a : Lists) (q y : ℕ) → y < 8 → down_of a q y ≡ lane_of q (lane_at a (8 + y))
down_is a q y h = ap (lane_of q) (cond-true (ltb y 8) (lane_at a (8 + y)) [] (lt-ltb y 8 h))

down_none : (a : Lists) (q y : ℕ) → 8 ≤ y → down_of a q y ≡ []
down_none a q y h = ap (λ (b : Bool). lane_of q (cond b (lane_at a (8 + y)) [])) (le-ltb y 8 h)

-- ── a message joins a lane ──

at_joined_here : (lists : Lists) (i : ℕ) (m : Message) → i < length lists → lane_at (joined_at lists i m) i ≡ lane_at lists i ++ m ∷ []
at_joined_here lists i m h = get_or-set_same lists i (lane_at lists i ++ m ∷ []) [] h

at_joined_other : (lists : Lists) (i j : ℕ) (m : Message) → (j ≡ i → ⊥) → lane_at (joined_at lists i m) j ≡ lane_at lists j
at_joined_other lists i j m h = get_or-set_other lists i j (lane_at lists i ++ m ∷ []) [] h

joined_elsewhere_by : (lists : Lists) (i j q : ℕ) (m : Message) → i < length lists → eqb q m.place ≡ false → (b : Bool) → eqb j i ≡ b → lane_of q (lane_at (joined_at lists i m) j) ≡ lane_of q (lane_at lists j)
joined_elsewhere_by lists i j q m h e true t =
    let is = eqb-true j i t in
    ap (λ k. lane_of q (lane_at (joined_at lists i m) k)) is
    ∙ ap (lane_of q) (at_joined_here lists i m h)
    ∙ lane_append q (lane_at lists i) (m ∷ [])
    ∙ ap (λ ks. lane_of q (lane_at lists i) ++ ks) (first_elsewhere q m [] e)
    ∙ append-nil (lane_of q (lane_at lists i))
    ∙ ap (λ k. lane_of q (lane_at lists k)) (sym is)
joined_elsewhere_by lists i j q m h e false t = ap (lane_of q) (at_joined_other lists i j m (eqb-false j i t))

-- a message changes no lane at another place
joined_elsewhere : (lists : Lists) (i j q : ℕ) (m : Message) → i < length lists → eqb q m.place ≡ false → lane_of q (lane_at (joined_at lists i m) j) ≡ lane_of q (lane_at lists j)
joined_elsewhere lists i j q m h e = joined_elsewhere_by lists i j q m h e (eqb j i) refl

joined_here : (lists : Lists) (i : ℕ) (m : Message) → i < length lists → lane_of m.place (lane_at (joined_at lists i m) i) ≡ lane_of m.place (lane_at lists i) ++ m.kind ∷ []
joined_here lists i m h =
    ap (lane_of m.place) (at_joined_here lists i m h)
    ∙ lane_append m.place (lane_at lists i) (m ∷ [])
    ∙ ap (λ ks. lane_of m.place (lane_at lists i) ++ ks) (first_here m [])

-- ── a zone sends up ──

pub length_sent_up : (lists : Lists) (z p : ℕ) (sent : Option UpKind) → length (sent_up lists z p sent) ≡ length lists
length_sent_up lists z p None = refl
length_sent_up lists z p (Some u) = length-set lists z (lane_at lists z ++ up_message p u ∷ [])

sent_up_zone : (lists : Lists) (z p : ℕ) (sent : Option UpKind) → length lists ≡ 16 → z < 8 → up_of (sent_up lists z p sent) p z ≡ up_of lists p z ++ up_kinds sent
sent_up_zone lists z p None long hz = sym (append-nil (up_of lists p z))
sent_up_zone lists z p (Some u) long hz =
    up_is (sent_up lists z p (Some u)) p z hz
    ∙ joined_here lists z (up_message p u) (omega arith)
    ∙ ap (λ ks. ks ++ up_kinds (Some u)) (sym (up_is lists p z hz))

sent_up_other_zone : (lists : Lists) (z p q y : ℕ) (sent : Option UpKind) → eqb y z ≡ false → up_of (sent_up lists z p sent) q y ≡ up_of lists q y
sent_up_other_zone lists z p q y None e = refl
sent_up_other_zone lists z p q y (Some u) e =
    up_same (sent_up lists z p (Some u)) lists q y (λ _. ap (lane_of q) (at_joined_other lists z y (up_message p u) (eqb-false y z e)))

sent_up_by : (lists : Lists) (z p y : ℕ) (sent : Option UpKind) → length lists ≡ 16 → z < 8 → (b : Bool) → eqb y z ≡ b → up_of (sent_up lists z p sent) p y ≡ cond b (up_of lists p z ++ up_kinds sent) (up_of lists p y)
sent_up_by lists z p y sent long hz true t = ap (up_of (sent_up lists z p sent) p) (eqb-true y z t) ∙ sent_up_zone lists z p sent long hz
sent_up_by lists z p y sent long hz false t = sent_up_other_zone lists z p p y sent t

pub up_of_sent_up_here : (lists : Lists) (z p : ℕ) (sent : Option UpKind) → length lists ≡ 16 → z < 8 → (y : ℕ) → up_of (sent_up lists z p sent) p y ≡ cond (eqb y z) (up_of lists p z ++ up_kinds sent) (up_of lists p y)
up_of_sent_up_here lists z p sent long hz y = sent_up_by lists z p y sent long hz (eqb y z) refl

pub up_of_sent_up_elsewhere : (lists : Lists) (z p : ℕ) (sent : Option UpKind) → length lists ≡ 16 → z < 8 → (q y : ℕ) → eqb q p ≡ false → up_of (sent_up lists z p sent) q y ≡ up_of lists q y
up_of_sent_up_elsewhere lists z p None long hz q y e = refl
up_of_sent_up_elsewhere lists z p (Some u) long hz q y e =
    up_same (sent_up lists z p (Some u)) lists q y (λ _. joined_elsewhere lists z y q (up_message p u) (omega arith) e)

pub down_of_sent_up : (lists : Lists) (z p : ℕ) (sent : Option UpKind) → length lists ≡ 16 → z < 8 → (q y : ℕ) → down_of (sent_up lists z p sent) q y ≡ down_of lists q y
down_of_sent_up lists z p None long hz q y = refl
down_of_sent_up lists z p (Some u) long hz q y =
    down_same (sent_up lists z p (Some u)) lists q y (λ _. ap (lane_of q) (at_joined_other lists z (8 + y) (up_message p u) (λ w. omega arith)))

-- ── a take ──

length_taken_at : (lists : Lists) (o : Option ℕ) → length (taken_at lists o) ≡ length lists
length_taken_at lists None = refl
length_taken_at lists (Some i) = length-set lists i (drop 1 (lane_at lists i))

pub length_taken : (lists : Lists) (lane : Lane) → length (taken lists lane) ≡ length lists
length_taken lists lane = length_taken_at lists (lane_number lane)

up_number : (z : ℕ) → z < 8 → lane_number (Up z) ≡ Some z
up_number z h = cond-true (ltb z 8) (Some z) None (lt-ltb z 8 h)

down_number : (z : ℕ) → z < 8 → lane_number (Down z) ≡ Some (8 + z)
down_number z h = cond-true (ltb z 8) (Some (8 + z)) None (lt-ltb z 8 h)

front_of : (xs : List Message) (x : Message) → oldest_of xs ≡ Some x → xs ≡ x ∷ drop 1 xs
front_of [] x e = let n : ◌≡◌ {A = ℕ} 0 1 = cc in absurd (omega arith)
front_of (m ∷ ms) x e = let is : m ≡ x = cc in ap (λ k. k ∷ ms) is

at_removed_here : (lists : Lists) (i : ℕ) → i < length lists → lane_at (removed_at lists i) i ≡ drop 1 (lane_at lists i)
at_removed_here lists i h = get_or-set_same lists i (drop 1 (lane_at lists i)) [] h

at_removed_other : (lists : Lists) (i j : ℕ) → (j ≡ i → ⊥) → lane_at (removed_at lists i) j ≡ lane_at lists j
at_removed_other lists i j h = get_or-set_other lists i j (drop 1 (lane_at lists i)) [] h

module _ (lists : Lists) (lane : Lane) (i : ℕ) (number : lane_number lane ≡ Some i) where
  taken_is : taken lists lane ≡ removed_at lists i
  taken_is = ap (taken_at lists) number

  taken_other : (j : ℕ) → (j ≡ i → ⊥) → lane_at (taken lists lane) j ≡ lane_at lists j
  taken_other j h = ap (λ ls. lane_at ls j) taken_is ∙ at_removed_other lists i j h

  module _ (x : Message) (e : oldest lists lane ≡ Some x) (h : i < length lists) where
    taken_front : lane_at lists i ≡ x ∷ lane_at (taken lists lane) i
    taken_front =
        front_of (lane_at lists i) x (sym (ap (oldest_at lists) number) ∙ e)
        ∙ ap (λ xs. x ∷ xs) (sym (ap (λ ls. lane_at ls i) taken_is ∙ at_removed_here lists i h))

    taken_here : lane_of x.place (lane_at lists i) ≡ x.kind ∷ lane_of x.place (lane_at (taken lists lane) i)
    taken_here = ap (lane_of x.place) taken_front ∙ first_here x (lane_at (taken lists lane) i)

    taken_elsewhere_by : (q j : ℕ) → eqb q x.place ≡ false → (b : Bool) → eqb j i ≡ b → lane_of q (lane_at (taken lists lane) j) ≡ lane_of q (lane_at lists j)
    taken_elsewhere_by q j n true t =
        let is = eqb-true j i t in
        ap (λ k. lane_of q (lane_at (taken lists lane) k)) is
        ∙ sym (ap (lane_of q) taken_front ∙ first_elsewhere q x (lane_at (taken lists lane) i) n)
        ∙ ap (λ k. lane_of q (lane_at lists k)) (sym is)
    taken_elsewhere_by q j n false t = ap (lane_of q) (taken_other j (eqb-false j i t))

    taken_elsewhere : (q j : ℕ) → eqb q x.place ≡ false → lane_of q (lane_at (taken lists lane) j) ≡ lane_of q (lane_at lists j)
    taken_elsewhere q j n = taken_elsewhere_by q j n (eqb j i) refl

module _ (lists : Lists) (z : ℕ) (x : Message) (e : oldest lists (Down z) ≡ Some x) (long : length lists ≡ 16) (hz : z < 8) where
  pub down_of_taken_down_here : down_of lists x.place z ≡ x.kind ∷ down_of (taken lists (Down z)) x.place z
  down_of_taken_down_here =
      down_is lists x.place z hz
      ∙ taken_here lists (Down z) (8 + z) (down_number z hz) x e (omega arith)
      ∙ ap (λ ks. x.kind ∷ ks) (sym (down_is (taken lists (Down z)) x.place z hz))

  pub down_of_taken_down_other_zone : (q y : ℕ) → eqb y z ≡ false → down_of (taken lists (Down z)) q y ≡ down_of lists q y
  down_of_taken_down_other_zone q y n =
      down_same (taken lists (Down z)) lists q y (λ _. ap (lane_of q) (taken_other lists (Down z) (8 + z) (down_number z hz) (8 + y) (λ w. eqb-false y z n (omega arith))))

  pub down_of_taken_down_elsewhere : (q : ℕ) → eqb q x.place ≡ false → (y : ℕ) → down_of (taken lists (Down z)) q y ≡ down_of lists q y
  down_of_taken_down_elsewhere q n y =
      down_same (taken lists (Down z)) lists q y (λ _. taken_elsewhere lists (Down z) (8 + z) (down_number z hz) x e (omega arith) q (8 + y) n)

  pub up_of_taken_down : (q y : ℕ) → up_of (taken lists (Down z)) q y ≡ up_of lists q y
  up_of_taken_down q y =
      up_same (taken lists (Down z)) lists q y (λ h. ap (lane_of q) (taken_other lists (Down z) (8 + z) (down_number z hz) y (λ w. omega arith)))

module _ (lists : Lists) (z : ℕ) (x : Message) (e : oldest lists (Up z) ≡ Some x) (long : length lists ≡ 16) (hz : z < 8) where
  pub up_of_taken_up_here : up_of lists x.place z ≡ x.kind ∷ up_of (taken lists (Up z)) x.place z
  up_of_taken_up_here =
      up_is lists x.place z hz
      ∙ taken_here lists (Up z) z (up_number z hz) x e (omega arith)
      ∙ ap (λ ks. x.kind ∷ ks) (sym (up_is (taken lists (Up z)) x.place z hz))

  pub up_of_taken_up_other_zone : (q y : ℕ) → eqb y z ≡ false → up_of (taken lists (Up z)) q y ≡ up_of lists q y
  up_of_taken_up_other_zone q y n =
      up_same (taken lists (Up z)) lists q y (λ _. ap (lane_of q) (taken_other lists (Up z) z (up_number z hz) y (eqb-false y z n)))

  pub up_of_taken_up_elsewhere : (q : ℕ) → eqb q x.place ≡ false → (y : ℕ) → up_of (taken lists (Up z)) q y ≡ up_of lists q y
  up_of_taken_up_elsewhere q n y =
      up_same (taken lists (Up z)) lists q y (λ _. taken_elsewhere lists (Up z) z (up_number z hz) x e (omega arith) q y n)

  pub down_of_taken_up : (q y : ℕ) → down_of (taken lists (Up z)) q y ≡ down_of lists q y
  down_of_taken_up q y =
      down_same (taken lists (Up z)) lists q y (λ _. ap (lane_of q) (taken_other lists (Up z) z (up_number z hz) (8 + y) (λ w. omega arith)))

-- ── the directory sends down ──

-- what the lane of number i gets
length_posted : (lists : Lists) (i p : ℕ) (o : Option DownKind) → length (posted_at lists i p o) ≡ length lists
length_posted lists i p None = refl
length_posted lists i p (Some d) = length-set lists i (lane_at lists i ++ down_message p d ∷ [])

at_posted_here : (lists : Lists) (i p : ℕ) (o : Option DownKind) → i < length lists → lane_at (posted_at lists i p o) i ≡ lane_at lists i ++ sent_to p o
at_posted_here lists i p None h = sym (append-nil (lane_at lists i))
at_posted_here lists i p (Some d) h = at_joined_here lists i (down_message p d) h

at_posted_other : (lists : Lists) (i j p : ℕ) (o : Option DownKind) → (j ≡ i → ⊥) → lane_at (posted_at lists i p o) j ≡ lane_at lists j
at_posted_other lists i j p None h = refl
at_posted_other lists i j p (Some d) h = at_joined_other lists i j (down_message p d) h

module _ (lists : Lists) (p : ℕ) (to : List (Option DownKind)) where
  length_sent_below : (n : ℕ) → length (sent_below lists p to n) ≡ length lists
  unfolding sent_below
  length_sent_below zero = refl
  length_sent_below (suc n) = length_posted (sent_below lists p to n) (8 + n) p (get_or to n None) ∙ length_sent_below n

  -- the lanes that no zone below n has stay
  not_sent_below : (n j : ℕ) → ((k : ℕ) → k < n → j ≡ 8 + k → ⊥) → lane_at (sent_below lists p to n) j ≡ lane_at lists j
  unfolding sent_below
  not_sent_below zero j h = refl
  not_sent_below (suc n) j h =
      at_posted_other (sent_below lists p to n) (8 + n) j p (get_or to n None) (h n (omega arith))
      ∙ not_sent_below n j (λ k l. h k (omega arith))

  -- a zone below n has its message
  sent_below_by : (n y : ℕ) → length lists ≡ 16 → n < 8 → y < suc n → (b : Bool) → eqb y n ≡ b → (y < n → lane_at (sent_below lists p to n) (8 + y) ≡ lane_at lists (8 + y) ++ sent_to p (get_or to y None)) → lane_at (posted_at (sent_below lists p to n) (8 + n) p (get_or to n None)) (8 + y) ≡ lane_at lists (8 + y) ++ sent_to p (get_or to y None)
  sent_below_by n y long hn hy true t ih =
      let is = eqb-true y n t in
      ap (λ k. lane_at (posted_at (sent_below lists p to n) (8 + n) p (get_or to n None)) (8 + k)) is
      ∙ at_posted_here (sent_below lists p to n) (8 + n) p (get_or to n None) (omega (arith, length_sent_below n))
      ∙ ap (λ xs. xs ++ sent_to p (get_or to n None)) (not_sent_below n (8 + n) (λ k l w. omega arith))
      ∙ ap (λ k. lane_at lists (8 + k) ++ sent_to p (get_or to k None)) (sym is)
  sent_below_by n y long hn hy false t ih =
      let n≢ = eqb-false y n t in
      at_posted_other (sent_below lists p to n) (8 + n) (8 + y) p (get_or to n None) (λ w. n≢ (omega arith))
      ∙ ih (⊎_elim (λ l. l) (λ g. absurd (n≢ (omega arith))) (cases_lt y n))

  has_sent_below : (n y : ℕ) → length lists ≡ 16 → n ≤ 8 → y < n → lane_at (sent_below lists p to n) (8 + y) ≡ lane_at lists (8 + y) ++ sent_to p (get_or to y None)
  unfolding sent_below
  has_sent_below zero y long hn hy = absurd (omega arith)
  has_sent_below (suc n) y long hn hy =
      sent_below_by n y long (omega arith) hy (eqb y n) refl (λ l. has_sent_below n y long (omega arith) l)

lane_of_sent_here : (p : ℕ) (o : Option DownKind) → lane_of p (sent_to p o) ≡ down_kinds o
lane_of_sent_here p None = refl
lane_of_sent_here p (Some d) = first_here (down_message p d) []

lane_of_sent_elsewhere : (q p : ℕ) (o : Option DownKind) → eqb q p ≡ false → lane_of q (sent_to p o) ≡ []
lane_of_sent_elsewhere q p None e = refl
lane_of_sent_elsewhere q p (Some d) e = first_elsewhere q (down_message p d) [] e

-- where nothing is sent no zone gets a message
sends_first : (o : Option DownKind) (b : Bool) → cond (is_some o) true b ≡ false → (o ≡ None) × (b ≡ false)
sends_first None b e = (refl, e)
sends_first (Some d) b e = let n : ◌≡◌ {A = ℕ} 0 1 = cc in absurd (omega arith)

sends_none : (to : List (Option DownKind)) → sends_any to ≡ false → (y : ℕ) → get_or to y None ≡ None
sends_none [] e y = refl
sends_none (o ∷ to) e zero = (sends_first o (sends_any to) e).0
sends_none (o ∷ to) e (suc y) = sends_none to (sends_first o (sends_any to) e).1 y

-- what holds of all sent, and where nothing is sent of the lanes as they were, holds of what is sent down
sent_down_by : (P : Lists → Type 0) (lists : Lists) (p : ℕ) (to : List (Option DownKind)) (b : Bool) → sends_any to ≡ b → P (sent_below lists p to 8) → (((y : ℕ) → get_or to y None ≡ None) → P lists) → P (cond b (sent_below lists p to 8) lists)
sent_down_by P lists p to true e all none = all
sent_down_by P lists p to false e all none = none (sends_none to e)

sent_down_lem : (P : Lists → Type 0) (lists : Lists) (p : ℕ) (to : List (Option DownKind)) → P (sent_below lists p to 8) → (((y : ℕ) → get_or to y None ≡ None) → P lists) → P (sent_down lists p to)
sent_down_lem P lists p to all none = sent_down_by P lists p to (sends_any to) refl all none

pub length_sent_down : (lists : Lists) (p : ℕ) (to : List (Option DownKind)) → length (sent_down lists p to) ≡ length lists
length_sent_down lists p to = sent_down_lem (λ ls. length ls ≡ length lists) lists p to (length_sent_below lists p to 8) (λ _. refl)

module _ (lists : Lists) (p : ℕ) (to : List (Option DownKind)) (long : length lists ≡ 16) (eight : length to ≡ 8) where
  all_sent_here : (y : ℕ) → down_of (sent_below lists p to 8) p y ≡ down_of lists p y ++ down_kinds (get_or to y None)
  all_sent_here y =
      ⊎_elim
      (λ h. down_is (sent_below lists p to 8) p y h
      ∙ ap (lane_of p) (has_sent_below lists p to 8 y long (omega arith) h)
      ∙ lane_append p (lane_at lists (8 + y)) (sent_to p (get_or to y None))
      ∙ ap (λ ks. lane_of p (lane_at lists (8 + y)) ++ ks) (lane_of_sent_here p (get_or to y None))
      ∙ ap (λ ks. ks ++ down_kinds (get_or to y None)) (sym (down_is lists p y h)))
      (λ h. down_none (sent_below lists p to 8) p y h
      ∙ ap (λ (o : Option DownKind). down_kinds o) (sym (get_or_past to y None (omega arith)))
      ∙ ap (λ ks. ks ++ down_kinds (get_or to y None)) (sym (down_none lists p y h)))
      (cases_lt y 8)

  pub down_of_sent_down_here : (y : ℕ) → down_of (sent_down lists p to) p y ≡ down_of lists p y ++ down_kinds (get_or to y None)
  down_of_sent_down_here y =
      sent_down_lem (λ ls. down_of ls p y ≡ down_of lists p y ++ down_kinds (get_or to y None)) lists p to (all_sent_here y)
      (λ none. sym (append-nil (down_of lists p y)) ∙ ap (λ (o : Option DownKind). down_of lists p y ++ down_kinds o) (sym (none y)))

  pub down_of_sent_down_elsewhere : (q : ℕ) → eqb q p ≡ false → (y : ℕ) → down_of (sent_down lists p to) q y ≡ down_of lists q y
  down_of_sent_down_elsewhere q e y =
      sent_down_lem (λ ls. down_of ls q y ≡ down_of lists q y) lists p to
      (down_same (sent_below lists p to 8) lists q y
      (λ h. ap (lane_of q) (has_sent_below lists p to 8 y long (omega arith) h)
      ∙ lane_append q (lane_at lists (8 + y)) (sent_to p (get_or to y None))
      ∙ ap (λ ks. lane_of q (lane_at lists (8 + y)) ++ ks) (lane_of_sent_elsewhere q p (get_or to y None) e)
      ∙ append-nil (lane_of q (lane_at lists (8 + y)))))
      (λ _. refl)

  pub up_of_sent_down : (q y : ℕ) → up_of (sent_down lists p to) q y ≡ up_of lists q y
  up_of_sent_down q y =
      sent_down_lem (λ ls. up_of ls q y ≡ up_of lists q y) lists p to
      (up_same (sent_below lists p to 8) lists q y (λ h. ap (lane_of q) (not_sent_below lists p to 8 y (λ k l w. omega arith))))
      (λ _. refl)

-- ── a step of the directory has a message or none for each of eight zones ──

abbrev EightZones : Outcome → Type 0
EightZones (refused n d) = Unit {0}
EightZones (went to x d) = length to ≡ 8

serves_on_eight : (messages : List (Option DownKind)) (s : Served) (list : List ℕ) (ws : List Waiting) → length messages ≡ 8 → EightZones (serves_on messages s list ws)
serves_on_eight messages s list ws h =
    cond_both (awaits_any s list) (went messages None (directory list ws (Some s))) (ended s list ws) EightZones
    (λ _. h)
    (λ _. length-set to_nobody s.zone _)

data_eight : (o : Option Ask) (s : Served) (a : Assignment) (z : ℕ) (list : List ℕ) (ws : List Waiting) → EightZones (data_by o s a z list ws)
data_eight None s a z list ws = tt
data_eight (Some SendData) s a z list ws = serves_on_eight to_nobody (with_data s a) list ws refl
data_eight (Some SendDataAndInvalidate) s a z list ws = serves_on_eight to_nobody (with_data s a) _ ws refl
data_eight (Some Invalidate) s a z list ws = tt

purged_eight : (o : Option Ask) (s : Served) (z : ℕ) (list : List ℕ) (ws : List Waiting) → EightZones (purged_by o s z list ws)
purged_eight None s z list ws = tt
purged_eight (Some SendData) s z list ws = tt
purged_eight (Some SendDataAndInvalidate) s z list ws = tt
purged_eight (Some Invalidate) s z list ws = serves_on_eight to_nobody (with_purged s z) _ ws refl

data_arrives_eight : (o : Option Served) (a : Assignment) (z : ℕ) (list : List ℕ) (ws : List Waiting) → EightZones (data_arrives o a z list ws)
data_arrives_eight None a z list ws = tt
data_arrives_eight (Some s) a z list ws = data_eight (awaited_for s list z) s a z list ws

purged_arrives_eight : (o : Option Served) (z : ℕ) (list : List ℕ) (ws : List Waiting) → EightZones (purged_arrives o z list ws)
purged_arrives_eight None z list ws = tt
purged_arrives_eight (Some s) z list ws = purged_eight (awaited_for s list z) s z list ws

report_eight : (o : Option Served) (z : ℕ) (list : List ℕ) (ws : List Waiting) → EightZones (report_by o z list ws)
report_eight None z list ws = refl
report_eight (Some s) z list ws = serves_on_eight to_nobody s _ ws refl

up_arrives_eight : (u : UpKind) (z : ℕ) (d : Directory) → EightZones (up_arrives u z d)
up_arrives_eight (up.Demand k) z d = cond_both (listed (busy d) z) (refused 17 d) _ EightZones (λ _. tt) (λ _. refl)
up_arrives_eight (up.Data a) z d = data_arrives_eight d.served a z d.list d.waiting
up_arrives_eight up.Purged z d = purged_arrives_eight d.served z d.list d.waiting
up_arrives_eight up.Report z d =
    cond_both (listed d.list z) (report_by d.served z d.list d.waiting) (refused 17 d) EightZones
    (λ _. report_eight d.served z d.list d.waiting)
    (λ _. tt)

arrives_eight : (k : Kind) (z : ℕ) (d : Directory) → EightZones (arrives k z d)
arrives_eight (kind.Up u) z d = up_arrives_eight u z d
arrives_eight (kind.Down m) z d = tt

delivered_eight : (k : Kind) (z : ℕ) (d : Directory) → EightZones (delivered k z d)
delivered_eight k z d = cond_both (ltb z 8) (arrives k z d) (refused 17 d) EightZones (λ _. arrives_eight k z d) (λ _. tt)

asks_eight : (s : Served) (list : List ℕ) → length (asks s list) ≡ 8
unfolding asks
asks_eight s list = refl

takes_first_eight : (list : List ℕ) (ws : List Waiting) → EightZones (takes_first list ws)
takes_first_eight list [] = tt
takes_first_eight list (w ∷ ws) =
    cond_both (listed list w.zone && wants_data w.demand) _ (serves_on (asks (begun w list) list) (begun w list) list ws) EightZones
    (λ _. tt)
    (λ _. serves_on_eight (asks (begun w list) list) (begun w list) list ws (asks_eight (begun w list) list))

takes_up_eight : (list : List ℕ) (ws : List Waiting) (o : Option Served) → EightZones (takes_up list ws o)
takes_up_eight list ws (Some s) = tt
takes_up_eight list ws None = takes_first_eight list ws

pub outcome_length_delivered : (k : Kind) (z : ℕ) (d : Directory) (to : List (Option DownKind)) (x : Option ℕ) (d' : Directory) → delivered k z d ≡ went to x d' → length to ≡ 8
outcome_length_delivered k z d to x d' e = subst EightZones e (delivered_eight k z d)

pub outcome_length_taken_up : (d : Directory) (to : List (Option DownKind)) (x : Option ℕ) (d' : Directory) → taken_up d ≡ went to x d' → length to ≡ 8
outcome_length_taken_up d to x d' e = subst EightZones e (takes_up_eight d.list d.waiting d.served)

-- ── each message is about one of 32 places ──

abbrev pub PlacesBelow : Lists → Type 0
PlacesBelow lists = (i : ℕ) → AllByRecursion (λ x. x.place < 32) (lane_at lists i)

places_below_set : (lists : Lists) (i : ℕ) (xs : List Message) → AllByRecursion (λ x. x.place < 32) xs → PlacesBelow lists → PlacesBelow (set lists i xs)
places_below_set lists i xs new old j =
    ⊎_elim
    (λ is. ⊎_elim
    (λ h. subst (λ k. AllByRecursion (λ x. x.place < 32) (lane_at (set lists i xs) k)) (sym is) (subst (AllByRecursion (λ x. x.place < 32)) (sym (get_or-set_same lists i xs [] h)) new))
    (λ h. subst (λ ls. AllByRecursion (λ x. x.place < 32) (lane_at ls j)) (sym (set_past lists i xs h)) (old j))
    (cases_lt i (length lists)))
    (λ not. subst (AllByRecursion (λ x. x.place < 32)) (sym (get_or-set_other lists i j xs [] not)) (old j))
    (cases_eq j i)

places_below_joined : (lists : Lists) (i : ℕ) (m : Message) → m.place < 32 → PlacesBelow lists → PlacesBelow (joined_at lists i m)
places_below_joined lists i m h below = places_below_set lists i (lane_at lists i ++ m ∷ []) (All-push (λ x. x.place < 32) (lane_at lists i) m (below i) h) below

pub places_below_sent_up : (lists : Lists) (z p : ℕ) (sent : Option UpKind) → p < 32 → PlacesBelow lists → PlacesBelow (sent_up lists z p sent)
places_below_sent_up lists z p None h below = below
places_below_sent_up lists z p (Some u) h below = places_below_joined lists z (up_message p u) h below

places_below_taken_at : (lists : Lists) (o : Option ℕ) → PlacesBelow lists → PlacesBelow (taken_at lists o)
places_below_taken_at lists None below = below
places_below_taken_at lists (Some i) below = places_below_set lists i (drop 1 (lane_at lists i)) (All-drop (λ x. x.place < 32) 1 (lane_at lists i) (below i)) below

pub places_below_taken : (lists : Lists) (lane : Lane) → PlacesBelow lists → PlacesBelow (taken lists lane)
places_below_taken lists lane below = places_below_taken_at lists (lane_number lane) below

places_below_posted : (lists : Lists) (i p : ℕ) (o : Option DownKind) → p < 32 → PlacesBelow lists → PlacesBelow (posted_at lists i p o)
places_below_posted lists i p None h below = below
places_below_posted lists i p (Some d) h below = places_below_joined lists i (down_message p d) h below

places_below_sent_below : (lists : Lists) (p : ℕ) (to : List (Option DownKind)) (n : ℕ) → p < 32 → PlacesBelow lists → PlacesBelow (sent_below lists p to n)
unfolding sent_below
places_below_sent_below lists p to zero h below = below
places_below_sent_below lists p to (suc n) h below =
    places_below_posted (sent_below lists p to n) (8 + n) p (get_or to n None) h (places_below_sent_below lists p to n h below)

pub places_below_sent_down : (lists : Lists) (p : ℕ) (to : List (Option DownKind)) → p < 32 → PlacesBelow lists → PlacesBelow (sent_down lists p to)
places_below_sent_down lists p to h below = sent_down_lem PlacesBelow lists p to (places_below_sent_below lists p to 8 h below) (λ _. below)

front_below : (xs : List Message) (x : Message) → oldest_of xs ≡ Some x → AllByRecursion (λ m. m.place < 32) xs → x.place < 32
front_below [] x e all = let n : ◌≡◌ {A = ℕ} 0 1 = cc in absurd (omega arith)
front_below (m ∷ ms) x e all = let is : m ≡ x = cc in subst (λ k. k.place < 32) is all.0

place_below_at : (lists : Lists) (o : Option ℕ) (x : Message) → PlacesBelow lists → oldest_at lists o ≡ Some x → x.place < 32
place_below_at lists None x below e = let n : ◌≡◌ {A = ℕ} 0 1 = cc in absurd (omega arith)
place_below_at lists (Some i) x below e = front_below (lane_at lists i) x e (below i)

pub place_below : (lists : Lists) (lane : Lane) (x : Message) → PlacesBelow lists → oldest lists lane ≡ Some x → x.place < 32
place_below lists lane x below e = place_below_at lists (lane_number lane) x below e

-- ── empty lanes and calm rows ──

none_at : (n i : ℕ) → lane_at (replicate n []) i ≡ []
none_at zero i = refl
none_at (suc n) zero = refl
none_at (suc n) (suc i) = none_at n i

pub places_below_empty : PlacesBelow all_empty
places_below_empty i = subst (AllByRecursion (λ x. x.place < 32)) (sym (none_at 16 i)) tt

no_messages_lem : (xs : List Message) → no_messages xs ≡ true → xs ≡ []
no_messages_lem [] e = refl
no_messages_lem (x ∷ xs) e = let n : ◌≡◌ {A = ℕ} 0 1 = cc in absurd (omega arith)

pub lanes_empty_lem : (lists : Lists) → lanes_empty lists ≡ true → (i : ℕ) → lane_at lists i ≡ []
lanes_empty_lem [] e i = refl
lanes_empty_lem (l ∷ ls) e zero = no_messages_lem l (and_parts (no_messages l) (lanes_empty ls) e).0
lanes_empty_lem (l ∷ ls) e (suc i) = lanes_empty_lem ls (and_parts (no_messages l) (lanes_empty ls) e).1 i

none_wait_lem : (ws : List Waiting) → none_wait ws ≡ true → ws ≡ []
none_wait_lem [] e = refl
none_wait_lem (w ∷ ws) e = let n : ◌≡◌ {A = ℕ} 0 1 = cc in absurd (omega arith)

pub rows_calm_lem : (rows : List Directory) → rows_calm rows ≡ true → (i : ℕ) → (get_or rows i fresh_row).waiting ≡ []
rows_calm_lem [] e i = refl
rows_calm_lem (d ∷ ds) e zero = none_wait_lem d.waiting (and_parts (none_wait d.waiting) (rows_calm ds) e).0
rows_calm_lem (d ∷ ds) e (suc i) = rows_calm_lem ds (and_parts (none_wait d.waiting) (rows_calm ds) e).1 i

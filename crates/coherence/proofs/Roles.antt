-- What striking a zone off the list, and a new request, do to the roles and standings of the zones.
use Rattle.std.proofs.Common.{◌≡◌, ℕ, Bool, true, false, cond, not, eqb, List, [], ◌∷◌, ◌++◌, Some, None, Option, sym, refl, ap}
use mathlib.Core.Bool.{false≢true}
use Rattle.messages.specs.declared.kinds.Demand.{Demand}
use Rattle.directory.specs.declared.rows.Waiting.{Waiting}
use Rattle.directory.specs.declared.rows.Served.{Served}
use Rattle.directory.specs.Lists.{listed, without}
use Rattle.directory.specs.Directory.{requesters, busy_with}
use Rattle.coherence.proofs.Views.{Role, absent, sharer, owner, sole, idle, serving, Member, a_sharer, an_owner, a_sole}
use Rattle.coherence.proofs.Zone.{Eased, as_was, now_alone}
use Rattle.coherence.proofs.Zones.{same, are_equal, Apart, equal, apart, compare_zones, flip, others_listed, clash_some}
use Rattle.coherence.proofs.Seen.{owner_role, role_by, role_under, waiting_of, standing_by, standing_in}

-- ── roles ──

pub role_unlisted : (o y : ℕ) (xs : List ℕ) → listed xs y ≡ false → role_under o xs y ≡ absent
role_unlisted o y xs n = rw n

owner_eased : (ys : List ℕ) → Eased owner (owner_role ys)
owner_eased [] = as_was
owner_eased (x ∷ []) = now_alone
owner_eased (x ∷ y ∷ ys) = as_was

owner_struck : (y z : ℕ) (xs : List ℕ) → eqb y z ≡ false → listed xs y ≡ true → Eased (owner_role xs) (owner_role (without z xs))
owner_struck y z [] n h = as_was
owner_struck y z (x ∷ []) n h = go (eqb x z) refl
  where
    go : (b : Bool) → eqb x z ≡ b → Eased sole (owner_role (cond (not b) (x ∷ []) []))
    go true e =
        let m : eqb x y ≡ false = rw (are_equal e) (flip y z n) in
        absurd (false≢true (rw m at h))
    go false e = as_was
owner_struck y z (x ∷ x' ∷ xs) n h = owner_eased (without z (x ∷ x' ∷ xs))

role_eased : {ro ro' : Role} (a b : Bool) → (a ≡ true → Eased ro ro') → Eased (role_by a b ro) (role_by a b ro')
role_eased false b f = as_was
role_eased true false f = as_was
role_eased true true f = f refl

-- the others keep their roles, but for the owner, who may now be alone
pub role_others : (o y z : ℕ) (xs : List ℕ) → eqb y z ≡ false → Eased (role_under o xs y) (role_under o (without z xs) y)
role_others o y z xs n = rw (others_listed y z xs n) (role_eased (listed xs y) (eqb y o) (owner_struck y z xs n))

-- a sole owner is alone in the list
pub sole_list : (o y : ℕ) (xs : List ℕ) → role_under o xs y ≡ sole → xs ≡ y ∷ []
sole_list o y [] e = cc
sole_list o y (x ∷ []) e = go (eqb x y) refl e
  where
    go : (b : Bool) → eqb x y ≡ b → role_by (cond b true false) (eqb y o) sole ≡ sole → x ∷ [] ≡ y ∷ []
    go true t e = ap (λ n. n ∷ []) (are_equal t)
    go false t e = cc
sole_list o y (x ∷ x' ∷ xs) e = go (listed (x ∷ x' ∷ xs) y) (eqb y o) e
  where
    go : (a b : Bool) → role_by a b owner ≡ sole → x ∷ x' ∷ xs ≡ y ∷ []
    go false b e = cc
    go true false e = cc
    go true true e = cc

pub sole_owner : (o y : ℕ) (xs : List ℕ) → role_under o xs y ≡ sole → listed xs o ≡ true
sole_owner o y xs e = go (listed xs y) (eqb y o) refl refl e
  where
    go : (a b : Bool) → listed xs y ≡ a → eqb y o ≡ b → role_by a b (owner_role xs) ≡ sole → listed xs o ≡ true
    go false b h k e = cc
    go true false h k e = cc
    go true true h k e = rw (are_equal k) at h

pub role_alone : (o y z : ℕ) → eqb y z ≡ false → role_under o (z ∷ []) y ≡ absent
role_alone o y z n = rw (flip y z n)

-- a sharer is not the owner
pub sharer_apart : (a b : Bool) (xs : List ℕ) → role_by a b (owner_role xs) ≡ sharer → b ≡ false
sharer_apart a false xs e = refl
sharer_apart false true xs e = cc
sharer_apart true true [] e = cc
sharer_apart true true (x ∷ []) e = cc
sharer_apart true true (x ∷ y ∷ ys) e = cc

owner_member : (xs : List ℕ) → Member (owner_role xs)
owner_member [] = an_owner
owner_member (x ∷ []) = a_sole
owner_member (x ∷ y ∷ ys) = an_owner

pub role_member : (b : Bool) (xs : List ℕ) → Member (role_by true b (owner_role xs))
role_member true xs = owner_member xs
role_member false xs = a_sharer

-- the owner's role
pub data Owns : Role → Type 0 where
  as_owner : Owns owner
  as_sole : Owns sole

pub owns_by : (a b : Bool) (ro : Role) → Owns (role_by a b ro) → (a ≡ true) × (b ≡ true)
owns_by true true ro o = (refl, refl)
owns_by true false ro o = elim o [ ]
owns_by false b ro o = elim o [ ]

-- ── standings ──

pub waiting_others : (y z : ℕ) (k : Demand) (ws : List Waiting) → eqb y z ≡ false →
    waiting_of (ws ++ (record { zone = z; demand = k } ∷ [])) y ≡ waiting_of ws y
waiting_others y z k [] n = rw (flip y z n)
waiting_others y z k (w ∷ ws) n = ap (λ o. cond (eqb w.zone y) (Some w.demand) o) (waiting_others y z k ws n)

pub waiting_new : (z : ℕ) (k : Demand) (ws : List Waiting) → waiting_of ws z ≡ None → waiting_of (ws ++ (record { zone = z; demand = k } ∷ [])) z ≡ Some k
waiting_new z k [] e = rw same
waiting_new z k (w ∷ ws) h = go (eqb w.zone z) h (waiting_new z k ws)
  where
    go : (b : Bool) → cond b (Some w.demand) (waiting_of ws z) ≡ None →
        (waiting_of ws z ≡ None → waiting_of (ws ++ (record { zone = z; demand = k } ∷ [])) z ≡ Some k) →
        cond b (Some w.demand) (waiting_of (ws ++ (record { zone = z; demand = k } ∷ [])) z) ≡ Some k
    go true h f = cc
    go false h f = f h

pub served_stands : (s : Served) (ws : List Waiting) → waiting_of ws s.zone ≡ None → standing_in ws (Some s) s.zone ≡ serving s.demand
served_stands s ws e = rw (e, same)

pub others_stand : (s : Served) (o : Option Demand) (y : ℕ) → eqb y s.zone ≡ false → standing_by o None y ≡ standing_by o (Some (s.zone, s.demand)) y
others_stand s (Some k) y n = refl
others_stand s None y n = rw n

pub idle_unqueued : (o : Option Demand) (e : Option (ℕ × Demand)) (z : ℕ) → standing_by o e z ≡ idle → o ≡ None
idle_unqueued None e z h = refl
idle_unqueued (Some k) e z h = cc

pub idle_unserved : (s : Served) (ws : List Waiting) (z : ℕ) → standing_in ws (Some s) z ≡ idle → eqb s.zone z ≡ false
idle_unserved s ws z e = go (compare_zones s.zone z)
  where
    go : Apart s.zone z → eqb s.zone z ≡ false
    go (equal h) =
        let p : standing_in ws (Some s) s.zone ≡ idle = rw (sym h) at e in
        let q = served_stands s ws (idle_unqueued (waiting_of ws s.zone) (Some (s.zone, s.demand)) s.zone p) in
        cc
    go (apart n) = n

unqueued_free : (z : ℕ) (ws : List Waiting) → waiting_of ws z ≡ None → listed (requesters ws) z ≡ false
unqueued_free z [] e = refl
unqueued_free z (w ∷ ws) e = go (eqb w.zone z) e (unqueued_free z ws)
  where
    go : (b : Bool) → cond b (Some w.demand) (waiting_of ws z) ≡ None → (waiting_of ws z ≡ None → listed (requesters ws) z ≡ false) →
        cond b true (listed (requesters ws) z) ≡ false
    go true e f = absurd (clash_some e)
    go false e f = f e

-- a zone whose request is at the directory in no way is not busy there
pub idle_free : (sv : Option Served) (ws : List Waiting) (z : ℕ) → standing_in ws sv z ≡ idle → listed (busy_with sv ws) z ≡ false
idle_free None ws z e = unqueued_free z ws (idle_unqueued (waiting_of ws z) None z e)
idle_free (Some s) ws z e =
    rw (idle_unserved s ws z e) (unqueued_free z ws (idle_unqueued (waiting_of ws z) (Some (s.zone, s.demand)) z e))

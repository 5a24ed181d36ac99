-- Who is awaited for a served request, and for what.
use Rattle.std.proofs.Common.{◌≡◌, ℕ, Bool, true, false, cond, not, ◌&&◌, eqb, ◌⊎◌, List, [], ◌∷◌, is_some, Some, None, Option, sym, refl, ap, ◌∙◌, subst, inl, inr, arith}
use mathlib.Core.Bool.{false≢true}
use Rattle.messages.specs.declared.kinds.Demand.{Demand}
use Rattle.messages.specs.declared.kinds.Demand.TheVariants.{GetSharedData, GetExclusiveData, GetExclusiveDataIfAny, GetRemovedData, Exclude, ExcludeIfAny, PurgeOthers, PurgeAndExclude, PurgeAll}
use Rattle.messages.specs.declared.kinds.Ask.{Ask}
use Rattle.messages.specs.declared.kinds.Ask.TheVariants.{SendData, SendDataAndInvalidate, Invalidate}
use Rattle.directory.specs.declared.rows.Rule.{Rule}
use Rattle.directory.specs.declared.rows.Rule.TheVariants.{Sharing, Fetching, Clearing}
use Rattle.directory.specs.declared.rows.Served.{Served}
use Rattle.directory.specs.Lists.{listed, without}
use Rattle.directory.specs.Serving.{rule_of, ask_by, ask_of_listed, awaits_any}
use Rattle.directory.specs.TakeUp.{wants_data}
use Rattle.coherence.proofs.Views.{Role, sharer, Member}
use Rattle.coherence.proofs.Zones.{same, are_equal, Apart, equal, apart, compare_zones, clash_some}
use Rattle.coherence.proofs.Seen.{owner_role, role_by, role_under, asked_in}
use Rattle.coherence.proofs.Roles.{Owns, as_owner, as_sole, role_member}

abbrev pub rule_for : Served → Rule
rule_for s = rule_of s.demand s.was_listed

-- ── one zone ──

-- what is asked of a zone: mine, it is the requester; came, data has come; inside, it is listed; head, it was the owner
abbrev pub asking : Rule → Bool → Bool → Bool → Bool → Option Ask
asking r mine came inside head = cond inside (cond mine None (ask_by r head came)) None

pub data Awaited : Rule → Role → Option Ask → Type 0 where
  not_asked : {r : Rule} {ro : Role} → Awaited r ro None
  to_share : {ro : Role} → Owns ro → Awaited Sharing ro (Some SendData)
  to_yield : {ro : Role} → Owns ro → Awaited Fetching ro (Some SendDataAndInvalidate)
  to_leave : Awaited Fetching sharer (Some Invalidate)
  to_clear : {ro : Role} → Member ro → Awaited Clearing ro (Some Invalidate)

owner_owns : (xs : List ℕ) → Owns (owner_role xs)
owner_owns [] = as_owner
owner_owns (x ∷ []) = as_sole
owner_owns (x ∷ y ∷ ys) = as_owner

awaited : (r : Rule) (mine came inside head : Bool) (xs : List ℕ) → Awaited r (role_by inside head (owner_role xs)) (asking r mine came inside head)
awaited r mine came false head xs = not_asked
awaited r true came true head xs = not_asked
awaited Sharing false came true false xs = not_asked
awaited Sharing false false true true xs = to_share (owner_owns xs)
awaited Sharing false true true true xs = not_asked
awaited Fetching false came true false xs = to_leave
awaited Fetching false came true true xs = to_yield (owner_owns xs)
awaited Clearing false came true head xs = to_clear (role_member head xs)

pub awaited_as : (xs : List ℕ) (s : Served) (z : ℕ) (q : Option Ask) → asked_in xs (Some s) z ≡ q → Awaited (rule_for s) (role_under s.owner xs z) q
awaited_as xs s z q e =
    subst (Awaited (rule_for s) (role_under s.owner xs z)) e (awaited (rule_for s) (eqb z s.zone) (is_some s.found) (listed xs z) (eqb z s.owner) xs)

pub asked_to_share : {r : Rule} {ro : Role} → Awaited r ro (Some SendData) → (r ≡ Sharing) × Owns ro
asked_to_share (to_share o) = (refl, o)

pub asked_to_yield : {r : Rule} {ro : Role} → Awaited r ro (Some SendDataAndInvalidate) → (r ≡ Fetching) × Owns ro
asked_to_yield (to_yield o) = (refl, o)

pub asked_to_leave : {r : Rule} {ro : Role} → Awaited r ro (Some Invalidate) → ((r ≡ Fetching) × (ro ≡ sharer)) ⊎ (r ≡ Clearing)
asked_to_leave to_leave = inl (refl, refl)
asked_to_leave (to_clear m) = inr refl

pub fetching_shares : Fetching ≡ Sharing → ⊥
fetching_shares e = let z : ◌≡◌ {A = ℕ} 0 1 = cc in omega arith

pub clearing_shares : Clearing ≡ Sharing → ⊥
clearing_shares e = let z : ◌≡◌ {A = ℕ} 0 1 = cc in omega arith

pub leaving_shares : {r : Rule} {ro : Role} → r ≡ Sharing → ((r ≡ Fetching) × (ro ≡ sharer)) ⊎ (r ≡ Clearing) → ⊥
leaving_shares e (inl (a, b)) = fetching_shares (sym a ∙ e)
leaving_shares e (inr a) = clearing_shares (sym a ∙ e)

-- nothing is asked of the requester, nor of a zone that is not listed
own_asking : (r : Rule) (came inside head : Bool) → asking r true came inside head ≡ None
own_asking r came true head = refl
own_asking r came false head = refl

pub own_unasked : (xs : List ℕ) (s : Served) → asked_in xs (Some s) s.zone ≡ None
own_unasked xs s = rw same (own_asking (rule_for s) (is_some s.found) (listed xs s.zone) (eqb s.zone s.owner))

pub unlisted_unasked : (xs : List ℕ) (sv : Option Served) (y : ℕ) → listed xs y ≡ false → asked_in xs sv y ≡ None
unlisted_unasked xs None y n = refl
unlisted_unasked xs (Some s) y n = rw n

pub asked_apart : (xs : List ℕ) (s : Served) (z : ℕ) (a : Ask) → asked_in xs (Some s) z ≡ Some a → eqb s.zone z ≡ false
asked_apart xs s z a e = go (compare_zones s.zone z)
  where
    go : Apart s.zone z → eqb s.zone z ≡ false
    go (equal p) =
        let q : asked_in xs (Some s) s.zone ≡ Some a = rw (sym p) at e in
        absurd (clash_some (sym q ∙ own_unasked xs s))
    go (apart n) = n

-- ── the rule of a demand ──

pub shares_only : (k : Demand) (j : Bool) → rule_of k j ≡ Sharing → k ≡ GetSharedData
shares_only GetSharedData j e = refl
shares_only GetExclusiveData j e = cc
shares_only GetExclusiveDataIfAny j e = cc
shares_only GetRemovedData j e = cc
shares_only Exclude true e = cc
shares_only Exclude false e = cc
shares_only ExcludeIfAny true e = cc
shares_only ExcludeIfAny false e = cc
shares_only PurgeOthers true e = cc
shares_only PurgeOthers false e = cc
shares_only PurgeAndExclude j e = cc
shares_only PurgeAll j e = cc

and_true : (j b : Bool) → b ≡ true → (j && b) ≡ false → j ≡ false
and_true true b e h = absurd (false≢true (sym h ∙ e))
and_true false b e h = refl

-- a reader is not listed
pub reader_unlisted : (k : Demand) (j : Bool) → rule_of k j ≡ Sharing → (j && wants_data k) ≡ false → j ≡ false
reader_unlisted k j e a = and_true j (wants_data k) (ap wants_data (shares_only k j e)) a

-- ── the whole list ──

-- somebody is awaited
pub who_is_awaited : (s : Served) (xs : List ℕ) → awaits_any s xs ≡ true → (y : ℕ) × (listed xs y ≡ true) × (is_some (ask_of_listed s y) ≡ true)
who_is_awaited s [] e = absurd (false≢true e)
who_is_awaited s (x ∷ xs) e = go (is_some (ask_of_listed s x)) refl e (who_is_awaited s xs)
  where
    later : (y : ℕ) → listed xs y ≡ true → listed (x ∷ xs) y ≡ true
    later y h = go (eqb x y)
      where
        go : (b : Bool) → cond b true (listed xs y) ≡ true
        go true = refl
        go false = h

    go : (b : Bool) → is_some (ask_of_listed s x) ≡ b → cond b true (awaits_any s xs) ≡ true →
        (awaits_any s xs ≡ true → (y : ℕ) × (listed xs y ≡ true) × (is_some (ask_of_listed s y) ≡ true)) →
        (y : ℕ) × (listed (x ∷ xs) y ≡ true) × (is_some (ask_of_listed s y) ≡ true)
    go true t e f = (x, rw same, t)
    go false t e f = let (y, h, a) = f e in (y, later y h, a)

pub is_awaited : (s : Served) (xs : List ℕ) (y : ℕ) → listed xs y ≡ true → is_some (ask_of_listed s y) ≡ true → awaits_any s xs ≡ true
is_awaited s [] y h a = absurd (false≢true h)
is_awaited s (x ∷ xs) y h a = go (is_some (ask_of_listed s x)) refl (eqb x y) refl h (λ h'. is_awaited s xs y h' a)
  where
    go : (b : Bool) → is_some (ask_of_listed s x) ≡ b → (e : Bool) → eqb x y ≡ e → cond e true (listed xs y) ≡ true →
        (listed xs y ≡ true → awaits_any s xs ≡ true) → cond b true (awaits_any s xs) ≡ true
    go true t e p h f = refl
    go false t true p h f =
        let q : is_some (ask_of_listed s y) ≡ false = rw (are_equal p) at t in
        absurd (false≢true (sym q ∙ a))
    go false t false p h f = f h

-- under fetching and clearing every zone but the requester is awaited
rest_asked : (r : Rule) (head came : Bool) → (r ≡ Sharing → ⊥) → is_some (ask_by r head came) ≡ true
rest_asked Sharing head came f = absurd (f refl)
rest_asked Fetching true came f = refl
rest_asked Fetching false came f = refl
rest_asked Clearing head came f = refl

pub nobody_left : (s : Served) (xs : List ℕ) → (rule_for s ≡ Sharing → ⊥) → awaits_any s xs ≡ false → without s.zone xs ≡ []
nobody_left s [] f e = refl
nobody_left s (x ∷ xs) f e = go (eqb x s.zone) e (nobody_left s xs f)
  where
    go : (b : Bool) → cond (is_some (cond b None (ask_by (rule_for s) (eqb x s.owner) (is_some s.found)))) true (awaits_any s xs) ≡ false →
        (awaits_any s xs ≡ false → without s.zone xs ≡ []) → cond (not b) (x ∷ without s.zone xs) (without s.zone xs) ≡ []
    go true e h = h e
    go false e h = absurd (false≢true (sym (rw (rest_asked (rule_for s) (eqb x s.owner) (is_some s.found) f) at e)))

-- under sharing only the owner is awaited, and only until data has come
sharer_asked : (head came : Bool) → is_some (ask_by Sharing head came) ≡ true → (head ≡ true) × (came ≡ false)
sharer_asked true true e = absurd (false≢true e)
sharer_asked true false e = (refl, refl)
sharer_asked false came e = absurd (false≢true e)

asked_shares : (s : Served) (y : ℕ) → rule_for s ≡ Sharing → is_some (ask_of_listed s y) ≡ true → (y ≡ s.owner) × (is_some s.found ≡ false)
asked_shares s y r e = go (eqb y s.zone) (rw r at e)
  where
    go : (b : Bool) → is_some (cond b None (ask_by Sharing (eqb y s.owner) (is_some s.found))) ≡ true → (y ≡ s.owner) × (is_some s.found ≡ false)
    go true e = absurd (false≢true e)
    go false e = let (h, c) = sharer_asked (eqb y s.owner) (is_some s.found) e in (are_equal h, c)

pub owner_awaited : (s : Served) (xs : List ℕ) → rule_for s ≡ Sharing → awaits_any s xs ≡ true → listed xs s.owner ≡ true
owner_awaited s xs r e =
    let (y, h, a) = who_is_awaited s xs e in
    rw (asked_shares s y r a).0 at h

pub data_ends_sharing : (s : Served) (xs : List ℕ) → rule_for s ≡ Sharing → is_some s.found ≡ true → awaits_any s xs ≡ false
data_ends_sharing s xs r f = go (awaits_any s xs) refl
  where
    go : (b : Bool) → awaits_any s xs ≡ b → b ≡ false
    go false e = refl
    go true e =
        let (y, h, a) = who_is_awaited s xs e in
        absurd (false≢true (sym (asked_shares s y r a).1 ∙ f))

-- the owner, listed and not the requester, is awaited while no data has come
pub owner_asked : (s : Served) (xs : List ℕ) → rule_for s ≡ Sharing → s.found ≡ None → eqb s.owner s.zone ≡ false → listed xs s.owner ≡ true → awaits_any s xs ≡ true
owner_asked s xs r f n h = is_awaited s xs s.owner h (rw (n, r, same, f))

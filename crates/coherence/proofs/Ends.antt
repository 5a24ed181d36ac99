-- The end of a served request: its reply is right, and the list that it leaves gives every zone its role.
use Rattle.std.proofs.Common.{◌≡◌, ℕ, Bool, true, false, ◌&&◌, eqb, List, is_some, Some, None, Option, sym, refl}
use mathlib.Core.Bool.{false≢true}
use Rattle.messages.specs.declared.assignments.Assignment.{Assignment}
use Rattle.messages.specs.declared.kinds.Demand.{Demand}
use Rattle.messages.specs.declared.kinds.Demand.TheVariants.{GetSharedData, GetExclusiveData, GetExclusiveDataIfAny, GetRemovedData, Exclude, ExcludeIfAny, PurgeOthers, PurgeAndExclude, PurgeAll}
use Rattle.messages.specs.declared.kinds.Reply.{Reply}
use Rattle.messages.specs.declared.kinds.Reply.TheVariants.{DataFound, ExclusionMade, NoDataFound}
use Rattle.directory.specs.Lists.{listed}
use Rattle.directory.specs.Serving.{rule_of, data_reply, reply_by, leaves, joined_if, alone_if}
use Rattle.directory.specs.TakeUp.{wants_data, owner_of}
use Rattle.coherence.proofs.Views.{Role, absent, sole, Member}
use Rattle.coherence.proofs.Zone
use Rattle.coherence.proofs.Zone.{Ends}
use Rattle.coherence.proofs.Zones.{same, flip}
use Rattle.coherence.proofs.Seen.{role_in}
use Rattle.coherence.proofs.Roles.{role_unlisted}
use Rattle.coherence.proofs.Invariant.{Brought}

abbrev sole_if : Reply → Role
sole_if (DataFound a) = sole
sole_if ExclusionMade = sole
sole_if NoDataFound = absent

-- the requester's role afterwards, where nobody else is listed any more
abbrev pub role_after : Demand → Reply → Role
role_after GetSharedData m = absent
role_after GetExclusiveData m = sole
role_after GetExclusiveDataIfAny m = sole_if m
role_after GetRemovedData m = absent
role_after Exclude m = sole
role_after ExcludeIfAny m = sole_if m
role_after PurgeOthers m = absent
role_after PurgeAndExclude m = sole
role_after PurgeAll m = absent

-- the requester's role before, by whether it is listed
pub data ListedAs : Bool → Role → Type 0 where
  inside : {ro : Role} → Member ro → ListedAs true ro
  outside : ListedAs false absent

-- ── the reply ──

-- by what the central pool holds, which is the data that came
exclusive_by : (c : Option Assignment) → Ends c absent GetExclusiveData (data_reply c) sole
exclusive_by None = Zone.exclusive_none
exclusive_by (Some v) = Zone.exclusive_found

if_any_by : (c : Option Assignment) → Ends c absent GetExclusiveDataIfAny (data_reply c) (sole_if (data_reply c))
if_any_by None = Zone.if_any_none
if_any_by (Some v) = Zone.if_any_found

removed_by : (c : Option Assignment) → Ends c absent GetRemovedData (data_reply c) absent
removed_by None = Zone.removed_none
removed_by (Some v) = Zone.removed_found

exclude_by : (c : Option Assignment) → Ends c absent Exclude (data_reply c) sole
exclude_by None = Zone.late_exclude_none
exclude_by (Some v) = Zone.late_exclude

exclude_if_any_by : (c : Option Assignment) → Ends c absent ExcludeIfAny (data_reply c) (sole_if (data_reply c))
exclude_if_any_by None = Zone.late_if_any_none
exclude_if_any_by (Some v) = Zone.late_if_any

purge_by : (c : Option Assignment) → Ends c absent PurgeOthers (data_reply c) absent
purge_by None = Zone.late_purge_none
purge_by (Some v) = Zone.late_purge

clear_by : (c f : Option Assignment) → Ends c absent PurgeAll (reply_by PurgeAll false f (is_some c)) absent
clear_by None f = Zone.clears_none
clear_by (Some v) f = Zone.clears_found

pub reply_right : (k : Demand) (j : Bool) (c f : Option Assignment) (p : Bool) {ro : Role} → (j && wants_data k) ≡ false → ListedAs j ro →
    Brought (rule_of k j) j false c f p → Ends c ro k (reply_by k j f p) (role_after k (reply_by k j f p))
reply_right GetSharedData true c f p a jo b = absurd (false≢true (sym a))
reply_right GetSharedData false c f p a outside b = rw (b.0, b.1) Zone.shared_none
reply_right GetExclusiveData true c f p a jo b = absurd (false≢true (sym a))
reply_right GetExclusiveData false c f p a outside b = rw b (exclusive_by c)
reply_right GetExclusiveDataIfAny true c f p a jo b = absurd (false≢true (sym a))
reply_right GetExclusiveDataIfAny false c f p a outside b = rw b (if_any_by c)
reply_right GetRemovedData true c f p a jo b = absurd (false≢true (sym a))
reply_right GetRemovedData false c f p a outside b = rw b (removed_by c)
reply_right Exclude true c f p a (inside m) b = Zone.excludes m
reply_right Exclude false c f p a outside b = rw b (exclude_by c)
reply_right ExcludeIfAny true c f p a (inside m) b = Zone.excludes_if_any m
reply_right ExcludeIfAny false c f p a outside b = rw b (exclude_if_any_by c)
reply_right PurgeOthers true c f p a (inside m) b = Zone.purges_others m
reply_right PurgeOthers false c f p a outside b = rw b (purge_by c)
reply_right PurgeAndExclude j c f p a jo b = Zone.puts
reply_right PurgeAll true c f p a (inside m) b = Zone.clears m
reply_right PurgeAll false c f p a outside b = rw b (clear_by c f)

-- ── the list that is left ──

-- nobody else comes onto it
joined_unlisted : (m : Reply) (x y : ℕ) (xs : List ℕ) → eqb y x ≡ false → listed xs y ≡ false → listed (joined_if m x xs) y ≡ false
joined_unlisted (DataFound a) x y xs n h = rw (flip y x n) h
joined_unlisted ExclusionMade x y xs n h = refl
joined_unlisted NoDataFound x y xs n h = refl

alone_unlisted : (m : Reply) (x y : ℕ) → eqb y x ≡ false → listed (alone_if m x) y ≡ false
alone_unlisted (DataFound a) x y n = rw (flip y x n)
alone_unlisted ExclusionMade x y n = rw (flip y x n)
alone_unlisted NoDataFound x y n = refl

pub leaves_unlisted : (k : Demand) (m : Reply) (x y : ℕ) (xs : List ℕ) → eqb y x ≡ false → listed xs y ≡ false → listed (leaves k m x xs) y ≡ false
leaves_unlisted GetSharedData m x y xs n h = joined_unlisted m x y xs n h
leaves_unlisted GetExclusiveData m x y xs n h = rw (flip y x n)
leaves_unlisted GetExclusiveDataIfAny m x y xs n h = alone_unlisted m x y n
leaves_unlisted GetRemovedData m x y xs n h = refl
leaves_unlisted Exclude m x y xs n h = rw (flip y x n)
leaves_unlisted ExcludeIfAny m x y xs n h = alone_unlisted m x y n
leaves_unlisted PurgeOthers m x y xs n h = refl
leaves_unlisted PurgeAndExclude m x y xs n h = rw (flip y x n)
leaves_unlisted PurgeAll m x y xs n h = refl

pub others_role : (k : Demand) (m : Reply) (x y : ℕ) (xs : List ℕ) → eqb y x ≡ false → listed xs y ≡ false → role_in (leaves k m x xs) None y ≡ absent
others_role k m x y xs n h = role_unlisted (owner_of (leaves k m x xs)) y (leaves k m x xs) (leaves_unlisted k m x y xs n h)

-- the requester has the role that the reply is right for
alone_role : (m : Reply) (x : ℕ) → role_in (alone_if m x) None x ≡ sole_if m
alone_role (DataFound a) x = rw same
alone_role ExclusionMade x = rw same
alone_role NoDataFound x = refl

pub own_role : (k : Demand) (j : Bool) (c f : Option Assignment) (p : Bool) (x : ℕ) (xs : List ℕ) → Brought (rule_of k j) j false c f p →
    role_in (leaves k (reply_by k j f p) x xs) None x ≡ role_after k (reply_by k j f p)
own_role GetSharedData j c f p x xs b = rw b.0
own_role GetExclusiveData j c f p x xs b = rw same
own_role GetExclusiveDataIfAny j c f p x xs b = alone_role (data_reply f) x
own_role GetRemovedData j c f p x xs b = refl
own_role Exclude j c f p x xs b = rw same
own_role ExcludeIfAny j c f p x xs b = alone_role (reply_by ExcludeIfAny j f p) x
own_role PurgeOthers j c f p x xs b = refl
own_role PurgeAndExclude j c f p x xs b = rw same
own_role PurgeAll j c f p x xs b = refl

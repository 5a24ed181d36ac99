-- Every step leaves a sound directory, and a list that grows finds room.
use Rattle.std.proofs.Common.{◌≡◌, ℕ, ◌<◌, ◌≤◌, true, false, cond, not, ltb, List, [], ◌∷◌, ◌++◌, length, Some, None, Option, refl, arith}
use lib.ListN.{length-map}
use Rattle.std.proofs.lemmas.Bool.{lt-ltb}
use Rattle.std.proofs.lemmas.Bool.Decides.{nat_tests}
use Rattle.std.proofs.lemmas.List.{map_push}
use Rattle.messages.specs.declared.kinds.Demand.{Demand}
use Rattle.messages.specs.declared.kinds.Demand.TheVariants.{GetSharedData, GetExclusiveData, GetExclusiveDataIfAny, GetRemovedData, Exclude, ExcludeIfAny, PurgeOthers, PurgeAndExclude, PurgeAll}
use Rattle.messages.specs.declared.kinds.Reply.{Reply}
use Rattle.messages.specs.declared.kinds.Reply.TheVariants.{DataFound, ExclusionMade, NoDataFound}
use Rattle.directory.specs.declared.rows.Waiting.{Waiting}
use Rattle.directory.specs.declared.rows.Served.{Served}
use Rattle.directory.specs.Lists.{listed, without}
use Rattle.directory.specs.Directory.{Directory, directory, requesters, busy_with, busy}
use Rattle.directory.specs.Serving.{reply_of, leaves, list_after}
use Rattle.directory.specs.Sound.{proper, reads_shared, reader_apart, sound}
use Rattle.directory.proofs.Zones.{proper_length, proper_without, proper_push, unlisted_without}

-- the parts of a sound directory
record Parts (d : Directory) : Type 0 where
  holders : proper d.list ≡ true
  askers : proper (busy d) ≡ true
  reader : reader_apart d.served d.list ≡ true

parts : (d : Directory) → sound d ≡ true → Parts d
parts d h = record { holders = grind arith; askers = grind arith; reader = grind arith }

whole : (d : Directory) → Parts d → sound d ≡ true
whole d p = rw (p.holders, p.askers) p.reader

-- ── a zone is struck off ──

struck_reader : (zone : ℕ) (list : List ℕ) (served : Option Served) → reader_apart served list ≡ true → reader_apart served (without zone list) ≡ true
struck_reader zone list None h = refl
struck_reader zone list (Some s) h = let u = unlisted_without zone s.zone list in grind (arith, nat_tests)

pub struck_sound : (zone : ℕ) (d : Directory) → sound d ≡ true → sound (directory (without zone d.list) d.waiting d.served) ≡ true
struck_sound zone d h =
    let p = parts d h in
    whole (directory (without zone d.list) d.waiting d.served)
    (record { holders = proper_without zone d.list p.holders; askers = p.askers; reader = struck_reader zone d.list d.served p.reader })

-- ── a request joins the waiting ones ──

-- a zone that is not busy finds room among the waiting requests
pub queue_room : (zone : ℕ) (d : Directory) → zone < 8 → sound d ≡ true → listed (busy d) zone ≡ false → length d.waiting < 8
queue_room zone d b h u = go d.served (parts d h).askers u where
  go : (served : Option Served) → proper (busy_with served d.waiting) ≡ true → listed (busy_with served d.waiting) zone ≡ false → length d.waiting < 8
  go None p u =
      let e : proper (zone ∷ requesters d.waiting) ≡ true = grind (arith, nat_tests) in
      omega (arith, simp length-map at (proper_length (zone ∷ requesters d.waiting) e))
  go (Some s) p u =
      let e : proper (zone ∷ (s.zone ∷ requesters d.waiting)) ≡ true = grind (arith, nat_tests) in
      omega (arith, simp length-map at (proper_length (zone ∷ (s.zone ∷ requesters d.waiting)) e))

joined_askers : (w : Waiting) (ws : List Waiting) (served : Option Served) → w.zone < 8 → proper (busy_with served ws) ≡ true → listed (busy_with served ws) w.zone ≡ false → proper (busy_with served (ws ++ w ∷ [])) ≡ true
joined_askers w ws None b p u = rw map_push (proper_push w.zone (requesters ws) p (lt-ltb _ _ b) u)
joined_askers w ws (Some s) b p u = rw map_push (proper_push w.zone (s.zone ∷ requesters ws) p (lt-ltb _ _ b) u)

pub joined_sound : (w : Waiting) (d : Directory) → w.zone < 8 → sound d ≡ true → listed (busy d) w.zone ≡ false → sound (directory d.list (d.waiting ++ w ∷ []) d.served) ≡ true
joined_sound w d b h u =
    let p = parts d h in
    whole (directory d.list (d.waiting ++ w ∷ []) d.served)
    (record { holders = p.holders; askers = joined_askers w d.waiting d.served b p.askers u; reader = p.reader })

-- ── a request ends ──

joined_proper : (r : Reply) (x : ℕ) (list : List ℕ) → ltb x 8 ≡ true → proper list ≡ true → not (listed list x) ≡ true → proper (leaves GetSharedData r x list) ≡ true
joined_proper (DataFound a) x list b p u = grind (arith, nat_tests)
joined_proper ExclusionMade x list b p u = refl
joined_proper NoDataFound x list b p u = refl

alone_proper : (r : Reply) (x : ℕ) → ltb x 8 ≡ true → proper (leaves GetExclusiveDataIfAny r x []) ≡ true
alone_proper (DataFound a) x b = rw b
alone_proper ExclusionMade x b = rw b
alone_proper NoDataFound x b = refl

leaves_proper : (k : Demand) (r : Reply) (x : ℕ) (list : List ℕ) → ltb x 8 ≡ true → proper list ≡ true → cond (reads_shared k) (not (listed list x)) true ≡ true → proper (leaves k r x list) ≡ true
leaves_proper GetSharedData r x list b p u = joined_proper r x list b p u
leaves_proper GetExclusiveData r x list b p u = rw b
leaves_proper GetExclusiveDataIfAny r x list b p u = alone_proper r x b
leaves_proper GetRemovedData r x list b p u = refl
leaves_proper Exclude r x list b p u = rw b
leaves_proper ExcludeIfAny r x list b p u = alone_proper r x b
leaves_proper PurgeOthers r x list b p u = refl
leaves_proper PurgeAndExclude r x list b p u = rw b
leaves_proper PurgeAll r x list b p u = refl

after_proper : (s : Served) (list : List ℕ) (ws : List Waiting) → Parts (directory list ws (Some s)) → proper (list_after s list) ≡ true
after_proper s list ws p =
    let a = p.askers in
    leaves_proper s.demand (reply_of s) s.zone list (grind (arith, nat_tests)) p.holders p.reader

pub left_fits : (s : Served) (list : List ℕ) (ws : List Waiting) → sound (directory list ws (Some s)) ≡ true → length (list_after s list) ≤ 8
left_fits s list ws h = proper_length (list_after s list) (after_proper s list ws (parts (directory list ws (Some s)) h))

pub left_sound : (s : Served) (list : List ℕ) (ws : List Waiting) → sound (directory list ws (Some s)) ≡ true → sound (directory (list_after s list) ws None) ≡ true
left_sound s list ws h =
    let p = parts (directory list ws (Some s)) h in
    let a = p.askers in
    whole (directory (list_after s list) ws None) (record { holders = after_proper s list ws p; askers = grind (arith, nat_tests); reader = refl })

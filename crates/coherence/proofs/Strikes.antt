-- A zone is struck off the list while a request is served.
use Rattle.std.proofs.Common.{◌≡◌, ℕ, Bool, true, false, eqb, ltb, List, is_some, Some, None, Option, ◌∙◌}
use Rattle.messages.specs.declared.assignments.Assignment.{Assignment}
use Rattle.messages.specs.declared.kinds.Kind.{Kind}
use Rattle.directory.specs.declared.rows.Waiting.{Waiting}
use Rattle.directory.specs.declared.rows.Served.{Served}
use Rattle.directory.specs.Lists.{listed, without}
use Rattle.directory.specs.Directory.{directory}
use Rattle.directory.specs.Serving.{ask_by}
use Rattle.coherence.specs.System.{System, at}
use Rattle.coherence.specs.Steps.{taken_from}
use Rattle.coherence.proofs.Views.{absent, view, Link}
use Rattle.coherence.proofs.Zone.{link_eased}
use Rattle.coherence.proofs.Zones.{same, everywhere, beyond_apart, struck_off, others_listed, unlisted_still}
use Rattle.coherence.proofs.Seen.{asked_in, standing_in}
use Rattle.coherence.proofs.Roles.{role_others}
use Rattle.coherence.proofs.Awaits.{rule_for}
use Rattle.coherence.proofs.Invariant.{Brought, Serves, Linked, Beyond}
use Rattle.coherence.proofs.Kept.{with_directory}

pub beyond_struck : (ups : ℕ → List Kind) (xs : List ℕ) (ws : List Waiting) (z : ℕ) (rest : List Kind) → ltb z 8 ≡ true → Beyond ups xs ws →
    Beyond (at z rest ups) (without z xs) ws
beyond_struck ups xs ws z rest t f y e = (unlisted_still y z xs (f y e).0, (f y e).1, rw (beyond_apart y z t e) (f y e).2)

-- a served request with what has come for it
abbrev pub brings : Served → Option Assignment → Bool → Served
brings s found purged =
    record { zone = s.zone; demand = s.demand; was_listed = s.was_listed; owner = s.owner; found = found; owner_purged = purged }

-- where what has come does not change what is asked, the others are linked as before
pub struck_linked : (s : System) (xs : List ℕ) (ws : List Waiting) (sv : Served) (f : Option Assignment) (p : Bool) (z : ℕ) (rest : List Kind) →
    ((y : ℕ) → Linked (with_directory s (directory xs ws (Some sv))) y) →
    ((head : Bool) → ask_by (rule_for sv) head (is_some f) ≡ ask_by (rule_for sv) head (is_some sv.found)) →
    Link s.central (view absent None (standing_in ws (Some sv) z)) rest (s.line z) (s.down z) (s.pending z) →
    (y : ℕ) → Linked (with_directory (taken_from s z rest) (directory (without z xs) ws (Some (brings sv f p)))) y
struck_linked s xs ws sv f p z rest linked ea h =
    everywhere _ z
    (rw (same, struck_off z xs) h)
    (λ y n. rw (n, still_asked y n) (link_eased (role_others sv.owner y z xs n) (linked y)))
  where
    still_asked : (y : ℕ) → eqb y z ≡ false → asked_in (without z xs) (Some (brings sv f p)) y ≡ asked_in xs (Some sv) y
    still_asked y n = rw (others_listed y z xs n, ea (eqb y sv.owner))

pub struck_serves : (c : Option Assignment) (xs : List ℕ) (ws : List Waiting) (s : Served) (f : Option Assignment) (p : Bool) (z : ℕ) → Serves c xs ws s →
    eqb s.zone z ≡ false → Brought (rule_for s) s.was_listed (listed (without z xs) s.owner) c f p → Serves c (without z xs) ws (brings s f p)
struck_serves c xs ws s f p z h n b =
    record {
      a_zone = h.a_zone;
      listed_as_before = others_listed s.zone z xs n ∙ h.listed_as_before;
      unqueued = h.unqueued;
      has_its_place = h.has_its_place;
      brought = b;
    }

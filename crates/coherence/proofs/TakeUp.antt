-- A take-up is refused only with 15 and 16, and keeps the invariant.
use Rattle.std.proofs.Common.{◌≡◌, ℕ, Bool, true, false, cond, ◌&&◌, eqb, ltb, List, [], ◌∷◌, ◌++◌, Some, None, Option, sym, refl, ◌∙◌, append-nil}
use mathlib.Core.Bool.{false≢true}
use Rattle.messages.specs.declared.assignments.Assignment.{Assignment}
use Rattle.messages.specs.declared.requests.Request.{Request}
use Rattle.messages.specs.declared.kinds.Demand.{Demand}
use Rattle.messages.specs.declared.kinds.Ask.{Ask}
use Rattle.messages.specs.declared.kinds.Ask.TheVariants.{Invalidate}
use Rattle.messages.specs.declared.kinds.Kind.{Kind}
use Rattle.line.specs.declared.states.State.{State}
use Rattle.directory.specs.declared.rows.Rule.{Rule}
use Rattle.directory.specs.declared.rows.Rule.TheVariants.{Sharing, Fetching, Clearing}
use Rattle.directory.specs.declared.rows.Waiting.{Waiting}
use Rattle.directory.specs.declared.rows.Served.{Served}
use Rattle.directory.specs.Lists.{listed, without}
use Rattle.directory.specs.Directory.{Directory, directory, Outcome, went, refused}
use Rattle.directory.specs.Serving.{rule_of, awaited_for, awaits_any, ended, serves_on}
use Rattle.directory.specs.TakeUp.{wants_data, owner_of, begun, asks, takes_first, takes_up, taken_up}
use Rattle.coherence.specs.System.{System, Pending}
use Rattle.coherence.proofs.Views.{Role, Standing, waiting, view, done, then, SentHolding, Member, a_sharer, an_owner, a_sole, as_waiting, Case, asking_bare, asking_lost, asking_held, stale, Link}
use Rattle.coherence.proofs.Zone.{MayAsk, ask_sharer, ask_owner, ask_sole, link_asking, link_taking, members_away}
use Rattle.coherence.proofs.Zones.{same, everywhere, Apart, equal, apart, compare_zones, flip, clash_some, none_else}
use Rattle.coherence.proofs.Seen.{role_under, asked_in, waiting_of, standing_in}
use Rattle.coherence.proofs.Roles.{Owns, as_owner, as_sole, others_stand}
use Rattle.coherence.proofs.Awaits.{rule_for, Awaited, to_share, to_yield, to_leave, to_clear, awaited_as, nobody_left, fetching_shares, clearing_shares, own_unasked, unlisted_unasked, reader_unlisted, owner_asked}
use Rattle.coherence.proofs.Ends.{ListedAs, inside, outside}
use Rattle.coherence.proofs.Settle.{listed_as, end_keeps}
use Rattle.coherence.proofs.Invariant.{Distinct, Brought, Serves, Ready, Linked, Beyond, Inv}
use Rattle.coherence.proofs.Kept.{Kept, kept_asking, ask_lane, with_directory}

-- ── a listed zone sends only what a listed zone may send ──

holder_sends : {l : State} {c : Option Assignment} {k : Demand} {r : Request} → SentHolding l c k r → wants_data k ≡ false
holder_sends SentHolding.putting = refl
holder_sends SentHolding.swapping = refl
holder_sends SentHolding.swapping_if_any = refl
holder_sends SentHolding.taking = refl
holder_sends SentHolding.removing = refl

case_listed : {c : Option Assignment} {ro : Role} {k : Demand} {l : State} {d : List Kind} {e : Pending} →
    Member ro → Case c (view ro None (waiting k)) l d e → wants_data k ≡ false
case_listed m (asking_bare w b st) = absurd (members_away m w)
case_listed m (asking_lost b st) = elim m [ ]
case_listed m (asking_held b me as_waiting q) = holder_sends b
case_listed m (stale i b) = case_listed m b

link_listed : {c : Option Assignment} {ro : Role} {k : Demand} {ms d : List Kind} {l : State} {e : Pending} →
    Member ro → Link c (view ro None (waiting k)) ms l d e → wants_data k ≡ false
link_listed m (w, done, b, n) = case_listed m b
link_listed m (w, then g a, b, n) = elim g [ ]

has_place : {c : Option Assignment} {ro : Role} {k : Demand} {ms d : List Kind} {l : State} {e : Pending} (j : Bool) →
    ListedAs j ro → Link c (view ro None (waiting k)) ms l d e → (j && wants_data k) ≡ false
has_place true (inside m) h = link_listed m h
has_place false outside h = refl

-- ── what is asked may be asked ──

owner_may : {ro : Role} {a : Ask} → Owns ro → MayAsk ro a
owner_may as_owner = ask_owner
owner_may as_sole = ask_sole

member_may : {ro : Role} → Member ro → MayAsk ro Invalidate
member_may a_sharer = ask_sharer
member_may an_owner = ask_owner
member_may a_sole = ask_sole

awaited_may : {r : Rule} {ro : Role} {a : Ask} → Awaited r ro (Some a) → MayAsk ro a
awaited_may (to_share o) = owner_may o
awaited_may (to_yield o) = owner_may o
awaited_may to_leave = ask_sharer
awaited_may (to_clear m) = member_may m

asked_link : {c : Option Assignment} {ro : Role} {p : Standing} {ms d : List Kind} {l : State} {e : Pending} (q : Option Ask) →
    ((a : Ask) → q ≡ Some a → MayAsk ro a) → Link c (view ro None p) ms l d e → Link c (view ro q p) ms l (d ++ ask_lane q) e
asked_link None f h = rw append-nil h
asked_link (Some a) f h = link_asking (f a refl) h

-- ── the first waiting request ──

brought_nothing : (r : Rule) (j i : Bool) (c : Option Assignment) → (i ≡ false → c ≡ None) → Brought r j i c None false
brought_nothing Sharing j true c f = refl
brought_nothing Sharing j false c f = (refl, f refl)
brought_nothing Fetching j true c f = refl
brought_nothing Fetching j false c f = sym (f refl)
brought_nothing Clearing true i c f = tt
brought_nothing Clearing false true c f = refl
brought_nothing Clearing false false c f = rw (f refl)

owner_listed : (xs : List ℕ) → listed xs (owner_of xs) ≡ false → xs ≡ []
owner_listed [] e = refl
owner_listed (x ∷ xs) e = absurd (false≢true (sym (rw same at e)))

module _ (s : System) (xs : List ℕ) (w : Waiting) (ws : List Waiting)
    (linked : (y : ℕ) → Linked (with_directory s (directory xs (w ∷ ws) None)) y)
    (beyond : Beyond s.up xs (w ∷ ws)) (free : waiting_of ws w.zone ≡ None) (dq : Distinct ws) (none : xs ≡ [] → s.central ≡ None) where
  abbrev sv : Served
  sv = begun w xs

  waits_still : Link s.central (view (role_under (owner_of xs) xs w.zone) None (waiting w.demand)) (s.up w.zone) (s.line w.zone) (s.down w.zone) (s.pending w.zone)
  waits_still = rw same at (linked w.zone)

  pub in_place : (listed xs w.zone && wants_data w.demand) ≡ false
  in_place = has_place (listed xs w.zone) (listed_as (owner_of xs) w.zone xs (listed xs w.zone) refl) waits_still

  below : ltb w.zone 8 ≡ true
  below = go (ltb w.zone 8) refl
    where
      go : (b : Bool) → ltb w.zone 8 ≡ b → b ≡ true
      go true e = refl
      go false e = absurd (clash_some (rw same at (beyond w.zone e).1))

  serves : Serves s.central xs ws sv
  serves =
      record {
        a_zone = below;
        listed_as_before = refl;
        unqueued = free;
        has_its_place = in_place;
        brought = brought_nothing (rule_of w.demand (listed xs w.zone)) (listed xs w.zone) (listed xs (owner_of xs)) s.central (λ e. none (owner_listed xs e));
      }

  beyond_rest : Beyond s.up xs ws
  beyond_rest y e = ((beyond y e).0, unqueued_rest (eqb w.zone y) (beyond y e).1, (beyond y e).2)
    where
      unqueued_rest : (b : Bool) → cond b (Some w.demand) (waiting_of ws y) ≡ None → waiting_of ws y ≡ None
      unqueued_rest true h = absurd (clash_some h)
      unqueued_rest false h = h

  -- the request is served, and nothing is asked yet
  unasked : (y : ℕ) → Link s.central (view (role_under (owner_of xs) xs y) None (standing_in ws (Some sv) y)) (s.up y) (s.line y) (s.down y) (s.pending y)
  unasked =
      everywhere _ w.zone
      (rw (free, same) (link_taking waits_still))
      (λ y n. let h = rw (flip y w.zone n) at (linked y) in rw (sym (others_stand sv (waiting_of ws y) y n)) h)

  -- nobody else is listed where nobody is awaited
  nobody_else : awaits_any sv xs ≡ false → without w.zone xs ≡ []
  nobody_else e = go (rule_for sv) refl
    where
      apart_from : rule_for sv ≡ Sharing → listed xs (owner_of xs) ≡ true → Apart (owner_of xs) w.zone → eqb (owner_of xs) w.zone ≡ false
      apart_from er m (equal p) =
          let k : listed xs w.zone ≡ true = rw p at m in
          absurd (false≢true (sym (reader_unlisted w.demand (listed xs w.zone) er in_place) ∙ k))
      apart_from er m (apart n) = n

      sharing : rule_for sv ≡ Sharing → (b : Bool) → listed xs (owner_of xs) ≡ b → without w.zone xs ≡ []
      sharing er true m =
          absurd (false≢true (sym e ∙ owner_asked sv xs er refl (apart_from er m (compare_zones (owner_of xs) w.zone)) m))
      sharing er false m = rw (owner_listed xs m)

      go : (r : Rule) → rule_for sv ≡ r → without w.zone xs ≡ []
      go Sharing er = sharing er (listed xs (owner_of xs)) refl
      go Fetching er = nobody_left sv xs (λ p. fetching_shares (sym er ∙ p)) e
      go Clearing er = nobody_left sv xs (λ p. clearing_shares (sym er ∙ p)) e

  -- what each zone is asked goes down to it
  asked_linked : (y : ℕ) →
      Link s.central (view (role_under (owner_of xs) xs y) (awaited_for sv xs y) (standing_in ws (Some sv) y)) (s.up y) (s.line y) (s.down y ++ ask_lane (awaited_for sv xs y)) (s.pending y)
  asked_linked y = asked_link (awaited_for sv xs y) (λ a e. awaited_may (awaited_as xs sv y (Some a) e)) (unasked y)

  -- where nobody is awaited nobody is asked
  nobody_asked : without w.zone xs ≡ [] → (y : ℕ) → asked_in xs (Some sv) y ≡ None
  nobody_asked e = everywhere (λ y. asked_in xs (Some sv) y ≡ None) w.zone (own_unasked xs sv) (λ y n. unlisted_unasked xs (Some sv) y (none_else w.zone y xs n e))

  begin_keeps : Kept s (serves_on (asks sv xs) sv xs ws)
  begin_keeps = go (awaits_any sv xs) refl
    where
      go : (b : Bool) → awaits_any sv xs ≡ b → Kept s (cond b (went (asks sv xs) None (directory xs ws (Some sv))) (ended sv xs ws))
      go true e =
          kept_asking s sv (directory xs ws (Some sv)) (λ y h. (beyond y h).0)
          (record { linked = asked_linked; beyond = beyond_rest; distinct = dq; ready = (serves, e) })
      go false e =
          let n = nobody_else e in
          end_keeps s xs ws sv (λ y. rw (nobody_asked n y) (unasked y)) beyond_rest dq serves n

-- what a take-up comes to
pub data TakenUp (s : System) : Outcome → Type 0 where
  taken : {o : Outcome} → Kept s o → TakenUp s o
  nothing_waits : {d : Directory} → TakenUp s (refused 16 d)
  already_serving : {d : Directory} → TakenUp s (refused 15 d)

first_keeps : (s : System) (xs : List ℕ) (ws : List Waiting) → ((y : ℕ) → Linked (with_directory s (directory xs ws None)) y) → Beyond s.up xs ws → Distinct ws →
    (xs ≡ [] → s.central ≡ None) → TakenUp s (takes_first xs ws)
first_keeps s xs [] linked beyond dq none = nothing_waits
first_keeps s xs (w ∷ ws) linked beyond (free, dq) none =
    rw (in_place s xs w ws linked beyond free dq none) (taken (begin_keeps s xs w ws linked beyond free dq none))

pub take_up_keeps : (s : System) → Inv s → TakenUp s (taken_up s.dir)
take_up_keeps s i = go s.dir.list s.dir.waiting s.dir.served i.linked i.beyond i.distinct i.ready
  where
    go : (xs : List ℕ) (ws : List Waiting) (sv : Option Served) → ((y : ℕ) → Linked (with_directory s (directory xs ws sv)) y) → Beyond s.up xs ws → Distinct ws →
        Ready s.central xs ws sv → TakenUp s (takes_up xs ws sv)
    go xs ws None linked beyond dq h = first_keeps s xs ws linked beyond dq h
    go xs ws (Some now) linked beyond dq h = already_serving

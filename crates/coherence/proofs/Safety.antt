-- What follows from the invariant, and so holds in every run.
use Rattle.std.proofs.Common.{◌≡◌, ℕ, true, ◌≢◌, List, [], is_some, Some, None, Option, sym, refl, subst, arith}
use mathlib.Core.Bool.{false≢true}
use Rattle.std.proofs.lemmas.Bool.{ne_eqb}
use Rattle.messages.specs.declared.assignments.Assignment.{Assignment}
use Rattle.messages.specs.declared.requests.Request.{Request}
use Rattle.messages.specs.declared.requests.Request.TheVariants.{CarbonCopy, Put}
use Rattle.messages.specs.declared.requests.Answer.{Answer}
use Rattle.messages.specs.declared.kinds.Ask.{Ask}
use Rattle.messages.specs.declared.kinds.Up.{Up}
use Rattle.messages.specs.declared.kinds.Down.{Down}
use Rattle.messages.specs.declared.kinds.Kind.{Kind}
use Rattle.messages.specs.Central.{answered}
use Rattle.line.specs.declared.states.State.{State}
use Rattle.line.specs.Outcomes as line
use Rattle.line.specs.Questions.{readable, answers_put}
use Rattle.directory.specs.declared.rows.Served.{Served}
use Rattle.directory.specs.Directory.{Directory, Outcome}
use Rattle.directory.specs.Directory as directory
use Rattle.directory.specs.Serving.{ask_of_listed, awaits_any}
use Rattle.coherence.specs.System.{System, Pending, free, settled}
use Rattle.coherence.specs.Steps.{taken_from}
use Rattle.coherence.specs.Coherent.{Unsettled, Safe, Coherent}
use Rattle.coherence.proofs.Views.{Role, Standing, idle, View, view, done, Waits, bare, with_copy, exclusive, owned_alone, owned, unowned, unasked, by_invalid, by_bare, Case, uncopied, asking_bare, asking_lost, holding, asking_held, answered_away, answered_held, stale, Link}
use Rattle.coherence.proofs.Zone.{Struck, link_struck}
use Rattle.coherence.proofs.Local.{Taken, ended, received_fits, Started, waits, sent, read, wrote, reported, requested_fits, waiting_refuses}
use Rattle.coherence.proofs.Zones.{clash_some}
use Rattle.coherence.proofs.Seen.{asked_in}
use Rattle.coherence.proofs.Awaits.{who_is_awaited}
use Rattle.coherence.proofs.Invariant.{Ready, Linked, Inv}
use Rattle.coherence.proofs.Kept.{Kept, kept, with_directory}
use Rattle.coherence.proofs.LineSteps.{Sole, sole_idle, all_sole, sole_role, others_struck}
use Rattle.coherence.proofs.TakeUp.{TakenUp, taken, nothing_waits, already_serving, take_up_keeps}
use Rattle.coherence.proofs.Runs.{delivery_keeps, run_inv}
use Rattle.coherence.proofs.Short.{up_short, down_short}

-- ── what can be read, and who holds exclusively ──

waiting_unread : {l : State} {q : Request} {c : Option Assignment} {v : Assignment} → Waits l q → readable l ≡ Some v → c ≡ Some v
waiting_unread w e = absurd (clash_some (sym (rw (waiting_refuses CarbonCopy w).0 at e)))

case_reads : {c : Option Assignment} {w : View} {l : State} {d : List Kind} {p : Pending} {v : Assignment} → Case c w l d p → readable l ≡ Some v → c ≡ Some v
case_reads (uncopied a) e = absurd (clash_some (sym e))
case_reads (asking_bare a b st) e = waiting_unread (bare b) e
case_reads (asking_lost b st) e = waiting_unread (with_copy b) e
case_reads (holding exclusive q) e = e
case_reads (holding owned_alone q) e = e
case_reads (holding owned q) e = e
case_reads (holding unowned q) e = e
case_reads (asking_held b me st q) e = waiting_unread (with_copy b) e
case_reads (answered_away w x) e = waiting_unread w e
case_reads (answered_held w x h q) e = waiting_unread w e
case_reads (stale i b) e = case_reads b e

waiting_shared : {A : Type 0} {l : State} {q : Request} (n : Assignment) → Waits l q → answers_put l n ≡ true → A
waiting_shared n w e = absurd (false≢true (rw (waiting_refuses (Put n) w).0 at e))

case_exclusive : {c : Option Assignment} {w : View} {l : State} {d : List Kind} {p : Pending} (n : Assignment) → Case c w l d p → answers_put l n ≡ true → Sole w
case_exclusive n (uncopied a) e = absurd (false≢true e)
case_exclusive n (asking_bare a b st) e = waiting_shared n (bare b) e
case_exclusive n (asking_lost b st) e = waiting_shared n (with_copy b) e
case_exclusive n (holding exclusive q) e = sole_idle
case_exclusive n (holding owned_alone q) e = absurd (false≢true e)
case_exclusive n (holding owned q) e = absurd (false≢true e)
case_exclusive n (holding unowned q) e = absurd (false≢true e)
case_exclusive n (asking_held b me st q) e = waiting_shared n (with_copy b) e
case_exclusive n (answered_away w x) e = waiting_shared n w e
case_exclusive n (answered_held w x h q) e = waiting_shared n w e
case_exclusive n (stale by_invalid b) e = absurd (false≢true e)
case_exclusive n (stale (by_bare z) b) e = waiting_shared n (bare z) e

-- a zone that is not listed reads nothing: it would be as well linked if the central pool held nothing
struck_unread : {c : Option Assignment} {v : View} {ms d : List Kind} {l : State} {p : Pending} → Struck v → Link c v ms l d p → readable l ≡ None
struck_unread {l = l} s h = go (readable l) refl
  where
    go : (o : Option Assignment) → readable l ≡ o → o ≡ None
    go None e = refl
    go (Some v) e = absurd (clash_some (sym (case_reads (link_struck None s h).2 e)))

excludes : (s : System) → Inv s → (y z : ℕ) (n : Assignment) → answers_put (s.line z) n ≡ true → y ≢ z → readable (s.line y) ≡ None
excludes s i y z n x m =
    let (w, a, b, q) = i.linked z in
    let (a', o) = all_sole s.central a (case_exclusive n b x) in
    struck_unread (others_struck s.dir.list s.dir.served _ y z (sole_role o) (ne_eqb y z m)) (i.linked y)

-- ── requests and answers ──

started_free : {c : Option Assignment} {w : View} {d : List Kind} {p : Pending} {r : Request} {u : Option Up} {a : Option Answer} {l : State} →
    Started c w d p r (line.moved u a l) → p ≡ free
started_free (sent g b) = refl
started_free (read b) = refl
started_free (wrote b) = refl
started_free (reported g b) = refl

refused_busy : {c : Option Assignment} {w : View} {d : List Kind} {p : Pending} {r : Request} {n : ℕ} {l : State} → Started c w d p r (line.refused n l) → p ≢ free
refused_busy (waits n) = n

started_answers : {c : Option Assignment} {w : View} {d : List Kind} {p : Pending} {r : Request} {u : Option Up} {a : Answer} {l : State} →
    Started c w d p r (line.moved u (Some a) l) → a ≡ answered r c
started_answers (read b) = refl
started_answers (wrote b) = refl
started_answers (reported g b) = refl

ended_kept : {c : Option Assignment} {w : View} {d : List Kind} {p : Pending} {u : Option Up} {a : Answer} {l : State} →
    Taken c w d p (line.moved u (Some a) l) → (r : Request) × (p ≡ settled r a)
ended_kept (ended {r = r} b) = (r, refl)

settles : {s : System} {to : List (Option Down)} {x : ℕ} {d : Directory} → Kept s (directory.went to (Some x) d) → Unsettled s x
settles {x = x} (kept i f) = f x refl

take_up_settles : {s : System} {to : List (Option Down)} {x : ℕ} {d : Directory} → TakenUp s (directory.went to (Some x) d) → Unsettled s x
take_up_settles (taken k) = settles k

-- ── refusals ──

down_unrefused : {c : Option Assignment} {w : View} {d : List Kind} {p : Pending} {n : ℕ} {l : State} → Taken c w d p (line.refused n l) → ⊥
down_unrefused t = elim t [ ]

up_unrefused : {s : System} {n : ℕ} {d : Directory} → Kept s (directory.refused n d) → ⊥
up_unrefused k = elim k [ ]

take_up_in_place : {s : System} {o : Outcome} {d : Directory} → TakenUp s o → o ≡ directory.refused 17 d → ⊥
take_up_in_place {s} (taken k) e = up_unrefused (subst (Kept s) e k)
take_up_in_place nothing_waits e = let z : ◌≡◌ {A = ℕ} 16 17 = cc in omega arith
take_up_in_place already_serving e = let z : ◌≡◌ {A = ℕ} 15 17 = cc in omega arith

-- ── quiet ──

-- with empty lanes a zone is asked nothing
lanes_unasked : {c : Option Assignment} {ro : Role} {q : Option Ask} {p : Standing} {l : State} {e : Pending} → Link c (view ro q p) [] l [] e → q ≡ None
lanes_unasked (w, done, uncopied a, n) = refl
lanes_unasked (w, done, asking_bare a b st, n) = refl
lanes_unasked (w, done, asking_lost b st, n) = refl
lanes_unasked (w, done, holding h unasked, n) = refl
lanes_unasked (w, done, asking_held b me st unasked, n) = refl

-- and one of which no request is at the directory has none
lanes_free : {c : Option Assignment} {ro : Role} {q : Option Ask} {l : State} {e : Pending} → Link c (view ro q idle) [] l [] e → e ≡ free
lanes_free (w, done, uncopied a, n) = refl
lanes_free (w, done, asking_bare a b st, n) = elim st [ ]
lanes_free (w, done, asking_lost b st, n) = elim st [ ]
lanes_free (w, done, holding h q, n) = refl
lanes_free (w, done, asking_held b me st q, n) = elim st [ ]

somebody_asked : (xs : List ℕ) (sv : Served) → awaits_any sv xs ≡ true → (y : ℕ) × (asked_in xs (Some sv) y ≡ None → ⊥)
somebody_asked xs sv busy =
    let (y, h, a) = who_is_awaited sv xs busy in
    (y, λ e. none_asked y a (rw h at e))
  where
    none_asked : (y : ℕ) → is_some (ask_of_listed sv y) ≡ true → ask_of_listed sv y ≡ None → ⊥
    none_asked y a e = false≢true (rw e at a)

quiet_directory : (s : System) (xs : List ℕ) (sv : Option Served) → ((y : ℕ) → Linked (with_directory s (directory.directory xs [] sv)) y) → Ready s.central xs [] sv →
    ((y : ℕ) → (s.up y ≡ []) × (s.down y ≡ [])) → (y : ℕ) → s.pending y ≡ free
quiet_directory s xs None linked h f y = lanes_free (rw ((f y).0, (f y).1) at (linked y))
quiet_directory s xs (Some sv) linked (h, busy) f y =
    let (z, n) = somebody_asked xs sv busy in
    absurd (n (lanes_unasked (rw ((f z).0, (f z).1) at (linked z))))

-- ── the theorem ──

pub safe : (s : System) → Inv s → Safe s
safe s i =
    record {
      readers_see_the_central_value = λ z v e. case_reads (i.linked z).2 e;
      exclusive_excludes_readers = excludes s i;
      one_request_at_a_time = λ z r u a l e. started_free (subst (Started _ _ _ _ r) e (requested_fits r (i.linked z).2));
      refused_only_while_outstanding = λ z r n l e. refused_busy (subst (Started _ _ _ _ r) e (requested_fits r (i.linked z).2));
      answer_at_start_is_central = λ z r u a l e. started_answers (subst (Started _ _ _ _ r) e (requested_fits r (i.linked z).2));
      answer_by_delivery_is_kept = λ z m rest u a l d e. ended_kept (subst (Taken _ _ _ _) e (received_fits (rw d at (i.linked z).2)));
      delivery_settles_once = λ z m rest to x d e a. settles (subst (Kept (taken_from s z rest)) a (delivery_keeps s z m rest e i));
      take_up_settles_once = λ to x d a. take_up_settles (subst (TakenUp s) a (take_up_keeps s i));
      down_is_taken = λ z m rest n l d e. down_unrefused (subst (Taken _ _ _ _) e (received_fits (rw d at (i.linked z).2)));
      up_is_taken = λ z m rest n d e a. up_unrefused (subst (Kept (taken_from s z rest)) a (delivery_keeps s z m rest e i));
      take_up_has_its_place = λ d e. take_up_in_place (take_up_keeps s i) e;
      quiet_leaves_nothing_open = λ f e. quiet_directory s s.dir.list s.dir.served (rw e at i.linked) (rw e at i.ready) f;
      lanes_hold_three = λ z. (up_short (i.linked z).1, down_short (i.linked z).3);
    }

pub every_run_is_safe : Coherent
every_run_is_safe s u = safe s (run_inv u)

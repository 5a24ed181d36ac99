-- A delivery up over all messages; and the invariant in every run.
use Rattle.std.proofs.Common.{◌≡◌, ℕ, Bool, true, false, ltb, List, [], ◌∷◌, Option, sym, refl, ◌∙◌, subst, arith}
use Rattle.std.proofs.lemmas.Bool.{lt-ltb}
use Rattle.messages.specs.declared.assignments.Assignment.{Assignment}
use Rattle.messages.specs.declared.kinds.Up.TheVariants as up
use Rattle.messages.specs.declared.kinds.Down.{Down}
use Rattle.messages.specs.declared.kinds.Kind.{Kind}
use Rattle.messages.specs.declared.kinds.Kind.TheVariants as kind
use Rattle.directory.specs.Directory.{Directory, went}
use Rattle.directory.specs.Arrivals.{arrives, delivered}
use Rattle.directory.specs.TakeUp.{taken_up}
use Rattle.coherence.specs.System.{System, fresh, loaded}
use Rattle.coherence.specs.Steps.{after_directory, taken_from, Run, nobody_has_it, one_has_it, request, letting_go, delivery_down, delivery_up, take_up}
use Rattle.coherence.proofs.Views.{done, exclusive, unasked, is_absent, uncopied, holding, empty}
use Rattle.coherence.proofs.Zone.{take_down}
use Rattle.coherence.proofs.Zones.{same, flip, beyond_apart, everywhere}
use Rattle.coherence.proofs.Invariant.{Linked, Inv}
use Rattle.coherence.proofs.Kept.{Kept, kept}
use Rattle.coherence.proofs.LineSteps.{request_keeps, let_go_keeps, down_keeps}
use Rattle.coherence.proofs.Arrivals.{demand_keeps, data_keeps, purged_keeps}
use Rattle.coherence.proofs.Reports.{report_keeps}
use Rattle.coherence.proofs.TakeUp.{TakenUp, taken, take_up_keeps}

-- ── a delivery up ──

clash_lane : {m : Kind} {ms : List Kind} → m ∷ ms ≡ [] → ⊥
clash_lane e = let z : ◌≡◌ {A = ℕ} 0 1 = cc in omega arith

-- a zone that has sent something is below 8
sender_below : (s : System) (z : ℕ) (m : Kind) (rest : List Kind) → s.up z ≡ m ∷ rest → Inv s → ltb z 8 ≡ true
sender_below s z m rest e i = go (ltb z 8) refl
  where
    go : (b : Bool) → ltb z 8 ≡ b → b ≡ true
    go true h = refl
    go false h = absurd (clash_lane (sym e ∙ (i.beyond z h).2))

arrival_keeps : (s : System) (z : ℕ) (m : Kind) (rest : List Kind) → ltb z 8 ≡ true → s.up z ≡ m ∷ rest → Inv s → Kept (taken_from s z rest) (arrives m z s.dir)
arrival_keeps s z (kind.Up (up.Demand k)) rest t e i = demand_keeps s z k rest t e i
arrival_keeps s z (kind.Up (up.Data v)) rest t e i =
    data_keeps s s.dir.list s.dir.waiting s.dir.served z v rest i.linked i.beyond i.distinct i.ready t e
arrival_keeps s z (kind.Up up.Purged) rest t e i =
    purged_keeps s s.dir.list s.dir.waiting s.dir.served z rest i.linked i.beyond i.distinct i.ready t e
arrival_keeps s z (kind.Up up.Report) rest t e i =
    report_keeps s s.dir.list s.dir.waiting s.dir.served z rest i.linked i.beyond i.distinct i.ready t e
arrival_keeps s z (kind.Down m) rest t e i = absurd (take_down (rw e at (i.linked z)))

pub delivery_keeps : (s : System) (z : ℕ) (m : Kind) (rest : List Kind) → s.up z ≡ m ∷ rest → Inv s → Kept (taken_from s z rest) (delivered m z s.dir)
delivery_keeps s z m rest e i =
    let t = sender_below s z m rest e i in
    rw t (arrival_keeps s z m rest t e i)

-- ── the two steps of the directory where they are accepted ──

kept_inv : {s : System} {to : List (Option Down)} {x : Option ℕ} {d : Directory} → Kept s (went to x d) → Inv (after_directory s to x d)
kept_inv (kept i f) = i

taken_inv : {s : System} {to : List (Option Down)} {x : Option ℕ} {d : Directory} → TakenUp s (went to x d) → Inv (after_directory s to x d)
taken_inv (taken k) = kept_inv k

pub up_keeps : (s : System) (z : ℕ) (m : Kind) (rest : List Kind) (to : List (Option Down)) (x : Option ℕ) (d : Directory) →
    s.up z ≡ m ∷ rest → delivered m z s.dir ≡ went to x d → Inv s → Inv (after_directory (taken_from s z rest) to x d)
up_keeps s z m rest to x d e a i = kept_inv (subst (Kept (taken_from s z rest)) a (delivery_keeps s z m rest e i))

pub serving_keeps : (s : System) (to : List (Option Down)) (x : Option ℕ) (d : Directory) → taken_up s.dir ≡ went to x d → Inv s → Inv (after_directory s to x d)
serving_keeps s to x d a i = taken_inv (subst (TakenUp s) a (take_up_keeps s i))

-- ── every run ──

pub fresh_inv : Inv fresh
fresh_inv =
    record {
      linked = λ y. (_, done, uncopied is_absent, empty);
      beyond = λ y e. (refl, refl, refl);
      distinct = tt;
      ready = λ e. refl;
    }

pub loaded_inv : (z : ℕ) (v : Assignment) → ltb z 8 ≡ true → Inv (loaded z v)
loaded_inv z v t =
    record {
      linked = everywhere (Linked (loaded z v)) z (rw same (_, done, holding exclusive unasked, empty)) (λ y n. rw (n, flip y z n) (_, done, uncopied is_absent, empty));
      beyond = λ y e. (rw (flip y z (beyond_apart y z t e)), refl, refl);
      distinct = tt;
      ready = λ e. cc;
    }

pub run_inv : {s : System} → Run s → Inv s
run_inv nobody_has_it = fresh_inv
run_inv (one_has_it z h v) = loaded_inv z v (lt-ltb z 8 h)
run_inv (request {s = s} u z h r sent answer l e) = request_keeps s z r sent answer l (lt-ltb z 8 h) e (run_inv u)
run_inv (letting_go {s = s} u z h sent l e) = let_go_keeps s z sent l (lt-ltb z 8 h) e (run_inv u)
run_inv (delivery_down {s = s} u z h m rest sent answer l d e) = down_keeps s z m rest sent answer l (lt-ltb z 8 h) d e (run_inv u)
run_inv (delivery_up {s = s} u z m rest to x d e a) = up_keeps s z m rest to x d e a (run_inv u)
run_inv (take_up {s = s} u to x d a) = serving_keeps s to x d a (run_inv u)

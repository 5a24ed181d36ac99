-- What the directory sends, lane by lane, and its steps that keep the invariant.
use Rattle.std.proofs.Common.{◌≡◌, ℕ, zero, suc, Bool, true, false, eqb, ltb, List, [], ◌∷◌, ◌++◌, get_or, replicate, Some, None, Option, sym, refl, ap, ◌∙◌, append-nil, arith}
use Rattle.std.proofs.lemmas.List.{get_or-set_same, get_or-set_other, get_or_past}
use Rattle.std.proofs.lemmas.List.FromFn.{get_or-map-range_with_len}
use Rattle.std.proofs.lemmas.Bool.{ltb-true, ltb-false, eqb-false}
use Rattle.messages.specs.declared.kinds.Reply.{Reply}
use Rattle.messages.specs.declared.kinds.Ask.{Ask}
use Rattle.messages.specs.declared.kinds.Down.{Down}
use Rattle.messages.specs.declared.kinds.Down.TheVariants as down
use Rattle.messages.specs.declared.kinds.Kind.{Kind}
use Rattle.directory.specs.declared.rows.Served.{Served}
use Rattle.directory.specs.Lists.{listed}
use Rattle.directory.specs.Directory.{Directory, Outcome, went}
use Rattle.directory.specs.Serving.{awaited_for, only_to}
use Rattle.directory.specs.Arrivals.{to_nobody}
use Rattle.directory.specs.TakeUp.{asks, as_down}
use Rattle.coherence.specs.System.{System, at}
use Rattle.coherence.specs.Steps.{sent_down, central_serving, pending_served, after_directory}
use Rattle.coherence.specs.Coherent.{Unsettled}
use Rattle.coherence.proofs.Views.{an_ask, a_reply}
use Rattle.coherence.proofs.Zones.{same, clash_some, everywhere}
use Rattle.coherence.proofs.Invariant.{Inv}
use Rattle.coherence.proofs.Same.{inv_same}

-- ── what the directory sends ──

nothing_sent : (n y : ℕ) → get_or (replicate {A = Option Down} n None) y None ≡ None
nothing_sent zero y = refl
nothing_sent (suc n) zero = refl
nothing_sent (suc n) (suc y) = nothing_sent n y

sent_there : (x : ℕ) (m : Down) → ltb x 8 ≡ true → get_or (only_to x m) x None ≡ Some m
sent_there x m t = get_or-set_same (replicate 8 None) x (Some m) None (ltb-true x 8 t)

sent_elsewhere : (x y : ℕ) (m : Down) → eqb y x ≡ false → get_or (only_to x m) y None ≡ None
sent_elsewhere x y m n = get_or-set_other (replicate 8 None) x y (Some m) None (eqb-false y x n) ∙ nothing_sent 8 y

asked_each : (s : Served) (xs : List ℕ) (y : ℕ) → (ltb y 8 ≡ false → listed xs y ≡ false) → get_or (asks s xs) y None ≡ as_down (awaited_for s xs y)
unfolding asks
asked_each s xs y f = go (ltb y 8) refl
  where
    go : (b : Bool) → ltb y 8 ≡ b → get_or (asks s xs) y None ≡ as_down (awaited_for s xs y)
    go true e = get_or-map-range_with_len (λ zone. as_down (awaited_for s xs zone)) 0 8 y y None (ltb-true y 8 e) (omega arith)
    go false e = rw (f e) (get_or_past (asks s xs) y None (ltb-false y 8 e))

-- ── a step of the directory that keeps the invariant ──

-- it is not refused, and settles only a request that is accepted and not settled
pub data Kept (s : System) : Outcome → Type 0 where
  kept : {to : List (Option Down)} {x : Option ℕ} {d : Directory} →
      Inv (after_directory s to x d) → ((y : ℕ) → x ≡ Some y → Unsettled s y) → Kept s (went to x d)

abbrev pub with_directory : System → Directory → System
with_directory s d = record { central = s.central; dir = d; up = s.up; down = s.down; line = s.line; pending = s.pending }

-- nobody is sent anything
pub kept_silently : (s : System) (d : Directory) → Inv (with_directory s d) → Kept s (went to_nobody None d)
kept_silently s d i =
    kept
    (inv_same (with_directory s d) (after_directory s to_nobody None d)
    (record {
      central_same = refl;
      dir_same = refl;
      up_same = λ y. refl;
      down_same = λ y. ap (λ o. s.down y ++ sent_down o) (nothing_sent 8 y) ∙ append-nil (s.down y);
      line_same = λ y. refl;
      pending_same = λ y. refl;
    }) i)
    (λ y e. absurd (clash_some (sym e)))

-- zone x is sent a reply, and its request is settled
abbrev pub replied : System → ℕ → Reply → Directory → System
replied s x m d =
    record {
      central = central_serving (s.pending x) s.central;
      dir = d;
      up = s.up;
      down = at x (s.down x ++ (a_reply m ∷ [])) s.down;
      line = s.line;
      pending = at x (pending_served (s.pending x) s.central) s.pending;
    }

pub kept_replying : (s : System) (x : ℕ) (m : Reply) (d : Directory) → ltb x 8 ≡ true → Unsettled s x → Inv (replied s x m d) →
    Kept s (went (only_to x (down.Reply m)) (Some x) d)
kept_replying s x m d t w i =
    kept
    (inv_same (replied s x m d) (after_directory s (only_to x (down.Reply m)) (Some x) d)
    (record {
      central_same = refl;
      dir_same = refl;
      up_same = λ y. refl;
      down_same = everywhere (λ y. s.down y ++ sent_down (get_or (only_to x (down.Reply m)) y None) ≡ at x (s.down x ++ (a_reply m ∷ [])) s.down y) x
          (rw (sent_there x (down.Reply m) t, same))
          (λ y n. rw (sent_elsewhere x y (down.Reply m) n, n) (append-nil (s.down y)));
      line_same = λ y. refl;
      pending_same = λ y. refl;
    }) i)
    (λ y e. rw (← some_same e) w)
  where
    some_same : {y : ℕ} → Some x ≡ Some y → x ≡ y
    some_same e = cc

-- each zone is sent what it is asked
abbrev pub ask_lane : Option Ask → List Kind
ask_lane None = []
ask_lane (Some a) = an_ask a ∷ []

abbrev pub asked : System → Served → Directory → System
asked s sv d =
    record {
      central = s.central;
      dir = d;
      up = s.up;
      down = λ y. s.down y ++ ask_lane (awaited_for sv d.list y);
      line = s.line;
      pending = s.pending;
    }

asked_lane : (q : Option Ask) → sent_down (as_down q) ≡ ask_lane q
asked_lane None = refl
asked_lane (Some a) = refl

pub kept_asking : (s : System) (sv : Served) (d : Directory) → ((y : ℕ) → ltb y 8 ≡ false → listed d.list y ≡ false) → Inv (asked s sv d) →
    Kept s (went (asks sv d.list) None d)
kept_asking s sv d f i =
    kept
    (inv_same (asked s sv d) (after_directory s (asks sv d.list) None d)
    (record {
      central_same = refl;
      dir_same = refl;
      up_same = λ y. refl;
      down_same = λ y. ap (λ l. s.down y ++ l) (ap sent_down (asked_each sv d.list y (f y)) ∙ asked_lane (awaited_for sv d.list y));
      line_same = λ y. refl;
      pending_same = λ y. refl;
    }) i)
    (λ y e. absurd (clash_some (sym e)))

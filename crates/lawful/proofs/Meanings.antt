-- A run depends on its keys by their meanings only.
use Rattle.std.proofs.Common.{◌≡◌, ℕ, List, [], ◌∷◌, map, Ok, Err, Option, Result, refl, ap, ◌∙◌}
use Rattle.messages.specs.Refusals.{Facts}
use Rattle.transport.specs.Lanes.{Rule}
use Rattle.keys.specs.Places.{place_of, place_given, keys_after}
use Rattle.keys.proofs.ByMeaning.{place_by_meaning, given_by_meaning, after_by_meaning}
use Rattle.calls.specs.declared.reports.Report.{Report}
use Rattle.calls.specs.declared.call.Call.{Call}
use Rattle.calls.specs.declared.call.Call.TheVariants as call
use Rattle.calls.specs.Model.{Model}
use Rattle.calls.specs.Zones.{Done, start_call, let_go_call, down_call}
use Rattle.calls.specs.Directories.{up_call, take_up_call}
use Rattle.calls.specs.Outcomes.{Outcome, done, called}
use Rattle.calls.specs.Runs.{results, after_run, meant}

module _ {K : Type 0} (meaning : K → List ℕ) where
  -- an outcome with the keys as what they mean
  abbrev pub outcome_meant : Outcome K → Outcome (List ℕ)
  outcome_meant o = (o.0, o.1, map meaning o.2)

  done_meant : (m : Model) (ks after : List K) (x : Done) → outcome_meant (done m ks after x) ≡ done m (map meaning ks) (map meaning after) x
  done_meant m ks after (Ok (r, m')) = refl
  done_meant m ks after (Err f) = refl

  pub call_meant : (room : Rule) (size : ℕ) (m : Model) (ks : List K) (c : Call K) →
      outcome_meant (called room meaning size m ks c) ≡ called room (λ k. k) size m (map meaning ks) (meant meaning c)
  call_meant room size m ks (call.Start zone key q board) =
      done_meant m ks (keys_after meaning ks size key) (start_call room m (place_given meaning ks size key) board zone q)
      ∙ ap (λ (xs : List (List ℕ)). done m (map meaning ks) xs (start_call room m (place_given meaning ks size key) board zone q)) (after_by_meaning meaning key size ks)
      ∙ ap (λ (p : Option ℕ). done m (map meaning ks) (keys_after (λ k. k) (map meaning ks) size (meaning key)) (start_call room m p board zone q)) (given_by_meaning meaning key size ks)
  call_meant room size m ks (call.DeliverUp zone) = done_meant m ks ks (up_call room m zone)
  call_meant room size m ks (call.DeliverDown zone) = done_meant m ks ks (down_call room m zone)
  call_meant room size m ks (call.TakeUp key) =
      done_meant m ks ks (take_up_call room m (place_of meaning ks key))
      ∙ ap (λ (p : Option ℕ). done m (map meaning ks) (map meaning ks) (take_up_call room m p)) (place_by_meaning meaning key ks)
  call_meant room size m ks (call.LetGo zone key) =
      done_meant m ks ks (let_go_call room m (place_of meaning ks key) zone)
      ∙ ap (λ (p : Option ℕ). done m (map meaning ks) (map meaning ks) (let_go_call room m p zone)) (place_by_meaning meaning key ks)

  pub results_meant : (room : Rule) (size : ℕ) (m : Model) (ks : List K) (cs : List (Call K)) →
      results room meaning size m ks cs ≡ results room (λ k. k) size m (map meaning ks) (map (meant meaning) cs)
  results_meant room size m ks [] = refl
  results_meant room size m ks (c ∷ cs) =
      let o = called room meaning size m ks c in
      ap (λ (rs : List (Result Report Facts)). o.0 ∷ rs) (results_meant room size o.1 o.2 cs)
      ∙ ap (λ (p : Outcome (List ℕ)). p.0 ∷ results room (λ k. k) size p.1 p.2 (map (meant meaning) cs)) (call_meant room size m ks c)

  pub after_meant : (room : Rule) (size : ℕ) (m : Model) (ks : List K) (cs : List (Call K)) →
      ((after_run room meaning size m ks cs).0, map meaning (after_run room meaning size m ks cs).1) ≡ after_run room (λ k. k) size m (map meaning ks) (map (meant meaning) cs)
  after_meant room size m ks [] = refl
  after_meant room size m ks (c ∷ cs) =
      let o = called room meaning size m ks c in
      after_meant room size o.1 o.2 cs
      ∙ ap (λ (p : Outcome (List ℕ)). after_run room (λ k. k) size p.1 p.2 (map (meant meaning) cs)) (call_meant room size m ks c)

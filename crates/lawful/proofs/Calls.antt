-- Every call, accepted or refused, is one to which the onlooker does not object, and keeps the invariant.
use Rattle.std.proofs.Common.{◌≡◌, ℕ, ◌+◌, ◌<◌, Bool, true, false, cond, ltb, List, Some, None, Ok, Err, Option, Result, sym, refl, ap, ◌∙◌, subst, ⊎_elim, arith}
use Rattle.std.proofs.lemmas.Bool.{ltb-true, ltb-false, cases_eq}
use Rattle.messages.specs.declared.requests.Request.{Request}
use Rattle.messages.specs.declared.kinds.Down.{Down as DownKind}
use Rattle.messages.specs.declared.kinds.Message.{Message}
use Rattle.messages.specs.Refusals.{Facts}
use Rattle.line.specs.declared.states.State.{State}
use Rattle.line.specs.Outcomes.{Outcome, refused, moved}
use Rattle.line.specs.Requested.{requested}
use Rattle.line.specs.Received.{received}
use Rattle.line.specs.LetGo.{let_go}
use Rattle.directory.specs.Directory.{Directory}
use Rattle.directory.specs.Directory as rows
use Rattle.directory.specs.Arrivals.{delivered}
use Rattle.directory.specs.TakeUp.{taken_up}
use Rattle.transport.specs.declared.lanes.Lane.TheVariants.{Up, Down}
use Rattle.transport.specs.Lanes.{Rule, oldest, taken}
use Rattle.rules.specs.declared.board.PauseBoard.{PauseBoard}
use Rattle.rules.specs.Boards.{paused_at}
use Rattle.keys.specs.Places.{place_of, place_given, key_at, keys_after}
use Rattle.calls.specs.declared.reports.Report.{Report}
use Rattle.calls.specs.declared.call.Call.{Call}
use Rattle.calls.specs.declared.call.Call.TheVariants as call
use Rattle.calls.specs.Model.{Model, slot_at, state_at, row_at}
use Rattle.calls.specs.Sending.{sent_down, up_admits, down_admits}
use Rattle.calls.specs.Zones.{Done, started_model, start_by, start_in, start_call, let_go_by, let_go_in, let_go_call, down_by, down_from, down_call}
use Rattle.calls.specs.Directories.{with_row, up_by, up_from, up_call, take_up_by, take_up_call}
use Rattle.calls.specs.Outcomes.{done, called}
use Rattle.calls.specs.Onlookers.{Onlooker, Entry, accepted, settled, answered, with_entry, serves, after_report, ReportFine, after_settled, after_answered, AnsweredFine, ResultFine, after_result}
use Rattle.calls.specs.Law.{NotMisplaced}
use Rattle.coherence.proofs.Safety.{safe}
use Rattle.lawful.proofs.Keys.{given, Given, known, next, place_is_at, at_within}
use Rattle.lawful.proofs.Lanes.{place_below, up_of_taken_up_here, down_of_taken_down_here}
use Rattle.lawful.proofs.Numbers.{entry_here, entry_elsewhere}
use Rattle.lawful.proofs.Refusals.{request_refused, let_go_refused, let_go_silent, take_up_refused, TakeUpNumber, place_served, nothing_waits, misplaced}
use Rattle.lawful.proofs.Systems.{value_of, system_at}
use Rattle.lawful.proofs.Projections.{up_of, down_of}
use Rattle.lawful.proofs.Invariant.{PoolInv}
use Rattle.lawful.proofs.ZoneSteps.{line_at, let_go_step, down_step, down_answer_step, kept_answer}
use Rattle.lawful.proofs.Starts.{inv_onlooker, placed, start_step, start_answer_step, own_answer}
use Rattle.lawful.proofs.DirectorySteps.{up_unsettled, up_requester, up_settled, take_up_unsettled, take_up_requester, take_up_settled}

-- what a call does is well: a refusal is not 17; what is accepted is fine, and keeps the invariant
pub data Well (o : Onlooker) (c : Call (List ℕ)) (ks : List (List ℕ)) : Done → Type 0 where
  is_refused : {f : Facts} → (f.number ≡ 17 → ⊥) → Well o c ks (Err f)
  is_accepted : {r : Report} {m : Model} → ReportFine o c r → PoolInv m ks (after_report o c r) → Well o c ks (Ok (r, m))

either : {o : Onlooker} {c : Call (List ℕ)} {ks : List (List ℕ)} (b : Bool) (x y : Done) → (b ≡ true → Well o c ks x) → (b ≡ false → Well o c ks y) → Well o c ks (cond b x y)
either true x y h k = h refl
either false x y h k = k refl

module _ (m : Model) (ks : List (List ℕ)) (o : Onlooker) (inv : PoolInv m ks o) (room : Rule) where
  zone_below : (zone : ℕ) → ltb zone m.plan.zones ≡ true → zone < 8
  zone_below zone h = let a = ltb-true zone m.plan.zones h in let b = m.plan.zones_range.1 in omega arith

  place_in_pool : (place : ℕ) → ltb place m.plan.places ≡ true → place < 32
  place_in_pool place h = let a = ltb-true place m.plan.places h in let b = m.plan.places_range.1 in omega arith

  -- ── a start ──
  module _ (zone : ℕ) (key : List ℕ) (q : Request) (board : PauseBoard) (size : ℕ) where
    abbrev start : Call (List ℕ)
    start = call.Start zone key q board

    abbrev ks' : List (List ℕ)
    ks' = keys_after (λ k. k) ks size key

    module _ (hz : zone < 8) (place : ℕ) (hp : place < 32) (g : Given ks size key place) where
      own_value : value_of o.values (key_at ks place) ≡ o.values key
      own_value = go g
        where
          go : Given ks size key place → value_of o.values (key_at ks place) ≡ o.values key
          go (known at_p same) = ap (value_of o.values) (place_is_at ks key place at_p)
          go (next none last pushed) = nothing (key_at ks place) refl ∙ sym (inv.unknown_empty key none)
            where
              nothing : (k : Option (List ℕ)) → key_at ks place ≡ k → value_of o.values k ≡ None
              nothing None e = refl
              nothing (Some k) e = absurd (let b = at_within ks k place e in let f = last in omega arith)

      -- the onlooker after an answer in the start, step by step
      abbrev kept : Onlooker
      kept = record { values = o.values; entries = with_entry o.entries m.next (accepted key q); next = o.next + 1 }

      abbrev served_here : Onlooker
      served_here = serves kept m.next (accepted key q)

      settles : after_settled kept (Some m.next) ≡ served_here
      settles = ap (serves kept m.next) (entry_here o.entries m.next (accepted key q))

      start_by_lem : (x : Outcome) → requested (state_at m zone place) q ≡ x → Well o start ks' (start_by room m zone place x)
      start_by_lem (refused k l) e = is_refused (λ (h : k ≡ 17). let f = request_refused (state_at m zone place) q k l e in omega arith)
      start_by_lem (moved sent None l) e =
          either (ltb 4294967295 m.next) _ _ (λ _. is_refused (λ h. omega arith))
          (λ _. either (up_admits room m.lanes zone sent) _ _
          (λ _. is_accepted (record { number_fine = ap (λ (k : ℕ). Some k) (sym inv.same_next); settled_fine = tt; answered_fine = tt })
          (start_step m ks ks' o inv key place (placed ks size key place inv.keys_apart g) own_value zone hz hp q sent l e))
          (λ _. is_refused (λ h. omega arith)))
      start_by_lem (moved sent (Some a) l) e =
          let pl = placed ks size key place inv.keys_apart g in
          let right = own_answer m ks ks' o inv key place pl own_value zone hz hp q sent l a e in
          either (ltb 4294967295 m.next) _ _ (λ _. is_refused (λ h. omega arith))
          (λ _. either (up_admits room m.lanes zone sent) _ _
          (λ _. is_accepted
          (record {
            number_fine = ap (λ (k : ℕ). Some k) (sym inv.same_next);
            settled_fine = (key, q, entry_here o.entries m.next (accepted key q));
            answered_fine = subst (λ (w : Onlooker). AnsweredFine w (Some (record { number = m.next; answer = a }))) (sym settles)
                (key, q, entry_here kept.entries m.next _ ∙ ap (settled key q) (sym right));
          })
          (subst (λ (w : Onlooker). PoolInv (started_model m zone place sent (Some a) l) ks' (after_answered w (Some (record { number = m.next; answer = a })))) (sym settles)
          (inv_onlooker (started_model m zone place sent (Some a) l) ks' _ (after_answered served_here (Some (record { number = m.next; answer = a })))
          (record { values_same = λ k. refl; entries_same = same_entries; next_same = refl })
          (start_answer_step m ks ks' o inv key place pl own_value zone hz hp q sent l a e))))
          (λ _. is_refused (λ h. omega arith)))
        where
          same_entries : (j : ℕ) → with_entry served_here.entries m.next answered j ≡ with_entry o.entries m.next answered j
          same_entries j = ⊎_elim
              (λ (f : j ≡ m.next). ap (with_entry served_here.entries m.next answered) f ∙ entry_here served_here.entries m.next answered
              ∙ sym (ap (with_entry o.entries m.next answered) f ∙ entry_here o.entries m.next answered))
              (λ (ne : j ≡ m.next → ⊥). entry_elsewhere served_here.entries m.next j answered ne ∙ entry_elsewhere kept.entries m.next j _ ne ∙ entry_elsewhere o.entries m.next j (accepted key q) ne
              ∙ sym (entry_elsewhere o.entries m.next j answered ne))
              (cases_eq j m.next)

    start_in_lem : zone < 8 → (place : Option ℕ) → place_given (λ k. k) ks size key ≡ place → Well o start ks' (start_in room m zone q place)
    start_in_lem hz None e = is_refused (λ h. omega arith)
    start_in_lem hz (Some place) e =
        either (ltb place m.plan.places) _ _
        (λ b. start_by_lem hz place (place_in_pool place b) (given ks size key place e) (requested (state_at m zone place) q) refl)
        (λ _. is_refused (λ h. omega arith))

    start_well : Well o start ks' (start_call room m (place_given (λ k. k) ks size key) board zone q)
    start_well =
        either (ltb zone m.plan.zones) _ _
        (λ b. either (paused_at board zone) _ _ (λ _. is_refused (λ h. omega arith)) (λ _. start_in_lem (zone_below zone b) (place_given (λ k. k) ks size key) refl))
        (λ _. is_refused (λ h. omega arith))

  -- ── a let-go ──
  module _ (zone : ℕ) (key : List ℕ) where
    let_go_by_lem : zone < 8 → (place : ℕ) → place < 32 → (x : Outcome) → let_go (state_at m zone place) ≡ x → Well o (call.LetGo zone key) ks (let_go_by room m zone place x)
    let_go_by_lem hz place hp (refused k l) e = is_refused (λ (h : k ≡ 17). let f = let_go_refused (state_at m zone place) k l e in omega arith)
    let_go_by_lem hz place hp (moved sent None l) e =
        either (up_admits room m.lanes zone sent) _ _
        (λ _. is_accepted (record { number_fine = refl; settled_fine = tt; answered_fine = tt }) (let_go_step m ks o inv zone place hz hp sent l e))
        (λ _. is_refused (λ h. omega arith))
    let_go_by_lem hz place hp (moved sent (Some a) l) e = absurd (let f = let_go_silent (state_at m zone place) sent (Some a) l e in let z : ◌≡◌ {A = ℕ} 0 1 = cc in omega arith)

    let_go_in_lem : zone < 8 → (place : Option ℕ) → Well o (call.LetGo zone key) ks (let_go_in room m zone place)
    let_go_in_lem hz None = is_refused (λ h. omega arith)
    let_go_in_lem hz (Some place) =
        either (ltb place m.plan.places) _ _ (λ b. let_go_by_lem hz place (place_in_pool place b) (let_go (state_at m zone place)) refl) (λ _. is_refused (λ h. omega arith))

    let_go_well : Well o (call.LetGo zone key) ks (let_go_call room m (place_of (λ k. k) ks key) zone)
    let_go_well = either (ltb zone m.plan.zones) _ _ (λ b. let_go_in_lem (zone_below zone b) (place_of (λ k. k) ks key)) (λ _. is_refused (λ h. omega arith))

  -- ── a delivery from the down lane ──
  module _ (zone : ℕ) where
    down_by_lem : (hz : zone < 8) (x : Message) → oldest m.lanes (Down zone) ≡ Some x → x.place < 32 → (r : Outcome) → received (state_at m zone x.place) x.kind ≡ r →
        Well o (call.DeliverDown zone) ks (down_by room m zone x.place r)
    down_by_lem hz x head hp (refused k l) e =
        absurd ((safe (system_at m ks o x.place) (inv.coherent x.place hp)).down_is_taken zone x.kind (down_of (taken m.lanes (Down zone)) x.place zone) k l
        (down_of_taken_down_here m.lanes zone x head inv.sixteen hz) (ap (λ (s : State). received s x.kind) (line_at m.slots x.place zone hz) ∙ e))
    down_by_lem hz x head hp (moved sent None l) e =
        either (up_admits room m.lanes zone sent) _ _
        (λ _. is_accepted (record { number_fine = refl; settled_fine = tt; answered_fine = tt }) (down_step m ks o inv zone hz x head hp sent l e))
        (λ _. is_refused (λ h. omega arith))
    down_by_lem hz x head hp (moved sent (Some a) l) e =
        let k = kept_answer m ks o inv zone hz x head hp sent l a e in
        either (up_admits room m.lanes zone sent) _ _
        (λ _. is_accepted (record { number_fine = refl; settled_fine = tt; answered_fine = (k.1.key, k.0, k.1.entry) }) (down_answer_step m ks o inv zone hz x head hp sent l a e))
        (λ _. is_refused (λ h. omega arith))

    down_from_lem : zone < 8 → (x : Option Message) → oldest m.lanes (Down zone) ≡ x → Well o (call.DeliverDown zone) ks (down_from room m zone x)
    down_from_lem hz None e = is_refused (λ h. omega arith)
    down_from_lem hz (Some x) e =
        either (ltb x.place 32) _ _ (λ b. down_by_lem hz x e (ltb-true x.place 32 b) (received (state_at m zone x.place) x.kind) refl)
        (λ b. absurd (ltb_false_clash x.place b (place_below m.lanes (Down zone) x inv.in_range e)))
      where
        ltb_false_clash : (p : ℕ) → ltb p 32 ≡ false → p < 32 → ⊥
        ltb_false_clash p b h = let g = ltb-false p 32 b in omega arith

    down_well : Well o (call.DeliverDown zone) ks (down_call room m zone)
    down_well = either (ltb zone m.plan.zones) _ _ (λ b. down_from_lem (zone_below zone b) (oldest m.lanes (Down zone)) refl) (λ _. is_refused (λ h. omega arith))

  -- ── a delivery from an up lane ──
  module _ (zone : ℕ) where
    up_settles : (hz : zone < 8) (x : Message) → oldest m.lanes (Up zone) ≡ Some x → x.place < 32 → (to : List (Option DownKind)) (settled-zone : Option ℕ) (d : Directory) →
        delivered x.kind zone (row_at m x.place) ≡ rows.went to settled-zone d → Well o (call.DeliverUp zone) ks (up_by room m zone x.place (rows.went to settled-zone d))
    up_settles hz x head hp to None d e =
        either (down_admits room m.lanes to) _ _
        (λ _. is_accepted (record { number_fine = refl; settled_fine = tt; answered_fine = tt }) (up_unsettled m ks o inv zone hz x head hp to None d e refl))
        (λ _. is_refused (λ h. omega arith))
    up_settles hz x head hp to (Some y) d e =
        let w = up_requester m ks o inv zone hz x head hp to (Some y) d e y refl in
        let f = w.1.found in
        either (down_admits room m.lanes to) _ _
        (λ _. is_accepted (record { number_fine = refl; settled_fine = (f.key, w.0, f.entry); answered_fine = tt })
        (subst (λ (t : Entry). PoolInv (with_row m x.place d (sent_down (taken m.lanes (Up zone)) x.place to)) ks (serves o (slot_at m y x.place).number t)) (sym f.entry) (up_settled m ks o inv zone hz x head hp to (Some y) d e y refl w.0 w.1)))
        (λ _. is_refused (λ h. omega arith))

    up_by_lem : (hz : zone < 8) (x : Message) → oldest m.lanes (Up zone) ≡ Some x → x.place < 32 → (r : rows.Outcome) → delivered x.kind zone (row_at m x.place) ≡ r →
        Well o (call.DeliverUp zone) ks (up_by room m zone x.place r)
    up_by_lem hz x head hp (rows.refused k d) e =
        absurd ((safe (system_at m ks o x.place) (inv.coherent x.place hp)).up_is_taken zone x.kind (up_of (taken m.lanes (Up zone)) x.place zone) k d
        (up_of_taken_up_here m.lanes zone x head inv.sixteen hz) e)
    up_by_lem hz x head hp (rows.went to settled-zone d) e = up_settles hz x head hp to settled-zone d e

    up_from_lem : zone < 8 → (x : Option Message) → oldest m.lanes (Up zone) ≡ x → Well o (call.DeliverUp zone) ks (up_from room m zone x)
    up_from_lem hz None e = is_refused (λ h. omega arith)
    up_from_lem hz (Some x) e =
        either (ltb x.place 32) _ _ (λ b. up_by_lem hz x e (ltb-true x.place 32 b) (delivered x.kind zone (row_at m x.place)) refl)
        (λ b. absurd (let g = ltb-false x.place 32 b in let h = place_below m.lanes (Up zone) x inv.in_range e in omega arith))

    up_well : Well o (call.DeliverUp zone) ks (up_call room m zone)
    up_well = either (ltb zone m.plan.zones) _ _ (λ b. up_from_lem (zone_below zone b) (oldest m.lanes (Up zone)) refl) (λ _. is_refused (λ h. omega arith))

  -- ── a take-up ──
  module _ (key : List ℕ) where
    take_up_by_lem : (place : ℕ) → place < 32 → (r : rows.Outcome) → taken_up (row_at m place) ≡ r → Well o (call.TakeUp key) ks (take_up_by room m place r)
    take_up_by_lem place hp (rows.refused k d) e = is_refused (λ (h : k ≡ 17). no_seventeen h (take_up_refused (row_at m place) k d e))
      where
        no_seventeen : k ≡ 17 → TakeUpNumber k → ⊥
        no_seventeen h (place_served f) = omega arith
        no_seventeen h (nothing_waits f) = omega arith
        no_seventeen h (misplaced f) =
            (safe (system_at m ks o place) (inv.coherent place hp)).take_up_has_its_place d (e ∙ ap (λ (j : ℕ). rows.refused j d) f)
    take_up_by_lem place hp (rows.went to None d) e =
        either (down_admits room m.lanes to) _ _
        (λ _. is_accepted (record { number_fine = refl; settled_fine = tt; answered_fine = tt }) (take_up_unsettled m ks o inv place hp to None d e refl))
        (λ _. is_refused (λ h. omega arith))
    take_up_by_lem place hp (rows.went to (Some y) d) e =
        let w = take_up_requester m ks o inv place hp to (Some y) d e y refl in
        let f = w.1.found in
        either (down_admits room m.lanes to) _ _
        (λ _. is_accepted (record { number_fine = refl; settled_fine = (f.key, w.0, f.entry); answered_fine = tt })
        (subst (λ (t : Entry). PoolInv (with_row m place d (sent_down m.lanes place to)) ks (serves o (slot_at m y place).number t)) (sym f.entry) (take_up_settled m ks o inv place hp to (Some y) d e y refl w.0 w.1)))
        (λ _. is_refused (λ h. omega arith))

    take_up_in : (place : Option ℕ) → Well o (call.TakeUp key) ks (take_up_call room m place)
    take_up_in None = is_refused (λ h. omega arith)
    take_up_in (Some place) =
        either (ltb place m.plan.places) _ _ (λ b. take_up_by_lem place (place_in_pool place b) (taken_up (row_at m place)) refl) (λ _. is_refused (λ h. omega arith))

  -- ── any call ──
  pub record Kept (c : Call (List ℕ)) (r : Result Report Facts) (m' : Model) (ks' : List (List ℕ)) : Type 0 where
    pub fine : ResultFine o c r
    pub not_misplaced : NotMisplaced r
    pub inv_after : PoolInv m' ks' (after_result o c r)

  well_done : (c : Call (List ℕ)) (after : List (List ℕ)) (x : Done) → Well o c after x → Kept c (done m ks after x).0 (done m ks after x).1 (done m ks after x).2
  well_done c after (Err f) (is_refused h) = record { fine = tt; not_misplaced = h; inv_after = inv }
  well_done c after (Ok (r, m')) (is_accepted h i) = record { fine = h; not_misplaced = tt; inv_after = i }

  pub call_well : (size : ℕ) (c : Call (List ℕ)) →
      Kept c (called room (λ k. k) size m ks c).0 (called room (λ k. k) size m ks c).1 (called room (λ k. k) size m ks c).2
  call_well size (call.Start zone key q board) = well_done (call.Start zone key q board) _ _ (start_well zone key q board size)
  call_well size (call.DeliverUp zone) = well_done (call.DeliverUp zone) ks _ (up_well zone)
  call_well size (call.DeliverDown zone) = well_done (call.DeliverDown zone) ks _ (down_well zone)
  call_well size (call.TakeUp key) = well_done (call.TakeUp key) ks _ (take_up_in key (place_of (λ k. k) ks key))
  call_well size (call.LetGo zone key) = well_done (call.LetGo zone key) ks _ (let_go_well zone key)

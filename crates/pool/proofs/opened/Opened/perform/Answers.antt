use Rattle.std.proofs.Common.{ℕ, ◌+◌, List, ◌++◌, map, length, vec_items, Result, sym, refl, ap, ◌∙◌, append-nil, arith}
use Rattle.std.proofs.lemmas.List.{at_drop_all}
use Rattle.keys.specs.Registers.{in_use, row_of}
use Rattle.keys.proofs.Rows.{row_kept_same, row_kept_twice}
use Rattle.calls.specs.declared.reports.Report.{Report}
use Rattle.calls.specs.declared.faults.Fault.{Fault}
use Rattle.calls.specs.Faults.{seen}
use Rattle.calls.specs.Outcomes.{called}
use Rattle.calls.specs.Runs.{results, after_run}
use Rattle.pool.specs.Pools.{model_of}
use Rattle.pool.proofs.Turns.{turn, turn_after}
use Rattle.pool.proofs.Wholes.{lawful_run}
use Rattle.pool.proofs.opened.Opened.perform.Goals as goal

pub loop-call-init : goal.loop-call-init
loop-call-init g c =
    let t = g.T.Transport in
    let r = c.args.register.now in (
      ap (λ (v : List (Result Report Fault)). map seen v ++ results t.room g.K.Key.meaning (length (row_of r)) (model_of t c.args.self.now) (in_use r) c.args.calls.now) c.requires.0,
      refl,
      row_kept_same r,
      c.args.answers.now.ok.0 ∙ ap length c.requires.0,
      c.requires.1,
    )

pub loop-call-preserved : goal.loop-call-preserved
loop-call-preserved g c =
    let t = g.T.Transport in
    let k = g.K.Key.meaning in
    let size = length (row_of c.args.register.now) in
    let here = model_of t c.loop-call.self in
    let ks = in_use c.loop-call.register in
    let x = c.call-item.result in
    let inv = c.loop-call.invariant in
    let e = c.call-answer.ensures.outcome ∙ ap (λ (n : ℕ). called t.room k n here ks x) inv.2.len in (
      turn t.room k size here ks c.args.calls.now c.loop-call.call-index x c.loop-call-test.true c.call-item.is _ _ _ (vec_items c.loop-call.answers) _ c.push_reserved.ensures.items e ∙ inv.0,
      turn_after t.room k size here ks c.args.calls.now c.loop-call.call-index x c.loop-call-test.true c.call-item.is _ _ c.call-answer.result e ∙ inv.1,
      row_kept_twice _ _ _ inv.2 c.call-answer.ensures.kept,
      c.push_reserved.ensures.len ∙ ap (λ (n : ℕ). n + 1) inv.3,
      omega (arith, c.push_reserved.ensures.capacity, inv.4),
    )

pub returns : goal.returns
returns g c =
    let t = g.T.Transport in
    let k = g.K.Key.meaning in
    let size = length (row_of c.args.register.now) in
    let here = model_of t c.loop-call.self in
    let ks = in_use c.loop-call.register in
    let xs = map seen (vec_items c.loop-call.answers) in
    let told = sym (append-nil xs) ∙ ap (λ ys. xs ++ ys) (sym (at_drop_all (results t.room k size here ks) c.args.calls.now c.loop-call.call-index c.loop-call-test.false)) ∙ c.loop-call.invariant.0 in
    let after = sym (at_drop_all (after_run t.room k size here ks) c.args.calls.now c.loop-call.call-index c.loop-call-test.false) ∙ c.loop-call.invariant.1 in
    record {
      told = told;
      after = after;
      row = c.loop-call.invariant.2.len;
      kept = c.loop-call.invariant.2;
      law = lawful_run t.room k size (model_of t c.args.self.now) (in_use c.args.register.now) c.args.calls.now xs told (here, ks) after;
    }

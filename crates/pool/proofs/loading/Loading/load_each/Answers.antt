use Rattle.std.proofs.Common.{◌≡◌, ℕ, length, Ok, Err, Result, sym, refl, ap, ◌∙◌}
use Rattle.std.proofs.lemmas.List.{at_drop_all, length-map}
use Rattle.directory.specs.Directory.{view_of}
use Rattle.std.proofs.lemmas.Result.{err_from_is_err_and}
use Rattle.keys.specs.Registers.{in_use, row_of}
use Rattle.keys.proofs.Rows.{row_kept_same, row_kept_twice}
use Rattle.calls.specs.declared.faults.Fault.{Fault}
use Rattle.calls.specs.Faults.{seen}
use Rattle.pool.specs.Stocks.{LoadOutcome, opens_as, load_one, load_all}
use Rattle.pool.proofs.Loads.{goes_on, ends}
use Rattle.pool.proofs.Ties.{tied_after}
use Rattle.pool.proofs.loading.Loading.load_each.Goals as goal

pub returns-in_err-load-clause-outcome : goal.returns-in_err-load-clause-outcome
returns-in_err-load-clause-outcome g c =
    let k = g.K.Key.meaning in
    let m = opens_as c.loop-item.self in
    let ks = in_use c.loop-item.register in
    let x = c.item-item.result in
    let inv = c.loop-item.invariant in
    let e = c.load.ensures.outcome ∙ ap (λ (n : ℕ). load_one k n m ks x) inv.kept.len in
    let p = err_from_is_err_and c.from_residual.result c.from_residual.ensures.1 in
    let failed : c.load.result ≡ Err p.0 = c.in_err-load.was ∙ ap (λ (y : Fault). Err y) (sym p.2) in
    ap (λ (y : Result (Unit {0}) Fault). let o : LoadOutcome g.row.K.Denot = (seen y, opens_as c.load.new.self, in_use c.load.new.register) in o) p.1
    ∙ ends k (length (row_of c.args.register.now)) m ks c.args.stock.now c.loop-item.item-index x c.loop-item-test.true c.item-item.is _ _ c.load.result e p.0 failed
    ∙ inv.left

pub returns-in_err-load-clause-kept : goal.returns-in_err-load-clause-kept
returns-in_err-load-clause-kept g c = row_kept_twice _ _ _ c.loop-item.invariant.kept c.load.ensures.kept

pub loop-item-init : goal.loop-item-init
loop-item-init g c = record { left = refl; kept = row_kept_same c.args.register.now; lanes = refl }

pub loop-item-preserved : goal.loop-item-preserved
loop-item-preserved g c =
    let k = g.K.Key.meaning in
    let m = opens_as c.loop-item.self in
    let ks = in_use c.loop-item.register in
    let x = c.item-item.result in
    let inv = c.loop-item.invariant in
    let e = c.load.ensures.outcome ∙ ap (λ (n : ℕ). load_one k n m ks x) inv.kept.len in
    record {
      left = goes_on k (length (row_of c.args.register.now)) m ks c.args.stock.now c.loop-item.item-index x c.loop-item-test.true c.item-item.is _ _ c.load.result e c.in_ok-load.was ∙ inv.left;
      kept = row_kept_twice _ _ _ inv.kept c.load.ensures.kept;
      lanes = c.load.ensures.lanes ∙ inv.lanes;
    }

pub returns-clause-outcome : goal.returns-clause-outcome
returns-clause-outcome g c =
    let k = g.K.Key.meaning in
    let inv = c.loop-item.invariant in
    sym (at_drop_all (load_all k (length (row_of c.args.register.now)) (opens_as c.loop-item.self) (in_use c.loop-item.register)) c.args.stock.now c.loop-item.item-index c.loop-item-test.false) ∙ inv.left

pub returns-clause-tied : goal.returns-clause-tied
returns-clause-tied g c =
    let old = c.args.self.now in
    tied_after g.K.Key.meaning (length (row_of c.args.register.now)) old.plan c.args.stock.now (opens_as old) _ (in_use c.args.register.now) _ (Ok tt) (returns-clause-outcome g c) refl old.tables.many_slots (length-map old.tables.rows view_of ∙ old.tables.many_rows)

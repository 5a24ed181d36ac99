use Rattle.std.proofs.Common.{ℕ, length, Ok, ap, ◌∙◌}
use Rattle.std.proofs.lemmas.Result.{err_from_is_err_and}
use Rattle.keys.specs.Registers.{in_use}
use Rattle.calls.specs.Model.{Model}
use Rattle.calls.specs.Runs.{results, after_run}
use Rattle.pool.specs.Pools.{model_of}
use Rattle.pool.specs.Stocks.{LoadOutcome}
use Rattle.pool.proofs.Wholes.{ran, refused_stock, from_fresh}
use Rattle.pool.proofs.running.run_into.Goals as goal

pub returns-in_err-load_all : goal.returns-in_err-load_all
returns-in_err-load_all g c =
    let p = err_from_is_err_and c.from_residual.result c.from_residual.ensures.1 in
    let size = ap length c.new-register.ensures.row in
    let begun = from_fresh g.K.Key.meaning c.args.stock.now _ _ _ _ _ _ size c.new-loading.ensures.tables c.new-register.ensures.keys in
    rw (p.1, p.2) (refused_stock g.T.Transport.room g.K.Key.meaning c.args.plan (length c.args.row.now) c.args.stock.now c.args.calls.now _ _ _ (c.in_err-load_all.ensures.outcome ∙ begun))

pub returns : goal.returns
returns g c =
    let t = g.T.Transport in
    let k = g.K.Key.meaning in
    let calls = c.args.calls.now in
    let size = ap length c.new-register.ensures.row in
    let begun = from_fresh k c.args.stock.now _ _ _ _ _ _ size c.new-loading.ensures.tables c.new-register.ensures.keys in
    let m = model_of t c.open-pool.result in
    let ks = in_use c.load_all.new.register in
    let loaded = ap (λ (x : Model). let o : LoadOutcome g.row.K.Denot = (Ok tt, x, ks) in o) c.open-pool.ensures.model ∙ c.in_ok-load_all.ensures.outcome ∙ begun in
    let same = c.load_all.ensures.row ∙ size in
    ran t.room k c.args.plan (length c.args.row.now) c.args.stock.now calls m ks loaded
    _ (c.perform.ensures.told ∙ ap (λ (n : ℕ). results t.room k n m ks calls) same)
    (model_of t c.perform.new.self, in_use c.perform.new.register) (c.perform.ensures.after ∙ ap (λ (n : ℕ). after_run t.room k n m ks calls) same)
    c.open-pool.ensures.law

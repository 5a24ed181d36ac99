use Rattle.std.proofs.Common.{◌≡◌, true, arith, rules}
use Rattle.line.specs.Received.{received}
use Rattle.calls.specs.Model.{state_at}
use Rattle.calls.specs.Sending.{up_admits}
use Rattle.pool.specs.Pools.{model_of}
use Rattle.pool.proofs.Stepping.{down_goes_on, down_stops}
use Rattle.pool.proofs.opened.Opened.down_at.Goals as goal

pub returns-in_err-effect-clause-outcome : goal.returns-in_err-effect-clause-outcome
returns-in_err-effect-clause-outcome g c =
    let m = model_of g.T.Transport c.args.self.now in
    let stop = down_stops g.T.Transport.room m c.args.zone c.args.place (received (state_at m c.args.zone c.args.place) c.args.kind) _ c.in_err-effect.ensures in
    search (rules, stop)

pub returns-clause-outcome : goal.returns-clause-outcome
returns-clause-outcome g c =
    let m = model_of g.T.Transport c.args.self.now in
    let step = down_goes_on g.T.Transport.room m c.args.zone c.args.place (received (state_at m c.args.zone c.args.place) c.args.kind) _ c.in_ok-effect.ensures in
    let space : up_admits g.T.Transport.room m.lanes c.args.zone c.in_ok-effect.effect.sent ≡ true = search rules in
    grind (arith, step, space)

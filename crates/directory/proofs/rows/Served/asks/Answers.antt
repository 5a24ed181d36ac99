use Rattle.std.proofs.Common.{None, rules}
use borrow.Author.Tests.{tests}
use Rattle.directory.specs.Lists.{items_of}
use Rattle.directory.specs.Serving.{awaited_for}
use Rattle.directory.specs.TakeUp.{as_down, asks}
use Rattle.directory.proofs.Arrays.{from_fn_map}
use Rattle.directory.proofs.rows.Served.asks.Goals as goal

pub returns : goal.returns
unfolding asks
returns c =
    from_fn_map _ _ (λ zone. as_down (awaited_for c.args.self (items_of c.args.list) zone)) (λ zone y q k. search (rules, tests)) c.from_fn.result 8 None c.from_fn.ensures.items

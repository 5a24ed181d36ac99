use Rattle.std.proofs.Common.{◌≡◌, length, drop}
use Rattle.keys.specs.Registers.{in_use, row_of, RowKept}
use Rattle.pool.specs.Stocks.{opens_as, load_all}
use Rattle.pool.proofs.loading.Loading.load_each.Given as goal

abbrev pub invariant-loop-item : goal.invariant-loop-item
invariant-loop-item g l =
    let k = g.K.Key.meaning in
    let size = length (row_of l.initial.register) in
    record {
      left : load_all k size (opens_as l.self) (in_use l.register) (drop l.item-index l.stock) ≡ load_all k size (opens_as l.initial.self) (in_use l.initial.register) l.stock;
      kept : RowKept l.initial.register l.register;
      lanes : g.T.Transport.waiting l.self.transport ≡ g.T.Transport.waiting l.initial.self.transport;
    }

use Rattle.std.proofs.Common.{◌≡◌, ◌≤◌, ◌++◌, map, length, drop, vec_items, vec_len, vec_capacity}
use Rattle.keys.specs.Registers.{in_use, row_of, RowKept}
use Rattle.calls.specs.Faults.{seen}
use Rattle.calls.specs.Runs.{results, after_run}
use Rattle.pool.specs.Pools.{model_of}
use Rattle.pool.proofs.opened.Opened.perform.Given as goal

abbrev pub invariant-loop-call : goal.invariant-loop-call
invariant-loop-call g l =
    let t = g.T.Transport in
    let k = g.K.Key.meaning in
    let size = length (row_of l.initial.register) in
    let left = drop l.call-index l.calls in
    (map seen (vec_items l.answers) ++ results t.room k size (model_of t l.self) (in_use l.register) left ≡ results t.room k size (model_of t l.initial.self) (in_use l.initial.register) l.calls)
    × (after_run t.room k size (model_of t l.self) (in_use l.register) left ≡ after_run t.room k size (model_of t l.initial.self) (in_use l.initial.register) l.calls)
    × RowKept l.initial.register l.register
    × (vec_len l.answers ≡ l.call-index)
    × (length l.calls ≤ vec_capacity l.answers)

use Rattle.std.proofs.Common.{ℕ, ◌+◌, List, drop, sym, ap, ◌∙◌}
use Rattle.messages.specs.declared.kinds.Message.{Message}
use Rattle.transport.specs.Ring.{blank}
use Rattle.transport.specs.Belt.{lane_of, entry_of}
use Rattle.transport.proofs.BeltLists.{lane_here, lane_past, one_out}
use Rattle.transport.proofs.belt.Belt.behind.Goals as goal
use Rattle.transport.proofs.belt.Belt.behind.Goals.{then-entry-lane+else-older-eq0, else-entry-lane}

pub loop-entry-preserved : goal.loop-entry-preserved
loop-entry-preserved c =
    let es = c.held-entry-items.result.now in
    let k = c.loop-entry.entry-index in
    let next : List Message = lane_of (drop (k + 1) es) c.args.lane in
    elim c.if-entry-lane.branch [
      | then-entry-lane+else-older-eq0 w ↦
          let from = lane_here es c.args.lane k (entry_of 0 blank) c.loop-entry-test.true w.if-entry-lane.true in
          ap (λ (n : ℕ). drop n next) w.older-is ∙ one_out c.loop-entry.older _ next w.if-older-eq0.false
          ∙ ap (λ (ms : List Message). drop c.loop-entry.older ms) (sym from) ∙ c.loop-entry.invariant
      | else-entry-lane w ↦
          let from = lane_past es c.args.lane k (entry_of 0 blank) c.loop-entry-test.true w.if-entry-lane.false in
          ap (λ (n : ℕ). drop n next) w.older-is ∙ ap (λ (ms : List Message). drop c.loop-entry.older ms) (sym from) ∙ c.loop-entry.invariant
    ]

use Rattle.std.proofs.Common.{get_or, List, ap, ◌∙◌}
use Rattle.calls.specs.declared.slots.Slot.{Slot}
use Rattle.calls.specs.Model.{blank_slot}
use Rattle.pool.proofs.Ties.{unstocked}
use Rattle.pool.proofs.Tidiness.{fresh_line, fresh_rows, fresh_lines}
use Rattle.pool.proofs.loading.Loading.new.Goals as goal

pub invariant_of-result-clause-tidy_rows : goal.invariant_of-result-clause-tidy_rows
invariant_of-result-clause-tidy_rows g c = fresh_rows _ c.unloaded.ensures.rows

pub invariant_of-result-clause-tidy_lines : goal.invariant_of-result-clause-tidy_lines
invariant_of-result-clause-tidy_lines g c = fresh_lines _ _ c.unloaded.ensures.slots c.unloaded.ensures.rows

pub returns-clause-each_line_invalid : goal.returns-clause-each_line_invalid
returns-clause-each_line_invalid g c k h = ap (λ (xs : List Slot). (get_or xs k blank_slot).line.state) c.unloaded.ensures.slots ∙ fresh_line k

pub returns-clause-nothing_loaded : goal.returns-clause-nothing_loaded
returns-clause-nothing_loaded g c = simp (c.unloaded.ensures.slots, c.unloaded.ensures.rows) (unstocked c.args.plan).tied

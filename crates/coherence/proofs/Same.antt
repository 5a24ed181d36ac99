-- The invariant of a system is that of any other with the same parts, zone by zone.
use Rattle.std.proofs.Common.{◌≡◌, ℕ}
use Rattle.coherence.specs.System.{System}
use Rattle.coherence.proofs.Invariant.{Inv}

pub record Same (s t : System) : Type 0 where
  pub central_same : t.central ≡ s.central
  pub dir_same : t.dir ≡ s.dir
  pub up_same : (y : ℕ) → t.up y ≡ s.up y
  pub down_same : (y : ℕ) → t.down y ≡ s.down y
  pub line_same : (y : ℕ) → t.line y ≡ s.line y
  pub pending_same : (y : ℕ) → t.pending y ≡ s.pending y

pub inv_same : (s t : System) → Same s t → Inv s → Inv t
inv_same s t e i =
    record {
      linked = λ y. rw (e.central_same, e.dir_same, e.up_same y, e.down_same y, e.line_same y, e.pending_same y) (i.linked y);
      beyond = λ y h. rw (e.dir_same, e.up_same y) (i.beyond y h);
      distinct = rw e.dir_same i.distinct;
      ready = rw (e.central_same, e.dir_same) i.ready;
    }

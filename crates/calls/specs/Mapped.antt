-- A call with another key.
use Rattle.std.specs.Prelude.{◌≡◌}
use Rattle.calls.specs.declared.call.Call.{Call}
use Rattle.calls.specs.declared.call.Call.TheVariants as call

-- the second call is the first with its key mapped as `R` says
abbrev pub KeyMapped : {K L : Type 0} → (K → L → Type 0) → Call K → Call L → Type 0
KeyMapped {L = L} R (call.Start zone key q board) after = (new : L) × R key new × (after ≡ call.Start zone new q board)
KeyMapped R (call.DeliverUp zone) after = after ≡ call.DeliverUp zone
KeyMapped R (call.DeliverDown zone) after = after ≡ call.DeliverDown zone
KeyMapped {L = L} R (call.TakeUp key) after = (new : L) × R key new × (after ≡ call.TakeUp new)
KeyMapped {L = L} R (call.LetGo zone key) after = (new : L) × R key new × (after ≡ call.LetGo zone new)

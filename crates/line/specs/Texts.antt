-- What is printed of a line: the sign of its state, and the copy that it has as chute/wave.
use Rattle.std.specs.Prelude.{ℕ, List, ◌++◌, codes, Option, Some, None}
use Rattle.messages.specs.declared.assignments.Assignment.{Assignment}
use Rattle.messages.specs.Texts.{assignment_text}
use Rattle.line.specs.declared.states.State.{State}
use Rattle.line.specs.declared.states.State.TheVariants.{Invalid, Exclusive, SharedOwned, SharedUnowned, WaitingExclusion, WaitingExclusionIfAny, WaitingPurge, WaitingSharedData, WaitingExclusiveData, WaitingExclusiveDataIfAny, WaitingPurgeData}

-- a sign, and the copy if there is one
abbrev pub signed_copy : List ℕ → Option Assignment → List ℕ
signed_copy sign None = sign
signed_copy sign (Some copy) = sign ++ codes " " ++ assignment_text copy

-- the state's sign, and the copy that the line has
abbrev pub state_text : State → List ℕ
state_text Invalid = codes "I"
state_text (Exclusive copy) = codes "E " ++ assignment_text copy
state_text (SharedOwned copy) = codes "SO " ++ assignment_text copy
state_text (SharedUnowned copy) = codes "SU " ++ assignment_text copy
state_text (WaitingExclusion w copy) = signed_copy (codes "WE") copy
state_text (WaitingExclusionIfAny new copy) = signed_copy (codes "WEI") copy
state_text (WaitingPurge p copy) = signed_copy (codes "WP") copy
state_text WaitingSharedData = codes "WSD"
state_text (WaitingExclusiveData w) = codes "WED"
state_text (WaitingExclusiveDataIfAny new) = codes "WEID"
state_text (WaitingPurgeData p) = codes "WPD"

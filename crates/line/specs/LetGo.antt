-- A zone lets go of its copy: only from SU, with a report; in any other state refusal 12.
use Rattle.std.specs.Prelude.{Some, None}
use Rattle.messages.specs.declared.kinds.Up.TheVariants.{Report}
use Rattle.line.specs.declared.states.State.{State}
use Rattle.line.specs.declared.states.State.TheVariants.{Invalid, Exclusive, SharedOwned, SharedUnowned, WaitingExclusion, WaitingExclusionIfAny, WaitingPurge, WaitingSharedData, WaitingExclusiveData, WaitingExclusiveDataIfAny, WaitingPurgeData}
use Rattle.line.specs.Outcomes.{Outcome, refused, moved}

-- what a let-go comes to in each state
abbrev pub let_go : State → Outcome
let_go (SharedUnowned copy) = moved (Some Report) None Invalid
let_go Invalid = refused 12 Invalid
let_go (Exclusive copy) = refused 12 (Exclusive copy)
let_go (SharedOwned copy) = refused 12 (SharedOwned copy)
let_go (WaitingExclusion w copy) = refused 12 (WaitingExclusion w copy)
let_go (WaitingExclusionIfAny new copy) = refused 12 (WaitingExclusionIfAny new copy)
let_go (WaitingPurge p copy) = refused 12 (WaitingPurge p copy)
let_go WaitingSharedData = refused 12 WaitingSharedData
let_go (WaitingExclusiveData w) = refused 12 (WaitingExclusiveData w)
let_go (WaitingExclusiveDataIfAny new) = refused 12 (WaitingExclusiveDataIfAny new)
let_go (WaitingPurgeData p) = refused 12 (WaitingPurgeData p)

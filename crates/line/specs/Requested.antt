-- What a user's request does at a line: the table of requests by states.
use Rattle.std.specs.Prelude.{Some}
use Rattle.messages.specs.declared.assignments.Assignment.{Assignment}
use Rattle.messages.specs.declared.requests.Request.{Request}
use Rattle.messages.specs.declared.requests.Request.TheVariants as request
use Rattle.messages.specs.declared.requests.Answer.TheVariants.{Old, Stored, Removed}
use Rattle.messages.specs.declared.kinds.Demand.TheVariants.{GetSharedData, GetExclusiveData, GetExclusiveDataIfAny, GetRemovedData, Exclude, ExcludeIfAny, PurgeOthers, PurgeAndExclude, PurgeAll}
use Rattle.line.specs.declared.states.Write.TheVariants as write
use Rattle.line.specs.declared.states.Purge.TheVariants as purge
use Rattle.line.specs.declared.states.State.{State}
use Rattle.line.specs.declared.states.State.TheVariants.{Invalid, Exclusive, SharedOwned, SharedUnowned, WaitingExclusion, WaitingExclusionIfAny, WaitingPurge, WaitingSharedData, WaitingExclusiveData, WaitingExclusiveDataIfAny, WaitingPurgeData}
use Rattle.line.specs.Outcomes.{Outcome, refused, demands, answers, reports}

-- in I
abbrev pub in_invalid : Request → Outcome
in_invalid request.CarbonCopy = demands GetSharedData WaitingSharedData
in_invalid (request.Put new) = demands PurgeAndExclude (WaitingExclusiveData (write.Put new))
in_invalid (request.GetIfAnyAndPut new) = demands GetExclusiveData (WaitingExclusiveData (write.GetIfAnyAndPut new))
in_invalid (request.GetAndPutIfAny new) = demands GetExclusiveDataIfAny (WaitingExclusiveDataIfAny new)
in_invalid request.GetIfAny = demands GetRemovedData (WaitingPurgeData purge.GetIfAny)
in_invalid request.Remove = demands PurgeAll (WaitingPurgeData purge.Remove)

-- in SO and SU, with `copy`; `same` is the state
abbrev pub in_shared : State → Assignment → Request → Outcome
in_shared same copy request.CarbonCopy = answers (Old copy) same
in_shared same copy (request.Put new) = demands PurgeAndExclude (WaitingExclusion (write.Put new) (Some copy))
in_shared same copy (request.GetIfAnyAndPut new) = demands Exclude (WaitingExclusion (write.GetIfAnyAndPut new) (Some copy))
in_shared same copy (request.GetAndPutIfAny new) = demands ExcludeIfAny (WaitingExclusionIfAny new (Some copy))
in_shared same copy request.GetIfAny = demands PurgeOthers (WaitingPurge purge.GetIfAny (Some copy))
in_shared same copy request.Remove = demands PurgeAll (WaitingPurge purge.Remove (Some copy))

-- in E, with `copy`
abbrev pub in_exclusive : Assignment → Request → Outcome
in_exclusive copy request.CarbonCopy = answers (Old copy) (Exclusive copy)
in_exclusive copy (request.Put new) = answers Stored (Exclusive new)
in_exclusive copy (request.GetIfAnyAndPut new) = answers (Old copy) (Exclusive new)
in_exclusive copy (request.GetAndPutIfAny new) = answers (Old copy) (Exclusive new)
in_exclusive copy request.GetIfAny = reports (Old copy) Invalid
in_exclusive copy request.Remove = reports Removed Invalid

-- a line that waits refuses with 9
abbrev pub requested : State → Request → Outcome
requested Invalid q = in_invalid q
requested (Exclusive copy) q = in_exclusive copy q
requested (SharedOwned copy) q = in_shared (SharedOwned copy) copy q
requested (SharedUnowned copy) q = in_shared (SharedUnowned copy) copy q
requested (WaitingExclusion w copy) q = refused 9 (WaitingExclusion w copy)
requested (WaitingExclusionIfAny new copy) q = refused 9 (WaitingExclusionIfAny new copy)
requested (WaitingPurge p copy) q = refused 9 (WaitingPurge p copy)
requested WaitingSharedData q = refused 9 WaitingSharedData
requested (WaitingExclusiveData w) q = refused 9 (WaitingExclusiveData w)
requested (WaitingExclusiveDataIfAny new) q = refused 9 (WaitingExclusiveDataIfAny new)
requested (WaitingPurgeData p) q = refused 9 (WaitingPurgeData p)

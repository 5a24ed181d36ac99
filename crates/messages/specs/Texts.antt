-- What is printed: a word, and the assignment that goes with it as chute/wave.
use Rattle.std.specs.Prelude.{ℕ, List, ◌++◌, codes, decimal}
use Rattle.messages.specs.declared.assignments.Assignment.{Assignment}
use Rattle.messages.specs.declared.requests.Request.{Request}
use Rattle.messages.specs.declared.requests.Request.TheVariants as request
use Rattle.messages.specs.declared.requests.Answer.{Answer}
use Rattle.messages.specs.declared.requests.Answer.TheVariants as answer
use Rattle.messages.specs.declared.kinds.Demand.{Demand}
use Rattle.messages.specs.declared.kinds.Demand.TheVariants as demand
use Rattle.messages.specs.declared.kinds.Up.{Up}
use Rattle.messages.specs.declared.kinds.Up.TheVariants as up
use Rattle.messages.specs.declared.kinds.Ask.{Ask}
use Rattle.messages.specs.declared.kinds.Ask.TheVariants as ask
use Rattle.messages.specs.declared.kinds.Reply.{Reply}
use Rattle.messages.specs.declared.kinds.Reply.TheVariants as reply
use Rattle.messages.specs.declared.kinds.Down.{Down}
use Rattle.messages.specs.declared.kinds.Down.TheVariants as down
use Rattle.messages.specs.declared.kinds.Kind.{Kind}
use Rattle.messages.specs.declared.kinds.Kind.TheVariants as kind
use Rattle.messages.specs.declared.refusals.Refusal.{Refusal}
use Rattle.messages.specs.declared.refusals.Refusal.TheVariants as refusal
use Rattle.messages.specs.Assignments.{chute_of, wave_of}

-- an assignment, as 12/5
abbrev pub assignment_text : Assignment → List ℕ
assignment_text a = decimal (chute_of a) ++ codes "/" ++ decimal (wave_of a)

-- a request, with the assignment that it stores
abbrev pub request_text : Request → List ℕ
request_text request.CarbonCopy = codes "carbon_copy"
request_text (request.Put new) = codes "put " ++ assignment_text new
request_text (request.GetIfAnyAndPut new) = codes "get_if_any_and_put " ++ assignment_text new
request_text (request.GetAndPutIfAny new) = codes "get_and_put_if_any " ++ assignment_text new
request_text request.GetIfAny = codes "get_if_any"
request_text request.Remove = codes "remove"

-- an answer, with the assignment that it brings
abbrev pub answer_text : Answer → List ℕ
answer_text answer.Nothing = codes "none"
answer_text (answer.Old old) = codes "old " ++ assignment_text old
answer_text answer.Stored = codes "stored"
answer_text answer.Removed = codes "removed"

-- a demand
abbrev pub demand_text : Demand → List ℕ
demand_text demand.GetSharedData = codes "get_shared_data"
demand_text demand.GetExclusiveData = codes "get_exclusive_data"
demand_text demand.GetExclusiveDataIfAny = codes "get_exclusive_data_if_any"
demand_text demand.GetRemovedData = codes "get_removed_data"
demand_text demand.Exclude = codes "exclude"
demand_text demand.ExcludeIfAny = codes "exclude_if_any"
demand_text demand.PurgeOthers = codes "purge_others"
demand_text demand.PurgeAndExclude = codes "purge_and_exclude"
demand_text demand.PurgeAll = codes "purge_all"

-- what travels up
abbrev pub up_text : Up → List ℕ
up_text (up.Demand d) = demand_text d
up_text (up.Data a) = codes "data " ++ assignment_text a
up_text up.Purged = codes "purged"
up_text up.Report = codes "report"

-- an ask
abbrev pub ask_text : Ask → List ℕ
ask_text ask.SendData = codes "send_data"
ask_text ask.SendDataAndInvalidate = codes "send_data_and_invalidate"
ask_text ask.Invalidate = codes "invalidate"

-- a reply
abbrev pub reply_text : Reply → List ℕ
reply_text (reply.DataFound a) = codes "data_found " ++ assignment_text a
reply_text reply.ExclusionMade = codes "exclusion_made"
reply_text reply.NoDataFound = codes "no_data_found"

-- what travels down
abbrev pub down_text : Down → List ℕ
down_text (down.Ask a) = ask_text a
down_text (down.Reply r) = reply_text r

-- a message's kind
abbrev pub kind_text : Kind → List ℕ
kind_text (kind.Up u) = up_text u
kind_text (kind.Down d) = down_text d

-- why something was refused
abbrev pub refusal_text : Refusal → List ℕ
refusal_text refusal.ZonesOutOfRange = codes "the zones are out of range"
refusal_text refusal.PlacesOutOfRange = codes "the places are out of range"
refusal_text refusal.FirstNumberZero = codes "the first number is zero"
refusal_text refusal.AlreadyLoaded = codes "the group is loaded already"
refusal_text refusal.ChuteTooLarge = codes "the chute is too large"
refusal_text refusal.NoSuchZone = codes "no such zone"
refusal_text refusal.ZonePaused = codes "the zone is paused"
refusal_text refusal.NoPlace = codes "no place for the group"
refusal_text refusal.LineWaiting = codes "the line waits"
refusal_text refusal.NumbersUsedUp = codes "the numbers are used up"
refusal_text refusal.NoRoom = codes "no room"
refusal_text refusal.NotSharedUnowned = codes "not a copy that another zone owns"
refusal_text refusal.UnknownKey = codes "the group has no known place"
refusal_text refusal.LaneEmpty = codes "the lane is empty"
refusal_text refusal.PlaceServed = codes "a request is being served"
refusal_text refusal.NothingWaits = codes "no request waits"
refusal_text refusal.Misplaced = codes "a step out of place"

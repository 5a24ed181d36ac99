-- How a request is served: whom the directory asks for what, how the request ends, and what it leaves on the cache list.
use Rattle.std.specs.Prelude.{ℕ, Bool, true, false, cond, ◌||◌, List, [], ◌∷◌, replicate, is_some, Some, None, Option, ◌==◌, slice_set}
use Rattle.messages.specs.declared.assignments.Assignment.{Assignment}
use Rattle.messages.specs.declared.kinds.Demand.{Demand}
use Rattle.messages.specs.declared.kinds.Demand.TheVariants.{GetSharedData, GetExclusiveData, GetExclusiveDataIfAny, GetRemovedData, Exclude, ExcludeIfAny, PurgeOthers, PurgeAndExclude, PurgeAll}
use Rattle.messages.specs.declared.kinds.Ask.{Ask}
use Rattle.messages.specs.declared.kinds.Ask.TheVariants.{SendData, SendDataAndInvalidate, Invalidate}
use Rattle.messages.specs.declared.kinds.Reply.{Reply}
use Rattle.messages.specs.declared.kinds.Reply.TheVariants.{DataFound, ExclusionMade, NoDataFound}
use Rattle.messages.specs.declared.kinds.Down.{Down}
use Rattle.messages.specs.declared.kinds.Down.TheVariants as down
use Rattle.directory.specs.declared.rows.Rule.{Rule}
use Rattle.directory.specs.declared.rows.Rule.TheVariants.{Sharing, Fetching, Clearing}
use Rattle.directory.specs.declared.rows.Waiting.{Waiting}
use Rattle.directory.specs.declared.rows.Served.{Served}
use Rattle.directory.specs.Lists.{listed}
use Rattle.directory.specs.Directory.{Outcome, went, directory}

-- the rule for a request, by whether its zone is listed when it is taken up
abbrev pub rule_of : Demand → Bool → Rule
rule_of GetSharedData on_list = Sharing
rule_of GetExclusiveData on_list = Fetching
rule_of GetExclusiveDataIfAny on_list = Fetching
rule_of GetRemovedData on_list = Fetching
rule_of Exclude on_list = cond on_list Clearing Fetching
rule_of ExcludeIfAny on_list = cond on_list Clearing Fetching
rule_of PurgeOthers on_list = cond on_list Clearing Fetching
rule_of PurgeAndExclude on_list = Clearing
rule_of PurgeAll on_list = Clearing

-- what a listed zone is asked for another's request, by whether it was the owner and whether data has come
abbrev pub ask_by : Rule → Bool → Bool → Option Ask
ask_by Sharing true false = Some SendData
ask_by Sharing true true = None
ask_by Sharing false came = None
ask_by Fetching true came = Some SendDataAndInvalidate
ask_by Fetching false came = Some Invalidate
ask_by Clearing owner came = Some Invalidate

-- what a listed zone is still awaited for; the requester never is
abbrev pub ask_of_listed : Served → ℕ → Option Ask
ask_of_listed s zone = cond (zone == s.zone) None (ask_by (rule_of s.demand s.was_listed) (zone == s.owner) (is_some s.found))

-- what a zone is still awaited for: once it is struck off the list, nothing
abbrev pub awaited_for : Served → List ℕ → ℕ → Option Ask
awaited_for s list zone = cond (listed list zone) (ask_of_listed s zone) None

-- whether some zone of a list is still awaited
abbrev pub awaits_any : Served → List ℕ → Bool
awaits_any s [] = false
awaits_any s (z ∷ zs) = cond (is_some (ask_of_listed s z)) true (awaits_any s zs)

-- ── the end of a request ──

-- data_found if data came, else no_data_found
abbrev pub data_reply : Option Assignment → Reply
data_reply None = NoDataFound
data_reply (Some a) = DataFound a

-- by the demand, whether the zone was listed, the data that came, and whether the owner's purged message came
abbrev pub reply_by : Demand → Bool → Option Assignment → Bool → Reply
reply_by GetSharedData on_list found purged = data_reply found
reply_by GetExclusiveData on_list found purged = data_reply found
reply_by GetExclusiveDataIfAny on_list found purged = data_reply found
reply_by GetRemovedData on_list found purged = data_reply found
reply_by Exclude on_list found purged = cond on_list ExclusionMade (data_reply found)
reply_by ExcludeIfAny on_list found purged = cond on_list ExclusionMade (data_reply found)
reply_by PurgeOthers on_list found purged = cond on_list ExclusionMade (data_reply found)
reply_by PurgeAndExclude on_list found purged = ExclusionMade
reply_by PurgeAll on_list found purged = cond (on_list || purged) ExclusionMade NoDataFound

-- the reply with which a served request ends
abbrev pub reply_of : Served → Reply
reply_of s = reply_by s.demand s.was_listed s.found s.owner_purged

-- x before the list if data was found
abbrev pub joined_if : Reply → ℕ → List ℕ → List ℕ
joined_if (DataFound a) x list = x ∷ list
joined_if ExclusionMade x list = []
joined_if NoDataFound x list = []

-- x alone unless nothing was found
abbrev pub alone_if : Reply → ℕ → List ℕ
alone_if (DataFound a) x = x ∷ []
alone_if ExclusionMade x = x ∷ []
alone_if NoDataFound x = []

-- the cache list that an ended request of zone x leaves
abbrev pub leaves : Demand → Reply → ℕ → List ℕ → List ℕ
leaves GetSharedData r x list = joined_if r x list
leaves GetExclusiveData r x list = x ∷ []
leaves GetExclusiveDataIfAny r x list = alone_if r x
leaves GetRemovedData r x list = []
leaves Exclude r x list = x ∷ []
leaves ExcludeIfAny r x list = alone_if r x
leaves PurgeOthers r x list = []
leaves PurgeAndExclude r x list = x ∷ []
leaves PurgeAll r x list = []

-- the cache list that a served request leaves when it ends
abbrev pub list_after : Served → List ℕ → List ℕ
list_after s list = leaves s.demand (reply_of s) s.zone list

-- the eight zones' messages where only x gets one
abbrev pub only_to : ℕ → Down → List (Option Down)
only_to x m = slice_set (replicate 8 None) x (Some m)

-- the request ends: its zone gets the reply and is named as settled
abbrev pub ended : Served → List ℕ → List Waiting → Outcome
ended s list waiting = went (only_to s.zone (down.Reply (reply_of s))) (Some s.zone) (directory (list_after s list) waiting None)

-- the request goes on after the messages of this step, or ends where nobody is awaited
abbrev pub serves_on : List (Option Down) → Served → List ℕ → List Waiting → Outcome
serves_on messages s list waiting = cond (awaits_any s list) (went messages None (directory list waiting (Some s))) (ended s list waiting)

-- the same by the request that is served, if any: with none, nothing more happens
abbrev pub goes_on : List (Option Down) → Option Served → List ℕ → List Waiting → Outcome
goes_on messages None list waiting = went messages None (directory list waiting None)
goes_on messages (Some s) list waiting = serves_on messages s list waiting

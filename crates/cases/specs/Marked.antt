-- Worked cases at the limits of the rules: a field for each, over the definitions that the contracts cite.
use Rattle.std.specs.Prelude.{◌≡◌, ℕ, false, List, [], ◌∷◌, Some, None}
use Rattle.messages.specs.declared.assignments.Assignment.{Assignment}
use Rattle.messages.specs.declared.requests.Request.TheVariants as request
use Rattle.messages.specs.declared.requests.Answer.TheVariants as answer
use Rattle.messages.specs.declared.kinds.Demand.{Demand}
use Rattle.messages.specs.declared.kinds.Demand.TheVariants as demand
use Rattle.messages.specs.declared.kinds.Up.TheVariants as up
use Rattle.messages.specs.declared.kinds.Ask.{Ask}
use Rattle.messages.specs.declared.kinds.Ask.TheVariants as ask
use Rattle.messages.specs.declared.kinds.Reply.{Reply}
use Rattle.messages.specs.declared.kinds.Reply.TheVariants as reply
use Rattle.messages.specs.declared.kinds.Down.TheVariants as down
use Rattle.messages.specs.declared.kinds.Kind.{Kind}
use Rattle.messages.specs.declared.kinds.Kind.TheVariants as kind
use Rattle.line.specs.declared.states.Purge.TheVariants as purge
use Rattle.line.specs.declared.states.State.TheVariants as state
use Rattle.line.specs.Outcomes.{refused, moved, answers, reports}
use Rattle.line.specs.Requested.{requested}
use Rattle.line.specs.Received.{received}
use Rattle.directory.specs.declared.rows.Served.{Served}
use Rattle.directory.specs.Directory as of_directory
use Rattle.directory.specs.Directory.{Directory, directory, went}
use Rattle.directory.specs.Serving.{awaited_for, only_to}
use Rattle.directory.specs.TakeUp.{taken_up}
use Rattle.directory.specs.Arrivals.{delivered, to_nobody}
use Rattle.transport.specs.Limits.{BeltAt62}
use Rattle.rules.specs.Shares.{hit_share}

-- chute 12, wave 5
abbrev pub twelve_five : Assignment
twelve_five = record { chute = 12; wave = 5 }

-- chute 40, wave 6
abbrev pub forty_six : Assignment
forty_six = record { chute = 40; wave = 6 }

-- an ask as a kind of message
abbrev pub asking : Ask → Kind
asking a = kind.Down (down.Ask a)

-- a reply as a kind of message
abbrev pub replying : Reply → Kind
replying r = kind.Down (down.Reply r)

-- a directory with a cache list, where one zone's request waits
abbrev pub one_waits : List ℕ → ℕ → Demand → Directory
one_waits list zone k = directory list (record { zone = zone; demand = k } ∷ []) None

-- a request that is served from a zone that is not listed: nothing has come yet
abbrev pub served_from : ℕ → Demand → ℕ → Served
served_from zone k owner = record { zone = zone; demand = k; was_listed = false; owner = owner; found = None; owner_purged = false }

-- what a step leaves
abbrev pub left_by : of_directory.Outcome → Directory
left_by (of_directory.refused n d) = d
left_by (went messages settled d) = d

-- list [0], purge_all from 1 is being served
abbrev pub purging : Directory
purging = directory (0 ∷ []) [] (Some (served_from 1 demand.PurgeAll 0))

-- get_shared_data from 3 is being served, whose owner is 1
abbrev pub reading : List ℕ → Directory
reading list = directory list [] (Some (served_from 3 demand.GetSharedData 1))

-- every row of the table
pub record MarkedCases : Type 0 where
  -- E with 12/5, get_if_any: a report, the answer 12/5, I
  pub extraction_reports : requested (state.Exclusive twelve_five) request.GetIfAny ≡ reports (answer.Old twelve_five) state.Invalid
  -- SU, send_data: 17
  pub unowned_sends_no_data : received (state.SharedUnowned twelve_five) (asking ask.SendData) ≡ refused 17 (state.SharedUnowned twelve_five)
  -- WEI, invalidate: purged, WEI
  pub if_any_loses_its_copy : received (state.WaitingExclusionIfAny forty_six (Some twelve_five)) (asking ask.Invalidate) ≡ moved (Some up.Purged) None (state.WaitingExclusionIfAny forty_six None)
  -- then no_data_found: none, I
  pub if_any_finds_nothing : received (state.WaitingExclusionIfAny forty_six None) (replying reply.NoDataFound) ≡ answers answer.Nothing state.Invalid
  -- WP for remove, invalidate: purged, WP
  pub remove_loses_its_copy : received (state.WaitingPurge purge.Remove (Some twelve_five)) (asking ask.Invalidate) ≡ moved (Some up.Purged) None (state.WaitingPurge purge.Remove None)
  -- list [0], purge_all from 1 is taken up
  pub purge_all_is_served : left_by (taken_up (one_waits (0 ∷ []) 1 demand.PurgeAll)) ≡ purging
  -- zone 0's report brings no_data_found
  pub report_finds_nothing : delivered (kind.Up up.Report) 0 purging ≡ went (only_to 1 (down.Reply reply.NoDataFound)) (Some 1) (directory [] [] None)
  -- zone 0's purged message brings exclusion_made
  pub purged_makes_exclusion : delivered (kind.Up up.Purged) 0 purging ≡ went (only_to 1 (down.Reply reply.ExclusionMade)) (Some 1) (directory [] [] None)
  -- list [1, 0, 2], get_shared_data from 3 is taken up, and awaits 1
  pub reader_is_served : left_by (taken_up (one_waits (1 ∷ 0 ∷ 2 ∷ []) 3 demand.GetSharedData)) ≡ reading (1 ∷ 0 ∷ 2 ∷ [])
  pub reader_awaits_owner : awaited_for (served_from 3 demand.GetSharedData 1) (1 ∷ 0 ∷ 2 ∷ []) 1 ≡ Some ask.SendData
  -- a report from 2 leaves it waiting, list [1, 0]
  pub report_leaves_reader_waiting : delivered (kind.Up up.Report) 2 (reading (1 ∷ 0 ∷ 2 ∷ [])) ≡ went to_nobody None (reading (1 ∷ 0 ∷ []))
  -- the belt with 62 waiting: two lanes are admitted, three are not
  pub belt_at_62 : BeltAt62
  -- 1 hit of 8 starts: 13
  pub one_hit_of_eight : hit_share 1 8 ≡ Some 13

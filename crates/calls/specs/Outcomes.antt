-- The outcome of each call: its result, the pool after it, and the register's keys in use after it.
use Rattle.std.specs.Prelude.{ℕ, List, Ok, Err, Result}
use Rattle.messages.specs.Refusals.{Facts}
use Rattle.transport.specs.Lanes.{Rule}
use Rattle.keys.specs.Places.{place_of, place_given, keys_after}
use Rattle.calls.specs.declared.reports.Report.{Report}
use Rattle.calls.specs.declared.call.Call.{Call}
use Rattle.calls.specs.declared.call.Call.TheVariants as call
use Rattle.calls.specs.Model.{Model}
use Rattle.calls.specs.Zones.{Done, start_call, let_go_call, down_call}
use Rattle.calls.specs.Directories.{up_call, take_up_call}

-- the report or the facts of the refusal, the pool after the call, and the keys in use after it
abbrev pub Outcome : Type 0 → Type 0
Outcome K = Result Report Facts × Model × List K

-- a refused call changes nothing; an accepted one leaves the keys in use as `after`
abbrev pub done : {K : Type 0} → Model → List K → List K → Done → Outcome K
done m ks after (Ok (r, m')) = (Ok r, m', after)
done m ks after (Err f) = (Err f, m, ks)

-- one call; the register's row has `size` places
abbrev pub called : {K : Type 0} → Rule → (K → List ℕ) → ℕ → Model → List K → Call K → Outcome K
called room meaning size m ks (call.Start zone key q board) =
    done m ks (keys_after meaning ks size key) (start_call room m (place_given meaning ks size key) board zone q)
called room meaning size m ks (call.DeliverUp zone) = done m ks ks (up_call room m zone)
called room meaning size m ks (call.DeliverDown zone) = done m ks ks (down_call room m zone)
called room meaning size m ks (call.TakeUp key) = done m ks ks (take_up_call room m (place_of meaning ks key))
called room meaning size m ks (call.LetGo zone key) = done m ks ks (let_go_call room m (place_of meaning ks key) zone)

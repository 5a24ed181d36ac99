-- The central pool as an onlooker: it sees only the stock, the calls' arguments and their results, and takes keys of equal meaning for one.
use Rattle.std.specs.Prelude.{◌≡◌, ℕ, ◌+◌, cond, List, [], ◌∷◌, Some, None, Ok, Err, Option, Result, ◌==◌}
use Rattle.std.specs.Str.{bytes_eq}
use Rattle.messages.specs.declared.assignments.Assignment.{Assignment}
use Rattle.messages.specs.declared.requests.Request.{Request}
use Rattle.messages.specs.declared.requests.Answer.{Answer}
use Rattle.messages.specs.Central as central
use Rattle.messages.specs.Refusals.{Facts}
use Rattle.calls.specs.declared.reports.Report.{Report}
use Rattle.calls.specs.declared.reports.Answered.{Answered}
use Rattle.calls.specs.declared.call.Call.{Call}
use Rattle.calls.specs.declared.call.Call.TheVariants as call
use Rattle.calls.specs.Runs.{Event}

-- what the onlooker knows of a request number
pub data Entry : Type 0 where
  -- not given yet
  unused : Entry
  -- given to an accepted start of this key and request
  accepted : List ℕ → Request → Entry
  -- served by the central pool, which answered so
  settled : List ℕ → Request → Answer → Entry
  -- answered to its zone
  answered : Entry

-- what the onlooker keeps
pub record Onlooker : Type 0 where
  -- the central pool's table
  pub values : List ℕ → Option Assignment
  pub entries : ℕ → Entry
  -- the number that the next accepted start must be given
  pub next : ℕ

-- a table with the value of one key set
abbrev pub with_value : (List ℕ → Option Assignment) → List ℕ → Option Assignment → List ℕ → Option Assignment
with_value values key v other = cond (bytes_eq other key) v (values other)

-- the entries with that of one number set
abbrev pub with_entry : (ℕ → Entry) → ℕ → Entry → ℕ → Entry
with_entry entries n e other = cond (other == n) e (entries other)

-- ── what it does with an accepted call: first the number given, next the request settled, last the answer ──

-- key and request under the number given, if one was given
abbrev pub keeps : Onlooker → List ℕ → Request → Option ℕ → Onlooker
keeps o key q None = o
keeps o key q (Some n) = record { values = o.values; entries = with_entry o.entries n (accepted key q); next = o.next + 1 }

-- from an accepted start it keeps the key and the request under the number given
abbrev pub after_number : Onlooker → Call (List ℕ) → Option ℕ → Onlooker
after_number o (call.Start zone key q board) n = keeps o key q n
after_number o (call.DeliverUp zone) n = o
after_number o (call.DeliverDown zone) n = o
after_number o (call.TakeUp key) n = o
after_number o (call.LetGo zone key) n = o

-- a request settled is served by the central pool's table, and its answer is kept
abbrev pub serves : Onlooker → ℕ → Entry → Onlooker
serves o n unused = o
serves o n (accepted key q) =
    record {
      values = with_value o.values key (central.left q (o.values key));
      entries = with_entry o.entries n (settled key q (central.answered q (o.values key)));
      next = o.next;
    }
serves o n (settled key q a) = o
serves o n answered = o

-- after the request that was reported settled, if any
abbrev pub after_settled : Onlooker → Option ℕ → Onlooker
after_settled o None = o
after_settled o (Some n) = serves o n (o.entries n)

-- after the answer that was reported, if any: its number is answered
abbrev pub after_answered : Onlooker → Option Answered → Onlooker
after_answered o None = o
after_answered o (Some x) = record { values = o.values; entries = with_entry o.entries x.number answered; next = o.next }

-- after an accepted call
abbrev pub after_report : Onlooker → Call (List ℕ) → Report → Onlooker
after_report o c r = after_answered (after_settled (after_number o c r.number) r.settled) r.answered

-- a refused call changes nothing in it
abbrev pub after_result : Onlooker → Call (List ℕ) → Result Report Facts → Onlooker
after_result o c (Ok r) = after_report o c r
after_result o c (Err f) = o

-- after a run
abbrev pub after_all : Onlooker → List Event → Onlooker
after_all o [] = o
after_all o (e ∷ es) = after_all (after_result o e.asked e.result) es

-- ── to what it does not object ──

-- an accepted start is given the next number, and no other call is given one
abbrev pub NumberFine : Onlooker → Call (List ℕ) → Option ℕ → Type 0
NumberFine o (call.Start zone key q board) n = n ≡ Some o.next
NumberFine o (call.DeliverUp zone) n = n ≡ None
NumberFine o (call.DeliverDown zone) n = n ≡ None
NumberFine o (call.TakeUp key) n = n ≡ None
NumberFine o (call.LetGo zone key) n = n ≡ None

-- a request settled was accepted, and was not settled before
abbrev pub SettledFine : Onlooker → Option ℕ → Type 0
SettledFine o None = Unit {0}
SettledFine o (Some n) = (key : List ℕ) × (q : Request) × (o.entries n ≡ accepted key q)

-- a request answered was settled, was not answered before, and is answered as the central pool answered it
abbrev pub AnsweredFine : Onlooker → Option Answered → Type 0
AnsweredFine o None = Unit {0}
AnsweredFine o (Some x) = (key : List ℕ) × (q : Request) × (o.entries x.number ≡ settled key q x.answer)

-- an accepted call: number, settled request and answer are each fine, in this order
pub record ReportFine (o : Onlooker) (c : Call (List ℕ)) (r : Report) : Type 0 where
  pub number_fine : NumberFine o c r.number
  pub settled_fine : SettledFine (after_number o c r.number) r.settled
  pub answered_fine : AnsweredFine (after_settled (after_number o c r.number) r.settled) r.answered

-- to a refused call it never objects
abbrev pub ResultFine : Onlooker → Call (List ℕ) → Result Report Facts → Type 0
ResultFine o c (Ok r) = ReportFine o c r
ResultFine o c (Err f) = Unit {0}

-- it objects to no result of a run
abbrev pub NeverObjects : Onlooker → List Event → Type 0
NeverObjects o [] = Unit {0}
NeverObjects o (e ∷ es) = ResultFine o e.asked e.result × NeverObjects (after_result o e.asked e.result) es

-- before the first call: the stock's values, and no number given
abbrev pub onlooking : (List ℕ → Option Assignment) → ℕ → Onlooker
onlooking values first = record { values = values; entries = λ n. unused; next = first }

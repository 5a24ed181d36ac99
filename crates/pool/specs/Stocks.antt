-- Loading: a pool before it is opened is read as the pool that opening makes of it.
use Rattle.std.specs.Prelude.{ℕ, ◌+◌, ◌*◌, cond, List, [], ◌∷◌, map, replicate, Some, None, Ok, Err, Option, Result, nat_lt, slice_set}
use Rattle.messages.specs.declared.assignments.Assignment.{Assignment}
use Rattle.messages.specs.Refusals.{Facts}
use Rattle.line.specs.declared.states.State.{State}
use Rattle.line.specs.declared.states.State.TheVariants.{Exclusive}
use Rattle.directory.specs.Directory.{view_of, directory}
use Rattle.transport.specs.Lanes.{all_empty}
use Rattle.transport.specs.declared.interface.Transport as transport
use Rattle.keys.specs.Places.{place_given, keys_after}
use Rattle.rules.specs.declared.plan.Plan.{Plan}
use Rattle.calls.specs.declared.stock.Stock.{Stock}
use Rattle.calls.specs.Faults.{about_zone}
use Rattle.calls.specs.Model.{Model, slot, blank_slot, state_at, fresh_row, row_at, no_counts}
use Rattle.calls.specs.Onlookers.{with_value}
use Rattle.calls.specs.Opening.{Load}
use Rattle.pool.specs.declared.loading.Loading.{Loading}

-- the pool that opening makes of it: the lanes empty, the first number next
abbrev pub opens_as : {T : Type 0} {t : transport.Ghosts T} → Loading T t → Model
opens_as p =
    record {
      plan = p.plan;
      lanes = all_empty;
      slots = p.tables.slots;
      rows = map view_of p.tables.rows;
      next = p.plan.first_number;
      counts = p.tables.counts;
    }

-- with nothing loaded: every line is Invalid
abbrev pub unloaded : Plan → Model
unloaded plan =
    record {
      plan = plan;
      lanes = all_empty;
      slots = replicate 256 blank_slot;
      rows = replicate 32 fresh_row;
      next = plan.first_number;
      counts = replicate 8 no_counts;
    }

-- ── one load, in the order of its refusals ──

-- with an assignment at a zone in E, listed there
abbrev pub loaded_with : Model → ℕ → Assignment → ℕ → Model
loaded_with m zone a place =
    record {
      plan = m.plan;
      lanes = m.lanes;
      slots = slice_set m.slots (zone * 32 + place) (slot (Exclusive a) 0);
      rows = slice_set m.rows place (directory (zone ∷ []) [] None);
      next = m.next;
      counts = m.counts;
    }

-- 4 where the key is loaded already: some zone is listed at its place
abbrev pub load_free : ℕ → ℕ → List ℕ → Result ℕ Facts
load_free zone place [] = Ok place
load_free zone place (z ∷ zs) = Err (about_zone 4 zone)

-- 8 where the key's place, known or next, is not in the row or not below the pool's places
abbrev pub load_in : Model → ℕ → Option ℕ → Result ℕ Facts
load_in m zone None = Err (about_zone 8 zone)
load_in m zone (Some place) = cond (nat_lt place m.plan.places) (load_free zone place (row_at m place).list) (Err (about_zone 8 zone))

-- the place that is loaded; 6 where the pool has no such zone
abbrev pub load_place : Model → ℕ → Option ℕ → Result ℕ Facts
load_place m zone place = cond (nat_lt zone m.plan.zones) (load_in m zone place) (Err (about_zone 6 zone))

-- what a load comes to: its result, and the pool and the keys in use after it
abbrev pub LoadOutcome : Type 0 → Type 0
LoadOutcome K = Result (Unit {0}) Facts × Model × List K

-- a refused load changes nothing; an accepted one leaves the keys in use as `after`
abbrev pub load_done : {K : Type 0} → Model → ℕ → Assignment → List K → List K → Result ℕ Facts → LoadOutcome K
load_done m zone a ks after (Ok place) = (Ok tt, loaded_with m zone a place, after)
load_done m zone a ks after (Err f) = (Err f, m, ks)

-- what one load comes to
abbrev pub load_one : {K : Type 0} → (K → List ℕ) → ℕ → Model → List K → Stock K → LoadOutcome K
load_one meaning size m ks x =
    load_done m x.zone x.assignment ks (keys_after meaning ks size x.key) (load_place m x.zone (place_given meaning ks size x.key))

-- ── the stock from first to last, up to the first refusal ──

-- the next loads, unless a load was refused
abbrev pub then_load : {K : Type 0} → LoadOutcome K → (Model → List K → LoadOutcome K) → LoadOutcome K
then_load (Ok u, m, ks) rest = rest m ks
then_load (Err f, m, ks) rest = (Err f, m, ks)

-- what loading a stock comes to; what was loaded before a refusal stays
abbrev pub load_all : {K : Type 0} → (K → List ℕ) → ℕ → Model → List K → List (Stock K) → LoadOutcome K
load_all meaning size m ks [] = (Ok tt, m, ks)
load_all meaning size m ks (x ∷ xs) = then_load (load_one meaning size m ks x) (λ m' ks'. load_all meaning size m' ks' xs)

-- ── what was loaded ──

-- by a zone's line
abbrev pub held_by : ℕ → State → Load
held_by zone (Exclusive copy) = Some (zone, copy)
held_by zone _ = None

-- by a cache list and what each zone's line is
abbrev pub load_by : (ℕ → State) → List ℕ → Load
load_by states [] = None
load_by states (z ∷ zs) = held_by z (states z)

-- at each place: the zone that is listed there, with the assignment of its line
abbrev pub loads_in : Model → ℕ → Load
loads_in m place = load_by (λ zone. state_at m zone place) (row_at m place).list

-- a table of values once the stock is put in, from first to last
abbrev pub stocked_from : {K : Type 0} → (K → List ℕ) → (List ℕ → Option Assignment) → List (Stock K) → List ℕ → Option Assignment
stocked_from meaning values [] = values
stocked_from meaning values (x ∷ xs) = stocked_from meaning (with_value values (meaning x.key) (Some x.assignment)) xs

-- the assignment that the stock gives to a key
abbrev pub stock_values : {K : Type 0} → (K → List ℕ) → List (Stock K) → List ℕ → Option Assignment
stock_values meaning stock = stocked_from meaning (λ key. None) stock

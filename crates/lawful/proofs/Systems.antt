-- One place of a pool as the system of one key, and what a write to one slot or one value does to it.
use Rattle.std.proofs.Common.{◌≡◌, ℕ, ◌+◌, ◌*◌, ◌<◌, Bool, true, false, cond, eqb, ltb, List, length, get_or, set, Some, None, Option, refl, ap, ◌∙◌, arith}
use Rattle.std.specs.Str.{bytes_eq}
use Rattle.std.proofs.lemmas.Bool.{eqb-true, ltb-true}
use Rattle.messages.specs.declared.assignments.Assignment.{Assignment}
use Rattle.messages.specs.declared.requests.Request.{Request}
use Rattle.messages.specs.declared.requests.Answer.{Answer}
use Rattle.line.specs.declared.states.State.{State}
use Rattle.line.specs.declared.states.State.TheVariants.{Invalid}
use Rattle.keys.specs.Places.{key_at}
use Rattle.calls.specs.declared.slots.Slot.{Slot}
use Rattle.calls.specs.Model.{Model, row_at, blank_slot}
use Rattle.calls.specs.Onlookers.{Onlooker, Entry, unused, accepted, settled, answered, with_value}
use Rattle.coherence.specs.System.{System, Pending, free}
use Rattle.coherence.specs.System as one
use Rattle.lawful.proofs.Projections.{up_of, down_of}
use Rattle.lawful.proofs.Waits.{waits}
use Rattle.lawful.proofs.Keys.{same_key, key_itself}
use Rattle.lawful.proofs.Tables.{slot_set_here, slot_set_other_zone, slot_set_other_place}

-- the central pool's value for the key of a place
abbrev pub value_of : (List ℕ → Option Assignment) → Option (List ℕ) → Option Assignment
value_of values None = None
value_of values (Some key) = values key

-- a zone's request, by whether its line waits and what the onlooker knows of the line's number
abbrev pub pending_by : Bool → Entry → Pending
pending_by false e = free
pending_by true unused = free
pending_by true (accepted key q) = one.accepted q
pending_by true (settled key q a) = one.settled q a
pending_by true answered = free

abbrev pub slot_pending : Slot → (ℕ → Entry) → Pending
slot_pending s es = pending_by (waits s.line.state) (es s.number)

-- by slots, entries, place and zone; none above zone 7
abbrev pub line_of : List Slot → ℕ → ℕ → State
line_of slots p z = cond (ltb z 8) (get_or slots (z * 32 + p) blank_slot).line.state Invalid

abbrev pub pending_of : List Slot → (ℕ → Entry) → ℕ → ℕ → Pending
pending_of slots es p z = cond (ltb z 8) (slot_pending (get_or slots (z * 32 + p) blank_slot) es) free

-- the system of one place
abbrev pub system_at : Model → List (List ℕ) → Onlooker → ℕ → System
system_at m ks o p =
    record {
      central = value_of o.values (key_at ks p);
      dir = row_at m p;
      up = up_of m.lanes p;
      down = down_of m.lanes p;
      line = line_of m.slots p;
      pending = pending_of m.slots o.entries p;
    }

-- which lines wait, and their numbers
abbrev pub waits_at : List Slot → ℕ → ℕ → Bool
waits_at slots z p = waits (get_or slots (z * 32 + p) blank_slot).line.state

abbrev pub number_at : List Slot → ℕ → ℕ → ℕ
number_at slots z p = (get_or slots (z * 32 + p) blank_slot).number

-- ── what a pending request says ──

pub record IsAccepted (w : Bool) (e : Entry) (q : Request) : Type 0 where
  pub waiting : w ≡ true
  pub key : List ℕ
  pub entry : e ≡ accepted key q

pub record IsSettled (w : Bool) (e : Entry) (q : Request) (a : Answer) : Type 0 where
  pub waiting : w ≡ true
  pub key : List ℕ
  pub entry : e ≡ settled key q a

pub is_accepted : (w : Bool) (e : Entry) (q : Request) → pending_by w e ≡ one.accepted q → IsAccepted w e q
is_accepted false e q h = let z : ◌≡◌ {A = ℕ} 0 1 = cc in absurd (omega arith)
is_accepted true unused q h = let z : ◌≡◌ {A = ℕ} 0 1 = cc in absurd (omega arith)
is_accepted true (accepted key r) q h = let e : r ≡ q = cc in record { waiting = refl; key = key; entry = ap (accepted key) e }
is_accepted true (settled key r a) q h = let z : ◌≡◌ {A = ℕ} 0 1 = cc in absurd (omega arith)
is_accepted true answered q h = let z : ◌≡◌ {A = ℕ} 0 1 = cc in absurd (omega arith)

pub is_settled : (w : Bool) (e : Entry) (q : Request) (a : Answer) → pending_by w e ≡ one.settled q a → IsSettled w e q a
is_settled false e q a h = let z : ◌≡◌ {A = ℕ} 0 1 = cc in absurd (omega arith)
is_settled true unused q a h = let z : ◌≡◌ {A = ℕ} 0 1 = cc in absurd (omega arith)
is_settled true (accepted key r) q a h = let z : ◌≡◌ {A = ℕ} 0 1 = cc in absurd (omega arith)
is_settled true (settled key r b) q a h = let e : r ≡ q = cc in let f : b ≡ a = cc in record { waiting = refl; key = key; entry = rw (e, f) }
is_settled true answered q a h = let z : ◌≡◌ {A = ℕ} 0 1 = cc in absurd (omega arith)

-- ── a slot is written ──

module _ (slots : List Slot) (z p : ℕ) (s : Slot) (long : length slots ≡ 256) (hz : z < 8) (hp : p < 32) where
  abbrev written : List Slot
  written = set slots (z * 32 + p) s

  pub line_here : ltb z 8 ≡ true → (y : ℕ) → line_of written p y ≡ cond (eqb y z) s.line.state (line_of slots p y)
  line_here b y = go (eqb y z) refl
    where
      go : (e : Bool) → eqb y z ≡ e → line_of written p y ≡ cond e s.line.state (line_of slots p y)
      go true e = ap (line_of written p) (eqb-true y z e) ∙ rw b (ap (λ (x : Slot). x.line.state) (slot_set_here slots z p s long hz hp))
      go false e = ap (λ (x : Slot). cond (ltb y 8) x.line.state Invalid) (slot_set_other_zone slots z p y p s hp hp e)

  pub line_elsewhere : (q y : ℕ) → q < 32 → eqb q p ≡ false → line_of written q y ≡ line_of slots q y
  line_elsewhere q y hq n = ap (λ (x : Slot). cond (ltb y 8) x.line.state Invalid) (slot_set_other_place slots z p y q s hp hq n)

-- a pending request stays as long as its slot and its entry do
pub slot_pending_kept : (s : Slot) (es es' : ℕ → Entry) → (waits s.line.state ≡ true → es' s.number ≡ es s.number) → slot_pending s es' ≡ slot_pending s es
slot_pending_kept s es es' h = go (waits s.line.state) refl
  where
    go : (w : Bool) → waits s.line.state ≡ w → pending_by w (es' s.number) ≡ pending_by w (es s.number)
    go false e = refl
    go true e = ap (pending_by true) (h e)

-- where the slots of a place are as before, and the entries of its waiting lines
pub pending_kept : (slots slots' : List Slot) (es es' : ℕ → Entry) (p z : ℕ) → get_or slots' (z * 32 + p) blank_slot ≡ get_or slots (z * 32 + p) blank_slot →
    (z < 8 → waits_at slots z p ≡ true → es' (number_at slots z p) ≡ es (number_at slots z p)) → pending_of slots' es' p z ≡ pending_of slots es p z
pending_kept slots slots' es es' p z e h = go (ltb z 8) refl
  where
    go : (b : Bool) → ltb z 8 ≡ b → cond b (slot_pending (get_or slots' (z * 32 + p) blank_slot) es') free ≡ cond b (slot_pending (get_or slots (z * 32 + p) blank_slot) es) free
    go false t = refl
    go true t = ap (λ (x : Slot). slot_pending x es') e ∙ slot_pending_kept (get_or slots (z * 32 + p) blank_slot) es es' (h (ltb-true z 8 t))

-- where only the entries are other functions with the same values
pub kept_entries : (slots : List Slot) (es es' : ℕ → Entry) (p z : ℕ) → ((n : ℕ) → es' n ≡ es n) → pending_of slots es' p z ≡ pending_of slots es p z
kept_entries slots es es' p z h = pending_kept slots slots es es' p z refl (λ hz w. h (number_at slots z p))

-- ── a value is written ──

pub value_here : (values : List ℕ → Option Assignment) (key : List ℕ) (v : Option Assignment) → with_value values key v key ≡ v
value_here values key v = rw (key_itself key)

pub value_elsewhere : (values : List ℕ → Option Assignment) (key : List ℕ) (v : Option Assignment) (k : Option (List ℕ)) → (k ≡ Some key → ⊥) → value_of (with_value values key v) k ≡ value_of values k
value_elsewhere values key v None h = refl
value_elsewhere values key v (Some k) h = go (bytes_eq k key) refl
  where
    go : (b : Bool) → bytes_eq k key ≡ b → cond b v (values k) ≡ values k
    go true e = absurd (h (ap (λ (x : List ℕ). Some x) (same_key k key e)))
    go false e = refl

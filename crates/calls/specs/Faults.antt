-- What a fault of a call tells.
use Rattle.std.specs.Prelude.{ℕ, Some, None, Ok, Err, Option, Result}
use Rattle.messages.specs.declared.refusals.Layer.TheVariants.{Pool}
use Rattle.messages.specs.declared.refusals.Refusal.{Refusal}
use Rattle.messages.specs.Refusals.{Facts, refusal_number}
use Rattle.transport.specs.declared.faults.Subject.{Subject}
use Rattle.transport.specs.declared.faults.Subject.TheVariants.{Zone, Place}
use Rattle.transport.specs.Faults as transport
use Rattle.calls.specs.declared.faults.Fault.{Fault}
use Rattle.calls.specs.declared.faults.Fault.TheVariants as fault

-- a refusal of the pool, of a call with a zone
abbrev pub about_zone : ℕ → ℕ → Facts
about_zone n zone = record { number = n; layer = Pool; zone = Some zone; place = None }

-- of a call without a zone, about the place of its key
abbrev pub about_place : ℕ → ℕ → Facts
about_place n place = record { number = n; layer = Pool; zone = None; place = Some place }

-- of a call without a zone, whose key has no place in the pool
abbrev pub about_nothing : ℕ → Facts
about_nothing n = record { number = n; layer = Pool; zone = None; place = None }

-- of a call, about what the refusal names, if anything
abbrev pub about : ℕ → Option Subject → Facts
about n None = about_nothing n
about n (Some (Zone zone)) = about_zone n zone
about n (Some (Place place)) = about_place n place

-- what a fault stands for; a transport's fault is passed on whole
abbrev pub facts_of : Fault → Facts
facts_of (fault.Pool f) = about (refusal_number f.refusal) f.subject
facts_of (fault.Transport f) = transport.transport_facts f

-- which refusal a fault tells
abbrev pub refusal_of : Fault → Refusal
refusal_of (fault.Pool f) = f.refusal
refusal_of (fault.Transport f) = transport.refusal_of f

-- a result by its value or its fault's facts
abbrev pub seen : {X : Type 0} → Result X Fault → Result X Facts
seen (Ok x) = Ok x
seen (Err f) = Err (facts_of f)

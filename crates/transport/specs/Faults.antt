-- What a transport's fault tells: its number, its layer, and the zone or the place that it names.
use Rattle.std.specs.Prelude.{ℕ, Some, None, Ok, Err, Option, Result}
use Rattle.messages.specs.declared.refusals.Layer.TheVariants.{Transport}
use Rattle.messages.specs.declared.refusals.Refusal.{Refusal}
use Rattle.messages.specs.Refusals.{Facts, refusal_number}
use Rattle.transport.specs.declared.faults.Subject.{Subject}
use Rattle.transport.specs.declared.faults.Subject.TheVariants.{Zone, Place}
use Rattle.transport.specs.declared.faults.TransportFault.{TransportFault}

-- the zone that a fault names, if it names one
abbrev pub named_zone : Subject → Option ℕ
named_zone (Zone z) = Some z
named_zone (Place p) = None

-- the place that a fault names, if it names one
abbrev pub named_place : Subject → Option ℕ
named_place (Zone z) = None
named_place (Place p) = Some p

-- the facts of a refusal by the transport layer
abbrev pub refused : ℕ → Subject → Facts
refused number (Zone z) = record { number = number; layer = Transport; zone = Some z; place = None }
refused number (Place p) = record { number = number; layer = Transport; zone = None; place = Some p }

-- which refusal a fault tells
abbrev pub refusal_of : TransportFault → Refusal
refusal_of f = f.refusal

-- what a fault stands for
abbrev pub transport_facts : TransportFault → Facts
transport_facts f = refused (refusal_number f.refusal) f.subject

-- a result by its value or its fault's facts
abbrev pub told : {X : Type 0} → Result X TransportFault → Result X Facts
told (Ok x) = Ok x
told (Err f) = Err (transport_facts f)

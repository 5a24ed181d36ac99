-- The numbers of the refusals.
use Rattle.std.specs.Prelude.{ℕ, Ok, Err, Option, Result}
use Rattle.messages.specs.declared.refusals.Layer.{Layer}
use Rattle.messages.specs.declared.refusals.Refusal.{Refusal}
use Rattle.messages.specs.declared.refusals.Refusal.TheVariants.{ZonesOutOfRange, PlacesOutOfRange, FirstNumberZero, AlreadyLoaded, ChuteTooLarge, NoSuchZone, ZonePaused, NoPlace, LineWaiting, NumbersUsedUp, NoRoom, NotSharedUnowned, UnknownKey, LaneEmpty, PlaceServed, NothingWaits, Misplaced}

-- which number a refusal stands for
abbrev pub refusal_number : Refusal → ℕ
refusal_number ZonesOutOfRange = 1
refusal_number PlacesOutOfRange = 2
refusal_number FirstNumberZero = 3
refusal_number AlreadyLoaded = 4
refusal_number ChuteTooLarge = 5
refusal_number NoSuchZone = 6
refusal_number ZonePaused = 7
refusal_number NoPlace = 8
refusal_number LineWaiting = 9
refusal_number NumbersUsedUp = 10
refusal_number NoRoom = 11
refusal_number NotSharedUnowned = 12
refusal_number UnknownKey = 13
refusal_number LaneEmpty = 14
refusal_number PlaceServed = 15
refusal_number NothingWaits = 16
refusal_number Misplaced = 17

-- a result by its value or its refusal's number
abbrev pub numbered : {X : Type 0} → Result X Refusal → Result X ℕ
numbered (Ok x) = Ok x
numbered (Err e) = Err (refusal_number e)

-- what a fault tells: its number, its layer, the call's zone, or without one the key's place
pub record Facts : Type 0 where
  pub number : ℕ
  pub layer : Layer
  pub zone : Option ℕ
  pub place : Option ℕ

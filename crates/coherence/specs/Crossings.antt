-- States that runs reach, so that what is said of every run is said of crossings too. Zone 0 begins with the only copy, v.
use Rattle.std.specs.Prelude.{◌≡◌, [], ◌∷◌, None}
use Rattle.messages.specs.declared.assignments.Assignment.{Assignment}
use Rattle.messages.specs.declared.requests.Request.TheVariants.{Put}
use Rattle.messages.specs.declared.kinds.Demand.TheVariants.{GetRemovedData}
use Rattle.messages.specs.declared.kinds.Ask.TheVariants.{Invalidate}
use Rattle.messages.specs.declared.kinds.Up.TheVariants.{Demand, Data, Report}
use Rattle.messages.specs.declared.kinds.Reply.TheVariants.{DataFound}
use Rattle.messages.specs.declared.kinds.Down.TheVariants.{Ask, Reply}
use Rattle.messages.specs.declared.kinds.Kind.TheVariants.{Up, Down}
use Rattle.coherence.specs.System.{System, accepted}
use Rattle.coherence.specs.Steps.{Run}

-- zone 0 has extracted the assignment while the invalidate for zone 1's put is on its way to it
abbrev pub ExtractionCrossesInvalidate : Type 0
ExtractionCrossesInvalidate =
    (v new : Assignment) → (s : System) × Run s × (s.up 0 ≡ Up Report ∷ []) × (s.down 0 ≡ Down (Ask Invalidate) ∷ []) ×
    (s.central ≡ None) × (s.pending 1 ≡ accepted (Put new))

-- zone 1 has answered an ask, then let its copy go, then asked again
abbrev pub UpLaneHoldsThree : Type 0
UpLaneHoldsThree = (v new : Assignment) → (s : System) × Run s × (s.up 1 ≡ Up (Data new) ∷ Up Report ∷ Up (Demand GetRemovedData) ∷ [])

-- the crossed invalidate is still there, behind it the reply to zone 0's next request, and behind that a new invalidate
abbrev pub DownLaneHoldsThree : Type 0
DownLaneHoldsThree =
    (v new : Assignment) → (s : System) × Run s × (s.down 0 ≡ Down (Ask Invalidate) ∷ Down (Reply (DataFound new)) ∷ Down (Ask Invalidate) ∷ [])

-- runs reach all three
abbrev pub CrossingsAreReached : Type 0
CrossingsAreReached = ExtractionCrossesInvalidate × UpLaneHoldsThree × DownLaneHoldsThree

-- A worked run, by computation.
use Rattle.std.proofs.Common.{◌<◌, refl, arith}
use Rattle.messages.specs.declared.assignments.Assignment.{Assignment}
use Rattle.messages.specs.declared.requests.Request.TheVariants.{CarbonCopy, Put, GetIfAny}
use Rattle.directory.specs.TakeUp.{asks}
use Rattle.coherence.specs.System.{System}
use Rattle.coherence.specs.Steps.{Run, one_has_it, request, letting_go, delivery_down, delivery_up, take_up}
use Rattle.coherence.specs.Crossings.{ExtractionCrossesInvalidate, UpLaneHoldsThree, DownLaneHoldsThree, CrossingsAreReached}

zone_0 : 0 < 8
zone_0 = omega arith

zone_1 : 1 < 8
zone_1 = omega arith

abbrev Reached : Type 0
Reached = (s : System) × Run s

-- zone 1 puts, the directory asks zone 0 to invalidate, and zone 0 extracts before that reaches it
abbrev crossed : Assignment → Assignment → Reached
unfolding asks
crossed v new =
    let put = request (one_has_it 0 zone_0 v) 1 zone_1 (Put new) _ _ _ refl in
    let asked = take_up (delivery_up put 1 _ _ _ _ _ refl refl) _ _ _ refl in
    (_, request asked 0 zone_0 GetIfAny _ _ _ refl)

-- zone 0 reads; its report ends the put, and its request is taken up
abbrev read : Assignment → Assignment → Reached
unfolding asks
read v new =
    let reads = request (crossed v new).1 0 zone_0 CarbonCopy _ _ _ refl in
    let ended = delivery_up reads 0 _ _ _ _ _ refl refl in
    (_, take_up (delivery_up ended 0 _ _ _ _ _ refl refl) _ _ _ refl)

-- zone 1 has its put answered, and then sends its data
abbrev sent : Assignment → Assignment → Reached
unfolding asks
sent v new =
    let answered = delivery_down (read v new).1 1 zone_1 _ _ _ _ _ refl refl in
    (_, delivery_down answered 1 zone_1 _ _ _ _ _ refl refl)

-- it lets its copy go, and asks again
abbrev gone : Assignment → Assignment → Reached
unfolding asks
gone v new = (_, request (letting_go (sent v new).1 1 zone_1 _ _ refl) 1 zone_1 GetIfAny _ _ _ refl)

-- or its data ends zone 0's request, and it puts again
abbrev put_again : Assignment → Assignment → Reached
unfolding asks
put_again v new =
    let shared = delivery_up (sent v new).1 1 _ _ _ _ _ refl refl in
    let put = request shared 1 zone_1 (Put v) _ _ _ refl in
    (_, take_up (delivery_up put 1 _ _ _ _ _ refl refl) _ _ _ refl)

crosses : ExtractionCrossesInvalidate
unfolding asks
crosses v new = ((crossed v new).0, (crossed v new).1, refl, refl, refl, refl)

three_up : UpLaneHoldsThree
unfolding asks
three_up v new = ((gone v new).0, (gone v new).1, refl)

three_down : DownLaneHoldsThree
unfolding asks
three_down v new = ((put_again v new).0, (put_again v new).1, refl)

pub crossings_are_reached : CrossingsAreReached
crossings_are_reached = (crosses, three_up, three_down)

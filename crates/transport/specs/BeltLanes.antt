-- There is a list for each lane, whatever the belt holds.
use Rattle.std.specs.Prelude.{◌≡◌, List, length}
use Rattle.std.proofs.lemmas.List.FromFn.{length-map-range_with_len}
use Rattle.transport.specs.declared.entry.Entry.{Entry}
use Rattle.transport.specs.Belt.{lane_of, lanes_of}

pub lanes_sixteen : (es : List Entry) → length (lanes_of es) ≡ 16
unfolding lanes_of
lanes_sixteen es = length-map-range_with_len (lane_of es) 0 16

use Rattle.std.proofs.Common.{◌≡◌, Bool, false, List, ◌++◌, map, length, get_or, replicate, is_some, None, sym, ap, ◌∙◌, arith, rules}
use Rattle.std.proofs.lemmas.List.{same_lists, append-nil, get_or-map, length-map}
use Rattle.transport.specs.Sending.{down_marks}
use Rattle.transport.proofs.lanes.down_marks.Goals as goal

pub returns : goal.returns
unfolding down_marks
returns c =
    let to = c.args.outgoing.to in
    let long : length to ≡ 8 = search rules in
    let mapped : c.map.result ≡ map is_some to = same_lists c.map.result (map is_some to) (c.map.ensures.items.long ∙ sym (length-map to is_some ∙ long))
    (λ k d l.
    let at = c.map.ensures.items.at k None d (omega (arith, c.map.ensures.items.long)) in
    let e : get_or c.map.result k d ≡ is_some (get_or to k None) = search rules in
    e ∙ sym (get_or-map is_some to k None d (omega (arith, c.map.ensures.items.long)))) in
    ap (λ (marks : List Bool). replicate 8 false ++ marks) (append-nil c.copy_from_slice.new.self ∙ c.copy_from_slice.ensures.after ∙ mapped)

use Rattle.std.proofs.Common.{◌≡◌, ℕ, ◌<◌, map, get_or, sym, ◌∙◌, arith, rules}
use lib.ListN.{length-map}
use Rattle.std.proofs.lemmas.Grind.{same_number_lists}
use Rattle.std.proofs.lemmas.List.{take-map, get_or-map}
use Rattle.messages.specs.declared.kinds.Demand.TheVariants.{GetSharedData}
use Rattle.directory.specs.declared.rows.Waiting.{Waiting}
use Rattle.directory.proofs.lists.zones.ShortList+Waiting.zones.Goals as goal

pub returns : goal.returns
returns c =
    let spare : Waiting = record { zone = 0; demand = GetSharedData } in
    let zone_of : Waiting → ℕ = λ w. w.zone in
    let each : (i : ℕ) → i < 8 → get_or c.map.result i 0 ≡ zone_of (get_or c.args.self.items i spare) =
    λ i h. let k = c.map.ensures.items.at i spare 0 h in search rules in
    let e : c.map.result ≡ map zone_of c.args.self.items =
    same_number_lists _ _ (simp length-map (omega arith)) (λ k h. each k (omega arith) ∙ sym (get_or-map zone_of c.args.self.items k spare 0 (omega arith))) in
    rw e (take-map zone_of c.args.self.used c.args.self.items)

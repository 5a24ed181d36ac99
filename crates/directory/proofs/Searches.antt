-- What a search of a slice finds.
use Rattle.std.proofs.Common.{◌≡◌, ℕ, is_some, eqb, List, [], ◌∷◌, refl, arith}
use Rattle.std.specs.List.{list_any}
use Rattle.std.proofs.lemmas.Bool.Decides.{nat_tests}
use Rattle.directory.specs.declared.rows.Served.{Served}
use Rattle.directory.specs.declared.rows.Waiting.{Waiting}
use Rattle.directory.specs.Directory.{requesters}
use Rattle.directory.specs.Lists.{listed}
use Rattle.directory.specs.Serving.{ask_of_listed, awaits_any}

pub any_listed : (zone : ℕ) (zs : List ℕ) → list_any (λ z. eqb z zone) zs ≡ listed zs zone
any_listed zone [] = refl
any_listed zone (z ∷ zs) = let ih = any_listed zone zs in grind (arith, nat_tests)

pub any_awaited : (s : Served) (zs : List ℕ) → list_any (λ z. is_some (ask_of_listed s z)) zs ≡ awaits_any s zs
any_awaited s [] = refl
any_awaited s (z ∷ zs) = let ih = any_awaited s zs in grind (arith, nat_tests)

pub any_waiting : (zone : ℕ) (ws : List Waiting) → list_any (λ w. eqb w.zone zone) ws ≡ listed (requesters ws) zone
any_waiting zone [] = refl
any_waiting zone (w ∷ ws) = let ih = any_waiting zone ws in grind (arith, nat_tests)

-- Whether the directory sends anything.
use Rattle.std.proofs.Common.{◌≡◌, List, [], ◌∷◌, is_some, Some, None, Option, refl}
use Rattle.std.specs.List.{list_any}
use Rattle.messages.specs.declared.kinds.Down.{Down}
use Rattle.calls.specs.Sending.{sends_any}

pub any_sends : (to : List (Option Down)) → list_any is_some to ≡ sends_any to
any_sends [] = refl
any_sends (None ∷ to) = any_sends to
any_sends (Some down ∷ to) = refl

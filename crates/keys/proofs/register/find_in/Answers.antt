use Rattle.std.proofs.Common.{◌≡◌, ℕ, Bool, List, Decides, sym, ◌∙◌, rules, tests}
use Rattle.std.proofs.lemmas.Bool.Decides.{same_from_decides}
use Rattle.std.proofs.lemmas.Iterator.{YieldsList-from_slice}
use Rattle.std.proofs.lemmas.Iterator.Search.{position_from_yields_List}
use Rattle.std.proofs.lemmas.Iterator.Adapters.{position_from-zero}
use Rattle.std.proofs.lemmas.Slice.Eq.{bytes_eq-Decides}
use Rattle.keys.specs.Places.{same_meaning}
use Rattle.keys.proofs.register.find_in.Goals as goal

-- what an answer that decides sameness is
decided : {K : Type 0} (m : K → List ℕ) (a b : K) (r : Bool) → Decides r (m a ≡ m b) → r ≡ same_meaning m a b
decided m a b r d = sym (same_from_decides _ _ (bytes_eq-Decides (m a) (m b)) d)

pub returns : goal.returns
returns g c =
    let alike = λ (k : g.row.K.Denot). same_meaning g.K.Key.meaning k c.args.key.now in
    position_from_yields_List alike _ _ _ c.position.ensures.ran (YieldsList-from_slice _ c.iter.ensures.rest) (λ x b q k. search (rules, tests, decided))
    ∙ position_from-zero alike c.args.keys.now

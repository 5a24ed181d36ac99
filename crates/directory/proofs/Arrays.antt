-- What an array's calls give where each call leaves the closure as it was.
use Rattle.std.proofs.Common.{◌≡◌, ℕ, zero, suc, ◌+◌, ◌<◌, List, map, get_or, subst, ◌∙◌, arith}
use denote.Param.Members.{Mut, Called}
use Rattle.std.specs.Array.{IsFromFnResultFrom, IsFromFnResult}
use Rattle.std.specs.List.{range_with_len}
use Rattle.std.proofs.lemmas.List.FromFn.{fill_by_all}

module _ {F B : Type 0} (g : Mut F (ℕ × Unit {0}) B) (f : F) (out : ℕ → B) (calls : (k : ℕ) (y : B) (q : F) → Called g f (k, tt) y q → (q ≡ f) × (y ≡ out k)) where
  filled_at : (ys : List B) (i n : ℕ) → IsFromFnResultFrom g f ys i n → (k j : ℕ) (d : B) → k < n → i + k ≡ j → get_or ys j d ≡ out j
  filled_at ys i zero h k j d l e = absurd (omega arith)
  filled_at ys i (suc n) h zero j d l e =
      let s : i ≡ j = omega arith in
      rw (← s) (h.2.1 d ∙ (calls i h.1 h.0 h.3).1)
  filled_at ys i (suc n) h (suc k) j d l e =
      let P : F → Type 0 = λ q. IsFromFnResultFrom g q ys (i + 1) n in
      filled_at ys (i + 1) n (subst P (calls i h.1 h.0 h.3).0 h.4) k j d (omega arith) (omega arith)

  pub from_fn_map : (ys : List B) (n : ℕ) (d : B) → IsFromFnResult g f ys n → ys ≡ map out (range_with_len 0 n)
  from_fn_map ys n d h = fill_by_all out ys n d h.long (λ k l. filled_at ys 0 n h.each k k d l (omega arith))

-- How wrong CRCs, each by its masks, come to the definition.
-- Assumes nothing.
use mathlib.Core.Path.{◌≡◌, refl, sym, ◌∙◌, ap}
use mathlib.Core.List.{List, [], ◌∷◌, map}
use Prim.Native.Nat.{ℕ, ◌+◌, ◌*◌}
use native.Mathlib.Omega.{arith}
use lib.ListN.{length, get_or}
use Rattle.channel.specs.Coding.{Word}
use Rattle.channel.specs.Verdict.{wrongs}
use Rattle.masks.specs.declared.CoveredList.{CoveredList}
use Rattle.masks.specs.Kept.{places_of}

-- four lists, one by one
four_of : {A : Type 0} (d : A) (xs : List A) → length xs ≡ 4 → xs ≡ get_or xs 0 d ∷ get_or xs 1 d ∷ get_or xs 2 d ∷ get_or xs 3 d ∷ []
four_of d [] h = absurd (omega arith)
four_of d (a ∷ []) h = absurd (omega arith)
four_of d (a ∷ b ∷ []) h = absurd (omega arith)
four_of d (a ∷ b ∷ c ∷ []) h = absurd (omega arith)
four_of d (a ∷ b ∷ c ∷ e ∷ []) h = refl
four_of d (a ∷ b ∷ c ∷ e ∷ f ∷ xs) h = absurd (omega arith)

-- the wrong ones of four CRCs
pub four_wrongs_lem : (g : Word) (d : CoveredList) (lists : List CoveredList) (p q r s : ℕ) → length lists ≡ 4 → p ≡ wrongs g (places_of (get_or lists 0 d) ∷ []) → q ≡ wrongs g (places_of (get_or lists 1 d) ∷ [])
    → r ≡ wrongs g (places_of (get_or lists 2 d) ∷ []) → s ≡ wrongs g (places_of (get_or lists 3 d) ∷ []) → p + 2 * q + 4 * r + 8 * s ≡ wrongs g (map places_of lists)
four_wrongs_lem g d lists p q r s four a b c e = rw (a, b, c, e) (omega arith) ∙ ap (λ (xs : List CoveredList). wrongs g (map places_of xs)) (sym (four_of d lists four))

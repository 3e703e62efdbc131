-- The frame whose record some bytes begin with, by what they say.
-- Assumes nothing.
use mathlib.Core.Path.{◌≡◌, refl, sym, ◌∙◌}
use mathlib.Core.List.{List}
use Prim.Native.Nat.{ℕ, zero, suc}
use Rattle.std.specs.Prelude.{Option, None}
use Rattle.item.specs.declared.Frame.{Frame}
use Rattle.parse.specs.Parsed.{kind_by, RecordBy}

-- no kind has another number
pub kind-none : (n : ℕ) → (n ≡ 1 → ⊥) → (n ≡ 2 → ⊥) → (n ≡ 3 → ⊥) → (n ≡ 4 → ⊥) → (n ≡ 5 → ⊥) → (n ≡ 6 → ⊥) → (n ≡ 7 → ⊥) → (n ≡ 8 → ⊥) → kind_by n ≡ None
kind-none zero a b c d e f g h = refl
kind-none (suc zero) a b c d e f g h = absurd (a refl)
kind-none (suc (suc zero)) a b c d e f g h = absurd (b refl)
kind-none (suc (suc (suc zero))) a b c d e f g h = absurd (c refl)
kind-none (suc (suc (suc (suc zero)))) a b c d e f g h = absurd (d refl)
kind-none (suc (suc (suc (suc (suc zero))))) a b c d e f g h = absurd (e refl)
kind-none (suc (suc (suc (suc (suc (suc zero)))))) a b c d e f g h = absurd (f refl)
kind-none (suc (suc (suc (suc (suc (suc (suc zero))))))) a b c d e f g h = absurd (g refl)
kind-none (suc (suc (suc (suc (suc (suc (suc (suc zero)))))))) a b c d e f g h = absurd (h refl)
kind-none (suc (suc (suc (suc (suc (suc (suc (suc (suc n))))))))) a b c d e f g h = refl

-- no second record fits, in any of its numbers
pub record_by-one : (part : List ℕ) (r s : Option Frame) → RecordBy part r → RecordBy part s → r ≡ s
record_by-one part r s a b = a.is ∙ sym b.is

-- The octets of a record step by step, as the code builds them.
-- Assumes nothing.
use mathlib.Core.Path.{◌≡◌, ◌∙◌, ap}
use mathlib.Core.List.{List, [], ◌∷◌}
use Prim.Native.Nat.{ℕ, ◌+◌, ◌-◌, ◌<◌, ◌≤◌}
use native.Mathlib.Nat.{le_of_eq}
use native.Mathlib.Omega.{arith}
use lib.ListN.{length, get_or, take, drop, length-drop}
use lib.Seq.{drop-cons, take_all}
use Rattle.bits.specs.Bit.{bit_at}
use Rattle.scatter.specs.Scatter.{put_places}
use Rattle.channel.specs.declared.Kind.{Kind}
use Rattle.channel.specs.Kinds.{pattern_of}
use Rattle.channel.specs.Places.{d_places}
use Rattle.channel.specs.Control.{control_places}
use Rattle.channel.specs.Record.{d_length}
use Rattle.octets.specs.Built.{fixed_octets, extended_places, with_parities, octets_by}

-- the octets step by step, each lent its bytes of the record
pub built_from : (part : List ℕ) (k : Kind) (o₀ o₁ o₂ o₃ o₄ : List ℕ) → 12 + d_length k ≤ length part → o₀ ≡ fixed_octets (pattern_of k)
    → o₁ ≡ put_places o₀ (control_places k) (bit_at (take 1 (drop 9 part))) 0 → o₂ ≡ put_places o₁ (extended_places k) (bit_at (take 1 (drop 10 part))) 0
    → o₃ ≡ put_places o₂ (d_places k) (bit_at (take (length part - 12) (drop 12 part))) 0 → o₄ ≡ with_parities k o₃
    → o₄ ≡ octets_by k (get_or part 9 0) (get_or part 10 0) (drop 12 part)
unfolding octets_by
built_from part k o₀ o₁ o₂ o₃ o₄ h e₀ e₁ e₂ e₃ e₄ =
    let c : take 1 (drop 9 part) ≡ get_or part 9 0 ∷ [] = one 9 (omega arith) in
    let x : take 1 (drop 10 part) ≡ get_or part 10 0 ∷ [] = one 10 (omega arith) in
    let d : take (length part - 12) (drop 12 part) ≡ drop 12 part = take_all (length part - 12) (drop 12 part) (le_of_eq (length-drop 12 part)) in
    e₄ ∙ ap (with_parities k) (e₃ ∙ rw (d, e₂, x, e₁, c, e₀))
  where
    one : (i : ℕ) → i < length part → take 1 (drop i part) ≡ get_or part i 0 ∷ []
    one i l = ap (take 1) (drop-cons part i 0 l)

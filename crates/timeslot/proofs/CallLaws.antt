-- The calls: which requests are refused, and that no second answer fits.
-- Assumes nothing.
use mathlib.Core.Path.{◌≡◌, refl, ap, sym, ◌∙◌}
use mathlib.Core.Bool.{Bool, true, false, ◌||◌}
use mathlib.Core.List.{List}
use Prim.Native.Nat.{ℕ, ◌<◌, ◌≤◌}
use native.Mathlib.Omega.{arith}
use borrow.Author.Tests.{le-ltb, ltb-false, eqb-false}
use lib.Dec.{eqb, ltb}
use Rattle.call.proofs.NumberLaws.{passed}
use Rattle.timeslot.specs.Timeslot.{bytes_for, outside, refusal, after_by, ChannelCall}
use Rattle.timeslot.specs.Share.{Admitted}
use Rattle.channel.proofs.BoolLaws.{never}

-- what the numbers ask of a request holds where they do not refuse it
pub admitted : (k octets bytes : ℕ) → refusal k octets bytes ≡ 0 → Admitted k octets bytes
admitted k octets bytes e =
    let (a, e₁) = passed (outside k) 7 _ (omega arith) e in
    let (b, e₂) = passed (ltb 65536 octets) 2 _ (omega arith) e₁ in
    let (c, e₃) = passed (ltb bytes (bytes_for octets)) 4 _ (omega arith) e₂ in
    let (some, most) = inside k (eqb k 0) refl a in
    record {
      from = some;
      to = most;
      short = omega (arith, ltb-false 65536 octets b);
      room = omega (arith, ltb-false bytes (bytes_for octets) c);
    }
  where
    inside : (k : ℕ) (zero_is : Bool) → eqb k 0 ≡ zero_is → zero_is || ltb 8 k ≡ false → (0 < k) × (k ≤ 8)
    inside k true e h = absurd (never h)
    inside k false e h = let z = eqb-false k 0 e in (omega arith, omega (arith, ltb-false 8 k h))

-- bytes that are enough are never too many
pub enough_same : (k octets a b : ℕ) → bytes_for octets ≤ a → bytes_for octets ≤ b → refusal k octets a ≡ refusal k octets b
enough_same k octets a b x y = rw (le-ltb a (bytes_for octets) x, le-ltb b (bytes_for octets) y)

module _ (k octets bytes : ℕ) (made before : List ℕ) where
  -- no second number fits a request, and nothing second is left
  pub call_one : (m n : ℕ) (x y : List ℕ) → ChannelCall k octets bytes made before m x → ChannelCall k octets bytes made before n y → (m ≡ n) × (x ≡ y)
  call_one m n x y p q =
      let same : m ≡ n = p.answer ∙ sym q.answer in
      (same, p.left ∙ ap (λ (number : ℕ). after_by number made before) same ∙ sym q.left)

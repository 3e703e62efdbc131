-- Arrays that are made of what a closure gives at each number.
-- Assumes nothing.
use mathlib.Core.Path.{◌≡◌, sym, ◌∙◌}
use mathlib.Core.List.{List, map}
use Prim.Native.Nat.{ℕ, zero, suc, ◌+◌, ◌<◌}
use native.Mathlib.Nat.{add-zero, zero-add}
use native.Mathlib.Omega.{arith}
use lib.ListN.{get_or}
use lib.Seq.{ext_get_or}
use denote.Param.Members.{Mut, Called}
use Rattle.std.specs.Array.{IsFromFnResult, IsFromFnResultFrom}
use Rattle.bits.specs.Bit.{count}
use Rattle.bits.proofs.CountLaws.{length-map-count, get_d_map_count}

module _ {F : Type 0} (g : Mut F (ℕ × Unit {0}) ℕ) (P : F → Type 0) (h : ℕ → ℕ) (ys : List ℕ) (m : ℕ)
    (one : (p q : F) (i y : ℕ) → P p → i < m → Called g p (i, tt) y q → P q × (y ≡ h i)) where
  -- at each number from i on
  given_from : (n i : ℕ) (f : F) → i + n ≡ m → P f → IsFromFnResultFrom g f ys i n → (k : ℕ) → k < n → get_or ys (i + k) 0 ≡ h (i + k)
  given_from zero i f e p r k l = absurd (omega arith)
  given_from (suc n) i f e p (q, y, at, called, rest) zero l = rw (add-zero i) (at.1 0 ∙ (one f q i y p (omega arith) called).1)
  given_from (suc n) i f e p (q, y, at, called, rest) (suc k) l =
      let up : i + 1 + k ≡ i + suc k = omega arith in
      rw up at (given_from n (i + 1) q (omega arith) (one f q i y p (omega arith) called).0 rest k (omega arith))

  -- the array is what the closure gives at 0, 1, ..
  pub made_of : (f : F) → P f → IsFromFnResult g f ys m → ys ≡ map h (count m 0)
  made_of f p r =
      ext_get_or 0 ys (map h (count m 0)) (r.long ∙ sym (length-map-count h m 0)) (λ k l.
      let inside : k < m = omega (arith, r.long) in
      rw (zero-add k) at (given_from m 0 f (zero-add m) p r.each k inside) ∙ sym (rw (zero-add k) at (get_d_map_count h m 0 k inside)))

-- Rule 3: counting the ones behind a body gives its whole tail, and there is no other.
-- Assumes nothing.
use mathlib.Core.Path.{◌≡◌, refl, subst}
use mathlib.Core.Logic.{◌⊎◌, inl, inr, by_cases}
use mathlib.Core.Bool.{Bool, true, false, cond}
use Prim.Native.Nat.{ℕ, zero, suc, ◌+◌, ◌-◌, ◌≤◌, ◌<◌}
use native.Mathlib.Omega.{arith}
use native.Mathlib.Decide.{dec_lt, ℕ_discrete}
use Rattle.channel.specs.Frames.{Capture, Tail}

-- how many ones stand from q on, at most k
abbrev pub tail_of : (ℕ → Bool) → ℕ → ℕ → ℕ
tail_of f zero q = 0
tail_of f (suc k) q = let r = suc (tail_of f k (suc q)) in cond (f q) r 0

module _ (w : Capture) where
  tail_from : (k q : ℕ) → q + k ≡ w.n → Tail w q (tail_of w.bits k q)
  tail_from zero q e = record { within = omega arith; ones = λ i a b. absurd (omega arith); stops = inl (omega arith) }
  tail_from (suc k) q e = go (w.bits q) refl (tail_from k (suc q) (omega arith))
    where
      go : (b : Bool) → w.bits q ≡ b → Tail w (suc q) (tail_of w.bits k (suc q)) → Tail w q (cond b (suc (tail_of w.bits k (suc q))) 0)
      go false z r = record { within = omega arith; ones = λ i a b. absurd (omega arith); stops = inr (subst (λ (i : ℕ). w.bits i ≡ false) (omega arith) z) }
      go true z r =
          let t = tail_of w.bits k (suc q) in
          let m : suc q + t ≡ q + suc t = omega arith in
          record {
            within = omega (arith, r.within);
            ones = λ i a b. elim (ℕ_discrete q i) [ yes d ↦ subst (λ (j : ℕ). w.bits j ≡ true) d z | no d ↦ r.ones i (omega arith) (omega arith) ];
            stops = subst (λ (j : ℕ). (j ≡ w.n) ⊎ (w.bits j ≡ false)) m r.stops;
          }

  -- the counted tail is whole
  pub tail-whole : (q : ℕ) → q ≤ w.n → Tail w q (tail_of w.bits (w.n - q) q)
  tail-whole q h = tail_from (w.n - q) q (omega arith)

  -- ones right behind a place are in its whole tail
  pub ones_in : (q t m : ℕ) → Tail w q t → q + m ≤ w.n → ((i : ℕ) → q ≤ i → i < q + m → w.bits i ≡ true) → m ≤ t
  ones_in q t m h l ones = by_cases (dec_lt t m) (λ (a : t < m). absurd (go a h.stops)) (λ (a : ¬ (t < m)). omega arith)
    where
      go : t < m → (q + t ≡ w.n) ⊎ (w.bits (q + t) ≡ false) → ⊥
      go a (inl e) = omega arith
      go a (inr e) = let f = ones (q + t) (omega arith) (omega arith) in let z : ◌≡◌ {A = ℕ} 0 1 = cc in omega arith

  -- two whole tails behind one place are one
  pub tail-one : (q s t : ℕ) → Tail w q s → Tail w q t → s ≡ t
  tail-one q s t a b = omega (arith, ones_in q s t a b.within b.ones, ones_in q t s b a.within a.ones)

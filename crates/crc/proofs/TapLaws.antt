-- The CRC by parities: each coefficient of the remainder is odd or even as the bits at some of the places are, whatever the length.
-- Assumes nothing.
use mathlib.Core.Path.{◌≡◌, refl, sym, ◌∙◌, ap, ap₂}
use mathlib.Core.Bool.{Bool, true, false, ◌&&◌, cond}
use mathlib.Core.List.{List, [], ◌∷◌}
use Prim.Native.Nat.{ℕ, zero, suc, ◌+◌, ◌%◌, ◌<◌}
use native.Mathlib.Omega.{arith}
use lib.Dec.{eqb}
use lib.ListN.{length, get_or, length-map}
use Rattle.bits.specs.Bit.{to_n}
use Rattle.channel.specs.Poly.{◌⊕◌, Rem}
use Rattle.channel.specs.Coding.{Word, bits_at, ones, odd}
use Rattle.channel.specs.Crc.{push, rem_from, rem, right}
use Rattle.crc.specs.Taps.{powers, power, taps}

nought : Rem
nought = record { r2 = false; r1 = false; r0 = false }

abbrev add : Rem → Rem → Rem
add r s = record { r2 = r.r2 ⊕ s.r2; r1 = r.r1 ⊕ s.r1; r0 = r.r0 ⊕ s.r0 }

-- a remainder, or none
abbrev times : Bool → Rem → Rem
times b r = record { r2 = b && r.r2; r1 = b && r.r1; r0 = b && r.r0 }

swap : (a b c d : Bool) → (a ⊕ b) ⊕ (c ⊕ d) ≡ (a ⊕ c) ⊕ (b ⊕ d)
swap true true true true = refl
swap true true true false = refl
swap true true false true = refl
swap true true false false = refl
swap true false true true = refl
swap true false true false = refl
swap true false false true = refl
swap true false false false = refl
swap false true true true = refl
swap false true true false = refl
swap false true false true = refl
swap false true false false = refl
swap false false true true = refl
swap false false true false = refl
swap false false false true = refl
swap false false false false = refl

xor_false : (a : Bool) → a ⊕ false ≡ a
xor_false true = refl
xor_false false = refl

same : {r s : Rem} → r.r2 ≡ s.r2 → r.r1 ≡ s.r1 → r.r0 ≡ s.r0 → r ≡ s
same a b c = λ i. record { r2 = a i; r1 = b i; r0 = c i }

-- dividing is additive
push-add : (r s : Rem) (b : Bool) → push (add r s) b ≡ add (push r b) (push s false)
push-add r s b = same refl (swap r.r0 s.r0 r.r2 s.r2) (ap (λ (c : Bool). c ⊕ (r.r2 ⊕ s.r2)) (sym (xor_false b)) ∙ swap b false r.r2 s.r2)

-- n zeros behind
abbrev shifted : ℕ → Rem → Rem
shifted zero r = r
shifted (suc n) r = shifted n (push r false)

rem-add : (bs : List Bool) (r s : Rem) → rem_from (add r s) bs ≡ add (rem_from r bs) (shifted (length bs) s)
rem-add [] r s = refl
rem-add (b ∷ bs) r s = ap (λ (t : Rem). rem_from t bs) (push-add r s b) ∙ rem-add bs (push r b) (push s false)

push-times : (b : Bool) (r : Rem) → push (times b r) false ≡ times b (push r false)
push-times true r = refl
push-times false r = refl

-- each power is the one before times X
pub power-next : (n : ℕ) → push (power n) false ≡ power (suc n)
power-next n = go (n % 7) (suc n % 7) (omega arith) (omega arith)
  where
    go : (k l : ℕ) → k < 7 → l ≡ (k + 1) % 7 → push (get_or powers k (record { r2 = false; r1 = false; r0 = true })) false ≡ get_or powers l (record { r2 = false; r1 = false; r0 = true })
    go zero l h e = rw e
    go (suc zero) l h e = rw e
    go (suc (suc zero)) l h e = rw e
    go (suc (suc (suc zero))) l h e = rw e
    go (suc (suc (suc (suc zero)))) l h e = rw e
    go (suc (suc (suc (suc (suc zero))))) l h e = rw e
    go (suc (suc (suc (suc (suc (suc zero)))))) l h e = rw e
    go (suc (suc (suc (suc (suc (suc (suc k))))))) l h e = absurd (omega arith)

shift_power : (n : ℕ) (m : ℕ) (b : Bool) → shifted n (times b (power m)) ≡ times b (power (n + m))
shift_power zero m b = ap (λ (k : ℕ). times b (power k)) zero_l
  where
    zero_l : m ≡ 0 + m
    zero_l = omega arith
shift_power (suc n) m b =
    let e : n + suc m ≡ suc n + m = omega arith in
    ap (shifted n) (push-times b (power m) ∙ ap (times b) (power-next m)) ∙ shift_power n (suc m) b ∙ ap (λ (k : ℕ). times b (power k)) e

one_bit_lem : (b : Bool) → push nought b ≡ add nought (times b (power 0))
unfolding nought
one_bit_lem true = refl
one_bit_lem false = refl

-- the first bit of a word adds what its power leaves
rem-first : (b : Bool) (bs : List Bool) → rem (b ∷ bs) ≡ add (rem bs) (times b (power (length bs)))
unfolding nought
rem-first b bs =
    let e : length bs + 0 ≡ length bs = omega arith in
    ap (λ (t : Rem). rem_from t bs) (one_bit_lem b) ∙ rem-add bs nought (times b (power 0))
    ∙ ap (add (rem bs)) (shift_power (length bs) 0 b ∙ ap (λ (k : ℕ). times b (power k)) e)

odd-first : (b : Bool) (bs : List Bool) → odd (b ∷ bs) ≡ odd bs ⊕ b
odd-first b bs = go b (ones bs)
  where
    go : (b : Bool) (n : ℕ) → eqb ((to_n b + n) % 2) 1 ≡ eqb (n % 2) 1 ⊕ b
    go b zero = small b
      where
        small : (b : Bool) → eqb ((to_n b + 0) % 2) 1 ≡ false ⊕ b
        small true = refl
        small false = refl
    go b (suc zero) = small b
      where
        small : (b : Bool) → eqb ((to_n b + 1) % 2) 1 ≡ true ⊕ b
        small true = refl
        small false = refl
    go b (suc (suc n)) =
        let e : (to_n b + suc (suc n)) % 2 ≡ (to_n b + n) % 2 = omega arith in
        let f : suc (suc n) % 2 ≡ n % 2 = omega arith in
        rw (e, f) (go b n)

-- a coefficient of the remainder is the parity of the bits at its places
module _ (f : Rem → Bool) (adds : (r s : Rem) → f (add r s) ≡ f r ⊕ f s) (scales : (b : Bool) (r : Rem) → f (times b r) ≡ b && f r) (none : f (rem []) ≡ false) where
  tapped : (g : Word) (ps : List ℕ) → f (rem (bits_at g ps)) ≡ odd (bits_at g (taps f ps))
  tapped g [] = none
  tapped g (p ∷ ps) =
      ap f (rem-first (g p) (bits_at g ps)) ∙ adds (rem (bits_at g ps)) (times (g p) (power (length (bits_at g ps))))
      ∙ ap₂ ◌⊕◌ (tapped g ps) (scales (g p) (power (length (bits_at g ps))) ∙ ap (λ (n : ℕ). g p && f (power n)) (length-map ps g))
      ∙ go (f (power (length ps)))
    where
      and-true : (b : Bool) → b && true ≡ b
      and-true true = refl
      and-true false = refl

      and-false : (b : Bool) → b && false ≡ false
      and-false true = refl
      and-false false = refl

      go : (c : Bool) → odd (bits_at g (taps f ps)) ⊕ (g p && c) ≡ odd (bits_at g (cond c (p ∷ taps f ps) (taps f ps)))
      go true = ap (λ (b : Bool). odd (bits_at g (taps f ps)) ⊕ b) (and-true (g p)) ∙ sym (odd-first (g p) (bits_at g (taps f ps)))
      go false = ap (λ (b : Bool). odd (bits_at g (taps f ps)) ⊕ b) (and-false (g p)) ∙ xor_false (odd (bits_at g (taps f ps)))

-- so a CRC is right where three parities are odd
pub right-taps : (g : Word) (ps : List ℕ) → right g ps ≡ odd (bits_at g (taps (λ r. r.r2) ps)) && odd (bits_at g (taps (λ r. r.r1) ps)) && odd (bits_at g (taps (λ r. r.r0) ps))
unfolding right
right-taps g ps =
    rw (tapped (λ r. r.r2) (λ r s. refl) (λ b r. refl) refl g ps, tapped (λ r. r.r1) (λ r s. refl) (λ b r. refl) refl g ps, tapped (λ r. r.r0) (λ r s. refl) (λ b r. refl) refl g ps)

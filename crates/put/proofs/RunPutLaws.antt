-- Neighbouring bits put at once: a run of bits inside one byte.
-- Assumes nothing.
use mathlib.Core.Path.{◌≡◌, ap, sym, ◌∙◌}
use mathlib.Core.Bool.{Bool, true, false}
use mathlib.Core.Logic.{by_cases}
use mathlib.Core.List.{List, [], ◌∷◌, map}
use Prim.Native.Nat.{ℕ, suc, ◌+◌, ◌*◌, ◌/◌, ◌%◌, ◌-◌, ◌^◌, ◌<◌, ◌≤◌}
use native.Mathlib.Nat.{mod-lt, mod-eq_of_lt, pow-suc, mul_assoc, mul_comm, add-mul, zero-add}
use borrow.Author.Tests.{lt-ltb}
use native.Mathlib.Decide.{dec_lt}
use native.Mathlib.Omega.{arith}
use lib.Arith.{digits_lt}
use lib.Bits.{bit_and, and_high}
use lib.Dec.{eqb}
use lib.ListN.{length, get_or, set, length-set}
use lib.Pow.{pow_pos, pow-add, shr_lt, shl-shr, shr-shr, shr_le, high, low, split, mod-pow-add, mod-mod-pow}
use lib.Seq.{get_or-set_same, set-get_or, set-set}
use Rattle.bits.specs.Bit.{bit_at, to_n, number, number_from, count, octet_of, bits_from}
use Rattle.bits.proofs.BitLaws.{number_from_lem, rebuilt, octet-whole, octet-bit, byte-bit}
use Rattle.bits.proofs.CountLaws.{length-map-count}
use Rattle.put.specs.Put.{put_run, Shows}
use Rattle.bits.specs.Put.{put_in, put_bit, put_bits}

module _ (x a r v : ℕ) (b : Bool) (fits : a + suc r ≤ 8) where
  abbrev k : ℕ
  k = 7 - a

  abbrev y : ℕ
  y = put_in x (7 - a) (to_n b)

  abbrev m : ℕ
  m = 7 - a - r

  upper : y / 2 ^ (7 - a) ≡ x / 2 ^ (7 - a) / 2 * 2 + to_n b
  upper = high (x / 2 ^ (7 - a) / 2 * 2 + to_n b) (7 - a) (mod-lt x (pow_pos (7 - a)))

  lower : y % 2 ^ (7 - a - r) ≡ x % 2 ^ (7 - a - r)
  lower =
      let e : r + (7 - a - r) ≡ 7 - a = omega arith in
      sym (rw e at (mod-mod-pow y r (7 - a - r)))
      ∙ ap (λ (n : ℕ). n % 2 ^ (7 - a - r)) (low (x / 2 ^ (7 - a) / 2 * 2 + to_n b) (7 - a) (mod-lt x (pow_pos (7 - a))))
      ∙ rw e at (mod-mod-pow x r (7 - a - r))

  half : x / 2 ^ (8 - a) ≡ x / 2 ^ (7 - a) / 2
  half = let e : 7 - a + 1 ≡ 8 - a = omega arith in sym (rw e at (shr-shr x (7 - a) 1))

  twice : 2 ^ (8 - a) ≡ 2 ^ (7 - a) * 2
  twice = let e : suc (7 - a) ≡ 8 - a = omega arith in rw e at (pow-suc 2 (7 - a))

  joined : 2 ^ r * 2 ^ (7 - a - r) ≡ 2 ^ (7 - a)
  joined = let e : r + (7 - a - r) ≡ 7 - a = omega arith in sym (rw e at (pow-add 2 r (7 - a - r)))

  -- one bit, then the others, are all of them at once
  one_then : put_run y (a + 1) r v ≡ put_run x a (suc r) (to_n b * 2 ^ r + v)
  one_then =
      let e : 8 - (a + 1) ≡ 7 - a = omega arith in
      let f : 8 - a - suc r ≡ 7 - a - r = omega arith in
      rw (e, f, upper, lower, half, twice) (sums (x / 2 ^ (7 - a) / 2) (2 ^ (7 - a)) (2 ^ (7 - a - r)) (x % 2 ^ (7 - a - r)) joined)
    where
      sums : (q P M L : ℕ) → 2 ^ r * M ≡ P → (q * 2 + to_n b) * P + v * M + L ≡ q * (P * 2) + (to_n b * 2 ^ r + v) * M + L
      sums q P M L h =
          let e : (q * 2 + to_n b) * P ≡ q * (P * 2) + to_n b * P = add-mul (q * 2) (to_n b) P ∙ ap (λ (n : ℕ). n + to_n b * P) (mul_assoc q 2 P ∙ ap (λ (n : ℕ). q * n) (mul_comm 2 P)) in
          let f : (to_n b * 2 ^ r + v) * M ≡ to_n b * P + v * M = add-mul (to_n b * 2 ^ r) v M ∙ ap (λ (n : ℕ). n + v * M) (mul_assoc (to_n b) (2 ^ r) M ∙ ap (λ (n : ℕ). to_n b * n) h) in
          rw (e, f) (omega arith)

-- a run of bits inside one byte, put one by one or at once
run_put : (bs : List Bool) (s : List ℕ) (i a : ℕ) → a + length bs ≤ 8 → i < length s → put_bits s (8 * i + a) bs ≡ set s i (put_run (get_or s i 0) a (length bs) (number bs))
unfolding put_bits put_bit
run_put [] s i a h l =
    let e : 0 * 2 ^ (8 - a - 0) ≡ 0 = omega arith in
    let f : 8 - a - 0 ≡ 8 - a = omega arith in
    let x = get_or s i 0 in
    let w : x / 2 ^ (8 - a) * 2 ^ (8 - a) + 0 * 2 ^ (8 - a - 0) + x % 2 ^ (8 - a - 0) ≡ x = rw f (omega (arith, split x (8 - a))) in
    sym (ap (set s i) w ∙ set-get_or s i 0)
run_put (b ∷ bs) s i a h l =
    let d : (8 * i + a) / 8 ≡ i = omega arith in
    let m : (8 * i + a) % 8 ≡ a = omega arith in
    let n : 8 * i + a + 1 ≡ 8 * i + (a + 1) = omega arith in
    let x = get_or s i 0 in
    let y = put_in x (7 - a) (to_n b) in
    let inside : i < length (set s i y) = rw (length-set s i y) l in
    let rest : put_bits (set s i y) (8 * i + (a + 1)) bs ≡ set (set s i y) i (put_run (get_or (set s i y) i 0) (a + 1) (length bs) (number bs)) = run_put bs (set s i y) i (a + 1) (omega arith) inside in
    let z : 2 * 0 + to_n b ≡ to_n b = omega arith in
    let whole : number_from (2 * 0 + to_n b) bs ≡ to_n b * 2 ^ length bs + number bs = ap (λ (t : ℕ). number_from t bs) z ∙ number_from_lem bs (to_n b) in
    rw (d, m, n) rest ∙ set-set s i y (put_run (get_or (set s i y) i 0) (a + 1) (length bs) (number bs))
    ∙ ap (λ (t : ℕ). set s i (put_run t (a + 1) (length bs) (number bs))) (get_or-set_same s i y 0 l)
    ∙ ap (set s i) (one_then x a (length bs) (number bs) b (omega arith))
    ∙ ap (λ (t : ℕ). set s i (put_run x a (suc (length bs)) t)) (sym whole)

-- the mask of c bits from bit a on
weight_down : (k : ℕ) → k ≤ 8 → 256 / 2 ^ k ≡ 2 ^ (8 - k)
weight_down k l =
    let e : 8 - k + k ≡ 8 = omega arith in
    ap (λ (n : ℕ). n / 2 ^ k) (rw e at (pow-add 2 (8 - k) k)) ∙ shl-shr (2 ^ (8 - k)) k

pub mask_is : (a c : ℕ) → a + c ≤ 8 → 256 / 2 ^ a - 256 / 2 ^ (a + c) ≡ 2 ^ (8 - a) - 2 ^ (8 - a - c)
mask_is a c fits =
    let e : 8 - (a + c) ≡ 8 - a - c = omega arith in
    rw (weight_down a (omega arith), weight_down (a + c) fits, e)

-- a run put by its mask: the bits that the mask has are taken out of y, and those of x put in
module _ (y a c x : ℕ) (fits : a + c ≤ 8) (hy : y < 256) (hx : x < 256) where
  room : c + (8 - a - c) ≡ 8 - a
  room = omega arith

  under_mask : (z : ℕ) → bit_and z (2 ^ (8 - a) - 2 ^ (8 - a - c)) ≡ z / 2 ^ (8 - a - c) % 2 ^ c * 2 ^ (8 - a - c)
  under_mask z = rw room at (and_high z c (8 - a - c))

  first-bits : x / 2 ^ (8 - c) < 2 ^ c
  first-bits = let e : c + (8 - c) ≡ 8 = omega arith in shr_lt c (8 - c) (rw e hx)

  put_in_lem : bit_and (x / 2 ^ a) (2 ^ (8 - a) - 2 ^ (8 - a - c)) ≡ x / 2 ^ (8 - c) * 2 ^ (8 - a - c)
  put_in_lem =
      let e : a + (8 - a - c) ≡ 8 - c = omega arith in
      under_mask (x / 2 ^ a) ∙ rw (shr-shr x a (8 - a - c), e, mod-eq_of_lt first-bits)

  parts : y ≡ y / 2 ^ (8 - a) * 2 ^ (8 - a) + y / 2 ^ (8 - a - c) % 2 ^ c * 2 ^ (8 - a - c) + y % 2 ^ (8 - a - c)
  parts = omega (arith, split y (8 - a), rw room at (mod-pow-add y c (8 - a - c)))

  pub run_masked : (mask : ℕ) → mask ≡ 2 ^ (8 - a) - 2 ^ (8 - a - c) → y - bit_and y mask + bit_and (x / 2 ^ a) mask ≡ put_run y a c (x / 2 ^ (8 - c))
  run_masked mask e = rw (e, under_mask y, put_in_lem) (omega (arith, parts))

  -- a byte stays a byte
  pub run_lt : put_run y a c (x / 2 ^ (8 - c)) < 256
  run_lt =
      let e : a + (8 - a) ≡ 8 = omega arith in
      let span : 2 ^ c * 2 ^ (8 - a - c) ≡ 2 ^ (8 - a) = rw room at (sym (pow-add 2 c (8 - a - c))) in
      let low_part : x / 2 ^ (8 - c) * 2 ^ (8 - a - c) + y % 2 ^ (8 - a - c) < 2 ^ (8 - a) = rw span at (digits_lt first-bits (mod-lt y (pow_pos (8 - a - c)))) in
      let all : y / 2 ^ (8 - a) * 2 ^ (8 - a) + (x / 2 ^ (8 - c) * 2 ^ (8 - a - c) + y % 2 ^ (8 - a - c)) < 2 ^ a * 2 ^ (8 - a) = digits_lt (shr_lt a (8 - a) (rw e hy)) low_part in
      let whole : 2 ^ a * 2 ^ (8 - a) ≡ 256 = rw e at (sym (pow-add 2 a (8 - a))) in
      omega arith

pub mask_falls : (a c : ℕ) → 256 / 2 ^ (a + c) ≤ 256 / 2 ^ a
mask_falls a c = rw (sym (shr-shr 256 a c)) (shr_le (256 / 2 ^ a) c)

-- the first c bits of a byte as a number
top-number : (g : ℕ → Bool) (a c x : ℕ) → c ≤ 8 → x < 256 → Shows x g a → number (map g (count c a)) ≡ x / 2 ^ (8 - c)
top-number g a c x l h bits =
    let e : 8 - c + c ≡ 8 = omega arith in
    let z : x / 2 ^ (8 - c) / 2 ^ c ≡ 0 = rw e at (shr-shr x (8 - c) c) ∙ omega arith in
    rw z at (rebuilt g c a (x / 2 ^ (8 - c)) (λ j m.
    let f : 8 - c + (c - suc j) ≡ 7 - j = omega arith in
    rw (shr-shr x (8 - c) (c - suc j), f) (bits j (omega arith))))

-- the first c bits of a byte, put inside one byte
pub top-put : (s : List ℕ) (p c x : ℕ) (g : ℕ → Bool) (a : ℕ) → p % 8 + c ≤ 8 → p / 8 < length s → x < 256 → Shows x g a
    → set s (p / 8) (put_run (get_or s (p / 8) 0) (p % 8) c (x / 2 ^ (8 - c))) ≡ put_bits s p (map g (count c a))
top-put s p c x g a l i h bits =
    let n = length-map-count g c a in
    let e : 8 * (p / 8) + p % 8 ≡ p = omega arith in
    let run : put_bits s (8 * (p / 8) + p % 8) (map g (count c a)) ≡ set s (p / 8) (put_run (get_or s (p / 8) 0) (p % 8) (length (map g (count c a))) (number (map g (count c a)))) =
    run_put (map g (count c a)) s (p / 8) (p % 8) (omega arith) i in
    sym (rw (e, n, top-number g a c x (omega arith) h bits) at run)

-- eight bits of two neighbours
pub pair_shows : (o : List ℕ) (i r a b x : ℕ) → r ≤ 8 → b < 256 → x ≡ (a * 256 + b) / 2 ^ r % 256 → get_or o i 0 ≡ a → get_or o (i + 1) 0 ≡ b → Shows x (bit_at o) (8 * (i + 1) - r)
pair_shows o i r a b x l h e ea eb j m =
    by_cases (dec_lt 0 r)
    (λ (some : 0 < r).
    let q : (8 * (i + 1) - r) / 8 ≡ i = omega arith in
    let w : 8 - (8 * (i + 1) - r) % 8 ≡ r = omega arith in
    let is : x ≡ octet_of (bits_from (bit_at o) (8 * (i + 1) - r + 8) (8 * (i + 1) - r)) 0 =
    octet-whole o (8 * (i + 1) - r + 8) (8 * (i + 1) - r) x (rw (q, eb) h) (rw (q, w, ea, eb) e) (omega arith) in
    rw is (octet-bit (bits_from (bit_at o) (8 * (i + 1) - r + 8) (8 * (i + 1) - r)) 0 j m ∙ rw (zero-add j, lt-ltb (8 * (i + 1) - r + j) (8 * (i + 1) - r + 8) (omega arith))))
    (λ (none : ¬ (0 < r)).
    let z : r ≡ 0 = omega arith in
    let f : 8 * (i + 1) - 0 + j ≡ 8 * (i + 1) + j = omega arith in
    let e₀ : x ≡ (a * 256 + b) / 2 ^ 0 % 256 = rw z at e in
    let is : x ≡ get_or o (i + 1) 0 = omega arith in
    rw (is, z, f) (byte-bit o (i + 1) j m))

-- ones show in a byte of ones
pub ones_show : (a : ℕ) → Shows 255 (λ _. true) a
unfolding octet_of
ones_show a j l = octet-bit (λ _. true) 0 j l

pub zeros_show : (a : ℕ) → Shows 0 (λ _. false) a
unfolding octet_of
zeros_show a j l = octet-bit (λ _. false) 0 j l

-- a byte by itself
pub byte_alone : (s : List ℕ) (i k : ℕ) → k < 8 → bit_at (get_or s i 0 ∷ []) k ≡ bit_at s (8 * i + k)
byte_alone s i k l =
    let a : k / 8 ≡ 0 = omega arith in
    let b : k % 8 ≡ k = omega arith in
    let d : (8 * i + k) / 8 ≡ i = omega arith in
    let e : (8 * i + k) % 8 ≡ k = omega arith in
    rw (d, e) (ap (λ (n : ℕ). eqb (get_or (get_or s i 0 ∷ []) n 0 / 2 ^ (7 - k % 8) % 2) 1) a ∙ rw b)

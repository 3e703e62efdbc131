-- Eight zeros and a one in two bytes: they begin at one place of the first byte at most, which the leading zeros of the second tell.
-- Assumes nothing.
use mathlib.Core.Path.{◌≡◌, sym, ◌∙◌, ap, subst}
use mathlib.Core.Logic.{◌⊎◌, inl, inr, by_cases}
use mathlib.Core.Bool.{Bool}
use mathlib.Core.List.{List}
use Prim.Native.Nat.{ℕ, zero, suc, ◌+◌, ◌*◌, ◌-◌, ◌/◌, ◌%◌, ◌^◌, ◌<◌, ◌≤◌}
use native.Mathlib.Omega.{arith}
use lib.Dec.{eqb}
use Rattle.std.proofs.Common.{Fits, w8}
use native.Mathlib.Nat.{zero-div, zero-mod, zero-mul, div-eq_of_lt, div-eq_of_lt-le, pow-suc, mod-lt, add-zero, mul-mod_left}
use native.Mathlib.Decide.{dec_lt}
use lib.Count.{count_leading_zeros, leading_unique, leading_length}
use lib.ListN.{get_or}
use lib.Pow.{pow_pos, pow-lt, split, shr-shr, shl-shr, field, mod-pow-add, mod-mod-pow}
use Rattle.bits.specs.Bit.{bit_at, to_n}
use Rattle.sync.specs.Sync.{Synced, SyncedIn, SyncFrom}
use Rattle.bits.proofs.BitLaws.{to_n-one, byte-bit}

-- m low bits that are zero
zeros_low : (m a : ℕ) → ((j : ℕ) → j < m → a / 2 ^ j % 2 ≡ 0) → a % 2 ^ m ≡ 0
zeros_low zero a h = omega arith
zeros_low (suc m) a h =
    let e : 1 + m ≡ suc m = omega arith in
    let top : a / 2 ^ m % 2 ^ 1 ≡ 0 = h m (omega arith) in
    let rest : a % 2 ^ m ≡ 0 = zeros_low m a (λ j l. h j (omega arith)) in
    rw e at (mod-pow-add a 1 m) ∙ rw (top, rest) (omega arith)

-- each of them
zero_low : (m a j : ℕ) → j < m → a % 2 ^ m ≡ 0 → a / 2 ^ j % 2 ≡ 0
zero_low m a j l h =
    let e : m - suc j + (1 + j) ≡ m = omega arith in
    let low : a % 2 ^ (1 + j) ≡ 0 = sym (rw (e, h) at (mod-mod-pow a (m - suc j) (1 + j))) ∙ zero-mod (2 ^ (1 + j)) in
    sym (rw low at (field a 1 j)) ∙ zero-div (2 ^ j)

-- k high bits of a byte that are zero
zeros-top : (k b : ℕ) → b < 256 → k ≤ 8 → ((j : ℕ) → j < k → b / 2 ^ (7 - j) % 2 ≡ 0) → b / 2 ^ (8 - k) ≡ 0
zeros-top zero b hb l h = omega arith
zeros-top (suc k) b hb l h =
    let e : 8 - suc k ≡ 7 - k = omega arith in
    let f : 7 - k + 1 ≡ 8 - k = omega arith in
    let up : b / 2 ^ (7 - k) / 2 ^ 1 ≡ 0 = rw f at (shr-shr b (7 - k) 1) ∙ zeros-top k b hb (omega arith) (λ j m. h j (omega arith)) in
    let here : b / 2 ^ (7 - k) % 2 ≡ 0 = h k (omega arith) in
    rw e (omega arith)

one_below : (k b : ℕ) → b < 256 → k < 8 → ((j : ℕ) → j < k → b / 2 ^ (7 - j) % 2 ≡ 0) → b / 2 ^ (7 - k) % 2 ≡ 1 → b / 2 ^ (7 - k) ≡ 1
one_below k b hb l h one =
    let f : 7 - k + 1 ≡ 8 - k = omega arith in
    let up : b / 2 ^ (7 - k) / 2 ^ 1 ≡ 0 = rw f at (shr-shr b (7 - k) 1) ∙ zeros-top k b hb (omega arith) h in
    omega arith

-- so much of the two bytes is told by eight zeros and a one
module _ (s : List ℕ) (fits : (k : ℕ) → Fits w8 (get_or s k 0)) (i k : ℕ) (l : k < 8) (h : Synced (bit_at s) (8 * i + k)) where
  zero_bit : (m j : ℕ) → j < 8 → (8 * m + j < 8 * i + k → ⊥) → 8 * m + j < 8 * i + k + 8 → get_or s m 0 / 2 ^ (7 - j) % 2 ≡ 0
  zero_bit m j hj a b =
      let e : 8 * i + k + (8 * m + j - (8 * i + k)) ≡ 8 * m + j = omega arith in
      byte-bit s m j hj ∙ ap to_n (rw e at (h.zeros (8 * m + j - (8 * i + k)) (omega arith)))

  first_byte : get_or s i 0 % 2 ^ (8 - k) ≡ 0
  first_byte = zeros_low (8 - k) (get_or s i 0) (λ j m. let e : 7 - (7 - j) ≡ j = omega arith in rw e at (zero_bit i (7 - j) (omega arith) (λ n. omega arith) (omega arith)))

  second-byte : get_or s (i + 1) 0 / 2 ^ (7 - k) ≡ 1
  second-byte =
      let e : 8 * i + k + 8 ≡ 8 * (i + 1) + k = omega arith in
      one_below k (get_or s (i + 1) 0) (fits (i + 1)).fits l (λ j m. zero_bit (i + 1) j (omega arith) (λ n. omega arith) (omega arith))
      (byte-bit s (i + 1) k l ∙ ap to_n (rw e at h.one))

  in_bytes : SyncedIn (get_or s i 0) (get_or s (i + 1) 0) k
  in_bytes = (first_byte, second-byte)

-- and tells them
module _ (s : List ℕ) (i k : ℕ) (l : k < 8) (h : SyncedIn (get_or s i 0) (get_or s (i + 1) 0) k) where
  bit_is : (p m j x : ℕ) → 8 * m + j ≡ p → j < 8 → get_or s m 0 / 2 ^ (7 - j) % 2 ≡ x → bit_at s p ≡ eqb x 1
  bit_is p m j x e hj is = rw (← e) (sym (to_n-one (bit_at s (8 * m + j))) ∙ ap (λ (n : ℕ). eqb n 1) (sym (byte-bit s m j hj) ∙ is))

  zero-behind : (j : ℕ) → j < k → get_or s (i + 1) 0 / 2 ^ (7 - j) % 2 ≡ 0
  zero-behind j m =
      let e : 7 - k + (k - j) ≡ 7 - j = omega arith in
      let up : get_or s (i + 1) 0 / 2 ^ (7 - j) ≡ 0 = sym (rw (e, h.1) at (shr-shr (get_or s (i + 1) 0) (7 - k) (k - j))) ∙ div-eq_of_lt (pow-lt {i = 0} {j = k - j} (omega arith)) in
      rw up

  pub bytes-synced : Synced (bit_at s) (8 * i + k)
  bytes-synced =
      record {
        zeros =
            λ j m.
            by_cases (dec_lt (k + j) 8)
            (λ (n : k + j < 8). bit_is (8 * i + k + j) i (k + j) 0 (omega arith) n (zero_low (8 - k) (get_or s i 0) (7 - (k + j)) (omega arith) h.0))
            (λ (n : ¬ (k + j < 8)). bit_is (8 * i + k + j) (i + 1) (k + j - 8) 0 (omega arith) (omega arith) (zero-behind (k + j - 8) (omega arith)));
        one = bit_is (8 * i + k + 8) (i + 1) k 1 (omega arith) l (rw h.1);
      }

-- an odd byte has none of them
pub odd-none : (a k : ℕ) → k < 8 → a % 2 ≡ 1 → a % 2 ^ (8 - k) ≡ 0 → ⊥
odd-none a k l odd h =
    let e : 7 - k + 1 ≡ 8 - k = omega arith in
    let f : a % 2 ^ (8 - k) % 2 ^ 1 ≡ a % 2 ^ 1 = rw e at (mod-mod-pow a (7 - k) 1) in
    let z : 0 % 2 ≡ a % 2 = rw h at f in
    omega arith

-- the place is the number of the second byte's leading zeros
pub place_told : (b k : ℕ) → k < 8 → b / 2 ^ (7 - k) ≡ 1 → count_leading_zeros 8 b ≡ k
place_told b k l h =
    let parts : b / 2 ^ (7 - k) * 2 ^ (7 - k) + b % 2 ^ (7 - k) ≡ b = split b (7 - k) in
    let parts' : 1 * 2 ^ (7 - k) + b % 2 ^ (7 - k) ≡ b = rw h at parts in
    let small : b % 2 ^ (7 - k) < 2 ^ (7 - k) = mod-lt b (pow_pos (7 - k)) in
    let e : suc (7 - k) ≡ 8 - k = omega arith in
    let twice : 2 ^ (8 - k) ≡ 2 ^ (7 - k) * 2 = rw e at (pow-suc 2 (7 - k)) in
    sym (leading_unique 8 b k (8 - k) (omega arith) (omega arith) (omega arith))

-- which in turn tell of its one
pub told_place : (b k : ℕ) → b < 256 → k < 8 → count_leading_zeros 8 b ≡ k → b / 2 ^ (7 - k) ≡ 1
told_place b k hb l h =
    let t = leading_length 8 b (omega arith) in
    let e : t.0 ≡ suc (7 - k) = omega (arith, t.1) in
    let below : b < 2 ^ suc (7 - k) = rw e at t.2 in
    let above : 2 ^ suc (7 - k) ≤ 2 * b + 1 = rw e at t.3 in
    let twice : 2 ^ suc (7 - k) ≡ 2 ^ (7 - k) * 2 = pow-suc 2 (7 - k) in
    div-eq_of_lt-le {k = 1} (2 ^ (7 - k)) (omega arith) (omega arith)

-- the first byte shifted by it has lost what stands before the place
shifted : (a k : ℕ) → k ≤ 8 → a * 2 ^ k % 2 ^ 32 % 256 ≡ a % 2 ^ (8 - k) * 2 ^ k
shifted a k l =
    let e : 8 - k + k ≡ 8 = omega arith in
    mod-mod-pow (a * 2 ^ k) 24 8 ∙ rw (e, shl-shr a k, mul-mod_left a (2 ^ k), add-zero) at (mod-pow-add (a * 2 ^ k) (8 - k) k)

pub shifted_out : (a k : ℕ) → k < 8 → a % 2 ^ (8 - k) ≡ 0 → a * 2 ^ k % 2 ^ 32 % 256 ≡ 0
shifted_out a k l h = shifted a k (omega arith) ∙ rw h (zero-mul (2 ^ k))

pub out_shifted : (a k : ℕ) → k < 8 → a * 2 ^ k % 2 ^ 32 % 256 ≡ 0 → a % 2 ^ (8 - k) ≡ 0
out_shifted a k l h =
    let z : a % 2 ^ (8 - k) * 2 ^ k ≡ 0 = sym (shifted a k (omega arith)) ∙ h in
    sym (shl-shr (a % 2 ^ (8 - k)) k) ∙ rw z (zero-div (2 ^ k))

-- they stand nowhere from q on before p
abbrev pub Before : List ℕ → ℕ → ℕ → Type 0
Before s q p = (r : ℕ) → q ≤ r → r < p → Synced (bit_at s) r → ⊥

-- nor before place m of byte i, where each place of that byte from q on that has them is m or behind it
pub byte_passed : (s : List ℕ) → ((k : ℕ) → Fits w8 (get_or s k 0)) → (i q m : ℕ) → m ≤ 8
    → ((j : ℕ) → j < 8 → SyncedIn (get_or s i 0) (get_or s (i + 1) 0) j → q ≤ 8 * i + j → m ≤ j) → Before s q (8 * i) → Before s q (8 * i + m)
byte_passed s fits i q m l told so_far r a b h =
    by_cases (dec_lt r (8 * i))
    (λ (n : r < 8 * i). so_far r a n h)
    (λ (n : ¬ (r < 8 * i)).
    let e : r ≡ 8 * i + (r - 8 * i) = omega arith in
    let h' : Synced (bit_at s) (8 * i + (r - 8 * i)) = subst (Synced (bit_at s)) e h in
    omega (arith, told (r - 8 * i) (omega arith) (in_bytes s fits i (r - 8 * i) (omega arith) h') (omega arith)))

-- nor in byte i, where it has them at no place from q on
pub byte_none : (s : List ℕ) → ((k : ℕ) → Fits w8 (get_or s k 0)) → (i q : ℕ)
    → ((j : ℕ) → j < 8 → SyncedIn (get_or s i 0) (get_or s (i + 1) 0) j → q ≤ 8 * i + j → ⊥) → Before s q (8 * i) → Before s q (8 * (i + 1))
byte_none s fits i q out so_far =
    let next : 8 * (i + 1) ≡ 8 * i + 8 = omega arith in
    rw next (byte_passed s fits i q 8 (omega arith) (λ j l h from. absurd (out j l h from)) so_far)

sync-short : (f : ℕ → Bool) (q last r t : ℕ) → SyncFrom f q last r → SyncFrom f q last t → r < t → ⊥
sync-short f q last r t a b l = go a.stops
  where
    go : (r ≡ 8 * (last / 8 + 1)) ⊎ Synced f r → ⊥
    go (inl e) = omega (arith, b.within)
    go (inr h) = b.none r a.from l h

-- the first place is one, so no second answer fits
pub sync-one : (f : ℕ → Bool) (q last r t : ℕ) → SyncFrom f q last r → SyncFrom f q last t → r ≡ t
sync-one f q last r t a b =
    elim (dec_lt r t) [
      | yes l ↦ absurd (sync-short f q last r t a b l)
      | no m ↦ elim (dec_lt t r) [ yes l ↦ absurd (sync-short f q last t r b a l) | no n ↦ omega arith ]
    ]

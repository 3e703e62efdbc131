-- The twenty octets that three words have, and what else has those words.
-- Assumes nothing.
use mathlib.Core.Path.{◌≡◌, refl, sym, ◌∙◌, ap, ap₂}
use mathlib.Core.Bool.{true, beq}
use mathlib.Core.List.{List, [], ◌∷◌, ◌++◌, map}
use Prim.Native.Nat.{ℕ, zero, suc, ◌+◌, ◌*◌, ◌%◌, ◌^◌, ◌<◌}
use native.Mathlib.Nat.{mod-lt, mod-eq_of_lt}
use native.Mathlib.Omega.{arith}
use borrow.Author.Tests.{eq-eqb}
use lib.ListN.{length, get_or, drop}
use Rattle.std.proofs.Math.Seq.{drop-cons}
use Rattle.std.proofs.lemmas.List.{drop_all}
use Rattle.std.proofs.lemmas.Nat.{be_bytes_4, be_bytes_8, from_be_bytes-to_be_bytes_4, from_be_bytes-to_be_bytes_8}
use Rattle.std.specs.Int.{w32, w64, byte_at, bytes_high_first, from_be_bytes}
use Rattle.bits.specs.Bit.{bit_at, count}
use Rattle.bits.proofs.BitLaws.{number_lt}
use Rattle.channel.specs.Coding.{Word, all}
use Rattle.channel.proofs.BoolLaws.{all-at, and_both, elem-count}
use Rattle.word.specs.declared.Words.{Words}
use Rattle.word.specs.Words.{field_at, octets_in, Holds}
use Rattle.word.proofs.MaskLaws.{same_bits, all_windows, beq_same, holds_octets}

-- n octets from a on, one by one
abbrev part : List ℕ → ℕ → ℕ → List ℕ
part o n a = map (λ k. get_or o k 0) (count n a)

part_drop : (o : List ℕ) (n a : ℕ) → a + n ≡ length o → drop a o ≡ part o n a
part_drop o zero a e = drop_all a o (omega arith)
part_drop o (suc n) a e = drop-cons o a 0 (omega arith) ∙ ap (λ (b : List ℕ). get_or o a 0 ∷ b) (part_drop o n (suc a) (omega arith))

part_small : (o : List ℕ) → ((k : ℕ) → get_or o k 0 < 256) → (n a i : ℕ) → get_or (part o n a) i 0 < 256
part_small o small zero a i = omega arith
part_small o small (suc n) a zero = small a
part_small o small (suc n) a (suc i) = part_small o small n (suc a) i

-- the words that the code makes of twenty octets have these
pub octets_whole : (o : List ℕ) (w : Words) → length o ≡ 20 → ((k : ℕ) → get_or o k 0 < 256) → w.a ≡ from_be_bytes w64 (part o 8 0) → w.b ≡ from_be_bytes w64 (part o 8 8) → w.c ≡ from_be_bytes w32 (part o 4 16)
    → octets_in w ≡ o
unfolding octets_in
octets_whole o w long small a b c =
    ap₂ (λ (x y : List ℕ). x ++ y) (be_bytes_8 (part o 8 0) w.a refl (part_small o small 8 0) a)
    (ap₂ (λ (x y : List ℕ). x ++ y) (be_bytes_8 (part o 8 8) w.b refl (part_small o small 8 8) b) (be_bytes_4 (part o 4 16) w.c refl (part_small o small 4 16) c))
    ∙ sym (part_drop o 20 0 (sym long))

-- every octet of a number is below 256
byte_small : (i n : ℕ) → byte_at i n < 256
byte_small zero n = omega arith
byte_small (suc i) n = mod-lt _ (omega arith)

bytes_small : (k n i : ℕ) → get_or (bytes_high_first k n) i 0 < 256
bytes_small zero n i = omega arith
bytes_small (suc k) n zero = byte_small k n
bytes_small (suc k) n (suc i) = bytes_small k n i

both_small : (xs ys : List ℕ) → ((i : ℕ) → get_or xs i 0 < 256) → ((i : ℕ) → get_or ys i 0 < 256) → (i : ℕ) → get_or (xs ++ ys) i 0 < 256
both_small [] ys h k i = k i
both_small (x ∷ xs) ys h k zero = h 0
both_small (x ∷ xs) ys h k (suc i) = both_small xs ys (λ j. h (suc j)) k i

-- four bytes of a number are those of its low 32 bits
low_bytes : (n : ℕ) → bytes_high_first 4 n ≡ bytes_high_first 4 (n % 2 ^ 32)
low_bytes n =
    let e : byte_at 3 n ≡ byte_at 3 (n % 2 ^ 32) = omega arith in
    let f : byte_at 2 n ≡ byte_at 2 (n % 2 ^ 32) = omega arith in
    let g : byte_at 1 n ≡ byte_at 1 (n % 2 ^ 32) = omega arith in
    let h : byte_at 0 n ≡ byte_at 0 (n % 2 ^ 32) = omega arith in
    rw (e, f, g, h)

-- the octets of some words: each is below 256, and the words are those of their bits
module _ (w : Words) where
  pub octet_small : (i : ℕ) → get_or (octets_in w) i 0 < 256
  unfolding octets_in
  octet_small = both_small (bytes_high_first 8 w.a) (bytes_high_first 8 w.b ++ bytes_high_first 4 w.c) (bytes_small 8 w.a) (both_small (bytes_high_first 8 w.b) (bytes_high_first 4 w.c) (bytes_small 8 w.b) (bytes_small 4 w.c))

  eight : (b0 b1 b2 b3 b4 b5 b6 b7 : ℕ) → from_be_bytes w64 (b0 ∷ b1 ∷ b2 ∷ b3 ∷ b4 ∷ b5 ∷ b6 ∷ b7 ∷ [])
      ≡ (((((((0 * 256 + b0) * 256 + b1) * 256 + b2) * 256 + b3) * 256 + b4) * 256 + b5) * 256 + b6) * 256 + b7
  eight b0 b1 b2 b3 b4 b5 b6 b7 = omega arith

  four : (b0 b1 b2 b3 : ℕ) → from_be_bytes w32 (b0 ∷ b1 ∷ b2 ∷ b3 ∷ []) ≡ (((0 * 256 + b0) * 256 + b1) * 256 + b2) * 256 + b3
  four b0 b1 b2 b3 = omega arith

  module _ (a_fits : w.a < 2 ^ 64) (b_fits : w.b < 2 ^ 64) where
    pub held : Holds (bit_at (octets_in w)) w.a w.b (w.c % 2 ^ 32)
    unfolding octets_in
    held =
        holds_octets (octets_in w) octet_small w.a w.b (w.c % 2 ^ 32)
        (sym (from_be_bytes-to_be_bytes_8 w.a a_fits) ∙ eight _ _ _ _ _ _ _ _)
        (sym (from_be_bytes-to_be_bytes_8 w.b b_fits) ∙ eight _ _ _ _ _ _ _ _)
        (sym (from_be_bytes-to_be_bytes_4 (w.c % 2 ^ 32) (mod-lt w.c (omega arith))) ∙ ap (from_be_bytes w32) (sym (low_bytes w.c)) ∙ four _ _ _ _)

-- so what has some octets holds them
pub held_octets : (o : List ℕ) (w : Words) → w.a < 2 ^ 64 → w.b < 2 ^ 64 → w.c < 2 ^ 32 → octets_in w ≡ o → Holds (bit_at o) w.a w.b w.c
held_octets o w a b c e = rw (e, mod-eq_of_lt c) at (held w a b)

-- the third word of a frame has 32 bits
pub held_low : (g : Word) (a b c : ℕ) → Holds g a b c → Holds g a b (c % 2 ^ 32)
unfolding field_at
held_low g a b c h =
    let low : c < 2 ^ 32 = rw h.third (number_lt (map g (count 32 128))) in
    rw (mod-eq_of_lt low) h

-- of two words with the same three numbers, the first 160 bits are the same
same_window : (g h : Word) (k p : ℕ) → field_at g k p ≡ field_at h k p → all (λ i. beq (g i) (h i)) (count k p) ≡ true
unfolding field_at
same_window g h k p e = sym (same_bits (count k p) g h) ∙ eq-eqb _ _ e

held_one : (g h : Word) (a b c : ℕ) → Holds g a b c → Holds h a b c → (i : ℕ) → i < 160 → g i ≡ h i
held_one g h a b c p q i l =
    beq_same (g i) (h i)
    (all-at (λ i. beq (g i) (h i)) (count 160 0) i (elem-count i 160 0 (omega arith) (omega arith))
    (sym (all_windows (λ i. beq (g i) (h i)))
    ∙ and_both _ _ (same_window g h 64 0 (sym p.first ∙ q.first))
    (and_both _ _ (same_window g h 64 64 (sym p.second ∙ q.second)) (same_window g h 32 128 (sym p.third ∙ q.third)))))

-- whatever octets hold the words of a frame, their first 160 bits are those of the octets that the words have
pub held_bits : (o : List ℕ) (w : Words) → w.a < 2 ^ 64 → w.b < 2 ^ 64 → Holds (bit_at o) w.a w.b w.c → (i : ℕ) → i < 160 → bit_at o i ≡ bit_at (octets_in w) i
held_bits o w a b h = held_one (bit_at o) (bit_at (octets_in w)) w.a w.b (w.c % 2 ^ 32) (held_low (bit_at o) w.a w.b w.c h) (held w a b)

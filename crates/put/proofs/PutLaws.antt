-- What each bit is after bits were put.
-- Assumes nothing.
use mathlib.Core.Path.{◌≡◌, refl, ap, sym, subst, ◌∙◌}
use mathlib.Core.Logic.{by_cases}
use mathlib.Core.Bool.{Bool, true, false}
use mathlib.Core.List.{List, [], ◌∷◌, ◌++◌, map}
use Prim.Native.Nat.{ℕ, zero, suc, ◌+◌, ◌*◌, ◌/◌, ◌%◌, ◌-◌, ◌^◌, ◌<◌, ◌≤◌}
use native.Mathlib.Nat.{mod-lt, add-zero, zero-add}
use native.Mathlib.Decide.{ℕ_discrete, dec_lt}
use native.Mathlib.Omega.{arith}
use lib.Dec.{eqb}
use lib.ListN.{length, get_or, set, replicate, length-set, length-replicate}
use lib.Pow.{pow_pos, shr-shr, high, low}
use lib.Seq.{get_or-set_same, get_or-set_other}
use Rattle.bits.specs.Bit.{bit_at, to_n, count}
use Rattle.std.proofs.lemmas.List.{get_or-replicate}
use Rattle.bits.proofs.CountLaws.{length-map-count, get_or-map-count}
use Rattle.bits.proofs.BitLaws.{to_n_lt, to_n-one, low_bit}
use Rattle.bits.specs.Put.{put_in, put_bit, put_bits}

module _ (x k b : ℕ) (hb : b < 2) where
  high_part : put_in x k b / 2 ^ k ≡ x / 2 ^ k / 2 * 2 + b
  high_part = high (x / 2 ^ k / 2 * 2 + b) k (mod-lt x (pow_pos k))

  low_part : put_in x k b % 2 ^ k ≡ x % 2 ^ k
  low_part = low (x / 2 ^ k / 2 * 2 + b) k (mod-lt x (pow_pos k))

  -- the bit put
  pub put_same : put_in x k b / 2 ^ k % 2 ≡ b
  put_same = rw high_part (omega arith)

  put-above : (d : ℕ) → put_in x k b / 2 ^ (k + (1 + d)) ≡ x / 2 ^ (k + (1 + d))
  put-above d =
      let e : (x / 2 ^ k / 2 * 2 + b) / 2 ≡ x / 2 ^ k / 2 = omega arith in
      sym (shr-shr (put_in x k b) k (1 + d)) ∙ ap (λ n. n / 2 ^ (1 + d)) high_part
      ∙ sym (shr-shr (x / 2 ^ k / 2 * 2 + b) 1 d) ∙ ap (λ n. n / 2 ^ d) e
      ∙ shr-shr (x / 2 ^ k) 1 d ∙ shr-shr x k (1 + d)

put-below : (x d j b : ℕ) → b < 2 → put_in x (d + (1 + j)) b / 2 ^ j % 2 ≡ x / 2 ^ j % 2
put-below x d j b hb =
    sym (low_bit (put_in x (d + (1 + j)) b) d j) ∙ ap (λ m. m / 2 ^ j % 2) (low_part x (d + (1 + j)) b hb) ∙ low_bit x d j

-- the other bits of a byte
pub put-apart : (x k b j : ℕ) → b < 2 → (j ≡ k → ⊥) → put_in x k b / 2 ^ j % 2 ≡ x / 2 ^ j % 2
put-apart x k b j hb ne =
    by_cases (dec_lt j k)
    (λ (l : j < k).
    let e : k - (1 + j) + (1 + j) ≡ k = omega arith in
    rw e at (put-below x (k - (1 + j)) j b hb))
    (λ (g : ¬ (j < k)).
    let e : k + (1 + (j - (1 + k))) ≡ j = omega arith in
    ap (λ n. n % 2) (rw e at (put-above x k b hb (j - (1 + k)))))

-- the bit that was put
pub put-at : (s : List ℕ) (p : ℕ) (b : Bool) → p < 8 * length s → bit_at (put_bit s p b) p ≡ b
unfolding put_bit
put-at s p b h =
    let i : p / 8 < length s = omega arith in
    rw (get_or-set_same s (p / 8) (put_in (get_or s (p / 8) 0) (7 - p % 8) (to_n b)) 0 i, put_same (get_or s (p / 8) 0) (7 - p % 8) (to_n b) (to_n_lt b)) (to_n-one b)

off_digit : (s : List ℕ) (p q v : ℕ) → p / 8 < length s → ((7 - q % 8 ≡ 7 - p % 8 → ⊥) → v / 2 ^ (7 - q % 8) % 2 ≡ get_or s (p / 8) 0 / 2 ^ (7 - q % 8) % 2) → (q ≡ p → ⊥)
    → get_or (set s (p / 8) v) (q / 8) 0 / 2 ^ (7 - q % 8) % 2 ≡ get_or s (q / 8) 0 / 2 ^ (7 - q % 8) % 2
off_digit s p q v i same ne =
    by_cases (ℕ_discrete (q / 8) (p / 8))
    (λ (e : q / 8 ≡ p / 8). rw (e, get_or-set_same s (p / 8) v 0 i) (same (λ (t : 7 - q % 8 ≡ 7 - p % 8). ne (omega arith))))
    (λ d. rw (get_or-set_other s (p / 8) (q / 8) v 0 d))

-- and every other
pub put_off : (s : List ℕ) (p : ℕ) (b : Bool) (q : ℕ) → p < 8 * length s → (q ≡ p → ⊥) → bit_at (put_bit s p b) q ≡ bit_at s q
unfolding put_bit
put_off s p b q h ne =
    ap (λ (n : ℕ). eqb n 1)
    (off_digit s p q (put_in (get_or s (p / 8) 0) (7 - p % 8) (to_n b)) (omega arith) (put-apart (get_or s (p / 8) 0) (7 - p % 8) (to_n b) (7 - q % 8) (to_n_lt b)) ne)

pub length-put : (s : List ℕ) (p : ℕ) (b : Bool) → length (put_bit s p b) ≡ length s
unfolding put_bit
length-put s p b = simp length-set

pub length_puts : (bs : List Bool) (s : List ℕ) (p : ℕ) → length (put_bits s p bs) ≡ length s
unfolding put_bits
length_puts [] s p = refl
length_puts (b ∷ bs) s p = length_puts bs (put_bit s p b) (p + 1) ∙ length-put s p b

-- bits put behind others
pub puts_append : (bs cs : List Bool) (s : List ℕ) (p : ℕ) → put_bits s p (bs ++ cs) ≡ put_bits (put_bits s p bs) (p + length bs) cs
unfolding put_bits
puts_append [] cs s p = rw (add-zero p)
puts_append (b ∷ bs) cs s p =
    let e : p + 1 + length bs ≡ p + suc (length bs) = omega arith in
    puts_append bs cs (put_bit s p b) (p + 1) ∙ ap (λ (q : ℕ). put_bits (put_bits (put_bit s p b) (p + 1) bs) q cs) e

-- the bits of a body and of a tail
pub body-length : (g : ℕ → Bool) (k : ℕ) → length (map g (count k 0)) ≡ k
body-length g k = length-map-count g k 0

pub body-bit : (g : ℕ → Bool) (k i : ℕ) → i < k → get_or (map g (count k 0)) i false ≡ g i
body-bit g k i h = get_or-map-count g k 0 i false h ∙ ap g (zero-add i)

pub tail-bit : (t i : ℕ) → i < t → get_or (replicate t true) i false ≡ true
tail-bit t i h = get_or-replicate t i true false h

pub tail-length : (t : ℕ) → length (replicate {A = Bool} t true) ≡ t
tail-length t = length-replicate t true

-- every bit after: those put, and the others as they were
pub puts_before : (bs : List Bool) (s : List ℕ) (p r : ℕ) → p + length bs ≤ 8 * length s → r < p → bit_at (put_bits s p bs) r ≡ bit_at s r
unfolding put_bits
puts_before [] s p r h l = refl
puts_before (b ∷ bs) s p r h l =
    puts_before bs (put_bit s p b) (p + 1) r (rw (length-put s p b) (omega arith)) (omega arith) ∙ put_off s p b r (omega arith) (λ e. absurd (before r p l e))
  where
    before : (r p : ℕ) → r < p → r ≡ p → ⊥
    before r p l e = omega arith

pub puts_inside : (bs : List Bool) (s : List ℕ) (p k : ℕ) → p + length bs ≤ 8 * length s → k < length bs → bit_at (put_bits s p bs) (p + k) ≡ get_or bs k false
unfolding put_bits
puts_inside [] s p k h l = absurd (omega arith)
puts_inside (b ∷ bs) s p zero h l =
    rw (add-zero p) (puts_before bs (put_bit s p b) (p + 1) p (rw (length-put s p b) (omega arith)) (omega arith) ∙ put-at s p b (omega arith))
puts_inside (b ∷ bs) s p (suc k) h l =
    let e : p + suc k ≡ p + 1 + k = omega arith in
    rw e (puts_inside bs (put_bit s p b) (p + 1) k (rw (length-put s p b) (omega arith)) (omega arith))

pub puts_past : (bs : List Bool) (s : List ℕ) (p r : ℕ) → p + length bs ≤ 8 * length s → p + length bs ≤ r → bit_at (put_bits s p bs) r ≡ bit_at s r
unfolding put_bits
puts_past [] s p r h l = refl
puts_past (b ∷ bs) s p r h l =
    puts_past bs (put_bit s p b) (p + 1) r (rw (length-put s p b) (omega arith)) (omega arith) ∙ put_off s p b r (omega arith) (λ e. absurd (past r p (length bs) l e))
  where
    past : (r p n : ℕ) → p + suc n ≤ r → r ≡ p → ⊥
    past r p n l e = omega arith

-- a word's own bit put where it stands: wherever the bytes had the word's bits they have them still
pub own_kept : (g : ℕ → Bool) (s : List ℕ) (p : ℕ) (b : Bool) (q : ℕ) → p < 8 * length s → b ≡ g p → bit_at s q ≡ g q → bit_at (put_bit s p b) q ≡ g q
own_kept g s p b q h own e =
    by_cases (ℕ_discrete q p)
    (λ (d : q ≡ p). subst (λ (i : ℕ). bit_at (put_bit s p b) i ≡ g i) (sym d) (put-at s p b h ∙ own))
    (λ (d : ¬ (q ≡ p)). put_off s p b q h d ∙ e)

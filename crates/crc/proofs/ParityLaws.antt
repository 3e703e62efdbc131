-- Masks made place by place: turning a bit of a mask turns the parity where that bit is one, and the masks of a list grow from its end.
-- Assumes nothing.
use mathlib.Core.Path.{◌≡◌, refl, sym, ◌∙◌, ap, ap₂}
use mathlib.Core.Bool.{Bool, true, false, cond}
use mathlib.Core.List.{List, [], ◌∷◌, ◌++◌}
use Prim.Native.Nat.{ℕ, zero, suc, ◌+◌, ◌*◌, ◌-◌, ◌/◌, ◌%◌, ◌^◌, ◌<◌, ◌≤◌, min}
use native.Mathlib.Nat.{zero-add, zero-mul, one-mul}
use native.Mathlib.Omega.{arith}
use Rattle.std.proofs.Math.Seq.{get_or-append_seam}
use lib.Bits.{bit_and, bit_xor, and_step, xor_step, xor_zero_r, and_zero_r, differ, shifted_half, shifted_even}
use lib.Count as Count
use lib.ListN.{length, get_or}
use Rattle.std.proofs.Common.{append_assoc, append-nil, length-append}
use lib.Pow.{shr-shr}
use Rattle.bits.specs.Bit.{to_n, number}
use Rattle.bits.proofs.BitLaws.{to_n_lt}
use Rattle.channel.specs.Poly.{◌⊕◌, Rem}
use Rattle.channel.specs.Coding.{Word, bits_at, ones}
use Rattle.channel.specs.Crc.{push}
use Rattle.fields.specs.Below.{Below}
use Rattle.word.specs.declared.Words.{Words}
use Rattle.word.specs.Words.{field_at}
use Rattle.crc.specs.declared.Taps.{Taps}
use Rattle.word.proofs.FieldLaws.{shl_one, field_in}
use Rattle.crc.specs.Taps.{power, taps, ParityOf, MasksOf}
use Rattle.crc.proofs.TapLaws.{power-next}

-- the ones under a mask, by the last digit
and-ones : (w m : ℕ) → Count.ones (bit_and w m) ≡ min (w % 2) (m % 2) + Count.ones (bit_and (w / 2) (m / 2))
and-ones w m = ap Count.ones (and_step w m) ∙ go (bit_and (w / 2) (m / 2)) (min (w % 2) (m % 2)) (small (w % 2) (m % 2) (omega arith))
  where
    small : (x y : ℕ) → x < 2 → min x y < 2
    small x y h = omega arith

    go : (a d : ℕ) → d < 2 → Count.ones (a * 2 + d) ≡ d + Count.ones a
    go a d h =
        let e : (a * 2 + d) % 2 ≡ d = omega arith in
        let f : (a * 2 + d) / 2 ≡ a = omega arith in
        Count.ones_step (a * 2 + d) ∙ rw (e, f)

-- the last digit of a mask, and the rest of it, once bit k is turned
turn_low : (a : ℕ) → (bit_xor a 1 % 2 ≡ differ (a % 2) 1) × (bit_xor a 1 / 2 ≡ a / 2)
turn_low a = (last (bit_xor (a / 2) 0) (differ (a % 2) 1) (small (a % 2) (omega arith)) (xor_step a 1), rest (bit_xor (a / 2) 0) (differ (a % 2) 1) (small (a % 2) (omega arith)) (xor_step a 1) ∙ xor_zero_r (a / 2))
  where
    small : (x : ℕ) → x < 2 → differ x 1 < 2
    small zero h = omega arith
    small (suc zero) h = omega arith
    small (suc (suc x)) h = absurd (omega arith)

    last : (m d : ℕ) → d < 2 → bit_xor a 1 ≡ m * 2 + d → bit_xor a 1 % 2 ≡ d
    last m d h e = rw e (omega arith)

    rest : (m d : ℕ) → d < 2 → bit_xor a 1 ≡ m * 2 + d → bit_xor a 1 / 2 ≡ m
    rest m d h e = rw e (omega arith)

turn_high : (a k : ℕ) → (bit_xor a (2 ^ suc k) % 2 ≡ a % 2) × (bit_xor a (2 ^ suc k) / 2 ≡ bit_xor (a / 2) (2 ^ k))
turn_high a k =
    let half : 2 ^ suc k / 2 ≡ 2 ^ k = rw (one-mul (2 ^ suc k), one-mul (2 ^ k)) at (shifted_half 1 k) in
    let even : 2 ^ suc k % 2 ≡ 0 = rw (one-mul (2 ^ suc k)) at (shifted_even 1 k) in
    let step : bit_xor a (2 ^ suc k) ≡ bit_xor (a / 2) (2 ^ k) * 2 + a % 2 = xor_step a (2 ^ suc k) ∙ ap₂ (λ (h e : ℕ). bit_xor (a / 2) h * 2 + differ (a % 2) e) half even ∙ ap (λ (d : ℕ). bit_xor (a / 2) (2 ^ k) * 2 + d) (nothing (a % 2)) in
    (last (bit_xor (a / 2) (2 ^ k)) step, rest (bit_xor (a / 2) (2 ^ k)) step)
  where
    nothing : (x : ℕ) → differ x 0 ≡ x
    nothing zero = refl
    nothing (suc x) = refl

    last : (m : ℕ) → bit_xor a (2 ^ suc k) ≡ m * 2 + a % 2 → bit_xor a (2 ^ suc k) % 2 ≡ a % 2
    last m e = rw e (omega arith)

    rest : (m : ℕ) → bit_xor a (2 ^ suc k) ≡ m * 2 + a % 2 → bit_xor a (2 ^ suc k) / 2 ≡ m
    rest m e = rw e (omega arith)

-- turning bit k of a mask turns the parity where bit k is one
pub turned : (k w a : ℕ) → Count.ones (bit_and w (bit_xor a (2 ^ k))) % 2 ≡ (Count.ones (bit_and w a) + w / 2 ^ k % 2) % 2
turned zero w a =
    let e : w / 1 ≡ w = omega arith in
    let l = and-ones w (bit_xor a 1) in
    let r = and-ones w a in
    rw (l, r, (turn_low a).0, (turn_low a).1, e) (bit (w % 2) (a % 2) (Count.ones (bit_and (w / 2) (a / 2))) (omega arith) (omega arith))
  where
    bit : (x y n : ℕ) → x < 2 → y < 2 → (min x (differ y 1) + n) % 2 ≡ (min x y + n + x) % 2
    bit zero zero n h l = omega arith
    bit zero (suc zero) n h l = omega arith
    bit (suc zero) zero n h l = omega arith
    bit (suc zero) (suc zero) n h l = omega arith
    bit zero (suc (suc y)) n h l = absurd (omega arith)
    bit (suc zero) (suc (suc y)) n h l = absurd (omega arith)
    bit (suc (suc x)) y n h l = absurd (omega arith)
turned (suc k) w a =
    let l = and-ones w (bit_xor a (2 ^ suc k)) in
    let r = and-ones w a in
    let i = turned k (w / 2) (a / 2) in
    let e : w / 2 / 2 ^ k ≡ w / 2 ^ suc k = shr-shr w 1 k ∙ ap (λ (n : ℕ). w / 2 ^ n) (omega arith) in
    rw (l, r, (turn_high a k).0, (turn_high a k).1, ← e) (omega (arith, i))

-- a bit of a number that holds some
field-bit : (g : Word) (n p j i k : ℕ) → j < n → p + j ≡ i → n - suc j ≡ k → field_at g n p / 2 ^ k % 2 ≡ to_n (g i)
field-bit g n p j i k h e f = rw (← e) (rw (← f) (field_in g n p j 1 (n - suc j) (omega arith)) ∙ one (g (p + j)))
  where
    one : (b : Bool) → number (b ∷ []) ≡ to_n b
    one b = omega arith

-- a digit that is one or not, in the place of the bit: the parity turns, or not
tapped : (t : Bool) (w a k x d : ℕ) → x ≡ to_n t → k < 64 → w / 2 ^ k % 2 ≡ d → Count.ones (bit_and w (bit_xor a (x * 2 ^ k % 2 ^ 64))) % 2 ≡ (Count.ones (bit_and w a) + cond t d 0) % 2
tapped true w a k x d e l h = rw (e, shl_one k l, ← h) (turned k w a)
tapped false w a k x d e l h = rw (e, zero-mul (2 ^ k), xor_zero_r a) (omega arith)

-- so do the ones at the places
listed : (g : Word) (t : Bool) (p : ℕ) (ps : List ℕ) → ones (bits_at g (cond t (p ∷ ps) ps)) ≡ cond t (to_n (g p)) 0 + ones (bits_at g ps)
listed g true p ps = refl
listed g false p ps = omega arith

-- one summand changes by a bit, and so does the sum
sum_turned : (n u o d m s v r : ℕ) → u % 2 ≡ (o + d) % 2 → m % 2 ≡ s % 2 → r ≡ d + s → m ≡ o + n → v ≡ u + n → v % 2 ≡ r % 2
sum_turned n u o d m s v r e f rest old new =
    let z : o + d + n ≡ m + d = omega arith in
    rw (new, rest) (behind u (o + d) n e ∙ ap (λ (k : ℕ). k % 2) z ∙ behind m s d f ∙ ap (λ (k : ℕ). k % 2) (omega arith))
  where
    behind : (x y m : ℕ) → x % 2 ≡ y % 2 → (x + m) % 2 ≡ (y + m) % 2
    behind x y m h = omega arith

-- as the code has it, in the first, the second or the third mask
module _ (ps : List ℕ) (t : Bool) (a b c p x : ℕ) (e : x ≡ to_n t) (h : ParityOf ps a b c) where
  pub tap_first : p < 64 → ParityOf (cond t (p ∷ ps) ps) (bit_xor a (x * 2 ^ (63 - p) % 2 ^ 64)) b c
  tap_first l = record {
    odd_alike = λ g u v w s.
        let bit : u / 2 ^ (63 - p) % 2 ≡ to_n (g p) = rw s.first (field-bit g 64 0 p p (63 - p) l (zero-add p) (omega arith)) in
        sum_turned (Count.ones (bit_and v b) + Count.ones (bit_and w c)) _ _ _ _ _ _ _ (tapped t u a (63 - p) x (to_n (g p)) e (omega arith) bit) (h.odd_alike g u v w s) (listed g t p ps) (omega arith) (omega arith);
  }

  pub tap_second : 64 ≤ p → p < 128 → ParityOf (cond t (p ∷ ps) ps) a (bit_xor b (x * 2 ^ (127 - p) % 2 ^ 64)) c
  tap_second m l = record {
    odd_alike = λ g u v w s.
        let bit : v / 2 ^ (127 - p) % 2 ≡ to_n (g p) = rw s.second (field-bit g 64 64 (p - 64) p (127 - p) (omega arith) (omega arith) (omega arith)) in
        sum_turned (Count.ones (bit_and u a) + Count.ones (bit_and w c)) _ _ _ _ _ _ _ (tapped t v b (127 - p) x (to_n (g p)) e (omega arith) bit) (h.odd_alike g u v w s) (listed g t p ps) (omega arith) (omega arith);
  }

  pub tap_third : 128 ≤ p → p < 160 → ParityOf (cond t (p ∷ ps) ps) a b (bit_xor c (x * 2 ^ (159 - p) % 2 ^ 64))
  tap_third m l = record {
    odd_alike = λ g u v w s.
        let bit : w / 2 ^ (159 - p) % 2 ≡ to_n (g p) = rw s.third (field-bit g 32 128 (p - 128) p (159 - p) (omega arith) (omega arith) (omega arith)) in
        sum_turned (Count.ones (bit_and u a) + Count.ones (bit_and v b)) _ _ _ _ _ _ _ (tapped t w c (159 - p) x (to_n (g p)) e (omega arith) bit) (h.odd_alike g u v w s) (listed g t p ps) (omega arith) (omega arith);
  }

-- no place, no parity
pub ones_none : Count.ones 0 ≡ 0
unfolding Count.ones Count.ones_in
ones_none = refl

pub parity-none : ParityOf [] 0 0 0
parity-none = record { odd_alike = λ g x y z s. rw (and_zero_r x, and_zero_r y, and_zero_r z) (omega (arith, ones_none)) }

-- What a loop over some places from the last on has made once the rest are left: the masks of those behind, and what the power of the next leaves.
pub record Behind (ps rest : List ℕ) (x2 x1 x0 : ℕ) (m : Taps) : Type 0 where
  pub done : List ℕ
  pub whole : ps ≡ rest ++ done
  pub square : x2 ≡ to_n (power (length done)).r2
  pub linear : x1 ≡ to_n (power (length done)).r1
  pub constant : x0 ≡ to_n (power (length done)).r0
  pub masks : MasksOf done m

pub behind_none : (ps rest : List ℕ) → rest ≡ ps → Behind ps rest 0 0 1 (record { two = record { a = 0; b = 0; c = 0 }; one = record { a = 0; b = 0; c = 0 }; nil = record { a = 0; b = 0; c = 0 } })
behind_none ps rest e =
    record {
      done = [];
      whole = rw e (sym (append-nil ps));
      square = refl;
      linear = refl;
      constant = refl;
      masks = record { two = parity-none; one = parity-none; nil = parity-none };
    }

module _ (ps rest left : List ℕ) (p x2 x1 x0 : ℕ) (m : Taps) (e : rest ≡ left ++ p ∷ []) (b : Behind ps rest x2 x1 x0 m) where
  again : ps ≡ left ++ p ∷ b.done
  again = b.whole ∙ rw e (append_assoc left (p ∷ []) b.done)

  pub behind_below : Below 160 ps → p < 160
  behind_below h =
      let at : get_or ps (length left) 0 ≡ p = rw again (get_or-append_seam left p b.done 0) in
      let long : length ps ≡ length left + suc (length b.done) = rw again (length-append left (p ∷ b.done)) in
      rw at at (h (length left) (omega arith))

  next : power (suc (length b.done)) ≡ push (power (length b.done)) false
  next = sym (power-next (length b.done))

  middle : (a c : Bool) → bit_xor (to_n a) (to_n c) ≡ to_n (a ⊕ c)
  middle true true = refl
  middle true false = refl
  middle false true = refl
  middle false false = refl

  last : (a : Bool) → to_n a ≡ to_n (false ⊕ a)
  last true = refl
  last false = refl

  abbrev Tap : ℕ → Words → Words → Type 0
  Tap x before after = (qs : List ℕ) (t : Bool) → x ≡ to_n t → ParityOf qs before.a before.b before.c → ParityOf (cond t (p ∷ qs) qs) after.a after.b after.c

  pub behind_more : (n : Taps) → Tap x2 m.two n.two → Tap x1 m.one n.one → Tap x0 m.nil n.nil → Behind ps left x1 (bit_xor x0 x2) x2 n
  behind_more n two one nil =
      record {
        done = p ∷ b.done;
        whole = again;
        square = b.linear ∙ ap (λ (r : Rem). to_n r.r2) (sym next);
        linear = rw (b.constant, b.square) (middle (power (length b.done)).r0 (power (length b.done)).r2) ∙ ap (λ (r : Rem). to_n r.r1) (sym next);
        constant = b.square ∙ last (power (length b.done)).r2 ∙ ap (λ (r : Rem). to_n r.r0) (sym next);
        masks = record {
          two = two (taps (λ r. r.r2) b.done) (power (length b.done)).r2 b.square b.masks.two;
          one = one (taps (λ r. r.r1) b.done) (power (length b.done)).r1 b.linear b.masks.one;
          nil = nil (taps (λ r. r.r0) b.done) (power (length b.done)).r0 b.constant b.masks.nil;
        };
      }

pub behind_all : (ps rest : List ℕ) (x2 x1 x0 : ℕ) (m : Taps) → length rest ≡ 0 → Behind ps rest x2 x1 x0 m → MasksOf ps m
behind_all ps [] x2 x1 x0 m e b = rw b.whole b.masks
behind_all ps (p ∷ rest) x2 x1 x0 m e b = absurd (omega arith)

-- a digit of a power is one or nothing
pub behind_bits : (ps rest : List ℕ) (x2 x1 x0 : ℕ) (m : Taps) → Behind ps rest x2 x1 x0 m → (x2 < 2) × (x1 < 2) × (x0 < 2)
behind_bits ps rest x2 x1 x0 m b =
    let r = power (length b.done) in
    (rw b.square (to_n_lt r.r2), rw b.linear (to_n_lt r.r1), rw b.constant (to_n_lt r.r0))

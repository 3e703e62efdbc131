-- One bit of each of eight octets: gathered into a byte and spread from one by a multiplication, and put into the octets.
-- Assumes nothing.
use mathlib.Core.Path.{◌≡◌, refl, ap, sym, ◌∙◌}
use mathlib.Core.Bool.{Bool, true, false, ◌&&◌}
use mathlib.Core.List.{List, [], ◌∷◌, map}
use Prim.Native.Nat.{ℕ, zero, suc, ◌+◌, ◌*◌, ◌-◌, ◌/◌, ◌%◌, ◌^◌, ◌<◌, ◌≤◌}
use native.Mathlib.Nat.{add-mul, mod-lt, pow-suc, mul-le-mul_right}
use native.Mathlib.Omega.{arith}
use borrow.Author.Tests.{eqb-true}
use lib.Arith.{digits_lt}
use lib.Bits.{bit_and, and_high, or_add_and, or_lt}
use lib.Dec.{eqb}
use lib.ListN.{length}
use lib.Pow.{pow_pos, pow-lt, pow-add, shr_lt, shl-shr, shl_exact, split}
use Rattle.bits.specs.Bit.{to_n, number, count}
use Rattle.bits.specs.Put.{put_in}
use Rattle.bits.proofs.BitLaws.{to_n_lt, one-to_n, rebuilt}
use Rattle.put.specs.Put.{Shows}
use Rattle.channel.proofs.BoolLaws.{and_l, and_r}
use Rattle.put.proofs.PutLaws.{put-apart}
use Rattle.lanes.specs.Lanes.{lanes, ones, Eight, bit_of}
use Rattle.lanes.proofs.LaneLaws.{lanes-and, lanes-add, lanes-mul, lanes-same}

-- the multiplication that gathers, and the one that spreads
abbrev pub gather : ℕ → ℕ
gather m = (m % 4294967296 * 16 + m / 4294967296) * 134480385 / 16777216 % 256

abbrev pub spread_of : ℕ → ℕ
spread_of v = bit_and ((v / 16 + v % 16 * 4294967296) * 134480385 / 8) ones

-- a test at all lists of n bits
abbrev every : ℕ → (List Bool → Bool) → Bool
every zero t = t []
every (suc n) t = every n (λ bs. t (true ∷ bs)) && every n (λ bs. t (false ∷ bs))

-- if it holds, it holds at each
every-at : (n : ℕ) (t : List Bool → Bool) → every n t ≡ true → (bs : List Bool) → length bs ≡ n → t bs ≡ true
every-at zero t h [] e = h
every-at zero t h (b ∷ bs) e = absurd (omega arith)
every-at (suc n) t h [] e = absurd (omega arith)
every-at (suc n) t h (true ∷ bs) e = every-at n (λ cs. t (true ∷ cs)) (and_l _ (every n (λ cs. t (false ∷ cs))) h) bs (omega arith)
every-at (suc n) t h (false ∷ bs) e = every-at n (λ cs. t (false ∷ cs)) (and_r (every n (λ cs. t (true ∷ cs))) _ h) bs (omega arith)

-- eight bits are gathered, and spread, whatever they are: one computed test each
gather-bits : (bs : List Bool) → length bs ≡ 8 → gather (lanes (map to_n bs)) ≡ number bs
gather-bits bs e = eqb-true _ _ (every-at 8 (λ bs. eqb (gather (lanes (map to_n bs))) (number bs)) refl bs e)

spread-bits : (bs : List Bool) → length bs ≡ 8 → spread_of (number bs) ≡ lanes (map to_n bs)
spread-bits bs e = eqb-true _ _ (every-at 8 (λ bs. eqb (spread_of (number bs)) (lanes (map to_n bs))) refl bs e)

-- a byte is spread
pub spread-is : (v : ℕ) (g : ℕ → Bool) (a : ℕ) → v < 256 → Shows v g a → spread_of v ≡ lanes (map (λ i. to_n (g i)) (count 8 a))
spread-is v g a h shows =
    let z : v / 2 ^ 8 ≡ 0 = omega arith in
    let is : number (map g (count 8 a)) ≡ v = rw z at (rebuilt g 8 a v (λ j l. let e : 8 - suc j ≡ 7 - j = omega arith in rw e (shows j l))) in
    ap spread_of (sym is) ∙ spread-bits (map g (count 8 a)) refl

-- what is no more than a one in each of eight octets, shifted up inside them
pub shift_up : (x d : ℕ) → x ≤ ones → d < 8 → x * 2 ^ d % 18446744073709551616 ≡ x * 2 ^ d
shift_up x d l h = shl_exact 57 d 64 (omega arith) (omega arith)

-- the bit of an octet under its mask
and-bit : (x d : ℕ) → bit_and x (2 ^ d) ≡ to_n (bit_of x d) * 2 ^ d
and-bit x d =
    let e : 2 ^ (1 + d) - 2 ^ d ≡ 2 ^ d = omega (arith, pow-add 2 1 d) in
    let b : x / 2 ^ d % 2 ≡ to_n (bit_of x d) = sym (one-to_n (x / 2 ^ d % 2) (omega arith)) in
    rw e at (and_high x 1 d) ∙ ap (λ (n : ℕ). n * 2 ^ d) b

-- an octet without that bit
abbrev others : ℕ → ℕ → ℕ
others d x = x / 2 ^ d / 2 * 2 * 2 ^ d + x % 2 ^ d

-- the two are the octet
others-and : (d x : ℕ) → x ≡ others d x + to_n (bit_of x d) * 2 ^ d
others-and d x =
    let b : to_n (bit_of x d) ≡ x / 2 ^ d % 2 = one-to_n (x / 2 ^ d % 2) (omega arith) in
    let q : x / 2 ^ d / 2 * 2 + x / 2 ^ d % 2 ≡ x / 2 ^ d = omega arith in
    rw b (omega (arith, split x d, ap (λ (n : ℕ). n * 2 ^ d) q, add-mul (x / 2 ^ d / 2 * 2) (x / 2 ^ d % 2) (2 ^ d)))

-- and with another bit they are that bit put
others_put : (d x b : ℕ) → others d x + b * 2 ^ d ≡ put_in x d b
others_put d x b = omega (arith, add-mul (x / 2 ^ d / 2 * 2) b (2 ^ d))

-- so its own bit put changes nothing
pub put_own : (d x : ℕ) → put_in x d (to_n (bit_of x d)) ≡ x
put_own d x = sym (others-and d x ∙ others_put d x (to_n (bit_of x d)))

-- and two bits can be put in either order
pub put_swap : (d e x b c : ℕ) → b < 2 → c < 2 → (d ≡ e → ⊥) → put_in (put_in x d b) e c ≡ put_in (put_in x e c) d b
put_swap d e x b c hb hc ne =
    let kept_e : to_n (bit_of (put_in x d b) e) ≡ to_n (bit_of x e) = ap (λ (n : ℕ). to_n (eqb n 1)) (put-apart x d b e hb (λ (q : e ≡ d). ne (sym q))) in
    let kept-d : to_n (bit_of (put_in x e c) d) ≡ to_n (bit_of x d) = ap (λ (n : ℕ). to_n (eqb n 1)) (put-apart x e c d hc ne) in
    let out_e : put_in (put_in x d b) e c + to_n (bit_of x e) * 2 ^ e ≡ put_in x d b + c * 2 ^ e = rw kept_e at (put_moves e (put_in x d b) c) in
    let out_d : put_in (put_in x e c) d b + to_n (bit_of x d) * 2 ^ d ≡ put_in x e c + b * 2 ^ d = rw kept-d at (put_moves d (put_in x e c) b) in
    omega (arith, out_e, out_d, put_moves d x b, put_moves e x c)
  where
    put_moves : (d x b : ℕ) → put_in x d b + to_n (bit_of x d) * 2 ^ d ≡ x + b * 2 ^ d
    put_moves d x b = omega (arith, others-and d x, others_put d x b)

-- an octet stays an octet
put_lt : (d x b : ℕ) → d < 8 → x < 256 → b < 2 → put_in x d b < 256
put_lt d x b h hx hb =
    let e : 8 - d + d ≡ 8 = omega arith in
    let f : suc (7 - d) ≡ 8 - d = omega arith in
    let whole : 2 ^ (8 - d) * 2 ^ d ≡ 256 = rw e at (sym (pow-add 2 (8 - d) d)) in
    let twice : 2 ^ (8 - d) ≡ 2 ^ (7 - d) * 2 = rw f at (pow-suc 2 (7 - d)) in
    let above : x / 2 ^ d < 2 ^ (8 - d) = shr_lt (8 - d) d (rw e hx) in
    let all : put_in x d b < 2 ^ (8 - d) * 2 ^ d = digits_lt (omega (arith, above, twice)) (mod-lt x (pow_pos d)) in
    omega (arith, all, whole)

module _ (f : ℕ → ℕ) (d a w : ℕ) (h : d < 8) (e : Eight f a w) where
  -- the bits of eight octets under their mask
  masked : bit_and w (ones * 2 ^ d) ≡ lanes (map (λ i. to_n (bit_of (f i) d)) (count 8 a)) * 2 ^ d
  masked =
      let mask : ones * 2 ^ d ≡ lanes (map (λ _. 2 ^ d) (count 8 a)) = omega arith in
      let one : 2 ^ d < 256 = pow-lt {i = d} {j = 8} h in
      ap (λ (n : ℕ). bit_and n (ones * 2 ^ d)) e.is ∙ ap (bit_and (lanes (map f (count 8 a)))) mask
      ∙ lanes-and f (λ _. 2 ^ d) 8 a e.octets (λ _ _. one)
      ∙ lanes-same (λ i. bit_and (f i) (2 ^ d)) (λ i. to_n (bit_of (f i) d) * 2 ^ d) (count 8 a) (λ i. and-bit (f i) d)
      ∙ sym (lanes-mul (λ i. to_n (bit_of (f i) d)) (2 ^ d) (count 8 a))

  -- they are gathered
  pub gathered-is : gather (bit_and w (ones * 2 ^ d) / 2 ^ d) ≡ number (map (λ i. bit_of (f i) d) (count 8 a))
  gathered-is =
      ap (λ (n : ℕ). gather (n / 2 ^ d)) masked
      ∙ ap gather (shl-shr (lanes (map (λ i. to_n (bit_of (f i) d)) (count 8 a))) d)
      ∙ gather-bits (map (λ i. bit_of (f i) d) (count 8 a)) refl

  -- and others put in their place
  put_is : (g : ℕ → Bool) → w - bit_and w (ones * 2 ^ d) + lanes (map (λ i. to_n (g i)) (count 8 a)) * 2 ^ d ≡ lanes (map (λ i. put_in (f i) d (to_n (g i))) (count 8 a))
  put_is g =
      let was = lanes-same f (λ i. others d (f i) + to_n (bit_of (f i) d) * 2 ^ d) (count 8 a) (λ i. others-and d (f i)) in
      let parts = lanes-add (λ i. others d (f i)) (λ i. to_n (bit_of (f i) d) * 2 ^ d) (count 8 a) in
      let out = masked ∙ lanes-mul (λ i. to_n (bit_of (f i) d)) (2 ^ d) (count 8 a) in
      let left = without w (bit_and w (ones * 2 ^ d)) (lanes (map (λ i. others d (f i)) (count 8 a))) (lanes (map (λ i. to_n (bit_of (f i) d) * 2 ^ d) (count 8 a))) (e.is ∙ was ∙ sym parts) out in
      ap (λ (n : ℕ). n + lanes (map (λ i. to_n (g i)) (count 8 a)) * 2 ^ d) left
      ∙ ap (λ (n : ℕ). lanes (map (λ i. others d (f i)) (count 8 a)) + n) (lanes-mul (λ i. to_n (g i)) (2 ^ d) (count 8 a))
      ∙ lanes-add (λ i. others d (f i)) (λ i. to_n (g i) * 2 ^ d) (count 8 a)
      ∙ lanes-same (λ i. others d (f i) + to_n (g i) * 2 ^ d) (λ i. put_in (f i) d (to_n (g i))) (count 8 a) (λ i. others_put d (f i) (to_n (g i)))
    where
      without : (n m o t : ℕ) → n ≡ o + t → m ≡ t → n - m ≡ o
      without n m o t p q = omega arith

  -- which are eight octets again
  pub put-eight : (g : ℕ → Bool) (s : ℕ) → s ≤ ones → s ≡ lanes (map (λ i. to_n (g i)) (count 8 a))
      → Eight (λ i. put_in (f i) d (to_n (g i))) a (w - bit_and w (ones * 2 ^ d % 18446744073709551616) + s * 2 ^ d % 18446744073709551616)
  put-eight g s hs is =
      rw (shift_up ones d (omega arith) h, shift_up s d hs h)
      (record { octets = λ i l. put_lt d (f i) (to_n (g i)) h (e.octets i l) (to_n_lt (g i)); is = rw is (put_is g) })

-- they fit the word: with all bits of the mask it is no more than the word and the mask have together
pub put-fits : (w s d : ℕ) → w < 2 ^ 64 → s ≤ ones → d < 8 → w - bit_and w (ones * 2 ^ d % 18446744073709551616) + s * 2 ^ d % 18446744073709551616 < 2 ^ 64
put-fits w s d hw hs h =
    let mask = ones * 2 ^ d in
    let fits : ones * 2 ^ d < 2 ^ 64 = rw (sym (shift_up ones d (omega arith) h)) (mod-lt (ones * 2 ^ d) (omega arith)) in
    rw (shift_up ones d (omega arith) h, shift_up s d hs h) (omega (arith, or_add_and w mask, or_lt 64 w mask hw fits, mul-le-mul_right (2 ^ d) hs))

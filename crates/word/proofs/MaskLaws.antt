-- Bits as a number, 64 at once: what a mask leaves of them, when two such numbers are the same, and the parity of their ones.
-- Assumes nothing.
use mathlib.Core.Path.{◌≡◌, refl, sym, ◌∙◌, ap, ap₂}
use mathlib.Core.Logic.{by_cases}
use mathlib.Core.Bool.{Bool, true, false, not, ◌&&◌, cond, beq, and-true, and-false, and_assoc}
use mathlib.Core.List.{List, [], ◌∷◌, ◌++◌, map}
use Prim.Native.Nat.{ℕ, zero, suc, ◌+◌, ◌*◌, ◌-◌, ◌/◌, ◌%◌, ◌^◌, ◌<◌, min, zero-le}
use native.Mathlib.Omega.{arith}
use native.Mathlib.Decide.{ℕ_discrete}
use borrow.Author.Tests.{eq-eqb, ne_eqb, ltb-true, not-true}
use lib.Bits.{bit_and, and_step, and_mod}
use lib.Dec.{eqb, ltb}
use Rattle.bits.specs.Bit.{to_n, number_from, number, count, bit_at}
use Rattle.bits.proofs.BitLaws.{to_n_lt, byte-bit, rebuilt, number_append}
use Rattle.bits.proofs.CountLaws.{map-count-split}
use Rattle.channel.specs.Coding.{Word, all}
use lib.ListN.{get_or}
use Rattle.channel.specs.Places.{elem}
use Rattle.channel.proofs.BoolLaws.{all-at, and_l, and_r, and_both, elem-count}
use Rattle.word.specs.Words.{field_at, Holds, FixedBy}

-- a number and a bit behind it
half : (a : ℕ) (x : Bool) → (2 * a + to_n x) / 2 ≡ a
half a x = omega (arith, to_n_lt x)

low : (a : ℕ) (x : Bool) → (2 * a + to_n x) % 2 ≡ to_n x
low a x = omega (arith, to_n_lt x)

least : (x y : Bool) → min (to_n x) (to_n y) ≡ to_n (x && y)
least true true = refl
least true false = refl
least false true = refl
least false false = refl

and-digit : (a b : ℕ) (x y : Bool) → bit_and (2 * a + to_n x) (2 * b + to_n y) ≡ 2 * bit_and a b + to_n (x && y)
and-digit a b x y =
    and_step (2 * a + to_n x) (2 * b + to_n y)
    ∙ ap₂ (λ (m n : ℕ). m * 2 + n) (ap₂ bit_and (half a x) (half b y)) (ap₂ min (low a x) (low b y) ∙ least x y)
    ∙ turned (bit_and a b) (to_n (x && y))
  where
    turned : (m n : ℕ) → m * 2 + n ≡ 2 * m + n
    turned m n = omega arith

-- a mask leaves the bits at its ones
and_from : (ps : List ℕ) (g m : ℕ → Bool) (a b : ℕ) → bit_and (number_from a (map g ps)) (number_from b (map m ps)) ≡ number_from (bit_and a b) (map (λ i. g i && m i) ps)
and_from [] g m a b = refl
and_from (p ∷ ps) g m a b =
    and_from ps g m (2 * a + to_n (g p)) (2 * b + to_n (m p))
    ∙ ap (λ (n : ℕ). number_from n (map (λ i. g i && m i) ps)) (and-digit a b (g p) (m p))

masked : (ps : List ℕ) (g m : ℕ → Bool) → bit_and (number (map g ps)) (number (map m ps)) ≡ number (map (λ i. g i && m i) ps)
masked ps g m = and_from ps g m 0 0

-- two numbers of as many bits are the same where all their bits are
same-digit : (a b : ℕ) (x y : Bool) → eqb (2 * a + to_n x) (2 * b + to_n y) ≡ eqb a b && beq x y
same-digit a b x y = by_cases (ℕ_discrete a b) (λ (e : a ≡ b). rw (eq-eqb a b e, e) (equal x y)) (λ (e : ¬ (a ≡ b)). rw (ne_eqb a b e) (ne_eqb (2 * a + to_n x) (2 * b + to_n y) (λ f. e (omega (arith, to_n_lt x, to_n_lt y)))))
  where
    equal : (x y : Bool) → eqb (2 * b + to_n x) (2 * b + to_n y) ≡ beq x y
    equal true true = eq-eqb (2 * b + 1) (2 * b + 1) refl
    equal true false = ne_eqb (2 * b + 1) (2 * b + 0) (λ f. omega arith)
    equal false true = ne_eqb (2 * b + 0) (2 * b + 1) (λ f. omega arith)
    equal false false = eq-eqb (2 * b + 0) (2 * b + 0) refl

same_from : (ps : List ℕ) (g h : ℕ → Bool) (a b : ℕ) → eqb (number_from a (map g ps)) (number_from b (map h ps)) ≡ eqb a b && all (λ i. beq (g i) (h i)) ps
same_from [] g h a b = sym (and-true (eqb a b))
same_from (p ∷ ps) g h a b =
    same_from ps g h (2 * a + to_n (g p)) (2 * b + to_n (h p))
    ∙ ap (λ (c : Bool). c && all (λ i. beq (g i) (h i)) ps) (same-digit a b (g p) (h p))
    ∙ and_assoc (eqb a b) (beq (g p) (h p)) (all (λ i. beq (g i) (h i)) ps)

pub same_bits : (ps : List ℕ) (g h : ℕ → Bool) → eqb (number (map g ps)) (number (map h ps)) ≡ all (λ i. beq (g i) (h i)) ps
same_bits ps g h = same_from ps g h 0 0

-- ---- the three numbers that hold a word

-- lists joined
all_append : (t : ℕ → Bool) (xs ys : List ℕ) → all t (xs ++ ys) ≡ all t xs && all t ys
all_append t [] ys = refl
all_append t (x ∷ xs) ys = ap (λ (b : Bool). t x && b) (all_append t xs ys) ∙ sym (and_assoc (t x) (all t xs) (all t ys))

pub all_windows : (t : ℕ → Bool) → all t (count 64 0) && (all t (count 64 64) && all t (count 32 128)) ≡ all t (count 160 0)
all_windows t = sym (all_append t (count 64 0) (count 64 64 ++ count 32 128) ∙ ap (λ (b : Bool). all t (count 64 0) && b) (all_append t (count 64 64) (count 32 128)))

-- k of the bits under a mask
mask_same : (g m v : Word) (k p : ℕ) → eqb (bit_and (field_at g k p) (field_at m k p)) (field_at v k p) ≡ all (λ i. beq (g i && m i) (v i)) (count k p)
unfolding field_at
mask_same g m v k p = ap (λ (n : ℕ). eqb n (number (map v (count k p)))) (masked (count k p) g m) ∙ same_bits (count k p) (λ i. g i && m i) v

-- ---- fixed bits

bool_same : (a b : Bool) → (a ≡ true → b ≡ true) → (b ≡ true → a ≡ true) → a ≡ b
bool_same true b f h = sym (f refl)
bool_same false true f h = h refl
bool_same false false f h = refl

-- a test that holds wherever an entry stands
all_intro : (t : ℕ → Bool) (ps : List ℕ) → ((i : ℕ) → elem i ps ≡ true → t i ≡ true) → all t ps ≡ true
all_intro t [] h = refl
all_intro t (p ∷ ps) h = and_both (t p) (all t ps) (h p (rw (eq-eqb p p refl))) (all_intro t ps (λ i e. h i (later (eqb i p) e)))
  where
    later : {b : Bool} (c : Bool) → b ≡ true → cond c true b ≡ true
    later true e = refl
    later false e = e

pub elem-append : (i : ℕ) (xs ys : List ℕ) → elem i (xs ++ ys) ≡ cond (elem i xs) true (elem i ys)
elem-append i [] ys = refl
elem-append i (x ∷ xs) ys = go (eqb i x) (elem-append i xs ys)
  where
    go : (b : Bool) → elem i (xs ++ ys) ≡ cond (elem i xs) true (elem i ys) → cond b true (elem i (xs ++ ys)) ≡ cond (cond b true (elem i xs)) true (elem i ys)
    go true e = refl
    go false e = e

-- a test of two bits that holds
pub beq_same : (a b : Bool) → beq a b ≡ true → a ≡ b
beq_same true true h = refl
beq_same true false h = sym h
beq_same false true h = h
beq_same false false h = refl

module _ (g : Word) (zeros ons mask fixed : List ℕ) (by : FixedBy zeros ons mask fixed) where
  test : ℕ → Bool
  test i = beq (g i && bit_at mask i) (bit_at fixed i)

  pub within : (i : ℕ) → elem i (zeros ++ ons) ≡ true → elem i (count 160 0) ≡ true
  within i e = elem-count i 160 0 zero-le (omega (arith, ltb-true i 160 (all-at (λ i. ltb i 160) (zeros ++ ons) i e by.inside)))

  pub mask_at : (i : ℕ) → elem i (count 160 0) ≡ true → bit_at mask i ≡ elem i (zeros ++ ons)
  mask_at i e = beq_same _ _ (all-at (λ i. beq (bit_at mask i) (elem i (zeros ++ ons))) (count 160 0) i e by.mask_is)

  pub fixed-at : (i : ℕ) → elem i (count 160 0) ≡ true → bit_at fixed i ≡ elem i ons
  fixed-at i e = beq_same _ _ (all-at (λ i. beq (bit_at fixed i) (elem i ons)) (count 160 0) i e by.fixed_is)

  zero_in : (i : ℕ) → elem i zeros ≡ true → elem i (zeros ++ ons) ≡ true
  zero_in i e = elem-append i zeros ons ∙ rw e

  one_in : (i : ℕ) → elem i ons ≡ true → elem i (zeros ++ ons) ≡ true
  one_in i e = elem-append i zeros ons ∙ rw e (go (elem i zeros))
    where
      go : (b : Bool) → cond b true true ≡ true
      go true = refl
      go false = refl

  there : all test (count 160 0) ≡ true → (i : ℕ) → elem i (zeros ++ ons) ≡ true → g i ≡ elem i ons
  unfolding test
  there h i e =
      let t : test i ≡ true = all-at test (count 160 0) i (within i e) h in
      sym (and-true (g i)) ∙ ap (λ (b : Bool). g i && b) (sym (mask_at i (within i e) ∙ e)) ∙ beq_same (g i && bit_at mask i) (bit_at fixed i) t ∙ fixed-at i (within i e)

  holds-both : all test (count 160 0) ≡ true → all (λ i. not (g i)) zeros && all g ons ≡ true
  holds-both h =
      and_both _ _
      (all_intro (λ i. not (g i)) zeros (λ i e. rw (there h i (zero_in i e)) (all-at (λ i. not (elem i ons)) zeros i e by.apart)))
      (all_intro g ons (λ i e. there h i (one_in i e) ∙ e))

  both-holds : all (λ i. not (g i)) zeros && all g ons ≡ true → all test (count 160 0) ≡ true
  unfolding test
  both-holds h = all_intro test (count 160 0) (λ i m. go i m (elem i zeros) (elem i ons) refl refl)
    where
      go : (i : ℕ) → elem i (count 160 0) ≡ true → (a b : Bool) → elem i zeros ≡ a → elem i ons ≡ b → test i ≡ true
      go i m a true p q =
          let one : g i ≡ true = all-at g ons i q (and_r (all (λ i. not (g i)) zeros) (all g ons) h) in
          rw (mask_at i m, fixed-at i m, one_in i q, q, one)
      go i m true false p q =
          let nil : g i ≡ false = not-true (g i) (all-at (λ i. not (g i)) zeros i p (and_l (all (λ i. not (g i)) zeros) (all g ons) h)) in
          rw (fixed-at i m, q, nil)
      go i m false false p q =
          let out : elem i (zeros ++ ons) ≡ false = elem-append i zeros ons ∙ rw (p, q) in
          rw (mask_at i m, fixed-at i m, out, q, and-false (g i))

  -- the test of all the places is the test of the fixed ones
  fixed_test : all test (count 160 0) ≡ all (λ i. not (g i)) zeros && all g ons
  fixed_test = bool_same _ _ holds-both both-holds

-- the words under those of a mask are those of the fixed ones where all the fixed bits hold
pub fixed_masked : (g : Word) (zeros ons mask fixed : List ℕ) (p q r a b c x y z : ℕ) → Holds g p q r → Holds (bit_at mask) a b c → Holds (bit_at fixed) x y z → FixedBy zeros ons mask fixed
    → (eqb (bit_and p a) x && eqb (bit_and q b) y) && eqb (bit_and r c) z ≡ all (λ i. not (g i)) zeros && all g ons
unfolding test
fixed_masked g zeros ons mask fixed p q r a b c x y z h m v by =
    and_assoc (eqb (bit_and p a) x) (eqb (bit_and q b) y) (eqb (bit_and r c) z)
    ∙ rw (h.first, h.second, h.third, m.first, m.second, m.third, v.first, v.second, v.third)
    (ap₂ (λ (s t : Bool). s && t) (mask_same g (bit_at mask) (bit_at fixed) 64 0)
    (ap₂ (λ (s t : Bool). s && t) (mask_same g (bit_at mask) (bit_at fixed) 64 64) (mask_same g (bit_at mask) (bit_at fixed) 32 128))
    ∙ all_windows (λ i. beq (g i && bit_at mask i) (bit_at fixed i))
    ∙ fixed_test g zeros ons mask fixed by)

-- so it is where no bit above the low 32 of the third words is looked at
pub fixed_low : (g : Word) (zeros ons mask fixed : List ℕ) (p q r a b c x y z : ℕ) → Holds g p q (r % 2 ^ 32) → Holds (bit_at mask) a b (c % 2 ^ 32) → Holds (bit_at fixed) x y (z % 2 ^ 32) → FixedBy zeros ons mask fixed
    → (eqb (bit_and p a) x && eqb (bit_and q b) y) && eqb (bit_and r c % 2 ^ 32) (z % 2 ^ 32) ≡ all (λ i. not (g i)) zeros && all g ons
fixed_low g zeros ons mask fixed p q r a b c x y z h m v by = rw (and_mod r c 32) (fixed_masked g zeros ons mask fixed p q (r % 2 ^ 32) a b (c % 2 ^ 32) x y (z % 2 ^ 32) h m v by)

-- ---- bytes into the three numbers

eight-from : (a : ℕ) (b0 b1 b2 b3 b4 b5 b6 b7 : Bool)
    → number_from a (b0 ∷ b1 ∷ b2 ∷ b3 ∷ b4 ∷ b5 ∷ b6 ∷ b7 ∷ []) ≡ a * 256 + number_from 0 (b0 ∷ b1 ∷ b2 ∷ b3 ∷ b4 ∷ b5 ∷ b6 ∷ b7 ∷ [])
eight-from a b0 b1 b2 b3 b4 b5 b6 b7 = omega arith

module _ (s : List ℕ) (fits : (k : ℕ) → get_or s k 0 < 256) where
  byte-number : (k : ℕ) → number_from 0 (map (bit_at s) (count 8 (8 * k))) ≡ get_or s k 0
  byte-number k =
      let z : get_or s k 0 / 2 ^ 8 ≡ 0 = omega (arith, fits k) in
      rw z at (rebuilt (bit_at s) 8 (8 * k) (get_or s k 0) (λ j l. let e : 8 - suc j ≡ 7 - j = omega arith in rw e (byte-bit s k j l)))

  byte-push : (k a : ℕ) → number_from a (map (bit_at s) (count 8 (8 * k))) ≡ a * 256 + get_or s k 0
  byte-push k a =
      let q = 8 * k in
      eight-from a (bit_at s q) (bit_at s (suc q)) (bit_at s (suc (suc q))) (bit_at s (suc (suc (suc q)))) (bit_at s (suc (suc (suc (suc q))))) (bit_at s (suc (suc (suc (suc (suc q)))))) (bit_at s (suc (suc (suc (suc (suc (suc q))))))) (bit_at s (suc (suc (suc (suc (suc (suc (suc q))))))))
      ∙ ap (λ (n : ℕ). a * 256 + n) (byte-number k)

  -- m bytes from byte k on, behind a number
  abbrev pub from_bytes : ℕ → ℕ → ℕ → ℕ
  from_bytes a k zero = a
  from_bytes a k (suc m) = from_bytes (a * 256 + get_or s k 0) (suc k) m

  bytes-push : (m k a : ℕ) → number_from a (map (bit_at s) (count (8 * m) (8 * k))) ≡ from_bytes a k m
  bytes-push zero k a = refl
  bytes-push (suc m) k a =
      let e : 8 * suc m ≡ 8 + 8 * m = omega arith in
      let f : 8 * k + 8 ≡ 8 * suc k = omega arith in
      ap (λ (n : ℕ). number_from a (map (bit_at s) (count n (8 * k)))) e
      ∙ ap (number_from a) (map-count-split (bit_at s) 8 (8 * m) (8 * k))
      ∙ number_append (map (bit_at s) (count 8 (8 * k))) (map (bit_at s) (count (8 * m) (8 * k + 8))) a
      ∙ ap₂ (λ (n q : ℕ). number_from n (map (bit_at s) (count (8 * m) q))) (byte-push k a) f
      ∙ bytes-push m (suc k) (a * 256 + get_or s k 0)

  -- the numbers of the bytes by eights and four
  pub holds_octets : (a b c : ℕ) → a ≡ from_bytes 0 0 8 → b ≡ from_bytes 0 8 8 → c ≡ from_bytes 0 16 4 → Holds (bit_at s) a b c
  unfolding field_at
  holds_octets a b c p q r = record { first = p ∙ sym (bytes-push 8 0 0); second = q ∙ sym (bytes-push 8 8 0); third = r ∙ sym (bytes-push 4 16 0) }

-- Octets side by side in one number: what is done to each of them at once, and how they are stored one by one.
-- Assumes nothing.
use mathlib.Core.Path.{◌≡◌, refl, ap, ◌∙◌}
use mathlib.Core.Logic.{by_cases}
use mathlib.Core.List.{List, [], ◌∷◌, ◌++◌, map}
use Prim.Native.Nat.{ℕ, zero, suc, ◌+◌, ◌*◌, ◌-◌, ◌<◌, ◌≤◌}
use native.Mathlib.Nat.{add-mul, zero-mul, le_refl}
use native.Mathlib.Decide.{dec_lt}
use native.Mathlib.Omega.{arith}
use borrow.Rule.Slice.PartMut.{put_mid}
use lib.Bits.{bit_and, and_block}
use lib.ListN.{length, get_or, get_or-eq_default, take, drop, replicate, set, length-append, length-take, length-drop, length-replicate}
use lib.Seq.{get_or-append-add, get_or-append_right, get_or-drop}
use Rattle.std.specs.Int.{w64, to_le_bytes, from_le_bytes}
use Rattle.std.proofs.lemmas.Nat.{le_bytes_8}
use Rattle.std.proofs.lemmas.List.{take_at, drop_at, drop-drop, get_or-replicate, get_or-take, get_or_append_left}
use Rattle.std.proofs.Common.{append_assoc}
use Rattle.bits.specs.Bit.{count}
use Rattle.bits.proofs.CountLaws.{length-map-count, get_d_map_count, map-count-split, map-count-same, fill_step}
use Rattle.lanes.specs.Lanes.{lanes, Eight, FilledTo}

-- a mask of octets takes from each what its octet has
pub lanes-and : (f h : ℕ → ℕ) (c a : ℕ) → ((i : ℕ) → a ≤ i → f i < 256) → ((i : ℕ) → a ≤ i → h i < 256)
    → bit_and (lanes (map f (count c a))) (lanes (map h (count c a))) ≡ lanes (map (λ i. bit_and (f i) (h i)) (count c a))
lanes-and f h zero a hf hh = refl
lanes-and f h (suc c) a hf hh =
    and_block 8 (lanes (map f (count c (suc a)))) (lanes (map h (count c (suc a)))) (f a) (h a) (hf a (le_refl a)) (hh a (le_refl a))
    ∙ ap (λ (n : ℕ). n * 256 + bit_and (f a) (h a)) (lanes-and f h c (suc a) (λ i l. hf i (omega arith)) (λ i l. hh i (omega arith)))

-- octets added, none running over
pub lanes-add : (f h : ℕ → ℕ) (ps : List ℕ) → lanes (map f ps) + lanes (map h ps) ≡ lanes (map (λ i. f i + h i) ps)
lanes-add f h [] = refl
lanes-add f h (p ∷ ps) = omega (arith, lanes-add f h ps)

-- and each shifted up
pub lanes-mul : (f : ℕ → ℕ) (m : ℕ) (ps : List ℕ) → lanes (map f ps) * m ≡ lanes (map (λ i. f i * m) ps)
lanes-mul f m [] = zero-mul m
lanes-mul f m (p ∷ ps) =
    let e : (lanes (map f ps) * 256 + f p) * m ≡ lanes (map f ps) * m * 256 + f p * m = add-mul (lanes (map f ps) * 256) (f p) m ∙ ap (λ (n : ℕ). n + f p * m) (swap (lanes (map f ps))) in
    e ∙ ap (λ (n : ℕ). n * 256 + f p * m) (lanes-mul f m ps)
  where
    swap : (n : ℕ) → n * 256 * m ≡ n * m * 256
    swap n = omega arith

-- octets alike
pub lanes-same : (f h : ℕ → ℕ) (ps : List ℕ) → ((i : ℕ) → f i ≡ h i) → lanes (map f ps) ≡ lanes (map h ps)
lanes-same f h [] e = refl
lanes-same f h (p ∷ ps) e = rw (e p, lanes-same f h ps e)

-- eight octets by other names
pub eight-same : (f h : ℕ → ℕ) (a w : ℕ) → ((i : ℕ) → a ≤ i → f i ≡ h i) → Eight f a w → Eight h a w
eight-same f h a w same e =
    record {
      octets = λ i l. rw (same i l) at (e.octets i l);
      is = e.is ∙ ap lanes (map-count-same f h 8 a a (λ k l. same (a + k) (omega arith)));
    }

-- zeros on top do not show
pub lanes-short : (f : ℕ → ℕ) (c e a : ℕ) → ((i : ℕ) → a + c ≤ i → f i ≡ 0) → lanes (map f (count (c + e) a)) ≡ lanes (map f (count c a))
lanes-short f zero zero a h = refl
lanes-short f zero (suc e) a h =
    let z : 0 + suc e ≡ suc (0 + e) = omega arith in
    rw (z, h a (omega arith)) (omega (arith, lanes-short f zero e (suc a) (λ i l. h i (omega arith))))
lanes-short f (suc c) e a h =
    let z : suc c + e ≡ suc (c + e) = omega arith in
    rw z (ap (λ (n : ℕ). n * 256 + f a) (lanes-short f c e (suc a) (λ i l. h i (omega arith))))

-- eight octets as a number is read from them
le_lanes : (xs : List ℕ) → from_le_bytes w64 xs ≡ lanes (map (λ i. get_or xs i 0) (count 8 0))
le_lanes xs = omega arith

-- octets read to the front of eight zeros
pub lanes_read : (s ys : List ℕ) (at c : ℕ) → c ≤ 8 → at + c ≤ length s → ys ≡ take (at + c - at) (drop at s)
    → from_le_bytes w64 (ys ++ drop c (replicate 8 0)) ≡ lanes (map (λ i. get_or s i 0) (count c at))
lanes_read s ys at c l fits e =
    let xs = ys ++ drop c (replicate 8 0) in
    let many : length ys ≡ c = ap length e ∙ simp (length-take, length-drop) (omega arith) in
    let behind : (i : ℕ) → 0 + c ≤ i → get_or xs i 0 ≡ 0 = λ i h.
    get_or-append_right ys (drop c (replicate 8 0)) i 0 (omega arith) ∙ get_or-drop c (replicate 8 0) (i - length ys) 0 ∙ zeros (c + (i - length ys)) in
    let front : (k : ℕ) → k < c → get_or xs (0 + k) 0 ≡ get_or s (at + k) 0 = λ k h.
    let z : 0 + k ≡ k = omega arith in
    let in_span : k < at + c - at = omega arith in
    rw z (get_or_append_left ys (drop c (replicate 8 0)) 0 k (omega arith) ∙ rw e (get_or-take (at + c - at) (drop at s) k 0 in_span ∙ get_or-drop at s k 0)) in
    let all : c + (8 - c) ≡ 8 = omega arith in
    le_lanes xs ∙ rw all at (lanes-short (λ i. get_or xs i 0) c (8 - c) 0 behind)
    ∙ ap lanes (map-count-same (λ i. get_or xs i 0) (λ i. get_or s i 0) c 0 at front)
  where
    zeros : (i : ℕ) → get_or (replicate {A = ℕ} 8 0) i 0 ≡ 0
    zeros i =
        by_cases (dec_lt i 8)
        (λ (l : i < 8). get_or-replicate 8 i 0 0 l)
        (λ (n : ¬ (i < 8)). get_or-eq_default (replicate 8 0) 0 {n = i} (omega (arith, length-replicate {A = ℕ} 8 0)))

-- and as it is written to them
lanes_written : (f : ℕ → ℕ) (a w : ℕ) → Eight f a w → to_le_bytes w64 w ≡ map f (count 8 a)
lanes_written f a w e = le_bytes_8 (map f (count 8 a)) w refl small (omega (arith, e.is))
  where
    small : (i : ℕ) → get_or (map f (count 8 a)) i 0 < 256
    small i =
        by_cases (dec_lt i 8)
        (λ (l : i < 8). rw (get_d_map_count f 8 a i l) (e.octets (a + i) (omega arith)))
        (λ (n : ¬ (i < 8)). rw (get_or-eq_default (map f (count 8 a)) 0 {n = i} (omega arith)) (omega arith))

-- c of them stored behind the bytes filled
pub filled_more : (f : ℕ → ℕ) (n c k w : ℕ) (d xs ys : List ℕ) → c ≤ 8 → k ≡ c → Eight f n w → FilledTo f n d xs → ys ≡ take c (to_le_bytes w64 w)
    → FilledTo f (n + c) d (put_mid n k xs ys)
filled_more f n c k w d xs ys l span e so_far stored =
    let front = map f (count n 0) in
    let more = map f (count c n) in
    let all : c + (8 - c) ≡ 8 = omega arith in
    let split : map f (count 8 n) ≡ more ++ map f (count (8 - c) (n + c)) = rw all at (map-count-split f c (8 - c) n) in
    let is : ys ≡ more = stored ∙ ap (take c) (lanes_written f n w e ∙ split) ∙ take_at more (map f (count (8 - c) (n + c))) c (length-map-count f c n) in
    let z : 0 + n ≡ n = omega arith in
    let joined : map f (count (n + c) 0) ≡ front ++ more = rw z at (map-count-split f n c 0) in
    rw (span, so_far, is, joined, take_at front (drop n d) n (length-map-count f n 0), drop_at front (drop n d) n (length-map-count f n 0), drop-drop c n d, append_assoc) refl

-- one byte more is filled
pub filled_next : (f : ℕ → ℕ) (n : ℕ) (d xs : List ℕ) (x : ℕ) → FilledTo f n d xs → x ≡ f n → n < length xs → FilledTo f (n + 1) d (set xs n x)
filled_next f n d xs x so_far here l =
    let long = ap length so_far ∙ length-append (map f (count n 0)) (drop n d) in
    fill_step f n d xs x so_far here (omega (arith, long, length-map-count f n 0, length-drop n d))

-- the bytes behind those filled
pub filled-rest : (f : ℕ → ℕ) (n : ℕ) (d xs : List ℕ) → FilledTo f n d xs → (i : ℕ) → n ≤ i → get_or xs i 0 ≡ get_or d i 0
filled-rest f n d xs so_far i l =
    let long = length-map-count f n 0 in
    let e : length (map f (count n 0)) + (i - n) ≡ i = omega (arith, long) in
    let g : n + (i - n) ≡ i = omega arith in
    rw so_far (rw (e, g) at (get_or-append-add (map f (count n 0)) (drop n d) (i - n) 0 ∙ get_or-drop n d (i - n) 0))

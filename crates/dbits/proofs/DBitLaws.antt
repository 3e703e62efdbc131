-- The D bits in bytes: which bits a byte has, and which bit is which D bit.
-- Assumes nothing.
use mathlib.Core.Path.{◌≡◌, refl, sym, ◌∙◌, ap}
use mathlib.Core.Bool.{Bool, false}
use mathlib.Core.List.{List, [], ◌∷◌, ◌++◌, map}
use Prim.Native.Nat.{ℕ, zero, suc, ◌+◌, ◌*◌, ◌-◌, ◌/◌, ◌%◌, ◌^◌, ◌<◌, ◌≤◌}
use native.Mathlib.Omega.{arith}
use native.Mathlib.Nat.{add-zero, zero-add}
use lib.Dec.{eqb}
use lib.ListN.{length, get_or, take, drop, replicate, length-map, length-append, drop_of_length-le, get_or-eq_default}
use lib.Seq.{get_or-take, get_or-drop, length-take-le}
use Rattle.bits.specs.Bit.{bit_at, to_n, number_from, number, count}
use Rattle.bits.proofs.BitLaws.{to_n-one, digit, get_d_bits}
use Rattle.bits.proofs.CountLaws.{get_d_map_count}
use Rattle.channel.specs.declared.Kind.{Kind}
use Rattle.channel.specs.Kinds.{d_count}
use Rattle.channel.specs.Places.{d_places}
use Rattle.channel.specs.Coding.{Word, bits_at}
use Rattle.channel.specs.Control.{from_top}
use Rattle.channel.specs.Record.{d_bytes}
use Rattle.dplaces.proofs.DPlaceLaws.{d_length_lem, d_count_le}

-- the bits at the first n places are the first n bits
bits-take : (g : Word) (n : ℕ) (ps : List ℕ) → bits_at g (take n ps) ≡ take n (bits_at g ps)
bits-take g zero ps = refl
bits-take g (suc n) [] = refl
bits-take g (suc n) (p ∷ ps) = ap (λ (bs : List Bool). g p ∷ bs) (bits-take g n ps)

-- and those behind n places are the bits behind n
bits-drop : (g : Word) (n : ℕ) (ps : List ℕ) → bits_at g (drop n ps) ≡ drop n (bits_at g ps)
bits-drop g zero ps = refl
bits-drop g (suc n) [] = refl
bits-drop g (suc n) (p ∷ ps) = bits-drop g n ps

-- the first n bits, with others behind them, begin as all the bits do
first_seen : (n : ℕ) (bs zs : List Bool) → take n (take n bs ++ zs) ≡ take n (bs ++ zs)
first_seen zero bs zs = refl
first_seen (suc n) [] zs = refl
first_seen (suc n) (b ∷ bs) zs = ap (λ (t : List Bool). b ∷ t) (first_seen n bs zs)

-- byte j of a part: a byte from the top shows eight bits only, so those of the eight places lent are those of all from 8 j on
pub byte_of : (g : Word) (ps : List ℕ) (j n : ℕ) → n ≡ 8 → from_top (bits_at g (take n (drop (8 * j) ps))) ≡ from_top (drop (8 * j) (bits_at g ps))
byte_of g ps j n e =
    ap (λ (k : ℕ). from_top (bits_at g (take k (drop (8 * j) ps)))) e
    ∙ ap from_top (bits-take g 8 (drop (8 * j) ps) ∙ ap (take 8) (bits-drop g (8 * j) ps))
    ∙ ap number (first_seen 8 (drop (8 * j) (bits_at g ps)) (replicate 8 false))

-- zeros behind some bits do not show
zeros_unseen : (bs : List Bool) (m j : ℕ) → get_or (bs ++ replicate m false) j false ≡ get_or bs j false
zeros_unseen [] zero j = refl
zeros_unseen [] (suc m) zero = refl
zeros_unseen [] (suc m) (suc j) = zeros_unseen [] m j
zeros_unseen (b ∷ bs) m zero = refl
zeros_unseen (b ∷ bs) m (suc j) = zeros_unseen bs m j

-- bit j of a byte from the top is bit j of the bits, or zero behind their end
pub from_top-bit : (bs : List Bool) (j : ℕ) → j < 8 → from_top bs / 2 ^ (7 - j) % 2 ≡ to_n (get_or bs j false)
from_top-bit bs j h =
    let all = bs ++ replicate 8 false in
    let l : length (take 8 all) ≡ 8 = length-take-le 8 all (omega (arith, length-append bs (replicate 8 false))) in
    let e : length (take 8 all) - suc j ≡ 7 - j = omega arith in
    let d : number_from 0 (take 8 all) / 2 ^ (length (take 8 all) - suc j) % 2 ≡ to_n (get_or (take 8 all) j false) = digit (take 8 all) 0 j (omega arith) in
    rw e at d ∙ ap to_n (get_or-take 8 all j false h ∙ zeros_unseen bs 8 j)

-- bit i of the bytes is bit i of the D bits, or zero behind their end
pub bytes-bit : (g : Word) (k : Kind) (i : ℕ) → i < 152 → bit_at (d_bytes g k) i ≡ get_or (bits_at g (d_places k)) i false
unfolding d_bytes
bytes-bit g k i h =
    let bs = bits_at g (d_places k) in
    let byte : ℕ → ℕ = λ j. from_top (drop (8 * j) bs) in
    let at : get_or (map byte (count 19 0)) (i / 8) 0 ≡ from_top (drop (8 * (i / 8)) bs) = get_d_map_count byte 19 0 (i / 8) (omega arith) ∙ ap byte (zero-add (i / 8)) in
    let e : 8 * (i / 8) + i % 8 ≡ i = omega arith in
    let one : get_or (drop (8 * (i / 8)) bs) (i % 8) false ≡ get_or bs i false = get_or-drop (8 * (i / 8)) bs (i % 8) false ∙ ap (λ (n : ℕ). get_or bs n false) e in
    ap (λ (x : ℕ). eqb (x / 2 ^ (7 - i % 8) % 2) 1) at
    ∙ ap (λ (x : ℕ). eqb x 1) (from_top-bit (drop (8 * (i / 8)) bs) (i % 8) (omega arith) ∙ ap to_n one)
    ∙ to_n-one (get_or bs i false)

-- bit i of the bytes is D bit i + 1
pub d_bytes-bit : (g : Word) (k : Kind) (i : ℕ) → i < d_count k → bit_at (d_bytes g k) i ≡ g (get_or (d_places k) i 0)
d_bytes-bit g k i h =
    let l : i < length (d_places k) = rw (d_length_lem k) h in
    bytes-bit g k i (omega (arith, d_count_le k)) ∙ get_d_bits g (d_places k) i l

-- and the bits behind the last D bit are zero
pub d_bytes-past : (g : Word) (k : Kind) (i : ℕ) → d_count k ≤ i → i < 152 → bit_at (d_bytes g k) i ≡ false
d_bytes-past g k i past h =
    let l : length (bits_at g (d_places k)) ≤ i = rw (length-map (d_places k) g, d_length_lem k) past in
    bytes-bit g k i h ∙ get_or-eq_default (bits_at g (d_places k)) false {n = i} l

-- a list that is filled from the front, and whose other elements are zero, is filled whole with zeros there
zeros-rest : (f : ℕ → ℕ) (m a : ℕ) → ((k : ℕ) → k < m → f (a + k) ≡ 0) → replicate m 0 ≡ map f (count m a)
zeros-rest f zero a z = refl
zeros-rest f (suc m) a z =
    let first : f a ≡ 0 = ap f (sym (add-zero a)) ∙ z 0 (omega arith) in
    let rest = zeros-rest f m (suc a) (λ k l.
    let e : suc a + k ≡ a + suc k = omega arith in
    ap f e ∙ z (suc k) (omega arith)) in
    rw (first, rest)

fill-rest : (f : ℕ → ℕ) (n m a : ℕ) → n ≤ m → ((k : ℕ) → n ≤ k → k < m → f (a + k) ≡ 0) → map f (count n a) ++ drop n (replicate m 0) ≡ map f (count m a)
fill-rest f zero m a h z = zeros-rest f m a (λ k l. z k (omega arith) l)
fill-rest f (suc n) zero a h z = absurd (omega arith)
fill-rest f (suc n) (suc m) a h z =
    ap (λ (l : List ℕ). f a ∷ l)
    (fill-rest f n m (suc a) (omega arith) (λ k l u.
    let e : suc a + k ≡ a + suc k = omega arith in
    ap f e ∙ z (suc k) (omega arith) (omega arith)))

-- so bytes behind the last D bit need not be filled
pub bytes_rest : (bs : List Bool) (n : ℕ) → (length bs + 7) / 8 ≤ n → n ≤ 19
    → map (λ j. from_top (drop (8 * j) bs)) (count n 0) ++ drop n (replicate 19 0) ≡ map (λ j. from_top (drop (8 * j) bs)) (count 19 0)
bytes_rest bs n e l =
    fill-rest (λ j. from_top (drop (8 * j) bs)) n 19 0 l
    (λ k a b. rw (zero-add k, drop_of_length-le bs {i = 8 * k} (omega arith)))

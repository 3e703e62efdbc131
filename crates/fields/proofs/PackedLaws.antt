-- A field packed of bits: its ones, and the byte that it tops.
-- Assumes nothing.
use mathlib.Core.Path.{◌≡◌, sym, ◌∙◌}
use mathlib.Core.Bool.{Bool, true, false}
use mathlib.Core.List.{List, [], ◌∷◌, ◌++◌}
use Prim.Native.Nat.{ℕ, zero, suc, ◌+◌, ◌*◌, ◌-◌, ◌/◌, ◌%◌, ◌^◌, ◌<◌, ◌≤◌}
use native.Mathlib.Omega.{arith}
use native.Mathlib.Nat.{zero-add, sub-zero, pow-suc, mul_assoc, mul_comm, mod-eq_of_lt, not-suc-le-zero, le_of_suc-le-suc}
use lib.Count as Count
use lib.Dec.{eqb}
use lib.ListN.{length, take, replicate, length-map}
use lib.Pow.{shl_lt}
use Rattle.bits.specs.Bit.{to_n, number_from, number}
use Rattle.bits.proofs.BitLaws.{number_lt}
use Rattle.channel.specs.Coding.{Word, bits_at, ones, odd}
use Rattle.channel.specs.Control.{from_top}

-- a bit behind a field: its digits
bit-last : (a : ℕ) (b : Bool) → Count.ones (2 * a + to_n b) ≡ Count.ones a + to_n b
bit-last a b =
    let m : (2 * a + to_n b) % 2 ≡ to_n b = last b in
    let d : (2 * a + to_n b) / 2 ≡ a = rest b in
    Count.ones_step (2 * a + to_n b) ∙ rw (m, d) (omega arith)
  where
    last : (b : Bool) → (2 * a + to_n b) % 2 ≡ to_n b
    last true = omega arith
    last false = omega arith

    rest : (b : Bool) → (2 * a + to_n b) / 2 ≡ a
    rest true = omega arith
    rest false = omega arith

ones-from : (bs : List Bool) (a : ℕ) → Count.ones (number_from a bs) ≡ Count.ones a + ones bs
ones-from [] a = omega arith
ones-from (b ∷ bs) a = omega (arith, ones-from bs (2 * a + to_n b), bit-last a b)

-- the language's count of ones, on a field packed of bits, is the number of ones among them
ones-packed : (bs : List Bool) → Count.ones (number bs) ≡ ones bs
unfolding Count.ones Count.ones_in
ones-packed bs = ones-from bs 0 ∙ zero-add (ones bs)

-- so its parity is theirs
pub odd-packed : (field : ℕ) (r : Bool) (bs : List Bool) → r ≡ eqb (Count.ones field % 2) 1 → field ≡ number bs → r ≡ odd bs
odd-packed field r bs h e = h ∙ rw (e, ones-packed bs)

-- n zeros behind a number double it n times
zeros-behind : (n m a : ℕ) → n ≤ m → number_from a (take n (replicate m false)) ≡ a * 2 ^ n
zeros-behind zero m a h = omega arith
zeros-behind (suc n) zero a h = absurd (not-suc-le-zero h)
zeros-behind (suc n) (suc m) a h =
    let e : 2 * a + 0 ≡ a * 2 = omega arith in
    zeros-behind n m (2 * a + 0) (le_of_suc-le-suc h)
    ∙ rw (e, pow-suc, mul_assoc, mul_comm (2 ^ n) 2)

-- at most n bits, filled up with zeros to n, as a number: that of the bits, doubled for each zero
zeros-fill : (bs : List Bool) (n m a : ℕ) → length bs ≤ n → n ≤ length bs + m → number_from a (take n (bs ++ replicate m false)) ≡ number_from a bs * 2 ^ (n - length bs)
zeros-fill [] n m a l h = rw sub-zero (zeros-behind n m a (rw zero-add at h))
zeros-fill (b ∷ bs) zero m a l h = absurd (not-suc-le-zero l)
zeros-fill (b ∷ bs) (suc n) m a l h =
    let e : suc n - suc (length bs) ≡ n - length bs = omega arith in
    rw e (zeros-fill bs n m (2 * a + to_n b) (le_of_suc-le-suc l) (omega arith))

-- a field of at most eight bits above the zeros that are missing is a byte
padded_lt : (bs : List Bool) → length bs ≤ 8 → number bs * 2 ^ (8 - length bs) < 256
padded_lt bs h =
    let e : length bs + (8 - length bs) ≡ 8 = omega arith in
    rw e at (shl_lt (length bs) (8 - length bs) (number_lt bs))

-- a field of the bits at some places, shifted up by what is missing to eight, is the byte that has them from the top
pub top_of : (g : Word) (ps : List ℕ) (field r : ℕ) → length ps ≤ 8 → field ≡ number (bits_at g ps) → r ≡ field * 2 ^ (8 - length ps) % 256 → r ≡ from_top (bits_at g ps)
top_of g ps field r h read put =
    let bs = bits_at g ps in
    let l : length bs ≡ length ps = length-map ps g in
    let few : length bs ≤ 8 = omega arith in
    put ∙ rw (read, sym l, mod-eq_of_lt (padded_lt bs few)) (sym (zeros-fill bs 8 8 0 few (omega arith)))

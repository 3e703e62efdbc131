-- Neighbouring bits taken at once: places that are two runs of neighbours give a number of two.
-- Assumes nothing.
use mathlib.Core.Path.{◌≡◌, sym, ◌∙◌, ap, ap₂}
use mathlib.Core.Logic.{by_cases}
use mathlib.Core.List.{List, ◌++◌, map-append}
use Prim.Native.Nat.{ℕ, zero, suc, ◌+◌, ◌*◌, ◌-◌, ◌/◌, ◌%◌, ◌^◌, ◌<◌, ◌≤◌}
use native.Mathlib.Nat.{mod-lt, add-zero, zero-add, div-eq_of_lt}
use native.Mathlib.Decide.{dec_lt}
use native.Mathlib.Omega.{arith}
use lib.ListN.{length, get_or, length-append, get_or-append}
use lib.Pow.{pow_pos, shr-shr}
use lib.Seq.{ext_get_or, get_or-append-add}
use Rattle.bits.specs.Bit.{bit_at, to_n, number, count}
use Rattle.bits.proofs.BitLaws.{number_append, number_from_lem, rebuilt, low_bit, byte-bit}
use Rattle.bits.proofs.CountLaws.{length-count, length-map-count, get_d_count}
use Rattle.channel.specs.Coding.{Word, bits_at}
use Rattle.entries.specs.Entry.{Rising, FirstRun}

-- the bits of one octet from p on, r of them, are a field of its number
pub run_number : (s : List ℕ) (p r x : ℕ) → p % 8 + r ≤ 8 → x ≡ get_or s (p / 8) 0 / 2 ^ (8 - p % 8 - r) % 2 ^ r → (x ≡ number (bits_at (bit_at s) (count r p))) × (x < 2 ^ r)
run_number s p r x h e =
    let l : x < 2 ^ r = rw e (mod-lt (get_or s (p / 8) 0 / 2 ^ (8 - p % 8 - r)) (pow_pos r)) in
    let z : x / 2 ^ r ≡ 0 = div_small x (2 ^ r) l in
    (sym (rw z at (rebuilt (bit_at s) r p x bit)), l)
  where
    b : ℕ
    b = get_or s (p / 8) 0

    div_small : (x n : ℕ) → x < n → x / n ≡ 0
    div_small x n l = div-eq_of_lt l

    bit : (j : ℕ) → j < r → x / 2 ^ (r - suc j) % 2 ≡ to_n (bit_at s (p + j))
    bit j l =
        let a : j + (1 + (r - suc j)) ≡ r = omega arith in
        let d : 8 - p % 8 - r + (r - suc j) ≡ 7 - (p % 8 + j) = omega arith in
        let q : 8 * (p / 8) + (p % 8 + j) ≡ p + j = omega arith in
        rw e
        (rw a at (low_bit (get_or s (p / 8) 0 / 2 ^ (8 - p % 8 - r)) j (r - suc j))
        ∙ ap (λ (n : ℕ). n % 2) (shr-shr (get_or s (p / 8) 0) (8 - p % 8 - r) (r - suc j) ∙ ap (λ (k : ℕ). get_or s (p / 8) 0 / 2 ^ k) d)
        ∙ byte-bit s (p / 8) (p % 8 + j) (omega arith) ∙ ap (λ (k : ℕ). to_n (bit_at s k)) q)

-- rising places climb by one at least
climbs : (ps : List ℕ) → Rising ps → (a k : ℕ) → a + k < length ps → get_or ps a 0 + k ≤ get_or ps (a + k) 0
climbs ps h a zero l = rw (add-zero a, add-zero (get_or ps a 0)) (omega arith)
climbs ps h a (suc k) l =
    let e : a + suc k ≡ suc (a + k) = omega arith in
    let i = climbs ps h a k (omega arith) in
    let n = h (a + k) (omega arith) in
    rw e (omega arith)

-- so where the last of some is as far from the first as their number says, they are neighbours
neighbours : (ps : List ℕ) → Rising ps → (a r : ℕ) → a + r < length ps → get_or ps (a + r) 0 ≡ get_or ps a 0 + r → (i : ℕ) → i ≤ r → get_or ps (a + i) 0 ≡ get_or ps a 0 + i
neighbours ps h a r l e i m =
    let up = climbs ps h a i (omega arith) in
    let q : a + i + (r - i) ≡ a + r = omega arith in
    let down : get_or ps (a + i) 0 + (r - i) ≤ get_or ps (a + r) 0 = rw q at (climbs ps h (a + i) (r - i) (omega arith)) in
    omega arith

-- places that are two runs
pub runs_two : (ps : List ℕ) (s : ℕ) → Rising ps → s < length ps → FirstRun ps s → get_or ps (length ps - 1) 0 ≡ get_or ps s 0 + (length ps - 1 - s)
    → ps ≡ count s (get_or ps 0 0) ++ count (length ps - s) (get_or ps s 0)
runs_two ps s h low first last =
    ext_get_or 0 ps (count s (get_or ps 0 0) ++ count (length ps - s) (get_or ps s 0)) (sym (length-append (count s (get_or ps 0 0)) (count (length ps - s) (get_or ps s 0)) ∙ ap₂ (λ (a b : ℕ). a + b) (length-count s (get_or ps 0 0)) (length-count (length ps - s) (get_or ps s 0)) ∙ all)) at
  where
    all : s + (length ps - s) ≡ length ps
    all = omega arith

    second : (i : ℕ) → i < length ps - s → get_or ps (s + i) 0 ≡ get_or ps s 0 + i
    second i m =
        let e : s + (length ps - 1 - s) ≡ length ps - 1 = omega arith in
        neighbours ps h s (length ps - 1 - s) (omega arith) (rw e last) i (omega arith)

    at : (i : ℕ) → i < length ps → get_or ps i 0 ≡ get_or (count s (get_or ps 0 0) ++ count (length ps - s) (get_or ps s 0)) i 0
    at i m =
        by_cases (dec_lt i s)
        (λ (n : i < s).
        first i n ∙ sym (get_or-append (count s (get_or ps 0 0)) (count (length ps - s) (get_or ps s 0)) 0 i (rw (length-count s (get_or ps 0 0)) n) ∙ get_d_count s (get_or ps 0 0) i n))
        (λ (n : ¬ (i < s)).
        let e : length (count s (get_or ps 0 0)) + (i - s) ≡ i = omega (arith, length-count s (get_or ps 0 0)) in
        let k : s + (i - s) ≡ i = omega arith in
        rw k at (second (i - s) (omega arith))
        ∙ sym (rw e at (get_or-append-add (count s (get_or ps 0 0)) (count (length ps - s) (get_or ps s 0)) (i - s) 0) ∙ get_d_count (length ps - s) (get_or ps s 0) (i - s) (omega arith)))

-- the first of them, where the last of the run is as far from the first as their number says
pub first_run : (ps : List ℕ) (s : ℕ) → Rising ps → s < length ps → 0 < s → get_or ps (s - 1) 0 ≡ get_or ps 0 0 + (s - 1) → FirstRun ps s
first_run ps s h l low e i m =
    let z : 0 + (s - 1) ≡ s - 1 = omega arith in
    rw (zero-add i) at (neighbours ps h 0 (s - 1) (omega arith) (rw z e) i (omega arith))

-- two runs behind each other, by their numbers
pub pair_number : (g : Word) (p s q t : ℕ) → number (bits_at g (count s p ++ count t q)) ≡ number (bits_at g (count s p)) * 2 ^ t + number (bits_at g (count t q))
pair_number g p s q t =
    let first = bits_at g (count s p) in
    let second = bits_at g (count t q) in
    let n : length second ≡ t = length-map-count g t q in
    ap number (map-append g (count s p) (count t q)) ∙ number_append first second 0 ∙ number_from_lem second (number first) ∙ rw n

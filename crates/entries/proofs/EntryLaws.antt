-- How two octets make the byte of the bits at some places.
-- Assumes nothing.
use mathlib.Core.Path.{◌≡◌, refl, sym, ◌∙◌, ap, ap₂}
use mathlib.Core.List.{List}
use Prim.Native.Nat.{ℕ, ◌+◌, ◌*◌, ◌-◌, ◌/◌, ◌%◌, ◌^◌, ◌<◌, ◌≤◌}
use native.Mathlib.Nat.{mul-zero, mul_assoc, add-mul}
use native.Mathlib.Omega.{arith}
use lib.Bits.{bit_and, and_high, and_block, and_lt, and_zero_r}
use lib.Dec.{lit<}
use lib.ListN.{length, get_or}
use lib.Pow.{pow-add, shl-shr, shr-shr, split, pow_mono}
use Rattle.bits.specs.Bit.{bit_at, number, count}
use Rattle.channel.specs.Coding.{bits_at}
use Rattle.channel.specs.Control.{from_top}
use Rattle.fields.proofs.PackedLaws.{top_of}
use Rattle.entries.specs.Entry.{Rising, Whole, FirstRun, FirstBy, FirstEnds, back_of, first_count, second_start, second_mask, EntryBy}
use Rattle.entries.proofs.BackLaws.{entry-back}
use Rattle.entries.proofs.RunLaws.{run_number, runs_two, pair_number}

-- the second run, moved to where the first ends, under its mask
second-value : (o : List ℕ) (q s n b : ℕ) → q / 8 ≡ b → s < n → n ≤ 8 → q % 8 + (n - s) ≤ 8
    → bit_and (get_or o b 0 * 2 ^ (8 + q % 8 - s)) (2 ^ (16 - s) - 2 ^ (16 - n)) ≡ number (bits_at (bit_at o) (count (n - s) q)) * 2 ^ (16 - n)
second-value o q s n b at l u r =
    let t = n - s in
    let d = 8 - q % 8 - (n - s) in
    let e = 8 + q % 8 - s in
    let x = get_or o b 0 in
    let e₁ : n - s + (16 - n) ≡ 16 - s = omega arith in
    let e₂ : 8 + q % 8 - s + (8 - q % 8 - (n - s)) ≡ 16 - n = omega arith in
    let part : get_or o b 0 * 2 ^ (8 + q % 8 - s) / 2 ^ (16 - n) ≡ get_or o b 0 / 2 ^ (8 - q % 8 - (n - s)) =
    ap (λ (k : ℕ). get_or o b 0 * 2 ^ (8 + q % 8 - s) / 2 ^ k) (sym e₂) ∙ sym (shr-shr (get_or o b 0 * 2 ^ (8 + q % 8 - s)) (8 + q % 8 - s) (8 - q % 8 - (n - s))) ∙ ap (λ (k : ℕ). k / 2 ^ (8 - q % 8 - (n - s))) (shl-shr (get_or o b 0) (8 + q % 8 - s)) in
    let field = run_number o q (n - s) (get_or o b 0 / 2 ^ (8 - q % 8 - (n - s)) % 2 ^ (n - s)) r (rw at refl) in
    rw e₁ at (and_high (get_or o b 0 * 2 ^ (8 + q % 8 - s)) (n - s) (16 - n))
    ∙ ap (λ (k : ℕ). k % 2 ^ (n - s) * 2 ^ (16 - n)) part
    ∙ ap (λ (k : ℕ). k * 2 ^ (16 - n)) field.0

-- a first run that ends its octet
pub first-whole : (ps : List ℕ) (s a f : ℕ) → s ≡ 8 - get_or ps 0 0 % 8 → a ≡ get_or ps 0 0 / 8 → f ≡ 2 ^ (16 - s) → FirstBy ps s a f
first-whole ps s a f es ea ef o =
    let p = get_or ps 0 0 in
    let x = get_or o (get_or ps 0 0 / 8) 0 in
    let z : 8 - get_or ps 0 0 % 8 - s ≡ 0 = omega arith in
    let one : x / 1 ≡ x = omega arith in
    let field = run_number o p s (x % 2 ^ s) (omega arith) (rw (z, one) refl) in
    (x / 2 ^ s, rw (ea, ef, ← field.0) (whole x s (omega arith)))
  where
    arrange : (h c u w m n : ℕ) → u * m ≡ 65536 → m ≡ n * 256 → (h * u + w) * m ≡ (h * 256 + w * n) * 256
    arrange h c u w m n e d =
        let a : (h * u + w) * m ≡ h * u * m + w * m = add-mul (h * u) w m in
        let b : h * u * m ≡ h * 65536 = mul_assoc h u m ∙ ap (λ (k : ℕ). h * k) e in
        let v : w * m ≡ w * n * 256 = ap (λ (k : ℕ). w * k) d ∙ sym (mul_assoc w n 256) in
        a ∙ omega arith

    whole : (x s : ℕ) → s ≤ 8 → x * 2 ^ (16 - s) ≡ (x / 2 ^ s * 256 + x % 2 ^ s * 2 ^ (8 - s)) * 256
    whole x s l =
        let e : s + (16 - s) ≡ 16 = omega arith in
        let d : 8 - s + 8 ≡ 16 - s = omega arith in
        ap (λ (k : ℕ). k * 2 ^ (16 - s)) (sym (split x s))
        ∙ arrange (x / 2 ^ s) 0 (2 ^ s) (x % 2 ^ s) (2 ^ (16 - s)) (2 ^ (8 - s)) (sym (pow-add 2 s (16 - s)) ∙ ap (λ (k : ℕ). 2 ^ k) e) (ap (λ (k : ℕ). 2 ^ k) (sym d) ∙ pow-add 2 (8 - s) 8)

-- no first run
pub first-none : (ps : List ℕ) (a : ℕ) → FirstBy ps 0 a 0
first-none ps a o = (0, mul-zero (get_or o a 0))

-- a mask of whole bytes
mask_whole : (i j : ℕ) → 8 ≤ i → 8 ≤ j → (2 ^ i - 2 ^ j) % 256 ≡ 0
mask_whole i j h l =
    let e : i - 8 + 8 ≡ i = omega arith in
    let d : j - 8 + 8 ≡ j = omega arith in
    let x : 2 ^ i ≡ 2 ^ (i - 8) * 256 = ap (λ (k : ℕ). 2 ^ k) (sym e) ∙ pow-add 2 (i - 8) 8 in
    let y : 2 ^ j ≡ 2 ^ (j - 8) * 256 = ap (λ (k : ℕ). 2 ^ k) (sym d) ∙ pow-add 2 (j - 8) 8 in
    rw (x, y) (plain (2 ^ (i - 8)) (2 ^ (j - 8)))
  where
    plain : (u v : ℕ) → (u * 256 - v * 256) % 256 ≡ 0
    plain u v = omega arith

pub pow-whole : (k : ℕ) → 8 ≤ k → 2 ^ k % 256 ≡ 0
pow-whole k h =
    let e : k - 8 + 8 ≡ k = omega arith in
    rw (ap (λ (k : ℕ). 2 ^ k) (sym e) ∙ pow-add 2 (k - 8) 8) (plain (2 ^ (k - 8)))
  where
    plain : (u : ℕ) → u * 256 % 256 ≡ 0
    plain u = omega arith

times-whole : (x f : ℕ) → f % 256 ≡ 0 → x * f % 256 ≡ 0
times-whole x f h =
    let e : f ≡ f / 256 * 256 = omega arith in
    rw e (ap (λ (k : ℕ). k % 256) (sym (mul_assoc x (f / 256) 256)) ∙ plain (x * (f / 256)))
  where
    plain : (u : ℕ) → u * 256 % 256 ≡ 0
    plain u = omega arith

-- a number below the mask's whole bytes does not show above
under : (u x m a : ℕ) → u % 256 ≡ 0 → m % 256 ≡ 0 → a < 256 → (u + bit_and x (m + a)) / 256 % 256 ≡ (u + bit_and x m) / 256 % 256
under u x m a hu hm l =
    let ex : x ≡ x / 256 * 2 ^ 8 + x % 256 = omega arith in
    let em : m ≡ m / 256 * 2 ^ 8 + 0 = omega arith in
    let ea : m + a ≡ m / 256 * 2 ^ 8 + a = omega arith in
    let p : bit_and x (m + a) ≡ bit_and (x / 256) (m / 256) * 2 ^ 8 + bit_and (x % 256) a = ap₂ bit_and ex ea ∙ and_block 8 (x / 256) (m / 256) (x % 256) a (omega arith) l in
    let q : bit_and x m ≡ bit_and (x / 256) (m / 256) * 2 ^ 8 + bit_and (x % 256) 0 = ap₂ bit_and ex em ∙ and_block 8 (x / 256) (m / 256) (x % 256) 0 (omega arith) (lit< tt) in
    let r : bit_and (x % 256) a < 256 = and_lt 8 (x % 256) a (omega arith) l in
    rw (p, q, and_zero_r (x % 256)) (plain u (bit_and (x / 256) (m / 256)) (bit_and (x % 256) a) hu r)
  where
    plain : (u b c : ℕ) → u % 256 ≡ 0 → c < 256 → (u + (b * 256 + c)) / 256 % 256 ≡ (u + (b * 256 + 0)) / 256 % 256
    plain u b c h l = omega arith

-- what stands above the mask, part by part
back_parts : (v mask e s w : ℕ) → v < 65536 → e < 16 → s < 16 → w ≡ mask * 256 + (e * 16 + s)
    → (first_count (v + w * 65536) ≡ s) × (second_start (v + w * 65536) ≡ e) × (second_mask (v + w * 65536) ≡ mask)
back_parts v mask e s w hv he hs ew = (omega arith, omega arith, omega arith)

-- nor does it show in the byte that is read
over : (u x v w : ℕ) → v < 65536 → (u + bit_and x (v + w * 65536)) / 256 % 256 ≡ (u + bit_and x v) / 256 % 256
over u x v w l =
    let ex : x ≡ x / 65536 * 2 ^ 16 + x % 65536 = omega arith in
    let ew : v + w * 65536 ≡ w * 2 ^ 16 + v = omega arith in
    let ev : v ≡ 0 * 2 ^ 16 + v = omega arith in
    let p : bit_and x (v + w * 65536) ≡ bit_and (x / 65536) w * 2 ^ 16 + bit_and (x % 65536) v = ap₂ bit_and ex ew ∙ and_block 16 (x / 65536) w (x % 65536) v (omega arith) l in
    let q : bit_and x v ≡ bit_and (x / 65536) 0 * 2 ^ 16 + bit_and (x % 65536) v = ap₂ bit_and ex ev ∙ and_block 16 (x / 65536) 0 (x % 65536) v (omega arith) l in
    rw (p, q, and_zero_r (x / 65536)) (plain u (bit_and (x / 65536) w) (bit_and (x % 65536) v))
  where
    plain : (u b c : ℕ) → (u + (b * 65536 + c)) / 256 % 256 ≡ (u + (0 * 65536 + c)) / 256 % 256
    plain u b c = omega arith

-- the numbers of two runs are small
pub entry-small : (ps : List ℕ) (s a f h m : ℕ) → s < length ps → length ps ≤ 8 → f ≤ 32768 → h ≤ 2 ^ 15 → m ≡ 2 ^ (16 - s) - 2 ^ (16 - length ps) → a < 19 → (w : ℕ)
    → ((m + a + w * 65536) % 256 < 19) × (f ≤ 32768) × (h ≤ 32768)
entry-small ps s a f h m l u small eh em in19 w =
    let clear : m % 256 ≡ 0 = rw em (mask_whole (16 - s) (16 - length ps) (omega arith) (omega arith)) in
    let i : (m + a + w * 65536) % 256 ≡ a = omega arith in
    (rw i in19, small, eh)

-- the byte of two runs
pub entry-made : (ps : List ℕ) (s a f h m : ℕ) → Rising ps → s < length ps → length ps ≤ 8 → f ≤ 32768 → FirstRun ps s → FirstBy ps s a f
    → get_or ps s 0 / 8 ≡ a + 1 → get_or ps s 0 % 8 + (length ps - s) ≤ 8 → get_or ps (length ps - 1) 0 ≡ get_or ps s 0 + (length ps - 1 - s)
    → h ≡ 2 ^ (8 + get_or ps s 0 % 8 - s) → m ≡ 2 ^ (16 - s) - 2 ^ (16 - length ps) → a < 19 → Whole f → FirstEnds ps s a → (w : ℕ) → w ≡ back_of s (get_or ps s 0 % 8) (length ps - s) → EntryBy ps (m + a + w * 65536) f h
entry-made ps s a f h m rises l u small run first octet room last eh em in19 whole ends w ew =
    let clear : m % 256 ≡ 0 = rw em (mask_whole (16 - s) (16 - length ps) (omega arith) (omega arith)) in
    let low : m + a < 65536 = omega (arith, em, pow_mono {i = 16 - s} {j = 16} (omega arith), pow_mono {i = 8} {j = 16 - length ps} (omega arith)) in
    let i : (m + a + w * 65536) % 256 ≡ a = omega arith in
    let parts = back_parts (m + a) (2 ^ (8 - get_or ps s 0 % 8) - 2 ^ (8 - get_or ps s 0 % 8 - (length ps - s))) (get_or ps s 0 % 8) s w low (omega arith) (omega arith) ew in
    record {
      made = λ o. rw i (over (get_or o a 0 * f) (get_or o (a + 1) 0 * h) (m + a) w low ∙ under (get_or o a 0 * f) (get_or o (a + 1) 0 * h) m a (times-whole (get_or o a 0) f whole) clear (omega arith) ∙ made o (first o).0 (first o).1);
      put_back = entry-back ps s a (get_or ps s 0 % 8) (m + a + w * 65536) l u in19 ends (runs_two ps s rises l run last) octet refl room i parts.0 parts.1 parts.2;
    }
  where
    n : ℕ
    n = length ps

    made : (o : List ℕ) (high : ℕ) → get_or o a 0 * f ≡ (high * 256 + number (bits_at (bit_at o) (count s (get_or ps 0 0))) * 2 ^ (8 - s)) * 256
        → (get_or o a 0 * f + bit_and (get_or o (a + 1) 0 * h) m) / 256 % 256 ≡ from_top (bits_at (bit_at o) ps)
    made o high e =
        let g = bit_at o in
        let x = number (bits_at (bit_at o) (count s (get_or ps 0 0))) in
        let y = number (bits_at (bit_at o) (count (length ps - s) (get_or ps s 0))) in
        let second : bit_and (get_or o (a + 1) 0 * h) m ≡ y * 2 ^ (16 - length ps) = rw (eh, em) (second-value o (get_or ps s 0) s (length ps) (a + 1) octet l u room) in
        let all : number (bits_at (bit_at o) ps) ≡ x * 2 ^ (length ps - s) + y = ap (λ (qs : List ℕ). number (bits_at (bit_at o) qs)) (runs_two ps s rises l run last) ∙ pair_number (bit_at o) (get_or ps 0 0) s (get_or ps s 0) (length ps - s) in
        rw (e, second)
        (top_of (bit_at o) ps (x * 2 ^ (length ps - s) + y) _ u (sym all) (joined high x y (2 ^ (8 - s)) (2 ^ (16 - length ps)) (2 ^ (8 - length ps)) (2 ^ (length ps - s)) p₁ p₂))
      where
        p₁ : 2 ^ (length ps - s) * 2 ^ (8 - length ps) ≡ 2 ^ (8 - s)
        p₁ = let k : length ps - s + (8 - length ps) ≡ 8 - s = omega arith in sym (pow-add 2 (length ps - s) (8 - length ps)) ∙ ap (λ (k : ℕ). 2 ^ k) k

        p₂ : 2 ^ (16 - length ps) ≡ 2 ^ (8 - length ps) * 256
        p₂ = let k : 16 - length ps ≡ 8 - length ps + 8 = omega arith in ap (λ (k : ℕ). 2 ^ k) k ∙ pow-add 2 (8 - length ps) 8

        joined : (high x y i j k t : ℕ) → t * k ≡ i → j ≡ k * 256 → ((high * 256 + x * i) * 256 + y * j) / 256 % 256 ≡ (x * t + y) * k % 256
        joined high x y i j k t a b =
            let v : y * j ≡ y * k * 256 = ap (λ (r : ℕ). y * r) b ∙ sym (mul_assoc y k 256) in
            let w : (x * t + y) * k ≡ x * i + y * k = add-mul (x * t) y k ∙ ap (λ (r : ℕ). r + y * k) (mul_assoc x t k ∙ ap (λ (r : ℕ). x * r) a) in
            rw (v, w) (plain high (x * i) (y * k))
          where
            plain : (h u v : ℕ) → ((h * 256 + u) * 256 + v * 256) / 256 % 256 ≡ (u + v) % 256
            plain h u v = omega arith

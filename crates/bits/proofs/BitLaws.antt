-- Bits as a number; octets and their bits: the bits of an octet, the octet that has given bits, and what shifting two bytes and cutting off low bits make of them.
-- Assumes nothing.
use mathlib.Core.Path.{◌≡◌, refl, ap, sym, ◌∙◌, fun_ext}
use mathlib.Core.Logic.{by_cases}
use mathlib.Core.Bool.{Bool, true, false, ◌&&◌}
use mathlib.Core.List.{List, [], ◌∷◌, ◌++◌, map}
use Prim.Native.Nat.{ℕ, zero, suc, ◌+◌, ◌*◌, ◌-◌, ◌/◌, ◌%◌, ◌^◌, ◌<◌, ◌≤◌}
use native.Mathlib.Nat.{not-suc-le-zero, le_of_suc-le-suc, add-zero, zero-add, zero-div, add-mul, mul_assoc, mul_comm, pow-suc}
use native.Mathlib.Numerals.{add-one}
use native.Mathlib.Decide.{dec_lt}
use native.Mathlib.Omega.{arith}
use borrow.Author.Tests.{lt-ltb, le-ltb}
use lib.Dec.{eqb, ltb, lit<}
use lib.ListN.{length, get_or}
use lib.Pow.{pow-add, shr_lt, shr-shr, shl-shr, shl_exact, high, low, field, mod-mod-pow}
use lib.Seq.{ext_get_or}
use Rattle.bits.specs.Bit.{bit_at, to_n, number_from, number, count, octet_of, twenty, bits_from}
use Rattle.bits.proofs.CountLaws.{length-map-count, get_d_count, get_d_map_count, map-count-same}

-- a bit is 0 or 1
pub to_n_lt : (b : Bool) → to_n b < 2
to_n_lt true = lit< tt
to_n_lt false = lit< tt

-- a bit is told by its number
pub to_n-one : (b : Bool) → eqb (to_n b) 1 ≡ b
to_n-one true = refl
to_n-one false = refl

-- and a number below 2 by its bit
pub one-to_n : (x : ℕ) → x < 2 → to_n (eqb x 1) ≡ x
one-to_n zero h = refl
one-to_n (suc zero) h = refl
one-to_n (suc (suc x)) h = absurd (not-suc-le-zero (le_of_suc-le-suc (le_of_suc-le-suc h)))

-- bits behind bits
pub number_append : (xs ys : List Bool) (a : ℕ) → number_from a (xs ++ ys) ≡ number_from (number_from a xs) ys
number_append [] ys a = refl
number_append (x ∷ xs) ys a = number_append xs ys (2 * a + to_n x)

-- what stands above the digits of a list is pushed up by them
pub number_from_lem : (bs : List Bool) (a : ℕ) → number_from a bs ≡ a * 2 ^ length bs + number bs
number_from_lem [] a = omega arith
number_from_lem (b ∷ bs) a =
    let e : 2 ^ suc (length bs) ≡ 2 ^ length bs * 2 = pow-suc 2 (length bs) in
    let f : (2 * a + to_n b) * 2 ^ length bs ≡ a * (2 ^ length bs * 2) + to_n b * 2 ^ length bs =
    add-mul (2 * a) (to_n b) (2 ^ length bs)
    ∙ ap (λ (n : ℕ). n + to_n b * 2 ^ length bs) (ap (λ (n : ℕ). n * 2 ^ length bs) (mul_comm 2 a) ∙ mul_assoc a 2 (2 ^ length bs) ∙ ap (λ (n : ℕ). a * n) (mul_comm 2 (2 ^ length bs))) in
    let z : 2 * 0 + to_n b ≡ to_n b = omega arith in
    let g : number_from (2 * 0 + to_n b) bs ≡ to_n b * 2 ^ length bs + number bs = ap (λ (n : ℕ). number_from n bs) z ∙ number_from_lem bs (to_n b) in
    number_from_lem bs (2 * a + to_n b) ∙ rw (e, g) (omega arith)

-- and is no more than they hold
pub number_lt : (bs : List Bool) → number bs < 2 ^ length bs
number_lt [] = omega arith
number_lt (b ∷ bs) =
    let z : 2 * 0 + to_n b ≡ to_n b = omega arith in
    rw (pow-suc 2 (length bs), z, number_from_lem bs (to_n b)) (go b (number_lt bs))
  where
    go : (b : Bool) → number bs < 2 ^ length bs → to_n b * 2 ^ length bs + number bs < 2 ^ length bs * 2
    go true h = omega arith
    go false h = omega arith

-- so above the bits that are put behind a stands a
above : (bs : List Bool) (a : ℕ) → number_from a bs / 2 ^ length bs ≡ a
above bs a = rw (number_from_lem bs a) (high a (length bs) (number_lt bs))

-- and below it each of the bits in its place
pub digit : (bs : List Bool) (a j : ℕ) → j < length bs → number_from a bs / 2 ^ (length bs - suc j) % 2 ≡ to_n (get_or bs j false)
digit [] a j h = absurd (not-suc-le-zero h)
digit (b ∷ bs) a zero h =
    let e : suc (length bs) - 1 ≡ length bs = omega arith in
    rw (e, above bs (2 * a + to_n b)) (omega (arith, to_n_lt b))
digit (b ∷ bs) a (suc j) h =
    let e : suc (length bs) - suc (suc j) ≡ length bs - suc j = omega arith in
    rw e (digit bs (2 * a + to_n b) j (le_of_suc-le-suc h))

-- a bit of a list of bits at places
pub get_d_bits : (g : ℕ → Bool) (ps : List ℕ) (i : ℕ) → i < length ps → get_or (map g ps) i false ≡ g (get_or ps i 0)
get_d_bits g [] i h = absurd (not-suc-le-zero h)
get_d_bits g (p ∷ ps) zero h = refl
get_d_bits g (p ∷ ps) (suc i) h = get_d_bits g ps i (le_of_suc-le-suc h)

-- a number is what is above its m low bits, with these put behind it
pub rebuilt : (g : ℕ → Bool) (m b x : ℕ) → ((j : ℕ) → j < m → x / 2 ^ (m - suc j) % 2 ≡ to_n (g (b + j))) → number_from (x / 2 ^ m) (map g (count m b)) ≡ x
rebuilt g zero b x h = omega arith
rebuilt g (suc m) b x h =
    let e : suc m - 1 ≡ m = omega arith in
    let first : x / 2 ^ m % 2 ≡ to_n (g b) = rw (e, add-zero b) at (h 0 (omega arith)) in
    let half : x / 2 ^ m / 2 ^ 1 ≡ x / 2 ^ suc m = rw add-one at (shr-shr x m 1) in
    let next : 2 * (x / 2 ^ suc m) + to_n (g b) ≡ x / 2 ^ m = omega arith in
    ap (λ (v : ℕ). number_from v (map g (count m (suc b)))) next
    ∙ rebuilt g m (suc b) x (λ j l.
    let i : b + suc j ≡ suc b + j = omega arith in
    let d : suc m - suc (suc j) ≡ m - suc j = omega arith in
    rw d at (h (suc j) (omega arith)) ∙ ap (λ (k : ℕ). to_n (g k)) i)

-- bit j of octet k is the bit g (8 k + j)
pub octet-bit : (g : ℕ → Bool) (k j : ℕ) → j < 8 → octet_of g k / 2 ^ (7 - j) % 2 ≡ to_n (g (8 * k + j))
unfolding octet_of
octet-bit g k j h =
    let e : 8 - suc j ≡ 7 - j = omega arith in
    rw e at (digit (map g (count 8 (8 * k))) 0 j h) ∙ ap to_n (get_d_bits g (count 8 (8 * k)) j h ∙ ap g (get_d_count 8 (8 * k) j h))

-- an octet is determined by its bits
octet-one : (g : ℕ → Bool) (k x : ℕ) → x < 256 → ((j : ℕ) → j < 8 → x / 2 ^ (7 - j) % 2 ≡ to_n (g (8 * k + j))) → x ≡ octet_of g k
unfolding octet_of
octet-one g k x h bits =
    let z : x / 2 ^ 8 ≡ 0 = omega arith in
    sym (rw z at (rebuilt g 8 (8 * k) x (λ j l. let e : 8 - suc j ≡ 7 - j = omega arith in rw e (bits j l))))

-- the octet of the bits from p + 8 k on is octet k of those from p on
pub octet-later : (f : ℕ → Bool) (n p k : ℕ) → octet_of (bits_from f n (p + 8 * k)) 0 ≡ octet_of (bits_from f n p) k
unfolding octet_of
octet-later f n p k =
    ap (number_from 0) (map-count-same (bits_from f n (p + 8 * k)) (bits_from f n p) 8 (8 * 0) (8 * k) (λ j l.
    let e : p + 8 * k + (8 * 0 + j) ≡ p + (8 * k + j) = omega arith in
    ap (λ (i : ℕ). ltb i n && f i) e))

-- twenty octets are twenty
pub length-twenty : (g : ℕ → Bool) → length (twenty g) ≡ 20
unfolding twenty
length-twenty g = length-map-count (octet_of g) 20 0

-- the bits of m octets are g 0, g 1, ..
pub octets-bit : (g : ℕ → Bool) (m i : ℕ) → i < 8 * m → bit_at (map (octet_of g) (count m 0)) i ≡ g i
octets-bit g m i h =
    let at : get_or (map (octet_of g) (count m 0)) (i / 8) 0 ≡ octet_of g (0 + i / 8) = get_d_map_count (octet_of g) m 0 (i / 8) (omega arith) in
    let e : 8 * (0 + i / 8) + i % 8 ≡ i = omega arith in
    let one : octet_of g (0 + i / 8) / 2 ^ (7 - i % 8) % 2 ≡ to_n (g i) = rw e at (octet-bit g (0 + i / 8) (i % 8) (omega arith)) in
    ap (λ (x : ℕ). eqb (x / 2 ^ (7 - i % 8) % 2) 1) at ∙ ap (λ (x : ℕ). eqb x 1) one ∙ to_n-one (g i)

-- those of the twenty are g 0 to g 159
pub twenty-bit : (g : ℕ → Bool) (i : ℕ) → i < 160 → bit_at (twenty g) i ≡ g i
unfolding twenty
twenty-bit g i h = octets-bit g 20 i h

-- bit j of byte k, as bit_at has it
pub byte-bit : (xs : List ℕ) (k j : ℕ) → j < 8 → get_or xs k 0 / 2 ^ (7 - j) % 2 ≡ to_n (bit_at xs (8 * k + j))
byte-bit xs k j h =
    let i : (8 * k + j) / 8 ≡ k = omega arith in
    let r : (8 * k + j) % 8 ≡ j = omega arith in
    rw (i, r) (sym (one-to_n (get_or xs k 0 / 2 ^ (7 - j) % 2) (omega arith)))

-- twenty octets are determined by their bits, so no second answer fits
pub twenty-one : (g : ℕ → Bool) (xs : List ℕ) → length xs ≡ 20 → ((k : ℕ) → get_or xs k 0 < 256) → ((i : ℕ) → i < 160 → bit_at xs i ≡ g i) → xs ≡ twenty g
unfolding twenty
twenty-one g xs long small bits =
    ext_get_or 0 xs (map (octet_of g) (count 20 0)) (long ∙ sym (length-map-count (octet_of g) 20 0)) (λ k l.
    let z : octet_of g (0 + k) ≡ octet_of g k = ap (octet_of g) (zero-add k) in
    octet-one g k (get_or xs k 0) (small k) (λ j m. byte-bit xs k j m ∙ ap to_n (bits (8 * k + j) (omega arith)))
    ∙ sym z ∙ sym (get_d_map_count (octet_of g) 20 0 k (omega arith)))

-- where bit i is cut off at n, the bits behind n do not show
unseen_at : (f h : ℕ → Bool) (n i : ℕ) → ((i : ℕ) → i < n → f i ≡ h i) → (ltb i n && f i) ≡ (ltb i n && h i)
unseen_at f h n i same =
    by_cases (dec_lt i n)
    (λ (l : i < n). rw (lt-ltb i n l) (same i l))
    (λ (g : ¬ (i < n)). rw (le-ltb i n (omega arith)))

-- the bits from n on are never looked at
pub unseen : (f h : ℕ → Bool) (n p : ℕ) → ((i : ℕ) → i < n → f i ≡ h i) → bits_from f n p ≡ bits_from h n p
unseen f h n p same = fun_ext (λ i. unseen_at f h n (p + i) same)

-- bit j of n is seen in n's remainder by a higher power
pub low_bit : (n d j : ℕ) → n % 2 ^ (d + (1 + j)) / 2 ^ j % 2 ≡ n / 2 ^ j % 2
low_bit n d j =
    sym (field (n % 2 ^ (d + (1 + j))) 1 j) ∙ ap (λ (m : ℕ). m / 2 ^ j) (mod-mod-pow n d (1 + j)) ∙ field n 1 j

-- eight bits from q on, by shifting the byte that has bit q and the byte behind it
abbrev pub shifted : List ℕ → ℕ → ℕ
shifted s q = (get_or s (q / 8) 0 * 256 + get_or s (q / 8 + 1) 0) / 2 ^ (8 - q % 8) % 256

-- bit j of the shifted bytes is bit q + j of all
shifted-bit : (s : List ℕ) (q j : ℕ) → j < 8 → get_or s (q / 8 + 1) 0 < 256 → shifted s q / 2 ^ (7 - j) % 2 ≡ get_or s ((q + j) / 8) 0 / 2 ^ (7 - (q + j) % 8) % 2
shifted-bit s q j hj hb =
    let a = get_or s (q / 8) 0 in
    let b = get_or s (q / 8 + 1) 0 in
    let e8 : j + (1 + (7 - j)) ≡ 8 = omega arith in
    let one : (a * 256 + b) / 2 ^ (8 - q % 8) % 256 / 2 ^ (7 - j) % 2 ≡ (a * 256 + b) / 2 ^ (8 - q % 8) / 2 ^ (7 - j) % 2 =
    rw e8 at (low_bit ((a * 256 + b) / 2 ^ (8 - q % 8)) j (7 - j)) in
    one ∙ ap (λ (n : ℕ). n % 2) (shr-shr (a * 256 + b) (8 - q % 8) (7 - j))
    ∙ by_cases (dec_lt (q % 8 + j) 8)
    (λ (l : q % 8 + j < 8).
    let e : 8 - q % 8 + (7 - j) ≡ 8 + (7 - (q % 8 + j)) = omega arith in
    let i : (q + j) / 8 ≡ q / 8 = omega arith in
    let r : (q + j) % 8 ≡ q % 8 + j = omega arith in
    rw (e, i, r) (ap (λ (n : ℕ). n % 2) (sym (shr-shr (a * 256 + b) 8 (7 - (q % 8 + j))) ∙ ap (λ (n : ℕ). n / 2 ^ (7 - (q % 8 + j))) (high a 8 hb))))
    (λ (g : ¬ (q % 8 + j < 8)).
    let m = 15 - (q % 8 + j) in
    let e : 8 - q % 8 + (7 - j) ≡ 15 - (q % 8 + j) = omega arith in
    let i : (q + j) / 8 ≡ q / 8 + 1 = omega arith in
    let r : 7 - (q + j) % 8 ≡ 15 - (q % 8 + j) = omega arith in
    let f : 7 - m + (1 + m) ≡ 8 = omega arith in
    rw (e, i, r) (sym (rw f at (low_bit (a * 256 + b) (7 - m) m)) ∙ ap (λ (n : ℕ). n / 2 ^ m % 2) (low a 8 hb)))

-- and below n it is the bit that the capture shows there
shifted_seen : (s : List ℕ) (n q j : ℕ) → j < 8 → get_or s (q / 8 + 1) 0 < 256 → q + j < n → shifted s q / 2 ^ (7 - j) % 2 ≡ to_n (bits_from (bit_at s) n q j)
shifted_seen s n q j hj hb l =
    let e = shifted-bit s q j hj hb in
    rw (lt-ltb (q + j) n l) (e ∙ sym (one-to_n (get_or s ((q + j) / 8) 0 / 2 ^ (7 - (q + j) % 8) % 2) (omega arith)))

-- the first octet is determined by its bits
pub octet-first : (g : ℕ → Bool) (x : ℕ) → x < 256 → ((j : ℕ) → j < 8 → x / 2 ^ (7 - j) % 2 ≡ to_n (g j)) → x ≡ octet_of g 0
octet-first g x h bits =
    octet-one g 0 x h (λ j l. let e : j ≡ 8 * 0 + j = omega arith in bits j l ∙ ap (λ (i : ℕ). to_n (g i)) e)

-- a bit from n on is zero
past : (f : ℕ → Bool) (n q j : ℕ) → n ≤ q + j → bits_from f n q j ≡ false
past f n q j h = rw (le-ltb (q + j) n h)

-- from n on an octet is zero
pub octet-past : (f : ℕ → Bool) (n q : ℕ) → n ≤ q → 0 ≡ octet_of (bits_from f n q) 0
octet-past f n q h =
    octet-first (bits_from f n q) 0 (lit< tt) (λ j l. ap (λ (x : ℕ). x % 2) (zero-div (2 ^ (7 - j))) ∙ ap to_n (sym (past f n q j (omega arith))))

-- wholly before n it is the two bytes shifted
pub octet-whole : (s : List ℕ) (n q x : ℕ) → get_or s (q / 8 + 1) 0 < 256 → x ≡ shifted s q → q + 8 ≤ n → x ≡ octet_of (bits_from (bit_at s) n q) 0
octet-whole s n q x hb e h =
    octet-first (bits_from (bit_at s) n q) x (omega arith) (λ j l. rw e (shifted_seen s n q j l hb (omega arith)))

-- so octet k of those from p on is two bytes shifted as far as the first two are
pub octet-inside : (s : List ℕ) (n p k x : ℕ) → get_or s (p / 8 + k + 1) 0 < 256 → x ≡ (get_or s (p / 8 + k) 0 * 256 + get_or s (p / 8 + k + 1) 0) / 2 ^ (8 - p % 8) % 256
    → p + 8 * k + 8 ≤ n → x ≡ octet_of (bits_from (bit_at s) n p) k
octet-inside s n p k x hb e h =
    let i : (p + 8 * k) / 8 ≡ p / 8 + k = omega arith in
    let r : (p + 8 * k) % 8 ≡ p % 8 = omega arith in
    let fits : get_or s ((p + 8 * k) / 8 + 1) 0 < 256 = rw i hb in
    let here : x ≡ shifted s (p + 8 * k) = rw (i, r) e in
    octet-whole s n (p + 8 * k) x fits here h ∙ octet-later (bit_at s) n p k

-- twice a number is even
even : (z : ℕ) → z * 2 % 2 ≡ 0
even z = omega arith

-- the d low bits of x made zero leave the bits above them
cut-above : (x d j : ℕ) → d ≤ j → x / 2 ^ d * 2 ^ d / 2 ^ j ≡ x / 2 ^ j
cut-above x d j h =
    let e : d + (j - d) ≡ j = omega arith in
    rw e at (sym (shr-shr (x / 2 ^ d * 2 ^ d) d (j - d)) ∙ ap (λ (n : ℕ). n / 2 ^ (j - d)) (shl-shr (x / 2 ^ d) d) ∙ shr-shr x d (j - d))

-- and those below are zero
cut_below : (y e j : ℕ) → y * 2 ^ (e + 1 + j) / 2 ^ j % 2 ≡ 0
cut_below y e j =
    let up : y * 2 ^ (e + 1 + j) ≡ y * 2 ^ e * 2 * 2 ^ j =
    ap (λ (w : ℕ). y * w) (pow-add 2 (e + 1) j ∙ ap (λ (w : ℕ). w * 2 ^ j) (pow-add 2 e 1)) ∙ sym (mul_assoc y (2 ^ e * 2) (2 ^ j))
    ∙ ap (λ (w : ℕ). w * 2 ^ j) (sym (mul_assoc y (2 ^ e) 2)) in
    rw (up, shl-shr (y * 2 ^ e * 2) j) (even (y * 2 ^ e))

-- where n falls inside it, it is the two bytes shifted with the bits from n on made zero
pub octet_edge : (s : List ℕ) (n q x y : ℕ) → get_or s (q / 8 + 1) 0 < 256 → x ≡ shifted s q → y < 256 → y ≡ x / 2 ^ (8 - (n - q)) * 2 ^ (8 - (n - q)) → q < n → n < q + 8
    → y ≡ octet_of (bits_from (bit_at s) n q) 0
octet_edge s n q x y hb e hy cut above below =
    let d = 8 - (n - q) in
    octet-first (bits_from (bit_at s) n q) y hy (λ j l.
    by_cases (dec_lt (q + j) n)
    (λ (b : q + j < n).
    rw cut (ap (λ (v : ℕ). v % 2) (cut-above x d (7 - j) (omega arith)) ∙ rw e (shifted_seen s n q j l hb b)))
    (λ (g : ¬ (q + j < n)).
    let f : (d - (1 + (7 - j))) + 1 + (7 - j) ≡ d = omega arith in
    rw cut (rw f at (cut_below (x / 2 ^ d) (d - (1 + (7 - j))) (7 - j)) ∙ ap to_n (sym (past (bit_at s) n q j (omega arith))))))

-- cutting off low bits keeps an octet an octet
pub cut_lt : (x d : ℕ) → d ≤ 8 → x < 256 → x / 2 ^ d * 2 ^ d % 256 ≡ x / 2 ^ d * 2 ^ d
cut_lt x d h hx =
    let e : 8 - d + d ≡ 8 = omega arith in
    let p : 2 ^ (8 - d + d) ≡ 256 = ap (λ (m : ℕ). 2 ^ m) e in
    shl_exact (8 - d) d 8 (shr_lt (8 - d) d (rw p hx)) (omega arith)

-- Lists f a, f (a + 1), .. of a given length: how long they are, what stands in them, and how a loop fills one from the front.
-- Assumes nothing.
use mathlib.Core.Path.{◌≡◌, refl, ap, sym, ◌∙◌}
use mathlib.Core.List.{List, [], ◌∷◌, ◌++◌, map}
use Prim.Native.Nat.{ℕ, zero, suc, ◌+◌, ◌<◌, zero-le, suc-le-suc}
use native.Mathlib.Nat.{not-suc-le-zero, le_of_suc-le-suc, add-zero, zero-add}
use native.Mathlib.Numerals.{add-one}
use native.Mathlib.Omega.{arith}
use lib.ListN.{length, set, drop, get_or, length-map}
use Rattle.bits.specs.Bit.{count}

-- count n a has n numbers
pub length-count : (n a : ℕ) → length (count n a) ≡ n
length-count zero a = refl
length-count (suc n) a = ap suc (length-count n (suc a))

-- so has what is made of them
pub length-map-count : {A : Type 0} (f : ℕ → A) (n a : ℕ) → length (map f (count n a)) ≡ n
length-map-count f n a = length-map (count n a) f ∙ length-count n a

-- at i below the length stands a + i
pub get_d_count : (k a i : ℕ) → i < k → get_or (count k a) i 0 ≡ a + i
get_d_count zero a i h = absurd (omega arith)
get_d_count (suc k) a zero h = omega arith
get_d_count (suc k) a (suc i) h = let e : suc a + i ≡ a + suc i = omega arith in get_d_count k (suc a) i (omega arith) ∙ e

-- the first c of what is made of them, and the others
pub map-count-split : {A : Type 0} (f : ℕ → A) (c d x : ℕ) → map f (count (c + d) x) ≡ map f (count c x) ++ map f (count d (x + c))
map-count-split f zero d x = rw (zero-add d, add-zero x)
map-count-split {A} f (suc c) d x =
    let e : suc c + d ≡ suc (c + d) = omega arith in
    let b : x + suc c ≡ suc x + c = omega arith in
    rw (e, b) (ap (λ (xs : List A). f x ∷ xs) (map-count-split f c d (suc x)))

-- at k below the length stands f (a + k)
pub get_or-map-count : {A : Type 0} (f : ℕ → A) (n a k : ℕ) (d : A) → k < n → get_or (map f (count n a)) k d ≡ f (a + k)
get_or-map-count f zero a k d h = absurd (not-suc-le-zero h)
get_or-map-count f (suc n) a zero d h = ap f (sym (add-zero a))
get_or-map-count f (suc n) a (suc k) d h =
    let e : suc a + k ≡ a + suc k = omega arith in
    get_or-map-count f n (suc a) k d (le_of_suc-le-suc h) ∙ ap f e

pub get_d_map_count : (f : ℕ → ℕ) (n a k : ℕ) → k < n → get_or (map f (count n a)) k 0 ≡ f (a + k)
get_d_map_count f n a k h = get_or-map-count f n a k 0 h

-- two such lists are the same where their elements are
pub map-count-same : {A : Type 0} (f h : ℕ → A) (n a b : ℕ) → ((k : ℕ) → k < n → f (a + k) ≡ h (b + k)) → map f (count n a) ≡ map h (count n b)
map-count-same f h zero a b same = refl
map-count-same f h (suc n) a b same =
    let first : f a ≡ h b = ap f (sym (add-zero a)) ∙ same 0 (suc-le-suc zero-le) ∙ ap h (add-zero b) in
    let rest = map-count-same f h n (suc a) (suc b) (λ k l.
    let e : suc a + k ≡ a + suc k = omega arith in
    let d : b + suc k ≡ suc b + k = omega arith in
    ap f e ∙ same (suc k) (suc-le-suc l) ∙ ap h d) in
    rw (first, rest)

-- what stands at n is replaced by the next element
fill_suc : (f : ℕ → ℕ) (n a : ℕ) (d : List ℕ) → n < length d → set (map f (count n a) ++ drop n d) n (f (a + n)) ≡ map f (count (suc n) a) ++ drop (suc n) d
fill_suc f n a [] h = absurd (not-suc-le-zero h)
fill_suc f zero a (x ∷ d) h = ap (λ (y : ℕ). f y ∷ d) (add-zero a)
fill_suc f (suc n) a (x ∷ d) h =
    let e : a + suc n ≡ suc a + n = omega arith in
    rw e (ap (λ (t : List ℕ). f a ∷ t) (fill_suc f n (suc a) d (le_of_suc-le-suc h)))

-- a turn of a loop that fills the list d from the front: f n is stored at n
pub fill_step : (f : ℕ → ℕ) (n : ℕ) (d xs : List ℕ) (x : ℕ) → xs ≡ map f (count n 0) ++ drop n d → x ≡ f n → n < length d
    → set xs n x ≡ map f (count (n + 1) 0) ++ drop (n + 1) d
fill_step f n d xs x so_far here h =
    let z : 0 + n ≡ n = omega arith in
    rw (so_far, here, add-one) (rw z at (fill_suc f n 0 d h))

-- Bytes put back one after the other, and what is left of them.
-- Assumes nothing.
use mathlib.Core.Path.{◌≡◌, sym, ◌∙◌, ap}
use mathlib.Core.Logic.{by_cases}
use mathlib.Core.Bool.{Bool}
use mathlib.Core.List.{List, [], ◌∷◌}
use Prim.Native.Nat.{ℕ, zero, suc, ◌+◌, ◌*◌, ◌/◌, ◌%◌, ◌^◌, ◌<◌, ◌≤◌}
use native.Mathlib.Decide.{dec_lt}
use native.Mathlib.Omega.{arith}
use lib.Pow.{shl_exact, shr_le, split}
use lib.ListN.{length, get_or, set, take, drop, length-take, take-append-drop, length-drop, drop_of_length-le}
use lib.Seq.{drop-drop, length-take-le, get_or-drop}
use Rattle.bits.specs.Bit.{bit_at}
use Rattle.scatter.specs.Scatter.{put_places}
use Rattle.scatter.proofs.PlaceLaws.{places_end, places_append, places_same}
use Rattle.entries.specs.declared.Entry.{Entry}
use Rattle.entries.specs.Entry.{Octets, back}
use Rattle.plans.specs.Plan.{PlanOf}
use Rattle.dput.specs.Back.{BackFrom, Rest}

-- no bit of a byte is lost by a shift below 16
pub shift_exact : (x s : ℕ) → x < 256 → s < 16 → x * 2 ^ s % 4294967296 ≡ x * 2 ^ s
shift_exact x s hx l = shl_exact {a = x} 8 s 32 hx (omega arith)

pub cut_exact : (x s : ℕ) → x < 256 → s < 16 → (x / 2 ^ s * 2 ^ s % 4294967296 ≡ x / 2 ^ s * 2 ^ s) × (x / 2 ^ s * 2 ^ s ≤ x)
cut_exact x s hx l = (shift_exact (x / 2 ^ s) s (omega (arith, shr_le x s)) l, omega (arith, split x s))

-- byte j put, the bytes from the next on are left
pub byte_turn : (s t ps : List ℕ) (h g : ℕ → Bool) (j : ℕ) → ((k : ℕ) → k < 8 → g (0 + k) ≡ h (8 * j + k)) → t ≡ put_places s (take 8 (drop (8 * j) ps)) g 0
    → put_places t (drop (8 * (j + 1)) ps) h (8 * (j + 1)) ≡ put_places s (drop (8 * j) ps) h (8 * j)
unfolding put_places
byte_turn s t ps h g j same e =
    let next : 8 * (j + 1) ≡ 8 * j + 8 = omega arith in
    let first = take 8 (drop (8 * j) ps) in
    let here : t ≡ put_places s first h (8 * j) = e ∙ places_same first s g h 0 (8 * j) (λ k l. same k (omega (arith, length-take 8 (drop (8 * j) ps)))) in
    let parts : put_places s (drop (8 * j) ps) h (8 * j) ≡ put_places t (drop (8 * j + 8) ps) h (8 * j + length first) =
    ap (λ (qs : List ℕ). put_places s qs h (8 * j)) (sym (take-append-drop 8 (drop (8 * j) ps)))
    ∙ places_append first (drop 8 (drop (8 * j) ps)) s h (8 * j)
    ∙ ap (λ (u : List ℕ). put_places u (drop 8 (drop (8 * j) ps)) h (8 * j + length first)) (sym here)
    ∙ ap (λ (qs : List ℕ). put_places t qs h (8 * j + length first)) (drop-drop 8 (8 * j) ps) in
    rw next
    (by_cases (dec_lt (length (drop (8 * j) ps)) 8)
    (λ (short : length (drop (8 * j) ps) < 8).
    let none : drop (8 * j + 8) ps ≡ [] = drop_of_length-le ps {i = 8 * j + 8} (omega (arith, length-drop (8 * j) ps)) in
    ap (λ (qs : List ℕ). put_places t qs h (8 * j + 8)) none ∙ sym (parts ∙ ap (λ (qs : List ℕ). put_places t qs h (8 * j + length first)) none))
    (λ (long : ¬ (length (drop (8 * j) ps) < 8)).
    let eight : 8 * j + 8 ≡ 8 * j + length first = omega (arith, length-take-le 8 (drop (8 * j) ps) (omega arith)) in
    ap (put_places t (drop (8 * j + 8) ps) h) eight ∙ sym parts))

-- the bits of a byte, by itself or in front of those behind it
pub byte-front : (d : List ℕ) (i k : ℕ) → bit_at (drop i d) k ≡ bit_at d (8 * i + k)
byte-front d i k =
    let a : (8 * i + k) / 8 ≡ i + k / 8 = omega arith in
    let b : (8 * i + k) % 8 ≡ k % 8 = omega arith in
    rw (a, b, get_or-drop i d (k / 8) 0)

-- a byte put back leaves bytes
set_small : (l : List ℕ) (i v k : ℕ) → v < 256 → get_or l k 0 < 256 → get_or (set l i v) k 0 < 256
set_small [] i v k hv h = h
set_small (x ∷ xs) zero v zero hv h = hv
set_small (x ∷ xs) zero v (suc k) hv h = h
set_small (x ∷ xs) (suc i) v zero hv h = h
set_small (x ∷ xs) (suc i) v (suc k) hv h = set_small xs i v k hv h

pub back_small : (o : List ℕ) (m b : ℕ) → Octets o → Octets (back o m b)
unfolding back
back_small o m b h k = set_small _ (m % 256 + 1) _ k (omega arith) (set_small o (m % 256) _ k (omega arith) (h k))

-- the entries of a plan put their bytes back, but for those that they may not make
pub plan_back : (ps : List ℕ) (entries : List Entry) (first last from to : ℕ) → PlanOf ps entries first last → to ≤ (length ps + 7) / 8
    → ((j : ℕ) → from ≤ j → j < to → first ≤ j → j < last → ⊥) → BackFrom ps entries from to
plan_back ps entries first last from to p l other j a b = (p.others j (omega arith) (other j a b)).put_back

-- nothing is left behind the last byte
pub rest_all : (ps d o r : List ℕ) (n : ℕ) → length ps ≤ 8 * n → Rest ps d 0 o n r → r ≡ put_places o ps (bit_at d) 0
rest_all ps d o r n l e = sym (places_end r ps (bit_at d) (8 * n) l) ∙ e

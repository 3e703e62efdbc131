-- Bits laid into bytes: a first run, bytes whole, and a last run.
-- Assumes nothing.
use mathlib.Core.Path.{◌≡◌, refl, ap, sym, ◌∙◌}
use mathlib.Core.Bool.{Bool, true}
use mathlib.Core.Logic.{by_cases}
use mathlib.Core.List.{List, ◌∷◌, map}
use Prim.Native.Nat.{ℕ, zero, suc, ◌+◌, ◌*◌, ◌/◌, ◌%◌, ◌-◌, ◌^◌, ◌<◌, ◌≤◌}
use native.Mathlib.Nat.{add-zero, zero-add, sub-zero}
use native.Mathlib.Numerals.{add-one}
use native.Mathlib.Decide.{ℕ_discrete}
use native.Mathlib.Omega.{arith}
use lib.ListN.{length, get_or, set, replicate}
use lib.Seq.{get_or-set_same, get_or-set_other, paste}
use borrow.Rule.Slice.PartMut.{put_mid}
use Rattle.std.proofs.lemmas.Slice.{put_mid-paste}
use Rattle.std.proofs.lemmas.List.Edits.{paste_none, paste_more, length-paste}
use Rattle.bits.specs.Bit.{count}
use Rattle.bits.proofs.CountLaws.{length-map-count, map-count-split}
use Rattle.put.specs.Put.{put_run, Shows}
use Rattle.bits.specs.Put.{put_bits}
use Rattle.put.proofs.PutLaws.{puts_append}
use Rattle.put.proofs.RunPutLaws.{top-put}

-- a byte put whole
whole-put : (s : List ℕ) (i x : ℕ) (g : ℕ → Bool) (a : ℕ) → i < length s → get_or s i 0 < 256 → x < 256 → Shows x g a → set s i x ≡ put_bits s (8 * i) (map g (count 8 a))
whole-put s i x g a l y h bits =
    let d : 8 * i / 8 ≡ i = omega arith in
    let m : 8 * i % 8 ≡ 0 = omega arith in
    let v : put_run (get_or s i 0) 0 8 (x / 2 ^ 0) ≡ x = omega arith in
    rw (d, m, v) at (top-put s (8 * i) 8 x g a (omega arith) (rw d l) h bits)

-- what the bytes become when the bits from x on, of k that begin at p, are put
abbrev left : (ℕ → Bool) → List ℕ → ℕ → ℕ → ℕ → List ℕ
left g s p k x = put_bits s (p + x) (map g (count (k - x) x))

module _ (g : ℕ → Bool) (s : List ℕ) (p k : ℕ) where
  left-all : left g s p k 0 ≡ put_bits s p (map g (count k 0))
  left-all = rw (add-zero p, sub-zero k)

  left-next : (x c : ℕ) → x + c ≤ k → left g s p k x ≡ left g (put_bits s (p + x) (map g (count c x))) p k (x + c)
  left-next x c l =
      let e : k - x ≡ c + (k - (x + c)) = omega arith in
      let f : p + x + c ≡ p + (x + c) = omega arith in
      rw (e, map-count-split g c (k - (x + c)) x, puts_append (map g (count c x)) (map g (count (k - (x + c)) (x + c))) s (p + x), length-map-count g c x, f)

  left_end : left g s p k k ≡ s
  unfolding put_bits
  left_end = let e : k - k ≡ 0 = omega arith in rw e

  -- a run put, of the bits that were left
  turn_top : (x c : ℕ) (t : List ℕ) → x + c ≤ k → t ≡ put_bits s (p + x) (map g (count c x)) → left g t p k (x + c) ≡ left g s p k x
  turn_top x c t l e = rw e (sym (left-next x c l))

  -- a byte put whole, of the bits that were left
  turn_whole : (x i v : ℕ) → p + x ≡ 8 * i → x + 8 ≤ k → i < length s → get_or s i 0 < 256 → v < 256 → Shows v g x → left g (set s i v) p k (x + 8) ≡ left g s p k x
  turn_whole x i v at l inside y h bits = turn_top x 8 (set s i v) l (rw at (whole-put s i v g x inside y h bits))

-- a first run, bytes put whole, and a last run are all the bits
runs_all : (g : ℕ → Bool) (s t u v : List ℕ) (p k first x c q : ℕ) → first ≤ k → t ≡ put_bits s p (map g (count first 0)) → left g u p k x ≡ left g t p k first
    → q ≡ p + x → v ≡ put_bits u q (map g (count c x)) → x + c ≡ k → v ≡ put_bits s p (map g (count k 0))
runs_all g s t u v p k first x c q l et eu at ev all =
    let begun : left g t p k (0 + first) ≡ left g s p k 0 = turn_top g s p k 0 first t (omega arith) (rw (add-zero p) et) in
    let ended : left g v p k k ≡ left g u p k x = rw all at (turn_top g u p k x c v (omega arith) (rw at at ev)) in
    sym (left_end g v p k) ∙ ended ∙ eu ∙ rw (zero-add first) at begun ∙ left-all g s p k

-- bytes stay bytes
set-bytes : (s : List ℕ) (i v : ℕ) → ((m : ℕ) → get_or s m 0 < 256) → i < length s → v < 256 → (m : ℕ) → get_or (set s i v) m 0 < 256
set-bytes s i v h l hv m =
    by_cases (ℕ_discrete m i)
    (λ (e : m ≡ i). rw (e, get_or-set_same s i v 0 l) hv)
    (λ (e : ¬ (m ≡ i)). rw (get_or-set_other s i m v 0 e) (h m))

-- bytes put whole, one behind the other from byte i on, of the bits that were left
module _ (g : ℕ → Bool) (s : List ℕ) (p k x i : ℕ) (vs : List ℕ) (here : p + x ≡ 8 * i) (bytes : (m : ℕ) → get_or s m 0 < 256)
    (shown : (j : ℕ) → j < length vs → (get_or vs j 0 < 256) × Shows (get_or vs j 0) g (x + 8 * j)) where
  fronts : (n : ℕ) → n ≤ length vs → x + 8 * n ≤ k → i + n ≤ length s → (left g (paste s i vs n) p k (x + 8 * n) ≡ left g s p k x) × ((m : ℕ) → get_or (paste s i vs n) m 0 < 256)
  fronts zero l room inside = rw (← paste_none s i vs) (rw (add-zero x) refl, bytes)
  fronts (suc n) l room inside =
      let (so_far, small) = fronts n (omega arith) (omega arith) (omega arith) in
      let (fits, bits) = shown n (omega arith) in
      let more : set (paste s i vs n) (i + n) (get_or vs n 0) ≡ paste s i vs (suc n) = rw add-one at (paste_more s i vs n 0 (omega arith) (omega arith)) in
      let long : i + n < length (paste s i vs n) = omega (arith, length-paste s i vs n (omega arith) (omega arith)) in
      let next : x + 8 * suc n ≡ x + 8 * n + 8 = omega arith in
      rw (← more, next) (
        turn_whole g (paste s i vs n) p k (x + 8 * n) (i + n) (get_or vs n 0) (omega arith) (omega arith) long (small (i + n)) fits bits ∙ so_far,
        set-bytes (paste s i vs n) (i + n) (get_or vs n 0) small long fits,
      )

  -- the first n of them
  bytes_whole : (n : ℕ) → n ≤ length vs → x + 8 * n ≤ k → i + n ≤ length s → left g (paste s i vs n) p k (x + 8 * n) ≡ left g s p k x
  bytes_whole n l room inside = (fronts n l room inside).0

-- a first run up to the next byte, m bytes put whole by one write, and a last run are all the bits
pub laid_all : (g : ℕ → Bool) (s run vs v : List ℕ) (p k m c q : ℕ) → p + k ≤ 8 * length s → 8 - p % 8 + 8 * m + c ≡ k
    → run ≡ put_bits s p (map g (count (8 - p % 8) 0)) → length run ≡ length s → ((i : ℕ) → get_or run i 0 < 256)
    → length vs ≡ m → ((j : ℕ) → j < m → (get_or vs j 0 < 256) × Shows (get_or vs j 0) g (8 - p % 8 + 8 * j))
    → q ≡ p + (8 - p % 8 + 8 * m) → v ≡ put_bits (put_mid (p / 8 + 1) m run vs) q (map g (count c (8 - p % 8 + 8 * m))) → v ≡ put_bits s p (map g (count k 0))
laid_all g s run vs v p k m c q fits all began long small many shown at ended =
    let x = 8 - p % 8 in
    let first = p / 8 + 1 in
    let laid : put_mid first m run vs ≡ paste run first vs m = put_mid-paste first m run vs vs m refl refl (sym many) in
    let whole : left g (paste run first vs m) p k (x + 8 * m) ≡ left g run p k x =
    bytes_whole g run p k x first vs (omega arith) small (λ j l. shown j (omega arith)) m (omega arith) (omega arith) (omega arith) in
    let last = ended ∙ ap (λ (u : List ℕ). put_bits u q (map g (count c (x + 8 * m)))) laid in
    runs_all g s run (paste run first vs m) v p k x (x + 8 * m) c q (omega arith) began whole at last all

-- ones as bits by their numbers
pub ones-are : (t a : ℕ) → replicate t true ≡ map (λ _. true) (count t a)
ones-are zero a = refl
ones-are (suc t) a = ap (λ (bs : List Bool). true ∷ bs) (ones-are t (suc a))

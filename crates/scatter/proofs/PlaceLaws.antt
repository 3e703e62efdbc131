-- What each bit is after bits were put at places.
-- Assumes nothing.
use mathlib.Core.Path.{◌≡◌, refl, ap, sym, ◌∙◌}
use mathlib.Core.Bool.{Bool}
use mathlib.Core.List.{List, [], ◌∷◌, ◌++◌, map}
use Prim.Native.Nat.{ℕ, zero, suc, ◌+◌, ◌*◌, ◌<◌, ◌≤◌}
use native.Mathlib.Nat.{add-zero}
use native.Mathlib.Numerals.{add-one}
use native.Mathlib.Omega.{arith}
use lib.ListN.{length, get_or, take, drop, length-take, length-drop, drop_of_length-le}
use lib.Seq.{get_or-take, get_or-drop}
use Rattle.bits.specs.Bit.{bit_at, count}
use Rattle.bits.specs.Put.{put_bit, put_bits}
use Rattle.fields.specs.Below.{Below}
use Rattle.put.proofs.PutLaws.{put-at, length-put, own_kept}
use Rattle.scatter.specs.Scatter.{put_places}

-- a part of places that lie in a frame
pub part-below : (ps : List ℕ) (a n : ℕ) → Below 160 ps → Below 160 (take n (drop a ps))
part-below ps a n h i l =
    let m : i < n = omega (arith, length-take n (drop a ps)) in
    rw (get_or-take n (drop a ps) i 0 m, get_or-drop a ps i 0) (h (a + i) (omega (arith, length-take n (drop a ps), length-drop a ps)))

-- bits put at places: at some and then at others, by other numbers of the bits, and at neighbours
pub places_append : (ps qs s : List ℕ) (h : ℕ → Bool) (i : ℕ) → put_places s (ps ++ qs) h i ≡ put_places (put_places s ps h i) qs h (i + length ps)
unfolding put_places
places_append [] qs s h i = rw (add-zero i)
places_append (p ∷ ps) qs s h i =
    let e : suc i + length ps ≡ i + suc (length ps) = omega arith in
    places_append ps qs (put_bit s p (h i)) h (suc i) ∙ ap (put_places (put_places (put_bit s p (h i)) ps h (suc i)) qs h) e

pub places_same : (ps s : List ℕ) (h g : ℕ → Bool) (i j : ℕ) → ((k : ℕ) → k < length ps → h (i + k) ≡ g (j + k)) → put_places s ps h i ≡ put_places s ps g j
unfolding put_places
places_same [] s h g i j same = refl
places_same (p ∷ ps) s h g i j same =
    let first : h i ≡ g j = ap h (sym (add-zero i)) ∙ same 0 (omega arith) ∙ ap g (add-zero j) in
    rw first
    (places_same ps (put_bit s p (g j)) h g (suc i) (suc j) (λ k l.
    let e : suc i + k ≡ i + suc k = omega arith in
    let d : j + suc k ≡ suc j + k = omega arith in
    ap h e ∙ same (suc k) (omega arith) ∙ ap g d))

pub places_run : (c : ℕ) (s : List ℕ) (p : ℕ) (h : ℕ → Bool) (i : ℕ) → put_places s (count c p) h i ≡ put_bits s p (map h (count c i))
unfolding put_places put_bits
places_run zero s p h i = refl
places_run (suc c) s p h i =
    places_run c (put_bit s p (h i)) (suc p) h (suc i)
    ∙ ap (λ (q : ℕ). put_bits (put_bit s p (h i)) q (map h (count c (suc i)))) (sym (add-one p))

pub places_end : (s ps : List ℕ) (h : ℕ → Bool) (j : ℕ) → length ps ≤ j → put_places s (drop j ps) h j ≡ s
unfolding put_places
places_end s ps h j l = rw (drop_of_length-le ps {i = j} l)

pub length_places : (ps s : List ℕ) (h : ℕ → Bool) (i : ℕ) → length (put_places s ps h i) ≡ length s
unfolding put_places
length_places [] s h i = refl
length_places (p ∷ ps) s h i = length_places ps (put_bit s p (h i)) h (suc i) ∙ length-put s p (h i)

-- a word's own bits put at some places: the bytes have them there, and still have those that they had
module _ (g h : ℕ → Bool) (m : ℕ) where
  abbrev pub Own : List ℕ → ℕ → Type 0
  Own ps i = (j : ℕ) → j < length ps → h (i + j) ≡ g (get_or ps j 0)

  later : (p : ℕ) (ps : List ℕ) (i : ℕ) → Own (p ∷ ps) i → Own ps (suc i)
  later p ps i own j l = let e : suc i + j ≡ i + suc j = omega arith in ap h e ∙ own (suc j) (omega arith)

  first : (p : ℕ) (ps : List ℕ) (i : ℕ) → Own (p ∷ ps) i → h i ≡ g p
  first p ps i own = ap h (sym (add-zero i)) ∙ own 0 (omega arith)

  pub places_kept : (ps s : List ℕ) (i q : ℕ) → Below m ps → m ≤ 8 * length s → Own ps i → bit_at s q ≡ g q → bit_at (put_places s ps h i) q ≡ g q
  unfolding put_places
  places_kept [] s i q b l own e = e
  places_kept (p ∷ ps) s i q b l own e =
      let in_s : p < m = b 0 (omega arith) in
      places_kept ps (put_bit s p (h i)) (suc i) q (λ j t. b (suc j) (omega arith)) (rw (length-put s p (h i)) l) (later p ps i own)
      (own_kept g s p (h i) q (omega arith) (first p ps i own) e)

  pub places_put : (ps s : List ℕ) (i j : ℕ) → Below m ps → m ≤ 8 * length s → Own ps i → j < length ps → bit_at (put_places s ps h i) (get_or ps j 0) ≡ g (get_or ps j 0)
  unfolding put_places
  places_put [] s i j b l own t = absurd (omega arith)
  places_put (p ∷ ps) s i zero b l own t =
      let in_s : p < m = b 0 (omega arith) in
      places_kept ps (put_bit s p (h i)) (suc i) p (λ j t. b (suc j) (omega arith)) (rw (length-put s p (h i)) l) (later p ps i own)
      (put-at s p (h i) (omega arith) ∙ first p ps i own)
  places_put (p ∷ ps) s i (suc j) b l own t =
      places_put ps (put_bit s p (h i)) (suc i) j (λ j t. b (suc j) (omega arith)) (rw (length-put s p (h i)) l) (later p ps i own) (omega arith)

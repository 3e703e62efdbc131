-- The D bits of a kind in stretches, each with its formula, and in bytes.
-- Assumes nothing.
use mathlib.Core.Path.{◌≡◌, refl, sym, ◌∙◌, ap}
use mathlib.Core.Logic.{◌⊎◌, inl, inr, by_cases}
use mathlib.Core.Bool.{true}
use mathlib.Core.List.{map}
use Prim.Native.Nat.{ℕ, ◌+◌, ◌*◌, ◌-◌, ◌<◌, ◌≤◌}
use native.Mathlib.Decide.{dec_lt}
use native.Mathlib.Omega.{arith}
use borrow.Author.Tests.{eqb-true}
use lib.Dec.{eqb}
use lib.ListN.{length, get_or, take, drop, length-take, length-drop}
use lib.Seq.{get_or-take, get_or-drop, ext_get_or, take_all}
use Rattle.bits.specs.Bit.{count}
use Rattle.bits.proofs.CountLaws.{length-map-count, get_d_map_count}
use Rattle.channel.specs.declared.Kind.{Kind}
use Rattle.channel.specs.declared.Kind.TheVariants.{Data, Configuration, NoSpeech, Lower}
use Rattle.channel.specs.Kinds.{d_count}
use Rattle.channel.specs.Places.{d_places, d_place}
use Rattle.channel.specs.Coding.{all}
use Rattle.channel.proofs.BoolLaws.{all-below}
use Rattle.dplaces.proofs.DPlaceLaws.{d_length_lem}
use Rattle.placing.specs.Eight.{size_of, eight_of}

-- a formula gives the places of n D bits, from D bit a on
abbrev pub Stretch : Kind → (ℕ → ℕ) → ℕ → ℕ → Type 0
Stretch k f a n = (d : ℕ) → a ≤ d → d < a + n → f d ≡ d_place k d

-- so it does where it is tested at each of them (a `let`, so that a check computes the places once)
pub stretch : (k : Kind) (f : ℕ → ℕ) (a n : ℕ) → (let ps = d_places k in all (λ i. eqb (f (a + i)) (get_or ps (a + i - 1) 0)) (count n 0)) ≡ true → Stretch k f a n
stretch k f a n tested d low high =
    let e : a + (d - a) ≡ d = omega arith in
    rw e at (eqb-true (f (a + (d - a))) (d_place k (a + (d - a))) (all-below n (λ i. eqb (f (a + i)) (d_place k (a + i))) tested (d - a) (omega arith)))

-- kind 4 has the places of kind 2 but its last, and kind 5 those of kind 6
pub configuration_data : (d : ℕ) → 1 ≤ d → d ≤ 125 → d_place Configuration d ≡ d_place Data d
unfolding d_places
configuration_data d l h = get_or-take 125 (d_places Data) (d - 1) 0 (omega arith)

pub silence_lower : (d : ℕ) → 1 ≤ d → d ≤ 125 → d_place NoSpeech d ≡ d_place Lower d
unfolding d_places
silence_lower d l h = get_or-take 125 (d_places Lower) (d - 1) 0 (omega arith)

-- so the two of a pair have their places by one formula
pub like_data : (k : Kind) (d : ℕ) → (k ≡ Data) ⊎ (k ≡ Configuration) → 1 ≤ d → d ≤ d_count k → (d ≤ 126) × (d_place k d ≡ d_place Data d)
like_data k d (inl e) l h = rw e (rw e at h, refl)
like_data k d (inr e) l h = rw e (let u = rw e at h in (omega arith, configuration_data d l u))

pub like_lower : (k : Kind) (d : ℕ) → (k ≡ NoSpeech) ⊎ (k ≡ Lower) → 1 ≤ d → d ≤ d_count k → (d ≤ 126) × (d_place k d ≡ d_place Lower d)
like_lower k d (inl e) l h = rw e (let u = rw e at h in (omega arith, silence_lower d l u))
like_lower k d (inr e) l h = rw e (rw e at h, refl)

-- the D bits of byte j of a kind: how many they are
module _ (k : Kind) (j n : ℕ) (inside : 8 * j < d_count k) (size : n ≡ size_of k j) where
  pub byte-size : length (eight_of k j) ≡ n
  byte-size = omega (arith, length-take 8 (drop (8 * j) (d_places k)), length-drop (8 * j) (d_places k), d_length_lem k)

  -- their places, so many of the kind's
  pub byte_places : take n (drop (8 * j) (d_places k)) ≡ eight_of k j
  byte_places =
      by_cases (dec_lt n 8)
      (λ (l : n < 8).
      take_all n (drop (8 * j) (d_places k)) (omega (arith, length-drop (8 * j) (d_places k), d_length_lem k))
      ∙ sym (take_all 8 (drop (8 * j) (d_places k)) (omega (arith, length-drop (8 * j) (d_places k), d_length_lem k))))
      (λ (l : ¬ (n < 8)). let e : n ≡ 8 = omega arith in rw e)

  -- and one by one
  pub one_by_one : map (λ i. d_place k (8 * j + i + 1)) (count n 0) ≡ eight_of k j
  one_by_one =
      let f : ℕ → ℕ = λ i. d_place k (8 * j + i + 1) in
      ext_get_or 0 (map f (count n 0)) (eight_of k j) (length-map-count f n 0 ∙ sym byte-size) (λ i l.
      let b : i < n = omega (arith, length-map-count f n 0) in
      let e : 8 * j + (0 + i) + 1 - 1 ≡ 8 * j + i = omega arith in
      get_d_map_count f n 0 i b ∙ ap (λ (i : ℕ). get_or (d_places k) i 0) e ∙ sym (get_or-take 8 (drop (8 * j) (d_places k)) i 0 (omega arith) ∙ get_or-drop (8 * j) (d_places k) i 0))

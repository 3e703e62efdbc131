-- The places of the D bits of a byte, however they are found.
-- Assumes nothing.
use mathlib.Core.Path.{◌≡◌}
use mathlib.Core.List.{List, [], ◌∷◌, ◌++◌}
use Prim.Native.Nat.{ℕ, zero, suc, ◌+◌, ◌*◌, ◌<◌, ◌≤◌}
use native.Mathlib.Omega.{arith}
use lib.ListN.{length, take, drop, replicate, length-take, length-drop}
use lib.Seq.{get_or-take, get_or-drop, take_at}
use Rattle.channel.specs.declared.Kind.{Kind}
use Rattle.channel.specs.Kinds.{d_count}
use Rattle.channel.specs.Places.{d_places}
use Rattle.channel.proofs.DLaws.{Rises, d_rule}
use Rattle.fields.specs.Below.{Below}
use Rattle.scatter.proofs.PlaceLaws.{part-below}
use Rattle.dplaces.proofs.DPlaceLaws.{places_below, d_length_lem}
use Rattle.entries.specs.Entry.{Rising}
use Rattle.placing.specs.Eight.{size_of, eight_of}
use Rattle.placing.proofs.PlacingLaws.{byte-size}

-- a part of rising places rises
part_rises : (ps : List ℕ) (a n : ℕ) → Rising ps → Rising (take n (drop a ps))
part_rises ps a n h j l =
    let m : suc j < n = omega (arith, length-take n (drop a ps)) in
    let k : a + suc j < length ps = omega (arith, length-take n (drop a ps), length-drop a ps) in
    let e : a + suc j ≡ suc (a + j) = omega arith in
    rw (get_or-take n (drop a ps) j 0 (omega arith), get_or-take n (drop a ps) (suc j) 0 m, get_or-drop a ps j 0, get_or-drop a ps (suc j) 0, e) (h (a + j) (omega arith))

-- what rises from a number on is rising
rises_rising : (a : ℕ) (ps : List ℕ) → Rises a ps → Rising ps
rises_rising a [] r j l = absurd (omega arith)
rises_rising a (p ∷ []) r j l = absurd (omega arith)
rises_rising a (p ∷ (q ∷ ps)) r zero l = r.1.0
rises_rising a (p ∷ (q ∷ ps)) r (suc j) l = rises_rising (suc p) (q ∷ ps) r.1 j (omega arith)

-- the places of a byte, in front of zeros
pub worked_out : (k : Kind) (j n : ℕ) → 8 * j < d_count k → n ≡ size_of k j → (places : List ℕ) → places ≡ eight_of k j ++ drop (size_of k j) (replicate 8 0) → take n places ≡ eight_of k j
worked_out k j n inside size places e = rw e (take_at (eight_of k j) (drop (size_of k j) (replicate 8 0)) n (byte-size k j n inside size))

-- the places of a byte lie in a frame, rise, and are one to eight
pub record Eight (ps : List ℕ) : Type 0 where
  pub below : Below 160 ps
  pub rise : Rising ps
  pub some : 0 < length ps
  pub few : length ps ≤ 8

pub eight_of_lem : (k : Kind) (j : ℕ) → 8 * j < d_count k → Eight (eight_of k j)
eight_of_lem k j h =
    let l = length-take 8 (drop (8 * j) (d_places k)) in
    let d = length-drop (8 * j) (d_places k) in
    let c = d_length_lem k in
    record {
      below = part-below (d_places k) (8 * j) 8 (places_below k);
      rise = part_rises (d_places k) (8 * j) 8 (rises_rising 0 (d_places k) (d_rule k).rise);
      some = omega arith;
      few = omega arith;
    }

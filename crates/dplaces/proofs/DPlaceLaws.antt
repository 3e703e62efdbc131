-- The table of D bits against the rule of each kind.
-- Assumes nothing.
use mathlib.Core.Path.{◌≡◌, refl, sym, ◌∙◌, ap}
use mathlib.Core.Bool.{Bool, true, false, cond}
use mathlib.Core.List.{List, [], ◌∷◌}
use Prim.Native.Nat.{ℕ, zero, suc, ◌+◌, ◌-◌, ◌<◌, ◌≤◌}
use native.Mathlib.Omega.{arith}
use native.Mathlib.Nat.{not-suc-le-zero, le_of_suc-le-suc}
use borrow.Author.Tests.{eq-eqb}
use lib.Dec.{eqb, lit<}
use lib.ListN.{length, get_or, take, drop, length-drop}
use lib.Seq.{get_or-take, get_or-drop, ext_get_or, length-take-le}
use Rattle.channel.specs.declared.Kind.{Kind}
use Rattle.channel.specs.declared.Kind.TheVariants.{Speech, Data, Om, Configuration, NoSpeech, Lower, Amr670, Amr740}
use Rattle.channel.specs.Kinds.{d_count}
use Rattle.channel.specs.Places.{elem, d_places}
use Rattle.channel.proofs.FrameLaws.{body_high}
use Rattle.channel.proofs.DLaws.{Rule, d_rule}
use Rattle.fields.specs.Below.{Below}
use Rattle.dplaces.specs.DPlaces.{all_places, d_from}

-- a kind's part of the table is the list of its D places
d-part : (k : Kind) → take (d_count k) (drop (d_from k) all_places) ≡ d_places k
unfolding all_places d_places
d-part Speech = refl
d-part Data = refl
d-part Om = refl
d-part Configuration = refl
d-part NoSpeech = refl
d-part Lower = refl
d-part Amr670 = refl
d-part Amr740 = refl

-- so it obeys the rule: its places rise, none is fixed, C, XC or kind 1's CRC, and no other place is missing
pub table_rule : (k : Kind) → Rule k (take (d_count k) (drop (d_from k) all_places))
table_rule k = rw (d-part k) (d_rule k)

-- a kind has as many D places as the table of kinds says
pub d_length_lem : (k : Kind) → length (d_places k) ≡ d_count k
unfolding d_places
d_length_lem Speech = refl
d_length_lem Data = refl
d_length_lem Om = refl
d_length_lem Configuration = refl
d_length_lem NoSpeech = refl
d_length_lem Lower = refl
d_length_lem Amr670 = refl
d_length_lem Amr740 = refl

-- no kind has more than 151
pub d_count_le : (k : Kind) → d_count k ≤ 151
d_count_le Speech = lit< tt
d_count_le Data = lit< tt
d_count_le Om = lit< tt
d_count_le Configuration = lit< tt
d_count_le NoSpeech = lit< tt
d_count_le Lower = lit< tt
d_count_le Amr670 = lit< tt
d_count_le Amr740 = lit< tt

-- every kind's part ends in the table
pub part_end : (k : Kind) → d_from k + d_count k ≤ 1022
part_end Speech = lit< tt
part_end Data = lit< tt
part_end Om = lit< tt
part_end Configuration = lit< tt
part_end NoSpeech = lit< tt
part_end Lower = lit< tt
part_end Amr670 = lit< tt
part_end Amr740 = lit< tt

-- the table has 1,022 places
pub all-length : length all_places ≡ 1022
unfolding all_places d_places
all-length = refl

-- a number is equal to itself, as a test
eqb_self : (n : ℕ) → eqb n n ≡ true
eqb_self n = eq-eqb n n refl

-- an entry of a list is in it
entry-elem : (ps : List ℕ) (j : ℕ) → j < length ps → elem (get_or ps j 0) ps ≡ true
entry-elem [] j h = absurd (not-suc-le-zero h)
entry-elem (p ∷ ps) zero h = rw (eqb_self p)
entry-elem (p ∷ ps) (suc j) h = go (eqb (get_or ps j 0) p) (entry-elem ps j (le_of_suc-le-suc h))
  where
    go : (b : Bool) → elem (get_or ps j 0) ps ≡ true → cond b true (elem (get_or ps j 0) ps) ≡ true
    go true e = refl
    go false e = e

-- each D place lies in a frame
pub places_below : (k : Kind) → Below 160 (d_places k)
places_below k j h =
    let f = (d_rule k).free (get_or (d_places k) j 0) (entry-elem (d_places k) j h) in
    omega (arith, body_high k)

-- the part of the table that is a kind's
pub kind-part : (k : Kind) (places : List ℕ) (from n : ℕ) → places ≡ all_places → from ≡ d_from k → n ≡ d_count k → take (from + n - from) (drop from places) ≡ d_places k
kind-part k places from n p f c =
    let e : from + n - from ≡ n = omega arith in
    rw (e, p, f, c) (d-part k)

-- n places of a kind behind the first a, found in the table
pub part-is : (k : Kind) (places : List ℕ) (a n : ℕ) → places ≡ all_places → a + n ≤ d_count k → take n (drop (d_from k + a) places) ≡ take n (drop a (d_places k))
part-is k places a n table h =
    rw table
    (ext_get_or 0 (take n (drop (d_from k + a) all_places)) (take n (drop a (d_places k))) (long ∙ sym (length-take-le n (drop a (d_places k)) (omega (arith, length-drop a (d_places k), d_length_lem k))))
    (λ j l. found j (omega (arith, long))))
  where
    long : length (take n (drop (d_from k + a) all_places)) ≡ n
    long = length-take-le n (drop (d_from k + a) all_places) (omega (arith, length-drop (d_from k + a) all_places, all-length, part_end k))

    found : (j : ℕ) → j < n → get_or (take n (drop (d_from k + a) all_places)) j 0 ≡ get_or (take n (drop a (d_places k))) j 0
    found j l =
        let e : d_from k + a + j ≡ d_from k + (a + j) = omega arith in
        get_or-take n (drop (d_from k + a) all_places) j 0 l ∙ get_or-drop (d_from k + a) all_places j 0 ∙ ap (λ (i : ℕ). get_or all_places i 0) e
        ∙ sym (get_or-take (d_count k) (drop (d_from k) all_places) (a + j) 0 (omega arith) ∙ get_or-drop (d_from k) all_places (a + j) 0)
        ∙ ap (λ (ps : List ℕ). get_or ps (a + j) 0) (d-part k)
        ∙ sym (get_or-take n (drop a (d_places k)) j 0 l ∙ get_or-drop a (d_places k) j 0)

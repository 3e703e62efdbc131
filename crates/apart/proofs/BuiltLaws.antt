-- The octets built from a record's bytes have the bits of whatever body these bytes are of.
-- Assumes nothing.
use mathlib.Core.Path.{◌≡◌, refl, sym, ◌∙◌, ap, subst}
use mathlib.Core.Logic.{◌⊎◌, inl, inr}
use mathlib.Core.Bool.{Bool, true, false, ◌&&◌, cond, not}
use mathlib.Core.List.{List, [], ◌∷◌, ◌++◌}
use Prim.Native.Nat.{ℕ, zero, suc, ◌+◌, ◌-◌, ◌/◌, ◌%◌, ◌^◌, ◌<◌}
use native.Mathlib.Nat.{zero-add}
use native.Mathlib.Omega.{arith}
use borrow.Author.Tests.{eqb-true, eq-eqb, ne_eqb}
use lib.Dec.{eqb}
use lib.ListN.{length, get_or, take}
use lib.Seq.{get_or-take}
use Rattle.bits.specs.Bit.{bit_at, to_n, number, twenty, octet_of}
use Rattle.bits.proofs.BitLaws.{to_n_lt, to_n-one, length-twenty}
use Rattle.fields.specs.Below.{Below}
use Rattle.scatter.specs.Scatter.{put_places}
use Rattle.scatter.proofs.PlaceLaws.{length_places, Own, places_kept, places_put}
use Rattle.put.proofs.PutLaws.{put-at, length-put, own_kept}
use Rattle.channel.specs.declared.Direction.{Direction}
use Rattle.channel.specs.declared.Pattern.{Pattern}
use Rattle.channel.specs.declared.Pattern.TheVariants.{Hr, Low, P670, P740}
use Rattle.channel.specs.declared.Kind.{Kind}
use Rattle.channel.specs.declared.Kind.TheVariants.{Speech, Data, Om, Configuration, NoSpeech, Lower, Amr670, Amr740}
use Rattle.channel.specs.Kinds.{pattern_of, body_of, d_count}
use Rattle.channel.specs.Places.{elem, zeros_of, ones_of, c_places, xc_places, crc_places, c6_places, taken, d_places}
use Rattle.channel.specs.Coding.{Word, bits_at, all, ones, odd, fixed, coded, xc_coded, is_body}
use Rattle.channel.specs.Control.{from_top, control_places, control, extended}
use Rattle.channel.proofs.BoolLaws.{ands, and_both, all-at, zero-at, one_at}
use Rattle.channel.proofs.DLaws.{d_rule}
use Rattle.channel.specs.Record.{d_bytes, d_length}
use Rattle.dplaces.proofs.DPlaceLaws.{d_length_lem, places_below}
use Rattle.dbits.proofs.DBitLaws.{from_top-bit, d_bytes-bit}
use Rattle.record.proofs.KindLaws.{InByte, control-few}
use Rattle.octets.specs.Built.{fixed_octets, extended_places, with_parity, with_c5, with_xc6, with_parities, octets_by}
use Rattle.octets.proofs.KindLaws.{extended-few}

-- what coding says of the bits that a record does not hold: parities, and XC1..XC5 of an O&M frame
abbrev pub implied : Word → Kind → Bool
implied g Speech = odd (bits_at g (c_places Hr)) && odd (bits_at g xc_places)
implied g Data = odd (bits_at g (c_places Hr))
implied g Om = odd (bits_at g (c_places Hr)) && xc_coded g (31 ∷ [])
implied g Configuration = odd (bits_at g (c_places Hr))
implied g NoSpeech = true
implied g Lower = true
implied g Amr670 = true
implied g Amr740 = true

-- fixed bits and those bits are as a kind has them
abbrev pub framed : Word → Kind → Bool
framed g k = fixed g (pattern_of k) && implied g k

coded-implied : (d : Direction) (g : Word) (k : Kind) → coded d g k ≡ true → implied g k ≡ true
coded-implied d g Speech h = and_both (odd (bits_at g (c_places Hr))) (odd (bits_at g xc_places)) (search ands) (search ands)
coded-implied d g Data h = search ands
coded-implied d g Om h = and_both (odd (bits_at g (c_places Hr))) (xc_coded g (31 ∷ [])) (search ands) (search ands)
coded-implied d g Configuration h = search ands
coded-implied d g NoSpeech h = refl
coded-implied d g Lower h = refl
coded-implied d g Amr670 h = refl
coded-implied d g Amr740 h = refl

pub body-framed : (d : Direction) (g : Word) (k : Kind) → is_body d g k ≡ true → framed g k ≡ true
body-framed d g k h = and_both (fixed g (pattern_of k)) (implied g k) (search ands) (coded-implied d g k (search ands))

-- what is in a list has an index
elem-index : (i : ℕ) (ps : List ℕ) → elem i ps ≡ true → (j : ℕ) × (j < length ps) × (get_or ps j 0 ≡ i)
elem-index i [] m = let z : ◌≡◌ {A = ℕ} 0 1 = cc in absurd (omega arith)
elem-index i (p ∷ ps) m = go (eqb i p) refl m (elem-index i ps)
  where
    go : (b : Bool) → eqb i p ≡ b → cond b true (elem i ps) ≡ true → (elem i ps ≡ true → (j : ℕ) × (j < length ps) × (get_or ps j 0 ≡ i)) → (j : ℕ) × (j < length (p ∷ ps)) × (get_or (p ∷ ps) j 0 ≡ i)
    go true q m rest = (0, omega arith, sym (eqb-true i p q))
    go false q m rest = let (j, l, e) = rest m in (suc j, omega arith, e)

elem-or : (i : ℕ) (ps qs : List ℕ) → elem i (ps ++ qs) ≡ true → (elem i ps ≡ true) ⊎ (elem i qs ≡ true)
elem-or i [] qs m = inr m
elem-or i (p ∷ ps) qs m = go (eqb i p) m (elem-or i ps qs)
  where
    go : (b : Bool) → cond b true (elem i (ps ++ qs)) ≡ true → (elem i (ps ++ qs) ≡ true → (elem i ps ≡ true) ⊎ (elem i qs ≡ true)) → (cond b true (elem i ps) ≡ true) ⊎ (elem i qs ≡ true)
    go true m rest = inl refl
    go false m rest = rest m

pub ones-last : (bs : List Bool) (x : Bool) → ones (bs ++ (x ∷ [])) ≡ ones bs + to_n x
ones-last [] x = omega arith
ones-last (b ∷ bs) x = omega (arith, ones-last bs x)

-- the last of bits with an odd number of ones is one where the others have an even number
odd-last : (bs : List Bool) (x : Bool) → odd (bs ++ (x ∷ [])) ≡ true → not (odd bs) ≡ x
odd-last bs true a =
    ap not (ne_eqb (ones bs % 2) 1 (λ e. omega (arith, ones-last bs true, eqb-true (ones (bs ++ (true ∷ [])) % 2) 1 a)))
odd-last bs false a =
    ap not (eq-eqb (ones bs % 2) 1 (omega (arith, ones-last bs false, eqb-true (ones (bs ++ (false ∷ [])) % 2) 1 a)))

bits-last : (f : Word) (ps : List ℕ) (p : ℕ) → bits_at f (ps ++ (p ∷ [])) ≡ bits_at f ps ++ (f p ∷ [])
bits-last f [] p = refl
bits-last f (q ∷ ps) p = ap (λ (l : List Bool). f q ∷ l) (bits-last f ps p)

-- the octets with the fixed bits of a pattern have them, and are twenty
fixed_octets_lem : (t : Pattern) → fixed (bit_at (fixed_octets t)) t ≡ true
unfolding fixed_octets twenty octet_of
fixed_octets_lem Hr = refl
fixed_octets_lem Low = refl
fixed_octets_lem P670 = refl
fixed_octets_lem P740 = refl

pub length-fixed : (t : Pattern) → length (fixed_octets t) ≡ 20
unfolding fixed_octets
length-fixed t = length-twenty (λ i. elem i (ones_of t))

-- where the parities of a kind stand
abbrev parity_places : Kind → List ℕ
parity_places Speech = 13 ∷ 21 ∷ []
parity_places Data = 13 ∷ []
parity_places Om = 13 ∷ 21 ∷ []
parity_places Configuration = 13 ∷ []
parity_places NoSpeech = []
parity_places Lower = []
parity_places Amr670 = []
parity_places Amr740 = []

-- every place that is no D place is fixed, or one of control, of extended or of the parities
abbrev beside : Kind → List ℕ
beside k = zeros_of (pattern_of k) ++ (ones_of (pattern_of k) ++ (control_places k ++ (extended_places k ++ parity_places k)))

taken-beside : (k : Kind) → all (λ i. elem i (beside k)) (taken k) ≡ true
taken-beside Speech = refl
taken-beside Data = refl
taken-beside Om = refl
taken-beside Configuration = refl
taken-beside NoSpeech = refl
taken-beside Lower = refl
taken-beside Amr670 = refl
taken-beside Amr740 = refl

module _ (g : Word) where
  -- octets have the word's bits at some places
  abbrev Has : List ℕ → List ℕ → Type 0
  Has o ps = (i : ℕ) → elem i ps ≡ true → bit_at o i ≡ g i

  here : (p : ℕ) (ps : List ℕ) → elem p (p ∷ ps) ≡ true
  here p ps = rw (eq-eqb p p refl)

  there : (i p : ℕ) (ps : List ℕ) → elem i ps ≡ true → elem i (p ∷ ps) ≡ true
  there i p ps m = go (eqb i p)
    where
      go : (b : Bool) → cond b true (elem i ps) ≡ true
      go true = refl
      go false = m

  has-bits : (o ps : List ℕ) → Has o ps → bits_at (bit_at o) ps ≡ bits_at g ps
  has-bits o [] h = refl
  has-bits o (p ∷ ps) h = first (h p (here p ps)) (has-bits o ps (λ i m. h i (there i p ps m)))
    where
      first : bit_at o p ≡ g p → bits_at (bit_at o) ps ≡ bits_at g ps → bits_at (bit_at o) (p ∷ ps) ≡ bits_at g (p ∷ ps)
      first a b = cc

  get_d_bits : (ps : List ℕ) (j : ℕ) → j < length ps → get_or (bits_at g ps) j false ≡ g (get_or ps j 0)
  get_d_bits [] j l = absurd (omega arith)
  get_d_bits (p ∷ ps) zero l = refl
  get_d_bits (p ∷ ps) (suc j) l = get_d_bits ps j (omega arith)

  -- a byte of bits from the top has them one after the other
  top_own : (ps : List ℕ) (x : ℕ) → InByte ps → x ≡ from_top (bits_at g ps) → Own g (bit_at (x ∷ [])) 160 ps 0
  top_own ps x few e j l =
      let d : (0 + j) / 8 ≡ 0 = omega arith in
      let m : (0 + j) % 8 ≡ j = omega arith in
      rw (d, m, e)
      (ap (λ (n : ℕ). eqb n 1) (from_top-bit (bits_at g ps) j (omega (arith, few.1))) ∙ to_n-one (get_or (bits_at g ps) j false) ∙ get_d_bits ps j l)

  -- the D bytes have the D bits one after the other
  d_own : (k : Kind) (d : List ℕ) → take (d_length k) (d_bytes g k) ≡ take (d_length k) d → Own g (bit_at d) 160 (d_places k) 0
  d_own k d e j l =
      let n : j < d_count k = omega (arith, d_length_lem k) in
      let a : get_or d (j / 8) 0 ≡ get_or (d_bytes g k) (j / 8) 0 =
      sym (get_or-take (d_length k) d (j / 8) 0 (omega arith)) ∙ ap (λ (l : List ℕ). get_or l (j / 8) 0) (sym e) ∙ get_or-take (d_length k) (d_bytes g k) (j / 8) 0 (omega arith) in
      rw (zero-add j) (ap (λ (b : ℕ). eqb (b / 2 ^ (7 - j % 8) % 2) 1) a ∙ d_bytes-bit g k j n)

  -- XC1..XC5 of an O&M frame are ones
  om_ones : framed g Om ≡ true → from_top (bits_at g (take 5 xc_places)) ≡ 248
  om_ones a = go (g 14) (g 15) (g 18) (g 19) (g 20) (search ands)
    where
      one : (b : Bool) → to_n b ≡ 1 → b ≡ true
      one true e = refl
      one false e = absurd (omega arith)

      only : (v : ℕ) → elem v (31 ∷ []) ≡ true → v ≡ 31
      only v m = let (j, l, e) = elem-index v (31 ∷ []) m in at j l e
        where
          at : (j : ℕ) → j < 1 → get_or (31 ∷ []) j 0 ≡ v → v ≡ 31
          at zero l e = sym e
          at (suc j) l e = absurd (omega arith)

      go : (p q r s t : Bool) → elem (number (p ∷ q ∷ r ∷ s ∷ t ∷ [])) (31 ∷ []) ≡ true → from_top (p ∷ q ∷ r ∷ s ∷ t ∷ []) ≡ 248
      go p q r s t m =
          let v = only (number (p ∷ q ∷ r ∷ s ∷ t ∷ [])) m in
          let a = to_n_lt p in
          let b = to_n_lt q in
          let c = to_n_lt r in
          let d = to_n_lt s in
          let e = to_n_lt t in
          rw (one p (omega arith), one q (omega arith), one r (omega arith), one s (omega arith), one t (omega arith))

  pub extended-top : (k : Kind) → framed g k ≡ true → extended g k ≡ from_top (bits_at g (extended_places k))
  unfolding extended
  extended-top Speech a = refl
  extended-top Data a = refl
  extended-top Om a = sym (om_ones a)
  extended-top Configuration a = refl
  extended-top NoSpeech a = refl
  extended-top Lower a = refl
  extended-top Amr670 a = refl
  extended-top Amr740 a = refl

  -- a parity bit is that of the word, where the bits that it is of are; every other bit is kept
  module _ (ps : List ℕ) (p : ℕ) (o : List ℕ) (inside : p < 160) (l : length o ≡ 20) (has : Has o ps) (a : odd (bits_at g (ps ++ (p ∷ []))) ≡ true) where
    parity_own : not (odd (bits_at (bit_at o) ps)) ≡ g p
    parity_own = ap (λ (bs : List Bool). not (odd bs)) (has-bits o ps has) ∙ odd-last (bits_at g ps) (g p) (ap odd (sym (bits-last g ps p)) ∙ a)

    parity-kept : (q : ℕ) → bit_at o q ≡ g q → bit_at (with_parity ps p o) q ≡ g q
    unfolding with_parity
    parity-kept q e = own_kept g o p (not (odd (bits_at (bit_at o) ps))) q (omega arith) parity_own e

    parity-put : bit_at (with_parity ps p o) p ≡ g p
    unfolding with_parity
    parity-put = put-at o p (not (odd (bits_at (bit_at o) ps))) (omega arith) ∙ parity_own

  length-parity : (ps : List ℕ) (p : ℕ) (o : List ℕ) → length (with_parity ps p o) ≡ length o
  unfolding with_parity
  length-parity ps p o = length-put o p (not (odd (bits_at (bit_at o) ps)))

  has_some : (o ps qs : List ℕ) → Has o (ps ++ qs) → Has o ps
  has_some o ps qs h i m = h i (left ps m)
    where
      left : (ps : List ℕ) → elem i ps ≡ true → elem i (ps ++ qs) ≡ true
      left [] m = let z : ◌≡◌ {A = ℕ} 0 1 = cc in absurd (omega arith)
      left (p ∷ ps) m = go (eqb i p) m (left ps)
        where
          go : (b : Bool) → cond b true (elem i ps) ≡ true → (elem i ps ≡ true → elem i (ps ++ qs) ≡ true) → cond b true (elem i (ps ++ qs)) ≡ true
          go true m rest = refl
          go false m rest = rest m

  -- the parities of the HR pattern: C5, and XC6 behind it
  module _ (o : List ℕ) (l : length o ≡ 20) (hc : Has o (take 4 (c_places Hr))) (c : odd (bits_at g (c_places Hr)) ≡ true) where
    c5_kept : (q : ℕ) → bit_at o q ≡ g q → bit_at (with_c5 o) q ≡ g q
    c5_kept = parity-kept (take 4 (c_places Hr)) 13 o (omega arith) l hc c

    c5_put : bit_at (with_c5 o) 13 ≡ g 13
    c5_put = parity-put (take 4 (c_places Hr)) 13 o (omega arith) l hc c

    module _ (hx : Has o (take 5 xc_places)) (x : odd (bits_at g xc_places) ≡ true) where
      long : length (with_c5 o) ≡ 20
      long = length-parity (take 4 (c_places Hr)) 13 o ∙ l

      xc6_kept : (q : ℕ) → bit_at o q ≡ g q → bit_at (with_xc6 (with_c5 o)) q ≡ g q
      xc6_kept q e = parity-kept (take 5 xc_places) 21 (with_c5 o) (omega arith) long (λ i m. c5_kept i (hx i m)) x q (c5_kept q e)

      both-put : (q : ℕ) → elem q (13 ∷ 21 ∷ []) ≡ true → bit_at (with_xc6 (with_c5 o)) q ≡ g q
      both-put q m = let (j, n, e) = elem-index q (13 ∷ 21 ∷ []) m in subst (λ (i : ℕ). bit_at (with_xc6 (with_c5 o)) i ≡ g i) e (at j n)
        where
          at : (j : ℕ) → j < 2 → bit_at (with_xc6 (with_c5 o)) (get_or (13 ∷ 21 ∷ []) j 0) ≡ g (get_or (13 ∷ 21 ∷ []) j 0)
          at zero n = parity-kept (take 5 xc_places) 21 (with_c5 o) (omega arith) long (λ i m. c5_kept i (hx i m)) x 13 c5_put
          at (suc zero) n = parity-put (take 5 xc_places) 21 (with_c5 o) (omega arith) long (λ i m. c5_kept i (hx i m)) x
          at (suc (suc j)) n = absurd (omega arith)

    one-put : (q : ℕ) → elem q (13 ∷ []) ≡ true → bit_at (with_c5 o) q ≡ g q
    one-put q m = let (j, n, e) = elem-index q (13 ∷ []) m in subst (λ (i : ℕ). bit_at (with_c5 o) i ≡ g i) e (at j n)
      where
        at : (j : ℕ) → j < 1 → bit_at (with_c5 o) (get_or (13 ∷ []) j 0) ≡ g (get_or (13 ∷ []) j 0)
        at zero n = c5_put
        at (suc j) n = absurd (omega arith)

  nowhere : (o : List ℕ) (i : ℕ) → elem i [] ≡ true → bit_at o i ≡ g i
  nowhere o i m = let z : ◌≡◌ {A = ℕ} 0 1 = cc in absurd (omega arith)

  -- the parities of a kind: where the octets have the bits of control and extended, they have the parities too, and all that they had
  parities : (k : Kind) (o : List ℕ) → length o ≡ 20 → Has o (control_places k) → Has o (extended_places k) → framed g k ≡ true
      → ((q : ℕ) → bit_at o q ≡ g q → bit_at (with_parities k o) q ≡ g q) × Has (with_parities k o) (parity_places k)
  parities Speech o l hc hx a =
      let c = has_some o (take 4 (c_places Hr)) c6_places hc in
      let x = has_some o (take 5 xc_places) crc_places hx in
      (xc6_kept o l c (search ands) x (search ands), both-put o l c (search ands) x (search ands))
  parities Data o l hc hx a = (c5_kept o l hc (search ands), one-put o l hc (search ands))
  parities Om o l hc hx a = (xc6_kept o l hc (search ands) hx (search ands), both-put o l hc (search ands) hx (search ands))
  parities Configuration o l hc hx a = (c5_kept o l hc (search ands), one-put o l hc (search ands))
  parities NoSpeech o l hc hx a = ((λ q e. e), nowhere o)
  parities Lower o l hc hx a = ((λ q e. e), nowhere o)
  parities Amr670 o l hc hx a = ((λ q e. e), nowhere o)
  parities Amr740 o l hc hx a = ((λ q e. e), nowhere o)

  -- own bits put at places
  has-put : (ps s : List ℕ) (h : ℕ → Bool) → Below 160 ps → length s ≡ 20 → Own g h 160 ps 0 → Has (put_places s ps h 0) ps
  has-put ps s h b l own i m = let (j, n, e) = elem-index i ps m in subst (λ (q : ℕ). bit_at (put_places s ps h 0) q ≡ g q) e (places_put g h 160 ps s 0 j b (omega arith) own n)

  -- if control, extended and the D bytes are those of a body, the octets built from them have its bits
  module _ (k : Kind) (c x : ℕ) (d : List ℕ) (a : framed g k ≡ true) (ec : control g k ≡ c) (ex : extended g k ≡ x) (ed : take (d_length k) (d_bytes g k) ≡ take (d_length k) d) where
    abbrev o₀ : List ℕ
    o₀ = fixed_octets (pattern_of k)

    abbrev o₁ : List ℕ
    o₁ = put_places o₀ (control_places k) (bit_at (c ∷ [])) 0

    abbrev o₂ : List ℕ
    o₂ = put_places o₁ (extended_places k) (bit_at (x ∷ [])) 0

    abbrev o₃ : List ℕ
    o₃ = put_places o₂ (d_places k) (bit_at d) 0

    own_c : Own g (bit_at (c ∷ [])) 160 (control_places k) 0
    unfolding control
    own_c = top_own (control_places k) c (control-few k) (sym ec)

    own_x : Own g (bit_at (x ∷ [])) 160 (extended_places k) 0
    own_x = top_own (extended_places k) x (extended-few k) (sym ex ∙ extended-top k a)

    own_d : Own g (bit_at d) 160 (d_places k) 0
    own_d = d_own k d ed

    l₀ : length o₀ ≡ 20
    l₀ = length-fixed (pattern_of k)

    l₁ : length o₁ ≡ 20
    l₁ = length_places (control_places k) o₀ (bit_at (c ∷ [])) 0 ∙ l₀

    l₂ : length o₂ ≡ 20
    l₂ = length_places (extended_places k) o₁ (bit_at (x ∷ [])) 0 ∙ l₁

    l₃ : length o₃ ≡ 20
    l₃ = length_places (d_places k) o₂ (bit_at d) 0 ∙ l₂

    kept₁ : (q : ℕ) → bit_at o₀ q ≡ g q → bit_at o₁ q ≡ g q
    kept₁ q e = places_kept g (bit_at (c ∷ [])) 160 (control_places k) o₀ 0 q (control-few k).0 (omega (arith, l₀)) own_c e

    kept₂ : (q : ℕ) → bit_at o₁ q ≡ g q → bit_at o₂ q ≡ g q
    kept₂ q e = places_kept g (bit_at (x ∷ [])) 160 (extended_places k) o₁ 0 q (extended-few k).0 (omega (arith, l₁)) own_x e

    kept₃ : (q : ℕ) → bit_at o₂ q ≡ g q → bit_at o₃ q ≡ g q
    kept₃ q e = places_kept g (bit_at d) 160 (d_places k) o₂ 0 q (places_below k) (omega (arith, l₂)) own_d e

    has-c : Has o₃ (control_places k)
    has-c i m = kept₃ i (kept₂ i (has-put (control_places k) o₀ (bit_at (c ∷ [])) (control-few k).0 l₀ own_c i m))

    has-x : Has o₃ (extended_places k)
    has-x i m = kept₃ i (has-put (extended_places k) o₁ (bit_at (x ∷ [])) (extended-few k).0 l₁ own_x i m)

    has-d : Has o₃ (d_places k)
    has-d i m = has-put (d_places k) o₂ (bit_at d) (places_below k) l₂ own_d i m

    last : ((q : ℕ) → bit_at o₃ q ≡ g q → bit_at (with_parities k o₃) q ≡ g q) × Has (with_parities k o₃) (parity_places k)
    last = parities k o₃ l₃ has-c has-x a

    fixed_too : fixed g (pattern_of k) ≡ true
    fixed_too = search ands

    has-beside : Has (with_parities k o₃) (beside k)
    has-beside i m =
        elim (elem-or i (zeros_of (pattern_of k)) _ m) [
          | inl z ↦ last.0 i (kept₃ i (kept₂ i (kept₁ i (zero-at (bit_at o₀) (pattern_of k) i z (fixed_octets_lem (pattern_of k)) ∙ sym (zero-at g (pattern_of k) i z fixed_too)))))
          | inr m ↦ elim (elem-or i (ones_of (pattern_of k)) _ m) [
            | inl z ↦ last.0 i (kept₃ i (kept₂ i (kept₁ i (one_at (bit_at o₀) (pattern_of k) i z (fixed_octets_lem (pattern_of k)) ∙ sym (one_at g (pattern_of k) i z fixed_too)))))
            | inr m ↦ elim (elem-or i (control_places k) _ m) [
              | inl z ↦ last.0 i (has-c i z)
              | inr m ↦ elim (elem-or i (extended_places k) _ m) [
                | inl z ↦ last.0 i (has-x i z)
                | inr z ↦ last.1 i z
              ]
            ]
          ]
        ]

    pub built : (i : ℕ) → i < body_of k → bit_at (octets_by k c x d) i ≡ g i
    unfolding octets_by
    built i l = go (elem i (taken k)) refl
      where
        go : (m : Bool) → elem i (taken k) ≡ m → bit_at (with_parities k o₃) i ≡ g i
        go false m = last.0 i (has-d i ((d_rule k).whole i l m))
        go true m = has-beside i (all-at (λ j. elem j (beside k)) (taken k) i m (taken-beside k))

-- Records tell items apart: two items that terms allow and that have the same record are one.
-- Assumes nothing.
use mathlib.Core.Path.{◌≡◌, refl, sym, ◌∙◌, ap, subst, fun_ext}
use mathlib.Core.Bool.{Bool, true, false, ◌&&◌}
use mathlib.Core.List.{List, [], ◌∷◌, ◌++◌, map}
use Prim.Native.Nat.{ℕ, ◌+◌, ◌-◌, ◌<◌}
use native.Mathlib.Nat.{zero-add}
use native.Mathlib.Omega.{arith}
use borrow.Author.Tests.{ltb-true}
use lib.Dec.{ltb}
use lib.ListN.{length, get_or, take, drop, length-append, length-take}
use lib.Seq.{drop_at}
use Rattle.channel.specs.declared.Terms.{Terms}
use Rattle.channel.specs.declared.Kind.{Kind}
use Rattle.channel.specs.declared.Kind.TheVariants.{Speech, Data, Om, Configuration, NoSpeech, Lower, Amr670, Amr740}
use Rattle.channel.specs.Kinds.{kinds, kind_no, body_of}
use Rattle.channel.specs.Coding.{Word, word_at, is_body}
use Rattle.channel.specs.Control.{control, extended}
use Rattle.channel.specs.Record.{d_bytes, wide, number_at, d_length, size_of, record_of, records}
use Rattle.reading.specs.Reading.{Cursor, Item, gap, frame, Obeys, over, Stretch}
use Rattle.channel.specs.Verdict.{Context}
use Rattle.channel.specs.Frames.{Capture, Frame, rules}
use Rattle.apart.specs.Fit.{Fit, AllFit}
use Rattle.channel.specs.Sound.{FitFrame}
use Rattle.apart.proofs.BuiltLaws.{framed, body-framed, built}
use Rattle.numbers.proofs.SizeLaws.{four_bytes, record_length, size_pos, d_length_le, length-d_bytes}

-- of two lists that begin with parts of one length the parts and the rests are equal
pub parts : {A : Type 0} (a b r s : List A) → length a ≡ length b → a ++ r ≡ b ++ s → (a ≡ b) × (r ≡ s)
parts [] [] r s l e = (refl, e)
parts [] (y ∷ b) r s l e = absurd (omega arith)
parts (x ∷ a) [] r s l e = absurd (omega arith)
parts {A} (x ∷ a) (y ∷ b) r s l e =
    let h : x ≡ y = cc in
    let t : a ++ r ≡ b ++ s = cc in
    let (p, q) = parts a b r s (omega arith) t in
    (cc, q)

-- a kind is told by its number
number_kind : ℕ → Kind
number_kind n = get_or kinds (n - 1) Speech

kind-back : (k : Kind) → number_kind (kind_no k) ≡ k
unfolding number_kind
kind-back Speech = refl
kind-back Data = refl
kind-back Om = refl
kind-back Configuration = refl
kind-back NoSpeech = refl
kind-back Lower = refl
kind-back Amr670 = refl
kind-back Amr740 = refl

pub kind-one : (j k : Kind) → kind_no j ≡ kind_no k → j ≡ k
kind-one j k e = sym (kind-back j) ∙ ap number_kind e ∙ kind-back k

-- two bodies with the same control, extended and D bytes are one: each has the bits of the octets built from them
body_same : (g h : Word) (k : Kind) → framed g k ≡ true → framed h k ≡ true → control g k ≡ control h k → extended g k ≡ extended h k → take (d_length k) (d_bytes g k) ≡ take (d_length k) (d_bytes h k)
    → (i : ℕ) → i < body_of k → g i ≡ h i
body_same g h k a b c e ds i l =
    sym (built g k (control g k) (extended g k) (d_bytes g k) a refl refl refl i l) ∙ built h k (control g k) (extended g k) (d_bytes g k) b (sym c) (sym e) (sym ds) i l

-- a number of four bytes is told by them
wide-one : (v u : ℕ) → v < 4294967296 → u < 4294967296 → wide 4 v ≡ wide 4 u → v ≡ u
wide-one v u a b e = sym (four_bytes v a) ∙ ap (λ (bs : List ℕ). number_at bs 0) e ∙ four_bytes u b

pub d-long : (g : Word) (k : Kind) → length (take (d_length k) (d_bytes g k)) ≡ d_length k
d-long g k = simp (length-take, length-d_bytes) (omega (arith, d_length_le k))

-- two words that agree on a body, cut behind it, are one
pub words_one : (g h : Word) (b : ℕ) → ((i : ℕ) → i < b → g i ≡ h i) → word_at g 0 b ≡ word_at h 0 b
words_one g h b s = fun_ext (λ i. go i (ltb i b) refl)
  where
    go : (i : ℕ) (t : Bool) → ltb i b ≡ t → t && g (0 + i) ≡ t && h (0 + i)
    go i false e = refl
    go i true e = s (0 + i) (omega (arith, ltb-true i b e))

module _ (t : Terms) (f g : Frame) (a : FitFrame t f) (b : FitFrame t g) (r s : List ℕ) (e : record_of (frame f) ++ r ≡ record_of (frame g) ++ s) where
  same_kind : f.kind ≡ g.kind
  unfolding record_of
  same_kind = kind-one f.kind g.kind (cc)

  same_start : f.start ≡ g.start
  unfolding record_of
  same_start = wide-one f.start g.start a.start_fits b.start_fits (cc)

  same-tail : f.tail ≡ g.tail
  unfolding record_of
  same-tail = wide-one f.tail g.tail a.tail_fits b.tail_fits (cc)

  same-control : control f.body f.kind ≡ control g.body g.kind
  unfolding record_of
  same-control = cc

  same-extended : extended f.body f.kind ≡ extended g.body g.kind
  unfolding record_of
  same-extended = cc

  same-verdict : f.verdict ≡ g.verdict
  unfolding record_of
  same-verdict = cc

  behind : take (d_length f.kind) (d_bytes f.body f.kind) ++ r ≡ take (d_length g.kind) (d_bytes g.body g.kind) ++ s
  unfolding record_of
  behind = cc

  rests : (take (d_length f.kind) (d_bytes f.body f.kind) ≡ take (d_length g.kind) (d_bytes g.body g.kind)) × (r ≡ s)
  rests = parts _ _ r s (d-long f.body f.kind ∙ ap d_length same_kind ∙ sym (d-long g.body g.kind)) behind

  same_body : f.body ≡ g.body
  same_body =
      let q = sym same_kind in
      let here = body_same f.body g.body f.kind (body-framed t.direction f.body f.kind a.holds)
      (body-framed t.direction g.body f.kind (subst (λ (k : Kind). is_body t.direction g.body k ≡ true) q b.holds))
      (same-control ∙ ap (control g.body) q) (same-extended ∙ ap (extended g.body) q) (rests.0 ∙ ap (λ (k : Kind). take (d_length k) (d_bytes g.body k)) q) in
      a.cut ∙ words_one f.body g.body (body_of f.kind) here ∙ ap (λ (k : Kind). word_at g.body 0 (body_of k)) same_kind ∙ sym b.cut

  -- two frames that terms allow, with the same record in front are one, and so are the rests
  pub frame-one : (f ≡ g) × (r ≡ s)
  frame-one = ((λ i. record { kind = same_kind i; start = same_start i; body = same_body i; tail = same-tail i; verdict = same-verdict i }), rests.1)

-- no frame has the number of a gap
pub no_gap : (k : Kind) → 0 ≡ kind_no k → ⊥
no_gap Speech e = omega arith
no_gap Data e = omega arith
no_gap Om e = omega arith
no_gap Configuration e = omega arith
no_gap NoSpeech e = omega arith
no_gap Lower e = omega arith
no_gap Amr670 e = omega arith
no_gap Amr740 e = omega arith

-- two items that terms allow, with the same record in front are one, and so are the rests
pub record_one : (t : Terms) (x y : Item Frame) → Fit t x → Fit t y → (r s : List ℕ) → record_of x ++ r ≡ record_of y ++ s → (x ≡ y) × (r ≡ s)
unfolding record_of
record_one t (gap p l) (gap q m) a b r s e =
    let u : p ≡ q = wide-one p q a.0 b.0 (cc) in
    let v : l ≡ m = wide-one l m a.1 b.1 (cc) in
    (cc, cc)
record_one t (gap p l) (frame g) a b r s e = absurd (no_gap g.kind (cc))
record_one t (frame f) (gap q m) a b r s e = absurd (no_gap f.kind (cc))
record_one t (frame f) (frame g) a b r s e = let (p, q) = frame-one t f g a b r s e in (ap frame p, q)

nothing : (x : Item Frame) (r : List ℕ) → [] ≡ record_of x ++ r → ⊥
nothing x r e = omega (arith, ap length e, length-append (record_of x) r, record_length x, size_pos x)

-- so the bytes of records tell the items that they are of
pub records-one : (t : Terms) (xs ys : List (Item Frame)) → AllFit t xs → AllFit t ys → records xs ≡ records ys → xs ≡ ys
records-one t [] [] a b e = refl
records-one t [] (y ∷ ys) a b e = absurd (nothing y (records ys) e)
records-one t (x ∷ xs) [] a b e = absurd (nothing x (records xs) (sym e))
records-one t (x ∷ xs) (y ∷ ys) a b e =
    let (p, q) = record_one t x y a.0 b.0 (records xs) (records ys) e in
    let r : xs ≡ ys = records-one t xs ys a.1 b.1 q in
    cc

-- a word that is cut is not changed by the same cut
pub cut-cut : (f : ℕ → Bool) (p b : ℕ) → word_at f p b ≡ word_at (word_at f p b) 0 b
cut-cut f p b = fun_ext (λ i. go i (ltb i b) refl)
  where
    go : (i : ℕ) (t : Bool) → ltb i b ≡ t → t && f (p + i) ≡ t && (ltb (0 + i) b && f (p + (0 + i)))
    go i false e = refl
    go i true e = rw (zero-add i, e)

-- the items of a capture are such items
module _ (w : Capture) (short : w.n < 4294967296) where
  pub obeys-fit : (c : Cursor Context) (x : Item Frame) → Obeys rules w c x → Fit w.terms x
  obeys-fit c (gap s l) o = (omega (arith, o.within, o.filled), omega (arith, o.within))
  obeys-fit c (frame f) o =
      let h = o.stands in
      record {
        cut = h.bits ∙ cut-cut w.bits c.position (body_of f.kind) ∙ ap (λ (g : Word). word_at g 0 (body_of f.kind)) (sym h.bits);
        holds = h.holds;
        start_fits = omega (arith, h.at, h.before);
        tail_fits = omega (arith, h.tail.within);
      }

  pub stretch-fit : (c : Cursor Context) (xs : List (Item Frame)) → Stretch rules w c xs → AllFit w.terms xs
  stretch-fit c [] s = tt
  stretch-fit c (x ∷ xs) s = (obeys-fit c x s.0, stretch-fit (over rules c x) xs s.1)

-- a frame's record in front tells its kind, and so where it ends
front-kind : (f g : Frame) (r s : List ℕ) → record_of (frame f) ++ r ≡ record_of (frame g) ++ s → f.kind ≡ g.kind
unfolding record_of
front-kind f g r s e = kind-one f.kind g.kind (cc)

front_rest : (f g : Frame) (r s : List ℕ) → record_of (frame f) ++ r ≡ record_of (frame g) ++ s → r ≡ s
front_rest f g r s e =
    let l : size_of (frame g) ≡ size_of (frame f) = ap (λ (k : Kind). 12 + d_length k) (sym (front-kind f g r s e)) in
    sym (drop_at (record_of (frame f)) r (size_of (frame f)) (record_length (frame f))) ∙ ap (drop (size_of (frame f))) e
    ∙ drop_at (record_of (frame g)) s (size_of (frame f)) (record_length (frame g) ∙ l)

-- and it is that of no gap
front-gap : (start span : ℕ) (g : Frame) (r s : List ℕ) → record_of (gap start span) ++ r ≡ record_of (frame g) ++ s → ⊥
unfolding record_of
front-gap start span g r s e = no_gap g.kind (cc)

-- so items with the records of frames are frames
pub all-frames : (xs : List (Item Frame)) (gs : List Frame) → records xs ≡ records (map frame gs) → (fs : List Frame) × (xs ≡ map frame fs)
all-frames [] gs e = ([], refl)
all-frames (x ∷ xs) [] e = absurd (omega (arith, ap length e, length-append (record_of x) (records xs), record_length x, size_pos x))
all-frames (gap start span ∷ xs) (g ∷ gs) e = absurd (front-gap start span g (records xs) (records (map frame gs)) e)
all-frames (frame f ∷ xs) (g ∷ gs) e =
    let (fs, q) = all-frames xs gs (front_rest f g (records xs) (records (map frame gs)) e) in
    (f ∷ fs, ap (λ (l : List (Item Frame)). frame f ∷ l) q)

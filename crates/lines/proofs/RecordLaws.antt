-- A record taken apart: its numbers, its size by its first byte, and the line of its item; and a page, record by record.
-- Assumes nothing.
use mathlib.Core.Path.{◌≡◌, refl, sym, ◌∙◌, ap}
use mathlib.Core.List.{List, [], ◌∷◌, ◌++◌, append_assoc, append-nil}
use Prim.Native.Nat.{ℕ, ◌+◌, ◌≤◌, ◌<◌}
use native.Mathlib.Omega.{arith}
use lib.Dec.{lit<}
use lib.ListN.{length, take, drop, get_or, length-append}
use lib.Seq.{take_at, drop_at}
use Rattle.reading.specs.Reading.{Item, gap, frame}
use Rattle.channel.specs.declared.Kind.{Kind}
use Rattle.channel.specs.declared.Kind.TheVariants.{Speech, Data, Om, Configuration, NoSpeech, Lower, Amr670, Amr740}
use Rattle.channel.specs.Kinds.{kind_no}
use Rattle.channel.specs.Frames.{Frame}
use Rattle.channel.specs.Record.{number_at, record_of, records, size_of, d_length}
use Rattle.numbers.proofs.SizeLaws.{four_bytes, record_length, size_pos}
use Rattle.text.specs.Text.{Put}
use Rattle.text.proofs.TextLaws.{put-none, put-put, put_one}
use Rattle.line.specs.Line.{spaced}
use Rattle.lines.specs.Lines.{line_of, lines_of, sizes, Fits, AllFit, Recorded, Lined, Records, AllLined}

-- a kind's number and the size of its record
kind-some : (k : Kind) → 0 < kind_no k
kind-some Speech = lit< tt
kind-some Data = lit< tt
kind-some Om = lit< tt
kind-some Configuration = lit< tt
kind-some NoSpeech = lit< tt
kind-some Lower = lit< tt
kind-some Amr670 = lit< tt
kind-some Amr740 = lit< tt

kind-few : (k : Kind) → kind_no k < 9
kind-few Speech = lit< tt
kind-few Data = lit< tt
kind-few Om = lit< tt
kind-few Configuration = lit< tt
kind-few NoSpeech = lit< tt
kind-few Lower = lit< tt
kind-few Amr670 = lit< tt
kind-few Amr740 = lit< tt

kind-size : (k : Kind) → get_or sizes (kind_no k) 0 ≡ 12 + d_length k
kind-size Speech = refl
kind-size Data = refl
kind-size Om = refl
kind-size Configuration = refl
kind-size NoSpeech = refl
kind-size Lower = refl
kind-size Amr670 = refl
kind-size Amr740 = refl

-- the first byte of a record, and what is behind it
first-few : (x : Item Frame) (more : List ℕ) → get_or (record_of x ++ more) 0 0 < 9
unfolding record_of
first-few (gap start span) more = lit< tt
first-few (frame f) more = kind-few f.kind

first-size : (x : Item Frame) (more : List ℕ) → get_or sizes (get_or (record_of x ++ more) 0 0) 0 ≡ size_of x
unfolding record_of
first-size (gap start span) more = refl
first-size (frame f) more = kind-size f.kind

-- the bytes that are read of a record are there
pub nine : (bytes : List ℕ) → Recorded bytes → 9 ≤ length bytes
nine bytes r = omega (arith, ap length r.is ∙ record_length r.item, size r.item)
  where
    size : (x : Item Frame) → 9 ≤ size_of x
    size (gap start span) = lit< tt
    size (frame f) = omega arith

pub twelve : (bytes : List ℕ) → Recorded bytes → (get_or bytes 0 0 ≡ 0 → ⊥) → 12 ≤ length bytes
unfolding record_of
twelve bytes r h = go r.item r.is
  where
    go : (x : Item Frame) → bytes ≡ record_of x → 12 ≤ length bytes
    go (gap start span) e = absurd (h (ap (λ (b : List ℕ). get_or b 0 0) e))
    go (frame f) e = omega (arith, ap length e ∙ record_length (frame f))

-- the line by the numbers that are read of a record
module _ (bytes before after : List ℕ) (at end start span : ℕ) (at₁ : start ≡ number_at bytes 1) (at₅ : span ≡ number_at bytes 5) where
  pub lined_gap : get_or bytes 0 0 ≡ 0 → Put before at (71 ∷ spaced (start ∷ span ∷ [])) after end → Lined bytes before at after end
  unfolding record_of
  lined_gap z e (gap s l) f b =
      let p : start ≡ s = at₁ ∙ ap (λ (y : List ℕ). number_at y 1) b ∙ four_bytes s f.0 in
      let q : span ≡ l = at₅ ∙ ap (λ (y : List ℕ). number_at y 5) b ∙ four_bytes l f.1 in
      rw (sym p, sym q) e
  lined_gap z e (frame g) f b = absurd (omega (arith, ap (λ (y : List ℕ). get_or y 0 0) b, kind-some g.kind))

  pub lined_frame : (get_or bytes 0 0 ≡ 0 → ⊥) → Put before at (70 ∷ spaced (get_or bytes 0 0 ∷ start ∷ span ∷ get_or bytes 11 0 ∷ [])) after end → Lined bytes before at after end
  unfolding record_of
  lined_frame z e (gap s l) f b = absurd (z (ap (λ (y : List ℕ). get_or y 0 0) b))
  lined_frame z e (frame g) f b =
      let k : get_or bytes 0 0 ≡ kind_no g.kind = ap (λ (y : List ℕ). get_or y 0 0) b in
      let p : start ≡ g.start = at₁ ∙ ap (λ (y : List ℕ). number_at y 1) b ∙ four_bytes g.start f.0 in
      let q : span ≡ g.tail = at₅ ∙ ap (λ (y : List ℕ). number_at y 5) b ∙ four_bytes g.tail f.1 in
      let v : get_or bytes 11 0 ≡ g.verdict = ap (λ (y : List ℕ). get_or y 11 0) b in
      rw (sym k, sym p, sym q, sym v) e

-- a page that is the records of some items, a buffer in which the lines of the first of them stand, and what is left of the page
pub record Left (xs : List (Item Frame)) (before : List ℕ) (at : ℕ) (out : List ℕ) (end : ℕ) (rest : List ℕ) : Type 0 where
  pub text : List ℕ
  pub items : List (Item Frame)
  pub whole : lines_of xs ≡ text ++ lines_of items
  pub fit : AllFit items
  pub are : rest ≡ records items
  pub put : Put before at text out end

-- the same of all items that the page is the records of
abbrev pub AllLeft : List ℕ → List ℕ → ℕ → List ℕ → ℕ → List ℕ → Type 0
AllLeft page before at out end rest = (xs : List (Item Frame)) → AllFit xs → page ≡ records xs → Left xs before at out end rest

pub left-all : (page before : List ℕ) (at : ℕ) → at ≤ length before → AllLeft page before at before at page
left-all page before at h xs f e = record { text = []; items = xs; whole = refl; fit = f; are = e; put = put-none before at h }

-- no record is left
pub left-none : (page before : List ℕ) (at : ℕ) (out : List ℕ) (end : ℕ) (rest : List ℕ) → AllLeft page before at out end rest → length rest ≤ 0 → AllLined page before at out end
left-none page before at out end rest left h xs f e = go (left xs f e).items (left xs f e).are (left xs f e).whole
  where
    go : (ys : List (Item Frame)) → rest ≡ records ys → lines_of xs ≡ (left xs f e).text ++ lines_of ys → Put before at (lines_of xs) out end
    go [] a w = rw (w, append-nil) (left xs f e).put
    go (y ∷ ys) a w = absurd (omega (arith, ap length a, length-append (record_of y) (records ys), record_length y, size_pos y))

-- the first of the records that are left, of some size, and what is asked of it: that its line is put, and there is room for that
pub record Next (page before : List ℕ) (at : ℕ) (out : List ℕ) (end : ℕ) (rest : List ℕ) (kind size : ℕ) : Type 0 where
  pub few : kind < 9
  pub some : 0 < size
  pub inside : size ≤ length rest
  pub recorded : Recorded (take size rest)
  pub room : end + 86 ≤ length before
  pub left : (after : List ℕ) (behind : ℕ) → Lined (take size rest) out end after behind → AllLeft page before at after behind (drop size rest)

record First (rest : List ℕ) (kind size : ℕ) (items : List (Item Frame)) : Type 0 where
  pub item : Item Frame
  pub more : List (Item Frame)
  pub fits : Fits item
  pub fit : AllFit more
  pub splits : items ≡ item ∷ more
  pub few : kind < 9
  pub some : 0 < size
  pub inside : size ≤ length rest
  pub is : take size rest ≡ record_of item
  pub are : drop size rest ≡ records more

module _ (page before : List ℕ) (at : ℕ) (out : List ℕ) (end : ℕ) (rest : List ℕ) (left : AllLeft page before at out end rest) (h : 0 < length rest) (kind : ℕ) (first : kind ≡ get_or rest 0 0) where
  taken : (items : List (Item Frame)) → AllFit items → rest ≡ records items → First rest kind (get_or sizes kind 0) items
  taken [] f a = absurd (omega (arith, ap length a))
  taken (y ∷ ys) (f, fs) a =
      let k : kind ≡ get_or (record_of y ++ records ys) 0 0 = first ∙ ap (λ (b : List ℕ). get_or b 0 0) a in
      rw (k, first-size y (records ys))
      (record {
        item = y;
        more = ys;
        fits = f;
        fit = fs;
        splits = refl;
        few = first-few y (records ys);
        some = size_pos y;
        inside = omega (arith, ap length a, length-append (record_of y) (records ys), record_length y);
        is = ap (take (size_of y)) a ∙ take_at (record_of y) (records ys) (size_of y) (record_length y);
        are = ap (drop (size_of y)) a ∙ drop_at (record_of y) (records ys) (size_of y) (record_length y);
      })

  pub next : Records page at (length before) → Next page before at out end rest kind (get_or sizes kind 0)
  next r =
      let l = left r.items r.fit r.are in
      let x = taken l.items l.fit l.are in
      record {
        few = x.few;
        some = x.some;
        inside = x.inside;
        recorded = record { item = x.item; fits = x.fits; is = x.is };
        room = omega (arith, r.room, l.put.ends, ap length l.whole, length-append l.text (lines_of l.items));
        left = put;
      }
    where
      put : (after : List ℕ) (behind : ℕ) → Lined (take (get_or sizes kind 0) rest) out end after behind → AllLeft page before at after behind (drop (get_or sizes kind 0) rest)
      put after behind p xs f e =
          let l = left xs f e in
          let x = taken l.items l.fit l.are in
          record {
            text = l.text ++ line_of x.item;
            items = x.more;
            whole = l.whole ∙ ap (λ (r : List (Item Frame)). l.text ++ lines_of r) x.splits ∙ sym (append_assoc l.text (line_of x.item) (lines_of x.more));
            fit = x.fit;
            are = x.are;
            put = put-put l.put (p x.item x.fits x.is);
          }

-- no second buffer and end fit a record, or a page
pub one_line : (bytes before after last : List ℕ) (at end stop : ℕ) → Recorded bytes → Lined bytes before at after end → Lined bytes before at last stop → (after ≡ last) × (end ≡ stop)
one_line bytes before after last at end stop r p q = put_one (p r.item r.fits r.is) (q r.item r.fits r.is)

pub one-page : (bytes before after last : List ℕ) (at end stop long : ℕ) → Records bytes at long → AllLined bytes before at after end → AllLined bytes before at last stop → (after ≡ last) × (end ≡ stop)
one-page bytes before after last at end stop long r p q = put_one (p r.items r.fit r.are) (q r.items r.fit r.are)

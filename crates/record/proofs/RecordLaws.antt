-- The record of an item: its size, and the bytes that the code puts.
-- Assumes nothing.
use mathlib.Core.Path.{◌≡◌, refl, sym, ◌∙◌, ap}
use mathlib.Core.List.{List, [], ◌∷◌, ◌++◌, map}
use Prim.Native.Nat.{ℕ, ◌+◌, ◌*◌, ◌≤◌}
use native.Mathlib.Omega.{arith}
use borrow.Rule.Slice.PartMut.{put_mid}
use Rattle.std.proofs.Common.{append_assoc}
use lib.ListN.{length, take, drop, set, length-append, length-drop}
use lib.Seq.{take_at, drop-append-add, drop-drop, sets-eq}
use Rattle.reading.specs.Reading as reading
use Rattle.bits.specs.Bit.{bit_at, count}
use Rattle.channel.specs.declared.Kind.{Kind}
use Rattle.channel.specs.Kinds.{kind_no, body_of}
use Rattle.channel.specs.Coding.{Word, word_at}
use Rattle.channel.specs.Control.{from_top, control, extended}
use Rattle.channel.proofs.CutLaws.{control-cut, extended-cut, d-cut}
use Rattle.channel.specs.Record.{d_bytes, wide, d_length, record_of}
use Rattle.item.specs.declared.Frame.{Frame}
use Rattle.item.specs.Item.{frame_of}

-- the D bits of a body, as bytes, are those of the octets that it is cut from
pub bytes_cut : (g : Word) (k : Kind) → d_bytes (word_at g 0 (body_of k)) k ≡ d_bytes g k
unfolding d_bytes
bytes_cut g k = ap (λ bs. map (λ j. from_top (drop (8 * j) bs)) (count 19 0)) (d-cut g k)

-- the record of a frame, by its octets
pub record_is : (f : Frame) → record_of (reading.frame (frame_of f))
    ≡ kind_no f.kind ∷ wide 4 f.start ++ wide 4 f.tail ++ (control (bit_at f.octets) f.kind ∷ extended (bit_at f.octets) f.kind ∷ f.verdict ∷ []) ++ take (d_length f.kind) (d_bytes (bit_at f.octets) f.kind)
unfolding record_of
record_is f = let g = bit_at f.octets in rw (control-cut g f.kind, extended-cut g f.kind, bytes_cut g f.kind)

-- a part that has nine bytes h at the front, and d behind them
module _ (h d : List ℕ) (c x v : ℕ) (nine : length h ≡ 9) (three : 3 ≤ length d) where
  -- three bytes stored behind the nine
  stored : set (set (set (h ++ d) 9 c) 10 x) 11 v ≡ (h ++ (c ∷ x ∷ v ∷ [])) ++ drop 3 d
  stored =
      let l : 9 + 3 ≤ length (h ++ d) = omega (arith, length-append h d) in
      let t : take 9 (h ++ d) ≡ h = take_at h d 9 nine in
      let r : drop (9 + 3) (h ++ d) ≡ drop 3 d = rw nine at (drop-append-add h d 3) in
      sets-eq (c ∷ x ∷ v ∷ []) (h ++ d) 9 l ∙ rw (t, r)

  -- and bytes put behind those, in the place of n: what lies behind them is kept
  laid : (bytes : List ℕ) (n : ℕ) → take 12 (set (set (set (h ++ d) 9 c) 10 x) 11 v) ++ bytes ++ drop (12 + n) (set (set (set (h ++ d) 9 c) 10 x) 11 v)
      ≡ (h ++ (c ∷ x ∷ v ∷ []) ++ bytes) ++ drop (3 + n) d
  laid bytes n =
      let p = h ++ (c ∷ x ∷ v ∷ []) in
      let l : length p ≡ 12 = length-append h (c ∷ x ∷ v ∷ []) ∙ ap (λ m. m + 3) nine in
      let t : take 12 (p ++ drop 3 d) ≡ p = take_at p (drop 3 d) 12 l in
      let r : drop (12 + n) (p ++ drop 3 d) ≡ drop n (drop 3 d) = rw l at (drop-append-add p (drop 3 d) n) in
      rw (stored, t, r, drop-drop)

-- what stands in front of the record of a frame
abbrev pub front : Frame → List ℕ
front f = kind_no f.kind ∷ wide 4 f.start ++ wide 4 f.tail

-- a part with the front of a frame's record, and the three bytes stored behind it
abbrev pub twelve : Frame → List ℕ → List ℕ
twelve f out = set (set (set (front f ++ drop 9 out) 9 (control (bit_at f.octets) f.kind)) 10 (extended (bit_at f.octets) f.kind)) 11 f.verdict

-- what is put for a frame, its D bits behind those twelve bytes, is its record
pub frame-put : (f : Frame) (out : List ℕ) → 12 + d_length f.kind ≤ length out
    → take 12 (twelve f out) ++ take (d_length f.kind) (d_bytes (bit_at f.octets) f.kind) ++ drop (12 + d_length f.kind) (twelve f out)
    ≡ record_of (reading.frame (frame_of f)) ++ drop (12 + d_length f.kind) out
frame-put f out fits =
    let g = bit_at f.octets in
    let n = d_length f.kind in
    let bytes = take n (d_bytes g f.kind) in
    let three : 3 ≤ length (drop 9 out) = omega (arith, length-drop 9 out) in
    let e : 9 + (3 + n) ≡ 12 + n = omega arith in
    let r : drop (3 + n) (drop 9 out) ≡ drop (12 + n) out = drop-drop (3 + n) 9 out ∙ ap (λ (m : ℕ). drop m out) e in
    laid (front f) (drop 9 out) (control g f.kind) (extended g f.kind) f.verdict refl three bytes n
    ∙ ap (λ (t : List ℕ). (front f ++ (control g f.kind ∷ extended g f.kind ∷ f.verdict ∷ []) ++ bytes) ++ t) r
    ∙ ap (λ (t : List ℕ). t ++ drop (12 + n) out) (sym (record_is f))

-- the first k bytes of some, in the place of as many of a part from byte 12 on
pub d-put : (out laid bytes ds : List ℕ) (n m k : ℕ) → m ≡ n → laid ≡ take n bytes → n ≡ k → bytes ≡ ds
    → put_mid 12 m out laid ≡ take 12 out ++ take k ds ++ drop (12 + k) out
d-put out laid bytes ds n m k e is l b = rw (e, is, drop-drop, append_assoc, l, b)

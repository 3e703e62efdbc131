-- How long the lines of a stretch are: no two gaps stand side by side, and a frame has more bits than its line and that of the gap before it have bytes. So
-- the text has not more bytes than the stretch has bits, but for the line of a gap at its end.
-- Assumes nothing.
use mathlib.Core.Path.{◌≡◌, refl, sym, ◌∙◌, ap, subst}
use mathlib.Core.Logic.{◌⊎◌, inl, inr}
use mathlib.Core.List.{List, [], ◌∷◌, ◌++◌, append_assoc}
use Prim.Native.Nat.{ℕ, ◌+◌, ◌≤◌, ◌<◌}
use native.Mathlib.Omega.{arith}
use lib.ListN.{length, length-append}
use Rattle.reading.specs.Reading.{Cursor, Item, gap, frame, Gap, Obeys, Starts, over, over_all, Stretch}
use Rattle.channel.specs.Kinds.{kind_no}
use Rattle.channel.specs.Verdict.{Context}
use Rattle.channel.specs.Frames.{Capture, Frame, Due, rules}
use Rattle.channel.proofs.FrameLaws.{body_low}
use Rattle.lines.specs.Lines.{line_of, lines_of, Fits, AllFit}
use Rattle.text.proofs.TextLaws.{digits_most}

-- the lines of two lists of items
pub lines_append : (xs ys : List (Item Frame)) → lines_of (xs ++ ys) ≡ lines_of xs ++ lines_of ys
lines_append [] ys = refl
lines_append (x ∷ xs) ys = ap (λ (t : List ℕ). line_of x ++ t) (lines_append xs ys) ∙ sym (append_assoc (line_of x) (lines_of xs) (lines_of ys))

-- the longest lines
gap-line : (start span : ℕ) → length (line_of (gap start span)) ≤ 44
gap-line start span = simp length-append (omega (arith, digits_most 20 start, digits_most 20 span))

frame-line : (f : Frame) → length (line_of (frame f)) ≤ 86
frame-line f = simp length-append (omega (arith, digits_most 20 (kind_no f.kind), digits_most 20 f.start, digits_most 20 f.tail, digits_most 20 f.verdict))

module _ (w : Capture) where
  -- no gap stands behind a gap
  lone : (c : Cursor Context) (s l t m : ℕ) → Gap rules w c s l → Gap rules w (over rules c (gap s l)) t m → ⊥
  lone c s l t m g h = go g.stops
    where
      go : (s + l ≡ w.n) ⊎ ((f : Frame) × Starts rules w (s + l) f) → ⊥
      go (inl e) = omega (arith, h.from, h.filled, h.within)
      go (inr (f, d)) = h.none_follows f (subst (λ (k : ℕ). Due w 0 k f) (sym h.from) d)

  pub lines_short : (c : Cursor Context) (xs : List (Item Frame)) → Stretch rules w c xs → c.position + length (lines_of xs) ≤ (over_all rules c xs).position + 44
  lines_short c [] s = omega arith
  lines_short c (frame f ∷ xs) (o, s) =
      omega (arith, o.stands.at, body_low f.kind, frame-line f, length-append (line_of (frame f)) (lines_of xs), lines_short (over rules c (frame f)) xs s)
  lines_short c (gap t l ∷ []) (o, s) = omega (arith, o.from, gap-line t l, length-append (line_of (gap t l)) [])
  lines_short c (gap t l ∷ gap u m ∷ xs) (o, (p, s)) = absurd (lone c t l u m o p)
  lines_short c (gap t l ∷ frame f ∷ xs) (o, (p, s)) =
      omega
      (arith, o.from, p.stands.at, body_low f.kind, gap-line t l, frame-line f, length-append (line_of (gap t l)) (line_of (frame f) ++ lines_of xs), length-append (line_of (frame f)) (lines_of xs), lines_short (over rules (over rules c (gap t l)) (frame f)) xs s)

-- the items of a capture of fewer than 2^32 bits fit their records
module _ (w : Capture) (short : w.n < 4294967296) where
  fits : (c : Cursor Context) (x : Item Frame) → Obeys rules w c x → Fits x
  fits c (gap start span) o = (omega (arith, o.within), omega (arith, o.within))
  fits c (frame f) o = (omega (arith, o.stands.at, o.stands.before), omega (arith, o.stands.tail.within))

  pub all_fit : (c : Cursor Context) (xs : List (Item Frame)) → Stretch rules w c xs → AllFit xs
  all_fit c [] s = tt
  all_fit c (x ∷ xs) (o, s) = (fits c x o, all_fit (over rules c x) xs s)

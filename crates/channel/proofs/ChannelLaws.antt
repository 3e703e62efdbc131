-- The laws of a reading at the 8 kbit/s channel: for each capture and cursor not beyond n exactly one list obeys the rules.
-- Assumes nothing.
use mathlib.Core.Path.{◌≡◌}
use mathlib.Core.List.{List, ◌++◌}
use Prim.Native.Nat.{◌≤◌}
use Rattle.reading.specs.Reading.{Cursor, Item, over_all, Stretch, Reading, Pages, joined}
use Rattle.reading.proofs.ReadingLaws as laws
use Rattle.channel.specs.Verdict.{Context}
use Rattle.channel.specs.Frames.{Capture, Frame, rules}
use Rattle.channel.proofs.FrameLaws.{sound}

module _ (w : Capture) (c : Cursor Context) where
  -- at most one
  pub unique : (xs ys : List (Item Frame)) → Reading rules w c xs → Reading rules w c ys → xs ≡ ys
  unique = laws.unique rules w (sound w) c

  -- at least one
  pub exists : c.position ≤ w.n → (xs : List (Item Frame)) × Reading rules w c xs
  exists h = (laws.read rules w (sound w) c, laws.exists rules w (sound w) c h)

  -- it splits at any item, and joins again
  pub split : (xs ys : List (Item Frame)) → Reading rules w c (xs ++ ys) → Stretch rules w c xs × Reading rules w (over_all rules c xs) ys
  split = laws.split rules w c

  pub join : (xs ys : List (Item Frame)) → Stretch rules w c xs → Reading rules w (over_all rules c xs) ys → Reading rules w c (xs ++ ys)
  join = laws.join rules w c

  -- pages joined until the end are it, whatever their sizes
  pub pages-joined : (xss : List (List (Item Frame))) (xs : List (Item Frame)) → Pages rules w c xss → Reading rules w c xs → joined xss ≡ xs
  pages-joined xss xs p r = unique (joined xss) xs (laws.pages-joined rules w c xss p) r

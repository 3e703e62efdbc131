-- A harvest that polls a capture while it grows is a harvest of what the capture has grown to: its pages, joined, are the records of that one's reading
-- (document 02, Ask 2; demand 3).
-- Assumes nothing.
use mathlib.Core.Path.{◌≡◌, ◌∙◌}
use mathlib.Core.List.{List, [], ◌∷◌, ◌++◌}
use Prim.Native.Nat.{ℕ}
use native.Mathlib.Omega.{arith}
use lib.ListN.{length}
use Rattle.reading.specs.Reading.{Item, Reading}
use Rattle.channel.specs.Frames.{Capture, capture_of, Frame, rules}
use Rattle.channel.specs.Growth.{Grown}
use Rattle.channel.specs.Record.{records}
use Rattle.call.specs.declared.TermNumbers.{TermNumbers}
use Rattle.call.specs.declared.CursorNumbers.{CursorNumbers}
use Rattle.call.specs.Call.{terms_by, cursor_by, next}
use Rattle.paging.specs.Harvest.{Asked, Harvest, harvested, counted}
use Rattle.paging.proofs.HarvestLaws.{harvest_is}
use Rattle.growth.specs.Polling.{Bounded, GrownTo, Kept, reached, Look, Polled, pages_of}
use Rattle.growth.proofs.StayLaws.{page-stays}

-- what has grown twice has grown
pub grown_twice : (u v w : Capture) → Grown u v → Grown v w → Grown u w
grown_twice u v w g h =
    record { more = omega (arith, g.more, h.more); same = λ i l. g.same i l ∙ h.same i (omega (arith, g.more)); terms = g.terms ∙ h.terms }

module _ (terms : TermNumbers) (capture : List ℕ) (n : ℕ) (bound : Bounded capture n) where
  -- pages kept of the old capture, and a harvest of the new one from the cursor behind them, are a harvest of the new one
  pub gone_on : (old : List ℕ) (m : ℕ) → GrownTo terms old m capture n → (c : CursorNumbers) (kept rest : List Asked) → Kept old m terms c kept → Harvest capture n terms (reached c kept) rest
      → Harvest capture n terms c (kept ++ rest)
  gone_on old m g c [] rest k h = h
  gone_on old m g c (a ∷ kept) rest ((call, z), l, more) h =
      ((page-stays old (record { n = m; terms = terms; cursor = c; most = a.most }) a.buffer a.answer a.after call z l capture n g bound, z), gone_on old m g (next a.answer) kept rest more h)

  -- so it is from look to look
  pub polled_harvest : (c : CursorNumbers) (looks : List Look) (rest : List Asked) → Polled terms c looks capture n rest → Harvest capture n terms c (pages_of looks rest)
  polled_harvest c [] rest h = h
  polled_harvest c (l ∷ looks) rest (k, g, h) = gone_on l.capture l.n g c l.kept (pages_of looks rest) k (polled_harvest (reached c l.kept) looks rest h)

  -- its pages joined are the records of the one reading of what the capture has grown to, and its items are counted
  pub polled_is : (c : CursorNumbers) (looks : List Look) (rest : List Asked) (xs : List (Item Frame)) → Polled terms c looks capture n rest
      → Reading rules (capture_of capture n (terms_by terms)) (cursor_by c) xs → (harvested (pages_of looks rest) ≡ records xs) × (counted (pages_of looks rest) ≡ length xs)
  polled_is c looks rest xs p = harvest_is capture n terms c (pages_of looks rest) xs (polled_harvest c looks rest p)

-- What grows keeps all items of its reading but the last (document 02, Ask 2), over any rules and any records; pages that end before those stay as they are.
-- Assumes nothing.
use mathlib.Core.Path.{◌≡◌}
use mathlib.Core.Logic.{◌⊎◌, inl, inr, by_cases}
use mathlib.Core.List.{List, [], ◌∷◌, ◌++◌, append_assoc}
use Prim.Native.Nat.{ℕ, ◌+◌, ◌≤◌, ◌<◌}
use native.Mathlib.Omega.{arith}
use native.Mathlib.Decide.{dec_lt}
use lib.ListN.{length, length-append}
use Rattle.reading.specs.Reading.{Rules, Cursor, Item, gap, frame, Starts, Gap, Obeys, over, over_all, Stretch, Reading, Leading, AllBut, Sound}
use Rattle.reading.specs.Paging.{records_by, Page}
use Rattle.reading.proofs.ItemLaws.{later, within, next, found}
use Rattle.reading.proofs.ReadingLaws.{split, stretch-later, stretch-leads, unique}
use Rattle.reading.proofs.PageLaws.{length-records, page_full, page_tight}

-- w has grown to v
module _ {W X F : Type 0} (R : Rules W X F) (w v : W) where
  -- an item of w behind which k others stand is an item of v
  pub record Keeps (k : ℕ) : Type 0 where
    pub more : R.end w ≤ R.end v
    pub keep : (c : Cursor X) (x : Item F) (ys : List (Item F)) → Obeys R w c x → Stretch R w (over R c x) ys → k ≤ length ys → Obeys R v c x

  -- All that a set of frames has to prove, for an item behind which one other stands to be kept.
  pub record Grows : Type 0 where
    pub more : R.end w ≤ R.end v
    -- a frame that ends before the old end is due as it was
    pub firm : (x : X) (p : ℕ) (f : F) → R.Due w x p f → R.behind f < R.end w → R.Due v x p f
    -- where a frame was due, one is
    pub stays : (x : X) (p : ℕ) (f : F) → R.Due w x p f → (g : F) × R.Due v x p g
    -- before a place where a run started, where a frame is due one was
    pub settled : (x : X) (p q : ℕ) (f g : F) → p < q → Starts R w q f → R.Due v x p g → (h : F) × R.Due w x p h

module _ {W X F : Type 0} (R : Rules W X F) (w v : W) (S : Sound R w) where
  -- an item behind which one other stands ends before the end
  before-end : (c : Cursor X) (x y : Item F) (ys : List (Item F)) → Stretch R w (over R c x) (y ∷ ys) → (over R c x).position < R.end w
  before-end c x y ys h = omega (arith, later R w S (over R c x) y h.0, within R w S (over R c x) y h.0)

  module _ (G : Grows R w v) where
    gap-kept : (c : Cursor X) (s l : ℕ) → Gap R w c s l → s + l < R.end w → Gap R v c s l
    gap-kept c s l g h = go g.stops
      where
        go : (s + l ≡ R.end w) ⊎ ((f : F) × Starts R w (s + l) f) → Gap R v c s l
        go (inl e) = absurd (omega arith)
        go (inr (f, t)) =
            record {
              from = g.from;
              filled = g.filled;
              within = omega (arith, G.more);
              stops = inr (G.stays R.searching (s + l) f t);
              none_starts = λ p a b u d. let (o, e) = G.settled R.searching p (s + l) f u b t d in g.none_starts p a b o e;
              none_follows = λ u d. let (o, e) = G.settled c.context s (s + l) f u (omega (arith, g.filled)) t d in g.none_follows o e;
            }

    -- a set of frames that has what growth asks keeps an item behind which one other stands, or more
    pub grows_keeps : (k : ℕ) → 1 ≤ k → Keeps R w v k
    grows_keeps k one = record { more = G.more; keep = keep }
      where
        keep : (c : Cursor X) (x : Item F) (ys : List (Item F)) → Obeys R w c x → Stretch R w (over R c x) ys → k ≤ length ys → Obeys R v c x
        keep c x [] o h l = absurd (omega arith)
        keep c (frame f) (y ∷ ys) o h l = G.firm c.context c.position f o (before-end c (frame f) y ys h)
        keep c (gap s m) (y ∷ ys) o h l = gap-kept c s m o (before-end c (gap s m) y ys h)

module _ {W X F : Type 0} (R : Rules W X F) (k : ℕ) (w v : W) (S : Sound R w) (T : Sound R v) (K : Keeps R w v k) where
  stretch-kept : (c : Cursor X) (xs ys : List (Item F)) → Stretch R w c (xs ++ ys) → k ≤ length ys → Stretch R v c xs
  stretch-kept c [] ys h l = tt
  stretch-kept c (x ∷ xs) ys h l = (K.keep c x (xs ++ ys) h.0 h.1 (omega (arith, length-append xs ys)), stretch-kept (over R c x) xs ys h.1 l)

  module _ (c : Cursor X) (xs : List (Item F)) (most-of : AllBut R k w c xs) where
    inside : c.position ≤ R.end v
    inside = let (ys, r, l) = most-of in omega (arith, stretch-later R w S c (xs ++ ys) r.0, r.1, K.more)

    kept : Stretch R v c xs
    kept = let (ys, r, l) = most-of in stretch-kept c xs ys r.0 l

    -- all items of the old reading but its last k lead the new one
    pub leads_grown : Leading R v c xs
    leads_grown = stretch-leads R v T c xs inside kept

    -- so every reading of what has grown begins with them, and goes on from the cursor behind them
    pub begins_grown : (zs : List (Item F)) → Reading R v c zs → (rest : List (Item F)) × (zs ≡ xs ++ rest) × Reading R v (over_all R c xs) rest
    begins_grown zs r =
        let (rest, q) = leads_grown in
        (rest, unique R v T c zs (xs ++ rest) r q, (split R v c xs rest q).1)

    -- a page that ends there is the page of the same request in what has grown, if an item stands behind it and no record is smaller where an item changed
    module _ (record_of : Item F → List ℕ) (no_smaller : (to : Cursor X) (x y : Item F) → Obeys R w to x → Obeys R v to y → length (record_of x) ≤ length (record_of y)) where
      pub page_grown : 1 ≤ k → (most room : ℕ) → Page R record_of w c most room xs → Page R record_of v c most room xs
      page_grown one most room p =
          let (ys, r, l) = most-of in
          by_cases (dec_lt (length xs) most) (λ (h : length xs < most). tight ys r (omega arith) h)
          (λ (h : ¬ (length xs < most)). page_full R record_of v T c most room inside xs kept p.counted p.fits (omega arith))
        where
          to : Cursor X
          to = over_all R c xs

          -- the item behind it did not fit
          too_long : (z : Item F) (zs : List (Item F)) → Reading R w c (xs ++ (z ∷ zs)) → length xs < most → room < length (records_by record_of xs) + length (record_of z)
          too_long z zs r h =
              by_cases (dec_lt room (length (records_by record_of xs) + length (record_of z))) (λ (a : room < length (records_by record_of xs) + length (record_of z)). a)
              (λ (a : ¬ (room < length (records_by record_of xs) + length (record_of z))).
              absurd
              (omega
              (arith, length-append xs (z ∷ []), p.longest (xs ++ (z ∷ [])) (zs, rw append_assoc r) (omega (arith, length-append xs (z ∷ []))) (omega (arith, length-records record_of xs z)))))

          tight : (ys : List (Item F)) → Reading R w c (xs ++ ys) → 1 ≤ length ys → length xs < most → Page R record_of v c most room xs
          tight [] r l h = absurd (omega arith)
          tight (z ∷ zs) r l h =
              let o : Obeys R w to z = (split R w c xs (z ∷ zs) r).1.0.0 in
              let below : to.position < R.end v = omega (arith, later R w S to z o, within R w S to z o, K.more) in
              let o' : Obeys R v to (next R v T to) = found R v T to below in
              page_tight R record_of v T c most room inside xs kept p.counted p.fits (next R v T to) o' (omega (arith, too_long z zs r h, no_smaller to z (next R v T to) o o'))

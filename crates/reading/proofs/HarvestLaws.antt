-- Demand 3 over any rules and any records: the pages of a harvest, joined, are the records of the one reading, whatever the counts and buffers.
-- Assumes nothing.
use mathlib.Core.Path.{◌≡◌, refl, sym, ◌∙◌, ap, ap₂, subst}
use mathlib.Core.Bool.{true, false}
use mathlib.Core.List.{List, [], ◌∷◌, ◌++◌}
use Prim.Native.Nat.{ℕ, ◌≤◌, ◌<◌}
use native.Mathlib.Omega.{arith}
use borrow.Author.Tests.{lt-ltb}
use lib.ListN.{length, take, drop, length-append}
use lib.Seq.{take_at}
use Rattle.reading.specs.Reading.{Rules, Cursor, Item, gap, frame, over, over_all, Stretch, Reading, Pages, joined, Sound}
use Rattle.reading.specs.Paging.{records_by, first_left, Filled, Delivery, bytes_of, items_of, Delivered}
use Rattle.reading.proofs.ItemLaws.{later}
use Rattle.reading.proofs.ReadingLaws.{stretch-split, stretch-later, stretch-within, unique, pages-joined}
use Rattle.reading.proofs.PageLaws.{records-append, page-one}

-- no second buffer, count or cursor is that of a page
pub filled-one : {W X F : Type 0} (R : Rules W X F) (record_of : Item F → List ℕ) (w : W) → Sound R w → (c : Cursor X) (most : ℕ) (before after later : List ℕ) (items bytes items' bytes' : ℕ) (to to' : Cursor X)
    → Filled R record_of w c most before after items bytes to → Filled R record_of w c most before later items' bytes' to' → (after ≡ later) × (items ≡ items') × (bytes ≡ bytes') × (to ≡ to')
filled-one {F = F} R record_of w S c most before after later items bytes items' bytes' to to' f g =
    let z : f.page ≡ g.page = page-one R record_of w S c most (length before) f.page g.page f.longest g.longest in
    let b : bytes ≡ bytes' = f.sized ∙ ap (λ (l : List (Item F)). length (records_by record_of l)) z ∙ sym g.sized in
    (f.written ∙ ap₂ (λ (l : List (Item F)) (k : ℕ). records_by record_of l ++ drop k before) z b ∙ sym g.written, f.counted ∙ ap length z ∙ sym g.counted, b, f.moved ∙ ap (over_all R c) z ∙ sym g.moved)

-- a page that was filled
module _ {W X F : Type 0} (R : Rules W X F) (record_of : Item F → List ℕ) (w : W) (c : Cursor X) (most : ℕ) (before after : List ℕ) (items bytes : ℕ) (cursor : Cursor X)
    (f : Filled R record_of w c most before after items bytes cursor) where
  -- the bytes answered, from the front of the buffer, are the records of the page
  pub filled-bytes : take bytes after ≡ records_by record_of f.page
  filled-bytes = ap (take bytes) f.written ∙ take_at (records_by record_of f.page) (drop bytes before) bytes (sym f.sized)

  -- its items are a stretch from its cursor
  pub filled-stretch : Stretch R w c f.page
  filled-stretch = let (ys, r) = f.longest.leads in (stretch-split R w c f.page ys r.0).0

  module _ (S : Sound R w) where
    -- the cursor answered is not beyond n where the one given is not
    pub filled_within : c.position ≤ R.end w → cursor.position ≤ R.end w
    filled_within h = subst (λ (y : Cursor X). y.position ≤ R.end w) (sym f.moved) (stretch-within R w S c f.page h filled-stretch)

    -- a page before n that 4 does not refuse makes progress
    pub filled_progress : first_left R record_of w c f.page ≡ false → c.position < R.end w → (0 < items) × (c.position < cursor.position)
    filled_progress left h = go f.page left filled-stretch f.counted f.moved
      where
        go : (xs : List (Item F)) → first_left R record_of w c xs ≡ false → Stretch R w c xs → items ≡ length xs → cursor ≡ over_all R c xs → (0 < items) × (c.position < cursor.position)
        go [] l s e m = let z : true ≡ false = sym (lt-ltb c.position (R.end w) h) ∙ l in let y : ◌≡◌ {A = ℕ} 0 1 = cc in absurd (omega arith)
        go (x ∷ xs) l s e m =
            let p : cursor.position ≡ (over_all R (over R c x) xs).position = ap (λ (y : Cursor X). y.position) m in
            (omega arith, omega (arith, later R w S c x s.0, stretch-later R w S (over R c x) xs s.1))

-- what every frame leaves, and searching, every cursor handed back has
module _ {W X F : Type 0} (R : Rules W X F) (Known : X → Type 0) (searched : Known R.searching) (left : (x : X) (f : F) → Known (R.after x f)) where
  pub known-after : (c : Cursor X) (xs : List (Item F)) → Known c.context → Known (over_all R c xs).context
  known-after c [] h = h
  known-after c (gap s l ∷ xs) h = known-after (over R c (gap s l)) xs searched
  known-after c (frame f ∷ xs) h = known-after (over R c (frame f)) xs (left c.context f)

-- the pages of a harvest
record Brought {W X F : Type 0} (R : Rules W X F) (record_of : Item F → List ℕ) (w : W) (c : Cursor X) (ds : List (Delivery X)) : Type 0 where
  pub pages : List (List (Item F))
  pub whole : Pages R w c pages
  pub bytes : bytes_of ds ≡ records_by record_of (joined pages)
  pub count : items_of ds ≡ length (joined pages)

module _ {W X F : Type 0} (R : Rules W X F) (record_of : Item F → List ℕ) (w : W) where
  brought : (c : Cursor X) (ds : List (Delivery X)) → Delivered R record_of w c ds → Brought R record_of w c ds
  brought c [] h = record { pages = []; whole = h; bytes = refl; count = refl }
  brought c (d ∷ ds) (f, rest) =
      let b = brought d.cursor ds rest in
      record {
        pages = f.page ∷ b.pages;
        whole = (f.longest.leads, subst (λ (y : Cursor X). Pages R w y b.pages) f.moved b.whole);
        bytes =
            ap (λ (l : List ℕ). l ++ bytes_of ds) (filled-bytes R record_of w c d.most d.before d.after d.items d.bytes d.cursor f)
            ∙ ap (λ (l : List ℕ). records_by record_of f.page ++ l) b.bytes
            ∙ sym (records-append record_of f.page (joined b.pages));
        count = omega (arith, f.counted, b.count, length-append f.page (joined b.pages));
      }

  -- the pages joined are the records of the one reading, and the items counted are its items
  pub delivered_is : Sound R w → (c : Cursor X) (ds : List (Delivery X)) (xs : List (Item F)) → Delivered R record_of w c ds → Reading R w c xs
      → (bytes_of ds ≡ records_by record_of xs) × (items_of ds ≡ length xs)
  delivered_is S c ds xs h r =
      let b = brought c ds h in
      let e : joined b.pages ≡ xs = unique R w S c (joined b.pages) xs (pages-joined R w c b.pages b.whole) r in
      (b.bytes ∙ ap (records_by record_of) e, b.count ∙ ap length e)

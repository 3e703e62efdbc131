-- Pages of records and harvests, over any rules and any records (document 01, "Records and calls": Paging; demand 3).
-- Nothing here says how one searches. Assumes nothing.
use Rattle.std.specs.Prelude.{◌≡◌, Bool, false, List, [], ◌∷◌, ◌++◌, ℕ, ◌+◌, ◌≤◌, ltb, length, take, drop}
use Rattle.reading.specs.Reading.{Rules, Cursor, Item, over_all, Leading}

-- the records of some items, one behind the other
abbrev pub records_by : {F : Type 0} → (Item F → List ℕ) → List (Item F) → List ℕ
records_by record_of [] = []
records_by record_of (x ∷ xs) = record_of x ++ records_by record_of xs

module _ {W X F : Type 0} (R : Rules W X F) (record_of : Item F → List ℕ) where
  -- xs is the longest leading part of the reading from c that keeps to the count and fits
  pub record Page (w : W) (c : Cursor X) (most room : ℕ) (xs : List (Item F)) : Type 0 where
    pub leads : Leading R w c xs
    pub counted : length xs ≤ most
    pub fits : length (records_by record_of xs) ≤ room
    pub longest : (ys : List (Item F)) → Leading R w c ys → length ys ≤ most → length (records_by record_of ys) ≤ room → length ys ≤ length xs

  -- number 4: an item is left and the first does not fit
  abbrev pub first_left : W → Cursor X → List (Item F) → Bool
  first_left w c [] = ltb c.position (R.end w)
  first_left w c (x ∷ xs) = false

  -- a page in a buffer: its records stand in front and the rest is unchanged; items, bytes and the cursor are those of the page
  pub record Filled (w : W) (c : Cursor X) (most : ℕ) (before after : List ℕ) (items bytes : ℕ) (cursor : Cursor X) : Type 0 where
    pub page : List (Item F)
    pub longest : Page w c most (length before) page
    pub counted : items ≡ length page
    pub sized : bytes ≡ length (records_by record_of page)
    pub moved : cursor ≡ over_all R c page
    pub written : after ≡ records_by record_of page ++ drop bytes before

-- what came of a request for a page: the count and the buffer are the asker's to choose each time
pub record Delivery (X : Type 0) : Type 0 where
  pub most : ℕ
  pub before : List ℕ
  pub after : List ℕ
  pub items : ℕ
  pub bytes : ℕ
  pub cursor : Cursor X

-- the bytes that deliveries bring: of each buffer as many from the front as were answered, joined
abbrev pub bytes_of : {X : Type 0} → List (Delivery X) → List ℕ
bytes_of [] = []
bytes_of (d ∷ ds) = take d.bytes d.after ++ bytes_of ds

-- the items that they count
abbrev pub items_of : {X : Type 0} → List (Delivery X) → ℕ
items_of [] = 0
items_of (d ∷ ds) = d.items + items_of ds

module _ {W X F : Type 0} (R : Rules W X F) (record_of : Item F → List ℕ) where
  -- a harvest: pages delivered one after the other, each from the cursor that the last handed back, the last cursor at n
  abbrev pub Delivered : W → Cursor X → List (Delivery X) → Type 0
  Delivered w c [] = c.position ≡ R.end w
  Delivered w c (d ∷ ds) = Filled R record_of w c d.most d.before d.after d.items d.bytes d.cursor × Delivered w d.cursor ds

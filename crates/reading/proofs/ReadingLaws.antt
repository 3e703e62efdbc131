-- The laws of a reading: one at most, one at least; it splits and joins; pages of whatever sizes, joined, are it.
-- Assumes nothing.
use mathlib.Core.Path.{◌≡◌, refl}
use mathlib.Core.Bool.{Bool, true, false, cond}
use mathlib.Core.List.{List, [], ◌∷◌, ◌++◌}
use Prim.Native.Nat.{ℕ, zero, suc, ◌+◌, ◌-◌, ◌≤◌}
use native.Mathlib.Omega.{arith}
use lib.Dec.{ltb}
use borrow.Author.Tests.{ltb-true, ltb-false}
use Rattle.reading.specs.Reading.{Rules, Cursor, Item, Obeys, over, over_all, Stretch, Reading, Leading, Pages, joined, Sound}
use Rattle.reading.proofs.ItemLaws.{one, later, within, next, found}

module _ {W X F : Type 0} (R : Rules W X F) (w : W) where
  -- moving over two lists is moving over the one, then over the other
  pub over-append : (c : Cursor X) (xs ys : List (Item F)) → over_all R c (xs ++ ys) ≡ over_all R (over_all R c xs) ys
  over-append c [] ys = refl
  over-append c (x ∷ xs) ys = over-append (over R c x) xs ys

  -- a stretch splits at any item
  pub stretch-split : (c : Cursor X) (xs ys : List (Item F)) → Stretch R w c (xs ++ ys) → Stretch R w c xs × Stretch R w (over_all R c xs) ys
  stretch-split c [] ys h = (tt, h)
  stretch-split c (x ∷ xs) ys h = let r = stretch-split (over R c x) xs ys h.1 in ((h.0, r.0), r.1)

  -- two stretches, the second from where the first ended, are one
  pub stretch-join : (c : Cursor X) (xs ys : List (Item F)) → Stretch R w c xs → Stretch R w (over_all R c xs) ys → Stretch R w c (xs ++ ys)
  stretch-join c [] ys h k = k
  stretch-join c (x ∷ xs) ys h k = (h.0, stretch-join (over R c x) xs ys h.1 k)

  -- a reading splits at any item: a stretch, and the reading from where it ended
  pub split : (c : Cursor X) (xs ys : List (Item F)) → Reading R w c (xs ++ ys) → Stretch R w c xs × Reading R w (over_all R c xs) ys
  split c xs ys h = let r = stretch-split c xs ys h.0 in (r.0, (r.1, rw over-append at h.1))

  -- a stretch and the reading from where it ended join to a reading
  pub join : (c : Cursor X) (xs ys : List (Item F)) → Stretch R w c xs → Reading R w (over_all R c xs) ys → Reading R w c (xs ++ ys)
  join c xs ys h k = (stretch-join c xs ys h k.0, rw over-append k.1)

  -- pages of whatever sizes, each from the cursor that the last handed back, until the end: joined they are a reading
  pub pages-joined : (c : Cursor X) (xss : List (List (Item F))) → Pages R w c xss → Reading R w c (joined xss)
  pages-joined c [] h = (tt, h)
  pages-joined c (xs ∷ xss) h =
      let (a, b) = h in
      join c xs (joined xss) (stretch-split c xs a.0 a.1.0).0 (pages-joined (over_all R c xs) xss b)

module _ {W X F : Type 0} (R : Rules W X F) (w : W) (S : Sound R w) where
  -- a stretch goes forward
  pub stretch-later : (c : Cursor X) (xs : List (Item F)) → Stretch R w c xs → c.position ≤ (over_all R c xs).position
  stretch-later c [] h = omega arith
  stretch-later c (x ∷ xs) h = omega (arith, later R w S c x h.0, stretch-later (over R c x) xs h.1)

  -- a stretch from a cursor not beyond n ends by n
  pub stretch-within : (c : Cursor X) (xs : List (Item F)) → c.position ≤ R.end w → Stretch R w c xs → (over_all R c xs).position ≤ R.end w
  stretch-within c [] a h = a
  stretch-within c (x ∷ xs) a h = stretch-within (over R c x) xs (within R w S c x h.0) h.1

  -- at most one list obeys the rules
  pub unique : (c : Cursor X) (xs ys : List (Item F)) → Reading R w c xs → Reading R w c ys → xs ≡ ys
  unique c [] [] h k = refl
  unique c [] (y ∷ ys) h k = absurd (omega (arith, h.1, later R w S c y k.0.0, stretch-later (over R c y) ys k.0.1, k.1))
  unique c (x ∷ xs) [] h k = absurd (omega (arith, k.1, later R w S c x h.0.0, stretch-later (over R c x) xs h.0.1, h.1))
  unique c (x ∷ xs) (y ∷ ys) h k =
      let e : x ≡ y = one R w S c x y h.0.0 k.0.0 in
      let k₀ : Reading R w (over R c y) ys = (k.0.1, k.1) in
      let k' : Reading R w (over R c x) ys = rw (← e) at k₀ in
      let r : xs ≡ ys = unique (over R c x) xs ys (h.0.1, h.1) k' in
      cc

  -- the items from a cursor, at most k of them
  abbrev read_for : ℕ → Cursor X → List (Item F)
  read_for zero c = []
  read_for (suc k) c =
      let x = next R w S c in
      let r = x ∷ read_for k (over R c x) in
      cond (ltb c.position (R.end w)) r []

  -- the reading from a cursor, computed
  unfoldable pub read : Cursor X → List (Item F)
  read c = read_for (R.end w - c.position) c

  read_for_lem : (k : ℕ) (c : Cursor X) → R.end w ≤ c.position + k → c.position ≤ R.end w → Reading R w c (read_for k c)
  read_for_lem zero c f h = (tt, omega arith)
  read_for_lem (suc k) c f h = go (ltb c.position (R.end w)) refl (λ m. read_for_lem k (over R c x) m)
    where
      x : Item F
      x = next R w S c

      go : (b : Bool) → ltb c.position (R.end w) ≡ b
          → (R.end w ≤ (over R c x).position + k → (over R c x).position ≤ R.end w → Reading R w (over R c x) (read_for k (over R c x)))
          → Reading R w c (cond b (x ∷ read_for k (over R c x)) [])
      go true e rest =
          let o : Obeys R w c x = found R w S c (ltb-true _ _ e) in
          let r = rest (omega (arith, later R w S c x o)) (within R w S c x o) in
          ((o, r.0), r.1)
      go false e rest = (tt, omega (arith, ltb-false))

  -- at least one list obeys the rules, from each cursor not beyond n
  pub exists : (c : Cursor X) → c.position ≤ R.end w → Reading R w c (read c)
  unfolding read
  exists c h = read_for_lem (R.end w - c.position) c (omega arith) h

  -- a stretch from a cursor not beyond n leads the reading
  pub stretch-leads : (c : Cursor X) (xs : List (Item F)) → c.position ≤ R.end w → Stretch R w c xs → Leading R w c xs
  stretch-leads c xs h s = let to = over_all R c xs in (read to, join R w c xs (read to) s (exists to (stretch-within c xs h s)))

  -- what obeys the rules is what is computed
  pub is_read : (c : Cursor X) (xs : List (Item F)) → Reading R w c xs → xs ≡ read c
  is_read c xs h = unique c xs (read c) h (exists c (omega (arith, stretch-later c xs h.0, h.1)))

  -- pages of whatever sizes, joined, are the one reading
  pub pages-are-read : (c : Cursor X) (xss : List (List (Item F))) → Pages R w c xss → joined xss ≡ read c
  pages-are-read c xss p = is_read c (joined xss) (pages-joined R w c xss p)

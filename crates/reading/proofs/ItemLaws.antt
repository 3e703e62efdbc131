-- One item at a cursor: at most one obeys the rules, before n one does, it is not empty and ends by n.
-- Assumes nothing.
use mathlib.Core.Path.{◌≡◌, refl, sym, ◌∙◌, ap}
use mathlib.Core.Logic.{◌⊎◌, inl, inr}
use mathlib.Core.Bool.{Bool, true, false, cond}
use mathlib.Core.Option.{Option, none, some}
use Prim.Native.Nat.{ℕ, zero, suc, ◌+◌, ◌-◌, ◌≤◌, ◌<◌}
use native.Mathlib.Omega.{arith}
use native.Mathlib.Decide.{dec_lt, ℕ_discrete}
use Rattle.reading.specs.Reading.{Rules, Cursor, Item, gap, frame, Starts, Gap, Obeys, over, Sound}

-- whether a frame was found
abbrev has : {F : Type 0} → Option F → Bool
has none = false
has (some f) = true

not_some : {F : Type 0} (o : Option F) (f : F) → has o ≡ false → o ≡ some f → ⊥
not_some none f h e = let z : ◌≡◌ {A = ℕ} 0 1 = cc in omega arith
not_some (some g) f h e = let z : ◌≡◌ {A = ℕ} 0 1 = cc in omega arith

has_some : {F : Type 0} (o : Option F) → has o ≡ true → (f : F) × (o ≡ some f)
has_some none h = let z : ◌≡◌ {A = ℕ} 0 1 = cc in absurd (omega arith)
has_some (some f) h = (f, refl)

module _ {W X F : Type 0} (R : Rules W X F) (w : W) where
  gap-short : (c : Cursor X) (s l m : ℕ) → Gap R w c s l → Gap R w c s m → l < m → ⊥
  gap-short c s l m g h a = go g.stops
    where
      go : (s + l ≡ R.end w) ⊎ ((f : F) × Starts R w (s + l) f) → ⊥
      go (inl e) = omega (arith, h.within)
      go (inr t) = h.none_starts (s + l) (omega arith) (omega arith) t.0 t.1

  -- two gaps from one place are one
  gap-one : (c : Cursor X) (s l m : ℕ) → Gap R w c s l → Gap R w c s m → l ≡ m
  gap-one c s l m g h =
      elim (dec_lt l m) [
        | yes a ↦ absurd (gap-short c s l m g h a)
        | no a ↦ elim (dec_lt m l) [ yes b ↦ absurd (gap-short c s m l h g b) | no b ↦ omega arith ]
      ]

module _ {W X F : Type 0} (R : Rules W X F) (w : W) (S : Sound R w) where
  due-one : (x : X) (p : ℕ) (f g : F) → R.Due w x p f → R.Due w x p g → f ≡ g
  due-one x p f g a b = let d = S.due_look x p f a in let e = S.due_look x p g b in cc

  -- at most one item obeys the rules at a cursor
  pub one : (c : Cursor X) (x y : Item F) → Obeys R w c x → Obeys R w c y → x ≡ y
  one c (gap s l) (gap t m) g h =
      let e : s ≡ t = g.from ∙ sym h.from in
      let h' : Gap R w c s m = rw (← e) at h in
      let d : l ≡ m = gap-one R w c s l m g h' in
      cc
  one c (gap s l) (frame f) g h = absurd (g.none_follows f (rw g.from h))
  one c (frame f) (gap s l) g h = absurd (h.none_follows f (rw h.from g))
  one c (frame f) (frame g) a b = ap frame (due-one c.context c.position f g a b)

  -- an item is not empty
  pub later : (c : Cursor X) (x : Item F) → Obeys R w c x → c.position < (over R c x).position
  later c (gap s l) g = omega (arith, g.filled, g.from)
  later c (frame f) e = S.later c.context c.position f e

  -- an item ends by n
  pub within : (c : Cursor X) (x : Item F) → Obeys R w c x → (over R c x).position ≤ R.end w
  within c (gap s l) g = g.within
  within c (frame f) e = S.within c.context c.position f e

  -- the first place from p on, at most k further, where a frame starts a run, or the place k further
  abbrev pub seek : ℕ → ℕ → ℕ
  seek zero p = p
  seek (suc k) p = let r = seek k (suc p) in cond (has (S.look R.searching p)) p r

  seek_low : (k p : ℕ) → p ≤ seek k p
  seek_low zero p = omega arith
  seek_low (suc k) p = go (has (S.look R.searching p)) (seek_low k (suc p))
    where
      go : (b : Bool) → suc p ≤ seek k (suc p) → p ≤ cond b p (seek k (suc p))
      go true h = omega arith
      go false h = omega arith

  seek_high : (k p : ℕ) → seek k p ≤ p + k
  seek_high zero p = omega arith
  seek_high (suc k) p = go (has (S.look R.searching p)) (seek_high k (suc p))
    where
      go : (b : Bool) → seek k (suc p) ≤ suc p + k → cond b p (seek k (suc p)) ≤ p + suc k
      go true h = omega arith
      go false h = omega arith

  seek_clear : (k p r : ℕ) → p ≤ r → r < seek k p → has (S.look R.searching r) ≡ false
  seek_clear zero p r a b = absurd (omega arith)
  seek_clear (suc k) p r a b = go (has (S.look R.searching p)) refl b (λ m. seek_clear k (suc p) r m)
    where
      go : (t : Bool) → has (S.look R.searching p) ≡ t → r < cond t p (seek k (suc p))
          → (suc p ≤ r → r < seek k (suc p) → has (S.look R.searching r) ≡ false) → has (S.look R.searching r) ≡ false
      go true e h ih = absurd (omega arith)
      go false e h ih =
          elim (ℕ_discrete p r) [
            | yes q ↦ rw (← q) e
            | no q ↦ ih (omega arith) h
          ]

  seek-stops : (k p : ℕ) → (seek k p ≡ p + k) ⊎ (has (S.look R.searching (seek k p)) ≡ true)
  seek-stops zero p = inl (omega arith)
  seek-stops (suc k) p = go (has (S.look R.searching p)) refl (seek-stops k (suc p))
    where
      go : (t : Bool) → has (S.look R.searching p) ≡ t → (seek k (suc p) ≡ suc p + k) ⊎ (has (S.look R.searching (seek k (suc p))) ≡ true)
          → (cond t p (seek k (suc p)) ≡ p + suc k) ⊎ (has (S.look R.searching (cond t p (seek k (suc p)))) ≡ true)
      go true e h = inr e
      go false e (inl q) = inl (omega arith)
      go false e (inr t) = inr t

  abbrev choose : Option F → ℕ → ℕ → Item F
  choose none start length = gap start length
  choose (some f) start length = frame f

  -- the item at a cursor before n: the frame that is due, else the gap to the next start of a run, or to n
  abbrev pub next : Cursor X → Item F
  next c =
      let l = seek (R.end w - suc c.position) (suc c.position) - c.position in
      choose (S.look c.context c.position) c.position l

  -- before n an item obeys the rules
  pub found : (c : Cursor X) → c.position < R.end w → Obeys R w c (next c)
  found c h = go (S.look c.context c.position) refl
    where
      p : ℕ
      p = c.position

      k : ℕ
      k = R.end w - suc p

      q : ℕ
      q = seek k (suc p)

      clear : S.look c.context p ≡ none → (r : ℕ) → p ≤ r → r < q → (f : F) → Starts R w r f → ⊥
      clear e r a b f d =
          elim (ℕ_discrete p r) [
            | yes i ↦ not-due (S.starts_due c.context p f (rw i d))
            | no i ↦ not_some (S.look R.searching r) f (seek_clear k (suc p) r (omega arith) b) (S.due_look R.searching r f d)
          ]
        where
          not-due : (g : F) × R.Due w c.context p g → ⊥
          not-due t = let s = S.due_look c.context p t.0 t.1 in let z : ◌≡◌ {A = ℕ} 0 1 = cc in omega arith

      stop : (q ≡ suc p + k) ⊎ (has (S.look R.searching q) ≡ true) → (q ≡ R.end w) ⊎ ((f : F) × Starts R w q f)
      stop (inl z) = inl (omega arith)
      stop (inr t) = let (f, e) = has_some (S.look R.searching q) t in inr (f, S.look_due R.searching q f e)

      go : (o : Option F) → S.look c.context p ≡ o → Obeys R w c (choose o p (q - p))
      go (some f) e = S.look_due c.context p f e
      go none e =
          let low : suc p ≤ q = seek_low k (suc p) in
          let high : q ≤ suc p + k = seek_high k (suc p) in
          let back : p + (q - p) ≡ q = omega arith in
          record {
            from = refl;
            filled = omega arith;
            within = omega arith;
            stops = rw back (stop (seek-stops k (suc p)));
            none_starts = λ r a b. clear e r a (rw back at b);
            none_follows = λ f d. let s = S.due_look c.context p f d in let z : ◌≡◌ {A = ℕ} 0 1 = cc in omega arith;
          }

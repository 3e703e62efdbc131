-- What a reading is (document 01, "Reading rules", rules 1 to 4), over any set of frames and contexts.
-- Nothing here says how one searches. Assumes nothing.
use Rattle.std.specs.Prelude.{◌≡◌, ◌⊎◌, List, [], ◌∷◌, ◌++◌, ℕ, ◌+◌, ◌≤◌, ◌<◌, length}
use Rattle.std.proofs.Math.Option.{Option, some}

-- The parameters. W: what is read, a capture with its direction. X: contexts. F: frames, each with its whole tail (rule 3).
pub record Rules (W X F : Type 0) : Type 1 where
  -- n, the number of bits
  pub end : W → ℕ
  -- the context of searching, 0
  pub searching : X
  -- rule 2: the frame may be the item at that place in that context: in searching one that starts a run, in any other one that follows
  pub Due : W → X → ℕ → F → Type 0
  -- the place behind the frame's tail
  pub behind : F → ℕ
  -- the context that the frame leaves, where it stood in the given one
  pub after : X → F → X

-- A cursor: position and context.
pub record Cursor (X : Type 0) : Type 0 where
  pub position : ℕ
  pub context : X

-- An item: a gap with its start and length, or a frame.
pub data Item (F : Type 0) : Type 0 where
  gap : ℕ → ℕ → Item F
  frame : F → Item F

-- Pages or records, joined.
abbrev pub joined : {I : Type 0} → List (List I) → List I
joined [] = []
joined (xs ∷ xss) = xs ++ joined xss

module _ {W X F : Type 0} (R : Rules W X F) where
  -- a frame starts a run at p: always judged in the context of searching (rule 4)
  abbrev pub Starts : W → ℕ → F → Type 0
  Starts w p f = R.Due w R.searching p f

  -- rule 1, of a gap: it begins at the cursor, is not empty and ends by n; rule 4: it ends at n or where a frame starts a run, none starts
  -- at an earlier place of it, and none follows at its first
  pub record Gap (w : W) (c : Cursor X) (start length : ℕ) : Type 0 where
    pub from : start ≡ c.position
    pub filled : 0 < length
    pub within : start + length ≤ R.end w
    pub stops : (start + length ≡ R.end w) ⊎ ((f : F) × Starts w (start + length) f)
    pub none_starts : (p : ℕ) → start ≤ p → p < start + length → (f : F) → Starts w p f → ⊥
    pub none_follows : (f : F) → R.Due w c.context start f → ⊥

  -- an item obeys the rules at a cursor
  abbrev pub Obeys : W → Cursor X → Item F → Type 0
  Obeys w c (gap start length) = Gap w c start length
  Obeys w c (frame f) = R.Due w c.context c.position f

  -- a cursor moved over an item: a gap leaves the context of searching
  abbrev pub over : Cursor X → Item F → Cursor X
  over c (gap start length) = record { position = start + length; context = R.searching }
  over c (frame f) = record { position = R.behind f; context = R.after c.context f }

  -- a cursor moved over items, one after the other
  abbrev pub over_all : Cursor X → List (Item F) → Cursor X
  over_all c [] = c
  over_all c (x ∷ xs) = over_all (over c x) xs

  -- items end to end from a cursor, each of which obeys the rules where the one before it ended
  abbrev pub Stretch : W → Cursor X → List (Item F) → Type 0
  Stretch w c [] = Unit {0}
  Stretch w c (x ∷ xs) = Obeys w c x × Stretch w (over c x) xs

  -- a reading: such items to n
  abbrev pub Reading : W → Cursor X → List (Item F) → Type 0
  Reading w c xs = Stretch w c xs × ((over_all c xs).position ≡ R.end w)

  -- a leading part of the reading from a cursor
  abbrev pub Leading : W → Cursor X → List (Item F) → Type 0
  Leading w c xs = (ys : List (Item F)) × Reading w c (xs ++ ys)

  -- all items of the reading from a cursor but its last k, or fewer of them: at least k stand behind (document 02, Ask 2)
  abbrev pub AllBut : ℕ → W → Cursor X → List (Item F) → Type 0
  AllBut k w c xs = (ys : List (Item F)) × Reading w c (xs ++ ys) × (k ≤ length ys)

  -- pages until the end: each a leading part of the reading from the cursor that the last handed back, the last cursor at n
  abbrev pub Pages : W → Cursor X → List (List (Item F)) → Type 0
  Pages w c [] = c.position ≡ R.end w
  Pages w c (xs ∷ xss) = Leading w c xs × Pages w (over_all c xs) xss

  -- All that a set of frames has to prove, for the laws of a reading to hold of it.
  pub record Sound (w : W) : Type 0 where
    -- whether a frame is due is decided, and it is one at most
    pub look : X → ℕ → Option F
    pub look_due : (x : X) (p : ℕ) (f : F) → look x p ≡ some f → R.Due w x p f
    pub due_look : (x : X) (p : ℕ) (f : F) → R.Due w x p f → look x p ≡ some f
    -- a frame is not empty, and ends by n
    pub later : (x : X) (p : ℕ) (f : F) → R.Due w x p f → p < R.behind f
    pub within : (x : X) (p : ℕ) (f : F) → R.Due w x p f → R.behind f ≤ R.end w
    -- where a frame starts a run, one is due in every context
    pub starts_due : (x : X) (p : ℕ) (f : F) → Starts w p f → (g : F) × R.Due w x p g

-- A plan of the D bits: the entry of each byte of them.
-- Assumes nothing.
use Rattle.std.specs.Prelude.{List, ℕ, ◌+◌, ◌*◌, ◌/◌, ◌≤◌, ◌<◌, cond, eqb, length, get_or, take, drop}
use Rattle.std.specs.declared.option.Option.{Option}
use Rattle.std.specs.declared.option.Option.TheVariants.{None, Some}
use Rattle.std.proofs.Math.Dec.{lit<, lit≤}
use Rattle.entries.specs.declared.Entry.{Entry}
use Rattle.entries.specs.Entry.{quick, EntryBy}

-- an entry that is of no byte
pub no_entry : Entry
no_entry = record { m = 0; f = 0; h = 0; small = (lit< tt, lit≤ tt, lit≤ tt) }

-- the entry of byte j
abbrev pub entry_at : List Entry → ℕ → Entry
entry_at entries j = get_or entries j no_entry

abbrev pub EntryAt : List ℕ → Entry → Type 0
EntryAt ps e = EntryBy ps e.m e.f e.h

abbrev pub quick_at : List ℕ → Entry → ℕ
quick_at o e = quick o e.m e.f e.h

-- the bytes from the first that has no entry to the last, once byte j is looked at: the first, and the one behind the last; one number while there is none
abbrev pub odd_bytes : ℕ → ℕ → ℕ → Option Entry → ℕ × ℕ
odd_bytes from to j (Some e) = (from, to)
odd_bytes from to j None = (cond (eqb from to) j from, j + 1)

-- the entries of some places, eight by eight; the bytes that have none stand between two numbers
pub record PlanOf (ps : List ℕ) (entries : List Entry) (from to : ℕ) : Type 0 where
  pub from_to : from ≤ to
  pub within : to ≤ (length ps + 7) / 8
  pub others : (j : ℕ) → j < (length ps + 7) / 8 → (from ≤ j → j < to → ⊥) → EntryAt (take 8 (drop (8 * j) ps)) (entry_at entries j)

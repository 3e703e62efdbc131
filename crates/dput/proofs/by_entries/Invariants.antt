-- `dput::by_entries` meets its contract: each turn puts a byte back, and leaves the bytes behind it.
-- Assumes nothing.
use mathlib.Core.Path.{◌≡◌}
use mathlib.Core.List.{List}
use Prim.Native.Nat.{ℕ, ◌<◌}
use lib.ListN.{length, get_or}
use Rattle.dput.specs.Back.{BackFrom, Rest}
use Rattle.dput.proofs.by_entries.Given as goal

abbrev pub invariant-loop-j : goal.invariant-loop-j
invariant-loop-j l = (length l.o ≡ 20) × ((k : ℕ) → get_or l.o k 0 < 256) × ((ps : List ℕ) → BackFrom ps l.entries l.initial.j l.to → Rest ps l.d l.initial.j l.initial.o l.j l.o)

-- The way back of the D bytes: bytes put at their places one after the other.
-- Assumes nothing.
use Rattle.std.specs.Prelude.{◌≡◌, List, ℕ, ◌*◌, ◌≤◌, ◌<◌, take, drop}
use Rattle.bits.specs.Bit.{bit_at}
use Rattle.scatter.specs.Scatter.{put_places}
use Rattle.entries.specs.declared.Entry.{Entry}
use Rattle.entries.specs.Entry.{BackTo}
use Rattle.plans.specs.Plan.{entry_at}

-- the bytes d from number `to` on, put into the octets `after`, give what those from number `from` on, put into `before`, give
abbrev pub Rest : List ℕ → List ℕ → ℕ → List ℕ → ℕ → List ℕ → Type 0
Rest ps d from before to after =
    put_places after (drop (8 * to) ps) (bit_at d) (8 * to) ≡ put_places before (drop (8 * from) ps) (bit_at d) (8 * from)

-- the entries that put the bytes from number `from` on, up to `to`, back at their places
abbrev pub BackFrom : List ℕ → List Entry → ℕ → ℕ → Type 0
BackFrom ps entries from to = (j : ℕ) → from ≤ j → j < to → BackTo (take 8 (drop (8 * j) ps)) (entry_at entries j).m

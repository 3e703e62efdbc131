-- The D bits of a byte.
-- Assumes nothing.
use Rattle.std.specs.Prelude.{List, ℕ, ◌*◌, ◌-◌, take, drop}
use Rattle.channel.specs.declared.Kind.{Kind}
use Rattle.channel.specs.Kinds.{d_count}
use Rattle.channel.specs.Places.{d_places}

-- how many D bits byte j of a kind has: eight, but for the last byte
abbrev pub size_of : Kind → ℕ → ℕ
size_of k j = 8 - (8 - (d_count k - 8 * j))

-- their places
abbrev pub eight_of : Kind → ℕ → List ℕ
eight_of k j = take 8 (drop (8 * j) (d_places k))

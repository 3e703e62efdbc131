-- A lent list of sessions (document 02, Ask 5): each place is free, or holds a key, a cursor, a capture number and a direction.
-- Assumes nothing.
use Rattle.std.specs.Prelude.{Bool, ◌&&◌, not, List, ℕ, eqb}
use Rattle.std.specs.List.{position, position_or_len, list_any}
use Rattle.sessions.specs.declared.Session.{Session}
use Rattle.sessions.specs.declared.Found.{Found}

-- a free place as closing leaves it
abbrev pub blank : Session
blank = record { used = 0; key = 0; position = 0; context = 0; capture = 0; direction = 0 }

-- used: 0 free, any other taken; the other fields of a free place mean nothing
abbrev pub is_free : Session → Bool
is_free s = eqb s.used 0

-- a taken place holds its key; any key is a key, 0 too
abbrev pub holds : Session → ℕ → Bool
holds s key = not (is_free s) && eqb s.key key

-- the lowest free place; the number of places where there is none
abbrev pub free_at : List Session → ℕ
free_at ss = position_or_len is_free ss

-- the key is already present
abbrev pub held_in : List Session → ℕ → Bool
held_in ss key = list_any (λ s. holds s key) ss

-- what a search finds
abbrev pub found_in : List Session → ℕ → Found
found_in ss key = record { free = position is_free ss; held = held_in ss key }

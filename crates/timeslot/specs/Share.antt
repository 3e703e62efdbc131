-- What the numbers leave; and a channel byte by byte: which octets each byte has a bit of, and a timeslot into which the first are put back.
-- Assumes nothing.
use Rattle.std.specs.Prelude.{◌≡◌, ◌⊎◌, List, ℕ, ◌+◌, ◌*◌, ◌<◌, ◌≤◌}
use Rattle.lanes.specs.Lanes.{FilledTo}
use Rattle.timeslot.specs.Timeslot.{bytes_for, octet_with}

-- channel k, a timeslot of so many octets and so many bytes, of which no number refuses any
pub record Admitted (k octets bytes : ℕ) : Type 0 where
  pub from : 0 < k
  pub to : k ≤ 8
  pub short : octets ≤ 65536
  pub room : bytes_for octets ≤ bytes

-- byte j of a channel has a bit of c octets: of eight, or of those left at the end
pub record Share (octets j c : ℕ) : Type 0 where
  pub within : 8 * j + c ≤ octets
  pub most : c ≤ 8
  pub all : (c ≡ 8) ⊎ (8 * j + c ≡ octets)

-- the timeslot t with channel k put back into its first n octets
abbrev pub PutTo : List ℕ → ℕ → List ℕ → ℕ → List ℕ → Type 0
PutTo t k bytes n now = FilledTo (octet_with t k bytes) n t now

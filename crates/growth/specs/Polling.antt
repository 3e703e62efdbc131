-- A harvest that polls a capture that still grows (document 02, Ask 2).
-- Assumes nothing.
use Rattle.std.specs.Prelude.{◌≡◌, List, [], ◌∷◌, ◌++◌, ℕ, ◌+◌, ◌-◌, ◌*◌, ◌≤◌, ◌<◌, length, take}
use Rattle.reading.specs.Reading.{Item}
use Rattle.channel.specs.Frames.{capture_of, Frame}
use Rattle.channel.specs.Growth.{Grown}
use Rattle.channel.specs.Record.{record_of}
use Rattle.call.specs.declared.TermNumbers.{TermNumbers}
use Rattle.call.specs.declared.CursorNumbers.{CursorNumbers}
use Rattle.call.specs.declared.Answer.{Answer}
use Rattle.call.specs.declared.PageRequest.{PageRequest}
use Rattle.call.specs.Call.{terms_by, next}
use Rattle.paging.specs.Harvest.{Asked, PageTaken, Harvest}

-- the bytes and n of a capture that number 2 does not refuse
pub record Bounded (capture : List ℕ) (n : ℕ) : Type 0 where
  pub short : length capture ≤ 65536
  pub count : n ≤ 8 * length capture

-- the capture has grown: what its bytes and n were, and what they are
abbrev pub GrownTo : TermNumbers → List ℕ → ℕ → List ℕ → ℕ → Type 0
GrownTo terms old n capture m = Grown (capture_of old n (terms_by terms)) (capture_of capture m (terms_by terms))

-- the same request, of a capture of n bits
abbrev pub same_of : ℕ → PageRequest → PageRequest
same_of n r = record { n = n; terms = r.terms; cursor = r.cursor; most = r.most }

-- the recipe for a page that reaches n: the same cursor is asked again, with most one less than the items answered
abbrev pub again : PageRequest → Answer → PageRequest
again r a = record { n = r.n; terms = r.terms; cursor = r.cursor; most = a.items - 1 }

-- what comes of it: the page without its last record, which ends before n
pub record OneLess (n : ℕ) (a : Answer) (after : List ℕ) (b : Answer) (later : List ℕ) : Type 0 where
  pub taken : b.number ≡ 0
  pub items : b.items + 1 ≡ a.items
  pub ends : b.position < n
  pub last : Item Frame
  pub bytes : take a.bytes after ≡ take b.bytes later ++ record_of last

-- pages that a harvester may keep: each asked with the cursor that the last answered, none refused, and each ends before n
abbrev pub Kept : List ℕ → ℕ → TermNumbers → CursorNumbers → List Asked → Type 0
Kept capture n terms cursor [] = Unit {0}
Kept capture n terms cursor (a ∷ rest) =
    PageTaken capture n terms cursor a
    × (a.answer.position < n)
    × Kept capture n terms (next a.answer) rest

-- the cursor behind some pages
abbrev pub reached : CursorNumbers → List Asked → CursorNumbers
reached cursor [] = cursor
reached cursor (a ∷ rest) = reached (next a.answer) rest

-- a look at a capture: its bytes and n then, and the pages of it that are kept
pub record Look : Type 0 where
  pub capture : List ℕ
  pub n : ℕ
  pub kept : List Asked

-- a harvest that polls: each look goes on from the cursor that the one before it kept, at a capture that has since grown to what it is now; the rest is a
-- harvest of that
abbrev pub Polled : TermNumbers → CursorNumbers → List Look → List ℕ → ℕ → List Asked → Type 0
Polled terms cursor [] capture n rest = Harvest capture n terms cursor rest
Polled terms cursor (l ∷ looks) capture n rest =
    Kept l.capture l.n terms cursor l.kept
    × GrownTo terms l.capture l.n capture n
    × Polled terms (reached cursor l.kept) looks capture n rest

-- its pages: those kept of each look, and the rest
abbrev pub pages_of : List Look → List Asked → List Asked
pages_of [] rest = rest
pages_of (l ∷ looks) rest = l.kept ++ pages_of looks rest

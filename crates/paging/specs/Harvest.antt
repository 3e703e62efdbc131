-- A harvest: pages asked one after the other, each with the cursor that the last answered, until the end (demand 3).
-- Assumes nothing.
use Rattle.std.specs.Prelude.{◌≡◌, List, [], ◌∷◌, ℕ}
use Rattle.reading.specs.Paging.{Delivery, bytes_of, items_of}
use Rattle.call.specs.declared.TermNumbers.{TermNumbers}
use Rattle.call.specs.declared.CursorNumbers.{CursorNumbers}
use Rattle.call.specs.declared.Answer.{Answer}
use Rattle.call.specs.Call.{cursor_by, next}
use Rattle.paging.specs.Paging.{PageCall}

-- a request for a page and what came of it: the count and the buffer are the asker's to choose each time
pub record Asked : Type 0 where
  pub most : ℕ
  pub buffer : List ℕ
  pub answer : Answer
  pub after : List ℕ

-- a page asked with a cursor, and not refused
abbrev pub PageTaken : List ℕ → ℕ → TermNumbers → CursorNumbers → Asked → Type 0
PageTaken capture n terms cursor a =
    PageCall capture (record { n = n; terms = terms; cursor = cursor; most = a.most }) a.buffer a.answer a.after
    × (a.answer.number ≡ 0)

-- the same capture, n and terms throughout; no request is refused; the last cursor is at n
abbrev pub Harvest : List ℕ → ℕ → TermNumbers → CursorNumbers → List Asked → Type 0
Harvest capture n terms cursor [] = cursor.position ≡ n
Harvest capture n terms cursor (a ∷ rest) = PageTaken capture n terms cursor a × Harvest capture n terms (next a.answer) rest

-- what was delivered
abbrev pub deliveries : List Asked → List (Delivery ℕ)
deliveries [] = []
deliveries (a ∷ rest) =
    record { most = a.most; before = a.buffer; after = a.after; items = a.answer.items; bytes = a.answer.bytes; cursor = cursor_by (next a.answer) } ∷ deliveries rest

-- the bytes that a harvest brings, joined
abbrev pub harvested : List Asked → List ℕ
harvested rs = bytes_of (deliveries rs)

-- the items that it counts
abbrev pub counted : List Asked → ℕ
counted rs = items_of (deliveries rs)

-- One session among the calls of others on the same list (document 02, Ask 5).
-- Assumes nothing.
use Rattle.std.specs.Prelude.{◌≡◌, List, [], ◌∷◌, map, ℕ}
use Rattle.sessions.specs.declared.Session.{Session}
use Rattle.call.specs.declared.Answer.{Answer}
use Rattle.call.specs.declared.TermNumbers.{TermNumbers}
use Rattle.call.specs.Call.{next}
use Rattle.paging.specs.Paging.{PageCall}
use Rattle.paging.specs.Harvest.{Asked}
use Rattle.serving.specs.declared.Opened.{Opened}
use Rattle.serving.specs.declared.Brought.{Brought}
use Rattle.serving.specs.Serving.{OpenCall, CloseCall, request_of, moved_to, SessionPageCall}

-- a page that is asked of a session: the bytes and n that its capture number means, profile and most, the buffer
pub record Ask : Type 0 where
  pub capture : List ℕ
  pub brought : Brought
  pub buffer : List ℕ

-- and what came of it
pub record Visit : Type 0 where
  pub ask : Ask
  pub answer : Answer
  pub after : List ℕ

-- a call on the list, with what it answered: key, capture number and direction; place and key
pub data Call : Type 0 where
  opens : (key capture direction : ℕ) → Opened → Call
  pages : (place key : ℕ) → Visit → Call
  closes : (place key number : ℕ) → Call

abbrev pub key_of : Call → ℕ
key_of (opens key capture direction a) = key
key_of (pages place key v) = key
key_of (closes place key number) = key

-- the call was made on a list, which is then another
abbrev pub Made : List Session → Call → List Session → Type 0
Made ss (opens key capture direction a) after = OpenCall ss key capture direction a after
Made ss (pages place key v) after = SessionPageCall ss place key v.ask.capture v.ask.brought v.ask.buffer v.answer v.after after
Made ss (closes place key number) after = CloseCall ss place key number after

-- from a session's opening to its closing: its own harvester asks a page, or somebody else calls
pub data Turn : Type 0 where
  mine : Visit → Turn
  other : Call → Turn

abbrev pub call_of : ℕ → ℕ → Turn → Call
call_of place key (mine v) = pages place key v
call_of place key (other c) = c

-- turns one after the other, the harvester's at its place and by its key
abbrev pub Happened : ℕ → ℕ → List Session → List Turn → List Session → Type 0
Happened place key ss [] after = after ≡ ss
Happened place key ss (t ∷ ts) after = (between : List Session) × Made ss (call_of place key t) between × Happened place key between ts after

-- nobody else uses the key
abbrev pub Others : ℕ → List Turn → Type 0
Others key [] = Unit {0}
Others key (mine v ∷ ts) = Others key ts
Others key (other c ∷ ts) = (key_of c ≡ key → ⊥) × Others key ts

-- the harvester's own pages, and what it asked
abbrev pub visits : List Turn → List Visit
visits [] = []
visits (mine v ∷ ts) = v ∷ visits ts
visits (other c ∷ ts) = visits ts

abbrev pub asks : List Visit → List Ask
asks vs = map (λ (v : Visit). v.ask) vs

-- pages of a session with nobody else there: each is the page of document 01 at the session's cursor, which then is the one answered
abbrev pub Alone : Session → List Visit → Session → Type 0
Alone s [] after = after ≡ s
Alone s (v ∷ vs) after =
    PageCall v.ask.capture (request_of s v.ask.brought) v.ask.buffer v.answer v.after
    × Alone (moved_to s (next v.answer)) vs after

-- ---- demand 3, read per session
-- each page is of the same capture, n and profile, and none is refused
abbrev pub Steady : List ℕ → ℕ → ℕ → List Visit → Type 0
Steady capture n profile [] = Unit {0}
Steady capture n profile (v ∷ vs) =
    (v.ask.capture ≡ capture)
    × (v.ask.brought.n ≡ n)
    × (v.ask.brought.profile ≡ profile)
    × (v.answer.number ≡ 0)
    × Steady capture n profile vs

-- the pages of a session as those of a harvest
abbrev pub asked_by : List Visit → List Asked
asked_by [] = []
asked_by (v ∷ vs) = record { most = v.ask.brought.most; buffer = v.ask.buffer; answer = v.answer; after = v.after } ∷ asked_by vs

-- what is agreed of the session's capture
abbrev pub terms_with : ℕ → ℕ → TermNumbers
terms_with direction profile = record { direction = direction; profile = profile }

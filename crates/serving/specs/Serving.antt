-- Opening, paging and closing a session in a lent list (document 02, Ask 5).
-- Assumes nothing.
use Rattle.std.specs.Prelude.{◌≡◌, Bool, cond, List, ℕ, zero, suc, ltb, length, get_or, set, is_none}
use Rattle.sessions.specs.declared.Session.{Session}
use Rattle.sessions.specs.declared.Found.{Found}
use Rattle.sessions.specs.Sessions.{blank, holds, free_at, found_in}
use Rattle.call.specs.declared.Answer.{Answer}
use Rattle.call.specs.declared.CursorNumbers.{CursorNumbers}
use Rattle.call.specs.declared.PageRequest.{PageRequest}
use Rattle.call.specs.Call.{page_request, next, refused}
use Rattle.paging.specs.Paging.{PageCall}
use Rattle.serving.specs.declared.Opened.{Opened}
use Rattle.serving.specs.declared.Brought.{Brought}

-- number 2, for a list of so many places: it is longer than 32
abbrev pub too_long : ℕ → Bool
too_long places = ltb 32 places

-- the cursor of zeros
abbrev pub zeros : CursorNumbers
zeros = record { position = 0; context = 0 }

-- ---- opening
-- the numbers of an opening, by what was found in a list of so many places: a list longer than 32; direction above 1; key already present; full, which is
-- no free place; 0 where none of them is given
abbrev pub open_refusal : Found → ℕ → ℕ → ℕ
open_refusal found places direction =
    cond (too_long places) 2
    (cond (ltb 1 direction) 1
    (cond found.held 9
    (cond (is_none found.free) 8 0)))

-- the session that opening stores: the cursor at bit 0, context 0
abbrev pub new_session : ℕ → ℕ → ℕ → Session
new_session key capture direction =
    record { used = 1; key = key; position = zeros.position; context = zeros.context; capture = capture; direction = direction }

-- what opening answers
abbrev pub opened_at : ℕ → ℕ → Opened
opened_at number place = record { number = number; place = place }

-- by the number: the lowest free place is taken, and answered; a refusal answers place 0, and the list stands
abbrev pub OpenedBy : ℕ → List Session → Session → Opened → List Session → Type 0
OpenedBy zero ss new a after = (a ≡ opened_at 0 (free_at ss)) × (after ≡ set ss (free_at ss) new)
OpenedBy (suc number) ss new a after = (a ≡ opened_at (suc number) 0) × (after ≡ ss)

-- every request: the list, key, capture number, direction; the answer, and the list after it
abbrev pub OpenCall : List Session → ℕ → ℕ → ℕ → Opened → List Session → Type 0
OpenCall ss key capture direction a after = OpenedBy (open_refusal (found_in ss key) (length ss) direction) ss (new_session key capture direction) a after

-- ---- a place and a key named
-- what stands at a place: a place outside the list is as a free one
abbrev pub standing : List Session → ℕ → Session
standing ss place = get_or ss place blank

-- the numbers of a call that names a place and a key, by what stands there in a list of so many places: a list longer than 32; place outside the list, free
-- or with another key; 0 where none of them is given
abbrev pub name_refusal : Session → ℕ → ℕ → ℕ
name_refusal s places key = cond (too_long places) 2 (cond (holds s key) 0 10)

-- ---- closing
-- by the number: the place becomes free; a refusal leaves the list as it was
abbrev pub ClosedBy : ℕ → List Session → ℕ → ℕ → List Session → Type 0
ClosedBy zero ss place number after = (number ≡ 0) × (after ≡ set ss place blank)
ClosedBy (suc refusal) ss place number after = (number ≡ suc refusal) × (after ≡ ss)

-- every request: the list, place and key; the number, and the list after it
abbrev pub CloseCall : List Session → ℕ → ℕ → ℕ → List Session → Type 0
CloseCall ss place key number after = ClosedBy (name_refusal (standing ss place) (length ss) key) ss place number after

-- ---- paging
-- what a call brings: n, profile, most
abbrev pub brought : ℕ → ℕ → ℕ → Brought
brought n profile most = record { n = n; profile = profile; most = most }

-- the page that is asked of a session: direction and cursor are the session's
abbrev pub request_of : Session → Brought → PageRequest
request_of s a = page_request a.n s.direction a.profile s.position s.context a.most

-- a session with another cursor
abbrev pub moved_to : Session → CursorNumbers → Session
moved_to s c = record { used = s.used; key = s.key; position = c.position; context = c.context; capture = s.capture; direction = s.direction }

-- by the number: the page that document 01 gives at the session's cursor, and the session stores the cursor that it answers; a refusal answers zeros, and
-- buffer and list stand
abbrev pub SessionPagedBy : ℕ → List Session → ℕ → List ℕ → Brought → List ℕ → Answer → List ℕ → List Session → Type 0
SessionPagedBy zero ss place capture b buffer a after later =
    PageCall capture (request_of (standing ss place) b) buffer a after
    × (later ≡ set ss place (moved_to (standing ss place) (next a)))
SessionPagedBy (suc number) ss place capture b buffer a after later = (a ≡ refused (suc number) zeros) × (after ≡ buffer) × (later ≡ ss)

-- every request: the list, place and key, the capture's bytes, what is brought besides, the buffer; the answer, and buffer and list after it
abbrev pub SessionPageCall : List Session → ℕ → ℕ → List ℕ → Brought → List ℕ → Answer → List ℕ → List Session → Type 0
SessionPageCall ss place key capture b buffer a after later =
    SessionPagedBy (name_refusal (standing ss place) (length ss) key) ss place capture b buffer a after later

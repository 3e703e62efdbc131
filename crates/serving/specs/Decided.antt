-- What the calls on sessions decide, by what stands at a place.
-- Assumes nothing.
use Rattle.std.specs.Prelude.{◌≡◌, List, ℕ, zero, suc, Result, Ok, Some}
use Rattle.sessions.specs.declared.Session.{Session}
use Rattle.sessions.specs.declared.Found.{Found}
use Rattle.sessions.specs.Sessions.{blank}
use Rattle.call.specs.declared.Refusal.{Refusal}
use Rattle.call.specs.Call.{next, number_in}
use Rattle.paging.specs.Paging.{PageCall}
use Rattle.serving.specs.declared.Opening.{Opening}
use Rattle.serving.specs.declared.Brought.{Brought}
use Rattle.serving.specs.declared.Paged.{Paged}
use Rattle.serving.specs.Serving.{open_refusal, new_session, name_refusal, request_of, moved_to}

-- opening: the number that refuses it, or the place found free, and the session that it stores there
abbrev pub OpeningBy : ℕ → Found → Session → Result Opening Refusal → Type 0
OpeningBy zero found new d = (place : ℕ) × (found.free ≡ Some place) × (d ≡ Ok (record { place = place; session = new }))
OpeningBy (suc number) found new d = number_in d ≡ suc number

abbrev pub OpeningOf : Found → ℕ → ℕ → ℕ → ℕ → Result Opening Refusal → Type 0
OpeningOf found places key capture direction d = OpeningBy (open_refusal found places direction) found (new_session key capture direction) d

-- closing: the number that refuses it, or what is left at the place
abbrev pub ClosingBy : ℕ → Result Session Refusal → Type 0
ClosingBy zero d = d ≡ Ok blank
ClosingBy (suc number) d = number_in d ≡ suc number

abbrev pub ClosingOf : Session → ℕ → ℕ → Result Session Refusal → Type 0
ClosingOf s places key d = ClosingBy (name_refusal s places key) d

-- paging: the number that refuses it, and the buffer stands, or the session with the cursor that is answered, and the page
abbrev pub PagedAtBy : ℕ → Session → List ℕ → Brought → List ℕ → Result Paged Refusal → List ℕ → Type 0
PagedAtBy zero s capture b buffer d after =
    (p : Paged) × (d ≡ Ok p) × PageCall capture (request_of s b) buffer p.answer after × (p.session ≡ moved_to s (next p.answer))
PagedAtBy (suc number) s capture b buffer d after = (number_in d ≡ suc number) × (after ≡ buffer)

abbrev pub PagedAt : Session → ℕ → ℕ → List ℕ → Brought → List ℕ → Result Paged Refusal → List ℕ → Type 0
PagedAt s places key capture b buffer d after = PagedAtBy (name_refusal s places key) s capture b buffer d after

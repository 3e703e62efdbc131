-- Demand 3, read per session: the pages of a session from its opening to the end, joined, are the records of the one reading.
-- Assumes nothing.
use mathlib.Core.Path.{◌≡◌, sym, ◌∙◌, ap, subst}
use mathlib.Core.List.{List, [], ◌∷◌}
use Prim.Native.Nat.{ℕ}
use lib.ListN.{length}
use Rattle.reading.specs.Reading.{Item, Reading}
use Rattle.channel.specs.Frames.{Frame, rules}
use Rattle.channel.specs.Record.{records}
use Rattle.call.specs.declared.CursorNumbers.{CursorNumbers}
use Rattle.call.specs.Call.{cursor_by, next, page_request}
use Rattle.paging.specs.Paging.{PageCall}
use Rattle.paging.specs.Harvest.{Harvest, harvested, counted}
use Rattle.paging.proofs.HarvestLaws.{capture_by, harvest_is}
use Rattle.sessions.specs.declared.Session.{Session}
use Rattle.serving.specs.declared.Opened.{Opened}
use Rattle.serving.specs.Serving.{new_session, OpenCall, standing, moved_to, zeros}
use Rattle.isolation.specs.Isolation.{Visit, Turn, Happened, Others, visits, Alone, Steady, asked_by, terms_with}
use Rattle.isolation.proofs.IsolationLaws.{as_alone}

abbrev cursor_in : Session → CursorNumbers
cursor_in s = record { position = s.position; context = s.context }

-- pages of a session with nobody else there, of one capture, n and profile, none refused, the last cursor at n, are a harvest
pub alone_harvest : (capture : List ℕ) (n profile : ℕ) (vs : List Visit) (s after : Session) → Alone s vs after → Steady capture n profile vs → after.position ≡ n
    → Harvest capture n (terms_with s.direction profile) (cursor_in s) (asked_by vs)
alone_harvest capture n profile [] s after e st at = ap (λ (z : Session). z.position) (sym e) ∙ at
alone_harvest capture n profile (v ∷ vs) s after (call, alone) (c, m, f, z, st) at = (
  (
    subst (λ (bytes : List ℕ). Asks bytes n profile) c
        (subst (λ (bits : ℕ). Asks v.ask.capture bits profile) m
        (subst (λ (byte : ℕ). Asks v.ask.capture v.ask.brought.n byte) f call)),
    z,
  ),
  alone_harvest capture n profile vs (moved_to s (next v.answer)) after alone st at,
)
  where
    Asks : List ℕ → ℕ → ℕ → Type 0
    Asks bytes bits byte = PageCall bytes (page_request bits s.direction byte s.position s.context v.ask.brought.most) v.ask.buffer v.answer v.after

-- so it is of a session from its opening to the end, whatever other keys do: the pages joined are the records of the one reading, and the items counted are
-- its items
pub session_is : (ss opened after : List Session) (key number direction : ℕ) (a : Opened) (ts : List Turn) (capture : List ℕ) (n profile : ℕ) (xs : List (Item Frame))
    → OpenCall ss key number direction a opened → a.number ≡ 0 → Others key ts → Happened a.place key opened ts after
    → Steady capture n profile (visits ts) → (standing after a.place).position ≡ n → Reading rules (capture_by capture n (terms_with direction profile)) (cursor_by zeros) xs
    → (harvested (asked_by (visits ts)) ≡ records xs) × (counted (asked_by (visits ts)) ≡ length xs)
session_is ss opened after key number direction a ts capture n profile xs call z os happened st at =
    harvest_is capture n (terms_with direction profile) zeros (asked_by (visits ts)) xs
    (alone_harvest capture n profile (visits ts) (new_session key number direction) (standing after a.place)
    (as_alone ss opened after key number direction a ts call z os happened) st at)

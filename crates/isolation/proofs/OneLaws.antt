-- The calls on sessions: no second answer fits, and a refusal changes nothing that is lent.
-- Assumes nothing.
use mathlib.Core.Path.{◌≡◌, refl, sym, ◌∙◌, ap}
use mathlib.Core.Bool.{Bool, true, false, cond}
use mathlib.Core.List.{List, [], ◌∷◌, ◌++◌}
use Prim.Native.Nat.{ℕ, zero, suc}
use lib.ListN.{length, drop, set}
use lib.Seq.{set-get_or}
use Rattle.reading.specs.Reading.{Item, over_all}
use Rattle.reading.specs.Paging.{first_left}
use Rattle.channel.proofs.BoolLaws.{never}
use Rattle.channel.specs.Frames.{Capture, Frame, rules}
use Rattle.channel.specs.Record.{record_of, records}
use Rattle.call.specs.declared.Answer.{Answer}
use Rattle.call.specs.declared.CursorNumbers.{CursorNumbers}
use Rattle.call.specs.declared.PageRequest.{PageRequest}
use Rattle.call.specs.Call.{cursor_by, next, answered_by, refused}
use Rattle.refusal.specs.Refusal.{page_refusal}
use Rattle.paging.specs.Paging.{PagedBy, PageCall}
use Rattle.paging.proofs.HarvestLaws.{capture_by, answer-one}
use Rattle.sessions.specs.declared.Session.{Session}
use Rattle.sessions.specs.Sessions.{blank, found_in}
use Rattle.serving.specs.declared.Opened.{Opened}
use Rattle.serving.specs.declared.Brought.{Brought}
use Rattle.serving.specs.Serving.{open_refusal, new_session, OpenedBy, OpenCall, standing, name_refusal, ClosedBy, CloseCall, request_of, moved_to, SessionPagedBy, SessionPageCall}

-- ---- opening
module _ (ss : List Session) (key capture direction : ℕ) where
  -- no second answer, and no second list, fits a request
  pub open_one : (a b : Opened) (after later : List Session) → OpenCall ss key capture direction a after → OpenCall ss key capture direction b later → (a ≡ b) × (after ≡ later)
  open_one a b after later = go (open_refusal (found_in ss key) (length ss) direction)
    where
      go : (number : ℕ) → OpenedBy number ss (new_session key capture direction) a after → OpenedBy number ss (new_session key capture direction) b later → (a ≡ b) × (after ≡ later)
      go zero x y = (x.0 ∙ sym y.0, x.1 ∙ sym y.1)
      go (suc number) x y = (x.0 ∙ sym y.0, x.1 ∙ sym y.1)

  -- a refusal leaves the list
  pub open_stands : (a : Opened) (after : List Session) → OpenCall ss key capture direction a after → (a.number ≡ 0 → ⊥) → after ≡ ss
  open_stands a after = go (open_refusal (found_in ss key) (length ss) direction)
    where
      go : (number : ℕ) → OpenedBy number ss (new_session key capture direction) a after → (a.number ≡ 0 → ⊥) → after ≡ ss
      go zero x h = absurd (h (ap (λ (o : Opened). o.number) x.0))
      go (suc number) x h = x.1

-- ---- closing
module _ (ss : List Session) (place key : ℕ) where
  pub close_one : (m n : ℕ) (after later : List Session) → CloseCall ss place key m after → CloseCall ss place key n later → (m ≡ n) × (after ≡ later)
  close_one m n after later = go (name_refusal (standing ss place) (length ss) key)
    where
      go : (number : ℕ) → ClosedBy number ss place m after → ClosedBy number ss place n later → (m ≡ n) × (after ≡ later)
      go zero x y = (x.0 ∙ sym y.0, x.1 ∙ sym y.1)
      go (suc number) x y = (x.0 ∙ sym y.0, x.1 ∙ sym y.1)

  pub close_stands : (n : ℕ) (after : List Session) → CloseCall ss place key n after → (n ≡ 0 → ⊥) → after ≡ ss
  close_stands n after = go (name_refusal (standing ss place) (length ss) key)
    where
      go : (number : ℕ) → ClosedBy number ss place n after → (n ≡ 0 → ⊥) → after ≡ ss
      go zero x h = absurd (h x.0)
      go (suc number) x h = x.1

-- ---- paging
-- a page that document 01 refuses answers the cursor as given, and leaves the buffer
page-stands : (capture : List ℕ) (r : PageRequest) (buffer : List ℕ) (a : Answer) (after : List ℕ) → PageCall capture r buffer a after → (a.number ≡ 0 → ⊥)
    → (next a ≡ r.cursor) × (after ≡ buffer)
page-stands capture r buffer a after = go (page_refusal (length capture) r)
  where
    w : Capture
    w = capture_by capture r.n r.terms

    -- number 4 is of a page without an item
    none : (xs : List (Item Frame)) (b : Bool) → first_left rules record_of w (cursor_by r.cursor) xs ≡ b
        → a ≡ cond b (refused 4 r.cursor) (answered_by (length xs) (length (records xs)) (over_all rules (cursor_by r.cursor) xs)) → after ≡ records xs ++ drop (length (records xs)) buffer
        → (a.number ≡ 0 → ⊥) → (next a ≡ r.cursor) × (after ≡ buffer)
    none xs false f e q h = absurd (h (ap (λ (b : Answer). b.number) e))
    none [] true f e q h = (ap next e, q)
    none (x ∷ xs) true f e q h = absurd (never (sym f))

    go : (number : ℕ) → PagedBy rules record_of number w r.cursor r.most buffer a after → (a.number ≡ 0 → ⊥) → (next a ≡ r.cursor) × (after ≡ buffer)
    go zero (xs, p, e, q) h = none xs (first_left rules record_of w (cursor_by r.cursor) xs) refl e q h
    go (suc number) (e, q) h = (ap next e, q)

module _ (ss : List Session) (place key : ℕ) (capture : List ℕ) (brought : Brought) (buffer : List ℕ) where
  pub page-one : (a b : Answer) (x y : List ℕ) (after later : List Session) → SessionPageCall ss place key capture brought buffer a x after → SessionPageCall ss place key capture brought buffer b y later
      → (a ≡ b) × (x ≡ y) × (after ≡ later)
  page-one a b x y after later = go (name_refusal (standing ss place) (length ss) key)
    where
      go : (number : ℕ) → SessionPagedBy number ss place capture brought buffer a x after → SessionPagedBy number ss place capture brought buffer b y later → (a ≡ b) × (x ≡ y) × (after ≡ later)
      go zero (p, e) (q, f) =
          let one = answer-one capture (request_of (standing ss place) brought) buffer a b x y p q in
          (one.0, one.1, e ∙ ap (λ (c : Answer). set ss place (moved_to (standing ss place) (next c))) one.0 ∙ sym f)
      go (suc number) (p, e, l) (q, f, m) = (p ∙ sym q, e ∙ sym f, l ∙ sym m)

  pub session_page_stands : (a : Answer) (x : List ℕ) (after : List Session) → SessionPageCall ss place key capture brought buffer a x after → (a.number ≡ 0 → ⊥) → (x ≡ buffer) × (after ≡ ss)
  session_page_stands a x after = go (name_refusal (standing ss place) (length ss) key)
    where
      go : (number : ℕ) → SessionPagedBy number ss place capture brought buffer a x after → (a.number ≡ 0 → ⊥) → (x ≡ buffer) × (after ≡ ss)
      go zero (p, e) h =
          let stood = page-stands capture (request_of (standing ss place) brought) buffer a x p h in
          (stood.1, e ∙ ap (λ (c : CursorNumbers). set ss place (moved_to (standing ss place) c)) stood.0 ∙ set-get_or ss place blank)
      go (suc number) (p, e, l) h = (e, l)

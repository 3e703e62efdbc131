-- A place that a key holds stands as it is through every call of another key; through a page of its own it goes on to the cursor answered.
-- Assumes nothing.
use mathlib.Core.Path.{◌≡◌, refl, sym, ◌∙◌, ap, subst}
use mathlib.Core.Bool.{true}
use mathlib.Core.List.{List}
use Prim.Native.Nat.{ℕ, zero, suc}
use native.Mathlib.Omega.{arith}
use lib.ListN.{length, set, length-set}
use lib.Seq.{get_or-set_same, get_or-set_other}
use Rattle.channel.proofs.BoolLaws.{never}
use Rattle.sessions.specs.declared.Session.{Session}
use Rattle.sessions.specs.Sessions.{blank, is_free, holds, free_at, found_in}
use Rattle.call.specs.Call.{next}
use Rattle.paging.specs.Paging.{PageCall}
use Rattle.serving.specs.Serving.{open_refusal, new_session, OpenedBy, standing, name_refusal, ClosedBy, request_of, moved_to, SessionPagedBy}
use Rattle.isolation.specs.Isolation.{Visit, Call, opens, pages, closes, key_of, Made}
use Rattle.isolation.specs.Held.{Holds}
use Rattle.isolation.proofs.PlaceLaws.{free-is, held-taken, held_key, held-within, name_passed, name-taken}

-- what stands at a place, in a list as long
abbrev pub Stands : List Session → ℕ → Session → List Session → Type 0
Stands ss place s after = (standing after place ≡ s) × (length after ≡ length ss)

module _ (ss : List Session) (place key : ℕ) (h : Holds ss place key) where
  -- a store at another place
  elsewhere : (i : ℕ) (s : Session) (after : List Session) → (i ≡ place → ⊥) → after ≡ set ss i s → Stands ss place (standing ss place) after
  elsewhere i s after ne e =
      subst (λ (l : List Session). Stands ss place (standing ss place) l) (sym e)
      (get_or-set_other ss i place s blank (λ p. ne (sym p)), length-set ss i s)

  unmoved : (after : List Session) → after ≡ ss → Stands ss place (standing ss place) after
  unmoved after e = subst (λ (l : List Session). Stands ss place (standing ss place) l) (sym e) (refl, refl)

  -- a free place is another
  free_other : (i : ℕ) → is_free (standing ss i) ≡ true → i ≡ place → ⊥
  free_other i f e = never (sym f ∙ ap (λ (j : ℕ). is_free (standing ss j)) e ∙ held-taken (standing ss place) key h.held)

  -- a place that another key holds is another
  held-other : (i k : ℕ) → (k ≡ key → ⊥) → name_refusal (standing ss i) (length ss) k ≡ 0 → i ≡ place → ⊥
  held-other i k ne e at =
      ne
      (sym (held_key (standing ss i) k (name_passed (standing ss i) (length ss) k e).1)
      ∙ ap (λ (j : ℕ). (standing ss j).key) at
      ∙ held_key (standing ss place) key h.held)

  -- a call of another key
  pub call_keeps : (c : Call) (after : List Session) → (key_of c ≡ key → ⊥) → Made ss c after → Stands ss place (standing ss place) after
  call_keeps (opens k capture direction a) after ne made = go (open_refusal (found_in ss k) (length ss) direction) made
    where
      go : (number : ℕ) → OpenedBy number ss (new_session k capture direction) a after → Stands ss place (standing ss place) after
      go zero x = elsewhere (free_at ss) (new_session k capture direction) after (free_other (free_at ss) (free-is ss)) x.1
      go (suc number) x = unmoved after x.1
  call_keeps (pages i k v) after ne made = go (name_refusal (standing ss i) (length ss) k) refl made
    where
      go : (number : ℕ) → name_refusal (standing ss i) (length ss) k ≡ number → SessionPagedBy number ss i v.ask.capture v.ask.brought v.ask.buffer v.answer v.after after
          → Stands ss place (standing ss place) after
      go zero e x = elsewhere i (moved_to (standing ss i) (next v.answer)) after (held-other i k ne e) x.1
      go (suc number) e x = unmoved after x.2
  call_keeps (closes i k n) after ne made = go (name_refusal (standing ss i) (length ss) k) refl made
    where
      go : (number : ℕ) → name_refusal (standing ss i) (length ss) k ≡ number → ClosedBy number ss i n after → Stands ss place (standing ss place) after
      go zero e x = elsewhere i blank after (held-other i k ne e) x.1
      go (suc number) e x = unmoved after x.1

  -- a page of its own
  pub page_goes : (v : Visit) (after : List Session) → Made ss (pages place key v) after
      → PageCall v.ask.capture (request_of (standing ss place) v.ask.brought) v.ask.buffer v.answer v.after
      × Stands ss place (moved_to (standing ss place) (next v.answer)) after
  page_goes v after made =
      let (call, e) = subst (λ (k : ℕ). SessionPagedBy k ss place v.ask.capture v.ask.brought v.ask.buffer v.answer v.after after) (name-taken ss place key h) made in
      let moved = moved_to (standing ss place) (next v.answer) in (
        call,
        subst (λ (l : List Session). Stands ss place moved l) (sym e)
            (get_or-set_same ss place moved blank (held-within ss place key h.held), length-set ss place moved),
      )

  -- the key holds the place then
  pub still-holds : (s : Session) (after : List Session) → holds s key ≡ true → Stands ss place s after → Holds after place key
  still-holds s after t (e, l) = record { short = omega (arith, h.short, l); held = ap (λ (z : Session). holds z key) e ∙ t }

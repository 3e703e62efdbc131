-- Places of a list: the lowest free one, and what it is to hold one.
-- Assumes nothing.
use mathlib.Core.Path.{◌≡◌, refl, sym, ◌∙◌, ap}
use mathlib.Core.Bool.{Bool, true, false, cond, not, ◌&&◌, ◌||◌}
use mathlib.Core.List.{List, [], ◌∷◌}
use Prim.Native.Nat.{ℕ, zero, suc, ◌+◌, ◌<◌, ◌≤◌}
use native.Mathlib.Decide.{dec_lt}
use native.Mathlib.Omega.{arith}
use borrow.Author.Tests.{eqb-true, eq-eqb, ne_eqb, lt-ltb, le-ltb, ltb-false}
use Rattle.std.specs.Prelude.{is_none}
use Rattle.std.specs.List.{position}
use Rattle.std.proofs.lemmas.List.Sums.{passes_at_first, fails_before_first}
use lib.Dec.{eqb, ltb}
use lib.ListN.{length, get_or-eq_default}
use Rattle.channel.proofs.BoolLaws.{never}
use Rattle.sessions.specs.declared.Session.{Session}
use Rattle.sessions.specs.Sessions.{blank, is_free, holds, free_at, held_in}
use Rattle.call.proofs.NumberLaws.{passed}
use Rattle.serving.specs.Serving.{standing, name_refusal}
use Rattle.isolation.specs.Held.{Holds}

-- ---- the lowest free place
pub free_le : (ss : List Session) → free_at ss ≤ length ss
free_le [] = omega arith
free_le (s ∷ ss) = go (is_free s) (free_le ss)
  where
    go : (f : Bool) → free_at ss ≤ length ss → cond (not f) (1 + free_at ss) 0 ≤ suc (length ss)
    go true l = omega arith
    go false l = omega arith

-- nothing is found free exactly where it is behind the list
pub none_free : (ss : List Session) → is_none (position is_free ss) ≡ eqb (free_at ss) (length ss)
none_free ss =
    elim (dec_lt (free_at ss) (length ss)) [
      | yes l ↦ rw (lt-ltb (free_at ss) (length ss) l, ne_eqb (free_at ss) (length ss) (λ e. omega arith))
      | no g ↦ let l : length ss ≤ free_at ss = omega arith in rw (le-ltb (free_at ss) (length ss) l, eq-eqb (free_at ss) (length ss) (omega (arith, free_le ss)))
    ]

-- it is free; a place outside the list is as a free one
pub free-is : (ss : List Session) → is_free (standing ss (free_at ss)) ≡ true
free-is ss =
    elim (dec_lt (free_at ss) (length ss)) [
      | yes l ↦ passes_at_first is_free ss blank l
      | no g ↦ ap is_free (get_or-eq_default {A = Session} ss blank (omega arith))
    ]

-- and none below it is
pub taken-below : (ss : List Session) (i : ℕ) → i < free_at ss → is_free (standing ss i) ≡ false
taken-below ss i l = fails_before_first is_free ss i blank l

-- no other place is such
pub lowest_is : (ss : List Session) (place : ℕ) → is_free (standing ss place) ≡ true → ((i : ℕ) → i < place → is_free (standing ss i) ≡ false) → free_at ss ≡ place
lowest_is ss place free below =
    elim (dec_lt (free_at ss) place) [
      | yes l ↦ absurd (never (sym (free-is ss) ∙ below (free_at ss) l))
      | no g ↦
          elim (dec_lt place (free_at ss)) [ yes l ↦ absurd (never (sym free ∙ taken-below ss place l)) | no h ↦ omega arith ]
    ]

-- number 8: every place of the list is taken
pub full_taken : (ss : List Session) → free_at ss ≡ length ss → (i : ℕ) → i < length ss → is_free (standing ss i) ≡ false
full_taken ss full i l = taken-below ss i (omega (arith, full, l))

-- and where one is not, the list is not full
pub not_full : (ss : List Session) (i : ℕ) → i < length ss → is_free (standing ss i) ≡ true → free_at ss < length ss
not_full ss i l free = elim (dec_lt i (free_at ss)) [ yes h ↦ absurd (never (sym free ∙ taken-below ss i h)) | no g ↦ omega arith ]

-- ---- number 9: a taken place has the key
pub held_at : (ss : List Session) (key i : ℕ) → holds (standing ss i) key ≡ true → held_in ss key ≡ true
held_at [] key i h = absurd (never (sym h))
held_at (s ∷ ss) key zero h = rw h
held_at (s ∷ ss) key (suc i) h = or-true (holds s key) (held_in ss key) (held_at ss key i h)
  where
    or-true : (a b : Bool) → b ≡ true → a || b ≡ true
    or-true true b e = refl
    or-true false b e = e

pub held_where : (ss : List Session) (key : ℕ) → held_in ss key ≡ true → (i : ℕ) × (i < length ss) × (holds (standing ss i) key ≡ true)
held_where [] key h = absurd (never (sym h))
held_where (s ∷ ss) key h = go (holds s key) refl h (held_where ss key)
  where
    go : (a : Bool) → holds s key ≡ a → a || held_in ss key ≡ true → (held_in ss key ≡ true → (i : ℕ) × (i < length ss) × (holds (standing ss i) key ≡ true))
        → (i : ℕ) × (i < suc (length ss)) × (holds (standing (s ∷ ss) i) key ≡ true)
    go true e h ih = (0, omega arith, e)
    go false e h ih = let (i, l, held) = ih h in (suc i, omega arith, held)

-- ---- a place that is held
abbrev and-true : (a b : Bool) → not a && b ≡ true → (a ≡ false) × (b ≡ true)
and-true true b e = absurd (never (sym e))
and-true false b e = (refl, e)

module _ (s : Session) (key : ℕ) (h : holds s key ≡ true) where
  pub held-taken : is_free s ≡ false
  held-taken = (and-true (is_free s) (eqb s.key key) h).0

  pub held_key : s.key ≡ key
  held_key = eqb-true s.key key (and-true (is_free s) (eqb s.key key) h).1

-- a place that is held is one of the list
pub held-within : (ss : List Session) (place key : ℕ) → holds (standing ss place) key ≡ true → place < length ss
held-within ss place key h =
    elim (dec_lt place (length ss)) [ yes l ↦ l | no g ↦ absurd (never (sym (ap is_free (get_or-eq_default {A = Session} ss blank (omega arith))) ∙ held-taken (standing ss place) key h)) ]

-- ---- number 2 for the list, and 10
pub name_passed : (s : Session) (places key : ℕ) → name_refusal s places key ≡ 0 → (places ≤ 32) × (holds s key ≡ true)
name_passed s places key e =
    let (a, e₁) = passed (ltb 32 places) 2 _ (omega arith) e in
    (omega (arith, ltb-false 32 places a), go (holds s key) e₁)
  where
    go : (b : Bool) → ◌≡◌ {A = ℕ} (cond b 0 10) 0 → b ≡ true
    go true e = refl
    go false e = absurd (omega arith)

pub name-taken : (ss : List Session) (place key : ℕ) → Holds ss place key → name_refusal (standing ss place) (length ss) key ≡ 0
name-taken ss place key h = rw (le-ltb 32 (length ss) h.short, h.held)

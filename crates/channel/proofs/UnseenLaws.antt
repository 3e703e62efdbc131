-- Bits from n on are never looked at (document 01, "What the library covers"): captures that agree before n have the same reading.
-- Assumes nothing.
use mathlib.Core.Path.{◌≡◌, refl, sym, ◌∙◌}
use mathlib.Core.Logic.{◌⊎◌, inl, inr, by_cases}
use mathlib.Core.Bool.{Bool, false}
use mathlib.Core.List.{List, [], ◌∷◌, ◌++◌}
use Prim.Native.Nat.{ℕ, ◌+◌, ◌<◌}
use native.Mathlib.Omega.{arith}
use native.Mathlib.Decide.{dec_lt}
use Rattle.reading.specs.Reading.{Cursor, Item, gap, frame, Obeys, over, Stretch, Reading, Starts, Leading}
use Rattle.channel.specs.declared.Terms.{Terms}
use Rattle.channel.specs.Kinds.{body_of}
use Rattle.channel.specs.Verdict.{Context}
use Rattle.channel.specs.Frames.{Capture, Frame, Tail, Due, rules}
use Rattle.channel.specs.Growth.{Agree}
use Rattle.channel.proofs.GrowthLaws.{word_same, due_with}

pub agree_back : (n : ℕ) (f g : ℕ → Bool) → Agree n f g → Agree n g f
agree_back n f g h i l = sym (h i l)

module _ (n : ℕ) (t : Terms) where
  abbrev of : (ℕ → Bool) → Capture
  of f = record { bits = f; n = n; terms = t }

  module _ (f g : ℕ → Bool) (same : Agree n f g) where
    tail-same : (q t : ℕ) → Tail (of f) q t → Tail (of g) q t
    tail-same q t h =
        record {
          within = h.within;
          ones = λ i a b. sym (same i (omega (arith, h.within))) ∙ h.ones i a b;
          stops = by_cases (dec_lt (q + t) n) (λ (l : q + t < n). go l h.stops) (λ (l : ¬ (q + t < n)). inl (omega (arith, h.within)));
        }
      where
        go : q + t < n → (q + t ≡ n) ⊎ (f (q + t) ≡ false) → (q + t ≡ n) ⊎ (g (q + t) ≡ false)
        go l (inl e) = inl e
        go l (inr e) = inr (sym (same (q + t) l) ∙ e)

    -- the same frames are due
    pub due-same : (x : Context) (p : ℕ) (h : Frame) → Due (of f) x p h → Due (of g) x p h
    due-same x p h e =
        due_with (of f) (of g) refl x p h h.tail e e.stands.before (word_same n f g same p (body_of h.kind) e.stands.before)
        (tail-same (p + body_of h.kind) h.tail e.stands.tail) e.stands.least

  module _ (f g : ℕ → Bool) (same : Agree n f g) where
    obeys-same : (c : Cursor Context) (x : Item Frame) → Obeys rules (of f) c x → Obeys rules (of g) c x
    obeys-same c (frame h) o = due-same f g same c.context c.position h o
    obeys-same c (gap s l) o =
        record {
          from = o.from;
          filled = o.filled;
          within = o.within;
          stops = stop o.stops;
          none_starts = λ p a b h e. o.none_starts p a b h (due-same g f (agree_back n f g same) 0 p h e);
          none_follows = λ h e. o.none_follows h (due-same g f (agree_back n f g same) c.context s h e);
        }
      where
        stop : (s + l ≡ n) ⊎ ((h : Frame) × Starts rules (of f) (s + l) h) → (s + l ≡ n) ⊎ ((h : Frame) × Starts rules (of g) (s + l) h)
        stop (inl e) = inl e
        stop (inr e) = inr (e.0, due-same f g same 0 (s + l) e.0 e.1)

    stretch-same : (c : Cursor Context) (xs : List (Item Frame)) → Stretch rules (of f) c xs → Stretch rules (of g) c xs
    stretch-same c [] s = tt
    stretch-same c (x ∷ xs) s = (obeys-same c x s.0, stretch-same (over rules c x) xs s.1)

    -- a reading of the one is a reading of the other
    pub reading-same : (c : Cursor Context) (xs : List (Item Frame)) → Reading rules (of f) c xs → Reading rules (of g) c xs
    reading-same c xs r = (stretch-same c xs r.0, r.1)

    pub leading_same : (c : Cursor Context) (xs : List (Item Frame)) → Leading rules (of f) c xs → Leading rules (of g) c xs
    leading_same c xs (ys, r) = (ys, reading-same c (xs ++ ys) r)

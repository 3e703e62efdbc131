-- The search for the end of a gap: what starts a run begins with nine fixed bits, and what is known of the places passed.
-- Assumes nothing.
use mathlib.Core.Path.{◌≡◌, refl, sym, ◌∙◌, subst}
use mathlib.Core.Logic.{inl, inr, by_cases}
use mathlib.Core.Bool.{Bool, true, false, ◌&&◌}
use mathlib.Core.List.{List, [], ◌∷◌}
use Prim.Native.Nat.{ℕ, ◌+◌, ◌*◌, ◌≤◌, ◌<◌}
use native.Mathlib.Omega.{arith}
use native.Mathlib.Decide.{ℕ_discrete, dec_lt}
use borrow.Author.Tests.{eqb-true}
use lib.Dec.{eqb}
use lib.ListN.{get_or}
use Rattle.reading.specs.Reading.{Starts}
use Rattle.sync.specs.Sync.{Synced, SyncFrom}
use Rattle.channel.specs.declared.Pattern.{Pattern}
use Rattle.channel.specs.Kinds.{pattern_of}
use Rattle.channel.specs.Places.{elem, ones_of}
use Rattle.channel.specs.Coding.{all, fixed}
use Rattle.channel.specs.Frames.{Capture, Frame, rules}
use Rattle.channel.proofs.BoolLaws.{never, and_l, and_r, all-at, all-below, one_at}
use Rattle.channel.proofs.FrameLaws.{starts_by_lem, body_low, body-bit, first_zero_lem}
use Rattle.std.specs.Prelude.{Option, Some, None, is_some}
use Rattle.item.specs.declared.Frame as code
use Rattle.item.specs.Item.{frame_of}
use Rattle.reader.specs.Seen.{Seen, Starting, GapEnd}

-- the fixed ones behind the first nine bits
abbrev pub sync : List ℕ
sync = 32 ∷ 48 ∷ 64 ∷ 80 ∷ 96 ∷ 112 ∷ 128 ∷ 144 ∷ []

pub sync-place : (j : ℕ) → j < 8 → get_or sync j 0 ≡ 16 * j + 32
sync-place j h = eqb-true (get_or sync j 0) (16 * j + 32) (all-below 8 (λ j. eqb (get_or sync j 0) (16 * j + 32)) refl j h)

-- a pattern has the one behind its first zeros, and those ones
abbrev synced : Pattern → Bool
synced t = elem 8 (ones_of t) && all (λ i. elem i (ones_of t)) sync

in_sync : (j : ℕ) → j < 8 → elem (get_or sync j 0) sync ≡ true
in_sync = all-below 8 (λ j. elem (get_or sync j 0) sync) refl

module _ (w : Capture) (q : ℕ) where
  -- a frame that starts a run at q begins so
  module _ (f : Frame) (h : Starts rules w q f) where
    holds : fixed f.body (pattern_of f.kind) ≡ true
    holds = and_l _ _ h.stands.holds

    then_ones : synced (pattern_of f.kind) ≡ true
    then_ones = starts_by_lem synced refl refl refl w.terms f.body f.kind h.allows

    one_in : (i : ℕ) → i < 158 → elem i (ones_of (pattern_of f.kind)) ≡ true → w.bits (q + i) ≡ true
    one_in i l e = sym (body-bit w q f h.stands i l) ∙ one_at f.body (pattern_of f.kind) i e holds

    start-synced : Synced w.bits q
    start-synced = record { zeros = first_zero_lem w q f h; one = one_in 8 (omega arith) (and_l _ _ then_ones) }

    start-bit : (j : ℕ) → j < 8 → w.bits (q + get_or sync j 0) ≡ true
    start-bit j l =
        one_in (get_or sync j 0) (omega (arith, sync-place j l))
        (all-at (λ i. elem i (ones_of (pattern_of f.kind))) sync (get_or sync j 0) (in_sync j l) (and_r (elem 8 (ones_of (pattern_of f.kind))) _ then_ones))

    start_fits : q + 158 ≤ w.n
    start_fits = omega (arith, h.stands.before, body_low f.kind)

  -- so nothing starts where one of them differs
  pub none_differs : (j : ℕ) (b : Bool) → j < 8 → b ≡ w.bits (q + get_or sync j 0) → b ≡ false → (f : Frame) → Starts rules w q f → ⊥
  none_differs j b l r t f h = never (sym (r ∙ start-bit f h j l) ∙ t)

  -- nor where the first nine bits do not stand
  pub none-synced : (Synced w.bits q → ⊥) → (f : Frame) → Starts rules w q f → ⊥
  none-synced out f h = out (start-synced f h)

  -- nor where too few bits are left
  pub none-fits : w.n < q + 158 → (f : Frame) → Starts rules w q f → ⊥
  none-fits l f h = omega (arith, start_fits f h)

  -- whether a frame starts a run, by the frame that was seen in context 0
  pub start_seen : (seen : Option code.Frame) → Seen w 0 q seen → Starting w q (is_some seen)
  start_seen (Some f) h = (frame_of f, h.0)
  start_seen None h = h

-- no frame starts a run at the places from `from` to q
abbrev pub Passed : Capture → ℕ → ℕ → Type 0
Passed w from q = (i : ℕ) → from ≤ i → i < q → (f : Frame) → Starts rules w i f → ⊥

module _ (w : Capture) (from q : ℕ) (passed : Passed w from q) where
  -- one place more
  pub passed_more : ((f : Frame) → Starts rules w q f → ⊥) → Passed w from (q + 1)
  passed_more here i a b =
      by_cases (ℕ_discrete q i) (λ (e : q ≡ i). subst (λ (j : ℕ). (f : Frame) → Starts rules w j f → ⊥) e here) (λ (e : ¬ (q ≡ i)). passed i a (omega arith))

  -- the places that were stepped over
  pub passed_over : (last r : ℕ) → SyncFrom w.bits q last r → Passed w from r
  passed_over last r h i a b =
      by_cases (dec_lt i q) (λ (e : i < q). passed i a e) (λ (e : ¬ (i < q)). none-synced w i (h.none i (omega arith) b))

  -- the search ends where a frame starts a run
  pub gap_found : from ≤ q → q ≤ w.n → Starting w q true → GapEnd w from q
  gap_found l m h = record { from = l; within = m; none_starts = passed; stops = inr h }

  -- or at n, where too few bits are left
  pub gap-all : from ≤ q → q ≤ w.n → w.n < q + 158 → GapEnd w from w.n
  gap-all l m few =
      record {
        from = omega arith;
        within = omega arith;
        none_starts = λ i a b. by_cases (dec_lt i q) (λ (e : i < q). passed i a e) (λ (e : ¬ (i < q)). none-fits w i (omega arith));
        stops = inl refl;
      }

-- Frames and the bits that show them: a stretch of frames shows its own bits, and frames taken are a stretch of a capture that shows theirs.
-- Assumes nothing.
use mathlib.Core.Path.{◌≡◌, refl, sym, ◌∙◌, ap, subst, fun_ext}
use mathlib.Core.Logic.{◌⊎◌, inl, inr, by_cases}
use mathlib.Core.Bool.{Bool, true, false, ◌&&◌}
use mathlib.Core.List.{List, [], ◌∷◌, ◌++◌, map}
use Prim.Native.Nat.{ℕ, ◌+◌, ◌-◌, ◌≤◌, ◌<◌}
use native.Mathlib.Nat.{zero-add}
use native.Mathlib.Decide.{dec_lt}
use native.Mathlib.Omega.{arith}
use borrow.Author.Tests.{ltb-true, lt-ltb}
use lib.Dec.{ltb}
use lib.ListN.{length, get_or, replicate, length-append, get_or-append}
use lib.Seq.{get_or-append-add}
use Rattle.reading.specs.Reading.{Cursor, frame, over, over_all, Stretch}
use Rattle.bits.specs.Bit.{count}
use Rattle.put.proofs.PutLaws.{body-length, body-bit, tail-length, tail-bit}
use Rattle.channel.specs.declared.Pattern.{Pattern}
use Rattle.channel.specs.declared.Pattern.TheVariants.{Hr, Low, P670, P740}
use Rattle.channel.specs.Places.{elem, zeros_of}
use Rattle.channel.specs.Kinds.{pattern_of, body_of, least_tail}
use Rattle.channel.specs.Coding.{Word, word_at}
use Rattle.channel.specs.Verdict.{Context}
use Rattle.channel.specs.Frames.{Capture, Frame, Stands, behind, rules}
use Rattle.channel.proofs.BoolLaws.{ands, zero-at}
use Rattle.channel.proofs.FrameLaws.{body_low}
use Rattle.channel.specs.Sound.{FitFrame}
use Rattle.taken.specs.Taken.{items, Taken}
use Rattle.taken.proofs.TakeLaws.{passes}
use Rattle.putting.specs.FrameBits.{bits_of, all_bits}
use Rattle.putting.proofs.FrameLaws.{length-bits, taken-length}

-- from p on stand these bits
abbrev pub Shows : (ℕ → Bool) → ℕ → List Bool → Type 0
Shows g p bs = (k : ℕ) → k < length bs → g (p + k) ≡ get_or bs k false

module _ (g : ℕ → Bool) (p : ℕ) (xs ys : List Bool) where
  shows_front : Shows g p (xs ++ ys) → Shows g p xs
  shows_front s k h = s k (omega (arith, length-append xs ys)) ∙ get_or-append xs ys false k h

  shows_rest : (q : ℕ) → p + length xs ≡ q → Shows g p (xs ++ ys) → Shows g q ys
  shows_rest q e s k h =
      let r : q + k ≡ p + (length xs + k) = omega arith in
      ap g r ∙ s (length xs + k) (omega (arith, length-append xs ys)) ∙ get_or-append-add xs ys k false

  shows_both : (q : ℕ) → p + length xs ≡ q → Shows g p xs → Shows g q ys → Shows g p (xs ++ ys)
  shows_both q e s t k h =
      by_cases (dec_lt k (length xs))
      (λ (l : k < length xs). s k l ∙ sym (get_or-append xs ys false k l))
      (λ (l : ¬ (k < length xs)).
      let r : p + k ≡ q + (k - length xs) = omega arith in
      let u : length xs + (k - length xs) ≡ k = omega arith in
      ap g r ∙ t (k - length xs) (omega (arith, length-append xs ys)) ∙ sym (get_or-append-add xs ys (k - length xs) false) ∙ ap (λ (n : ℕ). get_or (xs ++ ys) n false) u)

abbrev body_bits : Frame → List Bool
body_bits f = map f.body (count (body_of f.kind) 0)

abbrev tail_bits : Frame → List Bool
tail_bits f = replicate f.tail true

module _ (w : Capture) (p : ℕ) (f : Frame) where
  body-ends : p + length (body_bits f) ≡ p + body_of f.kind
  body-ends = ap (λ (k : ℕ). p + k) (body-length f.body (body_of f.kind))

  -- a frame that stands at a place shows its bits there
  stands_shows : Stands w p f → Shows w.bits p (bits_of f)
  stands_shows s = shows_both w.bits p (body_bits f) (tail_bits f) (p + body_of f.kind) body-ends body ones
    where
      body : Shows w.bits p (body_bits f)
      body k h =
          let l : k < body_of f.kind = omega (arith, body-length f.body (body_of f.kind)) in
          let e : word_at w.bits p (body_of f.kind) k ≡ w.bits (p + k) = rw (lt-ltb k (body_of f.kind) l) in
          sym e ∙ ap (λ (g : Word). g k) (sym s.bits) ∙ sym (body-bit f.body (body_of f.kind) k l)

      ones : Shows w.bits (p + body_of f.kind) (tail_bits f)
      ones k h =
          let l : k < f.tail = omega (arith, tail-length f.tail) in
          s.tail.ones (p + body_of f.kind + k) (omega arith) (omega arith) ∙ sym (tail-bit f.tail k l)

  -- a frame whose bits are shown at a place, before n and before n or a zero, stands there
  shown_stands : FitFrame w.terms f → least_tail w.terms.direction f.kind ≤ f.tail → f.start ≡ p → Shows w.bits p (bits_of f)
      → p + body_of f.kind + f.tail ≤ w.n → (p + body_of f.kind + f.tail ≡ w.n) ⊎ (w.bits (p + body_of f.kind + f.tail) ≡ false) → Stands w p f
  shown_stands fit least at s inside stops =
      record {
        at = at;
        before = omega arith;
        bits = fit.cut ∙ fun_ext (λ i. body i (ltb i (body_of f.kind)) refl);
        holds = fit.holds;
        tail = record { within = inside; ones = ones; stops = stops };
        least = least;
      }
    where
      body : (i : ℕ) (t : Bool) → ltb i (body_of f.kind) ≡ t → t && f.body (0 + i) ≡ t && w.bits (p + i)
      body i false e = refl
      body i true e =
          let l = ltb-true i (body_of f.kind) e in
          ap f.body (zero-add i) ∙ sym (body-bit f.body (body_of f.kind) i l)
          ∙ sym (shows_front w.bits p (body_bits f) (tail_bits f) s i (omega (arith, body-length f.body (body_of f.kind))))

      ones : (i : ℕ) → p + body_of f.kind ≤ i → i < p + body_of f.kind + f.tail → w.bits i ≡ true
      ones i l h =
          let k : ℕ = i - (p + body_of f.kind) in
          let e : i ≡ p + body_of f.kind + k = omega arith in
          let m : k < f.tail = omega arith in
          ap w.bits e ∙ shows_rest w.bits p (body_bits f) (tail_bits f) (p + body_of f.kind) body-ends s k (omega (arith, tail-length f.tail)) ∙ tail-bit f.tail k m

  -- the place behind a frame that stands at p
  frame-ends : f.start ≡ p → p + length (bits_of f) ≡ behind f
  frame-ends at = omega (arith, length-bits f)

-- the first bit of every pattern is a fixed zero
first_zero_lem : (t : Pattern) → elem 0 (zeros_of t) ≡ true
first_zero_lem Hr = refl
first_zero_lem Low = refl
first_zero_lem P670 = refl
first_zero_lem P740 = refl

module _ (w : Capture) where
  -- a stretch of frames shows their bits, from the cursor on
  pub stretch_shows : (c : Cursor Context) (fs : List Frame) → Stretch rules w c (items fs) → Shows w.bits c.position (all_bits fs)
  stretch_shows c [] s = λ k (h : k < 0). absurd (omega arith)
  stretch_shows c (f ∷ fs) s =
      shows_both w.bits c.position (bits_of f) (all_bits fs) (behind f) (frame-ends w c.position f s.0.stands.at)
      (stands_shows w c.position f s.0.stands)
      (stretch_shows (over rules c (frame f)) fs s.1)

  module _ (bits : ℕ) where
    -- n is reached, or the next frame begins with a zero
    next-stops : (c : Cursor Context) (bytes : List ℕ) (fs : List Frame) (left : List ℕ) → Taken w.terms bits c bytes fs left → Shows w.bits c.position (all_bits fs)
        → (over_all rules c (items fs)).position ≡ w.n → (c.position ≡ w.n) ⊎ (w.bits c.position ≡ false)
    next-stops c bytes [] left t s e = inl e
    next-stops c bytes (f ∷ fs) left (r, h, z, t) s e =
        let l : 0 < body_of f.kind = omega (arith, body_low f.kind) in
        let p : c.position ≡ c.position + 0 = omega arith in
        let body = shows_front w.bits c.position (body_bits f) (tail_bits f) (shows_front w.bits c.position (bits_of f) (all_bits fs) s) in
        inr
        (ap w.bits p ∙ body 0 (omega (arith, body-length f.body (body_of f.kind))) ∙ body-bit f.body (body_of f.kind) 0 l
        ∙ zero-at f.body (pattern_of f.kind) 0 (first_zero_lem (pattern_of f.kind)) (let i = h.fit.holds in search ands))

    -- frames taken are a stretch of a capture that shows their bits from the cursor on, and no more
    pub taken-stretch : (c : Cursor Context) (bytes : List ℕ) (fs : List Frame) (left : List ℕ) → Taken w.terms bits c bytes fs left → Shows w.bits c.position (all_bits fs)
        → (over_all rules c (items fs)).position ≡ w.n → Stretch rules w c (items fs)
    taken-stretch c bytes [] left t s e = tt
    taken-stretch c bytes (f ∷ fs) left (r, h, z, t) s e =
        let p = passes w.terms bits c f z in
        let rest = shows_rest w.bits c.position (bits_of f) (all_bits fs) (behind f) (frame-ends w c.position f p.at) s in
        let stops = next-stops (over rules c (frame f)) r fs left t rest e in
        let m = taken-length w.terms bits (over rules c (frame f)) r fs left t in
        let stands =
        shown_stands w f.start f h.fit h.least refl
        (subst (λ (q : ℕ). Shows w.bits q (bits_of f)) (sym p.at) (shows_front w.bits c.position (bits_of f) (all_bits fs) s)) (omega arith) stops in
        (record { stands = subst (λ (q : ℕ). Stands w q f) p.at stands; allows = p.allows; judged = p.judged }, taken-stretch (over rules c (frame f)) r fs left t rest e)

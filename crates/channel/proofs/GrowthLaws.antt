-- Captures that still grow (document 02, Ask 2): all items of the old reading but its last are the first items of the new one.
-- Assumes nothing.
use mathlib.Core.Path.{◌≡◌, refl, sym, ◌∙◌, ap, subst, fun_ext}
use mathlib.Core.Logic.{◌⊎◌, inl, inr, by_cases}
use mathlib.Core.Bool.{Bool, true, false, ◌&&◌}
use mathlib.Core.List.{List, ◌++◌}
use Prim.Native.Nat.{ℕ, ◌+◌, ◌≤◌, ◌<◌}
use native.Mathlib.Omega.{arith}
use native.Mathlib.Decide.{dec_lt}
use borrow.Author.Tests.{ltb-true}
use lib.Dec.{ltb}
use Rattle.reading.specs.Reading.{Cursor, Item, Starts, over_all, Reading, AllBut}
use Rattle.reading.proofs.GrowthLaws.{Keeps, Grows, grows_keeps, begins_grown}
use Rattle.channel.specs.declared.Pattern.{Pattern}
use Rattle.channel.specs.declared.Pattern.TheVariants.{Hr, Low, P670, P740}
use Rattle.channel.specs.declared.Terms.{Terms}
use Rattle.channel.specs.Kinds.{pattern_of, body_of, least_tail}
use Rattle.channel.specs.Coding.{Word, word_at, fixed, is_body}
use Rattle.channel.specs.Verdict.{Context, verdict_of, allowed}
use Rattle.channel.specs.Frames.{Capture, Frame, Tail, Due, behind, rules}
use Rattle.channel.specs.Growth.{Agree, Grown, unsettled}
use Rattle.channel.proofs.BoolLaws.{never, and_l, one_at}
use Rattle.channel.proofs.TailLaws.{tail-whole, ones_in}
use Rattle.channel.proofs.FrameLaws.{tail_at, body_low, least_high, body-bit, first_zero_lem, sound}

-- words of bits that agree are the same
pub word_same : (n : ℕ) (f g : ℕ → Bool) → Agree n f g → (p b : ℕ) → p + b ≤ n → word_at f p b ≡ word_at g p b
word_same n f g same p b h = fun_ext (λ i. go i (ltb i b) refl)
  where
    go : (i : ℕ) (t : Bool) → ltb i b ≡ t → t && f (p + i) ≡ t && g (p + i)
    go i false e = refl
    go i true e = let l : i < b = ltb-true i b e in same (p + i) (omega arith)

-- a frame with another tail
abbrev pub tailed : Frame → ℕ → Frame
tailed f t = record { kind = f.kind; start = f.start; body = f.body; tail = t; verdict = f.verdict }

-- a frame of one capture is due in another on the same terms that has its body, with the tail that it has there
pub due_with : (w v : Capture) → w.terms ≡ v.terms → (x : Context) (p : ℕ) (f : Frame) (t : ℕ) → Due w x p f → p + body_of f.kind ≤ v.n
    → word_at w.bits p (body_of f.kind) ≡ word_at v.bits p (body_of f.kind) → Tail v (p + body_of f.kind) t → least_tail w.terms.direction f.kind ≤ t → Due v x p (tailed f t)
due_with w v e x p f t d before same whole least =
    record {
      stands =
          record {
            at = d.stands.at;
            before = before;
            bits = d.stands.bits ∙ same;
            holds = subst (λ (a : Terms). is_body a.direction f.body f.kind ≡ true) e d.stands.holds;
            tail = whole;
            least = subst (λ (a : Terms). least_tail a.direction f.kind ≤ t) e least;
          };
      allows = subst (λ (a : Terms). allowed a x f.body f.kind ≡ true) e d.allows;
      judged = d.judged ∙ ap (λ (a : Terms). verdict_of a x f.body f.kind) e;
    }

-- every pattern has a one in its ninth place, or in its third
early_one : (g : Word) (t : Pattern) → fixed g t ≡ true → (g 8 ≡ true) ⊎ (g 2 ≡ true)
early_one g Hr h = inl (one_at g Hr 8 refl h)
early_one g Low h = inl (one_at g Low 8 refl h)
early_one g P670 h = inl (one_at g P670 8 refl h)
early_one g P740 h = inr (one_at g P740 2 refl h)

module _ (w v : Capture) (G : Grown w v) where
  -- a tail that ends before the old n is whole in the new capture too
  tail-firm : (q t : ℕ) → Tail w q t → q + t < w.n → Tail v q t
  tail-firm q t h l = record { within = omega (arith, G.more); ones = λ i a b. sym (G.same i (omega arith)) ∙ h.ones i a b; stops = go h.stops }
    where
      go : (q + t ≡ w.n) ⊎ (w.bits (q + t) ≡ false) → (q + t ≡ v.n) ⊎ (v.bits (q + t) ≡ false)
      go (inl e) = absurd (omega arith)
      go (inr e) = inr (sym (G.same (q + t) l) ∙ e)

  module _ (x : Context) (p : ℕ) where
    -- where a frame was due one of its kind is, with a tail no shorter
    pub due-stays : (f : Frame) → Due w x p f → Due v x p (tailed f (tail_at v p f.kind))
    due-stays f d =
        let q = p + body_of f.kind in
        let before : q ≤ v.n = omega (arith, d.stands.before, G.more) in
        let whole : Tail v q (tail_at v p f.kind) = tail-whole v q before in
        due_with w v G.terms x p f (tail_at v p f.kind) d before (word_same w.n w.bits v.bits G.same p (body_of f.kind) d.stands.before) whole
        (omega (
          arith,
          d.stands.least,
          ones_in v q (tail_at v p f.kind) f.tail whole (omega (arith, d.stands.tail.within, G.more))
              (λ i a b. sym (G.same i (omega (arith, d.stands.tail.within))) ∙ d.stands.tail.ones i a b),
        ))

    -- and where it ended before the old n it is the same
    due-firm : (f : Frame) → Due w x p f → behind f < w.n → Due v x p f
    due-firm f d l =
        let q = p + body_of f.kind in
        due_with w v G.terms x p f f.tail d (omega (arith, d.stands.before, G.more)) (word_same w.n w.bits v.bits G.same p (body_of f.kind) d.stands.before)
        (tail-firm q f.tail d.stands.tail (omega (arith, d.stands.at))) d.stands.least

    -- a frame that is due was, if the old capture had room for the least of its kind
    due-back : (f : Frame) → Due v x p f → p + body_of f.kind + least_tail v.terms.direction f.kind ≤ w.n → (g : Frame) × Due w x p g
    due-back f d l =
        let q = p + body_of f.kind in
        let whole : Tail w q (tail_at w p f.kind) = tail-whole w q (omega arith) in (
          tailed f (tail_at w p f.kind),
          due_with v w (sym G.terms) x p f (tail_at w p f.kind) d (omega arith) (sym (word_same w.n w.bits v.bits G.same p (body_of f.kind) (omega arith))) whole
              (ones_in w q (tail_at w p f.kind) (least_tail v.terms.direction f.kind) whole l (λ i a b. G.same i (omega arith) ∙ d.stands.tail.ones i a (omega (arith, d.stands.least)))),
        )

    -- that is so where a run started behind p: a start has eight zeros, and one place before it every frame has a one among them
    due-settled : (q : ℕ) (f g : Frame) → p < q → Starts rules w q f → Due v x p g → (h : Frame) × Due w x p h
    due-settled q f g l s d =
        by_cases (dec_lt w.n (p + body_of g.kind + least_tail v.terms.direction g.kind))
        (λ (h : w.n < p + body_of g.kind + least_tail v.terms.direction g.kind). absurd (clash h))
        (λ (h : ¬ (w.n < p + body_of g.kind + least_tail v.terms.direction g.kind)). due-back g d (omega arith))
      where
        one_in : (i : ℕ) → i < 158 → g.body i ≡ true → v.bits (p + i) ≡ true
        one_in i m e = sym (body-bit v p g d.stands i m) ∙ e

        differ : (i j : ℕ) → p + i ≡ q + j → q + j < w.n → v.bits (p + i) ≡ true → w.bits (q + j) ≡ false → ⊥
        differ i j e m a b = never (sym a ∙ ap v.bits e ∙ sym (G.same (q + j) m) ∙ b)

        clash : w.n < p + body_of g.kind + least_tail v.terms.direction g.kind → ⊥
        clash h =
            let next : q ≡ p + 1 = omega (arith, s.stands.before, body_low f.kind, least_high v.terms.direction g.kind) in
            let far : q + 158 ≤ w.n = omega (arith, s.stands.before, body_low f.kind) in
            go next far (early_one g.body (pattern_of g.kind) (and_l _ _ d.stands.holds))
          where
            go : q ≡ p + 1 → q + 158 ≤ w.n → (g.body 8 ≡ true) ⊎ (g.body 2 ≡ true) → ⊥
            go e m (inl o) = differ 8 7 (omega arith) (omega arith) (one_in 8 (omega arith) o) (first_zero_lem w q f s 7 (omega arith))
            go e m (inr o) = differ 2 1 (omega arith) (omega arith) (one_in 2 (omega arith) o) (first_zero_lem w q f s 1 (omega arith))

  -- the eight kinds have what growth asks of a set of frames
  grows : Grows rules w v
  grows =
      record {
        more = G.more;
        firm = due-firm;
        stays = λ x p f d. (tailed f (tail_at v p f.kind), due-stays x p f d);
        settled = λ x p. due-settled x p;
      }

  pub keeps : Keeps rules w v unsettled
  keeps = grows_keeps rules w v (sound w) grows unsettled (omega arith)

  -- Ask 2: all items of the old reading but its last are the first items of the new one, which goes on from the cursor behind them
  pub grown : (c : Cursor Context) (xs zs : List (Item Frame)) → AllBut rules unsettled w c xs → Reading rules v c zs
      → (rest : List (Item Frame)) × (zs ≡ xs ++ rest) × Reading rules v (over_all rules c xs) rest
  grown c xs zs h r = begins_grown rules unsettled w v (sound w) (sound v) keeps c xs h zs r

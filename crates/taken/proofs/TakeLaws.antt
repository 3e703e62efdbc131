-- Records taken one by one: of the same bytes the same frames, rest and number; how they end.
-- Assumes nothing.
use mathlib.Core.Path.{◌≡◌, refl, sym, ◌∙◌, ap, subst, subst₂}
use mathlib.Core.Logic.{inl, inr}
use mathlib.Core.Bool.{true, not}
use mathlib.Core.List.{List, [], ◌∷◌, ◌++◌, append_assoc}
use Prim.Native.Nat.{ℕ, ◌≤◌}
use native.Mathlib.Omega.{arith}
use borrow.Author.Tests.{ltb-false, eqb-true, not-false}
use lib.Dec.{eqb, ltb}
use lib.ListN.{length, length-append}
use Rattle.reading.specs.Reading.{Cursor, frame, over, over_all}
use Rattle.channel.specs.declared.Terms.{Terms}
use Rattle.channel.specs.Verdict.{Context, verdict_of, allowed}
use Rattle.channel.specs.Frames.{Frame, behind, rules}
use Rattle.channel.specs.Record.{record_of, records}
use Rattle.numbers.proofs.SizeLaws.{record_length, size_pos}
use Rattle.apart.proofs.OneLaws.{frame-one}
use Rattle.channel.specs.Sound.{SoundAs, sound_number}
use Rattle.taken.specs.Taken.{items, Taken, Decides}
use Rattle.call.proofs.NumberLaws.{passed}

module _ (terms : Terms) where
  -- the record in front of some bytes is that of one frame at most
  pub sound-one : (bytes : List ℕ) (f g : Frame) (r s : List ℕ) → SoundAs terms bytes f r → SoundAs terms bytes g s → (f ≡ g) × (r ≡ s)
  sound-one bytes f g r s a b = frame-one terms f g a.fit b.fit r s (sym a.front ∙ b.front)

  -- where nothing is left no record is sound
  sound-some : (f : Frame) (r : List ℕ) → SoundAs terms [] f r → ⊥
  sound-some f r a = omega (arith, ap length a.front, length-append (record_of (frame f)) r, record_length (frame f), size_pos (frame f))

module _ (terms : Terms) (bits : ℕ) where
  -- what decides is one number
  decides-one : (c : Cursor Context) (bytes : List ℕ) (j k : ℕ) → Decides terms bits c bytes j → Decides terms bits c bytes k → j ≡ k
  decides-one c [] j k x y = x ∙ sym y
  decides-one c (b ∷ bs) j k (inl (e, u)) (inl (m, v)) = e ∙ sym m
  decides-one c (b ∷ bs) j k (inl (e, u)) (inr (g, s, h, m, v)) = absurd (u g s h)
  decides-one c (b ∷ bs) j k (inr (f, r, h, e, u)) (inl (m, v)) = absurd (v f r h)
  decides-one c (b ∷ bs) j k (inr (f, r, h, e, u)) (inr (g, s, i, m, v)) =
      let (p, q) = sound-one terms (b ∷ bs) f g r s h i in
      e ∙ ap (sound_number terms bits c) p ∙ sym m

  -- 0 decides where nothing is left
  pub decides-all : (c : Cursor Context) (bytes : List ℕ) → Decides terms bits c bytes 0 → bytes ≡ []
  decides-all c [] x = refl
  decides-all c (b ∷ bs) (inl (e, u)) = absurd (omega arith)
  decides-all c (b ∷ bs) (inr (f, r, h, e, u)) = absurd (omega arith)

  -- and where it is decided, no record is taken
  decides-ends : (c : Cursor Context) (bytes : List ℕ) (number : ℕ) (f : Frame) (r : List ℕ) → Decides terms bits c bytes number → SoundAs terms bytes f r → sound_number terms bits c f ≡ 0 → ⊥
  decides-ends c [] number f r x h z = sound-some terms f r h
  decides-ends c (b ∷ bs) number f r (inl (e, u)) h z = u f r h
  decides-ends c (b ∷ bs) number f r (inr (g, s, i, e, u)) h z =
      let (p, q) = sound-one terms (b ∷ bs) f g r s h i in
      omega (arith, ap (sound_number terms bits c) p)

  -- the records taken, what is left behind them, and the number that decides there are one
  pub taken-one : (c : Cursor Context) (bytes : List ℕ) (fs gs : List Frame) (l m : List ℕ) (j k : ℕ)
      → Taken terms bits c bytes fs l → Decides terms bits (over_all rules c (items fs)) l j → Taken terms bits c bytes gs m → Decides terms bits (over_all rules c (items gs)) m k
      → (fs ≡ gs) × (l ≡ m) × (j ≡ k)
  taken-one c bytes [] [] l m j k t x u y =
      let e : l ≡ m = sym t ∙ u in
      (refl, e, decides-one c m j k (subst (λ (l : List ℕ). Decides terms bits c l j) e x) y)
  taken-one c bytes [] (g ∷ gs) l m j k t x (s, h, z, u) y = absurd (decides-ends c bytes j g s (subst (λ (l : List ℕ). Decides terms bits c l j) (sym t) x) h z)
  taken-one c bytes (f ∷ fs) [] l m j k (r, h, z, t) x u y = absurd (decides-ends c bytes k f r (subst (λ (l : List ℕ). Decides terms bits c l k) (sym u) y) h z)
  taken-one c bytes (f ∷ fs) (g ∷ gs) l m j k (r, h, z, t) x (s, i, w, u) y =
      let (p, q) = sound-one terms bytes g f s r i h in
      let u' = subst₂ (λ (f : Frame) (r : List ℕ). Taken terms bits (over rules c (frame f)) r gs m) p q u in
      let y' = subst (λ (f : Frame). Decides terms bits (over_all rules (over rules c (frame f)) (items gs)) m k) p y in
      let (e, v, n) = taken-one (over rules c (frame f)) r fs gs l m j k t x u' y' in
      let a : f ∷ fs ≡ g ∷ gs = cc in
      (a, v, n)

  -- the bytes are the records taken, and what is left behind them
  pub taken-records : (c : Cursor Context) (bytes : List ℕ) (fs : List Frame) (left : List ℕ) → Taken terms bits c bytes fs left → bytes ≡ records (items fs) ++ left
  taken-records c bytes [] left t = t
  taken-records c bytes (f ∷ fs) left (r, h, z, t) =
      h.front ∙ ap (λ (l : List ℕ). record_of (frame f) ++ l) (taken-records (over rules c (frame f)) r fs left t) ∙ sym (append_assoc (record_of (frame f)) (records (items fs)) left)

  -- one record more: it is sound, and neither 6 nor 4 is given at the cursor that the others left
  pub taken_more : (c : Cursor Context) (bytes : List ℕ) (fs : List Frame) (left : List ℕ) (f : Frame) (rest : List ℕ) → Taken terms bits c bytes fs left → SoundAs terms left f rest
      → sound_number terms bits (over_all rules c (items fs)) f ≡ 0 → Taken terms bits c bytes (fs ++ (f ∷ [])) rest
  taken_more c bytes [] left f rest t h z = (rest, subst (λ (l : List ℕ). SoundAs terms l f rest) (sym t) h, z, refl)
  taken_more c bytes (g ∷ fs) left f rest (r, i, w, t) h z = (r, i, w, taken_more (over rules c (frame g)) r fs left f rest t h z)

-- a frame that is refused neither by 6 nor by 4 at a cursor: it begins there, has the verdict due, is allowed by rule 2, and ends by the end of the buffer
pub record Passes (terms : Terms) (bits : ℕ) (c : Cursor Context) (f : Frame) : Type 0 where
  pub at : f.start ≡ c.position
  pub judged : f.verdict ≡ verdict_of terms c.context f.body f.kind
  pub allows : allowed terms c.context f.body f.kind ≡ true
  pub ends : behind f ≤ bits

-- so is each whose record is taken
pub passes : (terms : Terms) (bits : ℕ) (c : Cursor Context) (f : Frame) → sound_number terms bits c f ≡ 0 → Passes terms bits c f
passes terms bits c f z =
    let (a, z₁) = passed (not (eqb f.start c.position)) 6 _ (omega arith) z in
    let (b, z₂) = passed (not (eqb f.verdict (verdict_of terms c.context f.body f.kind))) 6 _ (omega arith) z₁ in
    let (e, z₃) = passed (not (allowed terms c.context f.body f.kind)) 6 _ (omega arith) z₂ in
    let (g, z₄) = passed (ltb bits (behind f)) 4 0 (omega arith) z₃ in
    record {
      at = eqb-true f.start c.position (not-false _ a);
      judged = eqb-true f.verdict (verdict_of terms c.context f.body f.kind) (not-false _ b);
      allows = not-false _ e;
      ends = ltb-false bits (behind f) g;
    }

module _ (terms : Terms) (bits : ℕ) where
  -- the cursor behind frames taken ends by the end of the buffer
  pub taken-within : (c : Cursor Context) (bytes : List ℕ) (fs : List Frame) (left : List ℕ) → Taken terms bits c bytes fs left → c.position ≤ bits → (over_all rules c (items fs)).position ≤ bits
  taken-within c bytes [] left t h = h
  taken-within c bytes (f ∷ fs) left (r, i, z, t) h = taken-within (over rules c (frame f)) r fs left t (passes terms bits c f z).ends

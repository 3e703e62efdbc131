-- One kind at most stands at a place; the frame that is due there, computed; the eight kinds have what the laws of a reading ask.
-- Assumes nothing.
use mathlib.Core.Path.{◌≡◌, refl, sym, ◌∙◌, ap, subst, fun_ext}
use mathlib.Core.Bool.{Bool, true, false, not, ◌&&◌, cond}
use mathlib.Core.List.{List, [], ◌∷◌}
use mathlib.Core.Option.{Option, none, some}
use Prim.Native.Nat.{ℕ, ◌+◌, ◌-◌, ◌≤◌, ◌<◌}
use native.Mathlib.Nat.{zero-add}
use native.Mathlib.Omega.{arith}
use lib.Dec.{leb, eqb, ltb}
use borrow.Author.Tests.{leb-true, eqb-true, not-true, le-leb, lt-ltb, ltb-false}
use Rattle.reading.specs.Reading.{Starts, Sound}
use Rattle.bits.specs.Bit.{count}
use Rattle.channel.specs.declared.Direction.{Direction}
use Rattle.channel.specs.declared.Direction.TheVariants.{Uplink, Downlink}
use Rattle.channel.specs.declared.Pattern.{Pattern}
use Rattle.channel.specs.declared.Pattern.TheVariants.{Hr, Low, P670, P740}
use Rattle.channel.specs.declared.Terms.{Terms}
use Rattle.channel.specs.declared.Kind.{Kind}
use Rattle.channel.specs.declared.Kind.TheVariants.{Speech, Data, Om, Configuration, NoSpeech, Lower, Amr670, Amr740}
use Rattle.channel.specs.Kinds.{kinds, kind_no, pattern_of, body_of, least_tail}
use Rattle.channel.specs.Places.{elem, zeros_of}
use Rattle.channel.specs.Coding.{Word, word_at, all, fixed, c1to3, c4to5, hr_coded, coded, is_body}
use Rattle.channel.specs.Verdict.{Context, verdict_of, starts, allowed}
use Rattle.channel.specs.Frames.{Capture, Frame, Stands, Due, rules}
use Rattle.channel.proofs.BoolLaws.{ands, and_l, and_both, all-below, zero-at, one_at}
use Rattle.channel.proofs.TailLaws.{tail_of, tail-whole, tail-one}

-- the only pattern whose fixed bits can hold, by three bits
abbrev pub only_pattern : Word → Pattern
only_pattern g = cond (g 2) P740 (cond (g 16) (cond (g 24) P670 Low) Hr)

pub one_pattern : (g : Word) (t : Pattern) → fixed g t ≡ true → only_pattern g ≡ t
one_pattern g Hr h = rw (zero-at g Hr 2 refl h, zero-at g Hr 16 refl h)
one_pattern g Low h = rw (zero-at g Low 2 refl h, one_at g Low 16 refl h, zero-at g Low 24 refl h)
one_pattern g P670 h = rw (zero-at g P670 2 refl h, one_at g P670 16 refl h, one_at g P670 24 refl h)
one_pattern g P740 h = rw (one_at g P740 2 refl h)

-- the only kind of a pattern whose coding can hold
abbrev hr_kind : ℕ → Kind
hr_kind c = cond (eqb c 0) Speech (cond (eqb c 1) Data (cond (eqb c 2) Om Configuration))

abbrev kind_in : Word → Pattern → Kind
kind_in g Hr = hr_kind (c1to3 g Hr)
kind_in g Low = cond (eqb (c4to5 g) 0) NoSpeech Lower
kind_in g P670 = Amr670
kind_in g P740 = Amr740

hr_type : (d : Direction) (g : Word) (c : ℕ) → hr_coded d g c ≡ true → c1to3 g Hr ≡ c
hr_type d g c h = eqb-true (c1to3 g Hr) c (search ands)

only_kind : (d : Direction) (g : Word) (k : Kind) → coded d g k ≡ true → kind_in g (pattern_of k) ≡ k
only_kind d g Speech h = ap hr_kind (hr_type d g 0 (search ands))
only_kind d g Data h = ap hr_kind (hr_type d g 1 h)
only_kind d g Om h = ap hr_kind (hr_type d g 2 (search ands))
only_kind d g Configuration h = ap hr_kind (hr_type d g 7 h)
only_kind d g NoSpeech h = let e : eqb (c4to5 g) 0 ≡ true = search ands in rw e
only_kind d g Lower h = rw (not-true (eqb (c4to5 g) 0) h)
only_kind d g Amr670 h = refl
only_kind d g Amr740 h = refl

-- one kind at most has a word for its body
pub one-body : (d : Direction) (g : Word) (j k : Kind) → is_body d g j ≡ true → is_body d g k ≡ true → j ≡ k
one-body d g j k a b =
    let s : only_pattern g ≡ pattern_of j = one_pattern g (pattern_of j) (search ands) in
    let t : only_pattern g ≡ pattern_of k = one_pattern g (pattern_of k) (search ands) in
    sym (only_kind d g j (search ands)) ∙ ap (kind_in g) (sym s ∙ t) ∙ only_kind d g k (search ands)

-- whether a word is a body of a kind lies in as many bits as the body has
pub body-cut : (d : Direction) (f : ℕ → Bool) (p : ℕ) (k : Kind) → is_body d (word_at f p (body_of k)) k ≡ is_body d (λ i. f (p + i)) k
body-cut d f p Speech = refl
body-cut d f p Data = refl
body-cut d f p Om = refl
body-cut d f p Configuration = refl
body-cut d f p NoSpeech = refl
body-cut d f p Lower = refl
body-cut d f p Amr670 = refl
body-cut d f p Amr740 = refl

-- whether a word is a body does not change where it is cut behind the body
pub uncut : (d : Direction) (g : Word) (k : Kind) → is_body d (word_at g 0 (body_of k)) k ≡ is_body d g k
uncut d g k = body-cut d g 0 k ∙ ap (λ (h : Word). is_body d h k) (fun_ext (λ i. ap g (zero-add i)))

-- one kind at most has its body at a place
one-kind : (d : Direction) (f : ℕ → Bool) (p : ℕ) (j k : Kind) → is_body d (word_at f p (body_of j)) j ≡ true → is_body d (word_at f p (body_of k)) k ≡ true → j ≡ k
one-kind d f p j k a b = one-body d (λ i. f (p + i)) j k (sym (body-cut d f p j) ∙ a) (sym (body-cut d f p k) ∙ b)

-- the body and the tail of a kind at a place, the frame that they make, and whether it is due
abbrev pub body_at : Capture → ℕ → Kind → Word
body_at w p k = word_at w.bits p (body_of k)

abbrev pub tail_at : Capture → ℕ → Kind → ℕ
tail_at w p k = tail_of w.bits (w.n - (p + body_of k)) (p + body_of k)

abbrev pub frame_at : Capture → ℕ → ℕ → Kind → Frame
frame_at w x p k = record { kind = k; start = p; body = body_at w p k; tail = tail_at w p k; verdict = verdict_of w.terms x (body_at w p k) k }

abbrev pub due_at : Capture → ℕ → ℕ → Kind → Bool
due_at w x p k =
    leb (p + body_of k) w.n
    && is_body w.terms.direction (body_at w p k) k
    && leb (least_tail w.terms.direction k) (tail_at w p k)
    && allowed w.terms x (body_at w p k) k

module _ (w : Capture) (x : Context) (p : ℕ) where
  -- what the test finds is due
  pub test_due : (k : Kind) → due_at w x p k ≡ true → Due w x p (frame_at w x p k)
  test_due k h =
      let before : p + body_of k ≤ w.n = leb-true _ _ (search ands) in
      record {
        stands =
            record {
              at = refl;
              before = before;
              bits = refl;
              holds = search ands;
              tail = tail-whole w (p + body_of k) before;
              least = leb-true _ _ (search ands);
            };
        allows = search ands;
        judged = refl;
      }

  -- what is due is what the test finds
  pub due_test : (f : Frame) → Due w x p f → (due_at w x p f.kind ≡ true) × (frame_at w x p f.kind ≡ f)
  due_test f h = (passes, same)
    where
      s : Stands w p f
      s = h.stands

      t : tail_at w p f.kind ≡ f.tail
      t = tail-one w (p + body_of f.kind) (tail_at w p f.kind) f.tail (tail-whole w (p + body_of f.kind) s.before) s.tail

      v : verdict_of w.terms x (body_at w p f.kind) f.kind ≡ f.verdict
      v = ap (λ (g : Word). verdict_of w.terms x g f.kind) (sym s.bits) ∙ sym h.judged

      passes : due_at w x p f.kind ≡ true
      passes =
          and_both _ _
          (and_both _ _
          (and_both _ _ (le-leb (p + body_of f.kind) w.n s.before) (subst (λ (g : Word). is_body w.terms.direction g f.kind ≡ true) s.bits s.holds))
          (le-leb (least_tail w.terms.direction f.kind) (tail_at w p f.kind) (omega (arith, t, s.least))))
          (subst (λ (g : Word). allowed w.terms x g f.kind ≡ true) s.bits h.allows)

      same : frame_at w x p f.kind ≡ f
      same i = record { kind = f.kind; start = sym s.at i; body = sym s.bits i; tail = t i; verdict = v i }

-- the first kind of a list that passes a test
abbrev first : (Kind → Bool) → List Kind → Option Kind
first t [] = none
first t (k ∷ ks) = let r = first t ks in cond (t k) (some k) r

abbrev made : Capture → ℕ → ℕ → Option Kind → Option Frame
made w x p none = none
made w x p (some k) = some (frame_at w x p k)

-- the frame that is due at a place in a context, by trying each kind
unfoldable pub look_at : Capture → ℕ → ℕ → Option Frame
look_at w x p = made w x p (first (due_at w x p) kinds)

first_passes : (t : Kind → Bool) (ks : List Kind) (k : Kind) → first t ks ≡ some k → t k ≡ true
first_passes t [] k h = cc
first_passes t (j ∷ ks) k h = go (t j) refl h (first_passes t ks k)
  where
    go : (b : Bool) → t j ≡ b → cond b (some j) (first t ks) ≡ some k → (first t ks ≡ some k → t k ≡ true) → t k ≡ true
    go true e h rest = let q : j ≡ k = cc in rw (← q) e
    go false e h rest = rest h

-- no kind of a list passes
abbrev Nones : (Kind → Bool) → List Kind → Type 0
Nones t [] = Unit {0}
Nones t (k ∷ ks) = (t k ≡ false) × Nones t ks

first-none : (t : Kind → Bool) (ks : List Kind) → first t ks ≡ none → Nones t ks
first-none t [] h = tt
first-none t (j ∷ ks) h = go (t j) refl h (first-none t ks)
  where
    go : (b : Bool) → t j ≡ b → cond b (some j) (first t ks) ≡ none → (first t ks ≡ none → Nones t ks) → (t j ≡ false) × Nones t ks
    go true e h rest = let z : ◌≡◌ {A = ℕ} 0 1 = cc in absurd (omega arith)
    go false e h rest = (e, rest h)

none_passes : (t : Kind → Bool) → Nones t kinds → (k : Kind) → t k ≡ false
none_passes t h Speech = h.0
none_passes t h Data = h.1.0
none_passes t h Om = h.1.1.0
none_passes t h Configuration = h.1.1.1.0
none_passes t h NoSpeech = h.1.1.1.1.0
none_passes t h Lower = h.1.1.1.1.1.0
none_passes t h Amr670 = h.1.1.1.1.1.1.0
none_passes t h Amr740 = h.1.1.1.1.1.1.1.0

-- where the first kind that passes is none, each fails
no_kind : (t : Kind → Bool) → first t kinds ≡ none → (k : Kind) → t k ≡ false
no_kind t h = none_passes t (first-none t kinds h)

module _ (w : Capture) (x : Context) (p : ℕ) where
  -- two kinds that are due at a place are one
  due-one : (j k : Kind) → due_at w x p j ≡ true → due_at w x p k ≡ true → j ≡ k
  due-one j k a b = one-kind w.terms.direction w.bits p j k (search ands) (search ands)

  pub look_due : (f : Frame) → look_at w x p ≡ some f → Due w x p f
  unfolding look_at
  look_due f h = go (first (due_at w x p) kinds) refl h
    where
      go : (o : Option Kind) → first (due_at w x p) kinds ≡ o → made w x p o ≡ some f → Due w x p f
      go none e q = let z : ◌≡◌ {A = ℕ} 0 1 = cc in absurd (omega arith)
      go (some k) e q = let r : frame_at w x p k ≡ f = cc in subst (Due w x p) r (test_due w x p k (first_passes (due_at w x p) kinds k e))

  pub due_look : (f : Frame) → Due w x p f → look_at w x p ≡ some f
  unfolding look_at
  due_look f h = go (first (due_at w x p) kinds) refl
    where
      a : due_at w x p f.kind ≡ true
      a = (due_test w x p f h).0

      go : (o : Option Kind) → first (due_at w x p) kinds ≡ o → made w x p o ≡ some f
      go none e = let b = no_kind (due_at w x p) e f.kind in let z : true ≡ false = sym a ∙ b in cc
      go (some k) e =
          let r : k ≡ f.kind = due-one k f.kind (first_passes (due_at w x p) kinds k e) a in
          ap (λ (j : Kind). some (frame_at w x p j)) r ∙ ap some (due_test w x p f h).1

-- a body has 158 bits at least; with its least tail it has 160 at most
pub body_low : (k : Kind) → 158 ≤ body_of k
body_low k = omega (arith, ltb-false (body_of k) 158 (no_kind (λ (j : Kind). ltb (body_of j) 158) refl k))

pub least_high : (d : Direction) (k : Kind) → body_of k + least_tail d k ≤ 160
least_high Uplink k = omega (arith, ltb-false 160 (body_of k + least_tail Uplink k) (no_kind (λ (j : Kind). ltb 160 (body_of j + least_tail Uplink j)) refl k))
least_high Downlink k = omega (arith, ltb-false 160 (body_of k + least_tail Downlink k) (no_kind (λ (j : Kind). ltb 160 (body_of j + least_tail Downlink j)) refl k))

pub body_high : (k : Kind) → body_of k ≤ 160
body_high k = omega (arith, least_high Uplink k)

-- a kind 8 never starts a run
pub no_740 : (t : Terms) (g : Word) → starts t g Amr740 ≡ true → ⊥
unfolding starts
no_740 t g h = let z : ◌≡◌ {A = ℕ} 0 1 = cc in omega arith

-- what the three patterns have that can start a run, the pattern of a kind that starts one has
pub starts_by_lem : (P : Pattern → Bool) → P Hr ≡ true → P Low ≡ true → P P670 ≡ true → (t : Terms) (g : Word) (k : Kind) → starts t g k ≡ true → P (pattern_of k) ≡ true
starts_by_lem P hr low p670 t g Speech h = hr
starts_by_lem P hr low p670 t g Data h = hr
starts_by_lem P hr low p670 t g Om h = hr
starts_by_lem P hr low p670 t g Configuration h = hr
starts_by_lem P hr low p670 t g NoSpeech h = low
starts_by_lem P hr low p670 t g Lower h = low
starts_by_lem P hr low p670 t g Amr670 h = p670
starts_by_lem P hr low p670 t g Amr740 h = absurd (no_740 t g h)

-- what starts a run is allowed in every context
pub starts-allowed : (t : Terms) (x : Context) (g : Word) (k : Kind) → allowed t 0 g k ≡ true → allowed t x g k ≡ true
starts-allowed t x g k h = go (eqb x 0) refl k h
  where
    go : (b : Bool) → eqb x 0 ≡ b → (k : Kind) → starts t g k ≡ true → cond b (starts t g k) (not b && cond (eqb (kind_no k) 8) (leb 2 x) true) ≡ true
    go true e k h = h
    go false e Speech h = refl
    go false e Data h = refl
    go false e Om h = refl
    go false e Configuration h = refl
    go false e NoSpeech h = refl
    go false e Lower h = refl
    go false e Amr670 h = refl
    go false e Amr740 h = absurd (no_740 t g h)

-- a frame that stands does so whatever its verdict
module _ (w : Capture) (p : ℕ) (f : Frame) (v : ℕ) where
  abbrev pub judged_as : Frame
  judged_as = record { kind = f.kind; start = f.start; body = f.body; tail = f.tail; verdict = v }

  pub stands-judged : Stands w p f → Stands w p judged_as
  stands-judged s = record { at = s.at; before = s.before; bits = s.bits; holds = s.holds; tail = s.tail; least = s.least }

-- the bits of a body are the capture's
pub body-bit : (w : Capture) (p : ℕ) (f : Frame) → Stands w p f → (i : ℕ) → i < 158 → f.body i ≡ w.bits (p + i)
body-bit w p f s i l =
    ap (λ (g : Word). g i) s.bits ∙ ap (λ (b : Bool). b && w.bits (p + i)) (lt-ltb i (body_of f.kind) (omega (arith, body_low f.kind)))

-- what starts a run begins with eight zeros
pub first_zero_lem : (w : Capture) (q : ℕ) (f : Frame) → Starts rules w q f → (i : ℕ) → i < 8 → w.bits (q + i) ≡ false
first_zero_lem w q f h i l =
    let zeros : all (λ j. elem j (zeros_of (pattern_of f.kind))) (count 8 0) ≡ true =
    starts_by_lem (λ (t : Pattern). all (λ j. elem j (zeros_of t)) (count 8 0)) refl refl refl w.terms f.body f.kind h.allows in
    sym (body-bit w q f h.stands i (omega arith))
    ∙ zero-at f.body (pattern_of f.kind) i (all-below 8 (λ j. elem j (zeros_of (pattern_of f.kind))) zeros i l) (and_l _ _ h.stands.holds)

-- the eight kinds have what the laws of a reading ask of a set of frames
unfoldable pub sound : (w : Capture) → Sound rules w
sound w =
    record {
      look = look_at w;
      look_due = look_due w;
      due_look = due_look w;
      later = λ x p f h. omega (arith, h.stands.at, body_low f.kind);
      within = λ x p f h. omega (arith, h.stands.at, h.stands.tail.within);
      starts_due =
          λ x p f h.
          let v : ℕ = verdict_of w.terms x f.body f.kind in
          (judged_as w p f v, record { stands = stands-judged w p f v h.stands; allows = starts-allowed w.terms x f.body f.kind h.allows; judged = refl });
    }

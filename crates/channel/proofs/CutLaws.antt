-- What is said of a frame lies in its body: bits behind it change nothing.
-- Assumes nothing.
use mathlib.Core.Path.{◌≡◌, refl, sym, ◌∙◌, ap, ap₂}
use mathlib.Core.Bool.{Bool, true, false, cond, ◌&&◌, not}
use mathlib.Core.List.{List, [], ◌∷◌}
use Prim.Native.Nat.{ℕ, zero, suc, ◌+◌, ◌*◌}
use native.Mathlib.Nat.{zero-add}
use borrow.Author.Tests.{eqb-true}
use lib.Dec.{eqb, ltb}
use Rattle.bits.specs.Bit.{to_n}
use Rattle.channel.specs.declared.Terms.{Terms}
use Rattle.channel.specs.declared.Kind.{Kind}
use Rattle.channel.specs.declared.Kind.TheVariants.{Speech, Data, Om, Configuration, NoSpeech, Lower, Amr670, Amr740}
use Rattle.channel.specs.Kinds.{body_of}
use Rattle.channel.specs.Places.{d_places}
use Rattle.channel.specs.Coding.{Word, word_at, bits_at, all}
use Rattle.channel.specs.Crc.{right, leaves111}
use Rattle.channel.specs.Checks.{checks_lower, checks_silence, checks}
use Rattle.channel.specs.Verdict.{Context, mode_of, carries, wrongs, verdict_of, starts_by, starts, follows, allowed, after_of}
use Rattle.channel.specs.Control.{control, extended}
use Rattle.channel.proofs.BoolLaws.{and_l, and_r}

-- the bits at places below the cut are the word's own
bits-cut : (g : Word) (b : ℕ) (ps : List ℕ) → all (λ p. ltb p b) ps ≡ true → bits_at (word_at g 0 b) ps ≡ bits_at g ps
bits-cut g b [] h = refl
bits-cut g b (p ∷ ps) h =
    let e : ltb p b && g (0 + p) ≡ g p = rw (and_l (ltb p b) (all (λ p. ltb p b) ps) h, zero-add p) in
    ap₂ (λ (x : Bool) (xs : List Bool). x ∷ xs) e (bits-cut g b ps (and_r (ltb p b) (all (λ p. ltb p b) ps) h))

right-cut : (g : Word) (b : ℕ) (ps : List ℕ) → all (λ p. ltb p b) ps ≡ true → right (word_at g 0 b) ps ≡ right g ps
unfolding right
right-cut g b ps h = ap leaves111 (bits-cut g b ps h)

-- every place of some checks lies below b
abbrev inside : ℕ → List (List ℕ) → Bool
inside b [] = true
inside b (ps ∷ cs) = all (λ p. ltb p b) ps && inside b cs

wrongs-cut : (g : Word) (b : ℕ) (cs : List (List ℕ)) → inside b cs ≡ true → wrongs (word_at g 0 b) cs ≡ wrongs g cs
wrongs-cut g b [] h = refl
wrongs-cut g b (ps ∷ cs) h =
    ap₂ (λ (t : Bool) (n : ℕ). to_n (not t) + 2 * n) (right-cut g b ps (and_l (all (λ p. ltb p b) ps) (inside b cs) h))
    (wrongs-cut g b cs (and_r (all (λ p. ltb p b) ps) (inside b cs) h))

-- the checks of a kind 6, in any mode, lie in its body
lower_inside : (mode : ℕ) → inside 159 (checks_lower mode) ≡ true
unfolding d_places
lower_inside zero = refl
lower_inside (suc zero) = refl
lower_inside (suc (suc zero)) = refl
lower_inside (suc (suc (suc zero))) = refl
lower_inside (suc (suc (suc (suc m)))) = refl

-- the context that is left, control and extended
said_cut : (x : Context) (g : Word) (k : Kind) → (after_of x (word_at g 0 (body_of k)) k ≡ after_of x g k) × (control (word_at g 0 (body_of k)) k ≡ control g k) × (extended (word_at g 0 (body_of k)) k ≡ extended g k)
unfolding control extended
said_cut x g Speech = (refl, refl, refl)
said_cut x g Data = (refl, refl, refl)
said_cut x g Om = (refl, refl, refl)
said_cut x g Configuration = (refl, refl, refl)
said_cut x g NoSpeech = (refl, refl, refl)
said_cut x g Lower = (refl, refl, refl)
said_cut x g Amr670 = (refl, refl, refl)
said_cut x g Amr740 = (refl, refl, refl)

pub after-cut : (x : Context) (g : Word) (k : Kind) → after_of x (word_at g 0 (body_of k)) k ≡ after_of x g k
after-cut x g k = (said_cut x g k).0

pub control-cut : (g : Word) (k : Kind) → control (word_at g 0 (body_of k)) k ≡ control g k
control-cut g k = (said_cut 0 g k).1

pub extended-cut : (g : Word) (k : Kind) → extended (word_at g 0 (body_of k)) k ≡ extended g k
extended-cut g k = (said_cut 0 g k).2

-- the check of a kind 5, where it carries one, lies in its body
silence-inside : (b : Bool) → inside 158 (cond b checks_silence []) ≡ true
unfolding d_places
silence-inside false = refl
silence-inside true = refl

-- the verdict
pub verdict-cut : (t : Terms) (x : Context) (g : Word) (k : Kind) → verdict_of t x (word_at g 0 (body_of k)) k ≡ verdict_of t x g k
unfolding verdict_of checks d_places
verdict-cut t x g Speech = ap (λ (n : ℕ). 128 * 0 + 16 * 0 + n) (wrongs-cut g 158 (checks 0 Speech) refl)
verdict-cut t x g Data = refl
verdict-cut t x g Om = refl
verdict-cut t x g Configuration = refl
verdict-cut t x g NoSpeech =
    ap (λ (n : ℕ). 128 * to_n (not (carries t g NoSpeech)) + 16 * 0 + n)
    (wrongs-cut g 158 (cond (carries t g NoSpeech) checks_silence []) (silence-inside (carries t g NoSpeech)))
verdict-cut t x g Lower = ap (λ (n : ℕ). 128 * to_n (eqb (mode_of x g Lower) 0) + 16 * mode_of x g Lower + n) (wrongs-cut g 159 (checks_lower (mode_of x g Lower)) (lower_inside (mode_of x g Lower)))
verdict-cut t x g Amr670 = ap (λ (n : ℕ). 128 * 0 + 16 * 0 + n) (wrongs-cut g 160 (checks 0 Amr670) refl)
verdict-cut t x g Amr740 = ap (λ (n : ℕ). 128 * 0 + 16 * 0 + n) (wrongs-cut g 160 (checks 0 Amr740) refl)

-- the bits at the D places
pub d-cut : (g : Word) (k : Kind) → bits_at (word_at g 0 (body_of k)) (d_places k) ≡ bits_at g (d_places k)
unfolding d_places
d-cut g Speech = bits-cut g 158 (d_places Speech) refl
d-cut g Data = bits-cut g 159 (d_places Data) refl
d-cut g Om = bits-cut g 159 (d_places Om) refl
d-cut g Configuration = bits-cut g 158 (d_places Configuration) refl
d-cut g NoSpeech = bits-cut g 158 (d_places NoSpeech) refl
d-cut g Lower = bits-cut g 159 (d_places Lower) refl
d-cut g Amr670 = bits-cut g 160 (d_places Amr670) refl
d-cut g Amr740 = bits-cut g 160 (d_places Amr740) refl

-- rule 2, by the verdict that the code has
pub allowed_by : (t : Terms) (x : Context) (g : Word) (k : Kind) (v : ℕ) → v ≡ verdict_of t x g k
    → cond (eqb x 0) (starts_by k v) (follows x k) ≡ allowed t x (word_at g 0 (body_of k)) k
unfolding starts
allowed_by t x g k v e = go (eqb x 0) refl
  where
    go : (b : Bool) → eqb x 0 ≡ b → cond b (starts_by k v) (follows x k) ≡ cond b (starts_by k (verdict_of t 0 (word_at g 0 (body_of k)) k)) (follows x k)
    go false q = refl
    go true q = ap (starts_by k) (e ∙ ap (λ (y : ℕ). verdict_of t y g k) (eqb-true x 0 q) ∙ sym (verdict-cut t 0 g k))

-- How the code's tests come to the definitions of fixed bits and coding.
-- Assumes nothing.
use mathlib.Core.Path.{◌≡◌, refl, sym, ◌∙◌, ap}
use mathlib.Core.Bool.{Bool, true, false, ◌&&◌, cond}
use mathlib.Core.List.{List, [], ◌∷◌}
use Prim.Native.Nat.{ℕ, ◌+◌, ◌*◌, ◌/◌, ◌%◌, ◌<◌}
use native.Mathlib.Omega.{arith}
use borrow.Author.Tests.{eq-eqb, ne_eqb}
use lib.Dec.{eqb}
use Rattle.bits.specs.Bit.{to_n, number}
use Rattle.bits.proofs.BitLaws.{to_n_lt, to_n-one}
use Rattle.channel.specs.declared.Direction.{Direction}
use Rattle.channel.specs.declared.Terms.{Terms}
use Rattle.channel.specs.declared.Pattern.{Pattern}
use Rattle.channel.specs.declared.Pattern.TheVariants.{Hr}
use Rattle.channel.specs.declared.Kind.{Kind}
use Rattle.channel.specs.Kinds.{pattern_of}
use Rattle.channel.specs.declared.Kind.TheVariants.{Speech, Data, Om, Configuration, NoSpeech, Lower, Amr670, Amr740}
use Rattle.channel.specs.Places.{elem, c_places, xc_places}
use Rattle.channel.specs.Coding.{Word, bits_at, odd, fixed, c1to3, c4, c4_coded, hr_coded, xc_coded, speech_xc, coded}
use Rattle.channel.proofs.BoolLaws.{and_both, and-false, never}
use Rattle.channel.proofs.FrameLaws.{one_pattern, one-body}
use Rattle.std.specs.Prelude.{Option, Some, None}
use Rattle.std.specs.Option.{option_eq}
use Rattle.std.specs.Bool.{then_some}
use Rattle.std.specs.Int.Count as Count
use Rattle.fields.proofs.PackedLaws.{odd-packed}
use Rattle.coding.specs.Found.{XcOf, Coded, KindOf}

-- parts of a field of five bits
module _ (a b c d e : Bool) where
  five_top : number (a ∷ b ∷ c ∷ d ∷ e ∷ []) / 4 ≡ number (a ∷ b ∷ c ∷ [])
  five_top = omega (arith, to_n_lt d, to_n_lt e)

  five_fourth : eqb (number (a ∷ b ∷ c ∷ d ∷ e ∷ []) / 2 % 2) 1 ≡ d
  five_fourth = let f : number (a ∷ b ∷ c ∷ d ∷ e ∷ []) / 2 % 2 ≡ to_n d = omega (arith, to_n_lt d, to_n_lt e) in rw f (to_n-one d)

  six_top : (f : Bool) → number (a ∷ b ∷ c ∷ d ∷ e ∷ f ∷ []) / 2 ≡ number (a ∷ b ∷ c ∷ d ∷ e ∷ [])
  six_top f = omega (arith, to_n_lt f)

and-not : (a b : Bool) → b ≡ false → a && b ≡ false
and-not a b h = rw h (and-false a)

-- XC1..XC6 packed from two fields
pub xc_packed : (g : Word) (a b : ℕ) → a ≡ number (bits_at g (14 ∷ 15 ∷ [])) → b ≡ number (bits_at g (18 ∷ 19 ∷ 20 ∷ 21 ∷ [])) → 16 * a + b ≡ number (bits_at g xc_places)
xc_packed g a b e f = rw (e, f) (omega arith)

-- XC1..XC6 packed in a field x
module _ (g : Word) (x : ℕ) (packed : x ≡ number (bits_at g xc_places)) where
  xc_number : x / 2 ≡ number (g 14 ∷ g 15 ∷ g 18 ∷ g 19 ∷ g 20 ∷ [])
  xc_number = rw packed (six_top (g 14) (g 15) (g 18) (g 19) (g 20) (g 21))

  xc_odd : (vs : List ℕ) → odd (bits_at g xc_places) ≡ true → elem (x / 2) vs ≡ xc_coded g vs
  xc_odd vs h = rw (h, xc_number)

  xc_even : (vs : List ℕ) → odd (bits_at g xc_places) ≡ false → false ≡ xc_coded g vs
  xc_even vs h = rw h

one-elem : (v w : ℕ) → eqb v w ≡ elem v (w ∷ [])
one-elem v w = go (eqb v w)
  where
    go : (b : Bool) → b ≡ cond b true false
    go true = refl
    go false = refl

-- XC1..XC5 as the code finds them
pub xc_of : (g : Word) (x : ℕ) → x < 64 → x ≡ number (bits_at g xc_places) → (r : Bool) → r ≡ eqb (Count.ones x % 2) 1 → XcOf g (then_some r (x / 2))
xc_of g x small packed r is = go r (sym (odd-packed x r (bits_at g xc_places) is packed))
  where
    go : (b : Bool) → odd (bits_at g xc_places) ≡ b → XcOf g (then_some b (x / 2))
    go true e = (omega arith, λ vs. xc_odd g x packed vs e)
    go false e = λ vs. sym (xc_even g x packed vs e)

-- those of an O&M frame
pub om_coded : (g : Word) (r : Option ℕ) → XcOf g r → option_eq eqb r (Some 31) ≡ xc_coded g (31 ∷ [])
om_coded g (Some v) h = one-elem v 31 ∙ h.1 (31 ∷ [])
om_coded g None h = sym (h (31 ∷ []))

-- C1..C5 of the HR pattern packed in a field c, as the code tests them
module _ (d : Direction) (g : Word) (c : ℕ) (packed : c ≡ number (bits_at g (c_places Hr))) where
  -- no coding of the four kinds holds
  hr_nothing : hr_coded d g 0 && xc_coded g (speech_xc d) ≡ false → hr_coded d g 1 ≡ false → hr_coded d g 2 && xc_coded g (31 ∷ []) ≡ false → hr_coded d g 7 ≡ false → Coded d g Hr None
  hr_nothing a b c e Speech h = a
  hr_nothing a b c e Data h = b
  hr_nothing a b c e Om h = c
  hr_nothing a b c e Configuration h = e
  hr_nothing a b c e NoSpeech h = cc
  hr_nothing a b c e Lower h = cc
  hr_nothing a b c e Amr670 h = cc
  hr_nothing a b c e Amr740 h = cc

  hr_none : ((t : ℕ) → hr_coded d g t ≡ false) → Coded d g Hr None
  hr_none h = hr_nothing (rw (h 0)) (h 1) (rw (h 2)) (h 7)

  hr_number : c1to3 g Hr ≡ c / 4
  hr_number = sym (rw packed (five_top (g 9) (g 10) (g 11) (g 12) (g 13)))

  hr_fourth : eqb (c / 2 % 2) 1 ≡ c4 g
  hr_fourth = rw packed (five_fourth (g 9) (g 10) (g 11) (g 12) (g 13))

  hr_odd : (b : Bool) → b ≡ eqb (Count.ones c % 2) 1 → odd (bits_at g (c_places Hr)) ≡ b
  hr_odd b is = sym (odd-packed c b (bits_at g (c_places Hr)) is packed)

  -- their ones are even in number, or C4 is not as the direction has it
  pub hr_even : false ≡ eqb (Count.ones c % 2) 1 → Coded d g Hr None
  hr_even is = hr_none (λ t. rw (hr_odd false is) (and-false (eqb (c1to3 g Hr) t && c4_coded d (c4 g))))

  pub hr_c4 : false ≡ c4_coded d (eqb (c / 2 % 2) 1) → Coded d g Hr None
  hr_c4 is = hr_none (λ t. rw (← hr_fourth, ← is, and-false (eqb (c1to3 g Hr) t)))

  -- both are as they must be: the kind by C1..C3
  module _ (is_odd : true ≡ eqb (Count.ones c % 2) 1) (is_c4 : true ≡ c4_coded d (eqb (c / 2 % 2) 1)) where
    pub hr_this : (t : ℕ) → c / 4 ≡ t → hr_coded d g t ≡ true
    hr_this t e = rw (hr_odd true is_odd, eq-eqb (c1to3 g Hr) t (hr_number ∙ e), ← hr_fourth, ← is_c4)

    hr_other : (t : ℕ) → (c / 4 ≡ t → ⊥) → hr_coded d g t ≡ false
    hr_other t h = rw (ne_eqb (c1to3 g Hr) t (λ e. h (sym hr_number ∙ e)))

    pub hr_speech : c / 4 ≡ 0 → (r : Bool) → r ≡ xc_coded g (speech_xc d) → Coded d g Hr (then_some r Speech)
    hr_speech e true is = (refl, and_both _ _ (hr_this 0 e) (sym is))
    hr_speech e false is = hr_nothing (and-not (hr_coded d g 0) _ (sym is)) (hr_other 1 (λ f. omega arith)) (rw (hr_other 2 (λ f. omega arith))) (hr_other 7 (λ f. omega arith))

    pub hr_om : c / 4 ≡ 2 → (r : Bool) → r ≡ xc_coded g (31 ∷ []) → Coded d g Hr (then_some r Om)
    hr_om e true is = (refl, and_both _ _ (hr_this 2 e) (sym is))
    hr_om e false is = hr_nothing (rw (hr_other 0 (λ f. omega arith))) (hr_other 1 (λ f. omega arith)) (and-not (hr_coded d g 2) _ (sym is)) (hr_other 7 (λ f. omega arith))

-- a kind of the pattern that holds is the kind
pub kind_in_lem : (t : Terms) (g : Word) (p : Pattern) (r : Option Kind) → fixed g p ≡ true → Coded t.direction g p r → KindOf t g r
kind_in_lem t g p (Some k) f h = rw (h.0, f, h.1)
kind_in_lem t g p None f h = λ k. go k (fixed g (pattern_of k)) refl
  where
    go : (k : Kind) (b : Bool) → fixed g (pattern_of k) ≡ b → b && coded t.direction g k ≡ false
    go k true e = h k (sym (one_pattern g (pattern_of k) e) ∙ one_pattern g p f)
    go k false e = refl

-- no second answer fits
pub kind-one : (t : Terms) (g : Word) (r s : Option Kind) → KindOf t g r → KindOf t g s → r ≡ s
kind-one t g (Some j) (Some k) a b = ap Some (one-body t.direction g j k a b)
kind-one t g (Some j) None a b = absurd (never (sym a ∙ b j))
kind-one t g None (Some k) a b = absurd (never (sym b ∙ a k))
kind-one t g None None a b = refl

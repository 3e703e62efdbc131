-- The mode of kind 6, the class of kind 5, the verdict byte, contexts, and what starts a run or follows (document 01, "Mode of kind 6", "Verdict byte",
-- "Reading rules"; document 02, Ask 1).
-- Assumes nothing.
use Rattle.std.specs.Prelude.{Bool, true, false, not, ◌&&◌, cond, List, [], ◌∷◌, ℕ, ◌+◌, ◌*◌, ◌/◌, ◌%◌, ◌^◌, eqb, leb, get_or}
use Rattle.bits.specs.Bit.{to_n, number}
use Rattle.channel.specs.declared.Pattern.TheVariants.{Low}
use Rattle.channel.specs.declared.Terms.{Terms}
use Rattle.channel.specs.declared.Kind.{Kind}
use Rattle.channel.specs.declared.Kind.TheVariants.{Speech, Data, Om, Configuration, NoSpeech, Lower, Amr670, Amr740}
use Rattle.channel.specs.Kinds.{kind_no}
use Rattle.channel.specs.Places.{upto}
use Rattle.channel.specs.Coding.{Word, bits_at, c1to3}
use Rattle.channel.specs.Crc.{right}
use Rattle.channel.specs.Checks.{d, checks_silence, checks}

-- a context: 0 searching; 1 after HR; 2 after AMR; 3, 4, 5 after a kind 6 whose own C bits named 4,75, 5,15, 5,90
abbrev pub Context : Type 0
Context = ℕ

-- the mode that a kind 6's own C bits name: C1..C3 of 000, 001, 010 name 4,75 (1), 5,15 (2), 5,90 (3); any other none (0)
abbrev pub own_mode : Word → ℕ
own_mode g = get_or (1 ∷ 2 ∷ 3 ∷ []) (c1to3 g Low) 0

-- the mode that a context holds: 3, 4, 5 stand after a kind 6 whose own C bits named 4,75, 5,15, 5,90; 0 to 2 hold none
abbrev pub context_mode : Context → ℕ
context_mode x = get_or (0 ∷ 0 ∷ 0 ∷ 1 ∷ 2 ∷ 3 ∷ []) x 0

-- the mode of a body in a context: of a kind 6 its own, else the context's, or none; other kinds have none
abbrev pub mode_of : Context → Word → Kind → ℕ
mode_of x g k = cond (eqb (kind_no k) 6) (cond (eqb (own_mode g) 0) (context_mode x) (own_mode g)) 0

-- the class of a kind 5: its own D8..D10 as a number, D8 on top (document 02, Ask 1)
abbrev pub class_of : Word → ℕ
class_of g = number (bits_at g (d NoSpeech (upto 8 10)))

-- a kind 5 of a class that carries a CRC: bit k of the profile, 0 the lowest, is set for class k (document 02, Ask 1)
abbrev pub carries : Terms → Word → Kind → Bool
carries t g k = eqb (kind_no k) 5 && eqb (t.profile / 2 ^ class_of g % 2) 1

-- unchecked: kind 5 of a class that carries none, kind 6 without mode
abbrev pub unchecked : Terms → Context → Word → Kind → Bool
unchecked t x g k = cond (eqb (kind_no k) 5) (not (carries t g k)) (cond (eqb (kind_no k) 6) (eqb (mode_of x g k) 0) false)

-- the checks of a body on some terms in a context
abbrev pub checks_of : Terms → Context → Word → Kind → List (List ℕ)
checks_of t x g k = cond (carries t g k) checks_silence (checks (mode_of x g k) k)

-- bits 3..0: set where CRC4..CRC1 is wrong
abbrev pub wrongs : Word → List (List ℕ) → ℕ
wrongs g [] = 0
wrongs g (places ∷ rest) = to_n (not (right g places)) + 2 * wrongs g rest

-- the verdict byte of a body on some terms in a context: bit 7 unchecked, bits 5..4 the mode of a kind 6, bits 3..0 the wrong CRCs
unfoldable pub verdict_of : Terms → Context → Word → Kind → ℕ
verdict_of t x g k = 128 * to_n (unchecked t x g k) + 16 * mode_of x g k + wrongs g (checks_of t x g k)

-- a kind starts a run with a verdict of context 0: it is not kind 8, each of its CRCs is right (bits 3..0), and it is not an unchecked kind 6 (bit 7)
abbrev pub starts_by : Kind → ℕ → Bool
starts_by k v = not (eqb (kind_no k) 8) && eqb (v % 16) 0 && not (eqb (kind_no k) 6 && leb 128 v)

-- a body starts a run: always judged in context 0
unfoldable pub starts : Terms → Word → Kind → Bool
starts t g k = starts_by k (verdict_of t 0 g k)

-- a kind follows in a context: the context isn't 0 and, for kind 8, is 2 or more
abbrev pub follows : Context → Kind → Bool
follows x k = not (eqb x 0) && cond (eqb (kind_no k) 8) (leb 2 x) true

-- rule 2: in context 0 a frame that starts a run, in any other a frame that follows
abbrev pub allowed : Terms → Context → Word → Kind → Bool
allowed t x g k = cond (eqb x 0) (starts t g k) (follows x k)

-- the context that a frame leaves: 1 after HR, 2 after AMR, 3, 4, 5 after a kind 6 whose own C bits named 4,75, 5,15, 5,90
abbrev pub after_of : Context → Word → Kind → Context
after_of x g Speech = 1
after_of x g Data = 1
after_of x g Om = 1
after_of x g Configuration = 1
after_of x g NoSpeech = 2
after_of x g Lower = 2 + own_mode g
after_of x g Amr670 = 2
after_of x g Amr740 = 2

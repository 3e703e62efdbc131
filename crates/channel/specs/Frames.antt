-- Where a frame stands, and the eight kinds put into the reading rules (document 01, "Frames" and "Reading rules").
-- Assumes nothing.
use Rattle.std.specs.Prelude.{◌≡◌, ◌⊎◌, Bool, true, false, List, ℕ, ◌+◌, ◌≤◌, ◌<◌}
use Rattle.reading.specs.Reading.{Rules, Cursor}
use Rattle.bits.specs.Bit.{bit_at}
use Rattle.channel.specs.declared.Direction.{Direction}
use Rattle.channel.specs.declared.Terms.{Terms}
use Rattle.channel.specs.declared.Kind.{Kind}
use Rattle.channel.specs.Kinds.{body_of, least_tail}
use Rattle.channel.specs.Coding.{Word, word_at, is_body}
use Rattle.channel.specs.Verdict.{Context, verdict_of, allowed, after_of}

-- the terms of a direction and a profile
abbrev pub terms_of : ℕ → Direction → Terms
terms_of profile d = record { direction = d; profile = profile }

-- a capture: its bits, how many they are, and its terms
pub record Capture : Type 0 where
  pub bits : ℕ → Bool
  pub n : ℕ
  pub terms : Terms

-- the first n bits of some bytes
abbrev pub capture_of : List ℕ → ℕ → Terms → Capture
capture_of s n t = record { bits = bit_at s; n = n; terms = t }

-- a frame: its kind, its place, its body, the length of its tail, and its verdict byte
pub record Frame : Type 0 where
  pub kind : Kind
  pub start : ℕ
  pub body : Word
  pub tail : ℕ
  pub verdict : ℕ

-- the tail behind q is every one up to the next zero or to n (rule 3: its whole length)
pub record Tail (w : Capture) (q t : ℕ) : Type 0 where
  pub within : q + t ≤ w.n
  pub ones : (i : ℕ) → q ≤ i → i < q + t → w.bits i ≡ true
  pub stops : (q + t ≡ w.n) ⊎ (w.bits (q + t) ≡ false)

-- a frame stands at p: fixed bits and coding hold, the body lies before n, and behind it are at least as many ones as the least tail
pub record Stands (w : Capture) (p : ℕ) (f : Frame) : Type 0 where
  pub at : f.start ≡ p
  pub before : p + body_of f.kind ≤ w.n
  pub bits : f.body ≡ word_at w.bits p (body_of f.kind)
  pub holds : is_body w.terms.direction f.body f.kind ≡ true
  pub tail : Tail w (p + body_of f.kind) f.tail
  pub least : least_tail w.terms.direction f.kind ≤ f.tail

-- rule 2: a frame stands at p, it starts a run in context 0 or follows in any other, and its verdict is the one due in that context
pub record Due (w : Capture) (x : Context) (p : ℕ) (f : Frame) : Type 0 where
  pub stands : Stands w p f
  pub allows : allowed w.terms x f.body f.kind ≡ true
  pub judged : f.verdict ≡ verdict_of w.terms x f.body f.kind

-- the place behind a frame's tail
abbrev pub behind : Frame → ℕ
behind f = f.start + body_of f.kind + f.tail

-- the eight kinds in the reading rules: context 0 is searching
abbrev pub rules : Rules Capture Context Frame
rules = record { end = λ w. w.n; searching = 0; Due = Due; behind = behind; after = λ x f. after_of x f.body f.kind }

-- the beginning of a capture: bit 0, context 0
abbrev pub beginning : Cursor Context
beginning = record { position = 0; context = 0 }

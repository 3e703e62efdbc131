-- When the record that some bytes begin with is the sound record of a frame.
-- Assumes nothing.
use mathlib.Core.Path.{◌≡◌, refl, sym, ◌∙◌, ap, subst}
use mathlib.Core.Bool.{Bool, true, false}
use mathlib.Core.List.{List, ◌++◌}
use Prim.Native.Nat.{ℕ, ◌<◌, ◌≤◌}
use native.Mathlib.Omega.{arith}
use lib.Dec.{eqb}
use lib.ListN.{length, take, drop}
use lib.Seq.{take_at}
use Rattle.std.specs.Prelude.{Option, Some, None}
use Rattle.std.specs.Option.{option_eq}
use Rattle.std.specs.Cmp.Lexicographic.{pointwise}
use Rattle.std.proofs.lemmas.Bool.Decides.{Decides-eqb}
use Rattle.std.proofs.lemmas.Slice.Eq.{starts_is}
use Rattle.reading.specs.Reading.{frame}
use Rattle.bits.specs.Bit.{bit_at}
use Rattle.channel.specs.declared.Terms.{Terms}
use Rattle.channel.specs.declared.Kind.{Kind}
use Rattle.channel.specs.Kinds.{body_of, least_tail}
use Rattle.channel.specs.Coding.{Word, word_at, is_body}
use Rattle.channel.specs.Frames.{Frame}
use Rattle.channel.specs.Record.{record_of}
use Rattle.channel.specs.Sound.{Unsound}
use Rattle.channel.proofs.BoolLaws.{never}
use Rattle.channel.proofs.FrameLaws.{one-body, uncut}
use Rattle.coding.specs.Found.{KindOf}
use Rattle.item.specs.declared.Frame as code
use Rattle.item.specs.Item.{frame_of}
use Rattle.parse.specs.Parsed.{RecordBy}
use Rattle.apart.proofs.OneLaws.{cut-cut}
use Rattle.apart.proofs.FrontLaws.{record_is}
use Rattle.judge.specs.Judged.{BeginsWith, SoundBy, Judged}

-- whether a word is the body of a kind, by the kind that is found and a test that two kinds are one
pub is_found : (t : Terms) (g : Word) (k : Kind) (same : Kind → Kind → Bool) → ((i j : Kind) → same i j ≡ true → i ≡ j) → ((i j : Kind) → i ≡ j → same i j ≡ true)
    → (r : Option Kind) → KindOf t g r → option_eq same r (Some k) ≡ is_body t.direction g k
is_found t g k same one all None h = sym (h k)
is_found t g k same one all (Some j) h = go (same j k) refl (is_body t.direction g k) refl
  where
    go : (b : Bool) → same j k ≡ b → (c : Bool) → is_body t.direction g k ≡ c → b ≡ c
    go true e true q = refl
    go false e false q = refl
    go true e false q = sym (rw (one j k e) at h) ∙ q
    go false e true q = sym e ∙ all j k (one-body t.direction g j k h q)

-- what `starts_with` says of bytes and the first ones of a list that begins with some others
pub begins_with : (front behind bytes : List ℕ) (n : ℕ) (r : Bool) → length front ≡ n → r ≡ pointwise eqb (take n (front ++ behind)) (take (length (take n (front ++ behind))) bytes)
    → BeginsWith front bytes r
begins_with front behind bytes n r l e =
    let q : take n (front ++ behind) ≡ front = take_at front behind n l in
    go r (starts_is Decides-eqb bytes front r (rw q at e))
  where
    go : (r : Bool) → (r ≡ true → bytes ≡ front ++ drop (length front) bytes) × ((rest : List ℕ) → bytes ≡ front ++ rest → r ≡ true) → BeginsWith front bytes r
    go true (a, b) = (drop (length front) bytes, a refl)
    go false (a, b) = λ rest q. never (sym (b rest q))

-- the frame by what a record's bytes say
module _ (terms : Terms) (part : List ℕ) (f : code.Frame) (h : RecordBy part (Some f)) where
  -- fixed bits or coding do not hold
  pub sound-kind : is_body terms.direction (bit_at f.octets) f.kind ≡ false → Unsound terms part
  sound-kind b g rest s =
      let a : is_body terms.direction (word_at (bit_at f.octets) 0 (body_of f.kind)) f.kind ≡ true = subst (λ (g : Frame). is_body terms.direction g.body g.kind ≡ true) (sym (record_is part f h terms g rest s)) s.fit.holds in
      never (sym a ∙ uncut terms.direction (bit_at f.octets) f.kind ∙ b)

  -- the tail is below the least
  pub sound-tail : f.tail < least_tail terms.direction f.kind → Unsound terms part
  sound-tail b g rest s =
      let a : least_tail terms.direction f.kind ≤ f.tail = subst (λ (g : Frame). least_tail terms.direction g.kind ≤ g.tail) (sym (record_is part f h terms g rest s)) s.least in
      omega arith

  -- the bytes begin with the record of the frame, or they do not
  pub sound_record : is_body terms.direction (bit_at f.octets) f.kind ≡ true → least_tail terms.direction f.kind ≤ f.tail → (b : Bool) → BeginsWith (record_of (frame (frame_of f))) part b → SoundBy terms part (frame_of f) b
  sound_record b l true (rest, front) = (
    rest,
    record {
      fit =
          record {
            cut = cut-cut (bit_at f.octets) 0 (body_of f.kind);
            holds = uncut terms.direction (bit_at f.octets) f.kind ∙ b;
            start_fits = h.start_fits;
            tail_fits = h.tail_fits;
          };
      least = l;
      front = front;
    },
  )
  sound_record b l false other = λ g rest s. other rest (s.front ∙ ap (λ (g : Frame). record_of (frame g) ++ rest) (sym (record_is part f h terms g rest s)))

-- no second frame fits, nor does none beside one
pub judged-one : (terms : Terms) (part : List ℕ) (r s : Option code.Frame) → Judged terms part r → Judged terms part s → r ≡ s
judged-one terms part (Some f) (Some g) a b = sym a.0 ∙ b.0
judged-one terms part None None a b = refl
judged-one terms part (Some f) None a b = absurd (b (frame_of f) a.1.0 a.1.1)
judged-one terms part None (Some g) a b = absurd (a (frame_of g) b.1.0 b.1.1)

-- What the bytes of a sound record say: they tell the frame that it is of.
-- Assumes nothing.
use mathlib.Core.Path.{◌≡◌, refl, sym, ◌∙◌, ap}
use mathlib.Core.List.{List}
use Prim.Native.Nat.{ℕ, ◌+◌, ◌≤◌}
use native.Mathlib.Omega.{arith}
use borrow.Author.Tests.{le-ltb}
use lib.ListN.{length, get_or, take, drop, length-append}
use lib.Seq.{take_at}
use Rattle.reading.specs.Reading.{frame}
use Rattle.bits.specs.Bit.{bit_at}
use Rattle.channel.specs.declared.Terms.{Terms}
use Rattle.channel.specs.declared.Kind.{Kind}
use Rattle.std.specs.Prelude.{Some, None}
use Rattle.std.proofs.lemmas.Option.{none-some, same_Some}
use Rattle.channel.specs.Kinds.{kind_no, body_of}
use Rattle.channel.specs.Coding.{word_at}
use Rattle.channel.specs.Control.{control, extended}
use Rattle.channel.specs.Frames.{Frame}
use Rattle.channel.specs.Record.{d_bytes, number_at, d_length, record_of}
use Rattle.channel.specs.Sound.{SoundAs, Unsound}
use Rattle.record.proofs.KindLaws.{of-each}
use Rattle.numbers.proofs.SizeLaws.{four_bytes, record_length}
use Rattle.item.specs.declared.Frame as code
use Rattle.item.specs.Item.{frame_of}
use Rattle.parse.specs.Parsed.{kind_by, record_as, record_from, RecordBy}
use Rattle.apart.proofs.BuiltLaws.{body-framed, built}
use Rattle.apart.proofs.OneLaws.{words_one, d-long}

-- each kind is found by its number
kind_by_lem : (k : Kind) → kind_by (kind_no k) ≡ Some k
kind_by_lem = of-each (λ k. kind_by (kind_no k) ≡ Some k) refl refl refl refl refl refl refl refl

-- bytes that begin with the sound record of a frame
module _ (terms : Terms) (part : List ℕ) (f : Frame) (rest : List ℕ) (s : SoundAs terms part f rest) where
  -- the first byte tells the kind
  pub front-kind : kind_by (get_or part 0 0) ≡ Some f.kind
  unfolding record_of
  front-kind = ap (λ (b : List ℕ). kind_by (get_or b 0 0)) s.front ∙ kind_by_lem f.kind

  -- the record is not cut short
  pub front_long : 12 + d_length f.kind ≤ length part
  front_long = omega (arith, ap length s.front, length-append (record_of (frame f)) rest, record_length (frame f))

  front-start : number_at part 1 ≡ f.start
  unfolding record_of
  front-start = ap (λ (b : List ℕ). number_at b 1) s.front ∙ four_bytes f.start s.fit.start_fits

  pub front-tail : number_at part 5 ≡ f.tail
  unfolding record_of
  front-tail = ap (λ (b : List ℕ). number_at b 5) s.front ∙ four_bytes f.tail s.fit.tail_fits

  front-verdict : get_or part 11 0 ≡ f.verdict
  unfolding record_of
  front-verdict = ap (λ (b : List ℕ). get_or b 11 0) s.front

  pub front-control : control f.body f.kind ≡ get_or part 9 0
  unfolding record_of
  front-control = ap (λ (b : List ℕ). get_or b 9 0) (sym s.front)

  pub front-extended : extended f.body f.kind ≡ get_or part 10 0
  unfolding record_of
  front-extended = ap (λ (b : List ℕ). get_or b 10 0) (sym s.front)

  pub front-d : take (d_length f.kind) (d_bytes f.body f.kind) ≡ take (d_length f.kind) (drop 12 part)
  unfolding record_of
  front-d =
      sym (take_at (take (d_length f.kind) (d_bytes f.body f.kind)) rest (d_length f.kind) (d-long f.body f.kind))
      ∙ ap (λ (b : List ℕ). take (d_length f.kind) (drop 12 b)) (sym s.front)

  -- the octets built from the record have its body
  front-body : word_at (bit_at (record_as f.kind part).octets) 0 (body_of f.kind) ≡ f.body
  front-body =
      words_one (bit_at (record_as f.kind part).octets) f.body (body_of f.kind)
      (built f.body f.kind (get_or part 9 0) (get_or part 10 0) (drop 12 part) (body-framed terms.direction f.body f.kind s.fit.holds) front-control front-extended front-d)
      ∙ sym s.fit.cut

  -- so the frame by the record's bytes is that frame
  front-frame : frame_of (record_as f.kind part) ≡ f
  front-frame = λ i. record { kind = f.kind; start = front-start i; body = front-body i; tail = front-tail i; verdict = front-verdict i }

  front_record : record_from part ≡ Some (record_as f.kind part)
  front_record = rw (front-kind, le-ltb (length part) (12 + d_length f.kind) front_long)

-- the record in front of some bytes, by what they say
module _ (part : List ℕ) where
  -- of no frame: no frame has such a record
  pub record_none : RecordBy part None → (terms : Terms) → Unsound terms part
  record_none h terms f rest s = none-some (record_as f.kind part) (h.is ∙ front_record terms part f rest s)

  -- of a frame: where the bytes begin with the sound record of a frame, it is that frame
  pub record_is : (g : code.Frame) → RecordBy part (Some g) → (terms : Terms) (f : Frame) (rest : List ℕ) → SoundAs terms part f rest → frame_of g ≡ f
  record_is g h terms f rest s =
      let same : g ≡ record_as f.kind part = same_Some g (record_as f.kind part) (h.is ∙ front_record terms part f rest s) in
      rw same (front-frame terms part f rest s)

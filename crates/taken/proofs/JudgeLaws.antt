-- What the loop that judges keeps: the records taken so far.
-- Assumes nothing.
use mathlib.Core.Path.{◌≡◌, refl, sym, ◌∙◌, ap, subst}
use mathlib.Core.Logic.{inl, inr}
use mathlib.Core.List.{List, [], ◌∷◌, ◌++◌}
use Prim.Native.Nat.{ℕ, ◌+◌, ◌≤◌, ◌<◌}
use native.Mathlib.Omega.{arith}
use lib.ListN.{length, drop, length-append}
use lib.Seq.{drop_at}
use Rattle.reading.specs.Reading.{Cursor, frame, over, over_all}
use Rattle.channel.specs.declared.Terms.{Terms}
use Rattle.channel.specs.Verdict.{Context}
use Rattle.channel.specs.Frames.{Frame, rules}
use Rattle.channel.specs.Record.{record_of, size_of}
use Rattle.channel.specs.Sound.{SoundAs, sound_number}
use Rattle.numbers.proofs.SizeLaws.{record_length, size_pos}
use Rattle.taken.specs.Taken.{items, Taken, Decides}
use Rattle.taken.specs.Judged.{Fails, JudgedAs}
use Rattle.taken.proofs.TakeLaws.{taken_more}

-- what is left behind the record of a frame that some bytes begin with
module _ (terms : Terms) (bytes : List ℕ) (f : Frame) (rest : List ℕ) (s : SoundAs terms bytes f rest) where
  pub rest-is : drop (size_of (frame f)) bytes ≡ rest
  rest-is = ap (drop (size_of (frame f))) s.front ∙ drop_at (record_of (frame f)) rest (size_of (frame f)) (record_length (frame f))

  pub rest_length : length bytes ≡ size_of (frame f) + length rest
  rest_length = omega (arith, ap length s.front, length-append (record_of (frame f)) rest, record_length (frame f))

-- the cursor moved on over one frame more
pub over-more : (c : Cursor Context) (fs : List Frame) (f : Frame) → over_all rules c (items (fs ++ (f ∷ []))) ≡ over rules (over_all rules c (items fs)) (frame f)
over-more c [] f = refl
over-more c (g ∷ fs) f = over-more (over rules c (frame g)) fs f

-- the state of the loop that judges, which has some bytes left
pub record Judging (terms : Terms) (bits : ℕ) (c : Cursor Context) (bytes left : List ℕ) (count : ℕ) (cursor : Cursor Context) : Type 0 where
  pub done : List Frame
  pub taken : Taken terms bits c bytes done left
  pub counted : count ≡ length done
  pub moved : cursor ≡ over_all rules c (items done)
  pub few : count + length left ≤ length bytes

module _ (terms : Terms) (bits : ℕ) (c : Cursor Context) (bytes : List ℕ) where
  -- nothing is judged
  pub judge_start : Judging terms bits c bytes bytes 0 c
  judge_start = record { done = []; taken = refl; counted = refl; moved = refl; few = omega arith }

  module _ (left : List ℕ) (count : ℕ) (cursor : Cursor Context) (j : Judging terms bits c bytes left count cursor) where
    -- one record more is taken
    pub judge_turn : (f : Frame) (next : Cursor Context) (size : ℕ) → ((rest : List ℕ) × SoundAs terms left f rest) → sound_number terms bits cursor f ≡ 0
        → next ≡ over rules cursor (frame f) → size ≡ size_of (frame f) → Judging terms bits c bytes (drop size left) (count + 1) next
    judge_turn f next size (rest, s) z r q =
        let n : sound_number terms bits (over_all rules c (items j.done)) f ≡ 0 = subst (λ (y : Cursor Context). sound_number terms bits y f ≡ 0) j.moved z in
        let t : Taken terms bits c bytes (j.done ++ (f ∷ [])) rest = taken_more terms bits c bytes j.done left f rest j.taken s n in
        let a : drop size left ≡ rest = ap (λ (k : ℕ). drop k left) q ∙ rest-is terms left f rest s in
        record {
          done = j.done ++ (f ∷ []);
          taken = subst (Taken terms bits c bytes (j.done ++ (f ∷ []))) (sym a) t;
          counted = omega (arith, j.counted, length-append j.done (f ∷ []));
          moved = r ∙ ap (λ (y : Cursor Context). over rules y (frame f)) j.moved ∙ sym (over-more c j.done f);
          few = omega (arith, j.few, rest_length terms left f rest s, ap length a, size_pos (frame f));
        }

    -- a record fails, by the number that decides there
    pub judged-fails : (number : ℕ) → 0 < number → Fails terms bits cursor left number → 0 < length left → JudgedAs terms bits c bytes number count cursor
    judged-fails number some fails more =
        record {
          frames = j.done;
          left = left;
          taken = j.taken;
          decides = decides_by left more (subst (λ (y : Cursor Context). Fails terms bits y left number) j.moved fails);
          counted = j.counted;
          moved = j.moved;
        }
      where
        decides_by : (bytes : List ℕ) → 0 < length bytes → Fails terms bits (over_all rules c (items j.done)) bytes number → Decides terms bits (over_all rules c (items j.done)) bytes number
        decides_by [] more x = absurd (omega arith)
        decides_by (b ∷ bs) more (inl u) = inl u
        decides_by (b ∷ bs) more (inr (f, rest, s, e)) = inr (f, rest, s, e, some)

    -- none is left
    pub judged-all : length left ≡ 0 → JudgedAs terms bits c bytes 0 count cursor
    judged-all none =
        record {
          frames = j.done;
          left = left;
          taken = j.taken;
          decides = decides_none left none;
          counted = j.counted;
          moved = j.moved;
        }
      where
        decides_none : (bytes : List ℕ) → length bytes ≡ 0 → Decides terms bits (over_all rules c (items j.done)) bytes 0
        decides_none [] e = refl
        decides_none (b ∷ bs) e = absurd (omega arith)

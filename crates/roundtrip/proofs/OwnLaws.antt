-- Demand 2 at the calls, own bits: a stretch of frames without a gap, written from the cursor it was read at, is refused only by 4, exactly where it ends
-- past the buffer, and else gives its own bits.
-- Assumes nothing.
use mathlib.Core.Path.{◌≡◌, refl, sym, ◌∙◌, ap, subst}
use mathlib.Core.Logic.{inr, by_cases}
use mathlib.Core.Bool.{Bool, true, false, cond}
use mathlib.Core.List.{List, [], ◌∷◌, ◌++◌}
use Prim.Native.Nat.{ℕ, suc, ◌+◌, ◌*◌, ◌-◌, ◌≤◌, ◌<◌}
use native.Mathlib.Decide.{dec_lt}
use native.Mathlib.Omega.{arith}
use borrow.Author.Tests.{ltb-true, ltb-false, lt-ltb, le-ltb, eq-eqb}
use lib.Dec.{ltb}
use lib.ListN.{length, take, drop}
use lib.Seq.{length-take-le}
use Rattle.reading.specs.Reading.{Cursor, frame, over, over_all, Stretch}
use Rattle.reading.proofs.ReadingLaws.{stretch-later}
use Rattle.bits.specs.Bit.{bit_at}
use Rattle.bits.specs.Put.{put_bits}
use Rattle.channel.specs.declared.Terms.{Terms}
use Rattle.channel.specs.Verdict.{Context, verdict_of}
use Rattle.channel.specs.Frames.{Capture, capture_of, Frame, Due, behind, rules}
use Rattle.channel.proofs.FrameLaws.{sound}
use Rattle.channel.specs.Record.{record_of, records}
use Rattle.apart.proofs.OneLaws.{obeys-fit}
use Rattle.channel.specs.Sound.{SoundAs, sound_number}
use Rattle.call.specs.declared.Answer.{Answer}
use Rattle.call.specs.Call.{terms_by, cursor_by, answered_by, refused_at}
use Rattle.call.specs.declared.WriteRequest.{WriteRequest}
use Rattle.refusal.specs.Refusal.{write_refusal}
use Rattle.taken.specs.Taken.{items, Taken, Decides}
use Rattle.putting.specs.FrameBits.{all_bits}
use Rattle.writing.specs.Writing.{WrittenBy, WriteCall}
use Rattle.refusal.proofs.RefusalLaws.{writable}
use Rattle.writing.proofs.WriteLaws.{Accepted, accepted, accepted_reach, write-one}
use Rattle.roundtrip.proofs.ShownLaws.{stretch_shows}
use Rattle.roundtrip.proofs.RoundLaws.{accepted_shows}

-- of some frames from a cursor on, that of the index is the first to end past so many bits
pub record FirstPast (bits : ℕ) (c : Cursor Context) (fs : List Frame) (index : ℕ) : Type 0 where
  pub inside : index < length fs
  pub before : (over_all rules c (items (take index fs))).position ≤ bits
  pub past : bits < (over_all rules c (items (take (suc index) fs))).position

-- the records before that frame are taken, and it decides by 4
record Stops (terms : Terms) (bits : ℕ) (c : Cursor Context) (fs : List Frame) : Type 0 where
  index : ℕ
  first : FirstPast bits c fs index
  taken : Taken terms bits c (records (items fs)) (take index fs) (records (items (drop index fs)))
  decides : Decides terms bits (over_all rules c (items (take index fs))) (records (items (drop index fs))) 4

module _ (w : Capture) (short : w.n < 4294967296) (bits : ℕ) where
  -- a frame that is due has a sound record
  due-sound : (c : Cursor Context) (f : Frame) (rest : List ℕ) → Due w c.context c.position f → SoundAs w.terms (record_of (frame f) ++ rest) f rest
  due-sound c f rest o = record { fit = obeys-fit w short c (frame f) o; least = o.stands.least; front = refl }

  -- and is refused only by 4, where it ends past the buffer
  due-number : (c : Cursor Context) (f : Frame) (b : Bool) → Due w c.context c.position f → ltb bits (behind f) ≡ b → sound_number w.terms bits c f ≡ cond b 4 0
  due-number c f b o e = rw (eq-eqb f.start c.position o.stands.at, eq-eqb f.verdict (verdict_of w.terms c.context f.body f.kind) o.judged, o.allows, e)

  due-decides : (c : Cursor Context) (f : Frame) (rest : List ℕ) → Due w c.context c.position f → bits < behind f → Decides w.terms bits c (record_of (frame f) ++ rest) 4
  unfolding record_of
  due-decides c f rest o h = inr (f, rest, due-sound c f rest o, sym (due-number c f true o (lt-ltb bits (behind f) h)), omega arith)

  -- a stretch of frames that ends by the end of the buffer is taken
  stretch-taken : (c : Cursor Context) (fs : List Frame) → Stretch rules w c (items fs) → (over_all rules c (items fs)).position ≤ bits → Taken w.terms bits c (records (items fs)) fs []
  stretch-taken c [] s h = refl
  stretch-taken c (f ∷ fs) s h =
      let l : behind f ≤ bits = omega (arith, stretch-later rules w (sound w) (over rules c (frame f)) (items fs) s.1) in (
        records (items fs),
        due-sound c f (records (items fs)) s.0,
        due-number c f false s.0 (le-ltb bits (behind f) l),
        stretch-taken (over rules c (frame f)) fs s.1 h,
      )

  -- and one that does not stops at the first frame that ends past it
  stretch-stops : (c : Cursor Context) (fs : List Frame) → Stretch rules w c (items fs) → c.position ≤ bits → bits < (over_all rules c (items fs)).position → Stops w.terms bits c fs
  stretch-stops c [] s l h = absurd (omega arith)
  stretch-stops c (f ∷ fs) s l h = go (ltb bits (behind f)) refl (λ m. stretch-stops (over rules c (frame f)) fs s.1 m h)
    where
      go : (b : Bool) → ltb bits (behind f) ≡ b → (behind f ≤ bits → Stops w.terms bits (over rules c (frame f)) fs) → Stops w.terms bits c (f ∷ fs)
      go true e rest =
          record {
            index = 0;
            first = record { inside = omega arith; before = l; past = ltb-true bits (behind f) e };
            taken = refl;
            decides = due-decides c f (records (items fs)) s.0 (ltb-true bits (behind f) e);
          }
      go false e rest =
          let r = rest (ltb-false bits (behind f) e) in
          record {
            index = suc r.index;
            first = record { inside = omega (arith, r.first.inside); before = r.first.before; past = r.first.past };
            taken = (records (items fs), due-sound c f (records (items fs)) s.0, due-number c f false s.0 e, r.taken);
            decides = r.decides;
          }

module _ (capture : List ℕ) (n : ℕ) (ask : WriteRequest) (short : n < 4294967296) (fs : List Frame)
    (stretch : Stretch rules (capture_of capture n (terms_by ask.terms)) (cursor_by ask.cursor) (items fs)) (buffer : List ℕ) where
  abbrev w : Capture
  w = capture_of capture n (terms_by ask.terms)

  abbrev c : Cursor Context
  c = cursor_by ask.cursor

  -- what is answered of the stretch written
  abbrev all : Answer
  all = answered_by (length fs) 0 (over_all rules c (items fs))

  abbrev end : ℕ
  end = (over_all rules c (items fs)).position

  abbrev refusal : ℕ
  refusal = write_refusal (length (records (items fs))) ask (length buffer)

  module _ (a : Answer) (after : List ℕ) (call : WriteCall (records (items fs)) ask buffer a after) where
    -- a stretch that ends by the end of the buffer is written
    own_fits : refusal ≡ 0 → end ≤ 8 * length buffer → (a ≡ all) × (after ≡ put_bits buffer ask.cursor.position (all_bits fs))
    own_fits z h =
        write-one (records (items fs)) ask buffer a all after (put_bits buffer ask.cursor.position (all_bits fs)) call
        (subst (λ (k : ℕ). WrittenBy k (terms_by ask.terms) ask.cursor (records (items fs)) buffer all (put_bits buffer ask.cursor.position (all_bits fs))) (sym z)
        (fs, [], 0, stretch-taken w short (8 * length buffer) c fs stretch h, refl, (refl, refl)))

    -- and one that does not is refused at the first frame that ends past it
    own_past : refusal ≡ 0 → 8 * length buffer < end → (a.number ≡ 4) × FirstPast (8 * length buffer) c fs a.index
    own_past z h =
        let l = (writable (length (records (items fs))) ask (length buffer) z).inside in
        let s = stretch-stops w short (8 * length buffer) c fs stretch l h in
        let i : s.index ≡ length (take s.index fs) = sym (length-take-le s.index fs (omega (arith, s.first.inside))) in
        let r =
        write-one (records (items fs)) ask buffer a (refused_at 4 s.index ask.cursor) after buffer call
        (subst (λ (k : ℕ). WrittenBy k (terms_by ask.terms) ask.cursor (records (items fs)) buffer (refused_at 4 s.index ask.cursor) buffer) (sym z)
        (take s.index fs, records (items (drop s.index fs)), 4, s.taken, s.decides, (ap (λ (k : ℕ). refused_at 4 k ask.cursor) i, refl))) in
        (ap (λ (b : Answer). b.number) r.0, subst (FirstPast (8 * length buffer) c fs) (sym (ap (λ (b : Answer). b.index) r.0)) s.first)

    -- exactly when: a stretch that 1 to 3 do not refuse is refused by 4 where it ends past the buffer, and else not at all
    pub own_number : refusal ≡ 0 → a.number ≡ cond (ltb (8 * length buffer) end) 4 0
    own_number z =
        by_cases (dec_lt (8 * length buffer) end)
        (λ (h : 8 * length buffer < end). rw (lt-ltb (8 * length buffer) end h) (own_past z h).0)
        (λ (h : ¬ (8 * length buffer < end)). rw (le-ltb (8 * length buffer) end (omega arith)) (ap (λ (b : Answer). b.number) (own_fits z (omega arith)).0))

    -- if it is, the index is that of the first frame that ends past the buffer
    pub own_index : refusal ≡ 0 → a.number ≡ 4 → FirstPast (8 * length buffer) c fs a.index
    own_index z four =
        by_cases (dec_lt (8 * length buffer) end)
        (λ (h : 8 * length buffer < end). (own_past z h).1)
        (λ (h : ¬ (8 * length buffer < end)). absurd (omega (arith, ap (λ (b : Answer). b.number) (own_fits z (omega arith)).0)))

    module _ (taken-up : a.number ≡ 0) where
      admits : refusal ≡ 0
      admits = (accepted (records (items fs)) ask buffer a after call taken-up).admitted

      fits : end ≤ 8 * length buffer
      fits =
          by_cases (dec_lt (8 * length buffer) end)
          (λ (h : 8 * length buffer < end). absurd (omega (arith, (own_past admits h).0)))
          (λ (h : ¬ (8 * length buffer < end)). omega arith)

      -- not refused, it is answered with its items and the cursor behind it
      pub own_answer : a ≡ all
      own_answer = (own_fits admits fits).0

      -- and gives its own bits
      pub own_bits : (i : ℕ) → ask.cursor.position ≤ i → i < a.position → bit_at after i ≡ bit_at capture i
      own_bits i l h =
          let s : Accepted (records (items fs)) ask buffer a after =
          record {
            admitted = admits;
            frames = fs;
            whole = stretch-taken w short (8 * length buffer) c fs stretch fits;
            answered = own_answer;
            put = (own_fits admits fits).1;
          } in
          let e : i ≡ ask.cursor.position + (i - ask.cursor.position) = omega arith in
          let m : i - ask.cursor.position < length (all_bits fs) = omega (arith, accepted_reach (records (items fs)) ask buffer a after s) in
          ap (bit_at after) e ∙ accepted_shows (records (items fs)) ask buffer a after s (i - ask.cursor.position) m
          ∙ sym (stretch_shows w c fs stretch (i - ask.cursor.position) m) ∙ ap (bit_at capture) (sym e)

-- Writing by its number: no second answer fits a request; a refusal leaves all as given; the length of the buffer and every bit that is not put stay.
-- Assumes nothing.
use mathlib.Core.Path.{◌≡◌, refl, sym, ◌∙◌, ap, ap₂, subst, subst₂}
use mathlib.Core.Logic.{◌⊎◌, inl, inr}
use mathlib.Core.List.{List, []}
use Prim.Native.Nat.{ℕ, zero, suc, ◌+◌, ◌*◌, ◌≤◌, ◌<◌}
use native.Mathlib.Omega.{arith}
use lib.ListN.{length}
use Rattle.reading.specs.Reading.{Cursor, over_all}
use Rattle.bits.specs.Bit.{bit_at}
use Rattle.bits.specs.Put.{put_bits}
use Rattle.put.proofs.PutLaws.{length_puts, puts_before, puts_past}
use Rattle.channel.specs.declared.Terms.{Terms}
use Rattle.channel.specs.Verdict.{Context}
use Rattle.channel.specs.Frames.{Frame, rules}
use Rattle.call.specs.declared.CursorNumbers.{CursorNumbers}
use Rattle.call.specs.declared.Answer.{Answer}
use Rattle.call.specs.Call.{terms_by, cursor_by, answered_by, refused_at}
use Rattle.call.specs.declared.WriteRequest.{WriteRequest}
use Rattle.refusal.specs.Refusal.{write_refusal}
use Rattle.refusal.proofs.RefusalLaws.{writable}
use Rattle.taken.specs.Taken.{items, Taken, Decides}
use Rattle.taken.proofs.TakeLaws.{decides-all, taken-one, taken-within}
use Rattle.putting.specs.FrameBits.{all_bits}
use Rattle.putting.proofs.FrameLaws.{taken-length}
use Rattle.writing.specs.Writing.{Put, WrittenBy, WriteCall}

-- a request that was not refused: the frames whose records were taken, and what was answered and put of them
pub record Accepted (bytes : List ℕ) (ask : WriteRequest) (buffer : List ℕ) (a : Answer) (after : List ℕ) : Type 0 where
  pub admitted : write_refusal (length bytes) ask (length buffer) ≡ 0
  pub frames : List Frame
  pub whole : Taken (terms_by ask.terms) (8 * length buffer) (cursor_by ask.cursor) bytes frames []
  pub answered : a ≡ answered_by (length frames) 0 (over_all rules (cursor_by ask.cursor) (items frames))
  pub put : after ≡ put_bits buffer ask.cursor.position (all_bits frames)

-- a request that was: 0 items, 0 bytes, the cursor as given, and all lent bytes stand
pub record Refused (cursor : CursorNumbers) (buffer : List ℕ) (a : Answer) (after : List ℕ) : Type 0 where
  pub numbered : 0 < a.number
  pub answered : a ≡ refused_at a.number a.index cursor
  pub stands : after ≡ buffer

module _ (bytes : List ℕ) (ask : WriteRequest) (buffer : List ℕ) where
  abbrev terms : Terms
  terms = terms_by ask.terms

  abbrev c : Cursor Context
  c = cursor_by ask.cursor

  abbrev refusal : ℕ
  refusal = write_refusal (length bytes) ask (length buffer)

  put_one : (number : ℕ) (fs : List Frame) (a b : Answer) (after later : List ℕ) → Put number ask.cursor fs buffer a after → Put number ask.cursor fs buffer b later → (a ≡ b) × (after ≡ later)
  put_one zero fs a b after later p q = (p.0 ∙ sym q.0, p.1 ∙ sym q.1)
  put_one (suc number) fs a b after later p q = (p.0 ∙ sym q.0, p.1 ∙ sym q.1)

  -- no second answer and no second buffer fit a request
  pub write-one : (a b : Answer) (after later : List ℕ) → WriteCall bytes ask buffer a after → WriteCall bytes ask buffer b later
      → (a ≡ b) × (after ≡ later)
  write-one a b after later = go refusal
    where
      go : (number : ℕ) → WrittenBy number terms ask.cursor bytes buffer a after → WrittenBy number terms ask.cursor bytes buffer b later → (a ≡ b) × (after ≡ later)
      go zero (fs, l, j, t, x, p) (gs, m, k, u, y, q) =
          let (e, v, n) = taken-one terms (8 * length buffer) c bytes fs gs l m j k t x u y in
          put_one j fs a b after later p (subst₂ (λ (gs : List Frame) (k : ℕ). Put k ask.cursor gs buffer b later) (sym e) (sym n) q)
      go (suc number) x y = (x.0 ∙ sym y.0, x.1 ∙ sym y.1)

  -- every request is accepted or refused
  pub outcome : (a : Answer) (after : List ℕ) → WriteCall bytes ask buffer a after
      → Accepted bytes ask buffer a after ⊎ Refused ask.cursor buffer a after
  outcome a after call = go refusal refl call
    where
      refused_as : (number index : ℕ) → a ≡ refused_at (suc number) index ask.cursor → after ≡ buffer → Refused ask.cursor buffer a after
      refused_as number index e q =
          let n : a.number ≡ suc number = ap (λ (b : Answer). b.number) e in
          let i : a.index ≡ index = ap (λ (b : Answer). b.index) e in
          record { numbered = omega arith; answered = e ∙ ap₂ (λ (n i : ℕ). refused_at n i ask.cursor) (sym n) (sym i); stands = q }

      decided : refusal ≡ 0 → (number : ℕ) (fs : List Frame) (left : List ℕ) → Taken terms (8 * length buffer) c bytes fs left → Decides terms (8 * length buffer) (over_all rules c (items fs)) left number
          → Put number ask.cursor fs buffer a after → Accepted bytes ask buffer a after ⊎ Refused ask.cursor buffer a after
      decided z zero fs left t x p =
          inl (record {
            admitted = z;
            frames = fs;
            whole = subst (Taken terms (8 * length buffer) c bytes fs) (decides-all terms (8 * length buffer) (over_all rules c (items fs)) left x) t;
            answered = p.0;
            put = p.1;
          })
      decided z (suc number) fs left t x p = inr (refused_as number (length fs) p.0 p.1)

      go : (number : ℕ) → refusal ≡ number → WrittenBy number terms ask.cursor bytes buffer a after → Accepted bytes ask buffer a after ⊎ Refused ask.cursor buffer a after
      go zero z (fs, left, number, t, x, p) = decided z number fs left t x p
      go (suc number) z p = inr (refused_as number 0 p.0 p.1)

module _ (bytes : List ℕ) (ask : WriteRequest) (buffer : List ℕ) (a : Answer) (after : List ℕ) where
  -- the bits put reach from the cursor given to the cursor answered
  pub accepted_reach : (s : Accepted bytes ask buffer a after) → ask.cursor.position + length (all_bits s.frames) ≡ a.position
  accepted_reach s =
      taken-length (terms_by ask.terms) (8 * length buffer) (cursor_by ask.cursor) bytes s.frames [] s.whole
      ∙ sym (ap (λ (b : Answer). b.position) s.answered)

  -- and lie in the buffer
  pub accepted_fits : (s : Accepted bytes ask buffer a after) → ask.cursor.position + length (all_bits s.frames) ≤ 8 * length buffer
  accepted_fits s =
      omega (
        arith,
        taken-length (terms_by ask.terms) (8 * length buffer) (cursor_by ask.cursor) bytes s.frames [] s.whole,
        taken-within (terms_by ask.terms) (8 * length buffer) (cursor_by ask.cursor) bytes s.frames [] s.whole (writable (length bytes) ask (length buffer) s.admitted).inside,
      )

  module _ (call : WriteCall bytes ask buffer a after) where
    -- a request that is answered number 0 is accepted
    pub accepted : a.number ≡ 0 → Accepted bytes ask buffer a after
    accepted z = go (outcome bytes ask buffer a after call)
      where
        go : Accepted bytes ask buffer a after ⊎ Refused ask.cursor buffer a after → Accepted bytes ask buffer a after
        go (inl s) = s
        go (inr r) = absurd (omega (arith, r.numbered))

    -- the buffer keeps its length, refused or not
    pub write-length : length after ≡ length buffer
    write-length = go (outcome bytes ask buffer a after call)
      where
        go : Accepted bytes ask buffer a after ⊎ Refused ask.cursor buffer a after → length after ≡ length buffer
        go (inl s) = ap length s.put ∙ length_puts (all_bits s.frames) buffer ask.cursor.position
        go (inr r) = ap length r.stands

    -- other bits keep their value: those before the cursor given, and those from the cursor answered on
    pub write-others : (i : ℕ) → (i < ask.cursor.position) ⊎ (a.position ≤ i) → bit_at after i ≡ bit_at buffer i
    write-others i = go (outcome bytes ask buffer a after call)
      where
        off : (s : Accepted bytes ask buffer a after) → (i < ask.cursor.position) ⊎ (a.position ≤ i) → bit_at (put_bits buffer ask.cursor.position (all_bits s.frames)) i ≡ bit_at buffer i
        off s (inl h) = puts_before (all_bits s.frames) buffer ask.cursor.position i (accepted_fits s) h
        off s (inr h) = puts_past (all_bits s.frames) buffer ask.cursor.position i (accepted_fits s) (omega (arith, accepted_reach s))

        go : Accepted bytes ask buffer a after ⊎ Refused ask.cursor buffer a after → (i < ask.cursor.position) ⊎ (a.position ≤ i) → bit_at after i ≡ bit_at buffer i
        go (inl s) o = ap (λ (l : List ℕ). bit_at l i) s.put ∙ off s o
        go (inr r) o = ap (λ (l : List ℕ). bit_at l i) r.stands

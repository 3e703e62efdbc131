-- What writing answers (document 01, "Records and calls": Writing and the table of numbers).
-- Assumes nothing.
use Rattle.std.specs.Prelude.{◌≡◌, List, ℕ, zero, suc, ◌*◌, length}
use Rattle.reading.specs.Reading.{over_all}
use Rattle.bits.specs.Put.{put_bits}
use Rattle.channel.specs.declared.Terms.{Terms}
use Rattle.channel.specs.Frames.{Frame, rules}
use Rattle.call.specs.declared.CursorNumbers.{CursorNumbers}
use Rattle.call.specs.declared.Answer.{Answer}
use Rattle.call.specs.Call.{terms_by, cursor_by, answered_by, refused, refused_at}
use Rattle.call.specs.declared.WriteRequest.{WriteRequest}
use Rattle.refusal.specs.Refusal.{write_refusal}
use Rattle.taken.specs.Taken.{items, Taken, Decides}
use Rattle.putting.specs.FrameBits.{all_bits}

-- by the number that decides: body and tail bits are put from the cursor's position on and other bits keep their value, items and the cursor after are
-- answered, with 0 bytes; or the record's index is answered and the buffer is as it was
abbrev pub Put : ℕ → CursorNumbers → List Frame → List ℕ → Answer → List ℕ → Type 0
Put zero c fs buffer answer after = (answer ≡ answered_by (length fs) 0 (over_all rules (cursor_by c) (items fs))) × (after ≡ put_bits buffer c.position (all_bits fs))
Put (suc number) c fs buffer answer after = (answer ≡ refused_at (suc number) (length fs) c) × (after ≡ buffer)

-- a request that 1 to 3 do not refuse: records are taken one by one, and the first that fails decides
abbrev pub Written : Terms → CursorNumbers → List ℕ → List ℕ → Answer → List ℕ → Type 0
Written terms c records buffer answer after =
    (fs : List Frame)
    × (left : List ℕ)
    × (number : ℕ)
    × Taken terms (8 * length buffer) (cursor_by c) records fs left
    × Decides terms (8 * length buffer) (over_all rules (cursor_by c) (items fs)) left number
    × Put number c fs buffer answer after

-- by the number: a refusal leaves the buffer as it was
abbrev pub WrittenBy : ℕ → Terms → CursorNumbers → List ℕ → List ℕ → Answer → List ℕ → Type 0
WrittenBy zero terms c records buffer answer after = Written terms c records buffer answer after
WrittenBy (suc number) terms c records buffer answer after = (answer ≡ refused (suc number) c) × (after ≡ buffer)

-- every request: the records, what is asked of them, the buffer; the answer, and the buffer after it
abbrev pub WriteCall : List ℕ → WriteRequest → List ℕ → Answer → List ℕ → Type 0
WriteCall records r buffer answer after =
    WrittenBy (write_refusal (length records) r (length buffer)) (terms_by r.terms) r.cursor records buffer answer after

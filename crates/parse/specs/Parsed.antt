-- The frame of a record, as the code takes it from the record's bytes.
-- Assumes nothing.
use Rattle.std.specs.Prelude.{◌≡◌, cond, List, [], ◌∷◌, ℕ, ◌+◌, ◌<◌, ltb, length, get_or, drop, Option, Some, None, IfSome}
use Rattle.channel.specs.declared.Kind.{Kind}
use Rattle.channel.specs.declared.Kind.TheVariants.{Speech, Data, Om, Configuration, NoSpeech, Lower, Amr670, Amr740}
use Rattle.channel.specs.Record.{number_at, d_length}
use Rattle.plans.specs.declared.Plans.{Plans}
use Rattle.plans.specs.Made.{Made}
use Rattle.item.specs.declared.Frame.{Frame}
use Rattle.octets.specs.Built.{octets_by}

-- the kind by its number
abbrev pub kind_by : ℕ → Option Kind
kind_by n = get_or (None ∷ Some Speech ∷ Some Data ∷ Some Om ∷ Some Configuration ∷ Some NoSpeech ∷ Some Lower ∷ Some Amr670 ∷ Some Amr740 ∷ []) n None

-- the frame of a kind, by the bytes of its record
abbrev pub record_as : Kind → List ℕ → Frame
record_as k bytes =
    record {
      kind = k;
      octets = octets_by k (get_or bytes 9 0) (get_or bytes 10 0) (drop 12 bytes);
      start = number_at bytes 1;
      tail = number_at bytes 5;
      verdict = get_or bytes 11 0;
    }

-- the frame whose record is in front of some bytes, by the kind that the first names: none where that is none or the record is cut short
abbrev pub record_in : Option Kind → List ℕ → Option Frame
record_in (Some k) bytes = cond (ltb (length bytes) (12 + d_length k)) None (Some (record_as k bytes))
record_in None bytes = None

abbrev pub record_from : List ℕ → Option Frame
record_from bytes = record_in (kind_by (get_or bytes 0 0)) bytes

-- the frame whose record is in front of some bytes, or none; start and tail fit four bytes
pub record RecordBy (bytes : List ℕ) (r : Option Frame) : Type 0 where
  pub is : r ≡ record_from bytes
  pub start_fits : IfSome r (λ f. f.start < 4294967296)
  pub tail_fits : IfSome r (λ f. f.tail < 4294967296)

-- the plan of a frame's kind is made; where there is no frame, none is asked for
abbrev pub PlanFor : Option Frame → Plans → Type 0
PlanFor r plans = IfSome r (λ f. Made plans f.kind)

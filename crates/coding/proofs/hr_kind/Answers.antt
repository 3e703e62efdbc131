-- `coding::hr_kind` meets its contract.
-- Assumes nothing.
use mathlib.Core.Path.{refl}
use Rattle.bits.specs.Bit.{bit_at}
use Rattle.word.specs.Words.{octets_in}
use Rattle.coding.proofs.CodingLaws.{hr_even, hr_c4, hr_this, hr_speech, hr_om}
use Rattle.coding.proofs.hr_kind.Goals as goal
use Rattle.coding.proofs.hr_kind.Goals.{then-not-odd_ones-via-then-not-odd_ones, then-not-odd_ones-via-else-not-odd_ones+then-not-c4_coded}

pub returns-then-not-odd_ones : goal.returns-then-not-odd_ones
returns-then-not-odd_ones c =
    let g = bit_at (octets_in c.args.w) in
    let f = c.field-c in
    elim c.then-not-odd_ones.branch [
      | then-not-odd_ones-via-then-not-odd_ones w ↦ hr_even c.args.d g f.result f.ensures.1 w.if-not-odd_ones.ensures
      | then-not-odd_ones-via-else-not-odd_ones+then-not-c4_coded w ↦ hr_c4 c.args.d g f.result f.ensures.1 w.if-not-c4_coded.ensures
    ]

pub returns-in-0 : goal.returns-in-0
returns-in-0 c =
    let f = c.field-c in
    rw c.then_some.ensures (hr_speech c.args.d (bit_at (octets_in c.args.w)) f.result f.ensures.1 c.if-not-odd_ones.ensures c.if-not-c4_coded.ensures c.in-0.is c.speech_xc.result c.speech_xc.ensures)

pub returns-in-1 : goal.returns-in-1
returns-in-1 c = let f = c.field-c in (refl, hr_this c.args.d (bit_at (octets_in c.args.w)) f.result f.ensures.1 c.if-not-odd_ones.ensures c.if-not-c4_coded.ensures 1 c.in-1.is)

pub returns-in-2 : goal.returns-in-2
returns-in-2 c =
    let f = c.field-c in
    rw c.then_some-in-2.ensures (hr_om c.args.d (bit_at (octets_in c.args.w)) f.result f.ensures.1 c.if-not-odd_ones.ensures c.if-not-c4_coded.ensures c.in-2.is c.om_xc.result c.om_xc.ensures)

pub returns-in-7 : goal.returns-in-7
returns-in-7 c = let f = c.field-c in (refl, hr_this c.args.d (bit_at (octets_in c.args.w)) f.result f.ensures.1 c.if-not-odd_ones.ensures c.if-not-c4_coded.ensures 7 c.in-7.is)

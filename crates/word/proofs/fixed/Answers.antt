-- `word::fixed` meets its contract: the three words, each under its mask.
-- Assumes nothing.
use native.Mathlib.Omega.{arith}
use Rattle.bits.specs.Bit.{bit_at}
use Rattle.word.specs.Words.{octets_in}
use Rattle.word.proofs.MaskLaws.{fixed_low}
use Rattle.word.proofs.OctetLaws.{held, held_low}
use Rattle.word.proofs.fixed.Goals as goal

pub returns : goal.returns
returns c =
    let w = c.args.w in
    let m = c.args.mask in
    let v = c.args.value in
    record {
      octets = λ zeros ons by.
          fixed_low (bit_at (octets_in w)) zeros ons (octets_in m) (octets_in v) w.a w.b w.c m.a m.b m.c v.a v.b v.c
          (held w (omega arith) (omega arith)) (held m (omega arith) (omega arith)) (held v (omega arith) (omega arith)) by;
      holds = λ o zeros ons fixed ones h k l by.
          fixed_low (bit_at o) zeros ons fixed ones w.a w.b w.c m.a m.b m.c v.a v.b v.c (held_low _ _ _ _ h) (held_low _ _ _ _ k) (held_low _ _ _ _ l) by;
    }

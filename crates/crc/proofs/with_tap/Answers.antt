-- `crc::with_tap` meets its contract: one bit of one of the three masks is turned.
-- Assumes nothing.
use native.Mathlib.Omega.{arith}
use Rattle.crc.proofs.ParityLaws.{tap_first, tap_second, tap_third}
use Rattle.crc.proofs.with_tap.Goals as goal

pub returns-in-0-to-63 : goal.returns-in-0-to-63
returns-in-0-to-63 c = λ ps t e h. let a = c.args in tap_first ps t a.m.a a.m.b a.m.c a.p a.x e h (omega arith)

pub returns-in-64-to-127 : goal.returns-in-64-to-127
returns-in-64-to-127 c = λ ps t e h. let a = c.args in tap_second ps t a.m.a a.m.b a.m.c a.p a.x e h (omega arith) (omega arith)

pub returns-in_default : goal.returns-in_default
returns-in_default c = λ ps t e h. let a = c.args in tap_third ps t a.m.a a.m.b a.m.c a.p a.x e h (omega arith) (omega arith)

-- `bits::octet` meets its contract: one law for each way out, by where n falls.
-- Assumes nothing.
use Prim.Native.Nat.{◌+◌, ◌/◌}
use mathlib.Core.Path.{◌≡◌}
use native.Mathlib.Omega.{arith}
use borrow.Author.Rules.{rules}
use lib.ListN.{get_or}
use Rattle.bits.specs.Bit.{bit_at}
use Rattle.bits.proofs.BitLaws.{octet-past, octet-whole, octet_edge}
use Rattle.bits.proofs.octet.Goals as goal

pub returns-then-n-q : goal.returns-then-n-q
returns-then-n-q c = let a = c.args in octet-past (bit_at a.s.now) a.n a.q (omega arith)

pub returns-then-q-n : goal.returns-then-q-n
returns-then-q-n c =
    let a = c.args in
    let next : c.unwrap_or-next.result ≡ get_or a.s.now (a.q / 8 + 1) 0 = search rules in
    octet-whole a.s.now a.n a.q c.join-x.result (rw (← next) (omega arith)) (rw next at c.join-x.ensures) (omega arith)

pub returns : goal.returns
returns c =
    let a = c.args in
    let next : c.unwrap_or-next.result ≡ get_or a.s.now (a.q / 8 + 1) 0 = search rules in
    octet_edge a.s.now a.n a.q c.join-x.result c.top.result (rw (← next) (omega arith)) (rw next at c.join-x.ensures) (omega arith) c.top.ensures (omega arith) (omega arith)

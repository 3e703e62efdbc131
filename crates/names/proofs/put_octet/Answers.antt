-- `names::put_octet` meets its contract.
-- Assumes nothing.
use mathlib.Core.Path.{◌≡◌, ◌∙◌, ap}
use native.Mathlib.Omega.{arith}
use lib.ListN.{length}
use Rattle.text.proofs.TextLaws.{put-put, same_same}
use Rattle.names.specs.Names.{name_of}
use Rattle.names.proofs.NameLaws.{name-long, names_long, number-long, number_put, names_next}
use Rattle.names.proofs.put_octet.Goals as goal

pub put-requires-in-loop-i : goal.put-requires-in-loop-i
put-requires-in-loop-i c =
    let a = c.args in
    let l = c.loop-i in
    let number = number_put a.octet c.lettered-number.ensures c.put.ensures.put in
    omega
    (arith, c.requires.1, number.ends, c.put.ensures.same.long, number-long a.octet, l.invariant.0.ends, l.invariant.1.long, names_long a.k a.octet l.i, ap length c.name.ensures, name-long c.cell_at.result)

pub loop-i-preserved : goal.loop-i-preserved
loop-i-preserved c =
    let a = c.args in
    let l = c.loop-i in
    let p = c.put-in-loop-i.ensures in
    (names_next a.k a.octet l.i l.invariant.0 (c.name.ensures ∙ ap name_of c.cell_at.ensures) p.put, same_same l.invariant.1 p.same)

pub put-requires-2 : goal.put-requires-2
put-requires-2 c =
    let a = c.args in
    let l = c.loop-i in
    let number = number_put a.octet c.lettered-number.ensures c.put.ensures.put in
    omega (arith, c.requires.1, number.ends, c.put.ensures.same.long, number-long a.octet, l.invariant.0.ends, l.invariant.1.long, names_long a.k a.octet l.i)

pub returns-clause-put : goal.returns-clause-put
returns-clause-put c =
    let all : c.loop-i.i ≡ 8 = omega arith in
    put-put (put-put (number_put c.args.octet c.lettered-number.ensures c.put.ensures.put) (rw all at c.loop-i.invariant.0)) c.put-2.ensures.put

-- `text::spell` meets its contract. The loop's invariant: the digits behind from stand, and those of the rest are due in front of them.
-- Assumes nothing.
use mathlib.Core.Path.{sym, ◌∙◌}
use native.Mathlib.Omega.{arith}
use lib.ListN.{length-set}
use Rattle.text.proofs.TextLaws.{spelled_none, spelled_some, spelled_next, spelled_all}
use Rattle.text.proofs.spell.Goals as goal

pub loop-rest-init : goal.loop-rest-init
loop-rest-init c = (spelled_none c.args.n c.args.digits.now (omega (arith, c.ranges.n)) c.requires, c.requires, omega arith)

pub overflow_sub-from : goal.overflow_sub-from
overflow_sub-from c =
    let l = c.loop-rest in
    spelled_some c.args.n l.rest l.digits l.from l.invariant.0 (omega arith)

pub loop-rest-preserved : goal.loop-rest-preserved
loop-rest-preserved c =
    let l = c.loop-rest in
    let a = c.args in
    (rw c.digit.ensures (spelled_next a.n l.rest l.digits l.from l.invariant.0 (omega arith)), length-set l.digits l.from _ ∙ l.invariant.1, omega (arith, l.invariant.2))

pub shape_of-digits : goal.shape_of-digits
shape_of-digits c =
    let l = c.loop-rest in
    length-set l.digits l.from _ ∙ l.invariant.1 ∙ sym c.requires

pub returns : goal.returns
returns c =
    let l = c.loop-rest in
    (l.invariant.2, rw c.digit-2.ensures (spelled_all c.args.n l.rest l.digits l.from l.invariant.0 (omega arith)))

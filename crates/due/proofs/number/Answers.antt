-- `due::number` meets its contract: each refusal by the tests on the way.
-- Assumes nothing.
use Rattle.due.proofs.NumberLaws.{number-verdict, number_rule, number_past, number-taken}
use Rattle.due.proofs.number.Goals as goal
use Rattle.due.proofs.number.Goals.{then-f-due-via-then-f-due, then-f-due-via-else-f-due+then-not-allowed_in}

pub returns-then-f-due : goal.returns-then-f-due
returns-then-f-due c =
    let a = c.args in
    let due = c.verdict_in-due in
    elim c.then-f-due.branch [
      | then-f-due-via-then-f-due w ↦ number-verdict a.f.now a.t a.c a.bits c.if-f-c.false due.result due.ensures w.if-f-due.true
      | then-f-due-via-else-f-due+then-not-allowed_in w ↦
          number_rule a.f.now a.t a.c a.bits c.if-f-c.false due.result due.ensures w.if-f-due.false w.allowed_in.result w.allowed_in.ensures w.if-not-allowed_in.true
    ]

pub returns-then-bits-f : goal.returns-then-bits-f
returns-then-bits-f c =
    let a = c.args in
    let due = c.verdict_in-due in
    number_past a.f.now a.t a.c a.bits c.if-f-c.false due.result due.ensures c.if-f-due.false c.allowed_in.result c.allowed_in.ensures c.if-not-allowed_in.false c.body.result c.body.ensures c.if-bits-f.true

pub returns : goal.returns
returns c =
    let a = c.args in
    let due = c.verdict_in-due in
    number-taken a.f.now a.t a.c a.bits c.if-f-c.false due.result due.ensures c.if-f-due.false c.allowed_in.result c.allowed_in.ensures c.if-not-allowed_in.false c.body.result c.body.ensures c.if-bits-f.false

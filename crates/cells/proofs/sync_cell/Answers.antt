-- `cells::sync_cell` meets its contract.
-- Assumes nothing.
use mathlib.Core.Path.{sym, ◌∙◌}
use borrow.Author.Rules.{rules}
use Rattle.cells.proofs.CellLaws.{sync-one, sync-zero, sync-none}
use Rattle.cells.proofs.sync_cell.Goals as goal

pub returns-then-bit_in-2 : goal.returns-then-bit_in-2
returns-then-bit_in-2 c = λ zeros ones by.
    let a = c.args in
    sync-one zeros ones a.mask.now a.fixed.now a.cs.now a.p by (search rules) (sym c.bit_in.ensures ∙ c.if-bit_in.true) (sym c.bit_in-then-bit_in.ensures ∙ c.if-bit_in-2.true)

pub returns-then-bit_in : goal.returns-then-bit_in
returns-then-bit_in c = λ zeros ones by.
    let a = c.args in
    sync-zero zeros ones a.mask.now a.fixed.now a.cs.now a.p by (search rules) (sym c.bit_in.ensures ∙ c.if-bit_in.true) (sym c.bit_in-then-bit_in.ensures ∙ c.if-bit_in-2.false)

pub returns : goal.returns
returns c = λ zeros ones by.
    let a = c.args in
    c.c_cell.ensures ∙ sync-none zeros ones a.mask.now a.fixed.now a.cs.now a.p by (search rules) (sym c.bit_in.ensures ∙ c.if-bit_in.false)

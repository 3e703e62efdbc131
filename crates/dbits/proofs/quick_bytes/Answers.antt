-- `dbits::quick_bytes` meets its contract. The loop's invariant: the first j bytes are filled, the others are still zero.
-- Assumes nothing.
use mathlib.Core.Path.{◌≡◌, sym, ◌∙◌, ap}
use native.Mathlib.Omega.{arith}
use lib.ListN.{length, replicate}
use Rattle.std.proofs.lemmas.List.{get_or_read}
use borrow.Author.Rules.{rules}
use Rattle.bits.proofs.CountLaws.{fill_step}
use Rattle.plans.specs.Plan.{no_entry, entry_at, quick_at}
use Rattle.dbits.proofs.quick_bytes.Goals as goal

pub loop-j-preserved : goal.loop-j-preserved
loop-j-preserved c =
    let a = c.args in
    let l = c.loop-j in
    let e = c.index-entries-j in
    let long : length a.entries.now ≡ 19 = search rules in
    let entry = get_or_read a.entries.now l.j e.result (omega arith) e.is no_entry in
    fill_step (λ i. quick_at a.o.now (entry_at a.entries.now i)) l.j (replicate 19 0) l.out c.quick_byte.result l.invariant (c.quick_byte.ensures ∙ ap (quick_at a.o.now) (sym e.is ∙ entry)) (omega arith)

pub returns : goal.returns
returns c = let e : c.loop-j.j ≡ c.args.n = omega arith in rw e at c.loop-j.invariant

-- `dput::by_entries` meets its contract: each turn puts a byte back, and leaves the bytes behind it.
-- Assumes nothing.
use mathlib.Core.Path.{◌≡◌, sym, ◌∙◌, ap}
use mathlib.Core.List.{[], ◌∷◌}
use native.Mathlib.Nat.{zero-add}
use native.Mathlib.Omega.{arith}
use lib.ListN.{length, get_or}
use Rattle.std.proofs.lemmas.List.{get_or_read}
use borrow.Author.Rules.{rules}
use Rattle.bits.specs.Bit.{bit_at}
use Rattle.put.proofs.RunPutLaws.{byte_alone}
use Rattle.entries.specs.declared.Entry.{Entry}
use Rattle.entries.specs.Entry.{back}
use Rattle.plans.specs.Plan.{no_entry}
use Rattle.dput.proofs.RestLaws.{byte_turn, back_small}
use Rattle.dput.proofs.by_entries.Goals as goal

pub loop-j-preserved : goal.loop-j-preserved
loop-j-preserved c =
    let a = c.args in
    let l = c.loop-j in
    let q = c.quick_put in
    let e = c.index-entries-j in
    let b = get_or a.d.now l.j 0 in
    let room : length a.entries.now ≡ 19 = search rules in
    let entry = sym e.is ∙ get_or_read a.entries.now l.j e.result (omega arith) e.is no_entry in
    let put = q.ensures.0 ∙ ap (λ (n : Entry). back l.o n.m b) entry in (
      q.array_long,
      rw put (back_small l.o _ b l.invariant.1),
      λ ps h.
          byte_turn l.o q.new.o ps (bit_at a.d.now) (bit_at (b ∷ [])) l.j (λ k m. rw (zero-add k) (byte_alone a.d.now l.j k m))
          (put ∙ h l.j (omega arith) c.loop-j-test.true l.o b l.invariant.0 l.invariant.1 q.ensures.1)
          ∙ l.invariant.2 ps h,
    )

pub returns : goal.returns
returns c = let l = c.loop-j in let e : l.j ≡ c.args.to = omega arith in rw e at l.invariant.2

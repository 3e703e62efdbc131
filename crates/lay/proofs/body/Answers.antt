-- `lay::body` meets its contract: a first run, bytes that show their eight bits of the frame, and a last run.
-- Assumes nothing.
use mathlib.Core.Path.{◌≡◌, refl, ◌∙◌, ap}
use Prim.Native.Nat.{ℕ, ◌+◌, ◌*◌, ◌-◌, ◌/◌, ◌%◌, ◌<◌}
use native.Mathlib.Omega.{arith}
use borrow.Author.Rules.{rules}
use borrow.Author.Count.{below_more}
use lib.ListN.{length, get_or, take, drop, length-take, length-drop}
use lib.Seq.{get_or-set_same, get_or-set_other}
use Rattle.std.proofs.Common.{◌≢◌}
use Rattle.bits.specs.Bit.{bit_at}
use Rattle.bits.proofs.BitLaws.{byte-bit}
use Rattle.put.specs.Put.{Shows}
use Rattle.put.proofs.RunPutLaws.{pair_shows}
use Rattle.put.proofs.LayLaws.{laid_all}
use Rattle.lay.proofs.body.Goals as goal

pub loop-j-preserved : goal.loop-j-preserved
loop-j-preserved c =
    let l = c.loop-j in
    let a = c.args in
    below_more _ _
    (λ m h. let other : m ≢ l.j = omega arith in rw get_or-set_other (l.invariant m h))
    (let inside : l.j < length l.byte-items = omega arith in
    rw get_or-set_same (omega arith, pair_shows a.o l.j (a.p % 8) _ _ c.join.result (omega arith) (omega arith) c.join.ensures refl refl))

pub returns : goal.returns
returns c =
    let a = c.args in
    let g = bit_at a.o in
    let run = c.put_top-2.new.s in
    let first = a.p / 8 + 1 in
    let n = (a.p % 8 + a.k) / 8 in
    let m = a.p / 8 + n - first in
    let x = 8 - a.p % 8 in
    let long : length run ≡ length a.s.now = c.put_top-2.auto.s in
    let many : length (take m (drop first run)) ≡ m = simp (length-take, length-drop) (omega arith) in
    let small : (i : ℕ) → get_or run i 0 < 256 = λ i. search rules in
    let back : n - 1 + 1 ≡ n = omega arith in
    let end : 8 * n - a.p % 8 ≡ x + 8 * m = omega arith in
    let octet : get_or a.o n 0 ≡ c.unwrap_or-last.result = search rules in
    let bits : Shows c.join-2.result g (x + 8 * m) =
    rw (back, end) at (pair_shows a.o (n - 1) (a.p % 8) _ _ c.join-2.result (omega arith) (omega arith) c.join-2.ensures refl (ap (λ (i : ℕ). get_or a.o i 0) back ∙ octet)) in
    laid_all g a.s.now run c.loop-j.byte-items c.put_top-3.new.s a.p a.k m ((a.p % 8 + a.k) % 8) (8 * (a.p / 8 + n))
    (omega arith) (omega arith) (c.put_top-2.ensures g 0 (byte-bit a.o 0)) long small (c.loop-j.auto.byte-items ∙ many)
    (λ j l. let at : 8 * (j + 1) - a.p % 8 ≡ x + 8 * j = omega arith in rw at at (c.loop-j.invariant j (omega arith)))
    (omega arith) (c.put_top-3.ensures g (x + 8 * m) bits)

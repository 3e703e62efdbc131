-- `dbits::d_bytes` meets its contract: by the entries, and the bytes that they do not make one by one.
-- Assumes nothing.
use mathlib.Core.Path.{◌≡◌, refl, ◌∙◌}
use Prim.Native.Nat.{◌<◌}
use native.Mathlib.Omega.{arith}
use lib.ListN.{length}
use Rattle.bits.specs.Bit.{bit_at}
use Rattle.channel.specs.Places.{d_places}
use Rattle.channel.specs.Record.{d_bytes}
use Rattle.dplaces.proofs.DPlaceLaws.{d_length_lem, d_count_le}
use Rattle.dbits.proofs.DBitLaws.{byte_of}
use Rattle.dbits.proofs.QuickLaws.{anew_next, all-bytes}
use borrow.Author.Rules.{rules}
use Rattle.dbits.proofs.d_bytes.Goals as goal

pub byte-requires : goal.byte-requires
byte-requires c = let p = c.args.plan.now in omega (arith, p.planned.within, d_length_lem p.kind)

pub bounds-out-j : goal.bounds-out-j
bounds-out-j c = let p = c.args.plan.now in omega (arith, p.planned.within, d_length_lem p.kind, d_count_le p.kind)

pub loop-j-preserved : goal.loop-j-preserved
loop-j-preserved c =
    let p = c.args.plan.now in
    let l = c.loop-j in
    let long : length c.quick_bytes-out.result ≡ 19 = search rules in
    let few : l.j < 19 = omega (arith, p.planned.within, d_length_lem p.kind, d_count_le p.kind) in
    anew_next _ _ l.j _ l.out c.byte.result (omega arith) (omega arith) (c.byte.ensures ∙ byte_of (bit_at c.args.o.now) (d_places p.kind) l.j 8 refl) l.invariant

pub returns : goal.returns
unfolding d_bytes
returns c =
    let p = c.args.plan.now in
    let l = c.loop-j in
    let n = c.d_length in
    let e : l.j ≡ p.to = omega (arith, p.planned.from_to) in
    all-bytes (d_places p.kind) c.args.o.now p.entries p.from p.to n.result p.planned (omega (arith, n.ensures, d_length_lem p.kind)) (omega (arith, n.ensures, d_count_le p.kind)) l.out
    (rw c.quick_bytes-out.ensures at (rw e at l.invariant))

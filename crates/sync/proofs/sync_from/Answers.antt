-- `sync::sync_from` meets its contract: no place of the bytes passed has eight zeros and a one, the one that is answered has.
-- Assumes nothing.
use mathlib.Core.Logic.{inr}
use native.Mathlib.Omega.{arith}
use lib.ListN.{get_or}
use Rattle.sync.proofs.SyncLaws.{bytes-synced, odd-none, byte_passed, byte_none}
use Rattle.sync.proofs.sync_from.Goals as goal

pub loop-i-preserved-then-s-i-eq1 : goal.loop-i-preserved-then-s-i-eq1
loop-i-preserved-then-s-i-eq1 c =
    let a = c.args in
    let i = c.loop-i.i in
    byte_none a.s.now c.type_inv.s i a.q (λ j l h _. odd-none (get_or a.s.now i 0) j l (omega arith) h.0) c.loop-i.invariant

pub loop-i-preserved-in_default : goal.loop-i-preserved-in_default
loop-i-preserved-in_default c = byte_none c.args.s.now c.type_inv.s c.loop-i.i c.args.q (λ j l h _. c.in_default.ensures j l h) c.loop-i.invariant

pub returns-then-q-i : goal.returns-then-q-i
returns-then-q-i c =
    let a = c.args in
    let i = c.loop-i.i in
    let k = c.in-Some.k in
    let (inside, stands, one) = c.in-Some.ensures in
    record {
      from = omega arith;
      within = omega arith;
      none = byte_passed a.s.now c.type_inv.s i a.q k (omega arith) (λ j l h _. omega (arith, one j l h)) c.loop-i.invariant;
      stops = inr (bytes-synced a.s.now i k inside stands);
    }

pub loop-i-preserved : goal.loop-i-preserved
loop-i-preserved c = byte_none c.args.s.now c.type_inv.s c.loop-i.i c.args.q (λ j l h far. omega (arith, c.in-Some.ensures.2 j l h)) c.loop-i.invariant

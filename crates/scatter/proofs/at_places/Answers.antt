-- `scatter::at_places` meets its contract: what is left to be put, into the octets so far, gives what is wanted.
-- Assumes nothing.
use mathlib.Core.Path.{sym, ◌∙◌}
use mathlib.Core.List.{[], ◌∷◌}
use Prim.Native.Nat.{◌/◌, ◌%◌}
use native.Mathlib.Omega.{arith}
use lib.ListN.{get_or}
use Rattle.bits.specs.Bit.{bit_at}
use Rattle.scatter.proofs.PlaceLaws.{places_end}
use Rattle.scatter.proofs.RunAtLaws.{run_turn}
use Rattle.scatter.proofs.at_places.Goals as goal

pub loop-j-preserved : goal.loop-j-preserved
loop-j-preserved c =
    let a = c.args in
    let l = c.loop-j in
    let r = c.run_at-r in
    let q = c.put_top in (
      r.ensures.within,
      q.auto.s ∙ l.invariant.1,
      run_turn l.octets q.new.s a.places.now a.from.now l.j r.result r.ensures (q.ensures (bit_at (get_or a.from.now (l.j / 8) 0 ∷ [])) (l.j % 8) c.from_bit.ensures) ∙ l.invariant.2,
    )

pub returns : goal.returns
returns c =
    let a = c.args in
    let l = c.loop-j in
    sym (places_end l.octets a.places.now (bit_at a.from.now) l.j (omega arith)) ∙ l.invariant.2

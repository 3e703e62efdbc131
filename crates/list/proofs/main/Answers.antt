-- `list::main` meets its contract. How long the two arrays are is said by law: a tactic would count them byte by byte.
-- Assumes nothing.
use mathlib.Core.Path.{◌≡◌, sym, ap}
use mathlib.Core.List.{List}
use Prim.Native.Nat.{ℕ, ◌+◌, ◌≤◌}
use native.Mathlib.Omega.{arith}
use lib.ListN.{length, length-replicate}
use lib.Seq.{length-take-le}
use Rattle.text.proofs.TextLaws.{zeros-long}
use Rattle.list.proofs.main.Goals as goal

-- the whole of a buffer is room for a text that has no bytes yet
room : (bytes zeros : List ℕ) (end long : ℕ) → bytes ≡ zeros → end ≡ 0 → long ≤ length zeros → end + long ≤ length bytes
room bytes zeros end long p e h = omega (arith, ap length p)

pub slice_bounds-at-end : goal.slice_bounds-at-end
slice_bounds-at-end c = sym (length-replicate {A = ℕ} 524544 0)

pub listing-requires : goal.listing-requires
listing-requires c =
    let read = c.read_full in
    let got = c.in_ok-got in
    let text = c.at-text in (
      omega (arith, length-take-le got.got read.new.input got.ensures, got.ensures, read.auto.input, length-replicate {A = ℕ} 65538 0),
      room text.result.bytes.now _ text.result.end 524544 text.ensures.bytes text.ensures.end (zeros-long 524544),
    )

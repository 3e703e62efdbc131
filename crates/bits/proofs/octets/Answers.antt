-- `bits::octets` meets its contract: each octet is what its closure gives, where all bytes are there and where not.
-- Assumes nothing.
use mathlib.Core.Path.{◌≡◌, refl, ◌∙◌}
use Prim.Native.Nat.{◌+◌, ◌*◌, ◌-◌, ◌/◌, ◌%◌, ◌^◌, ◌<◌}
use native.Mathlib.Omega.{arith}
use lib.ListN.{get_or}
use borrow.Author.Rules.{rules}
use Rattle.bits.specs.Bit.{bit_at, octet_of, twenty, bits_from}
use Rattle.bits.proofs.BitLaws.{octet-later, octet-inside}
use Rattle.bits.proofs.ArrayLaws.{made_of}
use Rattle.bits.proofs.octets.Goals as goal

pub returns-then-p-n : goal.returns-then-p-n
unfolding twenty
returns-then-p-n c =
    let a = c.args in
    made_of _ (λ f. (f.0.now ≡ a.s.now) × (f.1.now ≡ a.p / 8) × (f.2.now ≡ 8 - a.p % 8)) (octet_of (bits_from (bit_at a.s.now) a.n a.p)) _ 20
    (λ f g k x is l called.
    let kept : (g.0.now ≡ a.s.now) × (g.1.now ≡ a.p / 8) × (g.2.now ≡ 8 - a.p % 8) = search rules in
    let joined : x ≡ (get_or a.s.now (a.p / 8 + k) 0 * 256 + get_or a.s.now (a.p / 8 + k + 1) 0) / 2 ^ (8 - a.p % 8) % 256 = search rules in
    let fits : get_or a.s.now (a.p / 8 + k + 1) 0 < 256 = omega (arith, c.type_inv.s (a.p / 8 + k + 1)) in
    (kept, octet-inside a.s.now a.n a.p k x fits joined (omega arith)))
    _ (refl, refl, refl) c.from_fn.ensures.items

pub returns : goal.returns
unfolding twenty
returns c =
    let a = c.args in
    made_of _ (λ f. (f.0.now ≡ a.s.now) × (f.1.now ≡ a.n) × (f.2.now ≡ a.p)) (octet_of (bits_from (bit_at a.s.now) a.n a.p)) _ 20
    (λ f g k x is l called.
    let kept : (g.0.now ≡ a.s.now) × (g.1.now ≡ a.n) × (g.2.now ≡ a.p) = search rules in
    let stored : x ≡ octet_of (bits_from (bit_at a.s.now) a.n (a.p + 8 * k)) 0 = search rules in
    (kept, stored ∙ octet-later (bit_at a.s.now) a.n a.p k))
    _ (refl, refl, refl) c.from_fn-2.ensures.items

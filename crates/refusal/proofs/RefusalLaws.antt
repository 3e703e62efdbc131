-- What the numbers 1 to 3 ask of a request, and that they refuse it only where that is not so.
-- Assumes nothing.
use mathlib.Core.Path.{◌≡◌}
use Prim.Native.Nat.{ℕ, ◌*◌, ◌≤◌, ◌<◌}
use native.Mathlib.Omega.{arith}
use borrow.Author.Tests.{ltb-false, eqb-false, le-ltb, ne_eqb}
use lib.Dec.{eqb, ltb}
use Rattle.call.specs.declared.PageRequest.{PageRequest}
use Rattle.call.specs.declared.WriteRequest.{WriteRequest}
use Rattle.refusal.specs.Refusal.{page_refusal, write_refusal}
use Rattle.call.proofs.NumberLaws.{passed}

-- what 1 to 3 ask of a request for a page
pub record Admitted (bytes : ℕ) (r : PageRequest) : Type 0 where
  pub way : r.terms.direction ≤ 1
  pub some : 0 < r.most
  pub short : bytes ≤ 65536
  pub count : r.n ≤ 8 * bytes
  pub inside : r.cursor.position ≤ r.n
  pub known : r.cursor.context ≤ 5

-- it holds where they do not refuse it
pub admitted : (bytes : ℕ) (r : PageRequest) → page_refusal bytes r ≡ 0 → Admitted bytes r
admitted bytes r e =
    let (a, e₁) = passed (ltb 1 r.terms.direction) 1 _ (omega arith) e in
    let (b, e₂) = passed (eqb r.most 0) 1 _ (omega arith) e₁ in
    let (c, e₃) = passed (ltb 65536 bytes) 2 _ (omega arith) e₂ in
    let (d, e₄) = passed (ltb (8 * bytes) r.n) 2 _ (omega arith) e₃ in
    let (f, e₅) = passed (ltb r.n r.cursor.position) 3 _ (omega arith) e₄ in
    let (g, e₆) = passed (ltb 5 r.cursor.context) 3 _ (omega arith) e₅ in
    let m = eqb-false r.most 0 b in
    record {
      way = omega (arith, ltb-false 1 r.terms.direction a);
      some = omega arith;
      short = omega (arith, ltb-false 65536 bytes c);
      count = omega (arith, ltb-false (8 * bytes) r.n d);
      inside = omega (arith, ltb-false r.n r.cursor.position f);
      known = omega (arith, ltb-false 5 r.cursor.context g);
    }

-- and where it holds they do not
pub admit : (bytes : ℕ) (r : PageRequest) → Admitted bytes r → page_refusal bytes r ≡ 0
admit bytes r h =
    rw (
      le-ltb 1 r.terms.direction h.way,
      ne_eqb r.most 0 (omega (arith, h.some)),
      le-ltb 65536 bytes h.short,
      le-ltb (8 * bytes) r.n h.count,
      le-ltb r.n r.cursor.position h.inside,
      le-ltb 5 r.cursor.context h.known,
    )

-- what 1 to 3 ask of one to write
pub record Writable (bytes : ℕ) (ask : WriteRequest) (room : ℕ) : Type 0 where
  pub way : ask.terms.direction ≤ 1
  pub few : bytes ≤ 65536
  pub short : room ≤ 65536
  pub inside : ask.cursor.position ≤ 8 * room
  pub known : ask.cursor.context ≤ 5

-- it holds where they do not refuse it
pub writable : (bytes : ℕ) (ask : WriteRequest) (room : ℕ) → write_refusal bytes ask room ≡ 0 → Writable bytes ask room
writable bytes ask room e =
    let (a, e₁) = passed (ltb 1 ask.terms.direction) 1 _ (omega arith) e in
    let (b, e₂) = passed (ltb 65536 bytes) 1 _ (omega arith) e₁ in
    let (c, e₃) = passed (ltb 65536 room) 2 _ (omega arith) e₂ in
    let (d, e₄) = passed (ltb (8 * room) ask.cursor.position) 3 _ (omega arith) e₃ in
    let (f, e₅) = passed (ltb 5 ask.cursor.context) 3 _ (omega arith) e₄ in
    record {
      way = omega (arith, ltb-false 1 ask.terms.direction a);
      few = omega (arith, ltb-false 65536 bytes b);
      short = omega (arith, ltb-false 65536 room c);
      inside = omega (arith, ltb-false (8 * room) ask.cursor.position d);
      known = omega (arith, ltb-false 5 ask.cursor.context f);
    }

-- Runs of places: how far one may go, and bits put run by run.
-- Assumes nothing.
use mathlib.Core.Path.{◌≡◌, ap, sym, ◌∙◌}
use mathlib.Core.List.{List, [], ◌∷◌, ◌++◌, map}
use Prim.Native.Nat.{ℕ, zero, suc, ◌+◌, ◌*◌, ◌/◌, ◌%◌, ◌<◌, ◌≤◌}
use native.Mathlib.Nat.{add-zero}
use borrow.Author.Count.{below_more}
use native.Mathlib.Omega.{arith}
use lib.ListN.{length, get_or, drop}
use lib.Seq.{drop-cons}
use Rattle.bits.specs.Bit.{bit_at, count}
use Rattle.bits.proofs.CountLaws.{length-count, map-count-same}
use Rattle.scatter.specs.Scatter.{RunAt, put_places}
use Rattle.bits.specs.Put.{put_bits}
use Rattle.put.proofs.RunPutLaws.{byte_alone}
use Rattle.scatter.proofs.PlaceLaws.{places_append, places_run}

-- so many places the run that begins at number j may have
abbrev pub Room : List ℕ → ℕ → ℕ → Type 0
Room ps j most = (0 < most) × (j + most ≤ length ps) × (get_or ps j 0 % 8 + most ≤ 8) × (j % 8 + most ≤ 8)

pub run_first : (ps : List ℕ) (j : ℕ) → j < length ps → RunAt ps j 1
run_first ps j l =
    record {
      some = omega arith;
      within = omega arith;
      octet = omega arith;
      byte = omega arith;
      follow = λ i m. let z : i ≡ 0 = omega arith in rw (z, add-zero j, add-zero (get_or ps j 0));
    }

pub run_more : (ps : List ℕ) (j r most : ℕ) → RunAt ps j r → Room ps j most → r < most → get_or ps (j + r) 0 ≡ get_or ps j 0 + r → RunAt ps j (r + 1)
run_more ps j r most run room l e =
    record {
      some = omega arith;
      within = omega arith;
      octet = omega arith;
      byte = omega arith;
      follow = below_more (λ i. get_or ps (j + i) 0 ≡ get_or ps j 0 + i) r run.follow e;
    }

-- places that follow each other are a run
run_drop : (r : ℕ) (ps : List ℕ) (j p : ℕ) → j + r ≤ length ps → ((i : ℕ) → i < r → get_or ps (j + i) 0 ≡ p + i) → drop j ps ≡ count r p ++ drop (j + r) ps
run_drop zero ps j p l e = rw (add-zero j)
run_drop (suc r) ps j p l e =
    let first : get_or ps j 0 ≡ p = ap (λ (n : ℕ). get_or ps n 0) (sym (add-zero j)) ∙ e 0 (omega arith) ∙ add-zero p in
    let f : j + suc r ≡ suc j + r = omega arith in
    let rest : drop (suc j) ps ≡ count r (suc p) ++ drop (suc j + r) ps = run_drop r ps (suc j) (suc p) (omega arith) (λ i m.
    let a : suc j + i ≡ j + suc i = omega arith in
    let b : p + suc i ≡ suc p + i = omega arith in
    ap (λ (n : ℕ). get_or ps n 0) a ∙ e (suc i) (omega arith) ∙ b) in
    drop-cons ps j 0 (omega arith) ∙ rw (first, rest, f)

-- a turn of the loop over places, by the run that begins at place j
pub run_turn : (s t ps from : List ℕ) (j r : ℕ) → RunAt ps j r → t ≡ put_bits s (get_or ps j 0) (map (bit_at (get_or from (j / 8) 0 ∷ [])) (count r (j % 8)))
    → put_places t (drop (j + r) ps) (bit_at from) (j + r) ≡ put_places s (drop j ps) (bit_at from) j
run_turn s t ps from j r run e =
    let p = get_or ps j 0 in
    let same : map (bit_at (get_or from (j / 8) 0 ∷ [])) (count r (j % 8)) ≡ map (bit_at from) (count r j) =
    map-count-same (bit_at (get_or from (j / 8) 0 ∷ [])) (bit_at from) r (j % 8) j (λ k l.
    let f : 8 * (j / 8) + (j % 8 + k) ≡ j + k = omega arith in
    byte_alone from (j / 8) (j % 8 + k) (omega (arith, run.byte)) ∙ ap (bit_at from) f) in
    let whole : t ≡ put_places s (count r p) (bit_at from) j = e ∙ ap (put_bits s p) same ∙ sym (places_run r s p (bit_at from) j) in
    rw (whole, run_drop r ps j p run.within run.follow, places_append (count r p) (drop (j + r) ps) s (bit_at from) j, length-count r p)

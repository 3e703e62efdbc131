-- `ones::tail` meets its contract: a first run, bytes filled with ones, and a last run.
-- Assumes nothing.
use mathlib.Core.Path.{◌≡◌, sym, ◌∙◌, ap}
use mathlib.Core.Bool.{true}
use Prim.Native.Nat.{ℕ, ◌+◌, ◌*◌, ◌-◌, ◌/◌, ◌%◌, ◌<◌}
use native.Mathlib.Omega.{arith}
use borrow.Author.Rules.{rules}
use mathlib.Core.List.{List}
use lib.ListN.{length, replicate, get_or, take, drop, length-take, length-drop, length-replicate}
use Rattle.std.proofs.lemmas.List.{get_or-replicate}
use Rattle.bits.specs.Put.{put_bits}
use Rattle.put.proofs.RunPutLaws.{ones_show}
use Rattle.put.proofs.LayLaws.{laid_all, ones-are}
use Rattle.ones.proofs.tail.Goals as goal

pub returns-then-r-t-lt8 : goal.returns-then-r-t-lt8
returns-then-r-t-lt8 c = let a = c.args in c.put_top.ensures (λ _. true) 0 (ones_show 0) ∙ ap (put_bits a.s.now a.p) (sym (ones-are a.t 0))

pub returns : goal.returns
returns c =
    let a = c.args in
    let run = c.put_top-2.new.s in
    let first = a.p / 8 + 1 in
    let end = (a.p + a.t) / 8 in
    let n = end - first in
    let x = 8 - a.p % 8 in
    let ones : List ℕ = replicate n 255 in
    let all : length ones ≡ n = length-replicate n 255 in
    let long : length run ≡ length a.s.now = c.put_top-2.auto.s in
    let many : length (take n (drop first run)) ≡ n = simp (length-take, length-drop) (omega arith) in
    let small : (i : ℕ) → get_or run i 0 < 256 = λ i. search rules in
    let filled : c.fill.new.self ≡ ones = c.fill.ensures.after (λ y e. e) ∙ ap (λ (m : ℕ). replicate m 255) many in
    laid_all (λ _. true) a.s.now run ones c.put_top-3.new.s a.p a.t n ((a.p + a.t) % 8) (8 * end)
    (omega arith) (omega arith) (c.put_top-2.ensures (λ _. true) 0 (ones_show 0)) long small all
    (λ j l. let e : get_or ones j 0 ≡ 255 = get_or-replicate n j 255 0 (omega arith) in rw e (omega arith, ones_show (x + 8 * j)))
    (omega arith) (rw filled at (c.put_top-3.ensures (λ _. true) (x + 8 * n) (ones_show (x + 8 * n)))) ∙ ap (put_bits a.s.now a.p) (sym (ones-are a.t 0))

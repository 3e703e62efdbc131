-- The way back: a byte put at places that are one run or two.
-- Assumes nothing.
use mathlib.Core.Path.{◌≡◌, refl, sym, ◌∙◌, ap}
use mathlib.Core.Bool.{Bool}
use mathlib.Core.List.{List, [], ◌∷◌, ◌++◌, map}
use Prim.Native.Nat.{ℕ, zero, suc, ◌+◌, ◌*◌, ◌-◌, ◌/◌, ◌%◌, ◌^◌, ◌<◌, ◌≤◌}
use native.Mathlib.Nat.{mul_assoc, add-zero, mod-eq_of_lt, zero-add}
use native.Mathlib.Omega.{arith}
use lib.Bits.{bit_and}
use lib.Dec.{lit<}
use lib.Pow.{pow-add, shl-shr, shr-shr}
use lib.ListN.{length-set, set, length, get_or}
use lib.Seq.{set-get_or, get_or-set_other}
use Rattle.bits.specs.Bit.{bit_at, count}
use Rattle.bits.proofs.BitLaws.{byte-bit}
use Rattle.bits.proofs.CountLaws.{length-count}
use Rattle.bits.specs.Put.{put_bits}
use Rattle.put.specs.Put.{put_run, Shows}
use Rattle.put.proofs.RunPutLaws.{run_masked, run_lt, top-put, pair_shows}
use Rattle.scatter.specs.Scatter.{put_places}
use Rattle.scatter.proofs.PlaceLaws.{places_append, places_run}
use Rattle.entries.specs.Entry.{FirstEnds, first_count, second_start, second_mask, back, BackTo}

-- a byte shows its own bits
pub own_bits : (b : ℕ) → Shows b (bit_at (b ∷ [])) 0
own_bits b j l = byte-bit (b ∷ []) 0 j l

-- a byte moved up by s bits: its first s bits, and those behind them
moved_high : (b s : ℕ) → s ≤ 8 → b * 2 ^ s / 256 ≡ b / 2 ^ (8 - s)
moved_high b s l =
    let e : s + (8 - s) ≡ 8 = omega arith in
    rw e at (sym (shr-shr (b * 2 ^ s) s (8 - s)) ∙ ap (λ (x : ℕ). x / 2 ^ (8 - s)) (shl-shr b s))

moved_shows : (b s : ℕ) → s ≤ 8 → Shows (b * 2 ^ s % 256) (bit_at (b ∷ [])) s
moved_shows b s l =
    let e : s + (8 - s) ≡ 8 = omega arith in
    let back : 8 * (0 + 1) - (8 - s) ≡ s = omega arith in
    let up : b * 256 ≡ b * 2 ^ s * 2 ^ (8 - s) = ap (λ (n : ℕ). b * n) (rw e at (pow-add 2 s (8 - s))) ∙ sym (mul_assoc b (2 ^ s) (2 ^ (8 - s))) in
    let is : b * 2 ^ s ≡ (b * 256 + 0) / 2 ^ (8 - s) = sym (shl-shr (b * 2 ^ s) (8 - s)) ∙ ap (λ (n : ℕ). n / 2 ^ (8 - s)) (sym up ∙ sym (add-zero (b * 256))) in
    rw back at (pair_shows (b ∷ []) 0 (8 - s) b 0 (b * 2 ^ s % 256) (omega arith) (lit< tt) (ap (λ (n : ℕ). n % 256) is) refl refl)

-- the first run, to the end of its octet
first_back_lem : (o ps : List ℕ) (a s b : ℕ) → length o ≡ 20 → a < 19 → s ≤ 8 → get_or o a 0 < 256 → b < 256 → FirstEnds ps s a
    → set o a ((get_or o a 0 / 2 ^ s * 2 ^ s + b * 2 ^ s / 256) % 256) ≡ put_bits o (get_or ps 0 0) (map (bit_at (b ∷ [])) (count s 0))
unfolding put_bits
first_back_lem o ps a zero b long l u hx hb ends =
    let x : (get_or o a 0 / 2 ^ 0 * 2 ^ 0 + b * 2 ^ 0 / 256) % 256 ≡ get_or o a 0 = omega arith in
    ap (set o a) x ∙ set-get_or o a 0
first_back_lem o ps a (suc k) b long l u hx hb ends =
    let s = suc k in
    let p = get_or ps 0 0 in
    let at : p ≡ 8 * a + (8 - s) = ends (omega arith) in
    let i : p / 8 ≡ a = omega arith in
    let r : p % 8 ≡ 8 - s = omega arith in
    let fits : 8 - s + s ≤ 8 = omega arith in
    let e : 8 - (8 - s) ≡ s = omega arith in
    let z : s - s ≡ 0 = omega arith in
    let run_is : put_run (get_or o a 0) (8 - s) s (b / 2 ^ (8 - s)) ≡ get_or o a 0 / 2 ^ s * 2 ^ s + b / 2 ^ (8 - s) = rw (e, z) (omega arith) in
    let small : put_run (get_or o a 0) (8 - s) s (b / 2 ^ (8 - s)) < 256 = run_lt (get_or o a 0) (8 - s) s b fits hx hb in
    let is : (get_or o a 0 / 2 ^ s * 2 ^ s + b * 2 ^ s / 256) % 256 ≡ put_run (get_or o a 0) (8 - s) s (b / 2 ^ (8 - s)) =
    ap (λ (n : ℕ). (get_or o a 0 / 2 ^ s * 2 ^ s + n) % 256) (moved_high b s u) ∙ ap (λ (n : ℕ). n % 256) (sym run_is) ∙ mod-eq_of_lt small in
    ap (set o a) is ∙ rw (i, r) at (top-put o p s b (bit_at (b ∷ [])) 0 (omega arith) (omega arith) hb (own_bits b))

-- the second run, by its mask
second_back_lem : (t : List ℕ) (q e r x y mask : ℕ) (g : ℕ → Bool) (s : ℕ) → q / 8 < length t → q % 8 ≡ e → e + r ≤ 8 → y ≡ get_or t (q / 8) 0 → y < 256 → x < 256 → Shows x g s → mask ≡ 2 ^ (8 - e) - 2 ^ (8 - e - r)
    → set t (q / 8) ((y - bit_and y mask + bit_and (x / 2 ^ e) mask) % 256) ≡ put_bits t q (map g (count r s))
second_back_lem t q e r x y mask g s inside ee room ey hy hx shows em =
    let is : (y - bit_and y mask + bit_and (x / 2 ^ e) mask) % 256 ≡ put_run y e r (x / 2 ^ (8 - r)) =
    ap (λ (n : ℕ). n % 256) (run_masked y e r x room hy hx mask em) ∙ mod-eq_of_lt (run_lt y e r x room hy hx) in
    ap (set t (q / 8)) is ∙ rw (ey, sym ee) (top-put t q r x g s (rw ee room) inside hx shows)

-- the bits of a byte at two runs behind each other
two-put : (o t v ps : List ℕ) (b s : ℕ) → ps ≡ count s (get_or ps 0 0) ++ count (length ps - s) (get_or ps s 0) → t ≡ put_bits o (get_or ps 0 0) (map (bit_at (b ∷ [])) (count s 0))
    → v ≡ put_bits t (get_or ps s 0) (map (bit_at (b ∷ [])) (count (length ps - s) s)) → v ≡ put_places o ps (bit_at (b ∷ [])) 0
two-put o t v ps b s runs et ev =
    let g = bit_at (b ∷ []) in
    let first = count s (get_or ps 0 0) in
    let second = count (length ps - s) (get_or ps s 0) in
    let t_is : t ≡ put_places o first g 0 = et ∙ sym (places_run s o (get_or ps 0 0) g 0) in
    let n : 0 + length first ≡ s = zero-add (length first) ∙ length-count s (get_or ps 0 0) in
    ev ∙ sym (places_run (length ps - s) t (get_or ps s 0) g s) ∙ ap (λ (u : List ℕ). put_places u second g s) t_is
    ∙ ap (put_places (put_places o first g 0) second g) (sym n) ∙ sym (places_append first second o g 0) ∙ ap (λ (qs : List ℕ). put_places o qs g 0) (sym runs)

-- a byte put back by an entry
pub entry-back : (ps : List ℕ) (s a e m : ℕ) → s < length ps → length ps ≤ 8 → a < 19 → FirstEnds ps s a
    → ps ≡ count s (get_or ps 0 0) ++ count (length ps - s) (get_or ps s 0) → get_or ps s 0 / 8 ≡ a + 1 → get_or ps s 0 % 8 ≡ e → e + (length ps - s) ≤ 8
    → m % 256 ≡ a → first_count m ≡ s → second_start m ≡ e → second_mask m ≡ 2 ^ (8 - e) - 2 ^ (8 - e - (length ps - s)) → BackTo ps m
unfolding back
entry-back ps s a e m l u in19 ends runs octet start room ea es ee em o b long bytes hb =
    let x = (get_or o a 0 / 2 ^ s * 2 ^ s + b * 2 ^ s / 256) % 256 in
    let t = set o a x in
    let y = get_or o (a + 1) 0 in
    let same : y ≡ get_or t (get_or ps s 0 / 8) 0 = rw octet (sym (get_or-set_other o a (a + 1) x 0 (λ z. omega arith))) in
    let first = first_back_lem o ps a s b long in19 (omega arith) (bytes a) hb ends in
    let second = second_back_lem t (get_or ps s 0) e (length ps - s) (b * 2 ^ s % 256) y (second_mask m) (bit_at (b ∷ [])) s (rw octet (omega (arith, length-set o a x))) start room same (bytes (a + 1)) (omega arith) (moved_shows b s (omega arith)) em in
    rw (ea, es, ee) (two-put o t _ ps b s runs first (rw octet at second))

-- The bytes of a frame by the entries of a plan.
-- Assumes nothing.
use mathlib.Core.Path.{◌≡◌, refl, sym, ◌∙◌, ap}
use mathlib.Core.Logic.{by_cases}
use mathlib.Core.List.{List, ◌++◌, map}
use Prim.Native.Nat.{ℕ, ◌+◌, ◌*◌, ◌-◌, ◌/◌, ◌<◌, ◌≤◌}
use native.Mathlib.Decide.{dec_lt, ℕ_discrete}
use native.Mathlib.Nat.{mul-le-mul_right, zero-add}
use native.Mathlib.Omega.{arith}
use lib.ListN.{length, get_or, set, drop, length-set, length-map, length-append, replicate, get_or-append}
use lib.Seq.{get_or-set_same, get_or-set_other, ext_get_or, get_or-append-add}
use Rattle.bits.specs.Bit.{bit_at, count}
use Rattle.bits.proofs.CountLaws.{length-map-count, get_d_map_count}
use Rattle.channel.specs.Coding.{bits_at}
use Rattle.channel.specs.Control.{from_top}
use Rattle.entries.specs.declared.Entry.{Entry}
use Rattle.plans.specs.Plan.{entry_at, quick_at, PlanOf}
use Rattle.dbits.proofs.DBitLaws.{byte_of, bytes_rest}

-- a byte by a factor
pub small_product : (x f : ℕ) → x < 256 → f ≤ 32768 → x * f ≤ 8355840
small_product x f h l = let m : x ≤ 255 = omega arith in let e : x * f ≤ 255 * f = mul-le-mul_right f m in omega arith

-- of some numbers those from `from` on, up to `to`, are those of f, and the others as they were
pub record Anew (f : ℕ → ℕ) (from to : ℕ) (before after : List ℕ) : Type 0 where
  pub size : length after ≡ length before
  pub made : (j : ℕ) → from ≤ j → j < to → get_or after j 0 ≡ f j
  pub kept : (j : ℕ) → (from ≤ j → j < to → ⊥) → get_or after j 0 ≡ get_or before j 0

pub anew_none : (f : ℕ → ℕ) (from : ℕ) (l : List ℕ) → Anew f from from l l
anew_none f from l = record { size = refl; made = λ j a b. absurd (omega arith); kept = λ j h. refl }

pub anew_next : (f : ℕ → ℕ) (from to : ℕ) (before after : List ℕ) (v : ℕ) → from ≤ to → to < length before → v ≡ f to → Anew f from to before after → Anew f from (to + 1) before (set after to v)
anew_next f from to before after v up room e a =
    record {
      size = length-set after to v ∙ a.size;
      made = λ j x y.
          by_cases (ℕ_discrete j to)
          (λ (s : j ≡ to). rw s (get_or-set_same after to v 0 (omega (arith, a.size)) ∙ e))
          (λ (s : ¬ (j ≡ to)). get_or-set_other after to j v 0 s ∙ a.made j x (omega arith));
      kept = λ j h. get_or-set_other after to j v 0 (λ s. h (omega arith) (omega arith)) ∙ a.kept j (λ x y. h x (omega arith));
    }

-- n numbers in front of others: at j below n, and behind
front_at : (f : ℕ → ℕ) (n : ℕ) (rest : List ℕ) (j : ℕ) → j < n → get_or (map f (count n 0) ++ rest) j 0 ≡ f j
front_at f n rest j l =
    get_or-append (map f (count n 0)) rest 0 j (omega (arith, length-map-count f n 0)) ∙ get_d_map_count f n 0 j l ∙ ap f (zero-add j)

behind-at : (f g : ℕ → ℕ) (n : ℕ) (rest : List ℕ) (j : ℕ) → n ≤ j → get_or (map f (count n 0) ++ rest) j 0 ≡ get_or (map g (count n 0) ++ rest) j 0
behind-at f g n rest j l = at f ∙ sym (at g)
  where
    at : (h : ℕ → ℕ) → get_or (map h (count n 0) ++ rest) j 0 ≡ get_or rest (j - n) 0
    at h =
        let e : j ≡ length (map h (count n 0)) + (j - n) = omega (arith, length-map-count h n 0) in
        ap (λ (i : ℕ). get_or (map h (count n 0) ++ rest) i 0) e ∙ get_or-append-add (map h (count n 0)) rest (j - n) 0

-- the bytes of a plan: by their entries, but for those that are not
module _ (ps o : List ℕ) (entries : List Entry) (from to n : ℕ) (p : PlanOf ps entries from to) (count-is : n ≡ (length ps + 7) / 8) (short : n ≤ 19) where
  pub all-bytes : (r : List ℕ)
      → Anew (λ j. from_top (drop (8 * j) (bits_at (bit_at o) ps))) from to (map (λ j. quick_at o (entry_at entries j)) (count n 0) ++ drop n (replicate 19 0)) r
      → r ≡ map (λ j. from_top (drop (8 * j) (bits_at (bit_at o) ps))) (count 19 0)
  all-bytes r a =
      ext_get_or 0 r (map slow (count n 0) ++ rest) (a.size ∙ same_length) (λ j l. at j)
      ∙ bytes_rest (bits_at (bit_at o) ps) n (rw (length-map ps (bit_at o)) (omega arith)) short
    where
      slow : ℕ → ℕ
      slow j = from_top (drop (8 * j) (bits_at (bit_at o) ps))

      quick : ℕ → ℕ
      quick j = quick_at o (entry_at entries j)

      rest : List ℕ
      rest = drop n (replicate 19 0)

      same_length : length (map quick (count n 0) ++ rest) ≡ length (map slow (count n 0) ++ rest)
      same_length =
          length-append (map quick (count n 0)) rest ∙ ap (λ (m : ℕ). m + length rest) (length-map-count quick n 0 ∙ sym (length-map-count slow n 0))
          ∙ sym (length-append (map slow (count n 0)) rest)

      by_entry : (j : ℕ) → j < n → (from ≤ j → j < to → ⊥) → quick j ≡ slow j
      by_entry j l out = (p.others j (omega arith) out).made o ∙ byte_of (bit_at o) ps j 8 refl

      kept : (j : ℕ) → (from ≤ j → j < to → ⊥) → get_or r j 0 ≡ get_or (map slow (count n 0) ++ rest) j 0
      kept j out =
          a.kept j out
          ∙ by_cases (dec_lt j n) (λ (l : j < n). front_at quick n rest j l ∙ by_entry j l out ∙ sym (front_at slow n rest j l)) (λ (l : ¬ (j < n)). behind-at quick slow n rest j (omega arith))

      at : (j : ℕ) → get_or r j 0 ≡ get_or (map slow (count n 0) ++ rest) j 0
      at j =
          by_cases (dec_lt j from) (λ (b : j < from). kept j (λ x y. omega arith))
          (λ (b : ¬ (j < from)).
          by_cases (dec_lt j to) (λ (c : j < to). a.made j (omega arith) c ∙ sym (front_at slow n rest j (omega (arith, p.within))))
          (λ (c : ¬ (j < to)). kept j (λ x y. omega arith)))

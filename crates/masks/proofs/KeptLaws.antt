-- Masks that are kept: those of one list are stored beside those of the others; and where the lists of a mode or kind stand among the covered ones.
-- Assumes nothing.
use mathlib.Core.Path.{◌≡◌, refl, sym, ◌∙◌}
use mathlib.Core.Bool.{true, false}
use mathlib.Core.Logic.{by_cases}
use mathlib.Core.List.{List, []}
use Prim.Native.Nat.{ℕ, zero, suc, ◌+◌, ◌<◌, ◌≤◌}
use native.Mathlib.Decide.{dec_lt, ℕ_discrete}
use native.Mathlib.Omega.{arith}
use lib.Dec.{T}
use lib.ListN.{length, get_or, set, length-set, get_or-eq_default}
use lib.Seq.{get_or-set_same, get_or-set_other}
use Rattle.std.specs.Prelude.{Option, None, Some, IfSome, is_some}
use Rattle.channel.specs.declared.Kind.TheVariants.{Speech, Amr670, Amr740}
use Rattle.channel.specs.Checks.{checks475, checks515, checks590, checks_silence, checks}
use Rattle.fields.specs.Below.{Below}
use Rattle.fields.proofs.BelowLaws.{all_lt, listed_below}
use Rattle.crc.specs.declared.Taps.{Taps}
use Rattle.crc.specs.Taps.{MasksOf}
use Rattle.masks.specs.Kept.{covered, Kept, More}

-- masks stored for list i that are its own, or none
pub kept_set : (lists : List (Option Taps)) (i : ℕ) (x : Option Taps) → Kept lists → IfSome x (MasksOf (get_or covered i [])) → Kept (set lists i x)
kept_set lists i x k h j =
    by_cases (ℕ_discrete j i)
    (λ (d : j ≡ i).
    by_cases (dec_lt i (length lists))
    (λ (l : i < length lists). rw (d, get_or-set_same lists i x None l) h)
    (λ (l : ¬ (i < length lists)). let out : length (set lists i x) ≤ i = rw (length-set lists i x) (omega arith) in rw (d, get_or-eq_default (set lists i x) None {n = i} out) tt))
    (λ (d : ¬ (j ≡ i)). rw (get_or-set_other lists i j x None d) (k j))

-- once those of list i are stored where none were, they are there, and so are those of the others
pub more_set : (before now : List (Option Taps)) (i : ℕ) (m : Taps) → ((j : ℕ) → get_or now j None ≡ get_or before j None) → i < length now → is_some (get_or before i None) ≡ false → More i before (set now i (Some m))
more_set before now i m same l none =
    record {
      here = rw (get_or-set_same now i (Some m) None l);
      still = λ j s. get_or-set_other now i j (Some m) None (λ d. let t : is_some (get_or before i None) ≡ true = rw d at s in absurd cc) ∙ same j;
    }

-- an element stored where it stood
pub same_set : (lists : List (Option Taps)) (i j : ℕ) → get_or (set lists i (get_or lists i None)) j None ≡ get_or lists j None
same_set lists i j =
    by_cases (ℕ_discrete j i)
    (λ (d : j ≡ i).
    by_cases (dec_lt i (length lists))
    (λ (l : i < length lists). rw (d, get_or-set_same lists i (get_or lists i None) None l))
    (λ (l : ¬ (i < length lists)).
    let e : length (set lists i (get_or lists i None)) ≤ i = rw (length-set lists i (get_or lists i None)) (omega arith) in
    let f : length lists ≤ i = omega arith in
    rw (d, get_or-eq_default (set lists i (get_or lists i None)) None {n = i} e, get_or-eq_default lists None {n = i} f)))
    (λ (d : ¬ (j ≡ i)). get_or-set_other lists i j (get_or lists i None) None d)

-- what `places` answers: a list of the code that is one of the definition, with all its places in a frame
pub listed : (i : ℕ) (ps qs : List ℕ) → get_or covered i [] ≡ qs → ps ≡ qs → T (all_lt 160 ps) → (ps ≡ get_or covered i []) × Below 160 ps
listed i ps qs c e t = (e ∙ sym c, listed_below 160 ps t)

-- where the lists of a mode or kind stand among the covered ones. The D places stay folded here, and what is covered stays folded where an array is
-- compared with its list: else each comparison would compute all thirteen lists.
pub of_speech : get_or covered 0 [] ≡ get_or (checks 0 Speech) 0 []
unfolding covered checks
of_speech = refl

pub of_475 : (j : ℕ) → j < 4 → get_or covered (1 + j) [] ≡ get_or checks475 j []
unfolding covered checks
of_475 zero h = refl
of_475 (suc zero) h = refl
of_475 (suc (suc zero)) h = refl
of_475 (suc (suc (suc zero))) h = refl
of_475 (suc (suc (suc (suc j)))) h = absurd (omega arith)

pub of_515 : (j : ℕ) → j < 4 → get_or covered (5 + j) [] ≡ get_or checks515 j []
unfolding covered checks
of_515 zero h = refl
of_515 (suc zero) h = refl
of_515 (suc (suc zero)) h = refl
of_515 (suc (suc (suc zero))) h = refl
of_515 (suc (suc (suc (suc j)))) h = absurd (omega arith)

pub of_590 : get_or covered 9 [] ≡ get_or checks590 0 []
unfolding covered checks
of_590 = refl

pub of_670 : get_or covered 10 [] ≡ get_or (checks 0 Amr670) 0 []
unfolding covered checks
of_670 = refl

pub of_740 : get_or covered 11 [] ≡ get_or (checks 0 Amr740) 0 []
unfolding covered checks
of_740 = refl

pub of-silence : get_or covered 12 [] ≡ get_or checks_silence 0 []
unfolding covered checks
of-silence = refl

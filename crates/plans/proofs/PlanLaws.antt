-- Plans made entry by entry, and the place of each.
-- Assumes nothing.
use mathlib.Core.Path.{◌≡◌, refl, sym, ◌∙◌, ap}
use mathlib.Core.Logic.{by_cases}
use mathlib.Core.List.{List, [], ◌∷◌}
use Prim.Native.Nat.{ℕ, zero, suc, ◌+◌, ◌*◌, ◌-◌, ◌/◌, ◌<◌, ◌≤◌}
use native.Mathlib.Decide.{ℕ_discrete}
use native.Mathlib.Omega.{arith}
use lib.ListN.{length, get_or, set, take, drop, length-set}
use lib.Seq.{get_or-set_same, get_or-set_other}
use lib.Dec.{lit<, eqb}
use borrow.Author.Tests.{eq-eqb, ne_eqb}
use mathlib.Core.Bool.{cond}
use Rattle.channel.specs.declared.Kind.{Kind}
use Rattle.channel.specs.declared.Kind.TheVariants.{Speech, Data, Om, Configuration, NoSpeech, Lower, Amr670, Amr740}
use Rattle.channel.specs.Kinds.{kind_no}
use Rattle.entries.specs.declared.Entry.{Entry}
use Rattle.std.proofs.lemmas.Option.{same_Some}
use Rattle.std.proofs.Common.{Option, Some, None, IsSome}
use Rattle.plans.specs.declared.one_kind.Plan.{Plan}
use Rattle.plans.specs.Kept.{Kept}
use Rattle.plans.specs.Plan.{no_entry, entry_at, EntryAt, PlanOf}

-- what the loop over the bytes has done before turn j: the entries outside the span are made, and it is empty where it begins at its end
pub record Planning (ps : List ℕ) (entries : List Entry) (from to j : ℕ) : Type 0 where
  pub room : length entries ≡ 19
  pub from_to : from ≤ to
  pub within : to ≤ j
  pub others : (i : ℕ) → i < j → (from ≤ i → i < to → ⊥) → EntryAt (take 8 (drop (8 * i) ps)) (entry_at entries i)

-- an entry more
pub planning_entry : (ps : List ℕ) (entries : List Entry) (from to j : ℕ) (e : Entry) → j < 19 → EntryAt (take 8 (drop (8 * j) ps)) e → Planning ps entries from to j → Planning ps (set entries j e) from to (j + 1)
planning_entry ps entries from to j e in19 by p =
    record {
      room = length-set entries j e ∙ p.room;
      from_to = p.from_to;
      within = omega (arith, p.within);
      others = λ i l out.
          by_cases (ℕ_discrete i j)
          (λ (s : i ≡ j). rw (s, get_or-set_same entries j e no_entry (omega (arith, p.room))) by)
          (λ (s : ¬ (i ≡ j)). rw (get_or-set_other entries j i e no_entry s) (p.others i (omega arith) out));
    }

-- a byte that has none: the first, or one more
pub planning_first : (ps : List ℕ) (entries : List Entry) (from to j : ℕ) → from ≡ to → Planning ps entries from to j → Planning ps entries j (j + 1) (j + 1)
planning_first ps entries from to j none p =
    record { room = p.room; from_to = omega arith; within = omega arith; others = λ i l out. p.others i (by_cases (ℕ_discrete i j) (λ (s : i ≡ j). absurd (out (omega arith) (omega arith))) (λ (s : ¬ (i ≡ j)). omega arith)) (λ x y. omega arith) }

pub planning_odd : (ps : List ℕ) (entries : List Entry) (from to j : ℕ) → ¬ (from ≡ to) → Planning ps entries from to j → Planning ps entries from (j + 1) (j + 1)
planning_odd ps entries from to j some p =
    record {
      room = p.room;
      from_to = omega (arith, p.from_to, p.within);
      within = omega arith;
      others = λ i l out.
          by_cases (ℕ_discrete i j)
          (λ (s : i ≡ j). absurd (out (omega (arith, p.from_to, p.within)) (omega arith)))
          (λ (s : ¬ (i ≡ j)). p.others i (omega arith) (λ x y. out x (omega arith)));
    }

-- the one or the other, as `odd_bytes` has it
pub planning_none : (ps : List ℕ) (entries : List Entry) (from to j : ℕ) → Planning ps entries from to j → Planning ps entries (cond (eqb from to) j from) (j + 1) (j + 1)
planning_none ps entries from to j p =
    by_cases (ℕ_discrete from to)
    (λ (s : from ≡ to). rw (eq-eqb from to s) (planning_first ps entries from to j s p))
    (λ (s : ¬ (from ≡ to)). rw (ne_eqb from to s) (planning_odd ps entries from to j s p))

-- the whole plan
pub planning_all : (ps : List ℕ) (entries : List Entry) (from to j : ℕ) → j ≡ (length ps + 7) / 8 → Planning ps entries from to j → PlanOf ps entries from to
planning_all ps entries from to j all p = record { from_to = p.from_to; within = rw all at p.within; others = rw all at p.others }

-- a kind by its number
kind_at : ℕ → Kind
kind_at zero = Speech
kind_at (suc zero) = Speech
kind_at (suc (suc zero)) = Data
kind_at (suc (suc (suc zero))) = Om
kind_at (suc (suc (suc (suc zero)))) = Configuration
kind_at (suc (suc (suc (suc (suc zero))))) = NoSpeech
kind_at (suc (suc (suc (suc (suc (suc zero)))))) = Lower
kind_at (suc (suc (suc (suc (suc (suc (suc zero))))))) = Amr670
kind_at (suc (suc (suc (suc (suc (suc (suc (suc n)))))))) = Amr740

kind-at : (k : Kind) → k ≡ kind_at (kind_no k)
unfolding kind_at
kind-at Speech = refl
kind-at Data = refl
kind-at Om = refl
kind-at Configuration = refl
kind-at NoSpeech = refl
kind-at Lower = refl
kind-at Amr670 = refl
kind-at Amr740 = refl

pub kind_pos : (k : Kind) → 0 < kind_no k
kind_pos Speech = lit< tt
kind_pos Data = lit< tt
kind_pos Om = lit< tt
kind_pos Configuration = lit< tt
kind_pos NoSpeech = lit< tt
kind_pos Lower = lit< tt
kind_pos Amr670 = lit< tt
kind_pos Amr740 = lit< tt

pub kind_le : (k : Kind) → kind_no k ≤ 8
kind_le Speech = lit< tt
kind_le Data = lit< tt
kind_le Om = lit< tt
kind_le Configuration = lit< tt
kind_le NoSpeech = lit< tt
kind_le Lower = lit< tt
kind_le Amr670 = lit< tt
kind_le Amr740 = lit< tt

-- a kind has its number alone
pub kind-one : (o k : Kind) → kind_no o ≡ kind_no k → o ≡ k
kind-one o k e = kind-at o ∙ ap kind_at e ∙ sym (kind-at k)

-- an element that is read of a list by its own default, and is the list's
read_some : (made : List (Option Plan)) (i : ℕ) (o : Option Plan) → IsSome (get_or made i None) → o ≡ get_or made i o → o ≡ get_or made i None
read_some [] i o h e = cc
read_some (x ∷ xs) zero o h e = e
read_some (x ∷ xs) (suc i) o h e = read_some xs i o h e

-- the plan at a kind's place is that of the kind
pub kept_kind : (made : List (Option Plan)) (k : Kind) (p : Plan) (o : Option Plan) → Kept made → IsSome (get_or made (kind_no k - 1) None) → o ≡ get_or made (kind_no k - 1) o → o ≡ Some p → p.kind ≡ k
kept_kind made k p o kept some read is =
    let at = kept (kind_no k - 1) p (sym (read_some made (kind_no k - 1) o some read) ∙ is) in
    kind-one p.kind k (omega (arith, at, kind_pos k))

-- one more is kept, at its kind's place
pub kept_next : (made : List (Option Plan)) (k : Kind) (p : Plan) → length made ≡ 8 → p.kind ≡ k → Kept made → Kept (set made (kind_no k - 1) (Some p))
kept_next made k p room is kept i q e =
    let at = kind_no k - 1 in
    by_cases (ℕ_discrete i at)
    (λ (s : i ≡ at).
    let same = get_or-set_same made at (Some p) None (omega (arith, room, kind_le k)) in
    let read : get_or (set made at (Some p)) at None ≡ Some q = rw s at e in
    let own : p ≡ q = same_Some p q (sym same ∙ read) in
    let kind : kind_no q.kind ≡ kind_no k = ap (λ (o : Plan). kind_no o.kind) (sym own) ∙ ap kind_no is in
    omega (arith, kind, s, kind_pos k))
    (λ (s : ¬ (i ≡ at)). kept i q (sym (get_or-set_other made at i (Some p) None s) ∙ e))

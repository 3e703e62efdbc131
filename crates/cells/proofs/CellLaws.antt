-- A name that a list of places gives, and fixed bits by the octets of a pattern.
-- Assumes nothing.
use mathlib.Core.Path.{◌≡◌, refl, sym, ◌∙◌, ap}
use mathlib.Core.Logic.{by_cases}
use mathlib.Core.Bool.{Bool, true, false, not, cond}
use mathlib.Core.List.{List, [], ◌∷◌, ◌++◌}
use Prim.Native.Nat.{ℕ, suc, ◌+◌, ◌-◌, ◌/◌, ◌%◌, ◌^◌, ◌<◌, ◌≤◌, zero-le}
use native.Mathlib.Nat.{zero-div}
use native.Mathlib.Decide.{ℕ_discrete, dec_lt}
use native.Mathlib.Omega.{arith}
use borrow.Author.Tests.{eq-eqb, ne_eqb, lt-ltb, le-ltb}
use lib.Dec.{eqb, ltb}
use lib.ListN.{length, get_or, get_or-eq_default}
use Rattle.std.specs.Prelude.{Option, None, Some}
use Rattle.std.specs.List.{position_or_len}
use Rattle.std.specs.Option.{is_some, option_or, option_map}
use Rattle.bits.specs.Bit.{bit_at, count}
use Rattle.channel.specs.Places.{elem}
use Rattle.channel.proofs.BoolLaws.{all-at, never, elem-count}
use Rattle.word.specs.Words.{FixedBy}
use Rattle.word.proofs.MaskLaws.{elem-append, within, mask_at, fixed-at}
use Rattle.cells.specs.declared.Cell.{Cell}
use Rattle.cells.specs.declared.Cell.TheVariants.{Zero, One, C}
use Rattle.cells.specs.Cells.{index_of, named, sync_cell}

-- a place has an index in a list where it is an entry
index-elem : (p : ℕ) (ps : List ℕ) → is_some (index_of p ps) ≡ elem p ps
index-elem p ps = found (ltb (before p ps) (length ps)) (before p ps) ∙ entry ps
  where
    before : ℕ → List ℕ → ℕ
    before p ps = position_or_len (λ q. eqb q p) ps

    found : (b : Bool) (i : ℕ) → is_some (cond b (Some i) None) ≡ b
    found true i = refl
    found false i = refl

    further : (a b : ℕ) → ltb (1 + a) (suc b) ≡ ltb a b
    further a b = by_cases (dec_lt a b) (λ (l : a < b). lt-ltb (1 + a) (suc b) (omega arith) ∙ sym (lt-ltb a b l)) (λ (l : ¬ (a < b)). le-ltb (1 + a) (suc b) (omega arith) ∙ sym (le-ltb a b (omega arith)))

    entry : (qs : List ℕ) → ltb (position_or_len (λ q. eqb q p) qs) (length qs) ≡ elem p qs
    entry [] = refl
    entry (q ∷ qs) =
        by_cases (ℕ_discrete q p)
        (λ (e : q ≡ p). rw (eq-eqb q p e, eq-eqb p q (sym e)) (lt-ltb 0 (suc (length qs)) (omega arith)))
        (λ (d : ¬ (q ≡ p)). rw (ne_eqb q p d, ne_eqb p q (λ e. d (sym e))) (further (position_or_len (λ r. eqb r p) qs) (length qs) ∙ entry qs))

-- one name for every entry
named-all : (ps : List ℕ) (x : Cell) (p : ℕ) → named ps (λ _. x) p ≡ cond (elem p ps) (Some x) None
unfolding named
named-all ps x p = go (index_of p ps) ∙ ap (λ (b : Bool). cond b (Some x) None) (index-elem p ps)
  where
    go : (o : Option ℕ) → option_map (λ _. x) o ≡ cond (is_some o) (Some x) None
    go None = refl
    go (Some i) = refl

-- behind twenty octets no bit is one
pub no_bit : (s : List ℕ) (p : ℕ) → length s ≡ 20 → 160 ≤ p → bit_at s p ≡ false
no_bit s p size l =
    let none : get_or s (p / 8) 0 ≡ 0 = get_or-eq_default {A = ℕ} s 0 {n = p / 8} (omega arith) in
    rw (none, zero-div (2 ^ (7 - p % 8)))

-- fixed bits by the octets of a pattern
module _ (zeros ones mask fixed cs : List ℕ) (p : ℕ) (by : FixedBy zeros ones mask fixed) (size : length mask ≡ 20) where
  abbrev behind : Option Cell
  behind = named cs (λ i. C (i + 1)) p

  abbrev choice : Bool → Bool → Option Cell
  choice zero one = option_or (cond zero (Some Zero) None) (option_or (cond one (Some One) None) behind)

  whole : sync_cell zeros ones cs p ≡ choice (elem p zeros) (elem p ones)
  whole =
      ap (λ (o : Option Cell). option_or o (option_or (named ones (λ i. One) p) behind)) (named-all zeros Zero p)
      ∙ ap (λ (o : Option Cell). option_or (cond (elem p zeros) (Some Zero) None) (option_or o behind)) (named-all ones One p)

  -- a bit of the twenty octets that is one lies in them
  inside : bit_at mask p ≡ true → elem p (count 160 0) ≡ true
  inside e = by_cases (dec_lt p 160) (λ (l : p < 160). elem-count p 160 0 zero-le (omega arith)) (λ (l : ¬ (p < 160)). absurd (never (sym e ∙ no_bit mask p size (omega arith))))

  in_one : bit_at mask p ≡ true → elem p (zeros ++ ones) ≡ true
  in_one e = sym (mask_at (bit_at mask) zeros ones mask fixed by p (inside e)) ∙ e

  pub sync-one : bit_at mask p ≡ true → bit_at fixed p ≡ true → Some One ≡ sync_cell zeros ones cs p
  sync-one e f =
      let o : elem p ones ≡ true = sym (fixed-at (bit_at mask) zeros ones mask fixed by p (inside e)) ∙ f in
      sym (whole ∙ go (elem p zeros) (elem p ones) refl refl o)
    where
      go : (z o : Bool) → elem p zeros ≡ z → elem p ones ≡ o → o ≡ true → choice z o ≡ Some One
      go false true q r t = refl
      go true true q r t = absurd (never (sym (all-at (λ i. not (elem i ones)) zeros p q by.apart) ∙ rw r))
      go false false q r t = absurd (never (sym t))
      go true false q r t = absurd (never (sym t))

  pub sync-zero : bit_at mask p ≡ true → bit_at fixed p ≡ false → Some Zero ≡ sync_cell zeros ones cs p
  sync-zero e f =
      let o : elem p ones ≡ false = sym (fixed-at (bit_at mask) zeros ones mask fixed by p (inside e)) ∙ f in
      sym (whole ∙ ap (λ (b : Bool). choice b (elem p ones)) (go (elem p zeros) refl o))
    where
      go : (z : Bool) → elem p zeros ≡ z → elem p ones ≡ false → elem p zeros ≡ true
      go true q o = q
      go false q o = absurd (never (sym (in_one e) ∙ elem-append p zeros ones ∙ rw (q, o)))

  pub sync-none : bit_at mask p ≡ false → behind ≡ sync_cell zeros ones cs p
  sync-none e = sym (whole ∙ go (elem p zeros) (elem p ones) refl refl)
    where
      out : elem p (zeros ++ ones) ≡ true → ⊥
      out i = never (sym i ∙ sym (mask_at (bit_at mask) zeros ones mask fixed by p (within (bit_at mask) zeros ones mask fixed by p i)) ∙ e)

      go : (z o : Bool) → elem p zeros ≡ z → elem p ones ≡ o → choice z o ≡ behind
      go false false q r = refl
      go true o q r = absurd (out (elem-append p zeros ones ∙ rw q))
      go false true q r = absurd (out (elem-append p zeros ones ∙ rw (q, r)))

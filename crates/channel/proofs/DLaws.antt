-- The rule of the D places (document 01, "Frames"): within a kind they rise, none is fixed, C, XC or kind 1's CRC, and no other place is missing.
-- Assumes nothing.
use mathlib.Core.Path.{◌≡◌, refl, sym, ◌∙◌, ap}
use mathlib.Core.Bool.{Bool, true, false, cond, not, ◌&&◌}
use mathlib.Core.List.{List, [], ◌∷◌, map}
use Prim.Native.Nat.{ℕ, zero, suc, ◌+◌, ◌-◌, ◌≤◌, ◌<◌}
use native.Mathlib.Omega.{arith}
use lib.Dec.{eqb}
use lib.ListN.{length}
use borrow.Author.Tests.{eqb-true, not-true}
use Rattle.bits.specs.Bit.{count}
use Rattle.channel.specs.declared.Kind.{Kind}
use Rattle.channel.specs.Kinds.{kinds, d_count, body_of}
use Rattle.channel.specs.Places.{upto, elem, taken, without, d_places}
use Rattle.channel.proofs.BoolLaws.{ands, and_both, and-false, elem-count}
use Rattle.channel.proofs.FrameLaws.{body_low}

-- each kind has as many D bits as the table of kinds says, 1,022 in all
pub d_counts : map (λ (k : Kind). length (d_places k)) kinds ≡ map d_count kinds
unfolding d_places
d_counts = refl

-- the list rises, from a on
abbrev pub Rises : ℕ → List ℕ → Type 0
Rises a [] = Unit {0}
Rises a (p ∷ ps) = (a ≤ p) × Rises (suc p) ps

rises_lower : (a b : ℕ) (ps : List ℕ) → a ≤ b → Rises b ps → Rises a ps
rises_lower a b [] h r = tt
rises_lower a b (p ∷ ps) h r = (omega (arith, r.0), r.1)

module _ (ts : List ℕ) where
  rises : (k a : ℕ) → Rises a (without ts (count k a))
  rises zero a = tt
  rises (suc k) a = go (elem a ts) (rises k (suc a))
    where
      rest : List ℕ
      rest = without ts (count k (suc a))

      go : (b : Bool) → Rises (suc a) rest → Rises a (cond b rest (a ∷ rest))
      go true r = rises_lower a (suc a) rest (omega arith) r
      go false r = (omega arith, r)

  -- what is left of a list are those of it that are not in the other
  elem-without : (p : ℕ) (is : List ℕ) → elem p (without ts is) ≡ elem p is && not (elem p ts)
  elem-without p [] = refl
  elem-without p (i ∷ is) = go (elem i ts) refl (eqb p i) refl (elem-without p is)
    where
      rest : List ℕ
      rest = without ts is

      go : (b : Bool) → elem i ts ≡ b → (t : Bool) → eqb p i ≡ t → elem p rest ≡ elem p is && not (elem p ts)
          → elem p (cond b rest (i ∷ rest)) ≡ cond t true (elem p is) && not (elem p ts)
      go true e true q h =
          let m : elem p ts ≡ true = rw (eqb-true p i q) e in
          rw (h, m) (and-false (elem p is))
      go true e false q h = h
      go false e true q h =
          let m : elem p ts ≡ false = rw (eqb-true p i q) e in
          rw (q, m)
      go false e false q h = rw q h

count-elem : (p k a : ℕ) → elem p (count k a) ≡ true → (a ≤ p) × (p < a + k)
count-elem p zero a h = let z : ◌≡◌ {A = ℕ} 0 1 = cc in absurd (omega arith)
count-elem p (suc k) a h = go (eqb p a) refl h (count-elem p k (suc a))
  where
    go : (t : Bool) → eqb p a ≡ t → cond t true (elem p (count k (suc a))) ≡ true → (elem p (count k (suc a)) ≡ true → (suc a ≤ p) × (p < suc a + k)) → (a ≤ p) × (p < a + suc k)
    go true q h rest = let e = eqb-true p a q in (omega arith, omega arith)
    go false q h rest = let r = rest h in (omega arith, omega arith)

-- the rule of a kind's D places
pub record Rule (k : Kind) (ps : List ℕ) : Type 0 where
  -- they rise
  pub rise : Rises 0 ps
  -- each lies in the body, and is not fixed, C, XC or kind 1's CRC
  pub free : (p : ℕ) → elem p ps ≡ true → (p < body_of k) × (elem p (taken k) ≡ false)
  -- no other place of the body is missing
  pub whole : (p : ℕ) → p < body_of k → elem p (taken k) ≡ false → elem p ps ≡ true

pub d_rule : (k : Kind) → Rule k (d_places k)
unfolding d_places
d_rule k =
    let b = body_low k in
    record {
      rise = rises (taken k) (suc (body_of k - 1) - 0) 0;
      free =
          λ p h.
          let t : elem p (upto 0 (body_of k - 1)) && not (elem p (taken k)) ≡ true = sym (elem-without (taken k) p (upto 0 (body_of k - 1))) ∙ h in
          let c = count-elem p (suc (body_of k - 1) - 0) 0 (search ands) in
          (omega arith, not-true (elem p (taken k)) (search ands));
      whole =
          λ p l n.
          elem-without (taken k) p (upto 0 (body_of k - 1))
          ∙ and_both _ _ (elem-count p (suc (body_of k - 1) - 0) 0 (omega arith) (omega arith)) (ap not n);
    }

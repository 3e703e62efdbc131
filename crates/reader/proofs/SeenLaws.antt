-- A frame seen in the twenty octets from p on is a frame that is due at p, and where none is seen none is due.
-- Assumes nothing.
use mathlib.Core.Path.{◌≡◌, refl, sym, ◌∙◌, ap, subst, fun_ext}
use mathlib.Core.Bool.{Bool, true, false, ◌&&◌, cond}
use mathlib.Core.List.{List}
use Prim.Native.Nat.{ℕ, ◌+◌, ◌≤◌, ◌<◌}
use native.Mathlib.Omega.{arith}
use native.Mathlib.Nat.{zero-add}
use borrow.Author.Tests.{ltb-true, lt-ltb}
use lib.Dec.{eqb, ltb}
use Rattle.bits.specs.Bit.{bit_at, twenty, bits_from}
use Rattle.bits.proofs.BitLaws.{twenty-bit}
use Rattle.channel.specs.declared.Direction.{Direction}
use Rattle.channel.specs.declared.Kind.{Kind}
use Rattle.std.specs.Prelude.{Some, None}
use Rattle.channel.specs.Kinds.{body_of, least_tail}
use Rattle.channel.specs.Coding.{Word, word_at, is_body}
use Rattle.channel.specs.Verdict.{Context, verdict_of, starts_by, follows, allowed}
use Rattle.channel.specs.Frames.{Capture, Frame, Tail, Due}
use Rattle.channel.proofs.BoolLaws.{never}
use Rattle.channel.proofs.TailLaws.{tail-one}
use Rattle.channel.proofs.FrameLaws.{one-body, body_high, uncut}
use Rattle.channel.proofs.CutLaws.{allowed_by, verdict-cut}
use Rattle.reader.specs.Seen.{octets_at, Seen}

module _ (w : Capture) (x : Context) (p : ℕ) (o : List ℕ) (octets : o ≡ octets_at w p) where
  abbrev d : Direction
  d = w.terms.direction

  abbrev g : Word
  g = bit_at o

  -- a body before n is in the octets
  word_in : (k : Kind) → p + body_of k ≤ w.n → word_at g 0 (body_of k) ≡ word_at w.bits p (body_of k)
  word_in k h = fun_ext (λ i. go i (ltb i (body_of k)) refl)
    where
      go : (i : ℕ) (b : Bool) → ltb i (body_of k) ≡ b → b && g (0 + i) ≡ b && w.bits (p + i)
      go i false e = refl
      go i true e =
          let l : i < body_of k = ltb-true i (body_of k) e in
          let m : ltb (p + i) w.n ≡ true = lt-ltb (p + i) w.n (omega arith) in
          let t : bit_at (twenty (bits_from w.bits w.n p)) i ≡ ltb (p + i) w.n && w.bits (p + i) = twenty-bit (bits_from w.bits w.n p) i (omega (arith, body_high k)) in
          ap g (zero-add i) ∙ ap (λ (s : List ℕ). bit_at s i) octets ∙ t ∙ ap (λ (c : Bool). c && w.bits (p + i)) m

  -- what is due has its body in the octets
  due-body : (h : Frame) → Due w x p h → is_body d g h.kind ≡ true
  due-body h e =
      sym (uncut d g h.kind)
      ∙ ap (λ (b : Word). is_body d b h.kind) (word_in h.kind e.stands.before ∙ sym e.stands.bits)
      ∙ e.stands.holds

  -- no kind: nothing is due
  pub none_of_no_kind : ((k : Kind) → is_body d g k ≡ false) → Seen w x p None
  none_of_no_kind lacks h e = never (sym (due-body h e) ∙ lacks h.kind)

  module _ (k : Kind) (is : is_body d g k ≡ true) where
    same_kind : (h : Frame) → Due w x p h → h.kind ≡ k
    same_kind h e = one-body d g h.kind k (due-body h e) is

    -- the body runs past n
    pub none-past : w.n < p + body_of k → Seen w x p None
    none-past l h e = let q = ap body_of (same_kind h e) in omega (arith, e.stands.before)

    -- rule 2 does not allow it
    pub none-refused : (v : ℕ) → v ≡ verdict_of w.terms x g k → cond (eqb x 0) (starts_by k v) (follows x k) ≡ false → Seen w x p None
    none-refused v j z h e =
        let q = same_kind h e in
        let b : h.body ≡ word_at g 0 (body_of h.kind) = e.stands.bits ∙ sym (word_in h.kind e.stands.before) in
        let a : allowed w.terms x (word_at g 0 (body_of h.kind)) h.kind ≡ true = subst (λ (u : Word). allowed w.terms x u h.kind ≡ true) b e.allows in
        let a' : allowed w.terms x (word_at g 0 (body_of k)) k ≡ true = subst (λ (i : Kind). allowed w.terms x (word_at g 0 (body_of i)) i ≡ true) q a in
        never (sym a' ∙ sym (allowed_by w.terms x g k v j) ∙ z)

    -- the tail is too short
    pub none-short : (t : ℕ) → Tail w (p + body_of k) t → t < least_tail d k → Seen w x p None
    none-short t whole l h e =
        let q = same_kind h e in
        let t' : Tail w (p + body_of k) h.tail = subst (λ (i : Kind). Tail w (p + body_of i) h.tail) q e.stands.tail in
        let m : least_tail d k ≤ h.tail = subst (λ (i : Kind). least_tail d i ≤ h.tail) q e.stands.least in
        omega (arith, tail-one w (p + body_of k) t h.tail whole t')

    -- and where nothing is amiss it is due
    pub seen_due : (v t : ℕ) → p + body_of k ≤ w.n → v ≡ verdict_of w.terms x g k → cond (eqb x 0) (starts_by k v) (follows x k) ≡ true → Tail w (p + body_of k) t
        → least_tail d k ≤ t → Seen w x p (Some (record { kind = k; octets = o; start = p; tail = t; verdict = v }))
    seen_due v t l j z whole m = (
      record {
        stands =
            record {
              at = refl;
              before = l;
              bits = word_in k l;
              holds = uncut d g k ∙ is;
              tail = whole;
              least = m;
            };
        allows = sym (allowed_by w.terms x g k v j) ∙ z;
        judged = j ∙ sym (verdict-cut w.terms x g k);
      },
      octets,
    )

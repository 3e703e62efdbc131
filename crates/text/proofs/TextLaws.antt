-- A text put into a buffer: one text behind the other, and the digits of a number, spelled from the back.
-- Assumes nothing.
use mathlib.Core.Path.{◌≡◌, refl, sym, ◌∙◌, ap}
use mathlib.Core.Bool.{Bool, true, false, cond}
use mathlib.Core.List.{List, [], ◌∷◌, ◌++◌, append_assoc, append-nil}
use mathlib.Core.Logic.{by_cases}
use Prim.Native.Nat.{ℕ, zero, suc, ◌+◌, ◌*◌, ◌-◌, ◌/◌, ◌%◌, ◌^◌, ◌≤◌, ◌<◌}
use native.Mathlib.Numerals.{unary_clauses}
use native.Mathlib.Omega.{arith}
use native.Mathlib.Decide.{dec_lt}
use borrow.Author.Tests.{lt-ltb, le-ltb}
use lib.Dec.{ltb}
use lib.ListN.{length, take, drop, set, replicate, length-append, length-drop, length-set, length-replicate, drop_of_length-le}
use lib.Seq.{append_snoc, set_split, take_all, take_at, drop_at, drop-drop, length-take-le, paste-zero}
use Rattle.std.specs.Borrow.{MutBor}
use Rattle.text.specs.Text.{digits_of, decimal_of, Put, Same}

-- digits spelled from the back: those that stand are the last, and those of the rest are due in front of them
pub record Spelled (n from rest : ℕ) (digits : List ℕ) : Type 0 where
  pub fits : rest < 10 ^ suc from
  pub inside : from < length digits
  pub due : decimal_of n ≡ digits_of (suc from) rest ++ drop (suc from) digits

-- none is spelled yet
pub spelled_none : (n : ℕ) (digits : List ℕ) → n < 18446744073709551616 → length digits ≡ 20 → Spelled n 19 n digits
spelled_none n digits h l = record { fits = omega arith; inside = omega arith; due = sym (append-nil (decimal_of n)) ∙ ap (λ (t : List ℕ). decimal_of n ++ t) (sym (drop_of_length-le digits {i = 20} (omega arith))) }

module _ (n rest : ℕ) (digits : List ℕ) where
  -- the digit at a place and those behind it
  behind : (from digit : ℕ) → from < length digits → drop from (set digits from digit) ≡ digit ∷ drop (suc from) digits
  behind from digit h = ap (drop from) (set_split digits from digit h) ∙ drop_at (take from digits) (digit ∷ drop (suc from) digits) from (length-take-le from digits (omega arith))

  -- one digit more, where the rest has more than one
  pub spelled_some : (from : ℕ) → Spelled n from rest digits → 9 < rest → 1 ≤ from
  spelled_some zero s h = absurd (omega (arith, s.fits))
  spelled_some (suc from) s h = omega arith

  pub spelled_next : (from : ℕ) → Spelled n from rest digits → 9 < rest → Spelled n (from - 1) (rest / 10) (set digits from (48 + rest % 10))
  unfolding digits_of
  spelled_next zero s h = absurd (omega (arith, s.fits))
  spelled_next (suc from) s h =
      let low : rest < 10 ^ from * 10 * 10 = simp unary_clauses at s.fits in
      let less : suc from - 1 ≡ from = omega arith in
      rw less
      (record {
        fits = simp unary_clauses (omega arith);
        inside = omega (arith, s.inside, length-set digits (suc from) (48 + rest % 10));
        due =
            s.due ∙ rw (le-ltb rest 10 (omega arith)) (append_snoc (digits_of (suc from) (rest / 10)) (48 + rest % 10) (drop (suc (suc from)) digits))
            ∙ ap (λ (t : List ℕ). digits_of (suc from) (rest / 10) ++ t) (sym (behind (suc from) (48 + rest % 10) s.inside));
      })

  -- the first digit, where the rest has one
  pub spelled_all : (from : ℕ) → Spelled n from rest digits → rest ≤ 9 → drop from (set digits from (48 + rest % 10)) ≡ decimal_of n
  unfolding digits_of
  spelled_all from s h = behind from (48 + rest % 10) s.inside ∙ sym (s.due ∙ rw (lt-ltb rest 10 (omega arith)) refl)

-- a number has as many digits at most as are asked for
pub digits_most : (most n : ℕ) → length (digits_of most n) ≤ most
unfolding digits_of
digits_most zero n = omega arith
digits_most (suc most) n = go (ltb n 10) (digits_most most (n / 10))
  where
    go : (b : Bool) → length (digits_of most (n / 10)) ≤ most → length (cond b [] (digits_of most (n / 10)) ++ ((48 + n % 10) ∷ [])) ≤ suc most
    go true h = omega arith
    go false h = simp length-append (omega arith)

module _ (before text after : List ℕ) (at end : ℕ) (ends : end ≡ at + length text) (is : after ≡ take at before ++ text ++ drop (at + length text) before)
    (within : (end ≤ length after) × (end ≡ length (take end after))) where
  -- the place at which a text is put is inside the buffer
  inside : at ≤ length before
  inside =
      by_cases (dec_lt (length before) at)
      (λ (l : length before < at). let e : length (take at before) ≡ length before = ap length (take_all at before (omega arith)) in
      absurd (omega (arith, ends, within.0, ap length is, length-append (take at before ++ text) (drop (at + length text) before), length-append (take at before) text, length-drop (at + length text) before)))
      (λ (g : ¬ (length before < at)). omega arith)

  -- so the text stands behind what stood before the place
  pub put-by : Put before at text after end
  put-by =
      let front : length (take at before ++ text) ≡ end = length-append (take at before) text ∙ ap (λ (k : ℕ). k + length text) (length-take-le at before inside) ∙ sym ends in
      record {
        ends = ends;
        is = is;
        within = within;
        behind = ap (take end) is ∙ take_at (take at before ++ text) (drop (at + length text) before) end front;
      }

pub put-from : {before text after : List ℕ} {at end : ℕ} → Put before at text after end → at ≤ length before
put-from {before} {text} {after} {at} {end} p = inside before text after at end p.ends p.is p.within

-- a text behind another is one text
pub put-put : {a s b t c : List ℕ} {at m end : ℕ} → Put a at s b m → Put b m t c end → Put a at (s ++ t) c end
put-put {a} {s} {b} {t} {c} {at} {m} {end} p q =
    let front : length (take at a ++ s) ≡ m = length-append (take at a) s ∙ ap (λ (k : ℕ). k + length s) (length-take-le at a (put-from p)) ∙ sym p.ends in
    let rest : drop m b ≡ drop m a = ap (drop m) p.is ∙ drop_at (take at a ++ s) (drop (at + length s) a) m front ∙ ap (λ (k : ℕ). drop k a) (sym p.ends) in
    let place : m + length t ≡ at + length (s ++ t) = omega (arith, p.ends, length-append s t) in
    let behind : drop (m + length t) b ≡ drop (at + length (s ++ t)) a = sym (drop-drop (length t) m b) ∙ ap (drop (length t)) rest ∙ drop-drop (length t) m a ∙ ap (λ (k : ℕ). drop k a) place in
    put-by a (s ++ t) c at end (q.ends ∙ place)
    (q.is ∙ ap (λ (l : List ℕ). l ++ t ++ drop (m + length t) b) p.behind ∙ ap (λ (l : List ℕ). take at a ++ s ++ t ++ l) behind ∙ ap (λ (l : List ℕ). l ++ drop (at + length (s ++ t)) a) (append_assoc (take at a) s t))
    q.within

-- the buffer after a text is put, and where the text ends, are one
pub put_one : {before text after last : List ℕ} {at end stop : ℕ} → Put before at text after end → Put before at text last stop → (after ≡ last) × (end ≡ stop)
put_one p q = (p.is ∙ sym q.is, p.ends ∙ sym q.ends)

-- nothing is put yet
pub put-none : (before : List ℕ) (at : ℕ) → at ≤ length before → Put before at [] before at
put-none before at h = put-by before [] before at at (omega arith) (paste-zero before at []) (h, sym (length-take-le at before h))

-- a buffer that stays the same twice is the same
pub same_same : {a b c : MutBor (List ℕ)} → Same a b → Same b c → Same a c
same_same p q = record { reference = q.reference ∙ p.reference; long = q.long ∙ p.long }

-- a buffer of zeros
pub zeros-long : (k : ℕ) → k ≤ length {A = ℕ} (replicate k 0)
zeros-long k = omega (arith, length-replicate {A = ℕ} k 0)

-- The two calls: what was taken out goes back, and what was put back comes out; the other seven channels are kept, and two different channels go back in
-- either order; a channel taken out reads as it stands in the timeslot.
-- Assumes nothing.
use mathlib.Core.Path.{◌≡◌, refl, ap, sym, subst, ◌∙◌}
use mathlib.Core.List.{List, ◌++◌, append_assoc}
use Prim.Native.Nat.{ℕ, zero, suc, ◌+◌, ◌*◌, ◌/◌, ◌%◌, ◌<◌, ◌≤◌}
use native.Mathlib.Omega.{arith}
use lib.ListN.{length, take, drop, length-append, length-drop, get_or-append}
use lib.Seq.{take_at, drop_at, drop-drop}
use Rattle.reading.specs.Reading.{Cursor, Item, Reading}
use Rattle.bits.specs.Bit.{bit_at}
use Rattle.channel.specs.declared.Terms.{Terms}
use Rattle.channel.specs.Verdict.{Context}
use Rattle.channel.specs.Frames.{capture_of, Frame, rules}
use Rattle.channel.specs.Growth.{Agree}
use Rattle.channel.proofs.UnseenLaws.{reading-same}
use Rattle.timeslot.specs.Timeslot.{channel_bit, bytes_for, taken_out, put_back, refusal, after_by, TakeCall, PutCall, channel_of}
use Rattle.timeslot.proofs.CallLaws.{admitted, enough_same}
use Rattle.timeslot.proofs.TimeslotLaws.{length_taken, taken-bit, taken-same, taken-joined, length-put, put_bit_lem, put_other, put_unseen, put-taken, put_either}

-- what is taken out: the channel's bits, in a buffer of its length, which they fit
module _ (t : List ℕ) (k : ℕ) (buffer after : List ℕ) (p : TakeCall t k buffer 0 after) where
  pub taken-length : length after ≡ length buffer
  taken-length =
      ap length p.left
      ∙ length-append (taken_out t k) (drop (bytes_for (length t)) buffer)
      ∙ omega (arith, length_taken t k, length-drop (bytes_for (length t)) buffer, (admitted k (length t) (length buffer) (sym p.answer)).room)

  pub taken-fits : length t ≤ 8 * length after
  taken-fits = omega (arith, taken-length, (admitted k (length t) (length buffer) (sym p.answer)).room)

  pub taken-bits : (i : ℕ) → i < length t → bit_at after i ≡ channel_bit t k i
  taken-bits i l =
      let inside : i / 8 < length (taken_out t k) = omega (arith, length_taken t k) in
      rw (p.left, get_or-append (taken_out t k) (drop (bytes_for (length t)) buffer) 0 (i / 8) inside) (taken-bit t k i l)

  -- as a capture with n the number of octets it reads as the channel in the timeslot
  pub reads : (terms : Terms) (c : Cursor Context) (xs : List (Item Frame)) → Reading rules (capture_of after (length t) terms) c xs → Reading rules (channel_of t k terms) c xs
  reads terms c xs r = reading-same (length t) terms (bit_at after) (channel_bit t k) taken-bits c xs r

  pub reads-back : (terms : Terms) (c : Cursor Context) (xs : List (Item Frame)) → Reading rules (channel_of t k terms) c xs → Reading rules (capture_of after (length t) terms) c xs
  reads-back terms c xs r = reading-same (length t) terms (channel_bit t k) (bit_at after) (λ i l. sym (taken-bits i l)) c xs r

  -- put back, it leaves the timeslot as it was
  pub taken_back : (number : ℕ) (u : List ℕ) → PutCall t k after number u → (number ≡ 0) × (u ≡ t)
  taken_back number u q =
      let fit = admitted k (length t) (length buffer) (sym p.answer) in
      let none : number ≡ 0 = q.answer ∙ ap (refusal k (length t)) taken-length ∙ sym p.answer in
      (none, q.left ∙ ap (λ (n : ℕ). after_by n (put_back t k after) t) none ∙ put-taken t k after fit.from fit.to taken-bits)

-- a longer recording: what follows a multiple of eight octets, taken out into the buffer's rest behind their bytes, leaves there what both at once would
pub taken_on : (t u : List ℕ) (k : ℕ) (buffer x y : List ℕ) → length t % 8 ≡ 0 → TakeCall t k buffer 0 x → TakeCall u k (drop (bytes_for (length t)) x) 0 y
    → take (bytes_for (length t)) x ++ y ≡ taken_out (t ++ u) k ++ drop (bytes_for (length (t ++ u))) buffer
taken_on t u k buffer x y whole p q =
    let fit = admitted k (length t) (length buffer) (sym p.answer) in
    let n = bytes_for (length t) in
    let m = bytes_for (length u) in
    let front : take n x ≡ taken_out t k = ap (take n) p.left ∙ take_at (taken_out t k) (drop n buffer) n (length_taken t k) in
    let rest : drop n x ≡ drop n buffer = ap (drop n) p.left ∙ drop_at (taken_out t k) (drop n buffer) n (length_taken t k) in
    let back : y ≡ taken_out u k ++ drop (n + m) buffer = q.left ∙ ap (λ (b : List ℕ). taken_out u k ++ drop m b) rest ∙ ap (λ (b : List ℕ). taken_out u k ++ b) (drop-drop m n buffer) in
    let all : n + m ≡ bytes_for (length (t ++ u)) = omega (arith, length-append t u) in
    rw (front, back, all, taken-joined t u k fit.from fit.to whole) (sym (append_assoc (taken_out t k) (taken_out u k) (drop (bytes_for (length (t ++ u))) buffer)))

-- bytes that have the same bits of the channel are put back alike: what they have behind these is not looked at
pub bytes_unseen : (t : List ℕ) (k : ℕ) (a b : List ℕ) (m n : ℕ) (x y : List ℕ) → bytes_for (length t) ≤ length a → bytes_for (length t) ≤ length b → Agree (length t) (bit_at a) (bit_at b)
    → PutCall t k a m x → PutCall t k b n y → (m ≡ n) × (x ≡ y)
bytes_unseen t k a b m n x y la lb same p q =
    let number : m ≡ n = p.answer ∙ enough_same k (length t) (length a) (length b) la lb ∙ sym q.answer in
    (number, p.left ∙ ap (λ (u : List ℕ). after_by m u t) (put_unseen t k a b same) ∙ ap (λ (number : ℕ). after_by number (put_back t k b) t) number ∙ sym q.left)

-- putting back keeps the number of octets, refused or not
pub put-length : (t : List ℕ) (k : ℕ) (bytes : List ℕ) (number : ℕ) (u : List ℕ) → PutCall t k bytes number u → length u ≡ length t
put-length t k bytes zero u q = ap length q.left ∙ length-put t k bytes
put-length t k bytes (suc number) u q = ap length q.left

-- take out what was put back: where the bits have room it is not refused, and the channel's bits are those put
pub put_out : (t : List ℕ) (k : ℕ) (bytes u buffer : List ℕ) (number : ℕ) (after : List ℕ) → PutCall t k bytes 0 u → bytes_for (length t) ≤ length buffer → TakeCall u k buffer number after
    → (number ≡ 0) × ((i : ℕ) → i < length t → bit_at after i ≡ bit_at bytes i)
put_out t k bytes u buffer number after q room p =
    let fit = admitted k (length t) (length bytes) (sym q.answer) in
    let long = put-length t k bytes 0 u q in
    let none : number ≡ 0 = p.answer ∙ ap (λ (l : ℕ). refusal k l (length buffer)) long ∙ enough_same k (length t) (length buffer) (length bytes) room fit.room ∙ sym q.answer in
    let taken : TakeCall u k buffer 0 after = subst (λ (n : ℕ). TakeCall u k buffer n after) none p in
    (none, λ i l. taken-bits u k buffer after taken i (omega (arith, long)) ∙ rw q.left (put_bit_lem t k bytes i fit.from fit.to l))

-- the other seven channels are kept bit for bit
pub others-kept : (t : List ℕ) (k : ℕ) (bytes : List ℕ) (number : ℕ) (u : List ℕ) → PutCall t k bytes number u → (j i : ℕ) → 0 < j → j ≤ 8 → (j ≡ k → ⊥)
    → channel_bit u j i ≡ channel_bit t j i
others-kept t k bytes zero u q j i a b ne =
    let fit = admitted k (length t) (length bytes) (sym q.answer) in
    rw q.left (put_other t k bytes j i fit.from fit.to a b ne)
others-kept t k bytes (suc number) u q j i a b ne = rw q.left

-- so of any other channel the same is taken out, whether or not this one was put
pub others_same : (t : List ℕ) (j : ℕ) (bytes : List ℕ) (m : ℕ) (u : List ℕ) → PutCall t j bytes m u → (k : ℕ) → (k ≡ j → ⊥) → (buffer : List ℕ) (n p : ℕ) (x y : List ℕ)
    → TakeCall t k buffer n x → TakeCall u k buffer p y → (n ≡ p) × (x ≡ y)
others_same t j bytes m u q k ne buffer n p x y a b =
    let long = put-length t j bytes m u q in
    let same : n ≡ p = a.answer ∙ ap (λ (l : ℕ). refusal k l (length buffer)) (sym long) ∙ sym b.answer in
    (same, a.left ∙ go n a.answer ∙ ap (λ (number : ℕ). after_by number (taken_out u k ++ drop (bytes_for (length u)) buffer) buffer) same ∙ sym b.left)
  where
    go : (n : ℕ) → n ≡ refusal k (length t) (length buffer)
        → after_by n (taken_out t k ++ drop (bytes_for (length t)) buffer) buffer ≡ after_by n (taken_out u k ++ drop (bytes_for (length u)) buffer) buffer
    go (suc n) e = refl
    go zero e =
        let fit = admitted k (length t) (length buffer) (sym e) in
        let long = sym (put-length t j bytes m u q) in
        ap (λ (xs : List ℕ). xs ++ drop (bytes_for (length t)) buffer) (taken-same t u k long (λ i _. sym (others-kept t j bytes m u q k i fit.from fit.to ne)))
        ∙ ap (λ (l : ℕ). taken_out u k ++ drop (bytes_for l) buffer) long

-- and it reads as the same reading, whatever the buffers
pub others-read : (t : List ℕ) (j : ℕ) (bytes : List ℕ) (m : ℕ) (u : List ℕ) → PutCall t j bytes m u → (k : ℕ) → (k ≡ j → ⊥) → (c d x y : List ℕ) → TakeCall t k c 0 x → TakeCall u k d 0 y
    → (terms : Terms) (from : Cursor Context) (xs : List (Item Frame)) → Reading rules (capture_of x (length t) terms) from xs → Reading rules (capture_of y (length u) terms) from xs
others-read t j bytes m u q k ne c d x y a b terms from xs r =
    let fit = admitted k (length t) (length c) (sym a.answer) in
    let long = put-length t j bytes m u q in
    let kept : Agree (length t) (channel_bit t k) (channel_bit u k) = λ i _. sym (others-kept t j bytes m u q k i fit.from fit.to ne) in
    let there : Reading rules (record { bits = channel_bit u k; n = length t; terms = terms }) from xs = reading-same (length t) terms (channel_bit t k) (channel_bit u k) kept from xs (reads t k c x a terms from xs r) in
    reads-back u k d y b terms from xs (subst (λ (n : ℕ). Reading rules (record { bits = channel_bit u k; n = n; terms = terms }) from xs) (sym long) there)

-- two different channels go back in either order, refused or not
pub either_order : (t : List ℕ) (j k : ℕ) (a b : List ℕ) → (j ≡ k → ⊥) → (m₁ m₂ n₁ n₂ : ℕ) (t₁ t₂ u₁ u₂ : List ℕ) → PutCall t j a m₁ t₁ → PutCall t₁ k b m₂ t₂ → PutCall t k b n₁ u₁ → PutCall u₁ j a n₂ u₂
    → (t₂ ≡ u₂) × (m₁ ≡ n₂) × (m₂ ≡ n₁)
either_order t j k a b ne m₁ m₂ n₁ n₂ t₁ t₂ u₁ u₂ p₁ p₂ q₁ q₂ =
    let first : m₁ ≡ n₂ = p₁.answer ∙ ap (λ (l : ℕ). refusal j l (length a)) (sym (put-length t k b n₁ u₁ q₁)) ∙ sym q₂.answer in
    let second : m₂ ≡ n₁ = p₂.answer ∙ ap (λ (l : ℕ). refusal k l (length b)) (put-length t j a m₁ t₁ p₁) ∙ sym q₁.answer in
    (rw (p₂.left, q₂.left, p₁.left, q₁.left, second, sym first) (go m₁ n₁ p₁.answer q₁.answer), first, second)
  where
    go : (m n : ℕ) → m ≡ refusal j (length t) (length a) → n ≡ refusal k (length t) (length b)
        → after_by n (put_back (after_by m (put_back t j a) t) k b) (after_by m (put_back t j a) t) ≡ after_by m (put_back (after_by n (put_back t k b) t) j a) (after_by n (put_back t k b) t)
    go zero zero e f =
        let x = admitted j (length t) (length a) (sym e) in
        let y = admitted k (length t) (length b) (sym f) in
        put_either t j k a b x.from x.to y.from y.to ne
    go zero (suc n) e f = refl
    go (suc m) zero e f = refl
    go (suc m) (suc n) e f = refl

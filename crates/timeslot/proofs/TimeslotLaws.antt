-- A channel of a timeslot, taken out and put back: which bits are where.
-- Assumes nothing.
use mathlib.Core.Path.{◌≡◌, ap, sym, ◌∙◌}
use mathlib.Core.Logic.{by_cases}
use mathlib.Core.Bool.{Bool}
use mathlib.Core.List.{List, ◌++◌, map}
use Prim.Native.Nat.{ℕ, ◌+◌, ◌*◌, ◌-◌, ◌/◌, ◌%◌, ◌<◌, ◌≤◌}
use native.Mathlib.Nat.{zero-add}
use native.Mathlib.Decide.{dec_lt}
use native.Mathlib.Omega.{arith}
use borrow.Author.Tests.{lt-ltb}
use lib.Dec.{eqb}
use lib.ListN.{length, get_or, length-append, get_or-append, get_or-eq_default}
use lib.Seq.{ext_get_or, get_or-append-add}
use Rattle.bits.specs.Bit.{bit_at, to_n, number, count, octet_of, bits_from}
use Rattle.bits.proofs.BitLaws.{to_n_lt, to_n-one, unseen, octets-bit}
use Rattle.bits.proofs.CountLaws.{length-map-count, get_d_map_count, map-count-same, map-count-split}
use Rattle.bits.specs.Put.{put_in}
use Rattle.put.proofs.PutLaws.{put_same, put-apart}
use Rattle.lanes.specs.Lanes.{bit_of}
use Rattle.lanes.proofs.GatherLaws.{put_own, put_swap}
use Rattle.timeslot.specs.Timeslot.{channel_bit, bytes_for, taken_out, octet_with, put_back}
use Rattle.timeslot.proofs.ByteLaws.{channel_bit_lem, byte-is}

-- a channel taken out has the bytes that its bits need
pub length_taken : (t : List ℕ) (k : ℕ) → length (taken_out t k) ≡ bytes_for (length t)
unfolding taken_out
length_taken t k = length-map-count (octet_of (bits_from (channel_bit t k) (length t) 0)) (bytes_for (length t)) 0

-- and its bits
pub taken-bit : (t : List ℕ) (k i : ℕ) → i < length t → bit_at (taken_out t k) i ≡ channel_bit t k i
unfolding taken_out
taken-bit t k i l =
    octets-bit (bits_from (channel_bit t k) (length t) 0) (bytes_for (length t)) i (omega arith) ∙ rw (zero-add i, lt-ltb i (length t) l)

-- nothing else of the timeslot shows in it
pub taken-same : (t u : List ℕ) (k : ℕ) → length t ≡ length u → ((i : ℕ) → i < length t → channel_bit t k i ≡ channel_bit u k i) → taken_out t k ≡ taken_out u k
unfolding taken_out
taken-same t u k e same =
    ap (λ (g : ℕ → Bool). map (octet_of g) (count (bytes_for (length t)) 0)) (unseen (channel_bit t k) (channel_bit u k) (length t) 0 same)
    ∙ ap (λ (n : ℕ). map (octet_of (bits_from (channel_bit u k) n 0)) (count (bytes_for n) 0)) e

-- a byte of a channel is the same in two timeslots where its octets are
byte-same : (s t : List ℕ) (k x y : ℕ) → 0 < k → k ≤ 8 → ((i : ℕ) → i < 8 → get_or s (8 * x + i) 0 ≡ get_or t (8 * y + i) 0)
    → octet_of (bits_from (channel_bit s k) (length s) 0) x ≡ octet_of (bits_from (channel_bit t k) (length t) 0) y
byte-same s t k x y a b same =
    sym (byte-is s k x a b)
    ∙ ap number (map-count-same (λ i. bit_of (get_or s i 0) (8 - k)) (λ i. bit_of (get_or t i 0) (8 - k)) 8 (8 * x) (8 * y) (λ i l. ap (λ (o : ℕ). bit_of o (8 - k)) (same i l)))
    ∙ byte-is t k y a b

-- of a longer recording: behind a multiple of eight octets, the bytes of what follows follow
pub taken-joined : (t u : List ℕ) (k : ℕ) → 0 < k → k ≤ 8 → length t % 8 ≡ 0 → taken_out (t ++ u) k ≡ taken_out t k ++ taken_out u k
unfolding taken_out
taken-joined t u k a b whole =
    let byte : List ℕ → ℕ → ℕ = λ s. octet_of (bits_from (channel_bit s k) (length s) 0) in
    let q = length t / 8 in
    let m = bytes_for (length u) in
    let all : bytes_for (length (t ++ u)) ≡ q + m = omega (arith, length-append t u) in
    let first : bytes_for (length t) ≡ q = omega arith in
    let front = map-count-same (byte (t ++ u)) (byte t) q 0 0 (λ j l. byte-same (t ++ u) t k (0 + j) (0 + j) a b (λ i n. get_or-append t u 0 (8 * (0 + j) + i) (omega arith))) in
    let back = map-count-same (byte (t ++ u)) (byte u) m (0 + q) 0 (λ j l. byte-same (t ++ u) u k (0 + q + j) (0 + j) a b (λ i n.
    let at : length t + (8 * (0 + j) + i) ≡ 8 * (0 + q + j) + i = omega arith in
    rw at at (get_or-append-add t u (8 * (0 + j) + i) 0))) in
    rw (all, first) (map-count-split (byte (t ++ u)) q m 0 ∙ rw (front, back))

-- putting back keeps the length
pub length-put : (t : List ℕ) (k : ℕ) (bytes : List ℕ) → length (put_back t k bytes) ≡ length t
unfolding put_back
length-put t k bytes = length-map-count (octet_with t k bytes) (length t) 0

-- each octet after
octet-put : (t : List ℕ) (k : ℕ) (bytes : List ℕ) (i : ℕ) → i < length t → get_or (put_back t k bytes) i 0 ≡ octet_with t k bytes i
unfolding put_back
octet-put t k bytes i l = get_d_map_count (octet_with t k bytes) (length t) 0 i l ∙ ap (octet_with t k bytes) (zero-add i)

-- the channel's bits are those put
pub put_bit_lem : (t : List ℕ) (k : ℕ) (bytes : List ℕ) (i : ℕ) → 0 < k → k ≤ 8 → i < length t → channel_bit (put_back t k bytes) k i ≡ bit_at bytes i
put_bit_lem t k bytes i a b l =
    channel_bit_lem (put_back t k bytes) k i a b
    ∙ rw (octet-put t k bytes i l, put_same (get_or t i 0) (8 - k) (to_n (bit_at bytes i)) (to_n_lt (bit_at bytes i))) (to_n-one (bit_at bytes i))

-- and the other seven channels are kept
pub put_other : (t : List ℕ) (k : ℕ) (bytes : List ℕ) (j i : ℕ) → 0 < k → k ≤ 8 → 0 < j → j ≤ 8 → (j ≡ k → ⊥) → channel_bit (put_back t k bytes) j i ≡ channel_bit t j i
put_other t k bytes j i a b c d ne =
    channel_bit_lem (put_back t k bytes) j i c d
    ∙ by_cases (dec_lt i (length t))
    (λ (l : i < length t).
    rw (octet-put t k bytes i l) (ap (λ (n : ℕ). eqb n 1) (put-apart (get_or t i 0) (8 - k) (to_n (bit_at bytes i)) (8 - j) (to_n_lt (bit_at bytes i)) (λ (e : 8 - j ≡ 8 - k). ne (omega arith)))))
    (λ (g : ¬ (i < length t)).
    rw (get_or-eq_default (put_back t k bytes) 0 {n = i} (omega (arith, length-put t k bytes)), get_or-eq_default t 0 {n = i} (omega arith)))
    ∙ sym (channel_bit_lem t j i c d)

-- what bytes have behind the channel's bits is not looked at
pub put_unseen : (t : List ℕ) (k : ℕ) (a b : List ℕ) → ((i : ℕ) → i < length t → bit_at a i ≡ bit_at b i) → put_back t k a ≡ put_back t k b
unfolding put_back
put_unseen t k a b same =
    map-count-same (octet_with t k a) (octet_with t k b) (length t) 0 0 (λ i l. ap (λ (x : Bool). put_in (get_or t (0 + i) 0) (8 - k) (to_n x)) (same (0 + i) (rw (zero-add i) l)))

-- a timeslot into which its own bits are put is as it was
pub put-taken : (t : List ℕ) (k : ℕ) (bytes : List ℕ) → 0 < k → k ≤ 8 → ((i : ℕ) → i < length t → bit_at bytes i ≡ channel_bit t k i) → put_back t k bytes ≡ t
put-taken t k bytes a b own =
    ext_get_or 0 (put_back t k bytes) t (length-put t k bytes) (λ i m.
    let l : i < length t = omega (arith, length-put t k bytes) in
    octet-put t k bytes i l ∙ rw (own i l, channel_bit_lem t k i a b) (put_own (8 - k) (get_or t i 0)))

-- two different channels go back in either order
pub put_either : (t : List ℕ) (j k : ℕ) (a b : List ℕ) → 0 < j → j ≤ 8 → 0 < k → k ≤ 8 → (j ≡ k → ⊥) → put_back (put_back t j a) k b ≡ put_back (put_back t k b) j a
put_either t j k a b hj lj hk lk ne =
    ext_get_or 0 (put_back (put_back t j a) k b) (put_back (put_back t k b) j a) (long ∙ sym (length-put (put_back t k b) j a ∙ length-put t k b)) (λ i m.
    let l : i < length t = omega (arith, long) in
    both j a k b i l
    ∙ put_swap (8 - j) (8 - k) (get_or t i 0) (to_n (bit_at a i)) (to_n (bit_at b i)) (to_n_lt (bit_at a i)) (to_n_lt (bit_at b i)) (λ (e : 8 - j ≡ 8 - k). ne (omega arith))
    ∙ sym (both k b j a i l))
  where
    long : length (put_back (put_back t j a) k b) ≡ length t
    long = length-put (put_back t j a) k b ∙ length-put t j a

    both : (j : ℕ) (a : List ℕ) (k : ℕ) (b : List ℕ) (i : ℕ) → i < length t → get_or (put_back (put_back t j a) k b) i 0 ≡ put_in (put_in (get_or t i 0) (8 - j) (to_n (bit_at a i))) (8 - k) (to_n (bit_at b i))
    both j a k b i l =
        octet-put (put_back t j a) k b i (omega (arith, length-put t j a)) ∙ ap (λ (x : ℕ). put_in x (8 - k) (to_n (bit_at b i))) (octet-put t j a i l)

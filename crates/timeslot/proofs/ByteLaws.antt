-- A channel byte by byte: the bits of a byte from its octets, and the octets with the bits of a byte.
-- Assumes nothing.
use mathlib.Core.Path.{◌≡◌, refl, ap, sym, ◌∙◌}
use mathlib.Core.Logic.{◌⊎◌, inl, inr, by_cases}
use mathlib.Core.List.{List, map, append-nil}
use Prim.Native.Nat.{ℕ, ◌+◌, ◌*◌, ◌-◌, ◌/◌, ◌%◌, ◌^◌, ◌<◌, ◌≤◌}
use native.Mathlib.Nat.{zero-add, zero-div}
use native.Mathlib.Decide.{dec_lt}
use native.Mathlib.Omega.{arith}
use borrow.Author.Tests.{lt-ltb, le-ltb}
use lib.Dec.{eqb}
use lib.ListN.{length, get_or, get_or-eq_default}
use lib.Seq.{drop-length}
use Rattle.bits.specs.Bit.{bit_at, to_n, number, count, octet_of, bits_from}
use Rattle.bits.proofs.BitLaws.{byte-bit}
use Rattle.bits.proofs.CountLaws.{map-count-same}
use Rattle.bits.specs.Put.{put_in}
use Rattle.put.specs.Put.{Shows}
use Rattle.lanes.specs.Lanes.{lanes, Eight, bit_of}
use Rattle.lanes.proofs.LaneLaws.{eight-same, lanes-short, filled-rest}
use Rattle.timeslot.specs.Timeslot.{channel_bit, octet_with, put_back}
use Rattle.timeslot.specs.Share.{Share, PutTo}

-- eight octets at a time, and those left at the end
pub share_whole : (octets j : ℕ) → j < octets / 8 → Share octets j 8
share_whole octets j l = record { within = omega arith; most = omega arith; all = inl refl }

pub share_left : (octets : ℕ) → Share octets (octets / 8) (octets % 8)
share_left octets = record { within = omega arith; most = omega arith; all = inr (omega arith) }

-- they are eight octets of the timeslot, with zeros for those behind its end
pub eight_of_lem : (t : List ℕ) (j c w : ℕ) → ((i : ℕ) → get_or t i 0 < 256) → Share (length t) j c → w ≡ lanes (map (λ i. get_or t i 0) (count c (8 * j))) → Eight (λ i. get_or t i 0) (8 * j) w
eight_of_lem t j c w small s e = record { octets = λ i _. small i; is = e ∙ go s.all }
  where
    go : (c ≡ 8) ⊎ (8 * j + c ≡ length t) → lanes (map (λ i. get_or t i 0) (count c (8 * j))) ≡ lanes (map (λ i. get_or t i 0) (count 8 (8 * j)))
    go (inl q) = rw q
    go (inr q) =
        let m : c + (8 - c) ≡ 8 = omega (arith, s.most) in
        sym (rw m at (lanes-short (λ i. get_or t i 0) c (8 - c) (8 * j) (λ i l. get_or-eq_default t 0 (omega arith))))

-- a bit of a channel is one of its octet
pub channel_bit_lem : (t : List ℕ) (k i : ℕ) → 0 < k → k ≤ 8 → channel_bit t k i ≡ bit_of (get_or t i 0) (8 - k)
channel_bit_lem t k i a b =
    let q : (8 * i + (k - 1)) / 8 ≡ i = omega arith in
    let r : 7 - (8 * i + (k - 1)) % 8 ≡ 8 - k = omega arith in
    rw (q, r)

-- also behind the end, where both are zero
shown_bit : (t : List ℕ) (k i : ℕ) → 0 < k → k ≤ 8 → bits_from (channel_bit t k) (length t) 0 i ≡ bit_of (get_or t i 0) (8 - k)
shown_bit t k i a b =
    rw (zero-add i)
    (by_cases (dec_lt i (length t))
    (λ (l : i < length t). rw (lt-ltb i (length t) l) (channel_bit_lem t k i a b))
    (λ (g : ¬ (i < length t)).
    rw (le-ltb i (length t) (omega arith), get_or-eq_default t 0 {n = i} (omega arith)) (ap (λ (x : ℕ). eqb (x % 2) 1) (sym (zero-div (2 ^ (8 - k)))))))

-- byte j of a channel, gathered
pub byte-is : (t : List ℕ) (k j : ℕ) → 0 < k → k ≤ 8 → number (map (λ i. bit_of (get_or t i 0) (8 - k)) (count 8 (8 * j))) ≡ octet_of (bits_from (channel_bit t k) (length t) 0) j
unfolding octet_of
byte-is t k j a b =
    ap number (map-count-same (λ i. bit_of (get_or t i 0) (8 - k)) (bits_from (channel_bit t k) (length t) 0) 8 (8 * j) (8 * j) (λ i _. sym (shown_bit t k (8 * j + i) a b)))

-- octets of which some are put back: eight of the others, with the bits of a byte put
pub eight_with : (t bytes now : List ℕ) (k j w : ℕ) → PutTo t k bytes (8 * j) now → Eight (λ i. put_in (get_or now i 0) (8 - k) (to_n (bit_at bytes i))) (8 * j) w → Eight (octet_with t k bytes) (8 * j) w
eight_with t bytes now k j w put =
    eight-same (λ i. put_in (get_or now i 0) (8 - k) (to_n (bit_at bytes i))) (octet_with t k bytes) (8 * j) w
    (λ i l. ap (λ (x : ℕ). put_in x (8 - k) (to_n (bit_at bytes i))) (filled-rest (octet_with t k bytes) (8 * j) t now put i l))

-- a byte shows its bits
pub byte_shows : (bytes : List ℕ) (j v : ℕ) → v ≡ get_or bytes j 0 → Shows v (bit_at bytes) (8 * j)
byte_shows bytes j v e i l = rw e (byte-bit bytes j i l)

-- put back into all octets
pub put_all : (t : List ℕ) (k : ℕ) (bytes now : List ℕ) → PutTo t k bytes (length t) now → now ≡ put_back t k bytes
unfolding put_back
put_all t k bytes now h = h ∙ rw (drop-length t) (append-nil _)

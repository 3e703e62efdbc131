-- The whole timeslot: octets of 64 kbit/s, and the eight channels in them (document 02, Ask 3).
-- Assumes nothing.
use Rattle.std.specs.Prelude.{◌≡◌, Bool, cond, ◌||◌, List, ◌++◌, map, ℕ, zero, suc, ◌+◌, ◌*◌, ◌-◌, ◌/◌, eqb, ltb, length, get_or, drop}
use Rattle.bits.specs.Bit.{bit_at, to_n, count, octet_of, bits_from}
use Rattle.bits.specs.Put.{put_in}
use Rattle.channel.specs.declared.Terms.{Terms}
use Rattle.channel.specs.Frames.{Capture}

-- bit k of each octet belongs to channel k, k from 1 to 8, top bit first: bit i of channel k is bit k of octet i
abbrev pub channel_bit : List ℕ → ℕ → ℕ → Bool
channel_bit timeslot k i = bit_at timeslot (8 * i + (k - 1))

-- the bytes that so many bits need
abbrev pub bytes_for : ℕ → ℕ
bytes_for bits = (bits + 7) / 8

-- channel k taken out; a last byte partly filled has zeros below
unfoldable pub taken_out : List ℕ → ℕ → List ℕ
taken_out timeslot k = map (octet_of (bits_from (channel_bit timeslot k) (length timeslot) 0)) (count (bytes_for (length timeslot)) 0)

-- octet i with its bit k, which weighs 2 ^ (8 - k), made bit i of a channel's bytes; the other seven are kept
abbrev pub octet_with : List ℕ → ℕ → List ℕ → ℕ → ℕ
octet_with timeslot k bytes i = put_in (get_or timeslot i 0) (8 - k) (to_n (bit_at bytes i))

-- channel k put back, a bit into each octet
unfoldable pub put_back : List ℕ → ℕ → List ℕ → List ℕ
put_back timeslot k bytes = map (octet_with timeslot k bytes) (count (length timeslot) 0)

-- a channel number outside 1 to 8
abbrev pub outside : ℕ → Bool
outside k = eqb k 0 || ltb 8 k

-- the numbers, in the order 7, 2, 4: a channel number outside 1 to 8; a timeslot of over 65,536 octets; fewer bytes than the channel's bits need; 0 where
-- none of them is given
abbrev pub refusal : ℕ → ℕ → ℕ → ℕ
refusal k octets bytes = cond (outside k) 7 (cond (ltb 65536 octets) 2 (cond (ltb bytes (bytes_for octets)) 4 0))

-- by the number: what was made, or after a refusal what was there
abbrev pub after_by : ℕ → List ℕ → List ℕ → List ℕ
after_by zero made before = made
after_by (suc number) made before = before

-- a call on channel k, a timeslot of so many octets and so many bytes: the number answered, and what is lent to be changed as it is after it
pub record ChannelCall (k octets bytes : ℕ) (made before : List ℕ) (number : ℕ) (after : List ℕ) : Type 0 where
  pub answer : number ≡ refusal k octets bytes
  pub left : after ≡ after_by number made before

-- taking out, every request: the timeslot, the channel number, the buffer; the number, and the buffer after it, in which the channel stands in front and
-- the rest is kept
abbrev pub TakeCall : List ℕ → ℕ → List ℕ → ℕ → List ℕ → Type 0
TakeCall timeslot k buffer number after =
    ChannelCall k (length timeslot) (length buffer) (taken_out timeslot k ++ drop (bytes_for (length timeslot)) buffer) buffer number after

-- putting back, every request: the timeslot, the channel number, the bytes; the number, and the timeslot after it
abbrev pub PutCall : List ℕ → ℕ → List ℕ → ℕ → List ℕ → Type 0
PutCall timeslot k bytes number after = ChannelCall k (length timeslot) (length bytes) (put_back timeslot k bytes) timeslot number after

-- channel k of a timeslot as a capture: n is the number of octets
abbrev pub channel_of : List ℕ → ℕ → Terms → Capture
channel_of timeslot k t = record { bits = channel_bit timeslot k; n = length timeslot; terms = t }

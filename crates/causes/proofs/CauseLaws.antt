-- The cases of number 5 are all there are: a record without one is sound, and a record with one is unsound.
-- Assumes nothing.
use mathlib.Core.Path.{◌≡◌, refl, sym, ◌∙◌, ap}
use mathlib.Core.Logic.{by_cases}
use mathlib.Core.Bool.{Bool, true, false, not, ◌||◌, cond}
use mathlib.Core.List.{List, [], ◌∷◌, ◌++◌, map}
use Prim.Native.Nat.{ℕ, zero, suc, ◌+◌, ◌*◌, ◌-◌, ◌/◌, ◌%◌, ◌<◌, ◌≤◌}
use native.Mathlib.Nat.{add-zero}
use native.Mathlib.Omega.{arith}
use native.Mathlib.Decide.{dec_lt}
use borrow.Author.Tests.{eqb-true, eqb-false, eq-eqb, ltb-false, le-ltb, not-true, not-false}
use lib.Dec.{eqb}
use lib.ListN.{length, get_or, take, drop, length-map, length-drop, take-append-drop, get_or-eq_default}
use lib.Seq.{drop-cons, get_or-take, get_or-drop, ext_get_or, length-take-le}
use Rattle.reading.specs.Reading.{frame}
use Rattle.bits.specs.Bit.{bit_at, to_n, count, octet_of}
use Rattle.bits.proofs.BitLaws.{to_n-one, byte-bit, octet-first}
use Rattle.bits.proofs.CountLaws.{get_d_map_count}
use Rattle.fields.specs.Below.{Below}
use Rattle.put.proofs.PutLaws.{body-bit, body-length}
use Rattle.channel.specs.declared.Direction.{Direction}
use Rattle.channel.specs.declared.Terms.{Terms}
use Rattle.channel.specs.declared.Pattern.TheVariants.{Hr}
use Rattle.channel.specs.declared.Kind.{Kind}
use Rattle.channel.specs.declared.Kind.TheVariants.{Speech, Data, Om, Configuration, NoSpeech, Lower, Amr670, Amr740}
use Rattle.channel.specs.Kinds.{kind_no, pattern_of, body_of, d_count, least_tail}
use Rattle.channel.specs.Places.{upto, elem, ones_of, c_places, c6_places, d_places}
use Rattle.channel.specs.Coding.{Word, word_at, bits_at, all, ones, odd, fixed, hr_coded, coded, is_body}
use Rattle.channel.specs.Control.{from_top, control_places, control, extended}
use Rattle.channel.specs.Frames.{Frame}
use Rattle.channel.proofs.BoolLaws.{ands, and_r, and_both, all-at, never, all-below, elem-count}
use Rattle.channel.proofs.FrameLaws.{uncut}
use Rattle.channel.proofs.CutLaws.{control-cut, extended-cut}
use Rattle.std.specs.Prelude.{Option, Some, None}
use Rattle.channel.specs.Record.{d_bytes, wide, number_at, d_length, record_of}
use Rattle.dplaces.proofs.DPlaceLaws.{d_length_lem}
use Rattle.dbits.proofs.DBitLaws.{from_top-bit, bytes-bit}
use Rattle.numbers.proofs.SizeLaws.{d_length_le}
use Rattle.record.proofs.RecordLaws.{bytes_cut}
use Rattle.octets.specs.Built.{extended_places}
use Rattle.channel.specs.Sound.{SoundAs, Unsound}
use Rattle.parse.specs.Parsed.{kind_by}
use Rattle.std.proofs.lemmas.Option.{none-some}
use Rattle.parse.proofs.ParseLaws.{kind-none}
use Rattle.apart.proofs.BuiltLaws.{body-framed, ones-last, extended-top}
use Rattle.apart.proofs.OneLaws.{cut-cut, d-long}
use Rattle.apart.proofs.FrontLaws.{front-kind, front_long, front-tail, front-control, front-extended, front-d}
use Rattle.causes.specs.Causes.{set_behind, hr_control, control_coded, extended_coded, case_of, faulty}

-- a byte of bits from the top is the octet of these bits
top-octet : (bs : List Bool) → from_top bs ≡ octet_of (λ j. get_or bs j false) 0
unfolding octet_of
top-octet [] = refl
top-octet (a ∷ []) = refl
top-octet (a ∷ b ∷ []) = refl
top-octet (a ∷ b ∷ c ∷ []) = refl
top-octet (a ∷ b ∷ c ∷ d ∷ []) = refl
top-octet (a ∷ b ∷ c ∷ d ∷ e ∷ []) = refl
top-octet (a ∷ b ∷ c ∷ d ∷ e ∷ f ∷ []) = refl
top-octet (a ∷ b ∷ c ∷ d ∷ e ∷ f ∷ g ∷ []) = refl
top-octet (a ∷ b ∷ c ∷ d ∷ e ∷ f ∷ g ∷ h ∷ bs) = refl

-- a parity bit makes the number of ones odd
parity-odd : (bs : List Bool) → odd (bs ++ (not (odd bs) ∷ [])) ≡ true
parity-odd bs = go (odd bs) refl
  where
    go : (b : Bool) → odd bs ≡ b → odd (bs ++ (not b ∷ [])) ≡ true
    go true e = eq-eqb (ones (bs ++ (false ∷ [])) % 2) 1 (omega (arith, ones-last bs false, eqb-true (ones bs % 2) 1 e))
    go false e = eq-eqb (ones (bs ++ (true ∷ [])) % 2) 1 (omega (arith, ones-last bs true, eqb-false (ones bs % 2) 1 e))

or_l : (a b : Bool) → a || b ≡ false → a ≡ false
or_l true b h = h
or_l false b h = refl

or_r : (a b : Bool) → a || b ≡ false → b ≡ false
or_r true b h = cc
or_r false b h = h

-- every part of a disjunction that does not hold
ruleset ors = (or_l, or_r)

or-none : (a b : Bool) → a ≡ false → b ≡ false → a || b ≡ false
or-none a b p q = rw (p, q)

-- a test that holds from a on holds at all of n places
all-count : (t : ℕ → Bool) (n a : ℕ) → ((i : ℕ) → a ≤ i → i < a + n → t i ≡ true) → all t (count n a) ≡ true
all-count t zero a h = refl
all-count t (suc n) a h = and_both (t a) (all t (count n (suc a))) (h a (omega arith) (omega arith)) (all-count t n (suc a) (λ i l m. h i (omega arith) (omega arith)))

-- the number of the kind that is found
abbrev found_no : Option Kind → ℕ
found_no (Some k) = kind_no k
found_no None = 0

kind-number : (n : ℕ) (k : Kind) → kind_by n ≡ Some k → n ≡ kind_no k
kind-number n k e =
    by_cases (dec_lt n 9)
    (λ (l : n < 9). sym (eqb-true (found_no (kind_by n)) n (all-below 9 (λ m. eqb (found_no (kind_by m)) m) refl n l)) ∙ ap found_no e)
    (λ (m : ¬ (n < 9)).
    absurd (none-some k (sym (kind-none n (λ z. omega arith) (λ z. omega arith) (λ z. omega arith) (λ z. omega arith) (λ z. omega arith) (λ z. omega arith) (λ z. omega arith) (λ z. omega arith)) ∙ e)))

-- n bytes from a on, one by one
drop-bytes : (bytes : List ℕ) (n a : ℕ) → a + n ≤ length bytes → drop a bytes ≡ map (λ i. get_or bytes i 0) (count n a) ++ drop (a + n) bytes
drop-bytes bytes zero a l = rw (add-zero a)
drop-bytes bytes (suc n) a l =
    let e : suc a + n ≡ a + suc n = omega arith in
    drop-cons bytes a 0 (omega arith) ∙ ap (λ (b : List ℕ). get_or bytes a 0 ∷ b) (rw e at (drop-bytes bytes n (suc a) (omega arith)))

module _ (bytes : List ℕ) where
  -- the m bits of the record from bit a on are the word's bits at some places, and zeros behind these
  abbrev Carried : Word → List ℕ → ℕ → ℕ → Type 0
  Carried g ps a m = (i : ℕ) → i < m → bit_at bytes (a + i) ≡ get_or (bits_at g ps) i false

  -- so no bit behind them is set
  carried_clear : (g : Word) (ps : List ℕ) (a n m : ℕ) → length ps ≡ n → Carried g ps a m → set_behind bytes a n m ≡ false
  carried_clear g ps a n m l c =
      ap not (all-count (λ i. not (bit_at bytes i)) (m - n) (a + n) (λ i f t.
      let q : a + (i - a) ≡ i = omega arith in
      ap not (ap (bit_at bytes) (sym q) ∙ c (i - a) (omega arith) ∙ get_or-eq_default (bits_at g ps) false {n = i - a} (omega (arith, length-map ps g)))))

  -- and the other way, where the first n are those of the word
  clear_carried : (g : Word) (ps : List ℕ) (a n m : ℕ) → bits_at g ps ≡ map (λ j. bit_at bytes (a + j)) (count n 0) → set_behind bytes a n m ≡ false → Carried g ps a m
  clear_carried g ps a n m same z i l =
      by_cases (dec_lt i n)
      (λ (f : i < n). sym (ap (λ (bs : List Bool). get_or bs i false) same ∙ body-bit (λ j. bit_at bytes (a + j)) n i f))
      (λ (f : ¬ (i < n)).
      not-true (bit_at bytes (a + i)) (all-at (λ i. not (bit_at bytes i)) (count (m - n) (a + n)) (a + i) (elem-count (a + i) (m - n) (a + n) (omega arith) (omega arith)) (not-false _ z))
      ∙ sym (get_or-eq_default (bits_at g ps) false {n = i} (omega (arith, ap length same, body-length (λ j. bit_at bytes (a + j)) n))))

  -- bits carried by a byte make it, from the top
  top-is : (bs : List Bool) (at : ℕ) → get_or bytes at 0 < 256 → ((j : ℕ) → j < 8 → bit_at bytes (8 * at + j) ≡ get_or bs j false) → from_top bs ≡ get_or bytes at 0
  top-is bs at small same =
      top-octet bs ∙ sym (octet-first (λ j. get_or bs j false) (get_or bytes at 0) small (λ j l. byte-bit bytes at j l ∙ ap to_n (same j l)))

  -- and the other way
  top_carried : (g : Word) (ps : List ℕ) (at : ℕ) → from_top (bits_at g ps) ≡ get_or bytes at 0 → Carried g ps (8 * at) 8
  top_carried g ps at e i l =
      let d : (8 * at + i) / 8 ≡ at = omega arith in
      let m : (8 * at + i) % 8 ≡ i = omega arith in
      rw (d, m, ← e) (ap (λ (n : ℕ). eqb n 1) (from_top-bit (bits_at g ps) i l) ∙ to_n-one (get_or (bits_at g ps) i false))

  -- the D bits are carried by the bytes that they make, and the other way
  module _ (g : Word) (k : Kind) where
    d_carried : take (d_length k) (d_bytes g k) ≡ take (d_length k) (drop 12 bytes) → Carried g (d_places k) 96 (8 * d_length k)
    d_carried e i l =
        let q : (96 + i) / 8 ≡ 12 + i / 8 = omega arith in
        let r : (96 + i) % 8 ≡ i % 8 = omega arith in
        let a : get_or bytes (12 + i / 8) 0 ≡ get_or (d_bytes g k) (i / 8) 0 =
        sym (get_or-take (d_length k) (drop 12 bytes) (i / 8) 0 (omega arith) ∙ get_or-drop 12 bytes (i / 8) 0)
        ∙ ap (λ (b : List ℕ). get_or b (i / 8) 0) (sym e) ∙ get_or-take (d_length k) (d_bytes g k) (i / 8) 0 (omega arith) in
        rw (q, r, a) (bytes-bit g k i (omega (arith, d_length_le k)))

    carried_d : Below 256 bytes → 12 + d_length k ≤ length bytes → Carried g (d_places k) 96 (8 * d_length k) → take (d_length k) (d_bytes g k) ≡ take (d_length k) (drop 12 bytes)
    unfolding d_bytes
    carried_d small long c =
        ext_get_or 0 (take (d_length k) (d_bytes g k)) (take (d_length k) (drop 12 bytes))
        (d-long g k ∙ sym (length-take-le (d_length k) (drop 12 bytes) (omega (arith, length-drop 12 bytes))))
        (λ j l.
        let n : j < d_length k = omega (arith, d-long g k) in
        get_or-take (d_length k) (d_bytes g k) j 0 n
        ∙ get_d_map_count (λ j. from_top (drop (8 * j) (bits_at g (d_places k)))) 19 0 j (omega (arith, d_length_le k))
        ∙ top-is (drop (8 * (0 + j)) (bits_at g (d_places k))) (12 + j) (small (12 + j) (omega arith)) (λ i m.
        let q : 8 * (12 + j) + i ≡ 96 + (8 * (0 + j) + i) = omega arith in
        ap (bit_at bytes) q ∙ c (8 * (0 + j) + i) (omega arith) ∙ sym (get_or-drop (8 * (0 + j)) (bits_at g (d_places k)) i false))
        ∙ sym (get_or-take (d_length k) (drop 12 bytes) j 0 n ∙ get_or-drop 12 bytes j 0))

  -- control and extended are codings where they carry the bits of a body
  module _ (d : Direction) (g : Word) where
    hr_coded_lem : (type : ℕ) (cs : List ℕ) → hr_coded d g type ≡ true → Carried g (take 4 (c_places Hr) ++ cs) 72 8 → hr_control d bytes type ≡ true
    hr_coded_lem type cs h c = rw (c 0 (omega arith), c 1 (omega arith), c 2 (omega arith), c 3 (omega arith)) (search ands)

    by_body : (k : Kind) → coded d g k ≡ true → extended g k ≡ get_or bytes 10 0 → Carried g (control_places k) 72 8 → Carried g (extended_places k) 80 8
        → (control_coded d bytes k ≡ true) × (extended_coded d bytes k ≡ true)
    unfolding extended
    by_body Speech h e c x = (
      hr_coded_lem 0 c6_places (search ands) c,
      rw (x 0 (omega arith), x 1 (omega arith), x 2 (omega arith), x 3 (omega arith), x 4 (omega arith)) (search ands),
    )
    by_body Data h e c x = (hr_coded_lem 1 [] h c, refl)
    by_body Om h e c x = (hr_coded_lem 2 [] (search ands) c, rw (← e))
    by_body Configuration h e c x = (hr_coded_lem 7 [] h c, refl)
    by_body NoSpeech h e c x = (rw (c 0 (omega arith), c 1 (omega arith), c 2 (omega arith), c 3 (omega arith), c 4 (omega arith)) h, refl)
    by_body Lower h e c x = (rw (c 3 (omega arith), c 4 (omega arith)) h, refl)
    by_body Amr670 h e c x = (refl, refl)
    by_body Amr740 h e c x = (refl, refl)

  -- the word with bits of the record, from bit j on, at some places
  abbrev laid : List ℕ → ℕ → Word → Word
  laid [] j g i = g i
  laid (p ∷ ps) j g i = let r = laid ps (suc j) g i in cond (eqb i p) (bit_at bytes j) r

  -- the bit that makes the number of ones among bits a to b odd
  abbrev parity : ℕ → ℕ → Bool
  parity a b = not (odd (bits_at (bit_at bytes) (upto a b)))

  -- the body that a record holds: the bits of control, extended and the D bits at their places, then C5 and XC6, then fixed bits
  unfoldable body_by : Kind → Word
  body_by k =
      laid (control_places k) 72
      (laid (extended_places k) 80
      (laid (d_places k) 96
      (λ i. cond (eqb i 13) (parity 72 75) (cond (eqb i 21) (parity 80 84) (elem i (ones_of (pattern_of k)))))))

  -- at some places it has the n bits from bit a on
  abbrev Lies : Kind → List ℕ → ℕ → ℕ → Type 0
  Lies k ps a n = bits_at (body_by k) ps ≡ map (λ j. bit_at bytes (a + j)) (count n 0)

  -- C1..C5 have an odd number of ones
  c-odd : odd (bits_at (bit_at bytes) (upto 72 75) ++ (parity 72 75 ∷ [])) ≡ true
  c-odd = parity-odd (bits_at (bit_at bytes) (upto 72 75))

  module _ (terms : Terms) where
    abbrev d : Direction
    d = terms.direction

    -- it has the bits of control, of extended and the D bits, and is a body where control and extended are codings
    body_by_lem : (k : Kind) → Lies k (control_places k) 72 (length (control_places k)) × Lies k (extended_places k) 80 (length (extended_places k)) × Lies k (d_places k) 96 (d_count k)
        × (control_coded d bytes k ≡ true → extended_coded d bytes k ≡ true → is_body d (body_by k) k ≡ true)
    unfolding body_by d_places
    body_by_lem Speech = (refl, refl, refl, λ c x. and_both _ _ (and_both _ _ c c-odd) (and_both _ _ (parity-odd (bits_at (bit_at bytes) (upto 80 84))) x))
    body_by_lem Data = (refl, refl, refl, λ c x. and_both _ _ c c-odd)
    body_by_lem Om = (refl, refl, refl, λ c x. and_both _ _ (and_both _ _ c c-odd) (rw (eqb-true (get_or bytes 10 0) 248 x)))
    body_by_lem Configuration = (refl, refl, refl, λ c x. and_both _ _ c c-odd)
    body_by_lem NoSpeech = (refl, refl, refl, λ c x. c)
    body_by_lem Lower = (refl, refl, refl, λ c x. c)
    body_by_lem Amr670 = (refl, refl, refl, λ c x. c)
    body_by_lem Amr740 = (refl, refl, refl, λ c x. c)

    -- a record of a kind without a case is that of the frame with this body
    module _ (small : Below 256 bytes) (k : Kind) (e : kind_by (get_or bytes 0 0) ≡ Some k) (h : case_of d bytes (Some k) ≡ false) where
      abbrev frame_by : Frame
      frame_by = record { kind = k; start = number_at bytes 1; body = word_at (body_by k) 0 (body_of k); tail = number_at bytes 5; verdict = get_or bytes 11 0 }

      long : 12 + d_length k ≤ length bytes
      long = ltb-false (length bytes) (12 + d_length k) (search ors)

      byte : (j : ℕ) → j < 12 → get_or bytes j 0 < 256
      byte j l = small j (omega (arith, long))

      is_body_lem : is_body d (body_by k) k ≡ true
      is_body_lem = (body_by_lem k).3 (not-false (control_coded d bytes k) (search ors)) (not-false (extended_coded d bytes k) (search ors))

      control-is : control (body_by k) k ≡ get_or bytes 9 0
      unfolding control
      control-is =
          top-is (bits_at (body_by k) (control_places k)) 9 (byte 9 (omega arith))
          (clear_carried (body_by k) (control_places k) 72 (length (control_places k)) 8 (body_by_lem k).0 (search ors))

      extended-is : extended (body_by k) k ≡ get_or bytes 10 0
      extended-is =
          extended-top (body_by k) k (body-framed d (body_by k) k is_body_lem)
          ∙ top-is (bits_at (body_by k) (extended_places k)) 10 (byte 10 (omega arith))
          (clear_carried (body_by k) (extended_places k) 80 (length (extended_places k)) 8 (body_by_lem k).1 (search ors))

      d-is : take (d_length k) (d_bytes (body_by k) k) ≡ take (d_length k) (drop 12 bytes)
      d-is =
          carried_d (body_by k) k small long
          (clear_carried (body_by k) (d_places k) 96 (d_count k) (8 * d_length k) (body_by_lem k).2 (search ors))

      number_is : (a : ℕ) → a + 4 ≤ 12
          → (number_at bytes a < 4294967296) × (wide 4 (number_at bytes a) ≡ get_or bytes a 0 ∷ get_or bytes (a + 1) 0 ∷ get_or bytes (a + 2) 0 ∷ get_or bytes (a + 3) 0 ∷ [])
      number_is a l =
          let w = byte a (omega arith) in
          let x = byte (a + 1) (omega arith) in
          let y = byte (a + 2) (omega arith) in
          let z = byte (a + 3) (omega arith) in
          let p : number_at bytes a / 16777216 % 256 ≡ get_or bytes a 0 = omega arith in
          let q : number_at bytes a / 65536 % 256 ≡ get_or bytes (a + 1) 0 = omega arith in
          let r : number_at bytes a / 256 % 256 ≡ get_or bytes (a + 2) 0 = omega arith in
          let s : number_at bytes a / 1 % 256 ≡ get_or bytes (a + 3) 0 = omega arith in
          (omega arith, rw (p, q, r, s))

      front : bytes ≡ record_of (frame frame_by) ++ drop (d_length k) (drop 12 bytes)
      unfolding record_of
      front =
          let n : get_or bytes 0 0 ≡ kind_no k = kind-number (get_or bytes 0 0) k e in
          let a = (number_is 1 (omega arith)).1 in
          let b = (number_is 5 (omega arith)).1 in
          let t : take (d_length k) (d_bytes (word_at (body_by k) 0 (body_of k)) k) ++ drop (d_length k) (drop 12 bytes) ≡ drop 12 bytes =
          rw (bytes_cut (body_by k) k, d-is) (take-append-drop (d_length k) (drop 12 bytes)) in
          let f = drop-bytes bytes 12 0 (omega (arith, long)) in
          cc (control-cut (body_by k) k, extended-cut (body_by k) k, control-is, extended-is)

      sound_by : SoundAs terms bytes frame_by (drop (d_length k) (drop 12 bytes))
      sound_by =
          record {
            fit =
                record {
                  cut = cut-cut (body_by k) 0 (body_of k);
                  holds = uncut d (body_by k) k ∙ is_body_lem;
                  start_fits = (number_is 1 (omega arith)).0;
                  tail_fits = (number_is 5 (omega arith)).0;
                };
            least = ltb-false (number_at bytes 5) (least_tail d k) (search ors);
            front = front;
          }

    -- a record of a frame has no case
    no_case : (f : Frame) (rest : List ℕ) → SoundAs terms bytes f rest → faulty d bytes ≡ false
    unfolding control
    no_case f rest s =
        let k = f.kind in
        let g = f.body in
        let c = top_carried g (control_places k) 9 (front-control terms bytes f rest s) in
        let x = top_carried g (extended_places k) 10 (sym (extended-top g k (body-framed d g k s.fit.holds)) ∙ front-extended terms bytes f rest s) in
        let codings = by_body d g k (and_r (fixed g (pattern_of k)) (coded d g k) s.fit.holds) (front-extended terms bytes f rest s) c x in
        ap (case_of d bytes) (front-kind terms bytes f rest s)
        ∙ or-none _ _
        (or-none _ _
        (or-none _ _
        (or-none _ _ (le-ltb (length bytes) (12 + d_length k) (front_long terms bytes f rest s))
        (or-none _ _
        (or-none _ _ (carried_clear g (control_places k) 72 (length (control_places k)) 8 refl c)
        (carried_clear g (extended_places k) 80 (length (extended_places k)) 8 refl x))
        (carried_clear g (d_places k) 96 (d_count k) (8 * d_length k) (d_length_lem k) (d_carried g k (front-d terms bytes f rest s)))))
        (ap not codings.0))
        (ap not codings.1))
        (le-ltb (number_at bytes 5) (least_tail d k) (omega (arith, front-tail terms bytes f rest s, s.least)))

-- the cases are exactly those of number 5: a record without one is the sound record of a frame, and a record with one is unsound
pub exactly : (t : Terms) (bytes : List ℕ) → Below 256 bytes
    → (faulty t.direction bytes ≡ false → (f : Frame) × (rest : List ℕ) × SoundAs t bytes f rest) × (faulty t.direction bytes ≡ true → Unsound t bytes)
exactly t bytes small = (by (kind_by (get_or bytes 0 0)) refl, λ h f rest s. never (sym h ∙ no_case bytes t f rest s))
  where
    by : (found : Option Kind) → kind_by (get_or bytes 0 0) ≡ found → case_of t.direction bytes found ≡ false → (f : Frame) × (rest : List ℕ) × SoundAs t bytes f rest
    by (Some k) e h = (frame_by bytes t small k e h, drop (d_length k) (drop 12 bytes), sound_by bytes t small k e h)
    by None e h = absurd (never h)

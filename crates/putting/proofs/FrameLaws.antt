-- What the loop that puts keeps: the bits of the frames so far.
-- Assumes nothing.
use mathlib.Core.Path.{◌≡◌, refl, sym, ◌∙◌, ap, ap₂, subst}
use mathlib.Core.Bool.{Bool, true}
use mathlib.Core.List.{List, [], ◌∷◌, ◌++◌, map, append_assoc, append-nil}
use Prim.Native.Nat.{ℕ, zero, suc, ◌+◌, ◌≤◌, ◌<◌}
use native.Mathlib.Nat.{zero-add}
use native.Mathlib.Omega.{arith}
use borrow.Author.Tests.{lt-ltb}
use lib.ListN.{length, drop, replicate, length-append}
use lib.Seq.{append_snoc}
use Rattle.reading.specs.Reading.{Cursor, frame, over, over_all}
use Rattle.bits.specs.Bit.{bit_at, count}
use Rattle.bits.specs.Put.{put_bits}
use Rattle.put.proofs.PutLaws.{body-length, tail-length, puts_append}
use Rattle.channel.specs.declared.Terms.{Terms}
use Rattle.channel.specs.Kinds.{body_of}
use Rattle.channel.specs.Coding.{Word, word_at}
use Rattle.channel.specs.Verdict.{Context}
use Rattle.channel.specs.Frames.{Frame, behind, rules}
use Rattle.channel.specs.Record.{size_of}
use Rattle.channel.specs.Sound.{SoundAs, Unsound}
use Rattle.numbers.proofs.SizeLaws.{size_pos}
use Rattle.item.specs.declared.Frame as code
use Rattle.item.specs.Item.{frame_of}
use Rattle.taken.specs.Taken.{items, Taken}
use Rattle.taken.specs.Judged.{AllTaken}
use Rattle.taken.proofs.TakeLaws.{passes}
use Rattle.taken.proofs.JudgeLaws.{rest-is, rest_length, over-more}
use Rattle.putting.specs.FrameBits.{bits_of, all_bits}

-- a frame has as many bits as its body and its tail
pub length-bits : (f : Frame) → length (bits_of f) ≡ body_of f.kind + f.tail
length-bits f =
    length-append (map f.body (count (body_of f.kind) 0)) (replicate f.tail true)
    ∙ ap₂ (λ (a b : ℕ). a + b) (body-length f.body (body_of f.kind)) (tail-length f.tail)

-- the cursor moves on by as many bits as the frames taken have
pub taken-length : (terms : Terms) (bits : ℕ) (c : Cursor Context) (bytes : List ℕ) (fs : List Frame) (left : List ℕ) → Taken terms bits c bytes fs left → c.position + length (all_bits fs) ≡ (over_all rules c (items fs)).position
taken-length terms bits c bytes [] left t = omega arith
taken-length terms bits c bytes (f ∷ fs) left (r, i, z, t) =
    omega (arith, length-append (bits_of f) (all_bits fs), length-bits f, (passes terms bits c f z).at, taken-length terms bits (over rules c (frame f)) r fs left t)

-- the bits of a body, before it is cut
body_bits_lem : (g : Word) (b : ℕ) → map (word_at g 0 b) (count b 0) ≡ map g (count b 0)
body_bits_lem g b = go b 0 (omega arith)
  where
    go : (k a : ℕ) → a + k ≤ b → map (word_at g 0 b) (count k a) ≡ map g (count k a)
    go zero a h = refl
    go (suc k) a h = rw (lt-ltb a b (omega arith), zero-add a) (ap (λ (bs : List Bool). g a ∷ bs) (go k (suc a) (omega arith)))

-- a frame is put by its octets
pub frame-put : (f : code.Frame) (body : ℕ) (before middle after : List ℕ) → body ≡ body_of f.kind → middle ≡ put_bits before f.start (map (bit_at f.octets) (count body 0))
    → after ≡ put_bits middle (f.start + body) (replicate f.tail true) → after ≡ put_bits before f.start (bits_of (frame_of f))
frame-put f body before middle after b m a =
    let l : length (map (bit_at f.octets) (count body 0)) ≡ body = body-length (bit_at f.octets) body in
    let bits : map (word_at (bit_at f.octets) 0 (body_of f.kind)) (count (body_of f.kind) 0) ≡ map (bit_at f.octets) (count body 0) = rw b (body_bits_lem (bit_at f.octets) (body_of f.kind)) in
    let all : put_bits before f.start (map (bit_at f.octets) (count body 0) ++ replicate f.tail true) ≡ after =
    puts_append (map (bit_at f.octets) (count body 0)) (replicate f.tail true) before f.start
    ∙ ap (λ (n : ℕ). put_bits (put_bits before f.start (map (bit_at f.octets) (count body 0))) (f.start + n) (replicate f.tail true)) l
    ∙ ap (λ (s : List ℕ). put_bits s (f.start + body) (replicate f.tail true)) (sym m) ∙ sym a in
    rw bits (sym all)

-- the state of the loop that puts, for the frames that the bytes are the records of
pub record Putting (terms : Terms) (bits : ℕ) (c : Cursor Context) (bytes : List ℕ) (fs : List Frame) (before left : List ℕ) (buffer : List ℕ) : Type 0 where
  pub done : List Frame
  pub rest : List Frame
  pub split : fs ≡ done ++ rest
  pub taken : Taken terms bits (over_all rules c (items done)) left rest []
  pub reached : (over_all rules c (items done)).position ≡ c.position + length (all_bits done)
  pub put : buffer ≡ put_bits before c.position (all_bits done)

bits-more : (fs : List Frame) (f : Frame) → all_bits (fs ++ (f ∷ [])) ≡ all_bits fs ++ bits_of f
bits-more [] f = append-nil (bits_of f)
bits-more (g ∷ fs) f = ap (λ (bs : List Bool). bits_of g ++ bs) (bits-more fs f) ∙ sym (append_assoc (bits_of g) (all_bits fs) (bits_of f))

module _ (terms : Terms) (bits : ℕ) (c : Cursor Context) (bytes : List ℕ) (fs : List Frame) (before : List ℕ) where
  -- nothing is put
  pub put-start : Taken terms bits c bytes fs [] → Putting terms bits c bytes fs before bytes before
  unfolding put_bits
  put-start t = record { done = []; rest = fs; split = refl; taken = t; reached = omega arith; put = refl }

  module _ (left buffer : List ℕ) (p : Putting terms bits c bytes fs before left buffer) where
    -- all is put
    pub put-done : length left ≡ 0 → buffer ≡ put_bits before c.position (all_bits fs)
    put-done h = go p.rest p.split p.taken
      where
        go : (rest : List Frame) → fs ≡ p.done ++ rest → Taken terms bits (over_all rules c (items p.done)) left rest [] → buffer ≡ put_bits before c.position (all_bits fs)
        go [] e t = p.put ∙ ap (λ (gs : List Frame). put_bits before c.position (all_bits gs)) (sym (e ∙ append-nil p.done))
        go (f ∷ rest) e (r, s, z, t) = absurd (omega (arith, rest_length terms left f r s, size_pos (frame f)))

    -- where a record is left, it is sound
    pub put-sound : 0 < length left → Unsound terms left → ⊥
    put-sound more u = go p.rest p.taken
      where
        go : (rest : List Frame) → Taken terms bits (over_all rules c (items p.done)) left rest [] → ⊥
        go [] t = omega (arith, ap length t)
        go (f ∷ rest) (r, s, z, t) = u f r s

    -- the next record is that of a frame
    module _ (g : Frame) (more : 0 < length left) (is : (terms : Terms) (f : Frame) (rest : List ℕ) → SoundAs terms left f rest → g ≡ f) where
      -- the frame ends by the end of the buffer, and its record lies in the bytes
      pub record Next : Type 0 where
        pub ends : behind g ≤ bits
        pub inside : size_of (frame g) ≤ length left
        pub turned : (after : List ℕ) → after ≡ put_bits buffer g.start (bits_of g) → Putting terms bits c bytes fs before (drop (size_of (frame g)) left) after

      pub put_next : Next
      put_next = go p.rest p.split p.taken
        where
          go : (rest : List Frame) → fs ≡ p.done ++ rest → Taken terms bits (over_all rules c (items p.done)) left rest [] → Next
          go [] e t = absurd (omega (arith, ap length t))
          go (f ∷ rest) e (r, s, z, t) =
              let q : g ≡ f = is terms f r s in
              let a = passes terms bits (over_all rules c (items p.done)) f z in
              let b : drop (size_of (frame g)) left ≡ r = ap (λ (x : Frame). drop (size_of (frame x)) left) q ∙ rest-is terms left f r s in
              record {
                ends = subst (λ (x : Frame). behind x ≤ bits) (sym q) a.ends;
                inside = rw q (omega (arith, rest_length terms left f r s));
                turned =
                    λ after w.
                    record {
                      done = p.done ++ (f ∷ []);
                      rest = rest;
                      split = e ∙ sym (append_snoc p.done f rest);
                      taken = subst (λ (l : List ℕ). Taken terms bits (over_all rules c (items (p.done ++ (f ∷ [])))) l rest []) (sym b) (subst (λ (y : Cursor Context). Taken terms bits y r rest []) (sym (over-more c p.done f)) t);
                      reached =
                          omega (
                            arith,
                            ap (λ (y : Cursor Context). y.position) (over-more c p.done f),
                            a.at,
                            p.reached,
                            ap length (bits-more p.done f),
                            length-append (all_bits p.done) (bits_of f),
                            length-bits f,
                          );
                      put =
                          w ∙ ap (λ (x : Frame). put_bits buffer x.start (bits_of x)) q ∙ ap (λ (s : List ℕ). put_bits s f.start (bits_of f)) p.put
                          ∙ ap (λ (k : ℕ). put_bits (put_bits before c.position (all_bits p.done)) k (bits_of f)) (a.at ∙ p.reached)
                          ∙ sym (puts_append (all_bits p.done) (bits_of f) before c.position)
                          ∙ ap (put_bits before c.position) (sym (bits-more p.done f));
                    };
              }

-- where all records are taken, the frame of the next one ends by the end of the buffer, and its record lies in the bytes left
pub next_fits : (bits : ℕ) (bytes before left buffer : List ℕ) → AllTaken bits bytes → ((t : Terms) (c : Cursor Context) (fs : List Frame) → Taken t bits c bytes fs [] → Putting t bits c bytes fs before left buffer)
    → (g : Frame) → 0 < length left → ((t : Terms) (f : Frame) (rest : List ℕ) → SoundAs t left f rest → g ≡ f) → (behind g ≤ bits) × (size_of (frame g) ≤ length left)
next_fits bits bytes before left buffer w p g more is =
    let n = put_next w.terms bits w.cursor bytes w.frames before left buffer (p w.terms w.cursor w.frames w.whole) g more is in
    (n.ends, n.inside)

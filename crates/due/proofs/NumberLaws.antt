-- The number of the frame of a sound record at a cursor, by the tests on the way to it.
-- Assumes nothing.
use mathlib.Core.Path.{◌≡◌, sym, ◌∙◌}
use mathlib.Core.Bool.{Bool, true, false, cond}
use Prim.Native.Nat.{ℕ, ◌+◌, ◌<◌, ◌≤◌}
use borrow.Author.Tests.{eq-eqb, ne_eqb, lt-ltb, le-ltb}
use lib.Dec.{eqb}
use Rattle.bits.specs.Bit.{bit_at}
use Rattle.channel.specs.declared.Terms.{Terms}
use Rattle.channel.specs.Kinds.{body_of}
use Rattle.channel.specs.Coding.{Word, word_at}
use Rattle.channel.specs.Verdict.{verdict_of, starts_by, follows, allowed}
use Rattle.channel.proofs.CutLaws.{verdict-cut, allowed_by}
use Rattle.item.specs.declared.Cursor.{Cursor}
use Rattle.item.specs.declared.Frame.{Frame}
use Rattle.item.specs.Item.{frame_of, cursor_of}
use Rattle.channel.specs.Sound.{sound_number}

module _ (f : Frame) (terms : Terms) (c : Cursor) (bits : ℕ) where
  -- the number that is due
  abbrev the_number : ℕ
  the_number = sound_number terms bits (cursor_of c) (frame_of f)

  abbrev g : Word
  g = bit_at f.octets

  module _ (same : f.start ≡ c.position) (due : ℕ) (d : due ≡ verdict_of terms c.context g f.kind) where
    cut-due : verdict_of terms c.context (word_at g 0 (body_of f.kind)) f.kind ≡ due
    cut-due = verdict-cut terms c.context g f.kind ∙ sym d

    -- the verdict isn't the one due
    pub number-verdict : (f.verdict ≡ due → ⊥) → 6 ≡ the_number
    number-verdict n = sym (rw (eq-eqb f.start c.position same, cut-due, ne_eqb f.verdict due n))

    module _ (v : f.verdict ≡ due) (t : Bool) (a : t ≡ cond (eqb c.context 0) (starts_by f.kind due) (follows c.context f.kind)) where
      rule : allowed terms c.context (word_at g 0 (body_of f.kind)) f.kind ≡ t
      rule = sym (a ∙ allowed_by terms c.context g f.kind due d)

      -- rule 2 has no such frame there
      pub number_rule : t ≡ false → 6 ≡ the_number
      number_rule n = sym (rw (eq-eqb f.start c.position same, cut-due, eq-eqb f.verdict due v, rule, n))

      module _ (n : t ≡ true) (body : ℕ) (b : body ≡ body_of f.kind) where
        -- the frame would end past the buffer
        pub number_past : bits < f.start + body + f.tail → 4 ≡ the_number
        number_past l = sym (rw (eq-eqb f.start c.position same, cut-due, eq-eqb f.verdict due v, rule, n, sym b, lt-ltb bits (f.start + body + f.tail) l))

        -- the record is taken
        pub number-taken : f.start + body + f.tail ≤ bits → 0 ≡ the_number
        number-taken l = sym (rw (eq-eqb f.start c.position same, cut-due, eq-eqb f.verdict due v, rule, n, sym b, le-ltb bits (f.start + body + f.tail) l))

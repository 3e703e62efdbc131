-- `judge::sound` meets its contract: each test in turn.
-- Assumes nothing.
use mathlib.Core.Path.{sym, ◌∙◌}
use borrow.Author.Tests.{leb-true, leb-false}
use Rattle.channel.proofs.BoolLaws.{never}
use Rattle.channel.specs.Sound.{Unsound}
use Rattle.judge.proofs.SoundLaws.{sound-kind, sound-tail, sound_record}
use native.Mathlib.Omega.{arith}
use Rattle.judge.proofs.sound.Goals as goal
use Rattle.judge.proofs.sound.Goals.{then-is_kind, else-is_kind}

pub returns-then-least_tail-f : goal.returns-then-least_tail-f
returns-then-least_tail-f c =
    let a = c.args in
    let passed = c.if-least_tail-f.true in
    elim c.if-is_kind.branch [
      | then-is_kind w ↦ sound_record a.t a.part.now a.f.now c.requires (sym c.is_kind.ensures ∙ w.if-is_kind.true) (omega (arith, w.least_tail.ensures, leb-true _ _ (sym w.value-is ∙ passed))) c.is_record.result c.is_record.ensures
      | else-is_kind w ↦ absurd (never (sym passed ∙ w.value-is ∙ w.if-is_kind.false))
    ]

pub returns-else-least_tail-f : goal.returns-else-least_tail-f
returns-else-least_tail-f c =
    let a = c.args in
    let failed = c.if-least_tail-f.false in
    let unsound : Unsound a.t a.part.now = elim c.if-is_kind.branch [
      | then-is_kind w ↦ sound-tail a.t a.part.now a.f.now c.requires (omega (arith, w.least_tail.ensures, leb-false _ _ (sym w.value-is ∙ failed)))
      | else-is_kind w ↦ sound-kind a.t a.part.now a.f.now c.requires (sym c.is_kind.ensures ∙ w.if-is_kind.false)
    ] in
    rw failed unsound

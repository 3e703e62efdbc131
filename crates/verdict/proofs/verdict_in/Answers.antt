-- `verdict::verdict_in` meets its contract: the CRCs of a kind are among the covered lists.
-- Assumes nothing.
use mathlib.Core.Path.{refl}
use Rattle.bits.specs.Bit.{bit_at}
use Rattle.channel.specs.declared.Kind.TheVariants.{Speech, Amr670, Amr740}
use Rattle.channel.specs.Checks.{checks}
use Rattle.masks.specs.Kept.{covered}
use Rattle.verdict.specs.Mode.{mode_number}
use Rattle.verdict.proofs.VerdictLaws.{own_verdict, lower_verdict_lem, none_covered}
use Rattle.verdict.proofs.verdict_in.Goals as goal

pub returns-in-Speech : goal.returns-in-Speech
unfolding covered checks
returns-in-Speech c = let a = c.args in rw c.in-Speech.is (own_verdict a.t a.x (bit_at a.o) Speech c.one_wrong.result refl refl refl (rw c.words_of-w.ensures.octets at c.one_wrong.ensures.1))

pub returns-in-Lower : goal.returns-in-Lower
returns-in-Lower c =
    let a = c.args in
    let m = c.mode_in in
    rw c.in-Lower.is (lower_verdict_lem a.t a.x (bit_at a.o) (mode_number m.result) c.lower_verdict.result (rw c.words_of-w.ensures.octets at m.ensures) (rw c.words_of-w.ensures.octets at c.lower_verdict.ensures))

pub returns-in-Amr670 : goal.returns-in-Amr670
unfolding covered checks
returns-in-Amr670 c =
    let a = c.args in
    rw c.in-Amr670.is (own_verdict a.t a.x (bit_at a.o) Amr670 c.one_wrong-in-Amr670.result refl refl refl (rw c.words_of-w.ensures.octets at c.one_wrong-in-Amr670.ensures.1))

pub returns-in-Amr740 : goal.returns-in-Amr740
unfolding covered checks
returns-in-Amr740 c =
    let a = c.args in
    rw c.in-Amr740.is (own_verdict a.t a.x (bit_at a.o) Amr740 c.one_wrong-in-Amr740.result refl refl refl (rw c.words_of-w.ensures.octets at c.one_wrong-in-Amr740.ensures.1))

pub returns-in-Data : goal.returns-in-Data
returns-in-Data c = none_covered c.args.t c.args.x (bit_at c.args.o) c.args.k c.in-Data.is

pub returns-in-NoSpeech : goal.returns-in-NoSpeech
returns-in-NoSpeech c = rw (c.in-NoSpeech.is, ← c.words_of-w.ensures.octets) (c.silence_verdict.ensures c.args.x)

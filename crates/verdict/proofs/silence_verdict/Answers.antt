-- `verdict::silence_verdict` meets its contract: by the class's bit of the profile.
-- Assumes nothing.
use Rattle.bits.specs.Bit.{bit_at}
use Rattle.masks.specs.Kept.{covered}
use Rattle.channel.specs.Checks.{checks}
use Rattle.word.specs.Words.{octets_in}
use Rattle.verdict.proofs.VerdictLaws.{silence-unchecked, silence_checked}
use Rattle.verdict.proofs.silence_verdict.Goals as goal

pub returns-then-profile-class-eq0 : goal.returns-then-profile-class-eq0
returns-then-profile-class-eq0 c = λ x. silence-unchecked c.args.t x (bit_at (octets_in c.args.w)) c.class_of-class.result c.class_of-class.ensures.1 c.if-profile-class-eq0.true

pub returns-else-profile-class-eq0 : goal.returns-else-profile-class-eq0
unfolding covered checks
returns-else-profile-class-eq0 c = λ x.
    silence_checked c.args.t x (bit_at (octets_in c.args.w)) c.class_of-class.result c.class_of-class.ensures.1 c.one_wrong.result c.if-profile-class-eq0.false c.one_wrong.ensures.1

-- `octets::fixed` meets its contract: each array is what the fixed ones of the pattern make.
-- Assumes nothing.
use mathlib.Core.Path.{◌≡◌}
use Rattle.bits.specs.Bit.{twenty, octet_of}
use Rattle.channel.specs.declared.Pattern.TheVariants.{Hr, Low}
use Rattle.channel.specs.Kinds.{pattern_of}
use Rattle.octets.specs.Built.{fixed_octets}
use borrow.Author.Rules.{rules}
use Rattle.octets.proofs.fixed.Goals as goal

pub returns-in-Speech : goal.returns-in-Speech
unfolding fixed_octets twenty octet_of
returns-in-Speech c = let e : pattern_of c.args.k ≡ Hr = search rules in rw e

pub returns-in-NoSpeech : goal.returns-in-NoSpeech
unfolding fixed_octets twenty octet_of
returns-in-NoSpeech c = let e : pattern_of c.args.k ≡ Low = search rules in rw e

pub returns-in-Amr670 : goal.returns-in-Amr670
unfolding fixed_octets twenty octet_of
returns-in-Amr670 c = rw c.in-Amr670.is

pub returns-in-Amr740 : goal.returns-in-Amr740
unfolding fixed_octets twenty octet_of
returns-in-Amr740 c = rw c.in-Amr740.is

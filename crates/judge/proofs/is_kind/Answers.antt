-- `judge::is_kind` meets its contract.
-- Assumes nothing.
use Rattle.bits.specs.Bit.{bit_at}
use Rattle.judge.proofs.SoundLaws.{is_found}
use denote.Enum.Bare.{same_true, true_same}
use Rattle.channel.specs.contracts.Kind.{the_type}
use Rattle.judge.proofs.is_kind.Goals as goal

pub returns : goal.returns
returns c = let a = c.args in rw c.eq.ensures (is_found a.t (bit_at a.o) a.k _ (same_true the_type tt) (true_same the_type) c.kind_of.result c.kind_of.ensures)

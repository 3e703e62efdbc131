-- `word::words_of` meets its contract: by eights and four.
-- Assumes nothing.
use native.Mathlib.Omega.{arith}
use Rattle.word.proofs.OctetLaws.{octets_whole, held_octets}
use Rattle.word.proofs.words_of.Goals as goal

-- the octets of the words, and so what they hold
pub returns : goal.returns
returns c =
    let whole = octets_whole c.args.o.now _ (omega arith) (λ k. omega (arith, c.fits-o k)) c.from_be_bytes-a.ensures c.from_be_bytes-b.ensures c.from_be_bytes-c.ensures in
    record { octets = whole; holds = held_octets c.args.o.now _ (omega arith) (omega arith) (omega arith) whole }

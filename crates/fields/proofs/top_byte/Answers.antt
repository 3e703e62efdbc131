-- `fields::top_byte` meets its contract: the field of the bits, shifted up by what is missing to eight.
-- Assumes nothing.
use Rattle.bits.specs.Bit.{bit_at}
use Rattle.fields.proofs.PackedLaws.{top_of}
use Rattle.fields.proofs.top_byte.Goals as goal

pub returns : goal.returns
returns c = top_of (bit_at c.args.o.now) c.args.places.now c.packed-field.result c.padded.result c.requires.1 c.packed-field.ensures c.padded.ensures

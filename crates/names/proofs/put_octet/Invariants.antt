-- `names::put_octet` meets its contract. The loop's invariant: the names of the octet's first i bits are put.
-- Assumes nothing.
use Rattle.text.specs.Text.{Put, Same}
use Rattle.names.specs.Names.{names_of}
use Rattle.names.proofs.put_octet.Given as goal

abbrev pub invariant-loop-i : goal.invariant-loop-i
invariant-loop-i l =
    Put l.initial.text.bytes.now l.initial.text.end (names_of l.k l.octet l.i) l.text.bytes.now l.text.end
    × Same l.initial.text.bytes l.text.bytes

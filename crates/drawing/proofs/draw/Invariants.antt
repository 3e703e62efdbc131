-- `drawing::draw` meets its contract. The loop's invariant: the lines of the first octets stand behind the heading.
-- Assumes nothing.
use Rattle.text.specs.Text.{Put, Same}
use Rattle.drawing.specs.Drawing.{octets_of}
use Rattle.drawing.proofs.draw.Given as goal

abbrev pub invariant-loop-octet : goal.invariant-loop-octet
invariant-loop-octet l =
    Put l.initial.text.bytes.now l.initial.text.end (octets_of l.k l.octet) l.text.bytes.now l.text.end
    × Same l.initial.text.bytes l.text.bytes

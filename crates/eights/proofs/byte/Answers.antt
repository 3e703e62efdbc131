-- `eights::byte` meets its contract, whichever way the places are found.
-- Assumes nothing.
use Rattle.placing.proofs.PlacingLaws.{byte_places}
use Rattle.eights.proofs.EightLaws.{eight_of_lem, worked_out}
use Rattle.eights.proofs.byte.Goals as goal

pub top_byte-requires : goal.top_byte-requires
top_byte-requires c =
    let a = c.args in
    let e = eight_of_lem a.k a.j c.requires in
    rw (c.part.ensures, byte_places a.k a.j c.size-n.result c.requires c.size-n.ensures) (e.below, e.few)

pub returns-in-Some : goal.returns-in-Some
returns-in-Some c =
    let a = c.args in
    rw (c.part.ensures, byte_places a.k a.j c.size-n.result c.requires c.size-n.ensures) at c.top_byte.ensures

pub top_byte-requires-in-None : goal.top_byte-requires-in-None
top_byte-requires-in-None c =
    let a = c.args in
    let e = eight_of_lem a.k a.j c.requires in
    rw (worked_out a.k a.j c.size-n.result c.requires c.size-n.ensures c.eight.result c.eight.ensures) (e.below, e.few)

pub returns-in-None : goal.returns-in-None
returns-in-None c =
    let a = c.args in
    rw (worked_out a.k a.j c.size-n.result c.requires c.size-n.ensures c.eight.result c.eight.ensures) at c.top_byte-in-None.ensures

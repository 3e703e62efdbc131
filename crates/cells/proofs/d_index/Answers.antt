-- `cells::d_index` meets its contract: a kind has fewer D bits than the table has places.
-- Assumes nothing.
use Rattle.std.proofs.Common.{arith, ap, length}
use Rattle.std.proofs.lemmas.Option.{IfSome_then}
use Rattle.dplaces.proofs.DPlaceLaws.{d_length_lem, d_count_le}
use Rattle.cells.proofs.d_index.Goals as goal

pub returns-clause-inside : goal.returns-clause-inside
returns-clause-inside c = IfSome_then c.index_in.result c.index_in.ensures.inside (λ i l. omega (arith, l, ap length c.of.ensures, d_length_lem c.args.k, d_count_le c.args.k))

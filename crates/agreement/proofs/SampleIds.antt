-- The request's circuit, with ids 1 to 11 and with gaps in them, meets the premises of `ids_of_no_matter`. Assumes nothing.
use mathlib.Core.Path.{refl}
use Rattle.tables.specs.Kinds.{row_of}
use Rattle.tables.specs.Layout.{filled_by}
use Rattle.tables.specs.Rules.{suits, fault}
use Rattle.tables.specs.Tables.{checked}
use Rattle.circuits.specs.Examples.{circuit, gaps}
use Rattle.agreement.specs.Ids.{SameLines, SameOutcomes}
use Rattle.agreement.proofs.Ids.{ids_of_no_matter}

same_lines : SameLines gaps circuit 11
unfolding filled_by checked fault suits row_of
same_lines = record { records = refl; first = refl; second = refl }

pub gaps_no_matter : SameOutcomes gaps circuit 11
gaps_no_matter = ids_of_no_matter gaps circuit 11 same_lines

use Rattle.inspection.proofs.Totals as lemmas
use Rattle.inspection.proofs.laws.bytes_of_all_pieces.Goals as goal

pub returns : goal.returns
returns c = lemmas.bytes_of_all_pieces

use Rattle.std.proofs.Common.{rules}
use Rattle.std.proofs.lemmas.List.{append_assoc}
use Rattle.captures.proofs.record_writer.record_line.Goals as goal

pub returns-in-Piece : goal.returns-in-Piece
returns-in-Piece c = rw (c.in-Piece.is, ← c.as_slice.ensures) c.piece_line.ensures

pub returns-in-End : goal.returns-in-End
returns-in-End c = rw c.in-End.is (search (rules, append_assoc))

pub returns-in-Tier : goal.returns-in-Tier
returns-in-Tier c = rw c.in-Tier.is (search (rules, append_assoc))

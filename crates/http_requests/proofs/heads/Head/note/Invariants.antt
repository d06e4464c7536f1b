use Rattle.std.specs.Prelude.{take}
use Rattle.http_requests.specs.Lines.{AreNoted}
use Rattle.http_requests.proofs.HeadLemmas.{lines_from}
use Rattle.http_requests.proofs.heads.Head.note.Given as goal

abbrev pub invariant-loop-header : goal.invariant-loop-header
invariant-loop-header l = AreNoted l.self.block.now (lines_from l.self.block.now (take l.header-index l.self.headers.now)) l.noted

use Rattle.std.specs.Prelude.{take, codes}
use Rattle.http_requests.specs.Reference.{values_of}
use Rattle.http_requests.specs.Lines.{AreLines}
use Rattle.http_requests.proofs.HeadLemmas.{lines_from}
use Rattle.http_requests.proofs.heads.Head.host_lines.Given as goal

abbrev pub invariant-loop-header : goal.invariant-loop-header
invariant-loop-header l =
    AreLines l.self.block.now (values_of (codes "host") (lines_from l.self.block.now (take l.header-index l.self.headers.now))) l.lines

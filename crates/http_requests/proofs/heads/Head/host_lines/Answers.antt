use Rattle.std.specs.Prelude.{codes}
use Rattle.http_requests.proofs.HeadLemmas.{no_header, noted_more}
use Rattle.http_requests.proofs.heads.Head.host_lines.Goals as goal

pub loop-header-preserved : goal.loop-header-preserved
loop-header-preserved c =
    noted_more (codes "host") c.args.self.now.block.now c.args.self.now.headers.now c.loop-header.header-index c.of-name.result.now c.loop-header.lines c.add_if.new.self
    c.same_text.result c.loop-header-test.true (c.requires.headers c.loop-header.header-index no_header c.loop-header-test.true).1 c.of-name.ensures
    c.loop-header.invariant c.same_text.ensures c.add_if.ensures

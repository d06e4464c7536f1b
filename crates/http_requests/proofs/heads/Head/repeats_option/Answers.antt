use Rattle.http_requests.proofs.HeadLemmas.{option_here, option_not_here, other_line, other_option}
use Rattle.http_requests.proofs.heads.Head.repeats_option.Goals.{else-same_text-via-then-same_text+else-lists, else-same_text-via-else-same_text}
use Rattle.http_requests.proofs.heads.Head.repeats_option.Goals as goal

pub returns-then-lists : goal.returns-then-lists
returns-then-lists c = option_here c.args.option.now c.args.self.now.block.now c.args.self.now.headers.now c.loop-header.header-index c.of.result.now c.of-then-same_text.result.now
    c.loop-header-test.true c.of.ensures c.if-same_text.ensures c.of-then-same_text.ensures c.if-lists.ensures

pub loop-header-preserved : goal.loop-header-preserved
loop-header-preserved c = option_not_here c.args.option.now c.args.self.now.block.now c.args.self.now.headers.now c.loop-header.header-index c.loop-header-test.true c.loop-header.invariant
    (elim c.else-same_text.branch [
      | else-same_text-via-then-same_text+else-lists w ↦ other_option _ w.of-then-same_text.result.now _ c.args.option.now w.of-then-same_text.ensures w.if-lists.ensures
      | else-same_text-via-else-same_text w ↦ other_line c.of.result.now _ _ c.of.ensures w.if-same_text.ensures
    ])

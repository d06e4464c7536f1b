use Rattle.std.specs.Prelude.{◌≡◌, false, take}
use Rattle.http_requests.specs.Reference.{has_option}
use Rattle.http_requests.proofs.HeadLemmas.{lines_from}
use Rattle.http_requests.proofs.heads.Head.repeats_option.Given as goal

abbrev pub invariant-loop-header : goal.invariant-loop-header
invariant-loop-header l = has_option l.option (lines_from l.self.block.now (take l.header-index l.self.headers.now)) ≡ false

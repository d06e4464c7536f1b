use Rattle.std.proofs.Common.{true, refl}
use Rattle.httparse.specs.Spans.{span_bytes}
use Rattle.http_requests.specs.Lines.{lines_at}
use Rattle.http_requests.proofs.CountLemmas.{measure_parts, measure_fault}
use Rattle.http_requests.proofs.heads.Head.extent.Goals as goal

pub returns-in-Ok-clause-says : goal.returns-in-Ok-clause-says
returns-in-Ok-clause-says c =
    let block = c.args.self.now.block.now in
    let head = c.args.self.now in
    measure_parts (span_bytes block head.method) (span_bytes block head.target) head.minor (lines_at head) c.modified_since-since.result
    (record { closes = c.is_closing.result; length = c.in-Ok.length })
    c.in-Ok.ensures.cases.0 c.modified_since-since.ensures c.is_closing.ensures c.in-Ok.ensures.cases.1

pub returns-in-Err-clause-says : goal.returns-in-Err-clause-says
returns-in-Err-clause-says c =
    let block = c.args.self.now.block.now in
    let head = c.args.self.now in
    measure_fault (span_bytes block head.method) (span_bytes block head.target) head.minor (lines_at head) c.in-Err.field-0
    (record { closes = true; length = 0 }) c.in-Err.ensures.cases refl refl

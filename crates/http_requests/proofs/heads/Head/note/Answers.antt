use Rattle.std.specs.Prelude.{codes}
use Rattle.http_requests.proofs.HeadLemmas.{no_header, named_more}
use Rattle.http_requests.proofs.heads.Head.note.Goals as goal

pub loop-header-preserved : goal.loop-header-preserved
loop-header-preserved c =
    let block = c.args.self.now.block.now in
    let headers = c.args.self.now.headers.now in
    let i = c.loop-header.header-index in
    let text = c.of.result.now in
    let below = c.loop-header-test.true in
    let within = (c.requires.headers i no_header below).1 in
    let old = c.loop-header.noted in
    let new = c.add.new.self in
    let is = c.of.ensures in
    let were = c.loop-header.invariant in
    let adds = c.add.ensures in
    record {
      coding = named_more (codes "transfer-encoding") block headers i text old.coding new.coding below within is were.coding adds.coding;
      length = named_more (codes "content-length") block headers i text old.length new.length below within is were.length adds.length;
      connection = named_more (codes "connection") block headers i text old.connection new.connection below within is were.connection adds.connection;
      none_match = named_more (codes "if-none-match") block headers i text old.none_match new.none_match below within is were.none_match adds.none_match;
      since = named_more (codes "if-modified-since") block headers i text old.since new.since below within is were.since adds.since;
    }

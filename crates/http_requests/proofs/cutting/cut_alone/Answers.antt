use Rattle.std.proofs.Common.{[]}
use Rattle.http_requests.proofs.AloneLemmas.{alone}
use Rattle.http_requests.proofs.cutting.cut_alone.Goals as goal

pub returns : goal.returns
returns c =
    let fed = c.in_ok-feed.ensures.ok [] [] c.new-cutter.ensures.fits in
    (fed.more, fed.appended, alone c.end.result c.feed.new.self c.args.piece.now c.args.out.now.items c.feed.new.out.items fed c.end.ensures)

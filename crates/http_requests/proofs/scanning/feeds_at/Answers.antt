use Rattle.http_requests.proofs.LaneLemmas.{marks_feeds}
use Rattle.http_requests.proofs.scanning.feeds_at.Goals as goal

pub returns : goal.returns
returns c = marks_feeds c.args.s.now c.args.at c.requires

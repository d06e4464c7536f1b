use Rattle.devices.proofs.Windows.{to_first_feed}
use Rattle.devices.proofs.window.to_feed.Goals as goal

pub returns-in-Some-clause-feed : goal.returns-in-Some-clause-feed
returns-in-Some-clause-feed c = to_first_feed c.args.bytes.now c.in-Some.feed c.in-Some.ensures.place

use Rattle.responses.specs.Reference.{status_of}
use Rattle.responses.proofs.Joining.{on_ok, described_added}
use Rattle.responses.proofs.fields.push_described.Goals as goal

pub returns : goal.returns
returns g c = on_ok _ _ c.push_content.result (described_added c.args.head.now.items _ c.status_words.result.now (status_of c.args.what.now) c.status_words.ensures) c.push_content.ensures

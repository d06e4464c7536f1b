use Rattle.std.proofs.Common.{rules}
use Rattle.std.proofs.lemmas.Slice.Eq.{bytes_eq-Decides}
use Rattle.http_requests.proofs.heads.same_text.Goals as goal

pub returns : goal.returns
returns c = search (rules, bytes_eq-Decides)

use Rattle.std.proofs.Common.{◌∙◌, sym, []}
use Rattle.std.proofs.lemmas.List.{append-nil}
use Rattle.paths.specs.Snapshots.{snapshot_text}
use Rattle.paths.proofs.OneList.{one_list}
use Rattle.paths.proofs.laws.one_snapshot.Goals as goal

pub returns : goal.returns
returns c = λ bytes files others a b.
    (one_list files others [] [] a.rules b.rules (append-nil (snapshot_text files) ∙ (sym a.text ∙ (b.text ∙ sym (append-nil (snapshot_text others)))))).0

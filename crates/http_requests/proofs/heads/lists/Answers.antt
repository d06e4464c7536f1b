use Rattle.std.proofs.Common.{rules}
use Rattle.std.proofs.lemmas.Iterator.Search.{any_from_yields_List}
use Rattle.std.proofs.lemmas.Iterator.Splits.{YieldsList-from_slice_split}
use Rattle.std.specs.Prelude.{◌==◌}
use Rattle.httparse.specs.Grammar.{trim_ows}
use Rattle.http_requests.specs.Reference.{same_text}
use Rattle.http_requests.proofs.heads.lists.Goals as goal

pub returns : goal.returns
returns c = any_from_yields_List (λ part. same_text (trim_ows part) c.args.option.now) _ _ _ c.any.ensures.ran
    (YieldsList-from_slice_split _ (λ b. b == 44) c.args.value.now c.split.ensures.rest c.split.ensures.done c.split.ensures.closure (λ x b q k. search rules))
    (λ x b q k. search rules)

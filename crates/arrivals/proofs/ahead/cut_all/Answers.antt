use Rattle.std.proofs.Common.{◌≡◌, ◌∙◌}
use Rattle.arrivals.proofs.AheadLemmas.{all_same}
use Rattle.arrivals.proofs.ahead.cut_all.Goals as goal

pub returns : goal.returns
returns g c =
    let h = c.in_ok-collect.ensures in
    let chain = h.1 in
    let records : chain.0 ≡ c.args.records.items = (rw (c.map.ensures.base, c.with_min_len.ensures.base) at chain.1) ∙ c.into_par_iter.ensures in
    let k = rw c.in_ok-cuts.was at h.2 in
    rw k.2 (all_same c.args.records.items h.0 k.0 (rw records at chain.2) k.1)

use Rattle.std.proofs.Common.{◌≡◌, ℕ, ◌+◌, ◌*◌, ◌%◌, ◌^◌, refl, ap, sym, ◌∙◌, map, length, slice_index}
use Rattle.stage_graph.specs.After.{last_cut}
use Rattle.stage_graph.specs.Steps.{value_of}
use Rattle.stage_graph.proofs.ByNumber.{by_number}
use Rattle.stage_graph_tests.proofs.adding.sums_with.Goals as goal

pub returns : goal.returns
returns g c =
    let xs = c.args.inputs.now in
    let step : ℕ → ℕ → ℕ = λ k x. (x * 2 + slice_index g.K.Sums.addends k) % 2 ^ 64 in
    let all = length g.K.Sums.addends in
    let cut : last_cut g.K.RunName.plan ≡ all = ap last_cut (sym c.requires.plan) ∙ (c.requires.cut ∙ ap length c.requires.addends) in
    let values : map (λ x. x.value) c.in_ok-items-2.items.items ≡ map (value_of step all) xs =
    c.in_ok-items-2.ensures ∙ (rw (cut, ← c.requires.inputs, ← c.requires.count) (by_number (value_of step all) xs 0)) in
    c.in_ok-values.ensures ∙ (values ∙ rw (c.requires.addends) refl)

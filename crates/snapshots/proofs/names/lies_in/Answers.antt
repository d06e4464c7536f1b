use Rattle.std.proofs.Common.{◌&&◌, [], ◌∷◌, length, drop, nat_eq, sym, ap, ◌∙◌}
use Rattle.std.specs.List.{starts_with}
use Rattle.std.proofs.lemmas.List.{take_rest}
use Rattle.paths.specs.Reference.{slash}
use Rattle.snapshots.proofs.Prefixes.{lies_split}
use Rattle.snapshots.proofs.names.lies_in.Goals as goal

pub returns-then-starts_with : goal.returns-then-starts_with
returns-then-starts_with c =
    let folder = c.args.folder.now in let name = c.args.name.now in
    c.starts_with-then-starts_with.ensures.value ∙ (ap (λ v. starts_with nat_eq v (slash ∷ [])) (take_rest name (length folder)) ∙ sym (lies_split folder name
    ∙ ap (λ b. b && starts_with nat_eq (drop (length folder) name) (slash ∷ [])) (sym c.starts_with.ensures.value ∙ c.if-starts_with.true)))

pub returns-else-starts_with : goal.returns-else-starts_with
returns-else-starts_with c =
    let folder = c.args.folder.now in let name = c.args.name.now in
    c.if-starts_with.false ∙ sym (lies_split folder name
    ∙ ap (λ b. b && starts_with nat_eq (drop (length folder) name) (slash ∷ [])) (sym c.starts_with.ensures.value ∙ c.if-starts_with.false))

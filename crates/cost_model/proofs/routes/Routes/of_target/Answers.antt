use Rattle.std.proofs.Common.{◌≡◌, length, arith}
use Rattle.std.proofs.lemmas.List.{nil_from_length}
use Rattle.cost_model.proofs.OnRoutes.{on_none}
use Rattle.cost_model.proofs.routes.Routes.of_target.Goals as goal

pub returns-then-is_empty-clause-route : goal.returns-then-is_empty-clause-route
returns-then-is_empty-clause-route c =
    let none : length c.args.self.now ≡ 0 = grind (arith, c.if-is_empty.ensures, c.as_slice.ensures) in
    on_none c.args.self.now _ (nil_from_length c.args.self.now none)

use Rattle.std.proofs.Common.{rules, sym, ◌∙◌}
use Rattle.paths.proofs.PlainPaths.{is_found, plain_found}
use Rattle.paths.proofs.resolution.find_plain.Goals as goal

pub returns-in-Some-eq47-default-clause-outcome : goal.returns-in-Some-eq47-default-clause-outcome
returns-in-Some-eq47-default-clause-outcome c =
    plain_found c.args.files.now c.args.method.now c.args.target.now c.in-Some-eq47-default.name.now c.position.result c.position.ensures.rules
    (sym c.is_served.ensures ∙ c.if-not-is_served.false) (sym c.is_plain_target.ensures ∙ c.if-not-is_plain_target.false)
    (search rules) c.position.ensures.place

pub returns-in-Some-eq47-default-clause-is : goal.returns-in-Some-eq47-default-clause-is
returns-in-Some-eq47-default-clause-is c =
    is_found c.args.files.now c.args.method.now c.args.target.now c.position.result
    (plain_found c.args.files.now c.args.method.now c.args.target.now c.in-Some-eq47-default.name.now c.position.result c.position.ensures.rules
    (sym c.is_served.ensures ∙ c.if-not-is_served.false) (sym c.is_plain_target.ensures ∙ c.if-not-is_plain_target.false)
    (search rules) c.position.ensures.place)

use Rattle.std.proofs.Common.{◌≡◌, List, Option, Some, None, option_map, option_and_then, refl, ◌∙◌}
use Rattle.clap.specs.Words.{Row, Text, first_of, found_of, rows_of, subcommand_rows_of}
use Rattle.clap.proofs.WalkLemmas.{first_value-rows}
use Rattle.command_line.proofs.words.value.Goals as goal

in_subcommand : (id : Text) (rows : List Row) (found : Option (Text × List Row)) → Some rows ≡ option_map (λ p. p.1) found
    → first_of id rows ≡ option_and_then (λ p. first_of id p.1) found
in_subcommand id rows None same = cc
in_subcommand id rows (Some p) same =
    let rows_are : rows ≡ p.1 = cc in
    rw rows_are refl

pub returns-in-Some : goal.returns-in-Some
returns-in-Some c =
    let rows = rows_of (found_of c.in-Some.of_subcommand.now) in
    let here : Some rows ≡ option_map (λ p. p.1) (subcommand_rows_of c.args.matches.now) = rw c.in-Some.is at c.subcommand.ensures.rows in
    c.get_str.ensures ∙ first_value-rows (found_of c.in-Some.of_subcommand.now) c.args.option.now ∙ in_subcommand c.args.option.now rows _ here

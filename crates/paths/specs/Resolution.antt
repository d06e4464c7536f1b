-- What a request asks for, by its method and its target alone, and what it is answered with, by the names of the files.
use Rattle.std.specs.Prelude.{◌≡◌, ℕ, ◌<◌, length, Bool, true, false, List, [], ◌∷◌, ◌==◌, Option, Some, None, ◌&&◌}
use Rattle.std.specs.Prelude.{not, if◌then◌else◌}
use Rattle.std.specs.List.{list_all, slice_split}
use Rattle.std.specs.Char.{is_ascii_graphic, is_ascii}
use Rattle.paths.specs.Reference.{slash, walked, question_mark, number_sign, percent_sign, position_of, is_served}
use Rattle.paths.specs.declared.file.File.{File}
use Rattle.paths.specs.declared.resolution.Outcome.{Outcome}
use Rattle.paths.specs.declared.target.Asked.{Asked}
use Rattle.paths.specs.declared.target.WalkStep.{WalkStep}
use Rattle.paths.specs.declared.resolution.Outcome.TheVariants as outcomes
use Rattle.paths.specs.declared.target.Asked.TheVariants as askeds
use Rattle.paths.specs.declared.target.WalkStep.TheVariants as steps

-- what stands before a segment of a name: nothing before the first, else a slash
abbrev pub slash_before : Bool → List ℕ
slash_before true = []
slash_before false = slash ∷ []

-- what each outcome keeps: a file is there, and a location is visible characters alone
abbrev pub IsOutcome : List File → Outcome → Type 0
IsOutcome files (outcomes.File file) = file < length files
IsOutcome files (outcomes.Move to) = list_all is_ascii_graphic to ≡ true
IsOutcome files other = Unit {0}

-- the parts of what is left between slashes, where something is left
abbrev pub parts_of : Option (List ℕ) → List (List ℕ)
parts_of None = []
parts_of (Some text) = slice_split (λ b. b == slash) text

-- what the walk asks for after the step, with these segments kept and these ahead
abbrev pub after_step : WalkStep → List (List ℕ) → Bool → List (List ℕ) → Asked
after_step steps.On kept folder more = walked kept folder more
after_step steps.Missing kept folder more = askeds.Missing
after_step steps.AboveRoot kept folder more = askeds.BadTarget

-- ASCII but byte 0, `#`, `%` and `?`
abbrev pub is_plain : ℕ → Bool
is_plain b = is_ascii b && not (b == 0) && not (b == number_sign) && not (b == percent_sign)
    && not (b == question_mark)

-- the file that a target names as it stands, byte for byte after its first slash, for a method that is served
abbrev pub plain_file : List File → List ℕ → List ℕ → Option ℕ
plain_file files method [] = None
plain_file files method (b ∷ name) =
    if is_served method && list_all is_plain (b ∷ name) && b == slash then position_of files name else None

-- The parts of a line with a name.
use Rattle.std.proofs.Common.{◌≡◌, ℕ, List, ◌++◌, sym, codes}
use Rattle.std.proofs.lemmas.List.{append_assoc}

pub line_parts : (text name : List ℕ) → (codes "haboob: " ++ text ++ codes " ") ++ (name ++ codes "\n") ≡ codes "haboob: " ++ text ++ codes " " ++ name ++ codes "\n"
line_parts text name = sym (append_assoc (codes "haboob: " ++ text ++ codes " ") name (codes "\n"))

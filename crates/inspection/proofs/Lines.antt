-- Lines, one after the other.
use Rattle.std.proofs.Common.{◌≡◌, ℕ, List, ◌++◌, Result, Ok, Err, ap, ◌∙◌}
use Rattle.std.specs.Prelude.{OnOk}
use Rattle.std.proofs.lemmas.List.{append_assoc}

pub two_written : {X E : Type 0} (r : Result X E) (old mid new a b : List ℕ) → mid ≡ old ++ a → OnOk r (new ≡ mid ++ b) → OnOk r (new ≡ old ++ (a ++ b))
two_written (Ok x) old mid new a b first second = second ∙ ap (λ t. t ++ b) first ∙ append_assoc old a b
two_written (Err e) old mid new a b first second = tt

pub three_written : {X E : Type 0} (r : Result X E) (old first second new a b c : List ℕ) → first ≡ old ++ a → second ≡ first ++ b → OnOk r (new ≡ second ++ c) → OnOk r (new ≡ old ++ ((a ++ b) ++ c))
three_written r old first second new a b c one two three = two_written r old second new (a ++ b) c (two ∙ ap (λ t. t ++ b) one ∙ append_assoc old a b) three

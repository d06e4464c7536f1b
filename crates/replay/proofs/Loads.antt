-- How many bytes the targets of messages have, message after message.
use Rattle.std.proofs.Common.{◌≡◌, ℕ, suc, ◌+◌, ◌<◌, List, [], ◌∷◌, length, take, map, get_or, arith}
use Rattle.std.proofs.lemmas.List.{map-append}
use Rattle.std.proofs.lemmas.List.Sums.{sum_by-append, sum_by-cons}
use Rattle.http_requests.specs.declared.messages.Meaning.{Meaning}
use Rattle.replay.specs.Loads.{target_len, targets_len}
use Rattle.replay.proofs.Upcoming.{taken_more}

-- the targets of one more message
pub one_longer : {A : Type 0} (what : A → Meaning) (xs : List A) (i : ℕ) (d : A) → i < length xs
    → targets_len (map what (take (i + 1) xs)) ≡ targets_len (map what (take i xs)) + target_len (what (get_or xs i d))
one_longer what xs i d lt =
    let n : i + 1 ≡ suc i = omega arith in
    let own = what (get_or xs i d) in
    let sums = sum_by-append target_len (map what (take i xs)) (own ∷ []) in
    let one = sum_by-cons target_len own [] in
    rw (n, taken_more xs i d lt, map-append what (take i xs) (get_or xs i d ∷ [])) (omega (arith, sums, one))

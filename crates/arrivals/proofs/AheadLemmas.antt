-- Records whose pieces are cut ahead of their turn.
use Rattle.std.proofs.Common.{◌≡◌, ◌≤◌, ℕ, ◌∷◌, [], List, length, map, refl, arith}
use Rattle.std.specs.Prelude.{IfOk, Result, Ok}
use Rattle.std.specs.List.{AllZip}
use Rattle.std.specs.declared.alloc.AllocError.{AllocError}
use Rattle.captures.specs.declared.record.Record.{Record}
use Rattle.captures.specs.declared.record.Record.TheVariants.{Piece, End, Tier}
use Rattle.http_requests.specs.Cutting.{max_text_bytes}
use Rattle.http_requests.specs.declared.cutting.PieceEnd.TheVariants.{Unfinished}
use Rattle.arrivals.specs.Ahead.{GivesAlone, IsAllowed}

-- nothing is said of a record that isn't cut
pub gives_uncut : (r : Record) → GivesAlone r [] Unfinished
gives_uncut (Piece tick conn bytes) = tt
gives_uncut (End tick conn) = refl
gives_uncut (Tier conn tier) = refl

-- a piece is short enough to be cut by itself
pub short_piece : (r : Record) (tick conn : ℕ) (bytes : List ℕ) → r ≡ Piece tick conn bytes → IsAllowed r → length bytes ≤ max_text_bytes
short_piece r tick conn bytes is allowed = let most = (rw is at allowed.rules).3 in omega (arith, most)

-- each task gave what it was given
pub all_same : {A : Type 0} (tasks : List A) (given : List (Result A AllocError)) (cuts : List A) → AllZip (λ t r. IfOk r (λ cut. cut ≡ t)) tasks given → given ≡ map Ok cuts → cuts ≡ tasks
all_same [] [] [] h e = refl
all_same [] [] (k ∷ cuts) h e = absurd (let z : ⊥ = grind (arith, e) in z)
all_same [] (r ∷ given) cuts h e = absurd h
all_same (t ∷ tasks) [] cuts h e = absurd h
all_same (t ∷ tasks) (r ∷ given) [] h e = absurd (let z : ⊥ = grind (arith, e) in z)
all_same (t ∷ tasks) (r ∷ given) (k ∷ cuts) h e =
    let head : r ≡ Ok k = cc in
    let tail : given ≡ map Ok cuts = cc in
    let same : k ≡ t = rw head at h.0 in
    let rest : cuts ≡ tasks = all_same tasks given cuts h.1 tail in
    cc

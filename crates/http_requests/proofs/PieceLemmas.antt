-- The text of pieces, piece by piece.
use Rattle.std.proofs.Common.{◌≡◌, ℕ, zero, suc, ◌+◌, ◌<◌, ◌≤◌, List, [], ◌∷◌, ◌++◌, length, take, get_or, ap, arith, length-append, append_assoc, append-nil, map, Bor}
use Rattle.std.proofs.lemmas.Grind.{common_steps}
use Rattle.http_requests.specs.declared.messages.Message.{Message}
use Rattle.http_requests.specs.Cutting.{Progress, joined, CutterAfter, Fed}

pub joined_step : (ps : List (List ℕ)) (i : ℕ) (d : List ℕ) → i < length ps → joined (take (i + 1) ps) ≡ joined (take i ps) ++ get_or ps i d
joined_step [] i d h = absurd (omega (arith, h))
joined_step (p ∷ ps) zero d h = append-nil p
joined_step (p ∷ ps) (suc i) d h = let e : suc i + 1 ≡ suc (i + 1) = omega arith in
    rw (e, append_assoc p (joined (take i ps)) (get_or ps i d)) (ap (λ t. p ++ t) (joined_step ps i d (omega (arith, h))))

pub joined_room : (ps : List (List ℕ)) (i : ℕ) → length (joined (take i ps)) ≤ length (joined ps)
joined_room [] i = grind (arith, common_steps)
joined_room (p ∷ ps) zero = omega arith
joined_room (p ∷ ps) (suc i) = let h = joined_room ps i in rw (length-append p (joined (take i ps)), length-append p (joined ps)) (omega (arith, h))

pub piece_step : (ps : List (Bor (List ℕ))) (i : ℕ) (d : Bor (List ℕ)) → i < length ps
    → joined (take (i + 1) (map (λ piece. piece.now) ps)) ≡ joined (take i (map (λ piece. piece.now) ps)) ++ (get_or ps i d).now
piece_step [] i d h = absurd (omega (arith, h))
piece_step (p ∷ ps) zero d h = append-nil p.now
piece_step (p ∷ ps) (suc i) d h = let e : suc i + 1 ≡ suc (i + 1) = omega arith in
    rw (e, append_assoc p.now (joined (take i (map (λ piece. piece.now) ps))) (get_or ps i d).now) (ap (λ t. p.now ++ t) (piece_step ps i d (omega (arith, h))))

pub piece_room : (ps : List (Bor (List ℕ))) (i read : ℕ) (d : Bor (List ℕ)) → i < length ps → read ≡ length (joined (take i (map (λ piece. piece.now) ps)))
    → length (joined (map (λ piece. piece.now) ps)) ≤ 1_125_899_906_842_624 → read + length (get_or ps i d).now ≤ 1_125_899_906_842_624
piece_room ps i read d h e capacity =
    let s = ap length (piece_step ps i d h) in
    let a = length-append (joined (take i (map (λ piece. piece.now) ps))) (get_or ps i d).now in
    let r = joined_room (map (λ piece. piece.now) ps) (i + 1) in
    omega (arith, s, a, r, e, capacity)

pub fed_fits : (past piece : List ℕ) (after : Progress) (old new : List Message) → Fed past old after piece old new → CutterAfter (past ++ piece) new after
fed_fits past piece after old new f = rw f.appended f.fits

pub all_taken : (ps : List (Bor (List ℕ))) (i : ℕ) → length ps ≤ i → take i (map (λ piece. piece.now) ps) ≡ map (λ piece. piece.now) ps
all_taken ps i h = grind (arith, common_steps)

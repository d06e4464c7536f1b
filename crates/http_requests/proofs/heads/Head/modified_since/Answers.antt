use Rattle.std.proofs.Common.{◌≡◌, ℕ, Bool, true, false, List, [], ◌∷◌, refl, sym, ◌∙◌, ap}
use Rattle.std.specs.Prelude.{Option, Some, None, MatchBool, not, ◌&&◌}
use Rattle.http_requests.specs.Reference.{IsOnlySecond, IsSecondOf, is_get_or_head}
use Rattle.http_requests.proofs.HeadLemmas.{there}
use Rattle.http_requests.proofs.heads.Head.modified_since.Goals as goal

only_second : (b : Bool) (values : List (List ℕ)) (text : List ℕ) (since : Option ℕ) → b ≡ true → values ≡ text ∷ [] → IsSecondOf text since
    → MatchBool b (IsOnlySecond values since) (since ≡ None)
only_second b values text since h e s = rw (h, e) s

counted : (p g : Bool) → p ≡ true → g ≡ false → (p && not g) ≡ true
counted p g h e = rw (h, e) refl

pub returns-in-Ok : goal.returns-in-Ok
returns-in-Ok c =
    let since = rw c.in-Once.is at c.requires.noted.since in
    let given = there _ _ _ c.requires.noted.none_match ∙ sym c.is_there.ensures ∙ c.if-is_there.false in
    only_second _ _ c.of-in-Once.result.now (Some c.unix_secs.result)
    (counted _ _ (ap is_get_or_head (sym c.of.ensures) ∙ sym c.is_get_or_head.ensures ∙ c.if-not-is_get_or_head.false) given)
    (since.1 ∙ ap (λ (t : List ℕ). t ∷ []) (sym c.of-in-Once.ensures)) (c.in-Ok.date, c.in-Ok.ensures.shown, sym c.unix_secs.ensures.value)

-- The tallies of the tiers, whose controls were taken out of the controller.
use Rattle.std.proofs.Common.{◌≡◌, ℕ, ◌<◌, List, map, length, Some, option_map, ◌∙◌, sym, ap, refl}
use Rattle.std.specs.List.{slice_get}
use Rattle.std.proofs.lemmas.Option.{slice_get-map, slice_get_read}
use lib.ListN.{get_or}
use Rattle.admission.specs.declared.control.Control.{Control}
use Rattle.admission.specs.Reference.{Station, Offer}
use Rattle.admission.specs.After.{controls_in}
use Rattle.reference.specs.declared.summary.Tally.{Tally}
use Rattle.reference.specs.Reference.{tally_of}

-- one of four that were taken, and what it is seen as
pub taken_at : {X Y : Type 0} (f : X → Y) (xs : List X) (ys : List Y) (i : ℕ) (x : X) → length xs ≡ 4 → i < 4
    → x ≡ get_or xs i x → map f xs ≡ ys → slice_get ys i ≡ Some (f x)
taken_at f xs ys i x four below there is =
    ap (λ zs. slice_get zs i) (sym is) ∙ slice_get-map f xs i
    ∙ ap (option_map f) (slice_get_read xs 4 i x (sym four) below there)

-- a tally with the counts and the controls of a tier
pub tallied : (station : Station) (offers : List Offer) (tier : ℕ) (t : Tally) (admitted rejected : ℕ)
    (controls : List Control)
    → t ≡ record { admitted = admitted; rejected = rejected; controls = controls }
    → admitted ≡ (tally_of station offers tier).admitted → rejected ≡ (tally_of station offers tier).rejected
    → Some (controls_in station offers tier) ≡ Some controls → t ≡ tally_of station offers tier
unfolding tally_of
tallied station offers tier t admitted rejected controls is as_admitted as_rejected same =
    let same_controls : controls ≡ controls_in station offers tier = cc in
    rw (is, as_admitted, as_rejected, same_controls) refl

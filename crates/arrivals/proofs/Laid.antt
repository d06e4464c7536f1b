-- Lists that are taken element by element.
use Rattle.std.proofs.Common.{◌≡◌, List, [], ◌∷◌, length, refl, sym, ◌∙◌, arith}
use Rattle.std.specs.Vec.Iter.{into_iter_items, into_iter_len}
use Rattle.std.specs.declared.vec.IntoIter.{IntoIter}
use Rattle.http_requests.specs.declared.messages.Message.{Message}
use Rattle.arrivals.specs.declared.incoming.Incoming.{Incoming}
use Rattle.arrivals.specs.declared.incoming.Origin.{Origin}

abbrev pub incoming : Origin → Message → Incoming
incoming origin m = record { origin = origin; what = m.what }

is_empty : {X : Type 0} (xs : List X) → length xs ≡ 0 → xs ≡ []
is_empty [] e = refl
is_empty (x ∷ xs) e = absurd (let z : ⊥ = omega (arith, e) in z)

-- an iterator that gives no more has none left
pub none_left : {X Z : Type 0} (it : IntoIter X Z) → into_iter_len it ≡ 0 → into_iter_items it ≡ []
none_left it e = is_empty it.rest.items (sym it.rest.ok.0 ∙ e)

-- What stands at a device, from what its buffer keeps.
use Rattle.std.specs.Bool.{◌==◌}
use Rattle.std.specs.Option.{option_map}
use Rattle.std.proofs.Common.{◌≡◌, ℕ, cond, List, [], ◌++◌, refl, length, take, drop, Option, Some, None, sym, ap, ◌∙◌, subst}
use Rattle.std.proofs.lemmas.List.{take-append-drop}
use Rattle.std.specs.Io.KnownBytes.{Keeps, append_known}
use Rattle.runs.specs.Ports.{front_of, IsPrefix}

some_of : {x y : List ℕ} → Some x ≡ Some y → x ≡ y
some_of e = cc

-- a prefix stands at the device, and the rest waits
pub part_stands : (initial old new : Option (List ℕ)) (waited waits : List ℕ) → front_of initial old ≡ initial → front_of initial new ≡ initial
    → Keeps (append_known old waited) (append_known new waits) → IsPrefix initial (append_known old waited) new
part_stands None old new waited waits before begins keeps = tt
part_stands (Some s) None new waited waits before begins keeps = absurd (let never : None ≡ Some s = before in cc)
part_stands (Some s) (Some xs) None waited waits before begins keeps = absurd keeps
part_stands (Some s) (Some xs) (Some ys) waited waits before begins keeps =
    let front : take (length s) ys ≡ s = some_of begins in (
      drop (length s) ys,
      waits,
      sym (take-append-drop (length s) ys) ∙ ap (λ v. v ++ drop (length s) ys) front,
      sym keeps,
    )

-- what a buffered reader has, in whose buffer these bytes were read ahead
abbrev pub behind : ℕ → List ℕ → Option (List ℕ) → Option (List ℕ)
behind capacity ahead known = cond (capacity == 0) None (option_map (λ bytes. ahead ++ bytes) known)

-- where none were, that is what its reader has
nothing_ahead : (capacity : ℕ) (ahead : List ℕ) (known : Option (List ℕ)) → capacity ≡ 65536 → ahead ≡ [] → behind capacity ahead known ≡ known
nothing_ahead capacity ahead None is none = rw is refl
nothing_ahead capacity ahead (Some bytes) is none = rw (is, none) refl

pub both_behind : (P : Option (List ℕ) → Option (List ℕ) → Type 0) (capacity other_room : ℕ) (ahead other_ahead : List ℕ) (known other : Option (List ℕ)) → capacity ≡ 65536 → ahead ≡ [] → other_room ≡ 65536 → other_ahead ≡ []
    → P (behind capacity ahead known) (behind other_room other_ahead other) → P known other
both_behind P capacity other_room ahead other_ahead known other is none other_is other_none h =
    subst (λ (k : Option (List ℕ)). P k other) (nothing_ahead capacity ahead known is none)
    (subst (λ (k : Option (List ℕ)). P (behind capacity ahead known) k) (nothing_ahead other_room other_ahead other other_is other_none) h)

-- A slim text given again comes out unchanged.
use Rattle.std.proofs.Common.{◌≡◌, List, refl, sym, ap, ◌∙◌, subst}
use Rattle.captures.specs.declared.record.Record.{Record}
use Rattle.captures.specs.declared.version.Version.{Version}
use Rattle.captures.specs.declared.version.Version.TheVariants.{One, Two, Traffic}
use Rattle.captures.specs.Reference.{capture_text, used_once}
use Rattle.captures.specs.Upgrades.{later}
use Rattle.captures.proofs.Agree.{one_list}
use Rattle.arrivals.specs.Reference.{AreArrivals}
use Rattle.arrivals.proofs.ArrivalLaws.{one_list_of_arrivals}
use Rattle.slim.specs.Slims.{slim_text, slimmed}
use Rattle.slim.specs.Laws.{SlimAgain}

later_twice : (to v : Version) → later to (later to v) ≡ later to v
later_twice One v = refl
later_twice Two One = refl
later_twice Two Two = refl
later_twice Two Traffic = refl
later_twice Traffic v = refl

pub unchanged : SlimAgain
unchanged queries to old new again a b =
    let kept = a.kept in
    let slim : List Record = slimmed queries a.records a.arrivals in
    let same = one_list new (later to a.version) b.version a.start b.start slim b.records a.text b.capture in
    let arrived : AreArrivals (used_once slim) b.arrivals = subst (λ (rs : List Record). AreArrivals (used_once rs) b.arrivals) (sym same.2) b.arrived in
    let one : kept.slims ≡ b.arrivals = one_list_of_arrivals (used_once slim) kept.slims b.arrivals kept.arrived arrived in
    b.text.text ∙ sym (λ i. slim_text queries (later to (same.0 i)) (same.1 i) (same.2 i) (one i))
    ∙ ap (λ w. slim_text queries w a.start slim kept.slims) (later_twice to a.version)
    ∙ ap (capture_text (later to a.version) a.start) kept.again ∙ sym a.text.text

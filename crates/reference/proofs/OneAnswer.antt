-- A capture has one answer.
use Rattle.std.proofs.Common.{◌≡◌, ◌∙◌, ℕ, List, ◌++◌, Option, Some, None, true, false, is_some, unwrap_or, [], refl, sym, ap, subst}
use Rattle.std.specs.Io.KnownBytes.{Appends}
use Rattle.captures.proofs.Agree.{one_list}
use Rattle.reference.specs.Reference.{handled, replies_of, replies_text}
use Rattle.reference.specs.Outcomes.{outcome_of}
use Rattle.reference.specs.Laws.{OneAnswer}
use Rattle.reference.proofs.InOrder.{outcome_is}
use Rattle.reference.specs.declared.summary.Outcome.{Outcome}
use Rattle.arrivals.proofs.ArrivalLaws.{one_list_of_arrivals}
use Rattle.arrivals.specs.Reference.{AreArrivals}
use Rattle.captures.specs.Reference.{used_once}

-- known bytes grow by the same text in one way
pub grows_once : (old new other : Option (List ℕ)) (xs ys : List ℕ) → is_some old ≡ true → xs ≡ ys → Appends old new xs → Appends old other ys → new ≡ other
grows_once None new other xs ys known same h g = absurd (let never : false ≡ true = known in cc)
grows_once (Some before) None other xs ys known same h g = absurd h
grows_once (Some before) (Some x) None xs ys known same h g = absurd g
grows_once (Some before) (Some x) (Some y) xs ys known same h g = ap Some (h ∙ (ap (λ w. before ++ w) same ∙ sym g))

pub same_outcome : (a b : Outcome) → a.version ≡ b.version → a.rejected ≡ b.rejected → a.summary ≡ b.summary → a ≡ b
same_outcome a b version rejected summary = rw (version, rejected, summary) refl

pub one_answer : OneAnswer
one_answer files terms input old new other outcome another response known a b =
    let c = a.read.capture in
    let d = b.read.capture in
    let capture = one_list (unwrap_or input []) c.version d.version c.start d.start c.records d.records (c.text response) (d.text response) in
    let arrivals : a.read.arrivals ≡ b.read.arrivals = one_list_of_arrivals (used_once d.records) a.read.arrivals b.read.arrivals (subst (λ rs. AreArrivals (used_once rs) a.read.arrivals) capture.2 a.read.are) b.read.are in
    let text = ap (λ start. replies_text (replies_of files terms start (handled files terms a.read.arrivals))) capture.1 ∙ ap (λ xs. replies_text (replies_of files terms d.start (handled files terms xs))) arrivals in (
      grows_once old new other _ _ known text a.written_exactly b.written_exactly,
      outcome_is a ∙ (ap (outcome_of c.version files terms) arrivals
          ∙ (ap (λ v. outcome_of v files terms b.read.arrivals) capture.0 ∙ sym (outcome_is b))),
    )

use Rattle.std.proofs.Common.{◌≡◌, ◌∙◌, ap, sym, Some, None, nat_eq}
use Rattle.std.specs.Option.{option_map, option_copied}
use Rattle.std.specs.Map.{lookup, keys_of}
use Rattle.std.specs.Arc.{arc_value}
use Rattle.page_cache.specs.CacheLists.{found}
use Rattle.page_cache.proofs.CacheLemmas.{found_is, found_own, there_is}
use Rattle.std.proofs.lemmas.Result.{err_from_is_err_and}
use Rattle.page_cache.proofs.cache.PageCache.find.Goals as goal

pub returns-in_ok-try_clone-in-Some : goal.returns-in_ok-try_clone-in-Some
returns-in_ok-try_clone-in-Some g c =
    let es = c.self.inside.pages.entries in
    let there : lookup (nat_eq c.args.file) es ≡ Some c.in-Some.page.now = sym c.peek.ensures ∙ ap option_copied c.in-Some.is in
    let page : Some (arc_value c.in-Some.page.now) ≡ found c.args.file (keys_of es) = ap (option_map (λ p. arc_value p)) (sym there) ∙ found_is (λ p. arc_value p) c.args.file es c.self.invariant.keyed in
    rw (c.in_ok-try_clone-in-Some.ensures, ← c.self.view_is) record {
      page = page;
      own = found_own (λ p. p) c.args.file (keys_of es) (Some (arc_value c.in-Some.page.now)) page;
      absent = tt;
    }

pub returns-in-None-clause-page : goal.returns-in-None-clause-page
returns-in-None-clause-page g c =
    let es = c.self.inside.pages.entries in
    let there : lookup (nat_eq c.args.file) es ≡ None = sym c.peek.ensures ∙ ap option_copied c.in-None.is in
    rw (← c.self.view_is) (ap (option_map (λ p. arc_value p)) (sym there) ∙ found_is (λ p. arc_value p) c.args.file es c.self.invariant.keyed)

pub returns-in_err-try_clone-in-Some-clause-absent : goal.returns-in_err-try_clone-in-Some-clause-absent
returns-in_err-try_clone-in-Some-clause-absent g c =
    let es = c.self.inside.pages.entries in
    let there : lookup (nat_eq c.args.file) es ≡ Some c.in-Some.page.now = sym c.peek.ensures ∙ ap option_copied c.in-Some.is in
    let stop = err_from_is_err_and c.from_residual.result c.from_residual.ensures.1 in
    rw (← c.self.view_is, stop.1) (there_is c.args.file es c.in-Some.page.now there)

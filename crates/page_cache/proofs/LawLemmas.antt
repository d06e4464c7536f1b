-- What fits of a list is its longest prefix that does.
use Rattle.std.proofs.Common.{◌≡◌, ℕ, ◌-◌, ◌≤◌, nat_le, true, false, zero, suc, List, [], ◌∷◌, length, take, refl, ap, arith, rules, if◌then◌else◌}
use Rattle.std.proofs.lemmas.List.Sums.{sum_by-cons}
use Rattle.paths.specs.declared.file.File.{File}
use Rattle.page_cache.specs.Pages.{page_size}
use Rattle.page_cache.specs.CacheLists.{sizes, fitting}
use Rattle.page_cache.specs.CacheLists.{IsLongest}

-- one more in kept that fits
longer : (files : List File) (capacity x : ℕ) (list kept : List ℕ) → page_size files x ≤ capacity → IsLongest files (capacity - page_size files x) list kept → IsLongest files capacity (x ∷ list) (x ∷ kept)
longer files capacity x list kept inside is = record {
  begins = ap (λ l. x ∷ l) is.begins;
  fits = omega (arith, inside, is.fits, sum_by-cons (page_size files) x kept);
  longest = at;
}
  where
    at : (n : ℕ) → n ≤ length (x ∷ list) → sizes files (take n (x ∷ list)) ≤ capacity → n ≤ length (x ∷ kept)
    at zero within fit = omega arith
    at (suc n) within fit =
        let rest = is.longest n (omega (arith, within)) (omega (arith, fit, sum_by-cons (page_size files) x (take n list))) in
        omega (arith, rest)

-- the first that doesn't
ended : (files : List File) (capacity x : ℕ) (list : List ℕ) → nat_le (page_size files x) capacity ≡ false → IsLongest files capacity (x ∷ list) []
ended files capacity x list outside = record {
  begins = refl;
  fits = omega arith;
  longest = at;
}
  where
    at : (n : ℕ) → n ≤ length (x ∷ list) → sizes files (take n (x ∷ list)) ≤ capacity → n ≤ 0
    at zero within fit = omega arith
    at (suc n) within fit = absurd (search (rules, outside, fit, sum_by-cons (page_size files) x (take n list)))

pub fitting_is_longest : (files : List File) (capacity : ℕ) (list : List ℕ) → IsLongest files capacity list (fitting files capacity list)
unfolding fitting
fitting_is_longest files capacity [] = record {
  begins = refl;
  fits = omega arith;
  longest = λ n within fit. within;
}
fitting_is_longest files capacity (x ∷ list) = (elim (nat_le (page_size files x) capacity) as (λ b. nat_le (page_size files x) capacity ≡ b → IsLongest files capacity (x ∷ list) (if b then x ∷ fitting files (capacity - page_size files x) list else [])) [
  | true ↦ λ t. longer files capacity x list (fitting files (capacity - page_size files x) list) (search rules) (fitting_is_longest files (capacity - page_size files x) list)
  | false ↦ λ t. ended files capacity x list t
]) refl

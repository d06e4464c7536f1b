-- The counts of one more message.
use Rattle.std.proofs.Common.{◌≡◌, ℕ, zero, suc, ◌+◌, ◌<◌, ◌≤◌, ◌==◌, ◌&&◌, Bool, true, false, cond, List, [], ◌∷◌, ◌++◌, length, map, Some, refl, ap, subst, arith}
use Rattle.std.specs.List.{filter, zip, slice_get}
use Rattle.std.specs.Prelude.{if◌then◌else◌}
use Rattle.std.proofs.lemmas.List.Sums.{sum_by_push, count_by-le-length}
use Rattle.std.proofs.lemmas.List.{map-append}
use Rattle.std.proofs.lemmas.List.Elements.{filter-append, All-map}
use Rattle.std.proofs.lemmas.Bool.Decides.{nat_tests}
use Rattle.std.proofs.lemmas.Option.{same_Some}
use lib.ListN.{get_or, set}
use Rattle.responses.specs.Reference.{statuses}
use Rattle.reference.specs.declared.summary.Counts.{Counts}
use Rattle.reference.specs.Reference.{Terms, Handled, status_for, count_of, counts_of, bypassed_of, rejected_of, breaks_a_rule}
use Rattle.arrivals.specs.Reference.{Arrival}
use Rattle.replay.specs.Totals.{one_if, with_status, AreBelow}
use Rattle.paths.specs.declared.file.File.{File}

count_more : (files : List File) (terms : Terms) (messages : List Handled) (h : Handled) (status : ℕ) → count_of files terms (messages ++ h ∷ []) status ≡ count_of files terms messages status + one_if (status_for files terms h) status
count_more files terms messages h status = sum_by_push (λ h. cond (status_for files terms h == status) 1 0) messages h

-- the counts of codes, with one more for this one
abbrev more_for : ℕ → List ℕ → List ℕ → List ℕ
more_for status codes counts = map (λ entry. entry.1 + one_if status entry.0) (zip codes counts)

abbrev counts_with : List ℕ → Counts
counts_with counts = record { by_status = counts }

more_each : (files : List File) (terms : Terms) (messages : List Handled) (h : Handled) (codes : List ℕ)
    → map (count_of files terms (messages ++ h ∷ [])) codes
    ≡ more_for (status_for files terms h) codes (map (count_of files terms messages) codes)
more_each files terms messages h [] = refl
more_each files terms messages h (code ∷ codes) =
    let first = count_more files terms messages h code in
    let rest = more_each files terms messages h codes in
    (λ i. first i ∷ rest i)

pub counts_more : (files : List File) (terms : Terms) (messages : List Handled) (h : Handled)
    → counts_of files terms (messages ++ h ∷ []) ≡ with_status (counts_of files terms messages) (status_for files terms h)
counts_more files terms messages h = ap counts_with (more_each files terms messages h statuses)

-- ---- one more at the place of its code

first_true : (a b : Bool) → (a && b) ≡ true → a ≡ true
first_true true b h = refl
first_true false b h = h

second_true : (a b : Bool) → (a && b) ≡ true → b ≡ true
second_true true b h = h
second_true false b h = cc

is_own : (code : ℕ) → (code == code) ≡ true
is_own code = grind (arith, nat_tests)

-- none of these codes is the status
abbrev is_other : ℕ → List ℕ → Bool
is_other status [] = true
is_other status (code ∷ codes) = if status == code then false else is_other status codes

abbrev are_distinct : List ℕ → Bool
are_distinct [] = true
are_distinct (code ∷ codes) = is_other code codes && are_distinct codes

-- the counts of other codes stay
others_more : (status : ℕ) (codes counts : List ℕ) → is_other status codes ≡ true → length counts ≡ length codes
    → counts ≡ more_for status codes counts
others_more status [] [] h long = refl
others_more status [] (c ∷ counts) h long = cc
others_more status (code ∷ codes) [] h long = cc
others_more status (code ∷ codes) (c ∷ counts) h long =
    go (status == code) refl (λ other. others_more status codes counts other (omega (arith, long)))
  where
    go : (same : Bool) → (status == code) ≡ same → (is_other status codes ≡ true → counts ≡ more_for status codes counts)
        → c ∷ counts ≡ more_for status (code ∷ codes) (c ∷ counts)
    go true e more = let no : false ≡ true = rw e at h in cc
    go false e more =
        let rest = more (rw e at h) in
        let kept : c ≡ c + 0 = omega arith in
        rw e (λ i. kept i ∷ rest i)

is_other_at : (status place code : ℕ) (codes : List ℕ) → is_other code codes ≡ true
    → slice_get codes place ≡ Some status → (status == code) ≡ false
is_other_at status place code [] h at = cc
is_other_at status place code (first ∷ codes) h at =
    go (code == first) refl place at (λ k. is_other_at status k code codes)
  where
    go : (same : Bool) → (code == first) ≡ same → (k : ℕ) → slice_get (first ∷ codes) k ≡ Some status
        → ((k : ℕ) → is_other code codes ≡ true → slice_get codes k ≡ Some status → (status == code) ≡ false)
        → (status == code) ≡ false
    go true e k here more = let no : false ≡ true = rw e at h in cc
    go false e zero here more = let is : first ≡ status = same_Some _ _ here in grind (arith, nat_tests)
    go false e (suc k) here more = more k (rw e at h) here

more_at : (status place : ℕ) (codes counts : List ℕ) → are_distinct codes ≡ true → length counts ≡ length codes
    → slice_get codes place ≡ Some status
    → set counts place (get_or counts place 0 + 1) ≡ more_for status codes counts
more_at status place [] counts h long here = cc
more_at status place (code ∷ codes) [] h long here = cc
more_at status zero (code ∷ codes) (c ∷ counts) h long here =
    let is : code ≡ status = same_Some _ _ here in
    let others = first_true (is_other code codes) (are_distinct codes) h in
    let rest = others_more code codes counts others (omega (arith, long)) in
    subst (λ n. (c + 1) ∷ counts ≡ more_for n (code ∷ codes) (c ∷ counts)) is (rw (is_own code) (λ i. (c + 1) ∷ rest i))
more_at status (suc place) (code ∷ codes) (c ∷ counts) h long here =
    let other = is_other_at status place code codes (first_true (is_other code codes) (are_distinct codes) h) here in
    let distinct = second_true (is_other code codes) (are_distinct codes) h in
    let rest = more_at status place codes counts distinct (omega (arith, long)) here in
    let kept : c ≡ c + 0 = omega arith in
    rw other (λ i. kept i ∷ rest i)

-- a message is counted at the place of its status
pub counted_at : (c : Counts) (status place : ℕ) → length c.by_status ≡ length statuses
    → slice_get statuses place ≡ Some status
    → record { by_status = set c.by_status place (get_or c.by_status place 0 + 1) } ≡ with_status c status
counted_at c status place long here = ap counts_with (more_at status place statuses c.by_status refl long here)

pub bypassed_more : (arrivals : List Arrival) (a : Arrival) → bypassed_of (arrivals ++ a ∷ []) ≡ bypassed_of arrivals + cond (breaks_a_rule a.message.what) 1 0
bypassed_more arrivals a = sum_by_push (λ a. cond (breaks_a_rule a.message.what) 1 0) arrivals a

pub bypassed_few : (arrivals : List Arrival) → bypassed_of arrivals ≤ length arrivals
bypassed_few arrivals = count_by-le-length (λ a. breaks_a_rule a.message.what) arrivals

pub rejected_more : (messages : List Handled) (h : Handled) → rejected_of (messages ++ h ∷ []) ≡ rejected_of messages ++ (if h.turned_away then h.number ∷ [] else [])
rejected_more messages h =
    rw (filter-append (λ h. h.turned_away) messages (h ∷ []), map-append (λ h. h.number) (filter (λ h. h.turned_away) messages) (filter (λ h. h.turned_away) (h ∷ [])))
    (ap (λ xs. rejected_of messages ++ xs) (own h.turned_away refl))
  where
    own : (away : Bool) → h.turned_away ≡ away → map (λ h. h.number) (filter (λ h. h.turned_away) (h ∷ [])) ≡ (if h.turned_away then h.number ∷ [] else [])
    own true e = rw e refl
    own false e = rw e refl

pub counts_below : (files : List File) (terms : Terms) (messages : List Handled) (n : ℕ) → length messages < n
    → AreBelow n (counts_of files terms messages)
counts_below files terms messages n h =
    All-map (λ count. count < n) (count_of files terms messages) statuses
    (λ k d lt.
    (let c = count_by-le-length (λ h. status_for files terms h == get_or statuses k d) messages in omega (arith, c, h)))

-- A path whose bytes stand for themselves and that is a file's name leads to that file.
use Rattle.std.proofs.Common.{◌≡◌, ℕ, zero, suc, ◌+◌, ◌<◌, ◌==◌, ◌&&◌, ◌||◌, not, nat_lt, cond, IfSome, Bool, true, false, List, [], ◌∷◌, ◌++◌, length, take, map, Option, Some, None, refl, sym, ap, ◌∙◌, subst, arith, codes, bytes_eq, slice_index, get_or}
use Rattle.std.specs.List.{list_all, list_any, slice_split, onto_first, before_first, prefix_len, position_or_len}
use Rattle.std.specs.Str.{is_utf8}
use Rattle.std.proofs.lemmas.Str.{is_utf8-from_IsUtf8, IsUtf8-from_ascii}
use Rattle.std.proofs.lemmas.Bool.Decides.{nat_tests}
use Rattle.std.proofs.lemmas.List.{append_assoc, append-nil, take_all}
use Rattle.std.proofs.lemmas.List.Sums.{passes_at_first}
use Rattle.std.proofs.lemmas.Option.{cond_some}
use Rattle.std.proofs.lemmas.Slice.Eq.{bytes_eq-Decides}
use Rattle.std.proofs.lemmas.List.Splits.{join_with_byte-slice_split}
use Rattle.percent_encoding.specs.Percent.{percent_decode}
use Rattle.paths.specs.Reference.{slash, no_file, position_of, is_served, path_of, has_good_escapes, segments_of, is_nameless, is_here, is_up, walked, asked, joined, outcome}
use Rattle.paths.specs.Snapshots.{is_part, is_name, IsFile, IsSnapshot}
use Rattle.paths.specs.Resolution.{is_plain}
use Rattle.paths.specs.Resolution.{IsOutcome}
use Rattle.paths.proofs.Locations.{outcome_is}
use Rattle.paths.specs.declared.resolution.Outcome.TheVariants as outcomes
use Rattle.paths.specs.declared.resolution.Outcome.{Outcome}
use Rattle.paths.specs.declared.file.File.{File}
use Rattle.paths.specs.declared.target.Asked.TheVariants.{Path}
use Rattle.paths.proofs.Plain.{plain_decode}

pub both : (b c : Bool) → (b && c) ≡ true → (b ≡ true) × (c ≡ true)
both true c h = (refl, h)
both false c h = absurd cc

and_true : (b c : Bool) → b ≡ true → c ≡ true → (b && c) ≡ true
and_true b c h k = rw (h, k) refl

or_false : (b c : Bool) → b ≡ false → c ≡ false → (b || c) ≡ false
or_false b c h k = rw (h, k) refl

-- a plain byte that is no slash
abbrev pub is_kept : ℕ → Bool
is_kept b = is_plain b && not (b == slash)

-- where each byte passes q, none passes what q excludes
none_passes : (q r : ℕ → Bool) → ((b : ℕ) → q b ≡ true → r b ≡ false) → (xs : List ℕ) → list_all q xs ≡ true → list_any r xs ≡ false
none_passes q r fails [] h = refl
none_passes q r fails (x ∷ xs) h =
    let parts = both (q x) (list_all q xs) h in
    or_false (r x) (list_any r xs) (fails x parts.0) (none_passes q r fails xs parts.1)

-- ---- the parts of a plain name

onto_kept : (x : ℕ) (parts : List (List ℕ)) → is_kept x ≡ true → list_all (list_all is_kept) parts ≡ true
    → list_all (list_all is_kept) (onto_first x parts) ≡ true
onto_kept x [] h k = rw h refl
onto_kept x (part ∷ parts) h k = rw h k

kept : (x : ℕ) → is_plain x ≡ true → (x == slash) ≡ false → is_kept x ≡ true
kept x h k = rw (h, k) refl

pub parts_kept : (xs : List ℕ) → list_all is_plain xs ≡ true → list_all (list_all is_kept) (slice_split (λ b. b == slash) xs) ≡ true
parts_kept [] h = refl
parts_kept (x ∷ xs) h =
    let own = both (is_plain x) (list_all is_plain xs) h in
    go (x == slash) refl own.0 (parts_kept xs own.1)
  where
    go : (b : Bool) → (x == slash) ≡ b → is_plain x ≡ true → list_all (list_all is_kept) (slice_split (λ b. b == slash) xs) ≡ true
        → list_all (list_all is_kept) (cond b ([] ∷ slice_split (λ b. b == slash) xs) (onto_first x (slice_split (λ b. b == slash) xs))) ≡ true
    go true e own rest = rest
    go false e own rest = onto_kept x (slice_split (λ b. b == slash) xs) (kept x own e) rest

ascii_index : (xs : List ℕ) → list_all is_kept xs ≡ true → (i : ℕ) → slice_index xs i < 128
ascii_index [] h i = omega arith
ascii_index (x ∷ xs) h zero = let t = both (is_kept x) (list_all is_kept xs) h in let u = t.0 in grind (arith, nat_tests, u)
ascii_index (x ∷ xs) h (suc i) = ascii_index xs (both (is_kept x) (list_all is_kept xs) h).1 i

part_utf8 : (part : List ℕ) → list_all is_kept part ≡ true → is_utf8 part ≡ true
part_utf8 part h = is_utf8-from_IsUtf8 part (IsUtf8-from_ascii part (ascii_index part h))

no_separator : (b : ℕ) → is_kept b ≡ true → (b == 0 || b == slash) ≡ false
no_separator b h = grind (arith, nat_tests, h)

no_percent : (b : ℕ) → is_kept b ≡ true → (b == 37) ≡ false
no_percent b h = grind (arith, nat_tests, h)

not_nameless : (part : List ℕ) → list_all is_kept part ≡ true → is_nameless part ≡ false
not_nameless part h =
    or_false (not (is_utf8 part)) (list_any (λ b. b == 0 || b == slash) part) (ap not (part_utf8 part h))
    (none_passes is_kept (λ b. b == 0 || b == slash) no_separator part h)

not_is : (b : Bool) → not b ≡ true → b ≡ false
not_is true h = absurd cc
not_is false h = refl

part_stays : (part : List ℕ) → is_part part ≡ true → (is_here part ≡ false) × (is_up part ≡ false)
part_stays part h =
    let first = both (not (bytes_eq part []) && not (bytes_eq part (codes "."))) (not (bytes_eq part (codes ".."))) h in
    let own = both (not (bytes_eq part [])) (not (bytes_eq part (codes "."))) first.0 in
    (or_false (bytes_eq part []) (bytes_eq part (codes ".")) (not_is _ own.0) (not_is _ own.1), not_is _ first.1)

step_is : (kept_so_far more : List (List ℕ)) (folder : Bool) (part : List ℕ) → is_nameless part ≡ false → is_here part ≡ false → is_up part ≡ false
    → walked kept_so_far folder (part ∷ more) ≡ walked (kept_so_far ++ part ∷ []) false more
step_is kept_so_far more folder part a b c = rw (a, b, c) refl

walk_on : (kept_so_far parts : List (List ℕ)) → list_all (list_all is_kept) parts ≡ true → list_all is_part parts ≡ true
    → walked kept_so_far false parts ≡ Path (kept_so_far ++ parts) false
walk_on kept_so_far [] h k = ap (λ (v : List (List ℕ)). Path v false) (sym (append-nil kept_so_far))
walk_on kept_so_far (part ∷ parts) h k =
    let here = both (list_all is_kept part) (list_all (list_all is_kept) parts) h in
    let good = both (is_part part) (list_all is_part parts) k in
    let stays = part_stays part good.0 in
    step_is kept_so_far parts false part (not_nameless part here.0) stays.0 stays.1
    ∙ walk_on (kept_so_far ++ part ∷ []) parts here.1 good.1
    ∙ ap (λ (v : List (List ℕ)). Path v false) (append_assoc kept_so_far (part ∷ []) parts)

walk_all : (parts : List (List ℕ)) → 0 < length parts → list_all (list_all is_kept) parts ≡ true → list_all is_part parts ≡ true
    → walked [] true parts ≡ Path parts false
walk_all [] some h k = absurd (omega arith)
walk_all (part ∷ parts) some h k =
    let here = both (list_all is_kept part) (list_all (list_all is_kept) parts) h in
    let good = both (is_part part) (list_all is_part parts) k in
    let stays = part_stays part good.0 in
    step_is [] parts true part (not_nameless part here.0) stays.0 stays.1 ∙ walk_on (part ∷ []) parts here.1 good.1

decoded_all : (parts : List (List ℕ)) → list_all (list_all is_kept) parts ≡ true → map percent_decode parts ≡ parts
decoded_all [] h = refl
decoded_all (part ∷ parts) h =
    let here = both (list_all is_kept part) (list_all (list_all is_kept) parts) h in
    let own : percent_decode part ≡ part = plain_decode part (none_passes is_kept (λ b. b == 37) no_percent part here.0) in
    let rest : map percent_decode parts ≡ parts = decoded_all parts here.1 in
    ap (λ (v : List ℕ). v ∷ map percent_decode parts) own ∙ ap (λ (v : List (List ℕ)). part ∷ v) rest

some_parts : (xs : List ℕ) → 0 < length (slice_split (λ b. b == slash) xs)
some_parts [] = omega arith
some_parts (x ∷ xs) = go (x == slash) (slice_split (λ b. b == slash) xs)
  where
    go : (b : Bool) (parts : List (List ℕ)) → 0 < length (cond b ([] ∷ parts) (onto_first x parts))
    go true parts = omega arith
    go false [] = omega arith
    go false (part ∷ parts) = omega arith

-- ---- the path

other_first : (b c : Bool) → (b || c) ≡ false → (b ≡ false) × (c ≡ false)
other_first true c h = absurd cc
other_first false c h = (refl, h)

escapes_good : (xs : List ℕ) → list_any (λ b. b == 37) xs ≡ false → has_good_escapes xs ≡ true
escapes_good [] h = refl
escapes_good (x ∷ xs) h =
    let parts = other_first (x == 37) (list_any (λ b. b == 37) xs) h in
    rw parts.0 (escapes_good xs parts.1)

no_query_len : (xs : List ℕ) → list_any (λ b. b == 63) xs ≡ false → prefix_len (λ b. not (b == 63)) xs ≡ length xs
no_query_len [] h = refl
no_query_len (x ∷ xs) h =
    let parts = other_first (x == 63) (list_any (λ b. b == 63) xs) h in
    rw parts.0 (ap (λ n. 1 + n) (no_query_len xs parts.1) ∙ omega arith)

no_query : (xs : List ℕ) → list_any (λ b. b == 63) xs ≡ false → before_first (λ b. b == 63) xs ≡ xs
no_query xs h = ap (λ k. take k xs) (no_query_len xs h) ∙ take_all (length xs) xs (omega arith)

plain_hash : (b : ℕ) → is_plain b ≡ true → (b == 35) ≡ false
plain_hash b h = grind (arith, nat_tests, h)

plain_percent : (b : ℕ) → is_plain b ≡ true → (b == 37) ≡ false
plain_percent b h = grind (arith, nat_tests, h)

plain_query : (b : ℕ) → is_plain b ≡ true → (b == 63) ≡ false
plain_query b h = grind (arith, nat_tests, h)

path_is : (name : List ℕ) → list_any (λ b. b == 35) (slash ∷ name) ≡ false → list_any (λ b. b == 63) (slash ∷ name) ≡ false
    → path_of (slash ∷ name) ≡ Some (slash ∷ name)
path_is name h k = rw (h, no_query (slash ∷ name) k) refl

-- what is asked for by a plain path that has good parts
pub plain_asked : (method name : List ℕ) → is_served method ≡ true → list_all is_plain (slash ∷ name) ≡ true → is_name name ≡ true
    → asked method (slash ∷ name) ≡ Path (slice_split (λ b. b == slash) name) false
plain_asked method name served plain named =
    let path : path_of (slash ∷ name) ≡ Some (slash ∷ name) =
    path_is name (none_passes is_plain (λ b. b == 35) plain_hash (slash ∷ name) plain) (none_passes is_plain (λ b. b == 63) plain_query (slash ∷ name) plain) in
    let escapes : has_good_escapes (slash ∷ name) ≡ true = escapes_good (slash ∷ name) (none_passes is_plain (λ b. b == 37) plain_percent (slash ∷ name) plain) in
    let parts = slice_split (λ b. b == slash) name in
    let own : list_all (list_all is_kept) parts ≡ true = parts_kept name (both (is_plain slash) (list_all is_plain name) plain).1 in
    let good : list_all is_part parts ≡ true = (both (is_utf8 name && list_all (λ b. not (b == 0)) name) (list_all is_part parts) named).1 in
    let segments : segments_of (slash ∷ name) ≡ parts = decoded_all parts own in
    rw (served, path, escapes, segments) (walk_all parts (some_parts name) own good)

pub plain_joined : (name : List ℕ) → joined (slice_split (λ b. b == slash) name) ≡ name
plain_joined name = join_with_byte-slice_split slash name

-- the name of a file that is there keeps the rules
named_found : (files : List File) (name : List ℕ) (i : ℕ) → IsSnapshot files → position_of files name ≡ Some i → is_name name ≡ true
named_found files name i rules found =
    let p = λ (f : File). bytes_eq f.name name in
    let at = position_or_len p files in
    let first = cond_some (nat_lt at (length files)) _ _ found in
    let within : at < length files = let t = first.0 in grind (arith, nat_tests) in
    let file = get_or files at no_file in
    let same : file.name ≡ name = (bytes_eq-Decides file.name name).0 (passes_at_first p files no_file within) in
    let keeps : IsFile file = rules.each at no_file within in
    ap is_name (sym same) ∙ keeps.name

-- a plain target that is a slash and a file's name
pub plain_outcome : (files : List File) (method name : List ℕ) (i : ℕ) → IsSnapshot files → is_served method ≡ true
    → list_all is_plain (slash ∷ name) ≡ true → position_of files name ≡ Some i
    → outcomes.File i ≡ outcome files (asked method (slash ∷ name))
plain_outcome files method name i rules served plain found =
    let named : is_name name ≡ true = named_found files name i rules found in
    rw (plain_asked method name served plain named, plain_joined name, found) refl

-- a plain target that is looked up as it stands
pub plain_found : (files : List File) (method target name : List ℕ) (r : Option ℕ) → IsSnapshot files → is_served method ≡ true
    → list_all is_plain target ≡ true → target ≡ slash ∷ name → r ≡ position_of files name
    → IfSome r (λ file. outcomes.File file ≡ outcome files (asked method target))
plain_found files method target name None rules served plain is found = tt
plain_found files method target name (Some i) rules served plain is found =
    rw is (plain_outcome files method name i rules served (rw is at plain) (sym found))

-- so it is there
pub plain_within : (files : List File) (method target : List ℕ) (i : ℕ) → outcomes.File i ≡ outcome files (asked method target) → i < length files
plain_within files method target i is = subst (λ (o : Outcome). IsOutcome files o) (sym is) (outcome_is files (asked method target))

pub is_found : (files : List File) (method target : List ℕ) (r : Option ℕ) → IfSome r (λ file. outcomes.File file ≡ outcome files (asked method target))
    → IfSome r (λ file. IsOutcome files (outcomes.File file))
is_found files method target None is = tt
is_found files method target (Some i) is = plain_within files method target i is

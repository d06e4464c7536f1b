-- One line more.
use Rattle.std.proofs.Common.{◌≡◌, ℕ, zero, suc, ◌+◌, ◌-◌, ◌<◌, List, [], ◌∷◌, ◌++◌, length, take, drop, sym, ap, ◌∙◌, refl, min, take_all, arith, rules}
use Rattle.std.proofs.Common.{Bool, true, false, if◌then◌else◌, Option}
use Rattle.std.specs.List.{flat_map, zip}
use Rattle.std.proofs.lemmas.Slice.Zip.{length-zip, get_or-zip}
use Rattle.std.proofs.lemmas.List.{append-nil, flat_map_more, take_more, length-drop}
use Rattle.std.proofs.lemmas.Grind.{flat_map-append}
use Rattle.devices.specs.Devices.{AppendsProperPrefix}
use Rattle.devices.proofs.Appending.{stopped_in}
use Rattle.std.specs.Io.KnownBytes.{Appends}
use lib.ListN.{get_or}
use Rattle.admission.specs.declared.control.Control.{Control}
use Rattle.captures.specs.declared.version.Version.{Version}
use Rattle.captures.specs.Reference.{format_of}
use Rattle.report.specs.Reports.{status_line, numbered_from, numbered_lines, keep_last, listed, left_out}

-- ---- numbered values

numbered-push : {X : Type 0} (k n : ℕ) (xs : List X) (x : X) → n ≡ k + length xs
    → numbered_from k (xs ++ x ∷ []) ≡ numbered_from k xs ++ (n, x) ∷ []
unfolding numbered_from
numbered-push k n [] x h =
    let e : n ≡ k = omega (arith, h) in
    rw e refl
numbered-push k n (y ∷ ys) x h =
    let e : n ≡ k + 1 + length ys = omega (arith, h) in
    ap (λ rest. (k, y) ∷ rest) (numbered-push (k + 1) n ys x e)

numbered-length : {X : Type 0} (k : ℕ) (xs : List X) → length (numbered_from k xs) ≡ length xs
unfolding numbered_from
numbered-length k [] = refl
numbered-length k (x ∷ xs) = ap suc (numbered-length (k + 1) xs)

numbered-drop : {X : Type 0} (k n : ℕ) (xs : List X) → drop n (numbered_from k xs) ≡ numbered_from (k + n) (drop n xs)
unfolding numbered_from
numbered-drop k zero xs =
    let e : k + 0 ≡ k = omega arith in
    rw e refl
numbered-drop k (suc n) [] = refl
numbered-drop k (suc n) (x ∷ xs) =
    let e : k + suc n ≡ k + 1 + n = omega arith in
    rw e (numbered-drop (k + 1) n xs)

pub numbered-none : {X : Type 0} (lines_of : ℕ → X → List ℕ) (k : ℕ) (start : List ℕ)
    → start ≡ start ++ flat_map (numbered_lines lines_of) (numbered_from k [])
unfolding numbered_from
numbered-none lines_of k start = sym (append-nil start)

-- one value more of those that are numbered from k
pub numbered-more : {X : Type 0} (lines_of : ℕ → X → List ℕ) (k n : ℕ) (start s s' : List ℕ) (xs : List X) (i : ℕ)
    (d : X) → i < length xs → n ≡ k + i → s ≡ start ++ flat_map (numbered_lines lines_of) (numbered_from k (take i xs))
    → s' ≡ s ++ lines_of n (get_or xs i d)
    → s' ≡ start ++ flat_map (numbered_lines lines_of) (numbered_from k (take (i + 1) xs))
numbered-more lines_of k n start s s' xs i d h number before now =
    let x = get_or xs i d in
    let e : n ≡ k + length (take i xs) = search (rules, h, number) in
    rw (now, before, take_more xs i d h, numbered-push k n (take i xs) x e)
    (flat_map_more (numbered_lines lines_of) start (numbered_from k (take i xs)) (n, x))

-- ---- the controls that are listed

listed-by : (again : Bool) (controls : List Control)
    → (if again then keep_last 1000 (numbered_from 1 controls) else numbered_from 1 controls)
    ≡ numbered_from ((if again then length controls - 1000 else 0) + 1)
    (drop (if again then length controls - 1000 else 0) controls)
listed-by false controls = refl
listed-by true controls =
    let m = length controls - 1000 in
    let e : 1 + m ≡ m + 1 = omega arith in
    rw (numbered-length 1 controls, ← e) (numbered-drop 1 m controls)

pub listed-is : (version : Version) (controls : List Control) → listed version controls
    ≡ numbered_from (left_out version (length controls) + 1) (drop (left_out version (length controls)) controls)
listed-is version controls = listed-by (format_of version).used_again controls

-- what stands from an index on
pub rest-is : {X : Type 0} (n : ℕ) (xs : List X) → take (length xs - n) (drop n xs) ≡ drop n xs
rest-is n xs = take_all (length xs - n) (drop n xs) (omega (arith, length-drop n xs))

-- the line of a status and its count
abbrev pub line_of : ℕ × ℕ → List ℕ
line_of entry = status_line entry.0 entry.1

-- one pair more of those of a zip, of which n were written
pub status_lines-more : (start s s' codes counts : List ℕ) (n m status count : ℕ)
    → n < length codes → n < length counts → m ≡ n + 1 → status ≡ get_or codes n 0 → count ≡ get_or counts n 0
    → s ≡ start ++ flat_map line_of (take n (zip codes counts)) → s' ≡ s ++ status_line status count
    → s' ≡ start ++ flat_map line_of (take m (zip codes counts))
status_lines-more start s s' codes counts n m status count first second next code-is count-is before now =
    let pairs = zip codes counts in
    let pair : get_or pairs n (0, 0) ≡ (get_or codes n 0, get_or counts n 0) =
    get_or-zip codes counts n (0, 0) first second in
    let own : status_line status count ≡ line_of (get_or pairs n (0, 0)) = rw (code-is, count-is, pair) refl in
    let within : n < length pairs = let long = length-zip codes counts in omega (arith, long, first, second) in
    rw (now, before, own, next, take_more pairs n (0, 0) within)
    (flat_map_more line_of start (take n pairs) (get_or pairs n (0, 0)))

-- all pairs were written
pub status_lines-all : (start s codes counts : List ℕ) (n : ℕ) → n ≡ min (length codes) (length counts)
    → s ≡ start ++ flat_map line_of (take n (zip codes counts)) → s ≡ start ++ flat_map line_of (zip codes counts)
status_lines-all start s codes counts n end before =
    let long : length (zip codes counts) ≡ n = length-zip codes counts ∙ sym end in
    before ∙ ap (λ pairs. start ++ flat_map line_of pairs) (take_all n (zip codes counts) (omega (arith, long)))

-- ---- lines that are written one after another

split_at : {X : Type 0} (xs : List X) (i : ℕ) (d : X) → i < length xs
    → xs ≡ take i xs ++ (get_or xs i d ∷ drop (suc i) xs)
split_at [] i d lt = absurd (omega (arith, lt))
split_at (x ∷ xs) zero d lt = refl
split_at (x ∷ xs) (suc i) d lt = ap (λ ys. x ∷ ys) (split_at xs i d (omega (arith, lt)))

-- a write that stopped in one of the lines, after all before it
pub stopped_among : {X : Type 0} (lines_of : X → List ℕ) (old mid new : Option (List ℕ)) (xs : List X) (i : ℕ) (d : X)
    (text : List ℕ) → i < length xs → text ≡ lines_of (get_or xs i d)
    → Appends old mid (flat_map lines_of (take i xs)) → AppendsProperPrefix mid new text
    → AppendsProperPrefix old new (flat_map lines_of xs)
stopped_among lines_of old mid new xs i d text lt is before stop =
    let rest = flat_map lines_of (drop (suc i) xs) in
    let whole : flat_map lines_of xs ≡ flat_map lines_of (take i xs) ++ (text ++ rest) =
    ap (flat_map lines_of) (split_at xs i d lt)
    ∙ flat_map-append lines_of (take i xs) (get_or xs i d ∷ drop (suc i) xs)
    ∙ ap (λ t. flat_map lines_of (take i xs) ++ (t ++ rest)) (sym is) in
    stopped_in old mid new (flat_map lines_of (take i xs)) text rest (flat_map lines_of xs) whole before stop

-- The order of names, and what a search among names that rise finds.
use Rattle.std.proofs.Common.{◌≡◌, ℕ, ◌+◌, ◌-◌, ◌<◌, ◌≤◌, inl, inr, Bool, true, false, List, [], ◌∷◌, ◌++◌, length, take, drop, get_or, Some, None, Result, Ok, Err, refl, sym, ap, ◌∙◌, subst, nat_eq, arith, bytes_eq}
use mathlib.Core.Bool.{true≢false}
use Rattle.std.specs.List.{list_all, list_any, AllPairs, starts_with, position_or_len}
use Rattle.std.specs.List.Sorted.{IsSearchInRange, IsBinarySearchResult, IsNonDecreasingBy}
use Rattle.std.specs.Ordering.{nat_cmp, ordering_index, is_lt, ordering_reverse}
use Rattle.std.specs.declared.cmp.Ordering.{Ordering}
use Rattle.std.specs.declared.cmp.Ordering.TheVariants.{Less, Equal, Greater}
use Rattle.std.specs.Cmp.Lexicographic.{slice_cmp, same_text}
use Rattle.std.specs.FinMap.{slice_cmp-IsAntisymmetric, nat_cmp-IsAntisymmetric}
use Rattle.std.specs.Bool.{one_answer}
use Rattle.std.proofs.lemmas.Bool.{cases_lt}
use Rattle.std.proofs.lemmas.Bool.Decides.{nat_tests, Decides-eqb}
use Rattle.std.proofs.lemmas.Cmp.{nat_list_cmp_total}
use Rattle.std.proofs.lemmas.List.Sorted.{IsNonDecreasingBy-from_default}
use Rattle.std.proofs.lemmas.List.Sums.{position_or_len_is, list_all-from_AllPass}
use Rattle.std.proofs.lemmas.List.Folds.{list_any_at, list_any_none, list_all_at, Any-from_list_any}
use Rattle.std.proofs.lemmas.List.{get_or_default, append-nil, append_assoc, take_at, take-append-drop, drop_more, length-append, length-take, take-take, get_or-take, get_or_at}
use Rattle.std.proofs.lemmas.Slice.Eq.{starts_is, bytes_eq-Decides}
use Rattle.paths.specs.Reference.{slash, file_of, no_file, lies_in, position_of, has_folder}
use Rattle.paths.specs.declared.file.File.{File}
use Rattle.paths.specs.Snapshots.{HasNoFile, HasNoFileAbove, comes_before, IsPlace}

abbrev pub AreRising : List File → Type 0
AreRising files = AllPairs (λ f g. comes_before f.name g.name ≡ true) files

is_less : (o : Ordering) → is_lt o ≡ true → o ≡ Less
is_less Less h = refl
is_less Equal h = absurd (true≢false (sym h))
is_less Greater h = absurd (true≢false (sym h))

less : (m n : List ℕ) → comes_before m n ≡ true → slice_cmp nat_cmp m n ≡ Less
less m n h = is_less (slice_cmp nat_cmp m n) h

greater : (m n : List ℕ) → comes_before m n ≡ true → slice_cmp nat_cmp n m ≡ Greater
greater m n h = nat_list_cmp_total.antisymm n m ∙ ap ordering_reverse (less m n h)

pub before_trans : (l m n : List ℕ) → comes_before l m ≡ true → comes_before m n ≡ true → comes_before l n ≡ true
before_trans l m n a b = ap is_lt (nat_list_cmp_total.trans l m n (less l m a) (less m n b))

pub not_before_itself : (m : List ℕ) → comes_before m m ≡ true → ⊥
not_before_itself m h = let a = less m m h in let b = greater m m h in absurd cc

pub not_both : (m n : List ℕ) → comes_before m n ≡ true → comes_before n m ≡ true → ⊥
not_both m n a b = not_before_itself m (before_trans m n m a b)

tied : (m n : List ℕ) → slice_cmp nat_cmp m n ≡ Equal → m ≡ n
tied m n h = slice_cmp-IsAntisymmetric nat_cmp-IsAntisymmetric m n h

-- a comparison with a key rises from a name to a later one
rises : (a b key : List ℕ) → comes_before a b ≡ true → ordering_index (slice_cmp nat_cmp a key) ≤ ordering_index (slice_cmp nat_cmp b key)
rises a b key lt = go (slice_cmp nat_cmp a key) refl
  where
    go : (o : Ordering) → slice_cmp nat_cmp a key ≡ o → ordering_index o ≤ ordering_index (slice_cmp nat_cmp b key)
    go Less e = omega arith
    go Equal e = let g : slice_cmp nat_cmp b key ≡ Greater = ap (slice_cmp nat_cmp b) (sym (tied a key e)) ∙ greater a b lt in rw g (omega arith)
    go Greater e =
        let back : slice_cmp nat_cmp key a ≡ Less = nat_list_cmp_total.antisymm key a ∙ ap ordering_reverse e in
        let g : slice_cmp nat_cmp b key ≡ Greater = nat_list_cmp_total.antisymm b key ∙ ap ordering_reverse (nat_list_cmp_total.trans key a b back (less a b lt)) in
        rw g (omega arith)

pub searched : (files : List File) → AreRising files → (key : List ℕ) (r : Result ℕ ℕ) → IsSearchInRange r (length files)
    → IsBinarySearchResult (λ f. slice_cmp nat_cmp f.name key) files r → IsPlace files key r
searched files rising key (Ok at) in_range equal =
    let is = tied (file_of files at).name key (equal no_file) in
    (in_range, is, λ k lt. subst (λ (v : List ℕ). comes_before (file_of files k).name v ≡ true) is (rising k at no_file lt in_range))
searched files rising key (Err at) in_range parted =
    let rise : IsNonDecreasingBy (λ f. ordering_index (slice_cmp nat_cmp f.name key)) files =
    IsNonDecreasingBy-from_default (λ f. ordering_index (slice_cmp nat_cmp f.name key)) files no_file (λ i j le in_range. elim (cases_lt i j) [
      | inl lt ↦ rises (file_of files i).name (file_of files j).name key (rising i j no_file lt in_range)
      | inr ge ↦ let same : i ≡ j = omega arith in rw same (omega arith)
    ]) in (
      in_range,
      λ k lt. ap is_lt ((parted rise).0 k no_file (omega arith) lt),
      λ k le lt. let g : slice_cmp nat_cmp (file_of files k).name key ≡ Greater = (parted rise).1 k no_file le lt in
          ap is_lt (nat_list_cmp_total.antisymm key (file_of files k).name ∙ ap ordering_reverse g),
    )

pub not_true : (b : Bool) → (b ≡ true → ⊥) → b ≡ false
not_true true h = absurd (h refl)
not_true false h = refl

-- a test of equal names
same_name : (m n : List ℕ) → bytes_eq m n ≡ true → m ≡ n
same_name m n h = same_text m n (sym h)

-- the place of a name that is there, and none of one that isn't
pub found_position : (files : List File) (key : List ℕ) (i : ℕ) → IsPlace files key (Ok i) → position_of files key ≡ Some i
found_position files key i place =
    let lt = place.0 in
    let p : File → Bool = λ f. bytes_eq f.name key in
    let first : position_or_len p files ≡ i = position_or_len_is p files i no_file (omega arith)
    (λ k below. not_true _ (λ h. not_before_itself key
    (subst (λ (v : List ℕ). comes_before v key ≡ true) (same_name _ key h) (place.2 k below))))
    (λ _. (bytes_eq-Decides _ key).1 place.1) in
    rw first (grind (arith, nat_tests))

-- the place of a name that some file has
pub named_position : (files : List File) → AreRising files → (key : List ℕ) (i : ℕ) → i < length files
    → (file_of files i).name ≡ key → position_of files key ≡ Some i
named_position files rising key i lt is = found_position files key i
    (lt, is, λ k below. subst (λ (v : List ℕ). comes_before (file_of files k).name v ≡ true) is (rising k i no_file below lt))

pub missing_position : (files : List File) (key : List ℕ) (i : ℕ) → IsPlace files key (Err i) → position_of files key ≡ None
missing_position files key i place =
    let p : File → Bool = λ f. bytes_eq f.name key in
    let first : position_or_len p files ≡ length files = position_or_len_is p files (length files) no_file (omega arith)
    (λ k below. not_true _ (λ h. elim (cases_lt k i) [
      | inl lt ↦ not_before_itself key (subst (λ (v : List ℕ). comes_before v key ≡ true) (same_name _ key h) (place.1 k lt))
      | inr ge ↦ not_before_itself key (subst (λ (v : List ℕ). comes_before key v ≡ true) (same_name _ key h) (place.2 k ge below))
    ]))
    (λ lt. absurd (omega arith)) in
    rw first (grind (arith, nat_tests))

-- all names come before one that the last comes before
pub order_by_last : (files : List File) → AreRising files → (name : List ℕ) → 0 < length files
    → comes_before (file_of files (length files - 1)).name name ≡ list_all (λ f. comes_before f.name name) files
order_by_last files rising name some = go (comes_before (file_of files (length files - 1)).name name) refl
  where
    p : File → Bool
    p f = comes_before f.name name

    go : (b : Bool) → comes_before (file_of files (length files - 1)).name name ≡ b → b ≡ list_all (λ f. comes_before f.name name) files
    go true e = sym (list_all-from_AllPass (λ f. comes_before f.name name) files (λ k d lt.
        let is : get_or files k d ≡ file_of files k = get_or_default files k d no_file lt in
        ap (λ (f : File). comes_before f.name name) is ∙ elim (cases_lt k (length files - 1)) [
          | inl below ↦ before_trans _ _ name (rising k (length files - 1) no_file below (omega arith)) e
          | inr ge ↦ let same : k ≡ length files - 1 = omega arith in rw same e
        ]))
    go false e = sym (list_all_at (λ f. comes_before f.name name) files (length files - 1) no_file (omega arith) e)

-- the name begins with the folder and a slash
lies : (folder name rest : List ℕ) → name ≡ (folder ++ slash ∷ []) ++ rest → lies_in folder name ≡ true
lies folder name rest h = (starts_is Decides-eqb name (folder ++ slash ∷ []) (lies_in folder name) refl).1 rest h

lies_rest : (folder name : List ℕ) → lies_in folder name ≡ true → name ≡ (folder ++ slash ∷ []) ++ drop (length (folder ++ slash ∷ [])) name
lies_rest folder name h = (starts_is Decides-eqb name (folder ++ slash ∷ []) (lies_in folder name) refl).0 h

pub above_found : (files : List File) (name : List ℕ) (k i : ℕ) → k < length name → get_or name k 0 ≡ slash → IsPlace files (take k name) (Ok i)
    → list_any (λ f. lies_in f.name name) files ≡ true
above_found files name k i lt is place = list_any_at (λ f. lies_in f.name name) files i no_file place.0
    (lies (file_of files i).name name (drop (k + 1) name)
    (sym (take-append-drop k name) ∙ ap (λ v. take k name ++ v) (drop_more name k 0 lt ∙ ap (λ b. b ∷ drop (k + 1) name) is)
    ∙ sym (append_assoc (take k name) (slash ∷ []) (drop (k + 1) name)) ∙ ap (λ v. (v ++ slash ∷ []) ++ drop (k + 1) name) (sym place.1)))

pub above_none : (files : List File) (name : List ℕ) → HasNoFileAbove files name (length name)
    → list_any (λ f. lies_in f.name name) files ≡ false
above_none files name none = list_any_none (λ f. lies_in f.name name) files (λ j d lt.
    let is : get_or files j d ≡ file_of files j = get_or_default files j d no_file lt in
    ap (λ (f : File). lies_in f.name name) is ∙ not_true _ (λ h.
    let folder = (file_of files j).name in
    let cut : name ≡ folder ++ slash ∷ drop (length (folder ++ slash ∷ [])) name = lies_rest folder name h ∙ append_assoc folder (slash ∷ []) (drop (length (folder ++ slash ∷ [])) name) in
    none (length folder)
    (omega (arith, ap length cut, length-append folder (slash ∷ drop (length (folder ++ slash ∷ [])) name)))
    (ap (λ v. get_or v (length folder) 0) cut ∙ get_or_at folder slash (drop (length (folder ++ slash ∷ [])) name) 0 (length folder) refl)
    j lt (sym (ap (take (length folder)) cut ∙ take_at folder _ (length folder) refl))))

-- a place that is none has no file of that name
pub no_file_at : (files : List File) (name : List ℕ) (i : ℕ) → IsPlace files name (Err i) → HasNoFile files name
no_file_at files name i place j lt is = elim (cases_lt j i) [
  | inl below ↦ not_before_itself name (subst (λ (v : List ℕ). comes_before v name ≡ true) is (place.1 j below))
  | inr ge ↦ not_before_itself name (subst (λ (v : List ℕ). comes_before name v ≡ true) is (place.2 j ge lt))
]

-- what comes between a key and something that begins with the key begins with it too
pub begins_between : (key m rest : List ℕ) → comes_before key m ≡ true → comes_before m (key ++ rest) ≡ true → (more : List ℕ) × (m ≡ key ++ more)
begins_between [] m rest a b = (m, refl)
begins_between (x ∷ key) [] rest a b = absurd (true≢false (sym a))
begins_between (x ∷ key) (y ∷ m) rest a b = elim (cases_lt x y) [
  | inl lt ↦ absurd (let e : nat_cmp y x ≡ Greater = grind (arith, nat_tests) in true≢false (sym (rw e at b)))
  | inr ge ↦ elim (cases_lt y x) [
    | inl lt ↦ absurd (let e : nat_cmp x y ≡ Greater = grind (arith, nat_tests) in true≢false (sym (rw e at a)))
    | inr le ↦
        let same : x ≡ y = omega arith in
        let ex : nat_cmp x y ≡ Equal = grind (arith, nat_tests) in
        let ey : nat_cmp y x ≡ Equal = grind (arith, nat_tests) in
        let further = begins_between key m rest (rw ex at a) (rw ey at b) in
        (further.0, cc (same, further.1))
  ]
]

longer_not_before : (key rest : List ℕ) → comes_before (key ++ rest) key ≡ true → ⊥
longer_not_before [] [] h = true≢false (sym h)
longer_not_before [] (y ∷ rest) h = true≢false (sym h)
longer_not_before (x ∷ key) rest h = let e : nat_cmp x x ≡ Equal = grind (arith, nat_tests) in longer_not_before key rest (rw e at h)

-- a folder is found at the place of its name and a slash, if anywhere
pub folder_found : (files : List File) (folder : List ℕ) (i : ℕ) → i < length files → lies_in folder (file_of files i).name ≡ true → has_folder files folder ≡ true
folder_found files folder i lt h = list_any_at (λ f. lies_in folder f.name) files i no_file lt h

pub folder_by_place : (files : List File) → AreRising files → (folder : List ℕ) (i : ℕ) → IsPlace files (folder ++ slash ∷ []) (Err i) → i < length files
    → lies_in folder (file_of files i).name ≡ has_folder files folder
folder_by_place files rising folder i place lt = one_answer _ _
    ((λ h. h), (λ h. h)) (
      let P : Bool → Type 0 = λ b. b ≡ true in
          (λ h.
          let any = Any-from_list_any (λ f. lies_in folder f.name) files h in
          let j = any.0 in
          let is : any.1 ≡ file_of files j = sym any.3 ∙ get_or_default files j any.1 no_file any.2 in
          let inside : lies_in folder (file_of files j).name ≡ true = ap (λ (f : File). lies_in folder f.name) (sym is) ∙ any.4 in
          let cut = lies_rest folder (file_of files j).name inside in
          elim (cases_lt j i) [
            | inl below ↦ absurd (longer_not_before (folder ++ slash ∷ []) _ (subst (λ (v : List ℕ). comes_before v (folder ++ slash ∷ []) ≡ true) cut (place.1 j below)))
            | inr ge ↦ elim (cases_lt i j) [
              | inl above ↦
                  let between = begins_between (folder ++ slash ∷ []) (file_of files i).name _ (place.2 i (omega arith) lt)
                  (subst (λ (v : List ℕ). comes_before (file_of files i).name v ≡ true) cut (rising i j no_file above any.2)) in
                  lies folder (file_of files i).name between.0 between.1
              | inr le ↦ let same : i ≡ j = omega arith in rw same inside
            ]
          ]),
      (λ h. folder_found files folder i lt h),
    )

pub no_folder : (files : List File) (folder : List ℕ) (i : ℕ) → IsPlace files (folder ++ slash ∷ []) (Err i) → length files ≤ i → has_folder files folder ≡ false
no_folder files folder i place past = list_any_none (λ f. lies_in folder f.name) files (λ j d lt.
    let is : get_or files j d ≡ file_of files j = get_or_default files j d no_file lt in
    ap (λ (f : File). lies_in folder f.name) is ∙ not_true _ (λ h.
    longer_not_before (folder ++ slash ∷ []) _
    (subst (λ (v : List ℕ). comes_before v (folder ++ slash ∷ []) ≡ true) (lies_rest folder (file_of files j).name h) (place.1 j (omega arith)))))

pub folder_named : (files : List File) (folder key : List ℕ) (i : ℕ) → IsPlace files key (Ok i) → key ≡ folder ++ slash ∷ [] → true ≡ has_folder files folder
folder_named files folder key i place is = sym (folder_found files folder i place.0 (lies folder (file_of files i).name [] (place.1 ∙ (is ∙ sym (append-nil (folder ++ slash ∷ []))))))

pub folder_tested : (files : List File) → AreRising files → (folder key : List ℕ) (i : ℕ) (m : List ℕ) (r : Bool) → IsPlace files key (Err i) → i < length files
    → key ≡ folder ++ slash ∷ [] → m ≡ (file_of files i).name → r ≡ starts_with nat_eq m key → r ≡ has_folder files folder
folder_tested files rising folder key i m r place lt is name tested =
    tested ∙ (ap (λ v. starts_with nat_eq v key) name ∙ (ap (starts_with nat_eq (file_of files i).name) is
    ∙ folder_by_place files rising folder i (subst (λ (v : List ℕ). IsPlace files v (Err i)) is place) lt))

pub folder_missing : (files : List File) (folder key : List ℕ) (i : ℕ) → IsPlace files key (Err i) → length files ≤ i → key ≡ folder ++ slash ∷ [] → has_folder files folder ≡ false
folder_missing files folder key i place past is = no_folder files folder i (subst (λ (v : List ℕ). IsPlace files v (Err i)) is place) past

-- the folders that a name shares with the last one are no files
pub above_shared : (files : List File) (last name : List ℕ) (n : ℕ) → AllPairs (λ f g. lies_in f.name g.name ≡ false) files → 0 < length files
    → last ≡ (file_of files (length files - 1)).name → take n last ≡ take n name → n ≤ length last → n ≤ length name → HasNoFileAbove files name n
above_shared files last name n apart some is_last same in_last in_name k lt is j in_range named =
    let here : get_or last k 0 ≡ slash = sym (get_or-take n last k 0 lt) ∙ (ap (λ v. get_or v k 0) same ∙ (get_or-take n name k 0 lt ∙ is)) in
    let fronts : take k last ≡ take k name = sym (take-take k n last (omega arith)) ∙ (ap (take k) same ∙ take-take k n name (omega arith)) in
    let inside : lies_in (file_of files j).name last ≡ true = lies _ last (drop (k + 1) last)
    (sym (take-append-drop k last) ∙ ap (λ v. take k last ++ v) (drop_more last k 0 (omega arith) ∙ ap (λ b. b ∷ drop (k + 1) last) here)
    ∙ sym (append_assoc (take k last) (slash ∷ []) (drop (k + 1) last)) ∙ ap (λ v. (v ++ slash ∷ []) ++ drop (k + 1) last) (fronts ∙ sym named)) in
    elim (cases_lt j (length files - 1)) [
      | inl below ↦ true≢false (sym inside ∙ (ap (lies_in (file_of files j).name) is_last ∙ apart j (length files - 1) no_file below (omega arith)))
      | inr ge ↦
          let j_is : j ≡ length files - 1 = omega arith in
          let whole : last ≡ take k name = is_last ∙ (ap (λ (i : ℕ). (file_of files i).name) (sym j_is) ∙ named) in
          omega (arith, ap length whole, length-take k name)
    ]

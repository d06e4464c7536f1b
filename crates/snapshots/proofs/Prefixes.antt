-- Names with which a name begins.
use Rattle.std.proofs.Common.{◌≡◌, ℕ, suc, ◌+◌, ◌-◌, ◌<◌, ◌≤◌, ◌&&◌, ◌||◌, inl, inr, Bool, true, false, List, [], ◌∷◌, ◌++◌, length, take, drop, get_or, refl, sym, ap, ◌∙◌, subst, arith, nat_eq, cond, append-nil}
use mathlib.Core.Bool.{true≢false}
use Rattle.std.specs.List.{list_all, list_any, starts_with, filter}
use Rattle.std.proofs.lemmas.Bool.{cases_lt}
use Rattle.std.proofs.lemmas.Bool.Decides.{Decides-eqb}
use Rattle.std.proofs.lemmas.List.{take_at, take_all}
use Rattle.std.proofs.lemmas.List.Folds.{list_any_more}
use Rattle.std.proofs.lemmas.List.Elements.{filter_more}
use Rattle.std.proofs.lemmas.Slice.Eq.{starts_is}
use Rattle.paths.specs.Reference.{slash, file_of, no_file, lies_in}
use Rattle.paths.specs.declared.file.File.{File}
use Rattle.paths.specs.Snapshots.{comes_before, IsSnapshot}
use Rattle.paths.proofs.Names.{not_true, order_by_last, begins_between}
use Rattle.snapshots.specs.Keeping.{last_name, lengths_within}

and_assoc : (a b c : Bool) → (a && (b && c)) ≡ ((a && b) && c)
and_assoc true b c = refl
and_assoc false b c = refl

-- a name lies in a folder where it begins with the folder's, and a slash comes next
pub lies_split : (folder name : List ℕ) → lies_in folder name ≡ (starts_with nat_eq name folder && starts_with nat_eq (drop (length folder) name) (slash ∷ []))
lies_split [] name = refl
lies_split (x ∷ folder) [] = refl
lies_split (x ∷ folder) (y ∷ name) = ap (λ b. nat_eq x y && b) (lies_split folder name) ∙ and_assoc (nat_eq x y) (starts_with nat_eq name folder) (starts_with nat_eq (drop (length folder) name) (slash ∷ []))

both_first : (a b : Bool) → (a && b) ≡ true → a ≡ true
both_first true b h = refl
both_first false b h = h

lies_begins : (folder name : List ℕ) → lies_in folder name ≡ true → starts_with nat_eq name folder ≡ true
lies_begins folder name h = both_first _ _ (sym (lies_split folder name) ∙ h)

pub begins : (key rest name : List ℕ) → name ≡ key ++ rest → starts_with nat_eq name key ≡ true
begins key rest name h = (starts_is Decides-eqb name key (starts_with nat_eq name key) refl).1 rest h

pub begins_itself : (name : List ℕ) → starts_with nat_eq name name ≡ true
begins_itself name = begins name [] name (sym (append-nil name))

begins_rest : (key name : List ℕ) → starts_with nat_eq name key ≡ true → name ≡ key ++ drop (length key) name
begins_rest key name h = (starts_is Decides-eqb name key (starts_with nat_eq name key) refl).0 h

-- the prefix of that length is the name
front_is : (key name : List ℕ) → starts_with nat_eq name key ≡ true → take (length key) name ≡ key
front_is key name h = ap (take (length key)) (begins_rest key name h) ∙ take_at key (drop (length key) name) (length key) refl

-- with a name that the last one doesn't begin with, no later name begins
abbrev pub Passes : List ℕ → List ℕ → List File → Type 0
Passes last name files = (i : ℕ) → i < length files → starts_with nat_eq last (file_of files i).name ≡ false → starts_with nat_eq name (file_of files i).name ≡ false

pub passes : (files : List File) (name : List ℕ) → IsSnapshot files → list_all (λ g. comes_before g.name name) files ≡ true → Passes (last_name files) name files
passes files name rules order i lt none = not_true _ (λ yes.
    let key = (file_of files i).name in
    let last = last_name files in
    elim (cases_lt i (length files - 1)) [
      | inl below ↦
          let after : comes_before last name ≡ true = order_by_last files rules.rising name (omega arith) ∙ order in
          let between = begins_between key last (drop (length key) name) (rules.rising i (length files - 1) no_file below (omega arith))
          (subst (λ (v : List ℕ). comes_before last v ≡ true) (begins_rest key name yes) after) in
          true≢false (sym (begins key between.0 last between.1) ∙ none)
      | inr ge ↦
          let same : i ≡ length files - 1 = omega arith in
          true≢false (sym (begins_itself last) ∙ (ap (λ j. starts_with nat_eq last (file_of files j).name) (sym same) ∙ none))
    ])

-- so it is enough to look at the names with which the last one begins
pub any_within : (last name : List ℕ) (files : List File) → Passes last name files
    → list_any (λ len. lies_in (take len last) name) (lengths_within files last) ≡ list_any (λ f. lies_in f.name name) files
any_within last name [] h = refl
any_within last name (f ∷ files) h = go (any_within last name files (λ i lt. h (suc i) (omega arith))) (starts_with nat_eq last f.name) refl
  where
    go : list_any (λ len. lies_in (take len last) name) (lengths_within files last) ≡ list_any (λ g. lies_in g.name name) files
        → (b : Bool) → starts_with nat_eq last f.name ≡ b → list_any (λ len. lies_in (take len last) name) (lengths_within (f ∷ files) last) ≡ list_any (λ g. lies_in g.name name) (f ∷ files)
    go further true e = rw (e, further) (ap (λ v. lies_in v name || list_any (λ g. lies_in g.name name) files) (front_is f.name last e))
    go further false e =
        let outside : lies_in f.name name ≡ false = not_true _ (λ inside. true≢false (sym (lies_begins f.name name inside) ∙ h 0 (omega arith) e)) in
        rw (e, further, outside) refl

pub filter_within : (last name : List ℕ) (files : List File) → Passes last name files
    → filter (λ len. starts_with nat_eq name (take len last)) (lengths_within files last) ≡ lengths_within files name
filter_within last name [] h = refl
filter_within last name (f ∷ files) h = go (filter_within last name files (λ i lt. h (suc i) (omega arith))) (starts_with nat_eq last f.name) refl
  where
    pick : filter (λ len. starts_with nat_eq name (take len last)) (lengths_within files last) ≡ lengths_within files name
        → (b : Bool) → starts_with nat_eq last f.name ≡ true → starts_with nat_eq name f.name ≡ b
        → filter (λ len. starts_with nat_eq name (take len last)) (length f.name ∷ lengths_within files last) ≡ lengths_within (f ∷ files) name
    pick further true e k = rw (front_is f.name last e, k, further) refl
    pick further false e k = rw (front_is f.name last e, k, further) refl

    go : filter (λ len. starts_with nat_eq name (take len last)) (lengths_within files last) ≡ lengths_within files name
        → (b : Bool) → starts_with nat_eq last f.name ≡ b → filter (λ len. starts_with nat_eq name (take len last)) (lengths_within (f ∷ files) last) ≡ lengths_within (f ∷ files) name
    go further true e = rw e (pick further (starts_with nat_eq name f.name) e refl)
    go further false e = rw (e, h 0 (omega arith) e, further) refl

-- ---- steps of loops

pub none_more : (p : ℕ → Bool) (xs : List ℕ) (i : ℕ) → i < length xs → list_any p (take i xs) ≡ false → p (get_or xs i 0) ≡ false → list_any p (take (i + 1) xs) ≡ false
none_more p xs i lt before here = list_any_more p xs i 0 lt ∙ rw (before, here) refl

pub none_at_all : (p : ℕ → Bool) (xs ys : List ℕ) (i : ℕ) → xs ≡ ys → length xs ≤ i → list_any p (take i xs) ≡ false → false ≡ list_any p ys
none_at_all p xs ys i same le h = sym h ∙ ap (list_any p) (take_all i xs le ∙ same)

pub picked_more : (p : ℕ → Bool) (xs old new : List ℕ) (i : ℕ) (wanted : Bool) → i < length xs → old ≡ filter p (take i xs) → wanted ≡ p (get_or xs i 0)
    → new ≡ old ++ cond wanted (get_or xs i 0 ∷ []) [] → new ≡ filter p (take (i + 1) xs)
picked_more p xs old new i wanted lt before same h =
    h ∙ (ap (λ v. v ++ cond wanted (get_or xs i 0 ∷ []) []) before
    ∙ (ap (λ b. filter p (take i xs) ++ cond b (get_or xs i 0 ∷ []) []) same ∙ sym (filter_more p xs i 0 lt)))

pub picked_all : (p : ℕ → Bool) (xs ys old new : List ℕ) (i n : ℕ) → xs ≡ ys → length xs ≤ i → old ≡ filter p (take i xs) → new ≡ old ++ n ∷ [] → new ≡ filter p ys ++ n ∷ []
picked_all p xs ys old new i n same le before h = h ∙ ap (λ v. v ++ n ∷ []) (before ∙ ap (filter p) (take_all i xs le ∙ same))

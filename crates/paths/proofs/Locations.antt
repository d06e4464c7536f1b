-- What an outcome tells: a file that is there, or a location of visible characters.
use Rattle.std.proofs.Common.{◌≡◌, ℕ, ◌<◌, ◌%◌, ◌/◌, ◌&&◌, Bool, true, false, List, [], ◌∷◌, ◌++◌, length, flat_map, Option, Some, None, refl, ◌∙◌, arith, nat_lt}
use Rattle.std.proofs.lemmas.Grind.{common_steps}
use Rattle.std.specs.Prelude.{codes, Result, Ok, Err, IfOk}
use Rattle.paths.specs.Reference.{slash, is_unreserved, location_byte, location, joined, outcome, file_or_folder, position_of, has_folder}
use Rattle.paths.specs.declared.resolution.Outcome.{Outcome}
use Rattle.std.specs.List.{list_all, position, position_or_len}
use Rattle.std.specs.Char.{is_ascii_graphic}
use Rattle.std.specs.Fmt.{digit_glyph}
use Rattle.std.proofs.lemmas.List.Folds.{list_all-append}
use Rattle.percent_encoding.specs.Percent.{percent_encode_byte}
use Rattle.paths.specs.Resolution.{IsOutcome}
use Rattle.paths.specs.declared.file.File.{File}
use Rattle.paths.specs.declared.target.Asked.{Asked}
use Rattle.paths.specs.declared.target.Asked.TheVariants as askeds

both : (a b : Bool) → a ≡ true → b ≡ true → (a && b) ≡ true
both true b h k = k
both false b h k = h

all_append : (xs ys : List ℕ) → list_all is_ascii_graphic xs ≡ true → list_all is_ascii_graphic ys ≡ true → list_all is_ascii_graphic (xs ++ ys) ≡ true
all_append xs ys h k = list_all-append is_ascii_graphic xs ys ∙ both (list_all is_ascii_graphic xs) (list_all is_ascii_graphic ys) h k

glyph_visible : (n : ℕ) → n < 16 → is_ascii_graphic (digit_glyph true n) ≡ true
glyph_visible n h = grind (arith, common_steps, h)

kept_visible : (b : ℕ) → is_unreserved b ≡ true → is_ascii_graphic b ≡ true
kept_visible b h = grind (arith, common_steps, h)

encoded_visible : (b : ℕ) → list_all is_ascii_graphic (percent_encode_byte b) ≡ true
unfolding percent_encode_byte
encoded_visible b =
    both (is_ascii_graphic (digit_glyph true (b / 16 % 16))) (is_ascii_graphic (digit_glyph true (b % 16)) && true)
    (glyph_visible (b / 16 % 16) (omega arith))
    (both (is_ascii_graphic (digit_glyph true (b % 16))) true (glyph_visible (b % 16) (omega arith)) refl)

byte_visible : (b : ℕ) → list_all is_ascii_graphic (location_byte b) ≡ true
byte_visible b = go (is_unreserved b) refl
  where
    go : (kept : Bool) → is_unreserved b ≡ kept → list_all is_ascii_graphic (location_byte b) ≡ true
    go true h = rw h (both (is_ascii_graphic b) true (kept_visible b h) refl)
    go false h = rw h (encoded_visible b)

bytes_visible : (bytes : List ℕ) → list_all is_ascii_graphic (flat_map location_byte bytes) ≡ true
bytes_visible [] = refl
bytes_visible (b ∷ bytes) = all_append (location_byte b) (flat_map location_byte bytes) (byte_visible b) (bytes_visible bytes)

segments_visible : (segments : List (List ℕ)) → list_all is_ascii_graphic (flat_map (λ s. slash ∷ flat_map location_byte s) segments) ≡ true
segments_visible [] = refl
segments_visible (s ∷ segments) = all_append (slash ∷ flat_map location_byte s) (flat_map (λ s. slash ∷ flat_map location_byte s) segments) (bytes_visible s) (segments_visible segments)

-- a location is visible characters alone
pub location_visible : (segments : List (List ℕ)) → list_all is_ascii_graphic (location segments) ≡ true
location_visible segments = all_append (flat_map (λ s. slash ∷ flat_map location_byte s) segments) (slash ∷ []) (segments_visible segments) refl

file_there : {X : Type 0} (p : X → Bool) (xs : List X) (i : ℕ) → position p xs ≡ Some i → i < length xs
file_there p xs i h = go (nat_lt (position_or_len p xs) (length xs)) refl
  where
    go : (b : Bool) → nat_lt (position_or_len p xs) (length xs) ≡ b → i < length xs
    go true e = let same : Some (position_or_len p xs) ≡ Some i = rw e at h in grind (arith, common_steps, e, same)
    go false e = absurd (let none : None ≡ Some i = rw e at h in cc)

file_or_missing_is : (files : List File) (found : Option ℕ) → ((i : ℕ) → found ≡ Some i → i < length files) → IsOutcome files (file_or_folder found false [])
file_or_missing_is files (Some i) h = h i refl
file_or_missing_is files None h = tt

file_or_folder_is : (files : List File) (found : Option ℕ) (folder : Bool) (segments : List (List ℕ)) → ((i : ℕ) → found ≡ Some i → i < length files)
    → IsOutcome files (file_or_folder found folder (location segments))
file_or_folder_is files (Some i) folder segments h = h i refl
file_or_folder_is files None true segments h = location_visible segments
file_or_folder_is files None false segments h = tt

-- an outcome names a file that is there, or a location of visible characters
pub outcome_is : (files : List File) (asked : Asked) → IsOutcome files (outcome files asked)
outcome_is files (askeds.Path segments true) = file_or_missing_is files (position_of files (joined (segments ++ codes "index.html" ∷ []))) (λ i h. file_there _ files i h)
outcome_is files (askeds.Path segments false) = file_or_folder_is files (position_of files (joined segments)) (has_folder files (joined segments)) segments (λ i h. file_there _ files i h)
outcome_is files askeds.Missing = tt
outcome_is files askeds.BadTarget = tt
outcome_is files askeds.NotAllowed = tt
outcome_is files askeds.NotKnown = tt

pub outcome_of : {E : Type 0} (files : List File) (asked : Asked) (r : Result Outcome E) → IfOk r (λ o. o ≡ outcome files asked) → IfOk r (IsOutcome files)
outcome_of files asked (Ok o) h = rw h (outcome_is files asked)
outcome_of files asked (Err e) h = tt

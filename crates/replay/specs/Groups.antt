-- The replies to messages that were decided on, a group of them at a time.
use Rattle.std.specs.Prelude.{◌≡◌, ◌≤◌, ◌<◌, ◌+◌, ◌⊎◌, ℕ, List, [], ◌∷◌, ◌++◌, length, Bool, true, false}
use Rattle.std.specs.Prelude.{map, flat_map, sum_by, filter, nat_lt, nat_le, if◌then◌else◌, Option, Some, None}
use Rattle.paths.specs.declared.file.File.{File}
use Rattle.paths.specs.Reference.{file_of}
use Rattle.responses.specs.Reference.{record_text}
use Rattle.replay.specs.Backs.{slip_of_pending, reply_to}
use Rattle.replay.specs.declared.pending.PendingReply.{PendingReply}
use Rattle.replay.specs.declared.pending.PendingAnswer.{PendingAnswer}
use Rattle.replay.specs.declared.pending.PendingAnswer.TheVariants.{Page, Ready}

-- the items of these groups, in order
abbrev pub all_of : {A : Type 0} → List (List A) → List A
all_of groups = flat_map (λ group. group) groups

-- the records of these pending replies
abbrev pub records_of : {X : Type 0} → List File → List (PendingReply X) → List ℕ
records_of files pending_replies = flat_map record_text (map (λ t. reply_to files (slip_of_pending t)) pending_replies)

-- the bytes of the file that a reply waits for the page of
abbrev pub answer_len : {X : Type 0} → List File → PendingAnswer X → ℕ
answer_len files (Page file mtime) = length (file_of files file).bytes
answer_len files (Ready response) = 0

abbrev pub page_len : {X : Type 0} → List File → PendingReply X → ℕ
page_len files pending = answer_len files pending.answer

-- How many bytes of pages the replies of a group may hold: any number where the cache has capacity for the pages of all
-- files, with 256 bytes for the fields of each; else 32 MiB.
abbrev pub page_capacity : List File → ℕ → Option ℕ
page_capacity files cache =
    if nat_le (sum_by (λ file. length file.bytes + 256) files) cache then None else (Some 33554432)

-- the pages of a group fit, or are one page alone
abbrev pub Fits : {A : Type 0} → (A → ℕ) → ℕ → List A → Type 0
Fits len capacity group = (sum_by len group ≤ capacity) ⊎ (length (filter (λ x. nat_lt 0 (len x)) group) ≤ 1)

-- of the first of a group
abbrev pub first_len : {A : Type 0} → (A → ℕ) → List A → ℕ
first_len len [] = 0
first_len len (x ∷ group) = len x

-- Each group fits, and one ends only where the next page doesn't fit beside those before it.
abbrev pub AreGroups : {A : Type 0} → (A → ℕ) → ℕ → List (List A) → Type 0
AreGroups len capacity [] = ⊥
AreGroups len capacity (group ∷ []) = Fits len capacity group
AreGroups len capacity (group ∷ next ∷ groups) =
    Fits len capacity group × (capacity < sum_by len group + first_len len next)
    × AreGroups len capacity (next ∷ groups)

-- with a capacity for any number of bytes there is one group
abbrev pub AreGroupsFor : {A : Type 0} → (A → ℕ) → Option ℕ → List (List A) → Type 0
AreGroupsFor len None groups = length groups ≡ 1
AreGroupsFor len (Some capacity) groups = AreGroups len capacity groups

-- a group that is full was put after the others, and nothing is left of it; else it is what is left, with what it holds
abbrev pub Lays : {A : Type 0} → Bool → List (List A) → List A → ℕ → List (List A) → List A → ℕ → Type 0
Lays true groups group held laid left left_held = (laid ≡ groups ++ group ∷ []) × (left ≡ []) × (left_held ≡ 0)
Lays false groups group held laid left left_held = (laid ≡ groups) × (left ≡ group) × (left_held ≡ held)

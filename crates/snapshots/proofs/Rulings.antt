-- The first rule that a file breaks: found by what is kept, and none where the files keep the rules.
use Rattle.std.proofs.Common.{◌≡◌, ℕ, ◌+◌, ◌-◌, ◌^◌, ◌<◌, ◌≤◌, ◌==◌, ◌&&◌, not, inl, inr, min, cond, nat_lt, nat_le, Bool, true, false, List, [], ◌∷◌, ◌++◌, length, take, Option, Some, None, refl, sym, ap, ◌∙◌, arith, decimal}
use mathlib.Core.Bool.{true≢false}
use Rattle.std.specs.List.{list_all, list_any}
use Rattle.std.proofs.lemmas.Bool.{cases_lt, ne_eqb}
use Rattle.std.proofs.lemmas.Bool.Decides.{nat_tests}
use Rattle.std.proofs.lemmas.Fmt.{length-decimal-le}
use Rattle.paths.specs.declared.file.File.{File}
use Rattle.paths.specs.Reference.{lies_in}
use Rattle.paths.specs.Snapshots.{max_time, max_file_bytes, max_files, max_name_bytes, max_text_bytes, is_name, comes_before, file_text, text_before_end, snapshot_text, IsFile, IsSnapshot, IsSnapshotText, Follows}
use Rattle.paths.proofs.Names.{order_by_last}
use Rattle.devices.proofs.Again.{pass}
use Rattle.paths.proofs.NoFault.{follows_prefix}
use Rattle.paths.proofs.FilesOrFault.{rules_more}
use Rattle.snapshots.specs.declared.so_far.FilesSoFar.{FilesSoFar}
use Rattle.snapshots.specs.Keeping.{is_good_name, broken_rule, last_name, IsSoFar, broken_by, more}
use Rattle.snapshots.proofs.Prefixes.{passes, any_within}
use Rattle.snapshots.proofs.Keeps.{whole_size}

-- a choice by the same test, where the rest is the same if the test fails
choose : {A : Type 0} (b c : Bool) (x y z : A) → b ≡ c → (c ≡ false → y ≡ z) → cond b x y ≡ cond c x z
choose b true x y z e h = ap (λ v. cond v x y) e
choose b false x y z e h = ap (λ v. cond v x y) e ∙ h refl

un_not : (b : Bool) → not b ≡ false → b ≡ true
un_not true h = refl
un_not false h = absurd (true≢false h)

all_three : (a b c : Bool) → (not a && b && c) ≡ true → (a ≡ false) × (b ≡ true) × (c ≡ true)
all_three true b c h = absurd (true≢false (sym h))
all_three false false c h = absurd (true≢false (sym h))
all_three false true c h = (refl, refl, h)

some_length : (n : ℕ) → (n == 0) ≡ false → 0 < n
some_length n h = grind (arith, nat_tests)

good : (name : List ℕ) → not (is_good_name name) ≡ false → (0 < length name) × (length name ≤ max_name_bytes) × (is_name name ≡ true)
good name h =
    let is = all_three (length name == 0) (nat_le (length name) max_name_bytes) (is_name name) (un_not _ h) in
    let short : length name ≤ max_name_bytes = let t = is.1 in grind (arith, nat_tests) in
    (some_length (length name) is.0, short, is.2)

order_is : (files : List File) (name : List ℕ) → IsSnapshot files → 0 < length name → comes_before (last_name files) name ≡ list_all (λ g. comes_before g.name name) files
order_is [] [] rules some = absurd (omega arith)
order_is [] (x ∷ name) rules some = refl
order_is (f ∷ files) name rules some = order_by_last (f ∷ files) rules.rising name (omega arith)

above_is : (files : List File) (f : File) (s : FilesSoFar) → IsSnapshot files → IsSoFar files s → list_all (λ g. comes_before g.name f.name) files ≡ true
    → list_any (λ len. lies_in (take len s.names.last.items) f.name) s.names.lengths.items ≡ list_any (λ g. lies_in g.name f.name) files
above_is files f s rules kept order =
    ap (λ (v : List ℕ). list_any (λ len. lies_in (take len v) f.name) s.names.lengths.items) kept.last
    ∙ (ap (list_any (λ len. lies_in (take len (last_name files)) f.name)) kept.lengths
    ∙ any_within (last_name files) f.name files (passes files f.name rules order))

limit : (a b d n : ℕ) → d ≤ 5 → n ≡ (a + b) + (5 + d) → nat_lt (max_text_bytes - (5 + d)) (min (a + b) (2 ^ 64 - 1)) ≡ nat_lt max_text_bytes n
limit a b d n short is = elim (cases_lt max_text_bytes n) [
  | inl lt ↦
      let over : nat_lt max_text_bytes n ≡ true = grind (arith, nat_tests) in
      let past : max_text_bytes - (5 + d) < min (a + b) (2 ^ 64 - 1) = omega arith in
      let tested : nat_lt (max_text_bytes - (5 + d)) (min (a + b) (2 ^ 64 - 1)) ≡ true = grind (arith, nat_tests) in
      tested ∙ sym over
  | inr ge ↦
      let over : nat_lt max_text_bytes n ≡ false = grind (arith, nat_tests) in
      let past : min (a + b) (2 ^ 64 - 1) ≤ max_text_bytes - (5 + d) = omega arith in
      let tested : nat_lt (max_text_bytes - (5 + d)) (min (a + b) (2 ^ 64 - 1)) ≡ false = grind (arith, nat_tests) in
      tested ∙ sym over
]

size_is : (files : List File) (f : File) (s : FilesSoFar) → IsSoFar files s → nat_le max_files (length files) ≡ false
    → nat_lt (max_text_bytes - (5 + length (decimal (s.count + 1)))) (more s.size (length (file_text f))) ≡ nat_lt max_text_bytes (length (snapshot_text (files ++ f ∷ [])))
size_is files f s kept few =
    let capacity : length files < max_files = grind (arith, nat_tests) in
    let short : length (decimal (length files + 1)) ≤ 5 = length-decimal-le 5 (length files + 1) (omega arith) (omega arith) (omega arith) in
    ap (λ (n : ℕ). nat_lt (max_text_bytes - (5 + length (decimal (n + 1)))) (more s.size (length (file_text f)))) kept.count
    ∙ (ap (λ (n : ℕ). nat_lt (max_text_bytes - (5 + length (decimal (length files + 1)))) (more n (length (file_text f)))) kept.size
    ∙ limit (length (text_before_end files)) (length (file_text f)) (length (decimal (length files + 1))) (length (snapshot_text (files ++ f ∷ []))) short (whole_size files f))

pub rule_is : (files : List File) (f : File) (s : FilesSoFar) → IsSnapshot files → IsSoFar files s → broken_by s f ≡ broken_rule files f
unfolding broken_by broken_rule
rule_is files f s rules kept =
    let time = nat_lt max_time f.mtime in
    let size = nat_lt max_file_bytes (length f.bytes) in
    let named = not (is_good_name f.name) in
    choose time time _ _ _ refl (λ _. choose size size _ _ _ refl (λ _.
    choose (nat_le max_files s.count) (nat_le max_files (length files)) _ _ _ (ap (nat_le max_files) kept.count) (λ few. choose named named _ _ _ refl (λ name.
    choose (not (comes_before s.names.last.items f.name)) (not (list_all (λ g. comes_before g.name f.name) files)) _ _ _
    (ap not (ap (λ (v : List ℕ). comes_before v f.name) kept.last ∙ order_is files f.name rules (good f.name name).0)) (λ order.
    choose (list_any (λ len. lies_in (take len s.names.last.items) f.name) s.names.lengths.items) (list_any (λ g. lies_in g.name f.name) files) _ _ _
    (above_is files f s rules kept (un_not _ order)) (λ apart.
    choose (nat_lt (max_text_bytes - (5 + length (decimal (s.count + 1)))) (more s.size (length (file_text f)))) (nat_lt max_text_bytes (length (snapshot_text (files ++ f ∷ [])))) _ _ _
    (size_is files f s kept few) (λ _. refl)))))))

-- ---- no rule is broken where the files keep the rules, and only there

past : {A : Type 0} (b : Bool) (x : A) (y : Option A) → cond b (Some x) y ≡ None → (b ≡ false) × (y ≡ None)
past true x y h = absurd cc
past false x y h = (refl, h)

pub record Fits (files : List File) (f : File) : Type 0 where
  pub follows : Follows files f
  pub size : length (snapshot_text (files ++ f ∷ [])) ≤ max_text_bytes

pub none_broken : (files : List File) (f : File) → broken_rule files f ≡ None → Fits files f
unfolding broken_rule
none_broken files f h =
    let time = past (nat_lt max_time f.mtime) _ _ h in
    let bytes = past (nat_lt max_file_bytes (length f.bytes)) _ _ time.1 in
    let few = past (nat_le max_files (length files)) _ _ bytes.1 in
    let name = past (not (is_good_name f.name)) _ _ few.1 in
    let order = past (not (list_all (λ g. comes_before g.name f.name) files)) _ _ name.1 in
    let apart = past (list_any (λ g. lies_in g.name f.name) files) _ _ order.1 in
    let text = past (nat_lt max_text_bytes (length (snapshot_text (files ++ f ∷ [])))) _ _ apart.1 in
    let named = good f.name name.0 in
    let in_time : f.mtime ≤ max_time = let t = time.0 in grind (arith, nat_tests) in
    let small : length f.bytes ≤ max_file_bytes = let t = bytes.0 in grind (arith, nat_tests) in
    let capacity : length files < max_files = let t = few.0 in grind (arith, nat_tests) in
    let within : length (snapshot_text (files ++ f ∷ [])) ≤ max_text_bytes = let t = text.0 in grind (arith, nat_tests) in
    let is : IsFile f = record { mtime = in_time; some = named.0; short = named.1; name = named.2; bytes = small } in
    record { follows = record { capacity = capacity; file = is; order = un_not _ order.0; apart = apart.0 }; size = within }

negated : (b : Bool) → b ≡ true → not b ≡ false
negated true h = refl
negated false h = absurd (true≢false (sym h))

good_again : (name : List ℕ) → 0 < length name → length name ≤ max_name_bytes → is_name name ≡ true → not (is_good_name name) ≡ false
good_again name some short is =
    let there : (length name == 0) ≡ false = ne_eqb (length name) 0 (λ e. omega (arith, e)) in
    let within : nat_le (length name) max_name_bytes ≡ true = grind (arith, nat_tests) in
    rw (there, within, is) refl

pub breaks_none : (files : List File) (f : File) → Fits files f → broken_rule files f ≡ None
unfolding broken_rule
breaks_none files f h =
    let is = h.follows.file in
    let time : nat_lt max_time f.mtime ≡ false = let t = is.mtime in grind (arith, nat_tests) in
    let bytes : nat_lt max_file_bytes (length f.bytes) ≡ false = let t = is.bytes in grind (arith, nat_tests) in
    let few : nat_le max_files (length files) ≡ false = let t = h.follows.capacity in grind (arith, nat_tests) in
    let text : nat_lt max_text_bytes (length (snapshot_text (files ++ f ∷ []))) ≡ false = let t = h.size in grind (arith, nat_tests) in
    pass _ _ _ time ∙ (pass _ _ _ bytes ∙ (pass _ _ _ few ∙ (pass _ _ _ (good_again f.name is.some is.short is.name)
    ∙ (pass _ _ _ (negated _ h.follows.order) ∙ (pass _ _ _ h.follows.apart ∙ pass _ _ _ text)))))

pub keeps : (files : List File) (f : File) → IsSnapshotText (snapshot_text files) files → broken_rule files f ≡ None → IsSnapshotText (snapshot_text (files ++ f ∷ [])) (files ++ f ∷ [])
keeps files f c h = let fits = none_broken files f h in record { text = refl; rules = rules_more files f c.rules fits.follows; size = fits.size }

pub kept_none : (files : List File) (f : File) → IsSnapshotText (snapshot_text (files ++ f ∷ [])) (files ++ f ∷ []) → broken_rule files f ≡ None
kept_none files f c = breaks_none files f (record { follows = follows_prefix files [] f c.rules; size = c.size })

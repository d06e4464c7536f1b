-- Each text is a snapshot's, or has a first fault.
use Rattle.std.proofs.Common.{◌≡◌, ℕ, suc, zero, ◌+◌, ◌-◌, ◌<◌, ◌≤◌, ◌==◌, ◌||◌, ◌⊎◌, inl, inr, not, nat_lt, nat_le, Bool, true, false, List, [], ◌∷◌, ◌++◌, length, get_or, Option, Some, None, Result, Ok, Err, refl, sym, ap, ◌∙◌, subst, arith, unwrap_or, rules}
use mathlib.Core.Bool.{true≢false}
use Rattle.std.specs.List.{list_all, list_any}
use Rattle.std.proofs.lemmas.Bool.Decides.{nat_tests}
use Rattle.std.proofs.lemmas.List.{append_assoc, append-nil, length-append, flat_map_more}
use Rattle.std.proofs.lemmas.List.Elements.{All-push}
use Rattle.std.proofs.lemmas.List.Quantifiers.{all_pairs_push}
use Rattle.std.proofs.lemmas.List.Folds.{list_any_at, list_all_at}
use Rattle.devices.specs.Reference.{line_feed}
use Rattle.paths.specs.Reference.{lies_in}
use Rattle.devices.specs.Texts.{Ahead, byte_at, run_at, line_at}
use Rattle.paths.specs.declared.file.File.{File}
use Rattle.paths.specs.declared.file.FileLine.{FileLine}
use Rattle.paths.specs.declared.file.EntryHeading.{EntryHeading}
use Rattle.paths.specs.declared.file.EntryHeading.TheVariants as headings
use Rattle.paths.specs.declared.snapshot_fault.SnapshotFault.{SnapshotFault}
use Rattle.paths.specs.declared.snapshot_fault.SnapshotFaultKind.{SnapshotFaultKind}
use Rattle.paths.specs.declared.snapshot_fault.SnapshotFaultKind.TheVariants.{Name, Order, Conflict, Number, TooLarge, Count, Trailing}
use Rattle.paths.specs.Snapshots.{file_text, first_line, last_line, text_before_end, snapshot_text, max_time, max_name_bytes, max_file_bytes, max_files, max_text_bytes, is_name, comes_before, IsFile, IsSnapshot, IsSnapshotText, BeginsWithSnapshot, Follows}
use Rattle.paths.specs.SnapshotFaults.{kind_of, named, header_at, heading_of, name_at, body_at, file_at, announced, entry_at, IsFrontFault, IsFirstFault}
use Rattle.paths.proofs.Inverse.{bind_ok, name_inverse, body_inverse, header_inverse}
use Rattle.devices.proofs.Inverse.{unless_ok, when_ok, ok_is}
use Rattle.paths.proofs.Entries.{entry_takes}

-- ---- a file that was read may stand after those before it

un_not : (b : Bool) → not b ≡ false → b ≡ true
un_not true h = refl
un_not false h = absurd (true≢false h)

second : (b c : Bool) → (b || c) ≡ false → c ≡ false
second true c h = absurd (true≢false h)
second false c h = h

abbrev pub Fits : List File → List ℕ → Type 0
Fits files name = (is_name name ≡ true) × (list_all (λ f. comes_before f.name name) files ≡ true) × (list_any (λ f. lies_in f.name name) files ≡ false)

pub name_fits : (files : List File) (n : ℕ) (a b : Ahead) (name : List ℕ) → name_at files n a ≡ Ok (name, b) → Fits files name
name_fits files n a b name h =
    let run = bind_ok (named kind_of (run_at n a)) _ _ h in
    let end = bind_ok (named kind_of (byte_at run.0.1)) _ _ run.2 in
    let good = unless_ok (not (end.0.0 == line_feed) || not (is_name run.0.0)) Name _ _ end.2 in
    let order = unless_ok (not (list_all (λ f. comes_before f.name run.0.0) files)) Order _ _ good.1 in
    let apart = unless_ok (list_any (λ f. lies_in f.name run.0.0) files) Conflict _ _ order.1 in
    let pair : (run.0.0, end.0.1) ≡ (name, b) = ok_is {A = List ℕ × Ahead} {E = SnapshotFaultKind} _ _ _ _ refl refl apart.1 in
    subst (λ (v : List ℕ). Fits files v) (ap (λ (p : List ℕ × Ahead). p.0) pair)
    (un_not (is_name run.0.0) (second (not (end.0.0 == line_feed)) (not (is_name run.0.0)) good.0), un_not _ order.0, apart.0)

file_follows : (files : List File) (l : FileLine) (a b : Ahead) (f : File) → file_at files l a ≡ Ok (f, b) → Follows files f
file_follows files l a b f h =
    let time = unless_ok (nat_lt max_time l.mtime) Number _ _ h in
    let capacity = unless_ok (nat_lt max_file_bytes l.len || nat_le max_files (length files)) TooLarge _ _ time.1 in
    let named_len = unless_ok (l.name_len == 0 || nat_lt max_name_bytes l.name_len) Name _ _ capacity.1 in
    let name = bind_ok (name_at files l.name_len a) _ _ named_len.1 in
    let long = (name_inverse files l.name_len a name.0.1 name.0.0 name.1).1 in
    let fits = name_fits files l.name_len a name.0.1 name.0.0 name.1 in
    let body = bind_ok (body_at l.len name.0.1) _ _ name.2 in
    let sized = (body_inverse l.len name.0.1 body.0.1 body.0.0 body.1).1 in
    let made : File = record { name = name.0.0; mtime = l.mtime; bytes = body.0.0 } in
    let pair : (made, body.0.1) ≡ (f, b) = ok_is {A = File × Ahead} {E = SnapshotFaultKind} _ _ _ _ refl refl body.2 in
    let in_time : l.mtime ≤ max_time = let t = time.0 in grind (arith, nat_tests) in
    let some : 0 < l.name_len = let t = named_len.0 in grind (arith, nat_tests) in
    let short : l.name_len ≤ max_name_bytes = let t = named_len.0 in grind (arith, nat_tests) in
    let small : l.len ≤ max_file_bytes = let t = capacity.0 in grind (arith, nat_tests) in
    let few : length files < max_files = let t = capacity.0 in grind (arith, nat_tests) in
    let is : IsFile made = record { mtime = in_time; some = omega arith; short = omega arith; name = fits.0; bytes = omega arith } in
    let good : Follows files made = record { capacity = few; file = is; order = fits.1; apart = fits.2 } in
    subst (λ (v : File). Follows files v) (ap (λ (p : File × Ahead). p.0) pair) good

announced_follows : (files : List File) (heading : EntryHeading) (a b : Ahead) (f : File) → announced files heading a ≡ Ok (Some f, b) → Follows files f
announced_follows files (headings.File l) a b f h =
    let file = bind_ok (file_at files l a) _ _ h in
    let pair : (Some file.0.0, file.0.1) ≡ (Some f, b) = ok_is {A = Option File × Ahead} {E = SnapshotFaultKind} _ _ _ _ refl refl file.2 in
    let is : file.0.0 ≡ f = ap (λ (p : Option File × Ahead). unwrap_or p.0 f) pair in
    subst (λ (v : File). Follows files v) is (file_follows files l a file.0.1 file.0.0 file.1)
announced_follows files (headings.End count) a b f h =
    let good = when_ok (count == length files) Count _ _ h in
    let pair : (None, a) ≡ (Some f, b) = ok_is {A = Option File × Ahead} {E = SnapshotFaultKind} _ _ _ _ refl refl good.1 in
    let no : None ≡ Some f = ap (λ (p : Option File × Ahead). p.0) pair in
    absurd cc

entry_follows : (files : List File) (a b : Ahead) (f : File) → entry_at files a ≡ Ok (Some f, b) → Follows files f
entry_follows files a b f h =
    let line = bind_ok (named kind_of (line_at a)) _ _ h in
    let heading = bind_ok (heading_of line.0.0) _ _ line.2 in
    announced_follows files heading.0 line.0.1 b f heading.2

-- ---- the rules of one more file

all_pass : (p : File → Bool) (xs : List File) (k : ℕ) (d : File) → list_all p xs ≡ true → k < length xs → p (get_or xs k d) ≡ true
all_pass p xs k d all lt = go (p (get_or xs k d)) refl
  where
    go : (b : Bool) → p (get_or xs k d) ≡ b → b ≡ true
    go true h = refl
    go false h = absurd (true≢false (sym all ∙ list_all_at p xs k d lt h))

none_passes : (p : File → Bool) (xs : List File) (k : ℕ) (d : File) → list_any p xs ≡ false → k < length xs → p (get_or xs k d) ≡ false
none_passes p xs k d none lt = go (p (get_or xs k d)) refl
  where
    go : (b : Bool) → p (get_or xs k d) ≡ b → b ≡ false
    go true h = absurd (let found = list_any_at p xs k d lt h in cc)
    go false h = refl

pub rules_more : (fs : List File) (f : File) → IsSnapshot fs → Follows fs f → IsSnapshot (fs ++ f ∷ [])
rules_more fs f c h = record {
  count = let capacity = h.capacity in omega (arith, length-append fs (f ∷ []));
  each = All-push IsFile fs f c.each h.file;
  rising = all_pairs_push (λ g k. comes_before g.name k.name ≡ true) fs f c.rising (λ k d lt. all_pass (λ g. comes_before g.name f.name) fs k d h.order lt);
  apart = all_pairs_push (λ g k. lies_in g.name k.name ≡ false) fs f c.apart (λ k d lt. none_passes (λ g. lies_in g.name f.name) fs k d h.apart lt);
}

pub rules_none : IsSnapshot []
rules_none = record {
  count = omega arith;
  each = search rules;
  rising = λ i j d lt within. absurd (omega arith);
  apart = λ i j d lt within. absurd (omega arith);
}

-- ---- whole texts

abbrev pub Either : List ℕ → Type 0
Either bytes = ((files : List File) × IsSnapshotText bytes files) ⊎ ((f : SnapshotFault) × IsFirstFault bytes f)

-- the last line was read
ends : (bytes : List ℕ) (fs : List File) (rest : List ℕ) → IsSnapshot fs → bytes ≡ snapshot_text fs ++ rest → length (snapshot_text fs) ≤ max_text_bytes → Either bytes
ends bytes fs [] rules is size =
    let text : bytes ≡ snapshot_text fs = is ∙ append-nil (snapshot_text fs) in
    inl (fs, record { text = text; rules = rules; size = omega (arith, ap length text) })
ends bytes fs (b ∷ rest) rules is size =
    inr (record { entry = length fs + 1; kind = Trailing }, inr (fs, b, rest, record { whole = is; rules = rules; size = size; entry = refl; kind = refl }))

-- from n files on, with what is left of the text; there is room for n more
reads_on : (bytes : List ℕ) (fuel : ℕ) (fs : List File) (rest : List ℕ) (l : ℕ) → IsSnapshot fs
    → bytes ≡ text_before_end fs ++ rest → max_text_bytes ≡ length (text_before_end fs) + l → max_files < fuel + length fs → Either bytes
reads_on bytes zero fs rest l c whole left more = let few = c.count in absurd (omega arith)
reads_on bytes (suc fuel) fs rest l c whole left more = step (reads_on bytes fuel) (entry_at fs (record { bytes = rest; left = l })) refl
  where
    step : ((fs : List File) (rest : List ℕ) (l : ℕ) → IsSnapshot fs → bytes ≡ text_before_end fs ++ rest → max_text_bytes ≡ length (text_before_end fs) + l → max_files < fuel + length fs → Either bytes)
        → (r : Result (Option File × Ahead) SnapshotFaultKind) → entry_at fs (record { bytes = rest; left = l }) ≡ r → Either bytes
    step again (Err k) e =
        let same : l ≡ max_text_bytes - length (text_before_end fs) = omega (arith, left) in
        inr (
          record { entry = length fs + 1; kind = k },
          inl (inr (
            fs,
            rest,
            record {
              whole = whole;
              rules = c;
              size = omega (arith, left);
              entry = refl;
              kind = subst (λ (n : ℕ). entry_at fs (record { bytes = rest; left = n }) ≡ Err k) same e;
            },
          )),
        )
    step again (Ok (None, b)) e =
        let took = entry_takes fs (record { bytes = rest; left = l }) b None c.count e in
        let text : bytes ≡ snapshot_text fs ++ b.bytes =
        whole ∙ (ap (λ w. text_before_end fs ++ w) took.bytes ∙ sym (append_assoc (text_before_end fs) (last_line fs ++ line_feed ∷ []) b.bytes)) in
        let took_left = took.left in
        ends bytes fs b.bytes c text (omega (arith, left, length-append (text_before_end fs) (last_line fs ++ line_feed ∷ [])))
    step again (Ok (Some f, b)) e =
        let took = entry_takes fs (record { bytes = rest; left = l }) b (Some f) c.count e in
        let follows = entry_follows fs (record { bytes = rest; left = l }) b f e in
        let longer : text_before_end fs ++ file_text f ≡ text_before_end (fs ++ f ∷ []) = flat_map_more file_text (first_line ++ line_feed ∷ []) fs f in
        let long = ap length longer in
        let took_left = took.left in
        again (fs ++ f ∷ []) b.bytes b.left (rules_more fs f c follows)
        (whole ∙ (ap (λ w. text_before_end fs ++ w) took.bytes ∙ (sym (append_assoc (text_before_end fs) (file_text f) b.bytes) ∙ ap (λ w. w ++ b.bytes) longer)))
        (omega (arith, left, length-append (text_before_end fs) (file_text f))) (omega (arith, length-append fs (f ∷ [])))

pub reads : (bytes : List ℕ) → Either bytes
reads bytes = step (header_at (record { bytes = bytes; left = max_text_bytes })) refl
  where
    step : (r : Result (Unit {0} × Ahead) SnapshotFaultKind) → header_at (record { bytes = bytes; left = max_text_bytes }) ≡ r → Either bytes
    step (Err k) e = inr (record { entry = 0; kind = k }, inl (inl (refl, e)))
    step (Ok (u, b)) e =
        let took = header_inverse (record { bytes = bytes; left = max_text_bytes }) b u e in
        reads_on bytes (max_files + 1) [] b.bytes b.left rules_none took.bytes took.left (omega arith)

-- the same of a prefix
pub reads_prefix : (bytes : List ℕ) → Either bytes → ((files : List File) × (rest : List ℕ) × BeginsWithSnapshot bytes files rest) ⊎ ((f : SnapshotFault) × IsFrontFault bytes f)
reads_prefix bytes (inl (files, t)) = inl (
  files,
  [],
  record { text = t.text ∙ sym (append-nil (snapshot_text files)); rules = t.rules; size = let s = t.size in omega (arith, ap length t.text) },
)
reads_prefix bytes (inr (f, inl fault)) = inr (f, fault)
reads_prefix bytes (inr (f, inr (files, b, rest, t))) = inl (files, b ∷ rest, record { text = t.whole; rules = t.rules; size = t.size })

-- What an entry takes of a text.
use Rattle.std.proofs.Common.{◌≡◌, ℕ, ◌+◌, ◌-◌, ◌≤◌, ◌==◌, true, List, [], ◌∷◌, ◌++◌, length, Option, Some, None, Ok, Err, refl, sym, ap, ◌∙◌, subst, arith, codes, decimal, is_some, unwrap_or, inr, false}
use Rattle.std.proofs.lemmas.Bool.Decides.{Decides-eqb}
use Rattle.std.proofs.lemmas.List.{append_assoc, append-nil, flat_map_more}
use Rattle.devices.specs.Reference.{line_feed}
use Rattle.paths.specs.declared.file.File.{File}
use Rattle.paths.specs.declared.file.FileLine.{FileLine}
use Rattle.paths.specs.declared.file.EntryHeading.{EntryHeading}
use Rattle.paths.specs.declared.file.EntryHeading.TheVariants as headings
use Rattle.paths.specs.declared.snapshot_fault.SnapshotFaultKind.{SnapshotFaultKind}
use Rattle.paths.specs.declared.snapshot_fault.SnapshotFaultKind.TheVariants.{Count, Trailing}
use Rattle.devices.specs.Texts.{Ahead, ahead_of, line_at}
use Rattle.paths.specs.Snapshots.{file_text, first_line, last_line, text_before_end, snapshot_text, max_text_bytes, max_files, IsSnapshot}
use Rattle.paths.specs.SnapshotFaults.{kind_of, named, header_at, heading_of, file_at, announced, entry_at, ReadsFront, IsForeseen, IsFrontFault, IsFirstFault, is_unforeseen_kind}
use Rattle.std.specs.Io.KnownBytes.{Consumes}
use Rattle.devices.specs.Devices.{TakesByte}
use Rattle.devices.proofs.Taking.{Takes, takes_more}
use Rattle.devices.proofs.Inverse.{TakesAhead, ahead_then, when_ok, ok_is, line_inverse}
use Rattle.paths.proofs.Inverse.{bind_ok, named_ok, file_line_inverse, end_line_inverse, file_inverse, header_inverse}

-- an entry's bytes: those of a file, or the last line
abbrev pub entry_text : List File → Option File → List ℕ
entry_text files None = last_line files ++ line_feed ∷ []
entry_text files (Some f) = file_text f

parts : (w a b c name bytes : List ℕ) → ((w ++ (a ++ 32 ∷ (b ++ 32 ∷ c))) ++ 10 ∷ []) ++ ((name ++ 10 ∷ []) ++ (bytes ++ 10 ∷ []))
    ≡ (w ++ a ++ (32 ∷ []) ++ b ++ (32 ∷ []) ++ c) ++ 10 ∷ (name ++ 10 ∷ (bytes ++ 10 ∷ []))
parts w a b c name bytes = simp append_assoc

file_parts : (f : File) (l : FileLine) → f.mtime ≡ l.mtime → length f.name ≡ l.name_len → length f.bytes ≡ l.len
    → ((codes "file " ++ (decimal l.mtime ++ 32 ∷ (decimal l.name_len ++ 32 ∷ decimal l.len))) ++ line_feed ∷ []) ++ ((f.name ++ line_feed ∷ []) ++ (f.bytes ++ line_feed ∷ [])) ≡ file_text f
file_parts f l m n b = rw (← m, ← n, ← b) (parts (codes "file ") (decimal f.mtime) (decimal (length f.name)) (decimal (length f.bytes)) f.name f.bytes)

announced_takes : (files : List File) (line : List ℕ) (heading : EntryHeading) (a b : Ahead) (o : Option File) → heading_of line ≡ Ok heading → length files ≤ max_files
    → announced files heading a ≡ Ok (o, b) → (rest : List ℕ) × TakesAhead a rest b × ((line ++ line_feed ∷ []) ++ rest ≡ entry_text files o)
announced_takes files line (headings.File l) a b o is small h =
    let file = bind_ok (file_at files l a) _ _ h in
    let t = file_inverse files l a file.0.1 file.0.0 file.1 in
    let pair : (Some file.0.0, file.0.1) ≡ (o, b) = ok_is {A = Option File × Ahead} {E = SnapshotFaultKind} _ _ _ _ refl refl file.2 in
    let f = file.0.0 in
    let text = file_line_inverse line l is (let x = t.in_time in omega arith) (let x = t.in_name in omega arith) (let x = t.in_bytes in omega arith) in
    subst (λ (v : Option File × Ahead). (rest : List ℕ) × TakesAhead a rest v.1 × ((line ++ line_feed ∷ []) ++ rest ≡ entry_text files v.0)) pair (
      (f.name ++ line_feed ∷ []) ++ (f.bytes ++ line_feed ∷ []),
      t.parts,
      ap (λ v. (v ++ line_feed ∷ []) ++ ((f.name ++ line_feed ∷ []) ++ (f.bytes ++ line_feed ∷ []))) text ∙ file_parts f l t.mtime t.name t.len,
    )
announced_takes files line (headings.End count) a b o is small h =
    let good = when_ok (count == length files) Count _ _ h in
    let pair : (None, a) ≡ (o, b) = ok_is {A = Option File × Ahead} {E = SnapshotFaultKind} _ _ _ _ refl refl good.1 in
    let same : count ≡ length files = (Decides-eqb count (length files)).0 good.0 in
    let text = end_line_inverse line count is (omega arith) in
    subst (λ (v : Option File × Ahead). (rest : List ℕ) × TakesAhead a rest v.1 × ((line ++ line_feed ∷ []) ++ rest ≡ entry_text files v.0)) pair (
      [],
      record { bytes = refl; left = omega arith },
      append-nil (line ++ line_feed ∷ []) ∙ ap (λ v. v ++ line_feed ∷ []) (text ∙ ap (λ n. codes "end " ++ decimal n) same),
    )

pub entry_takes : (files : List File) (a b : Ahead) (o : Option File) → length files ≤ max_files → entry_at files a ≡ Ok (o, b) → TakesAhead a (entry_text files o) b
entry_takes files a b o small h =
    let line = bind_ok (named kind_of (line_at a)) _ _ h in
    let read = line_inverse a line.0.1 line.0.0 (named_ok kind_of (line_at a) line.0 line.1) in
    let heading = bind_ok (heading_of line.0.0) _ _ line.2 in
    let t = announced_takes files line.0.0 heading.0 line.0.1 b o heading.1 small heading.2 in
    subst (λ (v : List ℕ). TakesAhead a v b) t.2 (ahead_then a line.0.1 b (line.0.0 ++ line_feed ∷ []) t.0 read t.1)

pub takes_known : (o n : Option (List ℕ)) (l nl : ℕ) (taken : List ℕ) → (is_some o ≡ true → TakesAhead (ahead_of o l) taken (ahead_of n nl) × (is_some n ≡ true)) → Takes o l n nl taken
takes_known o n l nl taken h = record { bytes = λ k. (h k).0.bytes; count = λ k. (h k).0.left; known = λ k. (h k).1 }

-- the first line, and no file yet
pub front_starts : (o n : Option (List ℕ)) (nl : ℕ) (u : Unit {0}) (files : List File) → files ≡ []
    → (is_some o ≡ true → (header_at (ahead_of o max_text_bytes) ≡ Ok (u, ahead_of n nl)) × (is_some n ≡ true)) → Takes o max_text_bytes n nl (text_before_end files)
front_starts o n nl u files none h =
    let t = takes_known o n max_text_bytes nl (first_line ++ line_feed ∷ []) (λ k. (header_inverse (ahead_of o max_text_bytes) (ahead_of n nl) u (h k).0, (h k).1)) in
    subst (λ (fs : List File). Takes o max_text_bytes n nl (text_before_end fs)) (sym none) t

-- one more file
pub front_goes_on : (o n m : Option (List ℕ)) (nl ml : ℕ) (files more : List File) (f : File) (x : Option File) → x ≡ Some f → more ≡ files ++ f ∷ [] → length files ≤ max_files
    → Takes o max_text_bytes n nl (text_before_end files) → (is_some n ≡ true → (entry_at files (ahead_of n nl) ≡ Ok (x, ahead_of m ml)) × (is_some m ≡ true))
    → Takes o max_text_bytes m ml (text_before_end more)
front_goes_on o n m nl ml files more f x some is small t h =
    let step = takes_known n m nl ml (file_text f) (λ k. (subst (λ (e : Option File). TakesAhead (ahead_of n nl) (entry_text files e) (ahead_of m ml)) some (entry_takes files (ahead_of n nl) (ahead_of m ml) x small (h k).0), (h k).1)) in
    let both = takes_more o n m max_text_bytes nl ml (text_before_end files) (file_text f) t step in
    subst (λ (v : List ℕ). Takes o max_text_bytes m ml v) (flat_map_more file_text (first_line ++ line_feed ∷ []) files f ∙ ap text_before_end (sym is)) both

-- the last line
pub front_ends : (o n m : Option (List ℕ)) (nl ml : ℕ) (files : List File) (x : Option File) → x ≡ None → length files ≤ max_files
    → Takes o max_text_bytes n nl (text_before_end files) → (is_some n ≡ true → (entry_at files (ahead_of n nl) ≡ Ok (x, ahead_of m ml)) × (is_some m ≡ true))
    → ReadsFront o m files
front_ends o n m nl ml files x none small t h =
    let step = takes_known n m nl ml (last_line files ++ line_feed ∷ []) (λ k. (subst (λ (e : Option File). TakesAhead (ahead_of n nl) (entry_text files e) (ahead_of m ml)) none (entry_takes files (ahead_of n nl) (ahead_of m ml) x small (h k).0), (h k).1)) in
    let both = takes_more o n m max_text_bytes nl ml (text_before_end files) (last_line files ++ line_feed ∷ []) t step in
    record { text = both.bytes; known = both.known; size = λ k. omega (arith, both.count k) }

-- an entry at fault
pub front_faults : (o n : Option (List ℕ)) (nl entry : ℕ) (files : List File) (kind : SnapshotFaultKind) → IsSnapshot files → entry ≡ length files + 1
    → Takes o max_text_bytes n nl (text_before_end files) → (is_some n ≡ true → is_unforeseen_kind kind ≡ false → entry_at files (ahead_of n nl) ≡ Err kind)
    → IsForeseen IsFrontFault o (record { entry = entry; kind = kind })
front_faults o n nl entry files kind rules is t h = λ k foreseen.
    let left : nl ≡ max_text_bytes - length (text_before_end files) = omega (arith, t.count k) in
    inr (
      files,
      unwrap_or n [],
      record {
        whole = t.bytes k;
        rules = rules;
        size = omega (arith, t.count k);
        entry = is;
        kind = subst (λ (l : ℕ). entry_at files (record { bytes = unwrap_or n []; left = l }) ≡ Err kind) left (h (t.known k) foreseen);
      },
    )

consumed : (n m : Option (List ℕ)) (b : ℕ) → Consumes n m (b ∷ []) → is_some n ≡ true → unwrap_or n [] ≡ b ∷ unwrap_or m []
consumed None m b p k = absurd cc
consumed (Some xs) None b p k = absurd p
consumed (Some xs) (Some ys) b p k = p

-- a byte after the last line
pub trailing_faults : (o n m : Option (List ℕ)) (entry b : ℕ) (x : Option ℕ) (files : List File) → x ≡ Some b → ReadsFront o n files → TakesByte n m x
    → IsSnapshot files → entry ≡ length files + 1 → is_some o ≡ true → false ≡ false → IsFirstFault (unwrap_or o []) (record { entry = entry; kind = Trailing })
trailing_faults o n m entry b x files some front byte rules is k foreseen =
    let took : Consumes n m (b ∷ []) = subst (λ (v : Option ℕ). TakesByte n m v) some byte in
    inr (
      files,
      b,
      unwrap_or m [],
      record {
        whole = front.text k ∙ ap (λ v. snapshot_text files ++ v) (consumed n m b took (front.known k));
        rules = rules;
        size = front.size k;
        entry = is;
        kind = refl;
      },
    )

-- What stands in a text of which a part was read.
use Rattle.std.proofs.Common.{◌≡◌, ℕ, ◌-◌, ◌^◌, ◌<◌, ◌≤◌, ◌==◌, ◌||◌, inl, inr, not, nat_lt, nat_le, List, [], ◌∷◌, ◌++◌, length, drop, Option, Some, None, Result, Ok, Err, refl, sym, ap, ◌∙◌, subst, arith, codes, decimal, nat_eq, bytes_eq}
use Rattle.std.specs.List.{starts_with, list_all, list_any}
use Rattle.std.specs.Cmp.Lexicographic.{same_text}
use Rattle.std.proofs.lemmas.Bool.Decides.{nat_tests, Decides-eqb}
use Rattle.devices.specs.Reference.{line_feed}
use Rattle.paths.specs.Reference.{lies_in}
use Rattle.devices.specs.declared.text.Stop.{Stop}
use Rattle.paths.specs.declared.file.File.{File}
use Rattle.paths.specs.declared.file.FileLine.{FileLine}
use Rattle.paths.specs.declared.snapshot_fault.SnapshotFaultKind.{SnapshotFaultKind}
use Rattle.paths.specs.declared.snapshot_fault.SnapshotFaultKind.TheVariants.{Name, Order, Conflict, Number, TooLarge}
use Rattle.devices.specs.Texts.{Ahead, byte_at, line_at, run_at}
use Rattle.paths.specs.Snapshots.{first_line, max_time, max_file_bytes, max_name_bytes, max_files, is_name, comes_before}
use Rattle.paths.specs.SnapshotFaults.{kind_of, header_kind_of, named, ◌>>=◌, header_at, file_heading, end_heading, heading_of, name_at, body_at, file_at}
use Rattle.devices.proofs.Inverse.{TakesAhead, ahead_then, unless_ok, when_ok, ok_is, line_inverse, run_inverse, byte_takes, number_inverse, three_inverse, begins, chosen, ends_by_feed}
use Rattle.paths.specs.declared.file.EntryHeading.TheVariants as headings

-- ---- the steps of a definition that may refuse

pub bind_ok : {A B : Type 0} (r : Result A SnapshotFaultKind) (f : A → Result B SnapshotFaultKind) (y : B) → (r >>= f) ≡ Ok y → (x : A) × (r ≡ Ok x) × (f x ≡ Ok y)
bind_ok (Ok x) f y h = (x, refl, h)
bind_ok (Err e) f y h = absurd cc

pub named_ok : {X : Type 0} (name : Stop → SnapshotFaultKind) (r : Result X Stop) (x : X) → named name r ≡ Ok x → r ≡ Ok x
named_ok {X = X} name (Ok y) x h = let e : y ≡ x = cc in ap (λ (v : X). let r : Result X Stop = Ok v in r) e
named_ok name (Err e) x h = absurd cc

-- ---- parts of a text

-- ---- numbers

-- ---- lines

file_heading_is : (o : Option (ℕ × ℕ × ℕ)) (l : FileLine) → file_heading o ≡ Ok (headings.File l) → o ≡ Some (l.mtime, l.name_len, l.len)
file_heading_is None l h = absurd cc
file_heading_is (Some n) l h = let e : record { mtime = n.0; name_len = n.1; len = n.2 } ≡ l = cc in ap (λ (k : FileLine). Some (k.mtime, k.name_len, k.len)) e

file_heading_not : (o : Option (ℕ × ℕ × ℕ)) (n : ℕ) → file_heading o ≡ Ok (headings.End n) → ⊥
file_heading_not None n h = absurd cc
file_heading_not (Some m) n h = absurd cc

end_heading_is : (o : Option ℕ) (n : ℕ) → end_heading o ≡ Ok (headings.End n) → o ≡ Some n
end_heading_is None n h = absurd cc
end_heading_is (Some m) n h = let e : m ≡ n = cc in ap (λ k. Some k) e

end_heading_not : (o : Option ℕ) (l : FileLine) → end_heading o ≡ Ok (headings.File l) → ⊥
end_heading_not None n h = absurd cc
end_heading_not (Some m) n h = absurd cc

pub file_line_inverse : (line : List ℕ) (l : FileLine) → heading_of line ≡ Ok (headings.File l) → l.mtime < 2 ^ 64 - 1 → l.name_len < 2 ^ 64 - 1 → l.len < 2 ^ 64 - 1
    → line ≡ codes "file " ++ (decimal l.mtime ++ 32 ∷ (decimal l.name_len ++ 32 ∷ decimal l.len))
file_line_inverse line l h sm sn sl = elim (chosen (starts_with nat_eq line (codes "file ")) _ _ _ h) [
  | inl f ↦ begins line (codes "file ") f.0 ∙ ap (λ v. codes "file " ++ v) (three_inverse (drop 5 line) l.mtime l.name_len l.len (file_heading_is _ l f.1) sm sn sl)
  | inr e ↦ elim (chosen (starts_with nat_eq line (codes "end ")) _ _ _ e.1) [
    | inl n ↦ absurd (end_heading_not _ l n.1)
    | inr k ↦ absurd (let no = k.1 in cc)
  ]
]

pub end_line_inverse : (line : List ℕ) (n : ℕ) → heading_of line ≡ Ok (headings.End n) → n < 2 ^ 64 - 1 → line ≡ codes "end " ++ decimal n
end_line_inverse line n h small = elim (chosen (starts_with nat_eq line (codes "file ")) _ _ _ h) [
  | inl f ↦ absurd (file_heading_not _ n f.1)
  | inr e ↦ elim (chosen (starts_with nat_eq line (codes "end ")) _ _ _ e.1) [
    | inl i ↦ begins line (codes "end ") i.0 ∙ ap (λ v. codes "end " ++ v) (number_inverse (drop 4 line) n (end_heading_is _ n i.1) small)
    | inr k ↦ absurd (let no = k.1 in cc)
  ]
]

pub header_inverse : (a b : Ahead) (u : Unit {0}) → header_at a ≡ Ok (u, b) → TakesAhead a (first_line ++ line_feed ∷ []) b
header_inverse a b u h =
    let line = bind_ok (named header_kind_of (line_at a)) _ _ h in
    let read = named_ok header_kind_of (line_at a) line.0 line.1 in
    let is = when_ok (bytes_eq line.0.0 first_line) _ _ _ line.2 in
    let pair : (tt, line.0.1) ≡ (u, b) = ok_is {A = Unit {0} × Ahead} {E = SnapshotFaultKind} _ _ _ _ refl refl is.1 in
    let rest_is : line.0.1 ≡ b = ap (λ (p : Unit {0} × Ahead). p.1) pair in
    let took = line_inverse a line.0.1 line.0.0 read in
    subst (λ (v : List ℕ × Ahead). TakesAhead a (v.0 ++ line_feed ∷ []) v.1) (let first : line.0.0 ≡ first_line = same_text line.0.0 first_line (sym is.0) in λ i. (first i, rest_is i)) took

-- ---- a file

pub name_inverse : (files : List File) (n : ℕ) (a b : Ahead) (name : List ℕ) → name_at files n a ≡ Ok (name, b) → TakesAhead a (name ++ line_feed ∷ []) b × (length name ≡ n)
name_inverse files n a b name h =
    let run = bind_ok (named kind_of (run_at n a)) _ _ h in
    let run_read = run_inverse n a run.0.1 run.0.0 (named_ok kind_of (run_at n a) run.0 run.1) in
    let end = bind_ok (named kind_of (byte_at run.0.1)) _ _ run.2 in
    let end_read = byte_takes run.0.1 end.0.1 end.0.0 (named_ok kind_of (byte_at run.0.1) end.0 end.1) in
    let good = unless_ok (not (end.0.0 == line_feed) || not (is_name run.0.0)) Name _ _ end.2 in
    let order = unless_ok (not (list_all (λ f. comes_before f.name run.0.0) files)) Order _ _ good.1 in
    let apart = unless_ok (list_any (λ f. lies_in f.name run.0.0) files) Conflict _ _ order.1 in
    let pair : (run.0.0, end.0.1) ≡ (name, b) = ok_is {A = List ℕ × Ahead} {E = SnapshotFaultKind} _ _ _ _ refl refl apart.1 in
    let is_feed : end.0.0 ≡ line_feed = let g = good.0 in ends_by_feed end.0.0 (is_name run.0.0) g in
    let took = ahead_then a run.0.1 end.0.1 run.0.0 (end.0.0 ∷ []) run_read.0 end_read in (
      subst (λ (v : List ℕ × Ahead). TakesAhead a (v.0 ++ line_feed ∷ []) v.1) pair (subst (λ (c : ℕ). TakesAhead a (run.0.0 ++ c ∷ []) end.0.1) is_feed took),
      sym (ap (λ (p : List ℕ × Ahead). length p.0) pair) ∙ run_read.1,
    )

pub body_inverse : (n : ℕ) (a b : Ahead) (bytes : List ℕ) → body_at n a ≡ Ok (bytes, b) → TakesAhead a (bytes ++ line_feed ∷ []) b × (length bytes ≡ n)
body_inverse n a b bytes h =
    let run = bind_ok (named kind_of (run_at n a)) _ _ h in
    let run_read = run_inverse n a run.0.1 run.0.0 (named_ok kind_of (run_at n a) run.0 run.1) in
    let end = bind_ok (named kind_of (byte_at run.0.1)) _ _ run.2 in
    let end_read = byte_takes run.0.1 end.0.1 end.0.0 (named_ok kind_of (byte_at run.0.1) end.0 end.1) in
    let good = when_ok (end.0.0 == line_feed) _ _ _ end.2 in
    let pair : (run.0.0, end.0.1) ≡ (bytes, b) = ok_is {A = List ℕ × Ahead} {E = SnapshotFaultKind} _ _ _ _ refl refl good.1 in
    let is_feed : end.0.0 ≡ line_feed = (Decides-eqb end.0.0 line_feed).0 good.0 in
    let took = ahead_then a run.0.1 end.0.1 run.0.0 (end.0.0 ∷ []) run_read.0 end_read in (
      subst (λ (v : List ℕ × Ahead). TakesAhead a (v.0 ++ line_feed ∷ []) v.1) pair (subst (λ (c : ℕ). TakesAhead a (run.0.0 ++ c ∷ []) end.0.1) is_feed took),
      sym (ap (λ (p : List ℕ × Ahead). length p.0) pair) ∙ run_read.1,
    )

-- what a file's line, its name and its bytes take
pub record TakesFile (a : Ahead) (l : FileLine) (f : File) (b : Ahead) : Type 0 where
  pub parts : TakesAhead a ((f.name ++ line_feed ∷ []) ++ (f.bytes ++ line_feed ∷ [])) b
  pub mtime : f.mtime ≡ l.mtime
  pub name : length f.name ≡ l.name_len
  pub len : length f.bytes ≡ l.len
  pub in_time : l.mtime ≤ max_time
  pub in_name : l.name_len ≤ max_name_bytes
  pub in_bytes : l.len ≤ max_file_bytes

pub file_inverse : (files : List File) (l : FileLine) (a b : Ahead) (f : File) → file_at files l a ≡ Ok (f, b) → TakesFile a l f b
file_inverse files l a b f h =
    let time = unless_ok (nat_lt max_time l.mtime) Number _ _ h in
    let capacity = unless_ok (nat_lt max_file_bytes l.len || nat_le max_files (length files)) TooLarge _ _ time.1 in
    let named_len = unless_ok (l.name_len == 0 || nat_lt max_name_bytes l.name_len) Name _ _ capacity.1 in
    let name = bind_ok (name_at files l.name_len a) _ _ named_len.1 in
    let name_read = name_inverse files l.name_len a name.0.1 name.0.0 name.1 in
    let body = bind_ok (body_at l.len name.0.1) _ _ name.2 in
    let body_read = body_inverse l.len name.0.1 body.0.1 body.0.0 body.1 in
    let made : File = record { name = name.0.0; mtime = l.mtime; bytes = body.0.0 } in
    let pair : (made, body.0.1) ≡ (f, b) = ok_is {A = File × Ahead} {E = SnapshotFaultKind} _ _ _ _ refl refl body.2 in
    subst (λ (v : File × Ahead). TakesFile a l v.0 v.1) pair (record {
      parts = ahead_then a name.0.1 body.0.1 (name.0.0 ++ line_feed ∷ []) (body.0.0 ++ line_feed ∷ []) name_read.0 body_read.0;
      mtime = refl;
      name = name_read.1;
      len = body_read.1;
      in_time = let t = time.0 in grind (arith, nat_tests);
      in_name = let t = named_len.0 in grind (arith, nat_tests);
      in_bytes = let t = capacity.0 in grind (arith, nat_tests);
    })

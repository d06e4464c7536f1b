-- What was taken of a text when a read failed.
use Rattle.std.specs.List.{prefix_len}
use Rattle.std.proofs.Common.{◌≡◌, ℕ, ◌+◌, ◌<◌, ◌≤◌, ◌==◌, not, cond, nat_lt, nat_le, Bool, true, false, List, [], ◌∷◌, ◌++◌, length, take, Option, Result, Ok, Err, refl, sym, ap, ◌∙◌, subst, arith, is_some, unwrap_or}
use Rattle.std.proofs.lemmas.Bool.{eqb-false}
use Rattle.std.proofs.lemmas.Bool.Decides.{nat_tests}
use Rattle.std.proofs.lemmas.List.{append_assoc, append-nil, length-append, length-take, get_or-take}
use Rattle.std.proofs.lemmas.List.Sums.{prefix_len-le-length, prefix_len_passes, prefix_len_is}
use Rattle.devices.specs.Reference.{line_feed}
use Rattle.devices.specs.declared.text.Stop.{Stop}
use Rattle.devices.specs.Texts.{Ahead, ahead_of, byte_at, run_at, line_at, line_start, available, ended}
use Rattle.devices.specs.Parts.{TookPart}
use Rattle.devices.proofs.Taking.{Takes, TakesLine, line_whole, line_ends, ended_past}
use Rattle.devices.proofs.Inverse.{unless_ok, ok_is, line_inverse, run_inverse}
use Rattle.devices.proofs.Again.{run_again}
use Rattle.devices.specs.declared.text.Stop.TheVariants as stops

-- a read failed after what was taken, and took nothing
pub none_after : (Q : List ℕ → Type 0) (o n m : Option (List ℕ)) (l nl ml : ℕ) (taken : List ℕ) → Takes o l n nl taken → (is_some o ≡ true → Q taken)
    → (is_some n ≡ true → TookPart (λ part. part ≡ []) n nl m ml) → is_some o ≡ true → TookPart Q o l m ml
none_after Q o n m l nl ml taken t q h k =
    let none = h (t.known k) in
    let same : none.part ≡ [] = none.holds in
    record {
      part = taken;
      bytes = t.bytes k ∙ ap (λ v. taken ++ v) (none.bytes ∙ ap (λ v. v ++ unwrap_or m []) same);
      count = omega (arith, t.count k, none.count, ap length same);
      known = none.known;
      holds = q k;
    }

-- it took a part
pub part_after : (P Q : List ℕ → Type 0) (o n m : Option (List ℕ)) (l nl ml : ℕ) (taken : List ℕ) → Takes o l n nl taken
    → ((t : List ℕ) → l ≡ length taken + nl → P t → Q (taken ++ t))
    → (is_some n ≡ true → TookPart P n nl m ml) → is_some o ≡ true → TookPart Q o l m ml
part_after P Q o n m l nl ml taken t q h k =
    let more = h (t.known k) in
    record {
      part = taken ++ more.part;
      bytes = t.bytes k ∙ (ap (λ v. taken ++ v) more.bytes ∙ sym (append_assoc taken more.part (unwrap_or m [])));
      count = omega (arith, t.count k, more.count, length-append taken more.part);
      known = more.known;
      holds = q more.part (t.count k) more.holds;
    }

-- the same part, of which something else holds
pub part_is : (P Q : List ℕ → Type 0) (o n : Option (List ℕ)) (l nl : ℕ) → ((t : List ℕ) → P t → Q t) → TookPart P o l n nl → TookPart Q o l n nl
part_is P Q o n l nl q h = record { part = h.part; bytes = h.bytes; count = h.count; known = h.known; holds = q h.part h.holds }

ended_nil : (l : ℕ) → ended (record { bytes = []; left = l }) ≡ stops.Cut
ended_nil l = let none : nat_lt l 0 ≡ false = grind (arith, nat_tests) in ap (λ b. cond b stops.TooLarge stops.Cut) none

pub no_byte : (l : ℕ) → byte_at (record { bytes = []; left = l }) ≡ Err stops.Cut
no_byte l =
    let none : nat_lt 0 (length (take l [])) ≡ false = let s = length-take {A = ℕ} l [] in grind (arith, nat_tests) in
    pass_err (nat_lt 0 (length (take l []))) _ _ none ∙ ap (λ (e : Stop). let r : Result (ℕ × Ahead) Stop = Err e in r) (ended_nil l)
  where
    pass_err : (b : Bool) (x : ℕ × Ahead) (e : Stop) → b ≡ false → cond b (Ok x) (Err e) ≡ Err e
    pass_err true x e h = absurd cc
    pass_err false x e h = refl

line_cut : (line : List ℕ) (l nl : ℕ) → prefix_len (λ b. not (b == 10)) line ≡ length line → length line ≤ 64 → l ≡ length line + nl
    → line_at (record { bytes = line; left = l }) ≡ Err stops.Cut
line_cut line l nl feeds short left =
    let none : length (take nl []) ≡ 0 = omega (arith, length-take {A = ℕ} nl []) in
    ap (λ v. line_at (record { bytes = v; left = l })) (sym (append-nil line))
    ∙ (line_ends line [] l nl feeds short left none
    ∙ ap (λ (s : Stop). let r : Result (List ℕ × Ahead) Stop = Err s in r) (ended_past line [] l nl left ∙ ended_nil nl))

-- a read failed in a line
pub line_fails : (o n m : Option (List ℕ)) (l nl ml : ℕ) (line : List ℕ) → TakesLine o l n nl line → length line ≤ 64
    → (is_some n ≡ true → TookPart (λ part. part ≡ []) n nl m ml) → is_some o ≡ true
    → TookPart (λ part. line_at (record { bytes = part; left = l }) ≡ Err stops.Cut) o l m ml
line_fails o n m l nl ml line t short h k =
    none_after (λ part. line_at (record { bytes = part; left = l }) ≡ Err stops.Cut) o n m l nl ml line t.takes
    (λ known. line_cut line l nl t.feeds short (t.takes.count known)) h k

pub line_good : (a b : Ahead) (line : List ℕ) → line_at a ≡ Ok (line, b) → (prefix_len (λ c. not (c == 10)) line ≡ length line) × (length line ≤ 64)
line_good a b line h =
    let full = unless_ok (length (line_start a) == 65) _ _ _ h in
    let all = unless_ok (length (line_start a) == length (available a)) _ _ _ full.1 in
    let F = take 65 (available a) in
    let p = prefix_len (λ c. not (c == 10)) F in
    let below : p ≤ length F = prefix_len-le-length (λ c. not (c == 10)) F in
    let size : length (take p F) ≡ p = omega (arith, length-take p F) in
    let feeds : prefix_len (λ c. not (c == 10)) (take p F) ≡ length (take p F) =
    prefix_len_is (λ c. not (c == 10)) (take p F) (length (take p F)) 0 (omega arith)
    (λ i under. ap (λ c. not (c == 10)) (get_or-take p F i 0 (omega arith)) ∙ prefix_len_passes (λ c. not (c == 10)) F i 0 (omega arith))
    (λ past_end. absurd (omega arith)) in
    let most : length F ≤ 65 = omega (arith, length-take 65 (available a)) in
    let not_full : length (line_start a) ≡ 65 → ⊥ = λ e. eqb-false (length (line_start a)) 65 full.0 e in
    let short : length (take p F) ≤ 64 = omega (arith, not_full) in
    subst (λ (v : List ℕ). (prefix_len (λ c. not (c == 10)) v ≡ length v) × (length v ≤ 64)) (ap (λ (q : List ℕ × Ahead). q.0) (ok_is {A = List ℕ × Ahead} {E = Stop} _ _ _ _ refl refl all.1)) (feeds, short)

pub line_alone : (a b : Ahead) (line : List ℕ) → line_at a ≡ Ok (line, b) → (t : List ℕ)
    → line_at (record { bytes = (line ++ line_feed ∷ []) ++ t; left = a.left }) ≡ Ok (line, record { bytes = t; left = b.left })
line_alone a b line h t =
    let took = line_inverse a b line h in
    let good = line_good a b line h in
    ap (λ w. line_at (record { bytes = w; left = a.left })) (append_assoc line (line_feed ∷ []) t)
    ∙ line_whole line t a.left b.left good.0 good.1 (let e = took.left in omega (arith, e, length-append line (line_feed ∷ [])))

pub run_alone : (n l nl : ℕ) (run : List ℕ) → length run ≡ n → l ≡ n + nl → run_at n (record { bytes = run; left = l }) ≡ Ok (run, record { bytes = []; left = nl })
run_alone n l nl run is left = ap (λ w. run_at n (record { bytes = w; left = l })) (sym (append-nil run)) ∙ run_again n run [] l nl is left

pub no_run : (n l : ℕ) → 0 < n → run_at n (record { bytes = []; left = l }) ≡ Err stops.Cut
no_run n l some =
    let none : nat_le n (length (take l [])) ≡ false = let s = length-take {A = ℕ} l [] in grind (arith, nat_tests) in
    pass_err (nat_le n (length (take l []))) _ _ none ∙ ap (λ (e : Stop). let r : Result (List ℕ × Ahead) Stop = Err e in r) (ended_nil l)
  where
    pass_err : (b : Bool) (x : List ℕ × Ahead) (e : Stop) → b ≡ false → cond b (Ok x) (Err e) ≡ Err e
    pass_err true x e h = absurd cc
    pass_err false x e h = refl

pub run_takes : (n : ℕ) (o m : Option (List ℕ)) (l ml : ℕ) (run : List ℕ) → (is_some o ≡ true → (run_at n (ahead_of o l) ≡ Ok (run, ahead_of m ml)) × (is_some m ≡ true)) → Takes o l m ml run
run_takes n o m l ml run h = record {
  bytes = λ k. (run_inverse n (ahead_of o l) (ahead_of m ml) run (h k).0).0.bytes;
  count = λ k. (run_inverse n (ahead_of o l) (ahead_of m ml) run (h k).0).0.left;
  known = λ k. (h k).1;
}

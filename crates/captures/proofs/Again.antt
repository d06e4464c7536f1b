-- What was written is read again: numbers, lines and records.
use Rattle.std.proofs.Common.{◌≡◌, ℕ, suc, zero, ◌+◌, ◌-◌, ◌^◌, ◌<◌, ◌≤◌, ◌==◌, ◌||◌, not, cond, nat_lt, nat_le, min, Bool, true, false, List, [], ◌∷◌, ◌++◌, length, take, drop, get_or, Option, Some, None, Result, Ok, Err, refl, sym, ap, ◌∙◌, subst, arith, codes, decimal, nat_eq, eq-eqb}
use Rattle.std.specs.List.{prefix_len, position}
use Rattle.std.specs.Str.{all_ascii_digits}
use Rattle.std.specs.Char.{is_ascii_digit}
use Rattle.std.specs.Str.Parse.{digits_value}
use Rattle.std.proofs.lemmas.Bool.{ne_eqb}
use Rattle.std.proofs.lemmas.Bool.Decides.{nat_tests, Decides-eqb}
use Rattle.std.proofs.lemmas.Grind.{common_steps}
use Rattle.std.proofs.lemmas.Fmt.{digits_decimal, digits_value-decimal, length-decimal-le, decimal_nonempty, first_decimal}
use Rattle.std.proofs.lemmas.Str.Parse.{IsNumeralModel, numerals_by_value, tells_all_ascii_digits}
use Rattle.std.proofs.lemmas.List.{append_assoc, length-append, length-take, take_at, drop_at}
use Rattle.std.proofs.lemmas.List.Folds.{prefix_len-append}
use Rattle.std.specs.Cmp.Lexicographic.{pointwise}
use Rattle.std.proofs.lemmas.Slice.Eq.{slice_eq-Decides}
use Rattle.devices.specs.Reference.{line_feed}
use Rattle.devices.specs.Numbers.{is_decimal, number_of, number_and_rest, three_numbers, ◌>>=◌ as ◌>?=◌}
use Rattle.devices.specs.Texts.{Ahead, byte_at, run_at, line_at, available, past as beyond, ended}
use Rattle.devices.specs.declared.text.Stop.{Stop}
use Rattle.devices.proofs.Taking.{line_whole}
use Rattle.captures.specs.Reference.{format_of, first_line, piece_line, end_line, tier_line, record_text, max_start, max_tick, max_piece_bytes, max_tier}
use Rattle.captures.specs.Captures.{Past, Follows}
use Rattle.captures.specs.declared.version.Version.{Version}
use Rattle.captures.specs.declared.version.Version.TheVariants.{One, Two, Traffic}
use Rattle.captures.specs.CaptureFaults.{named, ◌>>=◌, kind_of, header_kind_of, opens, start_heading, start_of, header_at, two_numbers, piece_heading, end_heading, tier_heading, stop_heading, heading_of, open_connection, allowed, body_at, piece_at, tier_record, record_at}
use Rattle.captures.specs.declared.record.Record.{Record}
use Rattle.captures.specs.declared.record.Record.TheVariants.{Piece, End, Tier}
use Rattle.captures.specs.declared.headings.Heading.TheVariants as headings
use Rattle.captures.specs.declared.capture_fault.CaptureFaultKind.{CaptureFaultKind}
use Rattle.captures.proofs.Lines.{room_for_first, few_connections}
use Rattle.captures.proofs.Records.{stop_text}

-- ---- the steps of a definition that may refuse

pub bind_is : {A B : Type 0} (r : Result A CaptureFaultKind) (f : A → Result B CaptureFaultKind) (x : A) → r ≡ Ok x → (r >>= f) ≡ f x
bind_is r f x h = ap (λ (q : Result _ CaptureFaultKind). q >>= f) h

pub named_is : {X : Type 0} (name : Stop → CaptureFaultKind) (r : Result X Stop) (x : X) → r ≡ Ok x → named name r ≡ Ok x
named_is name r x h = ap (named name) h

pub pass : {A : Type 0} (b : Bool) (e r : A) → b ≡ false → cond b e r ≡ r
pass true e r h = absurd cc
pass false e r h = refl

meet : {A : Type 0} (b : Bool) (r e : A) → b ≡ true → cond b r e ≡ r
meet true r e h = refl
meet false r e h = absurd cc

neither : (b c : Bool) → b ≡ false → c ≡ false → (b || c) ≡ false
neither true c h k = absurd cc
neither false c h k = k

-- ---- numbers

own : IsNumeralModel (λ ds. all_ascii_digits ds ≡ true) (digits_value 10)
own = numerals_by_value (λ ds. all_ascii_digits ds ≡ true) tells_all_ascii_digits

decimal_is : (ds : List ℕ) → all_ascii_digits ds ≡ true → 0 < length ds → (get_or ds 0 0 ≡ 48 → length ds ≡ 1) → is_decimal ds ≡ true
decimal_is [] h some lead = absurd (omega arith)
decimal_is (d ∷ []) h some lead = h
decimal_is (d ∷ e ∷ ds) h some lead = rw (ne_eqb d 48 (λ same. omega (arith, lead same)), h) refl

leads : (n : ℕ) → n < 2 ^ 64 → get_or (decimal n) 0 0 ≡ 48 → length (decimal n) ≡ 1
leads zero small h = omega (arith, length-decimal-le 1 0 (omega arith) (omega arith) small, decimal_nonempty 0 small)
leads (suc n) small h = absurd (omega (arith, first_decimal (suc n) (omega arith) small))

number_again : (n : ℕ) → n < 2 ^ 64 - 1 → number_of (decimal n) ≡ Some n
number_again n small =
    let is : is_decimal (decimal n) ≡ true = decimal_is (decimal n) (digits_decimal own n (omega arith)) (decimal_nonempty n (omega arith)) (leads n (omega arith)) in
    let value : digits_value 10 (decimal n) ≡ n = digits_value-decimal own n (omega arith) in
    let least : min (digits_value 10 (decimal n)) (2 ^ 64 - 1) ≡ n = omega arith in
    meet (is_decimal (decimal n)) _ _ is ∙ ap (λ v. Some v) least

-- no digit is a space or a line feed
digits_pass : (c : ℕ) (ds : List ℕ) → c < 48 → all_ascii_digits ds ≡ true → prefix_len (λ b. not (b == c)) ds ≡ length ds
digits_pass c [] low h = refl
digits_pass c (d ∷ ds) low h =
    let first : is_ascii_digit d ≡ true = grind (arith, common_steps) in
    let others : all_ascii_digits ds ≡ true = grind (arith, common_steps) in
    let more : prefix_len (λ b. not (b == c)) ds ≡ length ds = digits_pass c ds low others in
    rw (ne_eqb d c (λ same. let t = first in grind (arith, nat_tests))) (omega arith)

decimal_passes : (c n : ℕ) → c < 48 → n < 2 ^ 64 - 1 → prefix_len (λ b. not (b == c)) (decimal n) ≡ length (decimal n)
decimal_passes c n low small = digits_pass c (decimal n) low (digits_decimal own n (omega arith))

passes_append : (p : ℕ → Bool) (xs ys : List ℕ) → prefix_len p xs ≡ length xs → prefix_len p ys ≡ length ys → prefix_len p (xs ++ ys) ≡ length (xs ++ ys)
passes_append p xs ys a b = rw (prefix_len-append p xs ys, eq-eqb (prefix_len p xs) (length xs) a, length-append xs ys) (omega arith)

drop_word : (ds rest : List ℕ) → drop (length ds + 1) (ds ++ 32 ∷ rest) ≡ rest
drop_word ds rest = ap (drop (length ds + 1)) (sym (append_assoc ds (32 ∷ []) rest)) ∙ drop_at (ds ++ 32 ∷ []) rest (length ds + 1) (length-append ds (32 ∷ []))

space_at : (ds rest : List ℕ) → prefix_len (λ b. not (b == 32)) ds ≡ length ds → position (λ b. b == 32) (ds ++ 32 ∷ rest) ≡ Some (length ds)
space_at ds rest h =
    let k : prefix_len (λ b. not (b == 32)) (ds ++ 32 ∷ rest) ≡ length ds =
    rw (prefix_len-append (λ b. not (b == 32)) ds (32 ∷ rest), eq-eqb (prefix_len (λ b. not (b == 32)) ds) (length ds) h) (omega arith) in
    let within : nat_lt (prefix_len (λ b. not (b == 32)) (ds ++ 32 ∷ rest)) (length (ds ++ 32 ∷ rest)) ≡ true = let l = length-append ds (32 ∷ rest) in grind (arith, nat_tests) in
    meet _ _ _ within ∙ ap (λ v. Some v) k

rest_again : (n : ℕ) (rest : List ℕ) → n < 2 ^ 64 - 1 → number_and_rest (decimal n ++ 32 ∷ rest) ≡ Some (n, rest)
rest_again n rest small =
    let text = decimal n ++ 32 ∷ rest in
    let split : number_of (take (length (decimal n)) text) ≡ Some n = ap number_of (take_at (decimal n) (32 ∷ rest) (length (decimal n)) refl) ∙ number_again n small in
    ap (λ (o : Option ℕ). o >?= λ space. number_of (take space text) >?= λ m. Some (m, drop (space + 1) text)) (space_at (decimal n) rest (decimal_passes 32 n (omega arith) small))
    ∙ (ap (λ (o : Option ℕ). o >?= λ m. Some (m, drop (length (decimal n) + 1) text)) split ∙ ap (λ v. Some (n, v)) (drop_word (decimal n) rest))

two_again : (a b : ℕ) → a < 2 ^ 64 - 1 → b < 2 ^ 64 - 1 → two_numbers (decimal a ++ 32 ∷ decimal b) ≡ Some (a, b)
two_again a b sa sb =
    ap (λ (o : Option (ℕ × List ℕ)). o >?= λ first. number_of first.1 >?= λ second. Some (first.0, second)) (rest_again a (decimal b) sa)
    ∙ ap (λ (o : Option ℕ). o >?= λ second. Some (a, second)) (number_again b sb)

three_again : (a b c : ℕ) → a < 2 ^ 64 - 1 → b < 2 ^ 64 - 1 → c < 2 ^ 64 - 1 → three_numbers (decimal a ++ 32 ∷ (decimal b ++ 32 ∷ decimal c)) ≡ Some (a, b, c)
three_again a b c sa sb sc =
    ap (λ (o : Option (ℕ × List ℕ)). o >?= λ first. number_and_rest first.1 >?= λ second. number_of second.1 >?= λ third. Some (first.0, second.0, third)) (rest_again a (decimal b ++ 32 ∷ decimal c) sa)
    ∙ (ap (λ (o : Option (ℕ × List ℕ)). o >?= λ second. number_of second.1 >?= λ third. Some (a, second.0, third)) (rest_again b (decimal c) sb)
    ∙ ap (λ (o : Option ℕ). o >?= λ third. Some (a, b, third)) (number_again c sc))

-- ---- lines

piece_words : (a b c : List ℕ) → codes "piece " ++ a ++ codes " " ++ b ++ codes " " ++ c ≡ codes "piece " ++ (a ++ 32 ∷ (b ++ 32 ∷ c))
piece_words a b c = simp append_assoc

end_words : (a b : List ℕ) → codes "end " ++ a ++ codes " " ++ b ≡ codes "end " ++ (a ++ 32 ∷ b)
end_words a b = simp append_assoc

tier_words : (a b : List ℕ) → codes "tier " ++ a ++ codes " " ++ b ≡ codes "tier " ++ (a ++ 32 ∷ b)
tier_words a b = simp append_assoc

-- a line that can be read: no line feed in it, and not too long
record IsLine (line : List ℕ) : Type 0 where
  feeds : prefix_len (λ b. not (b == 10)) line ≡ length line
  short : length line ≤ 64

digits_short : (k n : ℕ) → 0 < k → n < 10 ^ k → n < 2 ^ 64 - 1 → length (decimal n) ≤ k
digits_short k n some small wide = length-decimal-le k n some small (omega arith)

piece_is_line : (t c l : ℕ) → t ≤ max_tick → c ≤ 65535 → l ≤ max_piece_bytes → IsLine (piece_line t c l)
piece_is_line t c l ht hc hl =
    let T = decimal t in let C = decimal c in let L = decimal l in
    let nl = λ (n : ℕ) (h : n < 2 ^ 64 - 1). decimal_passes 10 n (omega arith) h in
    let tail : prefix_len (λ b. not (b == 10)) (T ++ 32 ∷ (C ++ 32 ∷ L)) ≡ length (T ++ 32 ∷ (C ++ 32 ∷ L)) =
    passes_append _ T (32 ∷ (C ++ 32 ∷ L)) (nl t (omega arith)) (passes_append _ (32 ∷ []) (C ++ 32 ∷ L) refl (passes_append _ C (32 ∷ L) (nl c (omega arith)) (passes_append _ (32 ∷ []) L refl (nl l (omega arith))))) in
    subst (λ (w : List ℕ). IsLine w) (sym (piece_words T C L)) (record {
      feeds = passes_append _ (codes "piece ") (T ++ 32 ∷ (C ++ 32 ∷ L)) refl tail;
      short = omega (arith, digits_short 16 t (omega arith) (omega arith) (omega arith), digits_short 5 c (omega arith) (omega arith) (omega arith), digits_short 5 l (omega arith) (omega arith) (omega arith), length-append T (32 ∷ (C ++ 32 ∷ L)), length-append C (32 ∷ L));
    })

end_is_line : (t c : ℕ) → t ≤ max_tick → c ≤ 65535 → IsLine (end_line t c)
end_is_line t c ht hc =
    let T = decimal t in let C = decimal c in
    let tail : prefix_len (λ b. not (b == 10)) (T ++ 32 ∷ C) ≡ length (T ++ 32 ∷ C) =
    passes_append _ T (32 ∷ C) (decimal_passes 10 t (omega arith) (omega arith)) (passes_append _ (32 ∷ []) C refl (decimal_passes 10 c (omega arith) (omega arith))) in
    subst (λ (w : List ℕ). IsLine w) (sym (end_words T C)) (record {
      feeds = passes_append _ (codes "end ") (T ++ 32 ∷ C) refl tail;
      short = omega (arith, digits_short 16 t (omega arith) (omega arith) (omega arith), digits_short 5 c (omega arith) (omega arith) (omega arith), length-append T (32 ∷ C));
    })

tier_is_line : (c t : ℕ) → c ≤ 65535 → t ≤ max_tier → IsLine (tier_line c t)
tier_is_line c t hc ht =
    let C = decimal c in let T = decimal t in
    let tail : prefix_len (λ b. not (b == 10)) (C ++ 32 ∷ T) ≡ length (C ++ 32 ∷ T) =
    passes_append _ C (32 ∷ T) (decimal_passes 10 c (omega arith) (omega arith)) (passes_append _ (32 ∷ []) T refl (decimal_passes 10 t (omega arith) (omega arith))) in
    subst (λ (w : List ℕ). IsLine w) (sym (tier_words C T)) (record {
      feeds = passes_append _ (codes "tier ") (C ++ 32 ∷ T) refl tail;
      short = omega (arith, digits_short 5 c (omega arith) (omega arith) (omega arith), digits_short 1 t (omega arith) (omega arith) (omega arith), length-append C (32 ∷ T));
    })

stop_is_line : (n : ℕ) → n < 2 ^ 64 - 1 → IsLine (codes "stop " ++ decimal n)
stop_is_line n small = record {
  feeds = passes_append _ (codes "stop ") (decimal n) refl (decimal_passes 10 n (omega arith) small);
  short = omega (arith, digits_short 20 n (omega arith) (omega arith) small);
}

line_again : (line t : List ℕ) (l nl : ℕ) → IsLine line → l ≡ length line + (1 + nl) → line_at (record { bytes = line ++ 10 ∷ t; left = l }) ≡ Ok (line, record { bytes = t; left = nl })
line_again line t l nl is left = line_whole line t l nl is.feeds is.short left

piece_heading_again : (v : Version) (t c l : ℕ) → t < 2 ^ 64 - 1 → c < 2 ^ 64 - 1 → l < 2 ^ 64 - 1 → heading_of v (piece_line t c l) ≡ Ok (headings.Piece (record { tick = t; conn = c; len = l }))
piece_heading_again v t c l st sc sl =
    ap (heading_of v) (piece_words (decimal t) (decimal c) (decimal l)) ∙ ap piece_heading (three_again t c l st sc sl)

end_heading_again : (v : Version) (t c : ℕ) → t < 2 ^ 64 - 1 → c < 2 ^ 64 - 1 → heading_of v (end_line t c) ≡ Ok (headings.End (record { tick = t; conn = c }))
end_heading_again v t c st sc = ap (heading_of v) (end_words (decimal t) (decimal c)) ∙ ap end_heading (two_again t c st sc)

tier_heading_again : (v : Version) (c t : ℕ) → (format_of v).has_tiers ≡ true → c < 2 ^ 64 - 1 → t < 2 ^ 64 - 1 → heading_of v (tier_line c t) ≡ Ok (headings.Tier (record { conn = c; tier = t }))
tier_heading_again One c t has sc st = absurd cc
tier_heading_again Two c t has sc st = ap (heading_of Two) (tier_words (decimal c) (decimal t)) ∙ ap tier_heading (two_again c t sc st)
tier_heading_again Traffic c t has sc st = ap (heading_of Traffic) (tier_words (decimal c) (decimal t)) ∙ ap tier_heading (two_again c t sc st)

stop_heading_again : (v : Version) (n : ℕ) → n < 2 ^ 64 - 1 → heading_of v (codes "stop " ++ decimal n) ≡ Ok (headings.Stop n)
stop_heading_again v n small = ap stop_heading (number_again n small)

-- ---- records

byte_again : (c : ℕ) (t : List ℕ) (l nl : ℕ) → l ≡ 1 + nl → byte_at (record { bytes = c ∷ t; left = l }) ≡ Ok (c, record { bytes = t; left = nl })
byte_again c t l nl h =
    let a : Ahead = record { bytes = c ∷ t; left = l } in
    let there : nat_lt 0 (length (available a)) ≡ true = let s = length-take l (c ∷ t) in grind (arith, nat_tests) in
    let less : l - 1 ≡ nl = omega arith in
    meet (nat_lt 0 (length (available a))) (Ok (c, beyond 1 a)) (Err (ended a)) there
    ∙ ap (λ (k : ℕ). let r : Result (ℕ × Ahead) Stop = Ok (c, record { bytes = t; left = k }) in r) less

run_again : (n : ℕ) (run t : List ℕ) (l nl : ℕ) → length run ≡ n → l ≡ n + nl → run_at n (record { bytes = run ++ t; left = l }) ≡ Ok (run, record { bytes = t; left = nl })
run_again n run t l nl is left =
    let a : Ahead = record { bytes = run ++ t; left = l } in
    let there : nat_le n (length (available a)) ≡ true = let s = length-take l (run ++ t) in let m = length-append run t in grind (arith, nat_tests) in
    let bytes : take n (run ++ t) ≡ run = take_at run t n is in
    let rest : drop n (run ++ t) ≡ t = drop_at run t n is in
    let less : l - n ≡ nl = omega arith in
    meet (nat_le n (length (available a))) (Ok (take n (run ++ t), beyond n a)) (Err (ended a)) there
    ∙ ap (λ (v : List ℕ × Ahead). let r : Result (List ℕ × Ahead) Stop = Ok v in r) (λ i. (bytes i, record { bytes = rest i; left = less i }))

open_again : (v : Version) (past : Past) (conn : ℕ) → conn ≤ (format_of v).last_connection → past.ended conn ≡ false → open_connection v past conn ≡ Ok conn
open_again v past conn few live =
    let c : nat_lt (format_of v).last_connection conn ≡ false = grind (arith, nat_tests) in
    pass (nat_lt (format_of v).last_connection conn) _ _ c ∙ pass (past.ended conn) _ _ live

allowed_again : (v : Version) (past : Past) (tick conn : ℕ) → tick ≤ max_tick → past.tick ≤ tick → conn ≤ (format_of v).last_connection → past.ended conn ≡ false → allowed v past tick conn ≡ Ok conn
allowed_again v past tick conn in_time rising few live =
    let a : nat_lt max_tick tick ≡ false = grind (arith, nat_tests) in
    let b : nat_lt tick past.tick ≡ false = grind (arith, nat_tests) in
    pass (nat_lt max_tick tick || nat_lt tick past.tick) _ _ (neither _ _ a b) ∙ open_again v past conn few live

tier_again : (v : Version) (past : Past) (conn tier : ℕ) → conn ≤ (format_of v).last_connection → past.ended conn ≡ false → past.used conn ≡ false → tier ≤ max_tier
    → tier_record v past (record { conn = conn; tier = tier }) ≡ Ok (Tier conn tier)
tier_again v past conn tier few live unused low =
    let a : nat_lt max_tier tier ≡ false = grind (arith, nat_tests) in
    bind_is (open_connection v past conn) _ conn (open_again v past conn few live)
    ∙ pass (nat_lt max_tier tier || past.used conn) _ _ (neither _ _ a unused)

body_again : (n : ℕ) (bytes t : List ℕ) (l nl : ℕ) → length bytes ≡ n → l ≡ n + (1 + nl) → body_at n (record { bytes = bytes ++ line_feed ∷ t; left = l }) ≡ Ok (bytes, record { bytes = t; left = nl })
body_again n bytes t l nl is left =
    let mid : Ahead = record { bytes = line_feed ∷ t; left = 1 + nl } in
    let last : Ahead = record { bytes = t; left = nl } in
    bind_is (named kind_of (run_at n (record { bytes = bytes ++ line_feed ∷ t; left = l }))) _ (bytes, mid) (named_is kind_of _ (bytes, mid) (run_again n bytes (line_feed ∷ t) l (1 + nl) is left))
    ∙ bind_is (named kind_of (byte_at mid)) _ (line_feed, last) (named_is kind_of _ (line_feed, last) (byte_again line_feed t (1 + nl) nl refl))

line_then : (line rest t : List ℕ) → (line ++ line_feed ∷ rest) ++ t ≡ line ++ line_feed ∷ (rest ++ t)
line_then line rest t = append_assoc line (line_feed ∷ rest) t

-- a record's text is read as the record
pub record_again : (v : Version) (past : Past) (r : Record) (t : List ℕ) (l nl : ℕ) → Follows v past r → l ≡ length (record_text r) + nl
    → record_at v past (record { bytes = record_text r ++ t; left = l }) ≡ Ok (Some r, record { bytes = t; left = nl })
record_again v past (Piece tick conn bytes) t l nl (rising, live, (in_time, few, some, short)) left =
    let line = piece_line tick conn (length bytes) in
    let body = bytes ++ line_feed ∷ [] in
    let few_enough = few_connections v in
    let is = piece_is_line tick conn (length bytes) in_time (omega arith) short in
    let whole : record_text (Piece tick conn bytes) ++ t ≡ line ++ line_feed ∷ (bytes ++ line_feed ∷ t) = line_then line body t ∙ ap (λ w. line ++ line_feed ∷ w) (append_assoc bytes (line_feed ∷ []) t) in
    let mid : Ahead = record { bytes = bytes ++ line_feed ∷ t; left = length bytes + (1 + nl) } in
    let last : Ahead = record { bytes = t; left = nl } in
    let read : line_at (record { bytes = line ++ line_feed ∷ (bytes ++ line_feed ∷ t); left = l }) ≡ Ok (line, mid) = line_again line (bytes ++ line_feed ∷ t) l (length bytes + (1 + nl)) is (omega (arith, length-append line (line_feed ∷ body), length-append bytes (line_feed ∷ []))) in
    let heading : heading_of v line ≡ Ok (headings.Piece (record { tick = tick; conn = conn; len = length bytes })) = piece_heading_again v tick conn (length bytes) (omega arith) (omega arith) (omega arith) in
    let allow = allowed_again v past tick conn in_time rising few live in
    let sized : (length bytes == 0 || nat_lt max_piece_bytes (length bytes)) ≡ false = neither _ _ (ne_eqb (length bytes) 0 (λ e. omega arith)) (grind (arith, nat_tests)) in
    let piece : piece_at v past (record { tick = tick; conn = conn; len = length bytes }) mid ≡ Ok (Piece tick conn bytes, last) =
    bind_is (allowed v past tick conn) _ conn allow ∙ (pass (length bytes == 0 || nat_lt max_piece_bytes (length bytes)) _ _ sized ∙ bind_is (body_at (length bytes) mid) _ (bytes, last) (body_again (length bytes) bytes t (length bytes + (1 + nl)) nl refl refl)) in
    ap (λ w. record_at v past (record { bytes = w; left = l })) whole
    ∙ (bind_is (named kind_of (line_at (record { bytes = line ++ line_feed ∷ (bytes ++ line_feed ∷ t); left = l }))) _ (line, mid) (named_is kind_of _ (line, mid) read)
    ∙ (bind_is (heading_of v line) _ _ heading ∙ bind_is (piece_at v past (record { tick = tick; conn = conn; len = length bytes }) mid) _ (Piece tick conn bytes, last) piece))
record_again v past (End tick conn) t l nl (rising, live, (in_time, few)) left =
    let line = end_line tick conn in
    let few_enough = few_connections v in
    let is = end_is_line tick conn in_time (omega arith) in
    let last : Ahead = record { bytes = t; left = nl } in
    let read : line_at (record { bytes = line ++ line_feed ∷ t; left = l }) ≡ Ok (line, last) = line_again line t l nl is (omega (arith, length-append line (line_feed ∷ []))) in
    let heading = end_heading_again v tick conn (omega arith) (omega arith) in
    ap (λ w. record_at v past (record { bytes = w; left = l })) (line_then line [] t)
    ∙ (bind_is (named kind_of (line_at (record { bytes = line ++ line_feed ∷ t; left = l }))) _ (line, last) (named_is kind_of _ (line, last) read)
    ∙ (bind_is (heading_of v line) _ _ heading ∙ bind_is (allowed v past tick conn) _ conn (allowed_again v past tick conn in_time rising few live)))
record_again v past (Tier conn tier) t l nl (live, unused, (has, few, low)) left =
    let line = tier_line conn tier in
    let few_enough = few_connections v in
    let is = tier_is_line conn tier (omega arith) low in
    let last : Ahead = record { bytes = t; left = nl } in
    let read : line_at (record { bytes = line ++ line_feed ∷ t; left = l }) ≡ Ok (line, last) = line_again line t l nl is (omega (arith, length-append line (line_feed ∷ []))) in
    let heading = tier_heading_again v conn tier has (omega arith) (omega arith) in
    ap (λ w. record_at v past (record { bytes = w; left = l })) (line_then line [] t)
    ∙ (bind_is (named kind_of (line_at (record { bytes = line ++ line_feed ∷ t; left = l }))) _ (line, last) (named_is kind_of _ (line, last) read)
    ∙ (bind_is (heading_of v line) _ _ heading ∙ bind_is (tier_record v past (record { conn = conn; tier = tier })) _ (Tier conn tier) (tier_again v past conn tier few live unused low)))

-- the last line, after which the input ends, is read as the end
pub stop_again : (v : Version) (past : Past) (l nl : ℕ) → past.count < 2 ^ 64 - 1 → l ≡ length (stop_text past.count) + nl
    → record_at v past (record { bytes = stop_text past.count; left = l }) ≡ Ok (None, record { bytes = []; left = nl })
stop_again v past l nl small left =
    let line = codes "stop " ++ decimal past.count in
    let last : Ahead = record { bytes = []; left = nl } in
    let read : line_at (record { bytes = line ++ line_feed ∷ []; left = l }) ≡ Ok (line, last) = line_again line [] l nl (stop_is_line past.count small) (omega (arith, length-append line (line_feed ∷ []))) in
    bind_is (named kind_of (line_at (record { bytes = line ++ line_feed ∷ []; left = l }))) _ (line, last) (named_is kind_of _ (line, last) read)
    ∙ (bind_is (heading_of v line) _ _ (stop_heading_again v past.count small) ∙ meet (past.count == past.count) _ _ (eq-eqb past.count past.count refl))

-- the first line is a line, and tells its version
first_is_line : (v : Version) (start : ℕ) → start < 2 ^ 64 - 1 → IsLine (first_line v start)
first_is_line One start small = record {
  feeds = passes_append _ (format_of One).opening (decimal start) refl (decimal_passes 10 start (omega arith) small);
  short = omega (arith, digits_short 20 start (omega arith) (omega arith) small, length-append (format_of One).opening (decimal start));
}
first_is_line Two start small = record {
  feeds = passes_append _ (format_of Two).opening (decimal start) refl (decimal_passes 10 start (omega arith) small);
  short = omega (arith, digits_short 20 start (omega arith) (omega arith) small, length-append (format_of Two).opening (decimal start));
}
first_is_line Traffic start small = record {
  feeds = passes_append _ (format_of Traffic).opening (decimal start) refl (decimal_passes 10 start (omega arith) small);
  short = omega (arith, digits_short 20 start (omega arith) (omega arith) small, length-append (format_of Traffic).opening (decimal start));
}

start_again : (v : Version) (start : ℕ) → start ≤ max_start → start_heading v (number_of (decimal start)) ≡ Ok (v, start)
start_again v start in_time =
    let on_time : nat_lt max_start start ≡ false = grind (arith, nat_tests) in
    ap (start_heading v) (number_again start (omega arith)) ∙ pass (nat_lt max_start start) _ _ on_time

first_again : (v : Version) (start : ℕ) → start ≤ max_start → start_of (first_line v start) ≡ Ok (v, start)
first_again One start in_time = start_again One start in_time
first_again Two start in_time = start_again Two start in_time
first_again Traffic start in_time = start_again Traffic start in_time

-- the first line is read as its version and its start
pub header_again : (v : Version) (start : ℕ) (t : List ℕ) (l nl : ℕ) → start ≤ max_start → l ≡ length (first_line v start ++ line_feed ∷ []) + nl
    → header_at (record { bytes = (first_line v start ++ line_feed ∷ []) ++ t; left = l }) ≡ Ok ((v, start), record { bytes = t; left = nl })
header_again v start t l nl in_time left =
    let line = first_line v start in
    let last : Ahead = record { bytes = t; left = nl } in
    let is = first_is_line v start (omega arith) in
    let read : line_at (record { bytes = line ++ line_feed ∷ t; left = l }) ≡ Ok (line, last) = line_again line t l nl is (omega (arith, length-append line (line_feed ∷ []))) in
    ap (λ w. header_at (record { bytes = w; left = l })) (line_then line [] t)
    ∙ (bind_is (named header_kind_of (line_at (record { bytes = line ++ line_feed ∷ t; left = l }))) _ (line, last) (named_is header_kind_of _ (line, last) read)
    ∙ bind_is (start_of line) _ (v, start) (first_again v start in_time))

-- a test of two lists, the other way round
turned : (xs ys : List ℕ) → pointwise nat_eq xs ys ≡ false → pointwise nat_eq ys xs ≡ false
turned xs ys h = go (pointwise nat_eq ys xs) refl
  where
    go : (b : Bool) → pointwise nat_eq ys xs ≡ b → b ≡ false
    go false e = refl
    go true e =
        let same : ys ≡ xs = (slice_eq-Decides Decides-eqb ys xs true (sym e)).0 refl in
        let back : pointwise nat_eq xs ys ≡ true = (slice_eq-Decides Decides-eqb xs ys (pointwise nat_eq xs ys) refl).1 (sym same) in
        absurd (let t = h in cc)

-- a line that begins as a format's doesn't, or does
pub opens_not : (v : Version) (line : List ℕ) → pointwise nat_eq (take (length (format_of v).opening) line) (format_of v).opening ≡ false → opens v line ≡ false
opens_not v line h = turned (take (length (format_of v).opening) line) (format_of v).opening h

-- there is room for the first line in each format
pub room_for_header : (v : Version) (start : ℕ) → start ≤ max_start → length (first_line v start ++ line_feed ∷ []) ≤ (format_of v).max_text_bytes
room_for_header v start in_time = let short = (first_is_line v start (omega (arith, in_time))).short in omega (arith, short, room_for_first v, length-append (first_line v start) (line_feed ∷ []))

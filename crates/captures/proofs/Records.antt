-- What a record takes of a text.
use Rattle.std.proofs.Common.{◌≡◌, ℕ, ◌-◌, ◌^◌, ◌<◌, ◌≤◌, ◌==◌, ◌||◌, nat_lt, Bool, true, false, List, [], ◌∷◌, ◌++◌, length, Option, Some, None, Ok, refl, sym, ap, ◌∙◌, subst, arith, codes, decimal}
use Rattle.std.proofs.lemmas.Bool.Decides.{nat_tests, Decides-eqb}
use Rattle.std.proofs.lemmas.List.{append_assoc, append-nil, length-append}
use Rattle.devices.specs.Reference.{line_feed}
use Rattle.devices.specs.Texts.{Ahead, line_at, run_at, byte_at}
use Rattle.devices.proofs.Inverse.{TakesAhead, ahead_then, unless_ok, when_ok, ok_is, line_inverse, run_inverse, byte_takes}
use Rattle.captures.specs.Reference.{format_of, piece_line, record_text, max_tick, max_piece_bytes, max_tier}
use Rattle.captures.specs.Captures.{Past, size_of, Follows}
use Rattle.captures.specs.declared.version.Version.{Version}
use Rattle.captures.specs.CaptureFaults.{kind_of, named, heading_of, IsHeadingOf, open_connection, allowed, body_at, piece_at, tier_record, close_at, announced, record_at}
use Rattle.captures.specs.declared.record.Record.{Record}
use Rattle.captures.specs.declared.record.Record.TheVariants.{Piece, End, Tier}
use Rattle.captures.specs.declared.headings.PieceLine.{PieceLine}
use Rattle.captures.specs.declared.headings.TierLine.{TierLine}
use Rattle.captures.specs.declared.headings.Heading.{Heading}
use Rattle.captures.specs.declared.headings.Heading.TheVariants as headings
use Rattle.captures.specs.declared.capture_fault.CaptureFaultKind.{CaptureFaultKind}
use Rattle.captures.specs.declared.capture_fault.CaptureFaultKind.TheVariants.{Tick, Connection, Ended, Tier as LateTier, Length, Count, Trailing}
use Rattle.captures.proofs.Lines.{bind_ok, named_ok, piece_line_inverse, end_line_inverse, tier_line_inverse, stop_line_inverse, heading_has, few_connections}

-- the last line after n records
abbrev pub stop_text : ℕ → List ℕ
stop_text count = (codes "stop " ++ decimal count) ++ line_feed ∷ []

-- what was read after a past: a record, or the last line, after which the input ends
abbrev pub next_text : Past → Option Record → List ℕ
next_text past None = stop_text past.count
next_text past (Some r) = record_text r

abbrev pub EndsIfNone : Option Record → Ahead → Type 0
EndsIfNone None b = b.bytes ≡ []
EndsIfNone (Some r) b = Unit {0}

either_false : (b c : Bool) → (b || c) ≡ false → (b ≡ false) × (c ≡ false)
either_false true c h = absurd cc
either_false false c h = (refl, h)

open_inverse : (v : Version) (past : Past) (conn c : ℕ) → open_connection v past conn ≡ Ok c → (c ≡ conn) × (conn ≤ (format_of v).last_connection) × (past.ended conn ≡ false)
open_inverse v past conn c h =
    let limit = unless_ok (nat_lt (format_of v).last_connection conn) Connection _ _ h in
    let last = unless_ok (past.ended conn) Ended _ _ limit.1 in
    let same : conn ≡ c = ok_is {A = ℕ} {E = CaptureFaultKind} _ _ _ _ refl refl last.1 in
    (sym same, let t = limit.0 in grind (arith, nat_tests), last.0)

allowed_inverse : (v : Version) (past : Past) (tick conn c : ℕ) → allowed v past tick conn ≡ Ok c → (c ≡ conn) × (tick ≤ max_tick) × (conn ≤ (format_of v).last_connection) × (past.tick ≤ tick) × (past.ended conn ≡ false)
allowed_inverse v past tick conn c h =
    let time = unless_ok (nat_lt max_tick tick || nat_lt tick past.tick) Tick _ _ h in
    let names = open_inverse v past conn c time.1 in
    let late = either_false (nat_lt max_tick tick) (nat_lt tick past.tick) time.0 in (
      names.0,
      let t = late.0 in grind (arith, nat_tests),
      names.1,
      let t = late.1 in grind (arith, nat_tests),
      names.2,
    )

-- what a tier's line said
record GivesTier (v : Version) (past : Past) (l : TierLine) (r : Record) : Type 0 where
  is : r ≡ Tier l.conn l.tier
  in_conn : l.conn ≤ (format_of v).last_connection
  in_tier : l.tier ≤ max_tier
  follows : (format_of v).has_tiers ≡ true → Follows v past r

tier_inverse : (v : Version) (past : Past) (l : TierLine) (r : Record) → tier_record v past l ≡ Ok r → GivesTier v past l r
tier_inverse v past l r h =
    let conn = bind_ok (open_connection v past l.conn) _ _ h in
    let names = open_inverse v past l.conn conn.0 conn.1 in
    let good = unless_ok (nat_lt max_tier l.tier || past.used conn.0) LateTier _ _ conn.2 in
    let parts = either_false (nat_lt max_tier l.tier) (past.used conn.0) good.0 in
    let made : Tier conn.0 l.tier ≡ r = ok_is {A = Record} {E = CaptureFaultKind} _ _ _ _ refl refl good.1 in
    let is : r ≡ Tier l.conn l.tier = sym made ∙ ap (λ c. Tier c l.tier) names.0 in
    let in_tier : l.tier ≤ max_tier = let t = parts.0 in grind (arith, nat_tests) in
    let unused : past.used l.conn ≡ false = sym (ap past.used names.0) ∙ parts.1 in
    record {
      is = is;
      in_conn = names.1;
      in_tier = in_tier;
      follows = λ has. subst (λ (q : Record). Follows v past q) (sym is) (names.2, unused, (has, names.1, in_tier));
    }

body_inverse : (n : ℕ) (a b : Ahead) (bytes : List ℕ) → body_at n a ≡ Ok (bytes, b) → TakesAhead a (bytes ++ line_feed ∷ []) b × (length bytes ≡ n)
body_inverse n a b bytes h =
    let run = bind_ok (named kind_of (run_at n a)) _ _ h in
    let run_read = run_inverse n a run.0.1 run.0.0 (named_ok kind_of (run_at n a) run.0 run.1) in
    let end = bind_ok (named kind_of (byte_at run.0.1)) _ _ run.2 in
    let end_read = byte_takes run.0.1 end.0.1 end.0.0 (named_ok kind_of (byte_at run.0.1) end.0 end.1) in
    let good = when_ok (end.0.0 == line_feed) Length _ _ end.2 in
    let pair : (run.0.0, end.0.1) ≡ (bytes, b) = ok_is {A = List ℕ × Ahead} {E = CaptureFaultKind} _ _ _ _ refl refl good.1 in
    let is_feed : end.0.0 ≡ line_feed = (Decides-eqb end.0.0 line_feed).0 good.0 in
    let took = ahead_then a run.0.1 end.0.1 run.0.0 (end.0.0 ∷ []) run_read.0 end_read in (
      subst (λ (v : List ℕ × Ahead). TakesAhead a (v.0 ++ line_feed ∷ []) v.1) pair (subst (λ (c : ℕ). TakesAhead a (run.0.0 ++ c ∷ []) end.0.1) is_feed took),
      sym (ap (λ (p : List ℕ × Ahead). length p.0) pair) ∙ run_read.1,
    )

-- what a piece's bytes take, and what its line said
record TakesPiece (v : Version) (past : Past) (a : Ahead) (l : PieceLine) (r : Record) (b : Ahead) : Type 0 where
  bytes : List ℕ
  is : r ≡ Piece l.tick l.conn bytes
  took : TakesAhead a (bytes ++ line_feed ∷ []) b
  len : length bytes ≡ l.len
  in_tick : l.tick ≤ max_tick
  in_conn : l.conn ≤ (format_of v).last_connection
  in_len : l.len ≤ max_piece_bytes
  follows : Follows v past r

piece_inverse : (v : Version) (past : Past) (l : PieceLine) (a b : Ahead) (r : Record) → piece_at v past l a ≡ Ok (r, b) → TakesPiece v past a l r b
piece_inverse v past l a b r h =
    let conn = bind_ok (allowed v past l.tick l.conn) _ _ h in
    let within = allowed_inverse v past l.tick l.conn conn.0 conn.1 in
    let sized = unless_ok (l.len == 0 || nat_lt max_piece_bytes l.len) Length _ _ conn.2 in
    let body = bind_ok (body_at l.len a) _ _ sized.1 in
    let read = body_inverse l.len a body.0.1 body.0.0 body.1 in
    let pair : (Piece l.tick conn.0 body.0.0, body.0.1) ≡ (r, b) = ok_is {A = Record × Ahead} {E = CaptureFaultKind} _ _ _ _ refl refl body.2 in
    let long = either_false (l.len == 0) (nat_lt max_piece_bytes l.len) sized.0 in
    let is : r ≡ Piece l.tick l.conn body.0.0 = sym (ap (λ (p : Record × Ahead). p.0) pair) ∙ ap (λ c. Piece l.tick c body.0.0) within.0 in
    let in_len : l.len ≤ max_piece_bytes = let t = long.1 in grind (arith, nat_tests) in
    let some : 0 < l.len = let t = long.0 in grind (arith, nat_tests) in
    record {
      bytes = body.0.0;
      is = is;
      took = subst (λ (x : Ahead). TakesAhead a (body.0.0 ++ line_feed ∷ []) x) (ap (λ (p : Record × Ahead). p.1) pair) read.0;
      len = read.1;
      in_tick = within.1;
      in_conn = within.2;
      in_len = in_len;
      follows = subst (λ (q : Record). Follows v past q) (sym is) (within.3, within.4, (within.1, within.2, (let n = read.1 in omega arith), (let n = read.1 in omega arith)));
    }

piece_parts : (w a b c bytes : List ℕ) → ((w ++ (a ++ 32 ∷ (b ++ 32 ∷ c))) ++ 10 ∷ []) ++ (bytes ++ 10 ∷ []) ≡ (w ++ a ++ (32 ∷ []) ++ b ++ (32 ∷ []) ++ c) ++ 10 ∷ (bytes ++ 10 ∷ [])
piece_parts w a b c bytes = simp append_assoc

end_parts : (w a b : List ℕ) → ((w ++ (a ++ 32 ∷ b)) ++ 10 ∷ []) ++ [] ≡ (w ++ a ++ (32 ∷ []) ++ b) ++ 10 ∷ []
end_parts w a b = append-nil _ ∙ simp append_assoc

tier_parts : (w a b : List ℕ) → ((w ++ (a ++ 32 ∷ b)) ++ 10 ∷ []) ++ [] ≡ (w ++ a ++ (32 ∷ []) ++ b) ++ 10 ∷ []
tier_parts w a b = end_parts w a b

-- what a heading announced takes, after its line
Takes : List ℕ → Past → Option Record → Ahead → Ahead → Type 0
Takes line past o a b = (rest : List ℕ) × TakesAhead a rest b × ((line ++ line_feed ∷ []) ++ rest ≡ next_text past o) × EndsIfNone o b

announced_takes : (v : Version) (past : Past) (line : List ℕ) (heading : Heading) (a b : Ahead) (o : Option Record) → past.count < 2 ^ 64 - 1
    → heading_of v line ≡ Ok heading → announced v past heading a ≡ Ok (o, b) → Takes line past o a b
unfolding Takes
announced_takes v past line (headings.Piece l) a b o small is h =
    let piece = bind_ok (piece_at v past l a) _ _ h in
    let t = piece_inverse v past l a piece.0.1 piece.0.0 piece.1 in
    let pair : (Some piece.0.0, piece.0.1) ≡ (o, b) = ok_is {A = Option Record × Ahead} {E = CaptureFaultKind} _ _ _ _ refl refl piece.2 in
    let text = piece_line_inverse v line l is (let x = t.in_tick in omega arith) (let x = t.in_conn in omega (arith, few_connections v)) (let x = t.in_len in omega arith) in
    let whole : (line ++ line_feed ∷ []) ++ (t.bytes ++ line_feed ∷ []) ≡ record_text (Piece l.tick l.conn t.bytes) =
    ap (λ w. (w ++ line_feed ∷ []) ++ (t.bytes ++ line_feed ∷ [])) text ∙ (ap (λ n. ((codes "piece " ++ (decimal l.tick ++ 32 ∷ (decimal l.conn ++ 32 ∷ decimal n))) ++ line_feed ∷ []) ++ (t.bytes ++ line_feed ∷ [])) (sym t.len)
    ∙ piece_parts (codes "piece ") (decimal l.tick) (decimal l.conn) (decimal (length t.bytes)) t.bytes) in
    subst (λ (p : Option Record × Ahead). (rest : List ℕ) × TakesAhead a rest p.1 × ((line ++ line_feed ∷ []) ++ rest ≡ next_text past p.0) × EndsIfNone p.0 p.1) pair
    (t.bytes ++ line_feed ∷ [], t.took, whole ∙ ap record_text (sym t.is), tt)
announced_takes v past line (headings.End l) a b o small is h =
    let conn = bind_ok (allowed v past l.tick l.conn) _ _ h in
    let within = allowed_inverse v past l.tick l.conn conn.0 conn.1 in
    let pair : (Some (End l.tick conn.0), a) ≡ (o, b) = ok_is {A = Option Record × Ahead} {E = CaptureFaultKind} _ _ _ _ refl refl conn.2 in
    let text = end_line_inverse v line l is (let x = within.1 in omega arith) (let x = within.2 in omega (arith, few_connections v)) in
    let whole : (line ++ line_feed ∷ []) ++ [] ≡ record_text (End l.tick l.conn) =
    ap (λ w. (w ++ line_feed ∷ []) ++ []) text ∙ end_parts (codes "end ") (decimal l.tick) (decimal l.conn) in
    subst (λ (p : Option Record × Ahead). (rest : List ℕ) × TakesAhead a rest p.1 × ((line ++ line_feed ∷ []) ++ rest ≡ next_text past p.0) × EndsIfNone p.0 p.1) pair
    ([], record { bytes = refl; left = omega arith }, whole ∙ ap (λ c. record_text (End l.tick c)) (sym within.0), tt)
announced_takes v past line (headings.Tier l) a b o small is h =
    let tier = bind_ok (tier_record v past l) _ _ h in
    let t = tier_inverse v past l tier.0 tier.1 in
    let pair : (Some tier.0, a) ≡ (o, b) = ok_is {A = Option Record × Ahead} {E = CaptureFaultKind} _ _ _ _ refl refl tier.2 in
    let text = tier_line_inverse v line l is (let x = t.in_conn in omega (arith, few_connections v)) (let x = t.in_tier in omega arith) in
    let whole : (line ++ line_feed ∷ []) ++ [] ≡ record_text (Tier l.conn l.tier) =
    ap (λ w. (w ++ line_feed ∷ []) ++ []) text ∙ tier_parts (codes "tier ") (decimal l.conn) (decimal l.tier) in
    subst (λ (p : Option Record × Ahead). (rest : List ℕ) × TakesAhead a rest p.1 × ((line ++ line_feed ∷ []) ++ rest ≡ next_text past p.0) × EndsIfNone p.0 p.1) pair
    ([], record { bytes = refl; left = omega arith }, whole ∙ ap record_text (sym t.is), tt)
announced_takes v past line (headings.Stop count) a b o small is h =
    let good = when_ok (count == past.count) Count _ _ h in
    let close = bind_ok (close_at a) _ _ good.1 in
    let empty = when_ok (length a.bytes == 0) Trailing _ _ close.1 in
    let same_close : (tt, a) ≡ close.0 = ok_is {A = Unit {0} × Ahead} {E = CaptureFaultKind} _ _ _ _ refl refl empty.1 in
    let pair : (None, close.0.1) ≡ (o, b) = ok_is {A = Option Record × Ahead} {E = CaptureFaultKind} _ _ _ _ refl refl close.2 in
    let here : (None, a) ≡ (o, b) = ap (λ (q : Unit {0} × Ahead). (None, q.1)) same_close ∙ pair in
    let same : count ≡ past.count = (Decides-eqb count past.count).0 good.0 in
    let text = stop_line_inverse v line count is (omega arith) in
    let none : a.bytes ≡ [] = is_nil a.bytes ((Decides-eqb (length a.bytes) 0).0 empty.0) in
    subst (λ (p : Option Record × Ahead). (rest : List ℕ) × TakesAhead a rest p.1 × ((line ++ line_feed ∷ []) ++ rest ≡ next_text past p.0) × EndsIfNone p.0 p.1) here
    ([], record { bytes = refl; left = omega arith }, append-nil (line ++ line_feed ∷ []) ∙ ap (λ w. w ++ line_feed ∷ []) (text ∙ ap (λ n. codes "stop " ++ decimal n) same), none)
  where
    is_nil : (xs : List ℕ) → length xs ≡ 0 → xs ≡ []
    is_nil [] e = refl
    is_nil (x ∷ xs) e = absurd (omega arith)

pub record_takes : (v : Version) (past : Past) (a b : Ahead) (o : Option Record) → past.count < 2 ^ 64 - 1
    → record_at v past a ≡ Ok (o, b) → TakesAhead a (next_text past o) b × EndsIfNone o b
unfolding Takes
record_takes v past a b o small h =
    let line = bind_ok (named kind_of (line_at a)) _ _ h in
    let read = line_inverse a line.0.1 line.0.0 (named_ok kind_of (line_at a) line.0 line.1) in
    let heading = bind_ok (heading_of v line.0.0) _ _ line.2 in
    let t = announced_takes v past line.0.0 heading.0 line.0.1 b o small heading.1 heading.2 in
    (subst (λ (w : List ℕ). TakesAhead a w b) t.2 (ahead_then a line.0.1 b (line.0.0 ++ line_feed ∷ []) t.0 read t.1), t.3)

-- a record's text is longer than what it brings
pub size_below : (r : Record) → size_of r < length (record_text r)
size_below (Piece tick conn bytes) = omega (arith, length-append (piece_line tick conn (length bytes)) (line_feed ∷ (bytes ++ line_feed ∷ [])), length-append bytes (line_feed ∷ []))
size_below (End tick conn) = omega arith
size_below (Tier conn tier) = omega arith

-- a record that was read may stand there
abbrev pub FollowsIfSome : Version → Past → Option Record → Type 0
FollowsIfSome v past None = Unit {0}
FollowsIfSome v past (Some r) = Follows v past r

announced_follows : (v : Version) (past : Past) (heading : Heading) (a b : Ahead) (o : Option Record) → IsHeadingOf v heading → announced v past heading a ≡ Ok (o, b) → FollowsIfSome v past o
announced_follows v past (headings.Piece l) a b o has h =
    let piece = bind_ok (piece_at v past l a) _ _ h in
    let t = piece_inverse v past l a piece.0.1 piece.0.0 piece.1 in
    let pair : (Some piece.0.0, piece.0.1) ≡ (o, b) = ok_is {A = Option Record × Ahead} {E = CaptureFaultKind} _ _ _ _ refl refl piece.2 in
    subst (λ (x : Option Record). FollowsIfSome v past x) (ap (λ (p : Option Record × Ahead). p.0) pair) t.follows
announced_follows v past (headings.End l) a b o has h =
    let conn = bind_ok (allowed v past l.tick l.conn) _ _ h in
    let within = allowed_inverse v past l.tick l.conn conn.0 conn.1 in
    let pair : (Some (End l.tick conn.0), a) ≡ (o, b) = ok_is {A = Option Record × Ahead} {E = CaptureFaultKind} _ _ _ _ refl refl conn.2 in
    let follows : Follows v past (End l.tick l.conn) = (within.3, within.4, (within.1, within.2)) in
    subst (λ (x : Option Record). FollowsIfSome v past x) (ap (λ (p : Option Record × Ahead). p.0) pair) (subst (λ (c : ℕ). Follows v past (End l.tick c)) (sym within.0) follows)
announced_follows v past (headings.Tier l) a b o has h =
    let tier = bind_ok (tier_record v past l) _ _ h in
    let pair : (Some tier.0, a) ≡ (o, b) = ok_is {A = Option Record × Ahead} {E = CaptureFaultKind} _ _ _ _ refl refl tier.2 in
    subst (λ (x : Option Record). FollowsIfSome v past x) (ap (λ (p : Option Record × Ahead). p.0) pair) ((tier_inverse v past l tier.0 tier.1).follows has)
announced_follows v past (headings.Stop count) a b o has h =
    let good = when_ok (count == past.count) Count _ _ h in
    let close = bind_ok (close_at a) _ _ good.1 in
    let pair : (None, close.0.1) ≡ (o, b) = ok_is {A = Option Record × Ahead} {E = CaptureFaultKind} _ _ _ _ refl refl close.2 in
    subst (λ (x : Option Record). FollowsIfSome v past x) (ap (λ (p : Option Record × Ahead). p.0) pair) tt

pub record_follows : (v : Version) (past : Past) (a b : Ahead) (o : Option Record) → record_at v past a ≡ Ok (o, b) → FollowsIfSome v past o
record_follows v past a b o h =
    let line = bind_ok (named kind_of (line_at a)) _ _ h in
    let heading = bind_ok (heading_of v line.0.0) _ _ line.2 in
    announced_follows v past heading.0 line.0.1 b o (heading_has v line.0.0 heading.0 heading.1) heading.2

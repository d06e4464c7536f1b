-- What stands in a line of a capture that was read.
use Rattle.std.proofs.Common.{◌≡◌, ℕ, ◌-◌, ◌^◌, ◌<◌, ◌≤◌, ◌⊎◌, inl, inr, cond, nat_lt, ◌&&◌, Bool, true, false, List, [], ◌∷◌, ◌++◌, length, drop, Option, Some, None, Result, Ok, Err, IfOk, refl, sym, ap, ◌∙◌, subst, arith, codes, decimal, nat_eq}
use Rattle.std.specs.List.{starts_with}
use Rattle.std.proofs.lemmas.Bool.Decides.{nat_tests, Decides-eqb}
use Rattle.std.proofs.lemmas.Slice.Eq.{starts_is}
use Rattle.devices.specs.Reference.{line_feed}
use Rattle.devices.specs.Numbers.{number_of, number_and_rest, three_numbers, ◌>>=◌ as ◌>?=◌}
use Rattle.devices.specs.Texts.{Ahead, line_at}
use Rattle.devices.specs.declared.text.Stop.{Stop}
use Rattle.devices.proofs.Inverse.{TakesAhead, unless_ok, when_ok, ok_is, line_inverse, number_inverse, rest_inverse, three_inverse}
use Rattle.captures.specs.Reference.{format_of, first_line, max_start}
use Rattle.captures.specs.CaptureFaults.{named, ◌>>=◌, header_kind_of, start_heading, start_of, header_at, opens, longest_text, two_numbers, piece_heading, end_heading, tier_heading, stop_heading, heading_of, IsHeadingOf}
use Rattle.captures.specs.declared.version.Version.{Version}
use Rattle.captures.specs.declared.version.Version.TheVariants.{One, Two, Traffic}
use Rattle.captures.specs.declared.headings.PieceLine.{PieceLine}
use Rattle.captures.specs.declared.headings.TierLine.{TierLine}
use Rattle.captures.specs.declared.headings.EndLine.{EndLine}
use Rattle.captures.specs.declared.headings.Heading.{Heading}
use Rattle.captures.specs.declared.headings.Heading.TheVariants as headings
use Rattle.captures.specs.declared.capture_fault.CaptureFaultKind.{CaptureFaultKind}
use Rattle.captures.specs.declared.capture_fault.CaptureFaultKind.TheVariants.{Header}

-- ---- the steps of a definition that may refuse

pub bind_ok : {A B : Type 0} (r : Result A CaptureFaultKind) (f : A → Result B CaptureFaultKind) (y : B) → (r >>= f) ≡ Ok y → (x : A) × (r ≡ Ok x) × (f x ≡ Ok y)
bind_ok (Ok x) f y h = (x, refl, h)
bind_ok (Err e) f y h = absurd cc

pub named_ok : {X : Type 0} (name : Stop → CaptureFaultKind) (r : Result X Stop) (x : X) → named name r ≡ Ok x → r ≡ Ok x
named_ok {X = X} name (Ok y) x h = let e : y ≡ x = cc in ap (λ (v : X). let r : Result X Stop = Ok v in r) e
named_ok name (Err e) x h = absurd cc

pub bind_some : {A B : Type 0} (o : Option A) (f : A → Option B) (y : B) → (o >?= f) ≡ Some y → (x : A) × (o ≡ Some x) × (f x ≡ Some y)
bind_some (Some x) f y h = (x, refl, h)
bind_some None f y h = absurd cc

some_is : {A : Type 0} (x y : A) (o : Option A) → o ≡ Some x → o ≡ Some y → x ≡ y
some_is x y o a b = cc

-- which way a choice of two went
chosen : {A : Type 0} (b : Bool) (x y z : A) → cond b x y ≡ z → ((b ≡ true) × (x ≡ z)) ⊎ ((b ≡ false) × (y ≡ z))
chosen true x y z h = inl (refl, h)
chosen false x y z h = inr (refl, h)

begins : (line word : List ℕ) → starts_with nat_eq line word ≡ true → line ≡ word ++ drop (length word) line
begins line word h = (starts_is Decides-eqb line word (starts_with nat_eq line word) refl).0 h

-- ---- the first line

start_heading_is : (v w : Version) (o : Option ℕ) (n : ℕ) → start_heading w o ≡ Ok (v, n) → (w ≡ v) × (o ≡ Some n) × (n ≤ max_start)
start_heading_is v w None n h = absurd cc
start_heading_is v w (Some m) n h =
    let in_time = unless_ok (nat_lt max_start m) Header (Ok (w, m)) (v, n) h in
    let same : (w, m) ≡ (v, n) = ok_is {A = Version × ℕ} {E = CaptureFaultKind} _ _ _ _ refl refl in_time.1 in
    let number : m ≡ n = ap (λ (p : Version × ℕ). p.1) same in
    let late : nat_lt max_start m ≡ false = in_time.0 in
    let small : m ≤ max_start = grind (arith, nat_tests) in
    (ap (λ (p : Version × ℕ). p.0) same, ap (λ k. Some k) number, omega (arith, number, small))

-- a line of this version
start_at : (v w : Version) (line : List ℕ) (n : ℕ) → starts_with nat_eq line (format_of w).opening ≡ true → start_heading w (number_of (drop (length (format_of w).opening) line)) ≡ Ok (v, n)
    → (line ≡ first_line v n) × (n ≤ max_start)
start_at v w line n h e =
    let is = start_heading_is v w (number_of (drop (length (format_of w).opening) line)) n e in
    let whole : line ≡ first_line w n = begins line (format_of w).opening h ∙ ap (λ t. (format_of w).opening ++ t) (number_inverse (drop (length (format_of w).opening) line) n is.1 (let x = is.2 in omega arith)) in
    (whole ∙ ap (λ (x : Version). first_line x n) is.0, is.2)

start_inverse : (v : Version) (line : List ℕ) (n : ℕ) → start_of line ≡ Ok (v, n) → (line ≡ first_line v n) × (n ≤ max_start)
start_inverse v line n h = elim (chosen (opens One line) _ _ _ h) [
  | inl a ↦ start_at v One line n a.0 a.1
  | inr b ↦ elim (chosen (opens Two line) _ _ _ b.1) [
    | inl a ↦ start_at v Two line n a.0 a.1
    | inr d ↦ let last = when_ok (opens Traffic line) Header (start_heading Traffic (number_of (drop (length (format_of Traffic).opening) line))) (v, n) d.1 in start_at v Traffic line n last.0 last.1
  ]
]

-- a start that was read is within its limit
pub start_limit : (line : List ℕ) (r : Result (Version × ℕ) CaptureFaultKind) → r ≡ start_of line → IfOk r (λ first. first.1 ≤ max_start)
start_limit line (Ok (v, n)) h = (start_inverse v line n (sym h)).1
start_limit line (Err k) h = tt

pub header_inverse : (v : Version) (a b : Ahead) (n : ℕ) → header_at a ≡ Ok ((v, n), b) → TakesAhead a (first_line v n ++ line_feed ∷ []) b × (n ≤ max_start)
header_inverse v a b n h =
    let line = bind_ok (named header_kind_of (line_at a)) _ _ h in
    let read = named_ok header_kind_of (line_at a) line.0 line.1 in
    let start = bind_ok (start_of line.0.0) _ _ line.2 in
    let pair : (start.0, line.0.1) ≡ ((v, n), b) = ok_is {A = (Version × ℕ) × Ahead} {E = CaptureFaultKind} _ _ _ _ refl refl start.2 in
    let is = start_inverse start.0.0 line.0.0 start.0.1 start.1 in
    let took : TakesAhead a (first_line start.0.0 start.0.1 ++ line_feed ∷ []) line.0.1 = subst (λ (w : List ℕ). TakesAhead a (w ++ line_feed ∷ []) line.0.1) is.0 (line_inverse a line.0.1 line.0.0 read) in
    subst (λ (p : (Version × ℕ) × Ahead). TakesAhead a (first_line p.0.0 p.0.1 ++ line_feed ∷ []) p.1 × (p.0.1 ≤ max_start)) pair (took, is.1)

-- each version has few connections
pub few_connections : (v : Version) → (format_of v).last_connection ≤ 65535
few_connections One = omega arith
few_connections Two = omega arith
few_connections Traffic = omega arith

-- and no more bytes than the longest text
pub within_longest : (v : Version) → (format_of v).max_text_bytes ≤ longest_text
within_longest One = omega arith
within_longest Two = omega arith
within_longest Traffic = omega arith

-- and room for its first line
pub room_for_first : (v : Version) → 1073741824 ≤ (format_of v).max_text_bytes
room_for_first One = omega arith
room_for_first Two = omega arith
room_for_first Traffic = omega arith

-- ---- the other lines

two_inverse : (text : List ℕ) (a b : ℕ) → two_numbers text ≡ Some (a, b) → a < 2 ^ 64 - 1 → b < 2 ^ 64 - 1 → text ≡ decimal a ++ 32 ∷ decimal b
two_inverse text a b h sa sb =
    let first = bind_some (number_and_rest text) _ _ h in
    let second = bind_some (number_of first.0.1) _ _ first.2 in
    let all : (first.0.0, second.0) ≡ (a, b) = some_is {A = ℕ × ℕ} _ _ _ refl second.2 in
    let a_is : first.0.0 ≡ a = ap (λ (p : ℕ × ℕ). p.0) all in
    let b_is : second.0 ≡ b = ap (λ (p : ℕ × ℕ). p.1) all in
    rest_inverse text a first.0.1 (first.1 ∙ ap (λ n. Some (n, first.0.1)) a_is) sa
    ∙ ap (λ v. decimal a ++ 32 ∷ v) (number_inverse first.0.1 b (second.1 ∙ ap (λ n. Some n) b_is) sb)

piece_heading_is : (o : Option (ℕ × ℕ × ℕ)) (l : PieceLine) → piece_heading o ≡ Ok (headings.Piece l) → o ≡ Some (l.tick, l.conn, l.len)
piece_heading_is None l h = absurd cc
piece_heading_is (Some n) l h = let e : record { tick = n.0; conn = n.1; len = n.2 } ≡ l = cc in ap (λ (k : PieceLine). Some (k.tick, k.conn, k.len)) e

end_heading_is : (o : Option (ℕ × ℕ)) (l : EndLine) → end_heading o ≡ Ok (headings.End l) → o ≡ Some (l.tick, l.conn)
end_heading_is None l h = absurd cc
end_heading_is (Some n) l h = let e : record { tick = n.0; conn = n.1 } ≡ l = cc in ap (λ (k : EndLine). Some (k.tick, k.conn)) e

tier_heading_is : (o : Option (ℕ × ℕ)) (l : TierLine) → tier_heading o ≡ Ok (headings.Tier l) → o ≡ Some (l.conn, l.tier)
tier_heading_is None l h = absurd cc
tier_heading_is (Some n) l h = let e : record { conn = n.0; tier = n.1 } ≡ l = cc in ap (λ (k : TierLine). Some (k.conn, k.tier)) e

stop_heading_is : (o : Option ℕ) (n : ℕ) → stop_heading o ≡ Ok (headings.Stop n) → o ≡ Some n
stop_heading_is None n h = absurd cc
stop_heading_is (Some m) n h = let e : m ≡ n = cc in ap (λ k. Some k) e

both_true : (a b : Bool) → (a && b) ≡ true → (a ≡ true) × (b ≡ true)
both_true true b h = (refl, h)
both_true false b h = absurd cc

-- which of the four kinds of line a heading comes from
Announces : Version → List ℕ → Heading → Type 0
Announces v line heading = ((line ≡ codes "piece " ++ drop 6 line) × (piece_heading (three_numbers (drop 6 line)) ≡ Ok heading))
    ⊎ (((line ≡ codes "end " ++ drop 4 line) × (end_heading (two_numbers (drop 4 line)) ≡ Ok heading))
    ⊎ (((line ≡ codes "tier " ++ drop 5 line) × ((format_of v).has_tiers ≡ true) × (tier_heading (two_numbers (drop 5 line)) ≡ Ok heading))
    ⊎ ((line ≡ codes "stop " ++ drop 5 line) × (stop_heading (number_of (drop 5 line)) ≡ Ok heading))))

announces : (v : Version) (line : List ℕ) (heading : Heading) → heading_of v line ≡ Ok heading → Announces v line heading
unfolding Announces
announces v line heading h = elim (chosen (starts_with nat_eq line (codes "piece ")) _ _ _ h) [
  | inl p ↦ inl (begins line (codes "piece ") p.0, p.1)
  | inr n ↦ elim (chosen (starts_with nat_eq line (codes "end ")) _ _ _ n.1) [
    | inl e ↦ inr (inl (begins line (codes "end ") e.0, e.1))
    | inr m ↦ elim (chosen (starts_with nat_eq line (codes "tier ") && (format_of v).has_tiers) _ _ _ m.1) [
      | inl t ↦ let both = both_true _ _ t.0 in inr (inr (inl (begins line (codes "tier ") both.0, both.1, t.1)))
      | inr o ↦ elim (chosen (starts_with nat_eq line (codes "stop ")) _ _ _ o.1) [
        | inl s ↦ inr (inr (inr (begins line (codes "stop ") s.0, s.1)))
        | inr k ↦ absurd (let bad = k.1 in cc)
      ]
    ]
  ]
]

-- a heading, told apart
abbrev is_piece : Heading → Bool
is_piece (headings.Piece l) = true
is_piece (headings.End l) = false
is_piece (headings.Tier l) = false
is_piece (headings.Stop n) = false

abbrev is_end : Heading → Bool
is_end (headings.Piece l) = false
is_end (headings.End l) = true
is_end (headings.Tier l) = false
is_end (headings.Stop n) = false

abbrev is_tier : Heading → Bool
is_tier (headings.Piece l) = false
is_tier (headings.End l) = false
is_tier (headings.Tier l) = true
is_tier (headings.Stop n) = false

abbrev is_stop : Heading → Bool
is_stop (headings.Piece l) = false
is_stop (headings.End l) = false
is_stop (headings.Tier l) = false
is_stop (headings.Stop n) = true

piece_apart : (o : Option (ℕ × ℕ × ℕ)) (h : Heading) → piece_heading o ≡ Ok h → is_piece h ≡ false → ⊥
piece_apart None h e k = absurd cc
piece_apart (Some n) h e k =
    let same : headings.Piece (record { tick = n.0; conn = n.1; len = n.2 }) ≡ h = cc in
    let bad : true ≡ false = ap is_piece same ∙ k in
    absurd cc

end_apart : (o : Option (ℕ × ℕ)) (h : Heading) → end_heading o ≡ Ok h → is_end h ≡ false → ⊥
end_apart None h e k = absurd cc
end_apart (Some n) h e k =
    let same : headings.End (record { tick = n.0; conn = n.1 }) ≡ h = cc in
    let bad : true ≡ false = ap is_end same ∙ k in
    absurd cc

tier_apart : (o : Option (ℕ × ℕ)) (h : Heading) → tier_heading o ≡ Ok h → is_tier h ≡ false → ⊥
tier_apart None h e k = absurd cc
tier_apart (Some n) h e k =
    let same : headings.Tier (record { conn = n.0; tier = n.1 }) ≡ h = cc in
    let bad : true ≡ false = ap is_tier same ∙ k in
    absurd cc

stop_apart : (o : Option ℕ) (h : Heading) → stop_heading o ≡ Ok h → is_stop h ≡ false → ⊥
stop_apart None h e k = absurd cc
stop_apart (Some n) h e k =
    let same : headings.Stop n ≡ h = cc in
    let bad : true ≡ false = ap is_stop same ∙ k in
    absurd cc

pub piece_line_inverse : (v : Version) (line : List ℕ) (l : PieceLine) → heading_of v line ≡ Ok (headings.Piece l) → l.tick < 2 ^ 64 - 1 → l.conn < 2 ^ 64 - 1 → l.len < 2 ^ 64 - 1
    → line ≡ codes "piece " ++ (decimal l.tick ++ 32 ∷ (decimal l.conn ++ 32 ∷ decimal l.len))
unfolding Announces
piece_line_inverse v line l h st sc sl = elim (announces v line (headings.Piece l) h) [
  | inl p ↦ p.0 ∙ ap (λ t. codes "piece " ++ t) (three_inverse (drop 6 line) l.tick l.conn l.len (piece_heading_is _ l p.1) st sc sl)
  | inr n ↦ elim n [
    | inl e ↦ absurd (end_apart _ _ e.1 refl)
    | inr m ↦ elim m [ inl t ↦ absurd (tier_apart _ _ t.2 refl) | inr s ↦ absurd (stop_apart _ _ s.1 refl) ]
  ]
]

pub end_line_inverse : (v : Version) (line : List ℕ) (l : EndLine) → heading_of v line ≡ Ok (headings.End l) → l.tick < 2 ^ 64 - 1 → l.conn < 2 ^ 64 - 1
    → line ≡ codes "end " ++ (decimal l.tick ++ 32 ∷ decimal l.conn)
unfolding Announces
end_line_inverse v line l h st sc = elim (announces v line (headings.End l) h) [
  | inl p ↦ absurd (piece_apart _ _ p.1 refl)
  | inr n ↦ elim n [
    | inl e ↦ e.0 ∙ ap (λ t. codes "end " ++ t) (two_inverse (drop 4 line) l.tick l.conn (end_heading_is _ l e.1) st sc)
    | inr m ↦ elim m [ inl t ↦ absurd (tier_apart _ _ t.2 refl) | inr s ↦ absurd (stop_apart _ _ s.1 refl) ]
  ]
]

pub tier_line_inverse : (v : Version) (line : List ℕ) (l : TierLine) → heading_of v line ≡ Ok (headings.Tier l) → l.conn < 2 ^ 64 - 1 → l.tier < 2 ^ 64 - 1
    → line ≡ codes "tier " ++ (decimal l.conn ++ 32 ∷ decimal l.tier)
unfolding Announces
tier_line_inverse v line l h sc st = elim (announces v line (headings.Tier l) h) [
  | inl p ↦ absurd (piece_apart _ _ p.1 refl)
  | inr n ↦ elim n [
    | inl e ↦ absurd (end_apart _ _ e.1 refl)
    | inr m ↦ elim m [
      | inl t ↦ t.0 ∙ ap (λ w. codes "tier " ++ w) (two_inverse (drop 5 line) l.conn l.tier (tier_heading_is _ l t.2) sc st)
      | inr s ↦ absurd (stop_apart _ _ s.1 refl)
    ]
  ]
]

pub stop_line_inverse : (v : Version) (line : List ℕ) (n : ℕ) → heading_of v line ≡ Ok (headings.Stop n) → n < 2 ^ 64 - 1 → line ≡ codes "stop " ++ decimal n
unfolding Announces
stop_line_inverse v line n h small = elim (announces v line (headings.Stop n) h) [
  | inl p ↦ absurd (piece_apart _ _ p.1 refl)
  | inr m ↦ elim m [
    | inl e ↦ absurd (end_apart _ _ e.1 refl)
    | inr o ↦ elim o [
      | inl t ↦ absurd (tier_apart _ _ t.2 refl)
      | inr s ↦ s.0 ∙ ap (λ t. codes "stop " ++ t) (number_inverse (drop 5 line) n (stop_heading_is _ n s.1) small)
    ]
  ]
]

-- a line announces only what its version has
pub heading_has : (v : Version) (line : List ℕ) (heading : Heading) → heading_of v line ≡ Ok heading → IsHeadingOf v heading
unfolding Announces
heading_has v line (headings.Piece l) h = tt
heading_has v line (headings.End l) h = tt
heading_has v line (headings.Stop n) h = tt
heading_has v line (headings.Tier l) h = elim (announces v line (headings.Tier l) h) [
  | inl p ↦ absurd (piece_apart _ _ p.1 refl)
  | inr n ↦ elim n [
    | inl e ↦ absurd (end_apart _ _ e.1 refl)
    | inr m ↦ elim m [ inl t ↦ t.1 | inr s ↦ absurd (stop_apart _ _ s.1 refl) ]
  ]
]

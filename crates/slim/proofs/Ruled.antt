-- The slim records of a capture keep the rules of a capture.
use Rattle.std.proofs.Common.{◌≡◌, ℕ, ◌+◌, ◌≤◌, ◌==◌, ◌&&◌, ◌||◌, not, ◌⊎◌, inl, inr, Bool, true, false, cond, List, [], ◌∷◌, ◌++◌, length, refl, sym, ap, ◌∙◌, subst, arith, append-nil, All}
use Rattle.std.proofs.lemmas.Bool.{cases_Bool}
use Rattle.std.proofs.lemmas.Bool.Decides.{eqb_tells}
use Rattle.std.proofs.lemmas.List.{append_assoc, length_push}
use Rattle.std.proofs.lemmas.List.Elements.{All-head, All-tail, All-cons, All-nil, All-push}
use Rattle.captures.specs.declared.record.Record.{Record}
use Rattle.captures.specs.declared.record.Record.TheVariants.{Piece, End, Tier}
use Rattle.captures.specs.declared.version.Version.{Version}
use Rattle.captures.specs.Reference.{IsCapture, IsRecord, format_of, max_tick}
use Rattle.captures.specs.Captures.{Past, past_of, Follows}
use Rattle.captures.specs.Readers.{after}
use Rattle.captures.proofs.Agree.{follows_front}
use Rattle.captures.proofs.Fitting.{rules_more, rules_none, follows_limits}
use Rattle.captures.proofs.Lives.{IsLow, is_low, all_low}
use Rattle.captures.proofs.Pasts.{past_more}
use Rattle.http_requests.specs.declared.messages.Meaning.{Meaning}
use Rattle.arrivals.specs.Reference.{Arrival}
use Rattle.slim.specs.Blocks.{block_of}
use Rattle.slim.specs.Slims.{arrived_at, slim_record, slim_from, slim_records}
use Rattle.slim.specs.Steps.{IsShort}
use Rattle.slim.proofs.Growth.{IsSmall}

-- the slim records keep the rules, and ask no more of what follows than the records
record Ruled (v : Version) (start : ℕ) (S R : List Record) : Type 0 where
  rules : IsCapture v start S
  tick : (past_of v S).tick ≤ (past_of v R).tick
  ended : (c : ℕ) → (past_of v S).ended c ≡ (past_of v R).ended c
  used : (c : ℕ) → (past_of v S).used c ≡ true → (past_of v R).used c ≡ true
  small : All IsSmall S

either : (a b : Bool) → (a || b) ≡ true → (a ≡ true) ⊎ (b ≡ true)
either true b h = inl refl
either false b h = inr h

or_left : (a b : Bool) → a ≡ true → (a || b) ≡ true
or_left true b h = refl
or_left false b h = absurd (let z : ⊥ = cc in z)

or_right : (a b : Bool) → b ≡ true → (a || b) ≡ true
or_right true b h = refl
or_right false b h = h

both : (a b : Bool) → a && b ≡ true → (a ≡ true) × (b ≡ true)
both true true h = (refl, refl)
both true false h = absurd (cc)
both false b h = absurd (cc)

-- the past after one more record, part by part
tick_after : (v : Version) (rs : List Record) (r : Record) → All IsLow rs → IsLow r → (past_of v (rs ++ r ∷ [])).tick ≡ (after v (past_of v rs) r).tick
tick_after v rs r all low = ap (λ (p : Past). p.tick) (past_more v rs r all low)

ended_after : (v : Version) (rs : List Record) (r : Record) (c : ℕ) → All IsLow rs → IsLow r → (past_of v (rs ++ r ∷ [])).ended c ≡ (after v (past_of v rs) r).ended c
ended_after v rs r c all low = ap (λ (p : Past). p.ended c) (past_more v rs r all low)

used_after : (v : Version) (rs : List Record) (r : Record) (c : ℕ) → All IsLow rs → IsLow r → (past_of v (rs ++ r ∷ [])).used c ≡ (after v (past_of v rs) r).used c
used_after v rs r c all low = ap (λ (p : Past). p.used c) (past_more v rs r all low)

-- one more slim piece
one_piece : (v : Version) (start : ℕ) (S R : List Record) (tick conn : ℕ) (block : List ℕ) → tick ≡ (past_of v R).tick → (past_of v R).ended conn ≡ false → (past_of v R).used conn ≡ true
    → IsRecord v (Piece tick conn block) → IsSmall (Piece tick conn block) → Ruled v start S R → Ruled v start (S ++ Piece tick conn block ∷ []) R
one_piece v start S R tick conn block now live used is tiny k =
    let r = Piece tick conn block in
    let all = all_low v S k.rules.each in
    let low = is_low v r is in
    let early = k.tick in
    let t = tick_after v S r all low in
    record {
      rules = rules_more v start S r k.rules (omega (arith, now, early), k.ended conn ∙ live, is);
      tick = omega (arith, t, now);
      ended = λ c. ended_after v S r c all low ∙ k.ended c;
      used = λ c h. elim (either ((past_of v S).used c) (conn == c) (sym (used_after v S r c all low) ∙ h)) [
        | inl old ↦ k.used c old
        | inr own ↦ elim (eqb_tells conn c) [
          | inl same ↦ subst (λ (d : ℕ). (past_of v R).used d ≡ true) same.1 used
          | inr other ↦ absurd (let z = sym own ∙ other.0 in let w : ⊥ = cc in w)
        ]
      ];
      small = All-push IsSmall S r k.small tiny;
    }

pieces : (v : Version) (start : ℕ) (R : List Record) (tick conn : ℕ) (whats : List Meaning) (S : List Record) → tick ≡ (past_of v R).tick → (past_of v R).ended conn ≡ false → (past_of v R).used conn ≡ true
    → tick ≤ max_tick → conn ≤ (format_of v).last_connection → All IsShort whats → Ruled v start S R → Ruled v start (S ++ slim_record whats (Piece tick conn [])) R
pieces v start R tick conn [] S now live used most number short k = rw (append-nil S) k
pieces v start R tick conn (what ∷ whats) S now live used most number short k =
    let p : Record = Piece tick conn (block_of what) in
    let own = All-head IsShort what whats short in
    let small = own.1 in
    let one = one_piece v start S R tick conn (block_of what) now live used (most, number, own.0, omega (arith, small)) small k in
    let rest = pieces v start R tick conn whats (S ++ p ∷ []) now live used most number (All-tail IsShort what whats short) one in
    rw (append_assoc S (p ∷ []) (slim_record whats (Piece tick conn []))) at rest

-- one more record
ruled_piece : (v : Version) (start : ℕ) (S R : List Record) (tick conn : ℕ) (bytes : List ℕ) (whats : List Meaning) → All IsLow R → Follows v (past_of v R) (Piece tick conn bytes) → All IsShort whats
    → Ruled v start S R → Ruled v start (S ++ slim_record whats (Piece tick conn [])) (R ++ Piece tick conn bytes ∷ [])
ruled_piece v start S R tick conn bytes whats all follows short k =
    let r = Piece tick conn bytes in
    let low = is_low v r follows.2 in
    let t = tick_after v R r all low in
    let early = k.tick in
    let late = follows.0 in
    let wide : Ruled v start S (R ++ r ∷ []) = record {
      rules = k.rules;
      tick = omega (arith, t, early, late);
      ended = λ c. k.ended c ∙ sym (ended_after v R r c all low);
      used = λ c h. used_after v R r c all low ∙ or_left ((past_of v R).used c) (conn == c) (k.used c h);
      small = k.small;
    } in
    pieces v start (R ++ r ∷ []) tick conn whats S (sym t) (ended_after v R r conn all low ∙ follows.1)
    (used_after v R r conn all low ∙ or_right ((past_of v R).used conn) (conn == conn) (own conn)) follows.2.0 follows.2.1 short wide
  where
    own : (c : ℕ) → (c == c) ≡ true
    own c = elim (eqb_tells c c) [ inl same ↦ same.0 | inr other ↦ absurd (other.1 refl) ]

ruled_end : (v : Version) (start : ℕ) (S R : List Record) (tick conn : ℕ) → All IsLow R → Follows v (past_of v R) (End tick conn) → Ruled v start S R → Ruled v start (S ++ End tick conn ∷ []) (R ++ End tick conn ∷ [])
ruled_end v start S R tick conn all follows k =
    let r = End tick conn in
    let low = is_low v r follows.2 in
    let every = all_low v S k.rules.each in
    let t = tick_after v R r all low in
    let u = tick_after v S r every low in
    let early = k.tick in
    let late = follows.0 in
    record {
      rules = rules_more v start S r k.rules (omega (arith, early, late), k.ended conn ∙ follows.1, follows.2);
      tick = omega (arith, t, u);
      ended = λ c. ended_after v S r c every low ∙ ap (λ e. cond (format_of v).used_again e (e || conn == c)) (k.ended c) ∙ sym (ended_after v R r c all low);
      used = λ c h.
          (let parts = both ((past_of v S).used c) (not (conn == c)) (sym (used_after v S r c every low) ∙ h) in
          used_after v R r c all low ∙ ap (λ b. b && not (conn == c)) (k.used c parts.0) ∙ parts.1);
      small = All-push IsSmall S r k.small (omega arith);
    }

ruled_tier : (v : Version) (start : ℕ) (S R : List Record) (conn tier : ℕ) → All IsLow R → Follows v (past_of v R) (Tier conn tier) → Ruled v start S R → Ruled v start (S ++ Tier conn tier ∷ []) (R ++ Tier conn tier ∷ [])
ruled_tier v start S R conn tier all follows k =
    let r = Tier conn tier in
    let low = is_low v r follows.2 in
    let every = all_low v S k.rules.each in
    let t = tick_after v R r all low in
    let u = tick_after v S r every low in
    let early = k.tick in
    let unused : (past_of v S).used conn ≡ false = elim (cases_Bool ((past_of v S).used conn)) [
      | inl is ↦ absurd (let z = sym (k.used conn is) ∙ follows.1 in let w : ⊥ = cc in w)
      | inr isnt ↦ isnt
    ] in
    record {
      rules = rules_more v start S r k.rules (k.ended conn ∙ follows.0, unused, follows.2);
      tick = omega (arith, t, u, early);
      ended = λ c. ended_after v S r c every low ∙ k.ended c ∙ sym (ended_after v R r c all low);
      used = λ c h. elim (either ((past_of v S).used c) (conn == c) (sym (used_after v S r c every low) ∙ h)) [
        | inl old ↦ used_after v R r c all low ∙ or_left ((past_of v R).used c) (conn == c) (k.used c old)
        | inr own ↦ used_after v R r c all low ∙ or_right ((past_of v R).used c) (conn == c) own
      ];
      small = All-push IsSmall S r k.small (omega arith);
    }

ruled_next : (v : Version) (start : ℕ) (S R : List Record) (r : Record) (whats : List Meaning) → All IsLow R → Follows v (past_of v R) r → All IsShort whats → Ruled v start S R
    → Ruled v start (S ++ slim_record whats r) (R ++ r ∷ [])
ruled_next v start S R (Piece tick conn bytes) whats all follows short k = ruled_piece v start S R tick conn bytes whats all follows short k
ruled_next v start S R (End tick conn) whats all follows short k = ruled_end v start S R tick conn all follows k
ruled_next v start S R (Tier conn tier) whats all follows short k = ruled_tier v start S R conn tier all follows k

-- ---- all records

short_at : (place : ℕ) (A : List Arrival) → All (λ a. IsShort a.message.what) A → All IsShort (arrived_at place A)
short_at place [] all = All-nil IsShort
short_at place (a ∷ A) all = elim (eqb_tells a.place place) [
  | inl same ↦ rw same.0 (All-cons IsShort a.message.what (arrived_at place A) (All-head (λ (a : Arrival). IsShort a.message.what) a A all) (short_at place A (All-tail (λ (a : Arrival). IsShort a.message.what) a A all)))
  | inr other ↦ rw other.0 (short_at place A (All-tail (λ (a : Arrival). IsShort a.message.what) a A all))
]

all_ruled : (v : Version) (start : ℕ) (A : List Arrival) → All (λ a. IsShort a.message.what) A → (rest earlier S : List Record) → All IsLow earlier → IsCapture v start (earlier ++ rest) → Ruled v start S earlier
    → Ruled v start (S ++ slim_from (length earlier) rest A) (earlier ++ rest)
unfolding slim_from
all_ruled v start A short [] earlier S low c k = rw (append-nil S, append-nil earlier) k
all_ruled v start A short (r ∷ rest) earlier S low c k =
    let follows = follows_front v start earlier rest r c in
    let whats = arrived_at (length earlier) A in
    let one = ruled_next v start S earlier r whats low follows (short_at (length earlier) A short) k in
    let own : IsLow r = is_low v r (follows_limits v (past_of v earlier) r follows) in
    let more = all_ruled v start A short rest (earlier ++ r ∷ []) (S ++ slim_record whats r) (All-push IsLow earlier r low own) (rw (append_assoc earlier (r ∷ []) rest) c) one in
    rw (length_push earlier r, append_assoc S (slim_record whats r) (slim_from (length earlier + 1) rest A), append_assoc earlier (r ∷ []) rest) at more

pub slim_rules : (v : Version) (start : ℕ) (records : List Record) (A : List Arrival) → All (λ a. IsShort a.message.what) A → IsCapture v start records
    → IsCapture v start (slim_records records A) × All IsSmall (slim_records records A)
unfolding slim_records
slim_rules v start records A short c =
    let none : Ruled v start [] [] = record { rules = rules_none v start c.in_time; tick = omega arith; ended = λ c. refl; used = λ c h. h; small = All-nil IsSmall } in
    let all = all_ruled v start A short records [] [] (All-nil IsLow) c none in
    (all.rules, all.small)

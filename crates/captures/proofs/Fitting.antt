-- What a reader has given, and what it gives next.
use Rattle.std.proofs.Common.{◌≡◌, ℕ, ◌+◌, ◌-◌, ◌^◌, ◌<◌, ◌≤◌, ◌&&◌, nat_lt, inl, inr, Bool, true, false, List, [], ◌∷◌, ◌++◌, length, get_or, Option, Some, None, Ok, Err, refl, sym, ap, ◌∙◌, subst, arith, is_some, unwrap_or, flat_map, rules}
use Rattle.std.specs.List.{AllPairs, list_any}
use Rattle.std.proofs.lemmas.Bool.{cases_lt}
use Rattle.std.proofs.lemmas.List.{append_assoc, append-nil, length-append, length_push, get_or_default, flat_map_more}
use Rattle.std.proofs.lemmas.List.Elements.{All-push}
use Rattle.std.proofs.lemmas.List.Quantifiers.{all_pairs_push}
use Rattle.std.proofs.lemmas.List.Folds.{list_any_at}
use Rattle.std.proofs.lemmas.List.Sums.{sum_by_push, sum_by-cons}
use Rattle.std.proofs.lemmas.Grind.{flat_map-append}
use Rattle.devices.specs.Reference.{line_feed}
use Rattle.devices.specs.Texts.{ahead_of}
use Rattle.devices.proofs.Inverse.{TakesAhead}
use Rattle.captures.specs.Reference.{first_line, record_text, format_of, text_before_stop, max_start, ends_for_good, is_use_of, connection_of, connection_now, of_connection, used_once, LetsFollow, last_of, tick_of, ticks_of, IsRecord, IsCapture, IsCaptureText}
use Rattle.captures.specs.Captures.{Past, past_of, Follows, size_of, sizes_of}
use Rattle.captures.specs.declared.version.Version.{Version}
use Rattle.captures.specs.CaptureFaults.{header_at, record_at, is_unforeseen_kind, IsForeseen, IsFaultAfter, left_after, longest_text}
use Rattle.captures.specs.Readers.{seen, after, ReaderAfter}
use Rattle.captures.specs.declared.record.Record.{Record}
use Rattle.captures.specs.declared.record.Record.TheVariants.{Piece, End, Tier}
use Rattle.captures.specs.declared.so_far.SoFar.{SoFar}
use Rattle.captures.specs.declared.progress.ReaderState.TheVariants.{Reading}
use Rattle.captures.specs.declared.progress.Progress.{Progress}
use Rattle.captures.specs.declared.capture_fault.CaptureFaultKind.{CaptureFaultKind}
use Rattle.captures.proofs.Lines.{header_inverse, within_longest}
use Rattle.captures.proofs.Again.{room_for_header}
use Rattle.captures.proofs.Lives.{is_low, all_low, once_push}
use Rattle.std.proofs.lemmas.Bool.Decides.{nat_tests}
use Rattle.captures.proofs.Pasts.{past_more}
use Rattle.captures.proofs.Records.{next_text, EndsIfNone, record_takes, size_below}

-- a record that may come is within the limits
pub follows_limits : (v : Version) (past : Past) (r : Record) → Follows v past r → IsRecord v r
follows_limits v past (Piece tick conn bytes) f = f.2
follows_limits v past (End tick conn) f = f.2
follows_limits v past (Tier conn tier) f = f.2

-- ---- the rules of one more record

rising_more : (xs : List ℕ) (t : ℕ) → AllPairs (λ s u. s ≤ u) xs → get_or xs (length xs - 1) 0 ≤ t → AllPairs (λ s u. s ≤ u) (xs ++ t ∷ [])
rising_more xs t h below = all_pairs_push (λ s u. s ≤ u) xs t h at_most
  where
    at_most : (k : ℕ) (d : ℕ) → k < length xs → get_or xs k d ≤ t
    at_most k d lt =
        let here : get_or xs k d ≡ get_or xs k 0 = get_or_default xs k d 0 lt in
        elim (cases_lt k (length xs - 1)) [
          | inl before ↦ let le : get_or xs k 0 ≤ get_or xs (length xs - 1) 0 = h k (length xs - 1) 0 before (omega arith) in omega arith
          | inr last ↦ let e : k ≡ length xs - 1 = omega arith in let same : get_or xs k 0 ≡ get_or xs (length xs - 1) 0 = ap (λ n. get_or xs n 0) e in omega arith
        ]

-- a test that no element passes fails at each
none_passes : {X : Type 0} (p : X → Bool) (xs : List X) (k : ℕ) (d : X) → list_any p xs ≡ false → k < length xs → p (get_or xs k d) ≡ false
none_passes p xs k d none lt = go (p (get_or xs k d)) refl
  where
    go : (b : Bool) → p (get_or xs k d) ≡ b → b ≡ false
    go true h = absurd (let found = list_any_at p xs k d lt h in cc)
    go false h = refl

rising_with : (records : List Record) (r : Record) (t : ℕ) → tick_of r ≡ t ∷ [] → AllPairs (λ s u. s ≤ u) (ticks_of records) → last_of (ticks_of records) ≤ t
    → AllPairs (λ s u. s ≤ u) (ticks_of (records ++ r ∷ []))
rising_with records r t is h below =
    let more : ticks_of (records ++ r ∷ []) ≡ ticks_of records ++ t ∷ [] = flat_map-append tick_of records (r ∷ []) ∙ ap (λ v. ticks_of records ++ v) (ap (λ v. v ++ []) is) in
    subst (λ (ts : List ℕ). AllPairs (λ s u. s ≤ u) ts) (sym more) (rising_more (ticks_of records) t h below)

-- a test that is made for numbers of 16 bits
unless_high : (conn : ℕ) (b : Bool) → conn < 65536 → (nat_lt conn 65536 && b) ≡ false → b ≡ false
unless_high conn b low h = let yes : nat_lt conn 65536 ≡ true = grind (arith, nat_tests) in rw yes at h

tiers_with : (records : List Record) (r : Record) → AllPairs LetsFollow (used_once records)
    → ((k : ℕ) (d : Record) → k < length (used_once records) → LetsFollow (get_or (used_once records) k d) (of_connection (connection_now (connection_of r) records) r))
    → AllPairs LetsFollow (used_once (records ++ r ∷ []))
tiers_with records r h last = rw (once_push records r) (all_pairs_push LetsFollow (used_once records) (of_connection (connection_now (connection_of r) records) r) h last)

pub rules_more : (v : Version) (start : ℕ) (records : List Record) (r : Record) → IsCapture v start records → Follows v (past_of v records) r → IsCapture v start (records ++ r ∷ [])
rules_more v start records (Piece tick conn bytes) c f = record {
  in_time = c.in_time;
  each = All-push (IsRecord v) records (Piece tick conn bytes) c.each f.2;
  rising = rising_with records (Piece tick conn bytes) tick refl c.rising f.0;
  ends_last = all_pairs_push (λ r s. ends_for_good v (connection_of s) r ≡ false) records (Piece tick conn bytes) c.ends_last (λ k d lt. none_passes (ends_for_good v conn) records k d f.1 lt);
  tiers_first = tiers_with records (Piece tick conn bytes) c.tiers_first (λ k d lt. tt);
}
rules_more v start records (End tick conn) c f = record {
  in_time = c.in_time;
  each = All-push (IsRecord v) records (End tick conn) c.each f.2;
  rising = rising_with records (End tick conn) tick refl c.rising f.0;
  ends_last = all_pairs_push (λ r s. ends_for_good v (connection_of s) r ≡ false) records (End tick conn) c.ends_last (λ k d lt. none_passes (ends_for_good v conn) records k d f.1 lt);
  tiers_first = tiers_with records (End tick conn) c.tiers_first (λ k d lt. tt);
}
rules_more v start records (Tier conn tier) c f = record {
  in_time = c.in_time;
  each = All-push (IsRecord v) records (Tier conn tier) c.each f.2;
  rising = subst (λ (ts : List ℕ). AllPairs (λ s u. s ≤ u) ts) (sym (flat_map-append tick_of records (Tier conn tier ∷ []) ∙ append-nil (ticks_of records))) c.rising;
  ends_last = all_pairs_push (λ r s. ends_for_good v (connection_of s) r ≡ false) records (Tier conn tier) c.ends_last (λ k d lt. none_passes (ends_for_good v conn) records k d f.0 lt);
  tiers_first = tiers_with records (Tier conn tier) c.tiers_first (λ k d lt. none_passes (is_use_of (connection_now conn records)) (used_once records) k d (unless_high conn _ (is_low v (Tier conn tier) f.2) f.1) lt);
}

pub rules_none : (v : Version) (start : ℕ) → start ≤ max_start → IsCapture v start []
rules_none v start h = record {
  in_time = h;
  each = search rules;
  rising = λ i j d lt within. absurd (omega arith);
  ends_last = λ i j d lt within. absurd (omega arith);
  tiers_first = λ i j d lt within. absurd (omega arith);
}

-- ---- what was taken

-- records bring no more than their texts have, with one byte to spare for each
pub sizes_below : (records : List Record) → length records + sizes_of records ≤ length (flat_map record_text records)
sizes_below [] = omega arith
sizes_below (r ∷ records) = omega (arith, sizes_below records, size_below r, sum_by-cons size_of r records, length-append (record_text r) (flat_map record_text records))

-- ---- the reader

pub fits_begins : (v : Version) (text now : Option (List ℕ)) (start left own capacity : ℕ) (s : SoFar) → capacity ≡ (format_of v).max_text_bytes → own ≡ capacity - (longest_text - left) → seen s ≡ past_of v [] → start ≤ max_start
    → (is_some text ≡ true → (header_at (ahead_of text longest_text) ≡ Ok ((v, start), ahead_of now left)) × (is_some now ≡ true))
    → ReaderAfter v text start [] (record { version = v; start = start; left = own; capacity = capacity; so_far = s; stage = Reading }) now
fits_begins v text now start left own capacity s most less none in_time h =
    let all : text_before_stop v start [] ≡ first_line v start ++ line_feed ∷ [] = append-nil (first_line v start ++ line_feed ∷ []) in
    let took = λ (k : is_some text ≡ true). (header_inverse v (ahead_of text longest_text) (ahead_of now left) start (h k).0).0 in
    record {
      stage = refl;
      version = refl;
      begun = refl;
      rules = rules_none v start in_time;
      past = none;
      capacity = omega (arith, most);
      taken = λ k. (took k).bytes ∙ ap (λ w. w ++ unwrap_or now []) (sym all);
      left = λ k. (let whole = (took k).left in let e = ap length all in omega (arith, whole, e, most, less, room_for_header v start in_time));
      known = λ k. (h k).1;
    }

-- what the next record, or the last line, takes
next_takes : (v : Version) (text now new : Option (List ℕ)) (start new_left : ℕ) (records : List Record) (p : Progress) (x : Option Record) → ReaderAfter v text start records p now
    → (is_some now ≡ true → (record_at p.version (seen p.so_far) (ahead_of now p.left) ≡ Ok (x, ahead_of new new_left)) × (is_some new ≡ true))
    → is_some text ≡ true → TakesAhead (ahead_of now p.left) (next_text (past_of v records) x) (ahead_of new new_left) × EndsIfNone x (ahead_of new new_left)
next_takes v text now new start new_left records p x f h k =
    let own = subst (λ (w : Version). record_at w (seen p.so_far) (ahead_of now p.left) ≡ Ok (x, ahead_of new new_left)) f.version (h (f.known k)).0 in
    let read = subst (λ (q : Past). record_at v q (ahead_of now p.left) ≡ Ok (x, ahead_of new new_left)) f.past own in
    let small : length records < 2 ^ 64 - 1 = let r = f.capacity in omega (arith, r, within_longest v) in
    record_takes v (past_of v records) (ahead_of now p.left) (ahead_of new new_left) x small read

-- a text and what was taken after it
front_then : (text before taken now new : List ℕ) → text ≡ before ++ now → now ≡ taken ++ new → text ≡ (before ++ taken) ++ new
front_then text before taken now new a b = a ∙ (ap (λ w. before ++ w) b ∙ sym (append_assoc before taken new))

pub fits_goes_on : (v : Version) (text now new : Option (List ℕ)) (start : ℕ) (records : List Record) (p q : Progress) (x : Option Record) (r : Record) → x ≡ Some r
    → ReaderAfter v text start records p now → Follows p.version (seen p.so_far) r → size_of r + 1 + q.capacity ≡ p.capacity
    → (p.so_far.count < 2 ^ 64 - 1 → seen q.so_far ≡ after p.version (seen p.so_far) r) → q.version ≡ p.version → q.start ≡ p.start → q.stage ≡ p.stage
    → (is_some now ≡ true → (record_at p.version (seen p.so_far) (ahead_of now p.left) ≡ Ok (x, ahead_of new q.left)) × (is_some new ≡ true))
    → ReaderAfter v text start (records ++ r ∷ []) q new
fits_goes_on v text now new start records p q x r some f follows capacity more same_version same_start same_stage h =
    let count : p.so_far.count ≡ length records = ap (λ (s : Past). s.count) f.past in
    let took = λ (k : is_some text ≡ true). subst (λ (o : Option Record). TakesAhead (ahead_of now p.left) (next_text (past_of v records) o) (ahead_of new q.left)) some (next_takes v text now new start q.left records p x f h k).0 in
    let own : Follows v (past_of v records) r = subst (λ (s : Past). Follows v s r) f.past (subst (λ (w : Version). Follows w (seen p.so_far) r) f.version follows) in
    let longer : text_before_stop v start records ++ record_text r ≡ text_before_stop v start (records ++ r ∷ []) = flat_map_more record_text (first_line v start ++ line_feed ∷ []) records r in
    record {
      stage = same_stage ∙ f.stage;
      version = same_version ∙ f.version;
      begun = same_start ∙ f.begun;
      rules = rules_more v start records r f.rules own;
      past = more (let r = f.capacity in omega (arith, r, count, within_longest v)) ∙ (λ i. after (f.version i) (f.past i) r) ∙ sym (past_more v records r (all_low v records f.rules.each) (is_low v r (follows_limits v (past_of v records) r own)));
      capacity = let before = f.capacity in omega (arith, length_push records r, sum_by_push size_of records r);
      taken = λ k. front_then (unwrap_or text []) (text_before_stop v start records) (record_text r) (unwrap_or now []) (unwrap_or new []) (f.taken k) (took k).bytes ∙ ap (λ w. w ++ unwrap_or new []) longer;
      left = λ k. let before = f.left k in let now_left = (took k).left in let e = ap length longer in omega (arith, length-append (text_before_stop v start records) (record_text r));
      known = λ k. (h (f.known k)).1;
    }

pub fits_ends : (v : Version) (text now new : Option (List ℕ)) (start new_left : ℕ) (records : List Record) (p : Progress) (x : Option Record) → x ≡ None
    → ReaderAfter v text start records p now
    → (is_some now ≡ true → (record_at p.version (seen p.so_far) (ahead_of now p.left) ≡ Ok (x, ahead_of new new_left)) × (is_some new ≡ true))
    → is_some text ≡ true → IsCaptureText v (unwrap_or text []) start records
fits_ends v text now new start new_left records p x none f h k =
    let both = subst (λ (o : Option Record). TakesAhead (ahead_of now p.left) (next_text (past_of v records) o) (ahead_of new new_left) × EndsIfNone o (ahead_of new new_left)) none (next_takes v text now new start new_left records p x f h k) in
    let end : unwrap_or new [] ≡ [] = both.1 in
    let last = next_text (past_of v records) None in
    let text_is : unwrap_or text [] ≡ text_before_stop v start records ++ last =
    front_then (unwrap_or text []) (text_before_stop v start records) last (unwrap_or now []) (unwrap_or new []) (f.taken k) both.0.bytes
    ∙ (ap (λ w. (text_before_stop v start records ++ last) ++ w) end ∙ append-nil (text_before_stop v start records ++ last)) in
    record {
      text = text_is;
      rules = f.rules;
      size = let before = f.left k in let after = both.0.left in let e = ap length text_is in omega (arith, length-append (text_before_stop v start records) last);
    }

pub fits_faults : (v : Version) (text now : Option (List ℕ)) (start at : ℕ) (records : List Record) (p : Progress) (kind : CaptureFaultKind) → at ≡ length records + 1 → ReaderAfter v text start records p now
    → (is_some now ≡ true → is_unforeseen_kind kind ≡ false → record_at p.version (seen p.so_far) (ahead_of now p.left) ≡ Err kind)
    → IsForeseen (λ bytes. IsFaultAfter v bytes start records) text (record { at = at; kind = kind })
fits_faults v text now start at records p kind is f h = λ k foreseen.
    let left : p.left ≡ left_after v start records = let all = f.left k in omega arith in (
      unwrap_or now [],
      record {
        whole = f.taken k;
        rules = f.rules;
        size = let all = f.left k in omega arith;
        at = is;
        kind = subst (λ (l : ℕ). record_at v (past_of v records) (record { bytes = unwrap_or now []; left = l }) ≡ Err kind) left
            (subst (λ (q : Past). record_at v q (ahead_of now p.left) ≡ Err kind) f.past
            (subst (λ (w : Version). record_at w (seen p.so_far) (ahead_of now p.left) ≡ Err kind) f.version (h (f.known k) foreseen)));
      },
    )

-- there is room for each record of a text
pub fits_has_room : (v : Version) (text now new : Option (List ℕ)) (start new_left : ℕ) (records : List Record) (p : Progress) (x : Option Record) (r : Record) → x ≡ Some r
    → ReaderAfter v text start records p now → p.capacity ≤ size_of r
    → (is_some now ≡ true → (record_at p.version (seen p.so_far) (ahead_of now p.left) ≡ Ok (x, ahead_of new new_left)) × (is_some new ≡ true))
    → is_some text ≡ true → ⊥
fits_has_room v text now new start new_left records p x r some f full h k =
    let took = subst (λ (o : Option Record). TakesAhead (ahead_of now p.left) (next_text (past_of v records) o) (ahead_of new new_left)) some (next_takes v text now new start new_left records p x f h k).0 in
    let all = f.left k in
    let capacity = f.capacity in
    let now_left = took.left in
    omega (arith, sizes_below records, size_below r, length-append (first_line v start ++ line_feed ∷ []) (flat_map record_text records))

-- the number of the record that is next
pub fits_at : (v : Version) (text now : Option (List ℕ)) (start : ℕ) (records : List Record) (p : Progress) → ReaderAfter v text start records p now → (p.so_far.count ≡ length records) × (p.so_far.count ≤ longest_text)
fits_at v text now start records p f =
    let count : p.so_far.count ≡ length records = ap (λ (s : Past). s.count) f.past in
    (count, let r = f.capacity in omega (arith, r, count, within_longest v))

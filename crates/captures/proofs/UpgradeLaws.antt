-- What an upgraded text is.
use Rattle.std.proofs.Common.{◌≡◌, ℕ, ◌≤◌, true, false, List, [], ◌∷◌, ◌++◌, length, get_or, refl, sym, ap, ◌∙◌, subst, arith, decimal, flat_map}
use Rattle.std.proofs.lemmas.List.{length-append}
use Rattle.devices.specs.Reference.{line_feed}
use Rattle.captures.specs.declared.version.Version.{Version}
use Rattle.captures.specs.declared.version.Version.TheVariants.{One, Two, Traffic}
use Rattle.captures.specs.declared.record.Record.{Record}
use Rattle.captures.specs.declared.record.Record.TheVariants.{Piece, End, Tier}
use Rattle.captures.specs.Reference.{format_of, used_once, ends_for_good, is_end_of, connection_of, first_line, last_line, record_text, text_before_stop, capture_text, IsRecord, IsCapture, IsCaptureText}
use Rattle.captures.specs.Upgrades.{later, upgraded, IsUpgrade}
use Rattle.captures.proofs.Lines.{few_connections, within_longest}
use Rattle.captures.proofs.Lives.{once_same}
use Rattle.captures.proofs.Agree.{one_list}

-- ---- formats in their order

-- what the one allows the other does
record Widens (v w : Version) : Type 0 where
  numbers : (format_of v).last_connection ≤ (format_of w).last_connection
  tiers : (format_of v).has_tiers ≡ true → (format_of w).has_tiers ≡ true
  ends : (c : ℕ) (r : Record) → ends_for_good v c r ≡ false → ends_for_good w c r ≡ false
  bytes : (format_of v).max_text_bytes ≤ (format_of w).max_text_bytes
  messages : (format_of v).max_messages ≤ (format_of w).max_messages

-- no format answers more messages than the traffic that is days long
pub few_messages : (v : Version) → (format_of v).max_messages ≤ 536870912
few_messages One = omega arith
few_messages Two = omega arith
few_messages Traffic = omega arith

never : (c : ℕ) (r : Record) → ends_for_good Traffic c r ≡ false
never c r = refl

widens : (to v : Version) → Widens v (later to v)
widens One One = record { numbers = omega arith; tiers = λ h. h; ends = λ c r h. h; bytes = omega arith; messages = omega arith }
widens One Two = record { numbers = omega arith; tiers = λ h. h; ends = λ c r h. h; bytes = omega arith; messages = omega arith }
widens One Traffic = record { numbers = omega arith; tiers = λ h. h; ends = λ c r h. h; bytes = omega arith; messages = omega arith }
widens Two One = record { numbers = omega arith; tiers = λ h. refl; ends = λ c r h. h; bytes = omega arith; messages = omega arith }
widens Two Two = record { numbers = omega arith; tiers = λ h. h; ends = λ c r h. h; bytes = omega arith; messages = omega arith }
widens Two Traffic = record { numbers = omega arith; tiers = λ h. h; ends = λ c r h. h; bytes = omega arith; messages = omega arith }
widens Traffic v = record { numbers = few_connections v; tiers = λ h. refl; ends = λ c r h. never c r; bytes = within_longest v; messages = few_messages v }

-- a later format answers as many messages
pub more_messages : (to v : Version) → (format_of v).max_messages ≤ (format_of (later to v)).max_messages
more_messages to v = (widens to v).messages

wider : (v w : Version) (r : Record) → Widens v w → IsRecord v r → IsRecord w r
wider v w (Piece tick conn bytes) n h = (h.0, omega (arith, h.1, n.numbers), h.2, h.3)
wider v w (End tick conn) n h = (h.0, omega (arith, h.1, n.numbers))
wider v w (Tier conn tier) n h = (n.tiers h.0, omega (arith, h.1, n.numbers), h.2)

pub rules_widen : (to v : Version) (start : ℕ) (records : List Record) → IsCapture v start records → IsCapture (later to v) start records
rules_widen to v start records c =
    let n = widens to v in
    record {
      in_time = c.in_time;
      each = λ k d h. wider v (later to v) (get_or records k d) n (c.each k d h);
      rising = c.rising;
      ends_last = λ i j d lt below. n.ends (connection_of (get_or records j d)) (get_or records i d) (c.ends_last i j d lt below);
      tiers_first = c.tiers_first;
    }

-- a capture's numbers are used once
for_good : (v : Version) (c : ℕ) (r : Record) → (format_of v).used_again ≡ false → ends_for_good v c r ≡ is_end_of c r
for_good One c r h = refl
for_good Two c r h = refl
for_good Traffic c r h = absurd cc

pub numbers_once : (v : Version) (start : ℕ) (records : List Record) → (format_of v).used_again ≡ false → IsCapture v start records → used_once records ≡ records
numbers_once v start records h c = once_same records (λ i j d lt below. sym (for_good v (connection_of (get_or records j d)) (get_or records i d) h) ∙ c.ends_last i j d lt below)

-- ---- texts

-- the formats' first lines are of one length
as_long : (v w : Version) → length (format_of v).opening ≡ length (format_of w).opening
as_long v w = seventeen v ∙ sym (seventeen w)
  where
    seventeen : (v : Version) → length (format_of v).opening ≡ 17
    seventeen One = refl
    seventeen Two = refl
    seventeen Traffic = refl

same_length : (v w : Version) (start : ℕ) (records : List Record) → length (capture_text v start records) ≡ length (capture_text w start records)
same_length v w start records =
    let texts = flat_map record_text records in
    let last = last_line records ++ line_feed ∷ [] in
    omega (
      arith,
      as_long v w,
      length-append (text_before_stop v start records) last,
      length-append (text_before_stop w start records) last,
      length-append (first_line v start ++ line_feed ∷ []) texts,
      length-append (first_line w start ++ line_feed ∷ []) texts,
      length-append (first_line v start) (line_feed ∷ []),
      length-append (first_line w start) (line_feed ∷ []),
      length-append (format_of v).opening (decimal start),
      length-append (format_of w).opening (decimal start),
    )

pub upgrade_is : (to v : Version) (bytes : List ℕ) (start : ℕ) (records : List Record) → IsCaptureText v bytes start records → IsCaptureText (later to v) (upgraded to v start records) start records
upgrade_is to v bytes start records c = record {
  text = refl;
  rules = rules_widen to v start records c.rules;
  size = omega (arith, c.size, (widens to v).bytes, ap length c.text, same_length v (later to v) start records);
}

later_twice : (to v : Version) → later to (later to v) ≡ later to v
later_twice One v = refl
later_twice Two One = refl
later_twice Two Two = refl
later_twice Two Traffic = refl
later_twice Traffic v = refl

pub upgrade_twice : (to : Version) (old new again : List ℕ) → IsUpgrade to old new → IsUpgrade to new again → again ≡ new
upgrade_twice to old new again a b =
    let first = upgrade_is to a.version old a.start a.records a.capture in
    let second = subst (λ (w : List ℕ). IsCaptureText b.version w b.start b.records) a.text b.capture in
    let same = one_list (upgraded to a.version a.start a.records) (later to a.version) b.version a.start b.start a.records b.records first second in
    b.text ∙ (sym (λ i. upgraded to (same.0 i) (same.1 i) (same.2 i)) ∙ (ap (λ w. capture_text w a.start a.records) (later_twice to a.version) ∙ sym a.text))

-- Each text is a capture's, or has a first fault.
use Rattle.std.proofs.Common.{◌≡◌, ℕ, suc, zero, ◌+◌, ◌-◌, ◌^◌, ◌<◌, ◌≤◌, ◌⊎◌, inl, inr, List, [], ◌∷◌, ◌++◌, length, Option, Some, None, Result, Ok, Err, refl, sym, ap, ◌∙◌, subst, arith, flat_map}
use Rattle.std.proofs.lemmas.List.{append_assoc, append-nil, length-append, flat_map_more}
use Rattle.devices.specs.Reference.{line_feed}
use Rattle.devices.specs.Texts.{Ahead}
use Rattle.captures.specs.Reference.{first_line, record_text, format_of, text_before_stop, IsCapture, IsCaptureText}
use Rattle.captures.specs.Captures.{past_of}
use Rattle.captures.specs.declared.version.Version.{Version}
use Rattle.captures.specs.CaptureFaults.{header_at, record_at, IsFirstFault, left_after, longest_text}
use Rattle.captures.specs.declared.record.Record.{Record}
use Rattle.captures.specs.declared.capture_fault.CaptureFault.{CaptureFault}
use Rattle.captures.specs.declared.capture_fault.CaptureFaultKind.{CaptureFaultKind}
use Rattle.captures.proofs.Lines.{header_inverse, within_longest}
use Rattle.captures.proofs.Again.{room_for_header}
use Rattle.captures.proofs.Records.{stop_text, record_takes, record_follows, size_below}
use Rattle.captures.proofs.Fitting.{rules_more, rules_none, sizes_below}

abbrev pub Read : List ℕ → Type 0
Read bytes = ((v : Version) × (start : ℕ) × (records : List Record) × IsCaptureText v bytes start records) ⊎ ((f : CaptureFault) × IsFirstFault bytes f)

-- from n records on, with what is left of the text
reads_on : (v : Version) (bytes : List ℕ) (fuel start : ℕ) (rs : List Record) (rest : List ℕ) (l : ℕ) → IsCapture v start rs
    → bytes ≡ text_before_stop v start rs ++ rest → (format_of v).max_text_bytes ≡ length (text_before_stop v start rs) + l → l < fuel → Read bytes
reads_on v bytes zero start rs rest l rules whole left more = absurd (omega arith)
reads_on v bytes (suc fuel) start rs rest l rules whole left more = step (reads_on v bytes fuel start) (record_at v (past_of v rs) (record { bytes = rest; left = l })) refl
  where
    count : length rs < 2 ^ 64 - 1
    count = omega (arith, left, within_longest v, sizes_below rs, length-append (first_line v start ++ line_feed ∷ []) (flat_map record_text rs))

    step : ((rs : List Record) (rest : List ℕ) (l : ℕ) → IsCapture v start rs → bytes ≡ text_before_stop v start rs ++ rest → (format_of v).max_text_bytes ≡ length (text_before_stop v start rs) + l → l < fuel → Read bytes)
        → (r : Result (Option Record × Ahead) CaptureFaultKind) → record_at v (past_of v rs) (record { bytes = rest; left = l }) ≡ r → Read bytes
    step again (Err k) e =
        let same : l ≡ left_after v start rs = omega (arith, left) in
        inr (
          record { at = length rs + 1; kind = k },
          inr (
            v,
            start,
            rs,
            (
              rest,
              record {
                whole = whole;
                rules = rules;
                size = omega (arith, left);
                at = refl;
                kind = subst (λ (n : ℕ). record_at v (past_of v rs) (record { bytes = rest; left = n }) ≡ Err k) same e;
              },
            ),
          ),
        )
    step again (Ok (None, b)) e =
        let took = record_takes v (past_of v rs) (record { bytes = rest; left = l }) b None count e in
        let last : rest ≡ stop_text (length rs) = took.0.bytes ∙ (ap (λ w. stop_text (length rs) ++ w) took.1 ∙ append-nil (stop_text (length rs))) in
        let text : bytes ≡ text_before_stop v start rs ++ stop_text (length rs) = whole ∙ ap (λ w. text_before_stop v start rs ++ w) last in
        let long = ap length text in
        let took_left = took.0.left in
        inl (v, start, rs, record { text = text; rules = rules; size = omega (arith, left, length-append (text_before_stop v start rs) (stop_text (length rs))) })
    step again (Ok (Some r, b)) e =
        let took = (record_takes v (past_of v rs) (record { bytes = rest; left = l }) b (Some r) count e).0 in
        let follows = record_follows v (past_of v rs) (record { bytes = rest; left = l }) b (Some r) e in
        let longer : text_before_stop v start rs ++ record_text r ≡ text_before_stop v start (rs ++ r ∷ []) = flat_map_more record_text (first_line v start ++ line_feed ∷ []) rs r in
        let long = ap length longer in
        let took_left = took.left in
        again (rs ++ r ∷ []) b.bytes b.left (rules_more v start rs r rules follows)
        (whole ∙ (ap (λ w. text_before_stop v start rs ++ w) took.bytes ∙ (sym (append_assoc (text_before_stop v start rs) (record_text r) b.bytes) ∙ ap (λ w. w ++ b.bytes) longer)))
        (omega (arith, left, length-append (text_before_stop v start rs) (record_text r))) (omega (arith, size_below r, more))

pub reads : (bytes : List ℕ) → Read bytes
reads bytes = step (header_at (record { bytes = bytes; left = longest_text })) refl
  where
    step : (r : Result ((Version × ℕ) × Ahead) CaptureFaultKind) → header_at (record { bytes = bytes; left = longest_text }) ≡ r → Read bytes
    step (Err k) e = inr (record { at = 0; kind = k }, inl (refl, e))
    step (Ok ((v, start), b)) e =
        let took = header_inverse v (record { bytes = bytes; left = longest_text }) b start e in
        let all : text_before_stop v start [] ≡ first_line v start ++ line_feed ∷ [] = append-nil (first_line v start ++ line_feed ∷ []) in
        let l = (format_of v).max_text_bytes - length (first_line v start ++ line_feed ∷ []) in
        let capacity : length (first_line v start ++ line_feed ∷ []) ≤ (format_of v).max_text_bytes = room_for_header v start took.1 in
        let own : (format_of v).max_text_bytes ≡ length (first_line v start ++ line_feed ∷ []) + l = omega (arith, capacity) in
        reads_on v bytes (l + 1) start [] b.bytes l (rules_none v start took.1)
        (took.0.bytes ∙ ap (λ w. w ++ b.bytes) (sym all)) (own ∙ ap (λ w. length w + l) (sym all)) (omega arith)

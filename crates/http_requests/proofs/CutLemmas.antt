-- Steps of a cutter, and the texts that it fits.
use Rattle.std.proofs.Common.{◌≡◌, ℕ, zero, suc, ◌+◌, ◌-◌, ◌<◌, ◌≤◌, ◌⊎◌, inl, inr, List, [], ◌∷◌, ◌++◌, length, take, drop, refl, sym, ap, arith, length-append, length-drop, append_assoc, append-nil, zero-add}
use Rattle.std.proofs.lemmas.List.{drop-append-le, take-append-drop}
use Rattle.std.proofs.Math.ListN.{drop_of_length-le}
use Rattle.std.proofs.lemmas.Grind.{common_steps}
use Rattle.http_requests.specs.declared.messages.Meaning.{Meaning}
use Rattle.http_requests.specs.declared.messages.Message.{Message}
use Rattle.http_requests.specs.declared.heads.Verdict.{Verdict}
use Rattle.http_requests.specs.declared.cutting.CutterState.{CutterState}
use Rattle.http_requests.specs.declared.cutting.CutterState.TheVariants.{Seeking, Body, Closed, Failed}
use Rattle.http_requests.specs.Reference.{blank_len, NoBlock, IsWhole, IsOver, IsNext, Messages}
use Rattle.http_requests.specs.Cutting.{Progress, BodyMessages, Yields, YieldsIn, IsUnfinished, IsStage, IsSound, HasFailed, EndBetween, Enters, Cuts, Begins, Waits, Took, CutterAfter, Fed, FedSome}
use Rattle.http_requests.proofs.FoundLemmas.{front_empty}
use Rattle.http_requests.proofs.MessageLemmas.{messages_prefix, body_step}

-- a cutter that seeks or is closed, with nothing held
pub sound_empty : (c : Progress) → c.held ≡ [] → ((c.stage ≡ Seeking) ⊎ (c.stage ≡ Closed)) → IsSound c
sound_empty c h (inl e) = record { stage = rw e (front_empty c.held h, rw h (omega arith)) }
sound_empty c h (inr e) = record { stage = rw e tt }

pub sound_failed : (c : Progress) → HasFailed c → IsSound c
sound_failed c e = record { stage = rw e tt }

pub live_seeking : (c : Progress) → c.stage ≡ Seeking → ¬ (HasFailed c)
live_seeking c e f = cc

pub live_closed : (c : Progress) → c.stage ≡ Closed → ¬ (HasFailed c)
live_closed c e f = cc

pub sound_front : (c : Progress) → c.stage ≡ Seeking → IsSound c → IsUnfinished c.held
sound_front c e s = (rw e at s.stage).0

held_read : (c : Progress) → c.stage ≡ Seeking → IsSound c → length c.held ≤ c.read
held_read c e s = (rw e at s.stage).1

pub sound_body : (c : Progress) (what : Meaning) (left : ℕ) → c.stage ≡ Body what left → IsSound c → (0 < left) × (left ≤ 65_536) × (c.held ≡ [])
sound_body c what left e s = rw e at s.stage

seeking_yields : (c : Progress) (y : List ℕ) (ms : List Message) → c.stage ≡ Seeking → Messages (c.read - length c.held) (c.held ++ y) ms → YieldsIn c y ms
seeking_yields c y ms e h = rw e h

of_seeking_yields : (c : Progress) (y : List ℕ) (ms : List Message) → c.stage ≡ Seeking → YieldsIn c y ms → Messages (c.read - length c.held) (c.held ++ y) ms
of_seeking_yields c y ms e h = rw e at h

body_yields : (c : Progress) (what : Meaning) (left : ℕ) (y : List ℕ) (ms : List Message) → c.stage ≡ Body what left → BodyMessages what left c.read y ms → YieldsIn c y ms
body_yields c what left y ms e h = rw e h

closed_yields : (c : Progress) (y : List ℕ) (ms : List Message) → c.stage ≡ Closed → ms ≡ [] → YieldsIn c y ms
closed_yields c y ms e h = rw e h

-- a block was taken, and its message entered
pub took_begins : (before after : Progress) (text : List ℕ) (n : ℕ) (v : Verdict) (old new : List Message)
    → before.stage ≡ Seeking → IsSound before → Begins before.held text n v → IsSound after → ¬ (HasFailed after)
    → after.read ≡ before.read + n → Enters v.what v.length (before.read + n) after old new → Took before text after old new n
took_begins before after text n v old new e so b sound live read enters =
    let held = held_read before e so in
    let place : before.read + n ≡ (before.read - length before.held) + (length before.held + n) = omega (arith, held) in
    record {
      some = b.some;
      within = b.within;
      sound = sound;
      live = live;
      read = read;
      cuts = record {
        more = enters.more;
        appended = enters.appended;
        ends = rw read (enters.ends before.read (let i = b.some in omega (arith, i)));
        yields = λ y ms h. seeking_yields before (take n text ++ y) (enters.more ++ ms) e
            (b.yields (before.read - length before.held) y (enters.more ++ ms) (rw (← place) (enters.yields y ms h)));
      };
    }

-- no block was whole
pub took_waits : (before after : Progress) (text : List ℕ) (n : ℕ) (old : List Message)
    → before.stage ≡ Seeking → IsSound before → Waits before.held text n after.held → after.stage ≡ Seeking
    → after.read ≡ before.read + n → Took before text after old old n
took_waits before after text n old e so w stage read =
    let held = held_read before e so in
    let kept = w.kept in
    let place : after.read - length after.held ≡ (before.read - length before.held) + (length before.held + n - length after.held) = omega (arith, held, kept, read) in
    record {
      some = w.some;
      within = w.within;
      live = live_seeking after stage;
      read = read;
      sound = record { stage = rw stage (w.unfinished, (omega (arith, held, kept, read))) };
      cuts = record {
        more = [];
        appended = sym (append-nil old);
        ends = tt;
        yields = λ y ms h. seeking_yields before (take n text ++ y) ms e
            (w.yields (before.read - length before.held) y ms (rw (← place) (of_seeking_yields after y ms stage h)));
      };
    }

taken_len : (text : List ℕ) (k : ℕ) → k ≤ length text → length (take k text) ≡ k
taken_len text k h = grind (arith, common_steps)

taken_rest : (text y : List ℕ) (k : ℕ) → k ≤ length text → drop k (take k text) ++ y ≡ y
taken_rest text y k h = rw (drop_of_length-le (take k text) {i = k} (let l = taken_len text k h in omega (arith, l))) refl

-- bytes of a body were taken
pub took_body : (before after : Progress) (text : List ℕ) (what : Meaning) (left n : ℕ) (old new : List Message)
    → before.stage ≡ Body what left → n ≤ length text → n ≤ left → 0 < n → IsSound after → ¬ (HasFailed after)
    → after.read ≡ before.read + n → Enters what (left - n) (before.read + n) after old new → Took before text after old new n
took_body before after text what left n old new e within most some sound live read enters =
    record {
      some = some;
      within = within;
      sound = sound;
      live = live;
      read = read;
      cuts = record {
        more = enters.more;
        appended = enters.appended;
        ends = rw read (enters.ends before.read (omega (arith, some)));
        yields = λ y ms h. body_yields before what left (take n text ++ y) (enters.more ++ ms) e
            (let t = taken_len text n within in
            body_step what left n before.read (take n text ++ y) (enters.more ++ ms) most (rw (length-append (take n text) y) (omega (arith, t)))
            (rw (drop-append-le n (take n text) y (omega (arith, t)), taken_rest text y n within) (enters.yields y ms h)));
      };
    }

pub took_closed : (before after : Progress) (text : List ℕ) (old : List Message) → before.stage ≡ Closed → 0 < length text
    → after.stage ≡ Closed → after.read ≡ before.read + length text → Took before text after old old (length text)
took_closed before after text old e some stage read = record {
  some = some;
  within = omega arith;
  live = live_closed after stage;
  read = read;
  sound = record { stage = rw stage tt };
  cuts = record {
    more = [];
    appended = sym (append-nil old);
    ends = tt;
    yields = λ y ms h. let none : ms ≡ [] = rw stage at h in closed_yields before (take (length text) text ++ y) ms e none;
  };
}

-- a message without bytes to come was added
pub enters_now : (what : Meaning) (left read : ℕ) (c : Progress) (old : List Message) (m : Message) → left ≡ 0 → m.what ≡ what → m.end ≡ read
    → ((y : List ℕ) (ms : List Message) → YieldsIn c y ms → BodyMessages what 0 read y (m ∷ ms)) → Enters what left read c old (old ++ m ∷ [])
enters_now what left read c old m zero_left w e yields = record {
  more = m ∷ [];
  appended = refl;
  ends = λ from below. (omega (arith, e, below), omega (arith, e), tt);
  yields = rw zero_left yields;
}

waits_front : (held : List ℕ) (what : Meaning) (j : ℕ) → NoBlock held → length held < 8192 → (IsWhole held what j ⊎ IsOver held what j) → ⊥
waits_front held what j none short (inl w) = none w.e w.block.short w.block.ends
waits_front held what j none short (inr o) = let i = o.within in omega (arith, i, short)

waits_next : (held : List ℕ) (what : Meaning) (k : ℕ) → blank_len held ≡ 0 → (next : IsNext (held ++ []) what k) → (IsWhole held what next.j ⊎ IsOver held what next.j)
waits_next held what k h next = rw (append-nil held, h) at next.front

waits : (s : CutterState) (read : ℕ) (held : List ℕ) → IsStage s read held → Yields s read held [] []
waits Seeking read held h = λ what k next. waits_front held what next.j h.0.1 h.0.2 (waits_next held what k h.0.0 next)
waits (Body what left) read held h = h.0
waits Closed read held h = refl
waits Failed read held h = refl

-- no message ends in nothing
pub sound_waits : (c : Progress) → IsSound c → YieldsIn c [] []
sound_waits c h = waits c.stage c.read c.held h.stage

-- nothing was cut yet
pub cuts_none : (c : Progress) (text : List ℕ) (old : List Message) → Cuts c (take 0 text) c old old
cuts_none c text old = record { more = []; appended = sym (append-nil old); ends = tt; yields = λ y ms h. h }

take_then : (text : List ℕ) (at n : ℕ) → at ≤ length text → take (at + n) text ≡ take at text ++ take n (drop at text)
take_then text zero n h = rw (zero-add n) refl
take_then [] (suc at) n h = absurd (omega (arith, h))
take_then (b ∷ text) (suc at) n h = let e : suc at + n ≡ suc (at + n) = omega arith in rw e (ap (λ l. b ∷ l) (take_then text at n (omega (arith, h))))

between_later : (from low to : ℕ) (ms : List Message) → from ≤ low → EndBetween low to ms → EndBetween from to ms
between_later from low to [] le h = tt
between_later from low to (m ∷ ms) le h = ((let i = h.0 in omega (arith, i, le)), h.1, h.2)

between_append : (from mid to : ℕ) (ms ns : List Message) → from ≤ mid → mid ≤ to → EndBetween from mid ms → EndBetween mid to ns → EndBetween from to (ms ++ ns)
between_append from mid to [] ns le wide g h = between_later from mid to ns le h
between_append from mid to (m ∷ ms) ns le wide g h = (g.0, (let i = g.1 in omega (arith, i, wide)), between_append m.end mid to ms ns g.1 wide g.2 h)

pub cuts_then : (a b c : Progress) (text : List ℕ) (at n : ℕ) (old mid new : List Message) → at ≤ length text → b.read ≡ a.read + at
    → Cuts a (take at text) b old mid → Took b (drop at text) c mid new n → Cuts a (take (at + n) text) c old new
cuts_then a b c text at n old mid new le read g t =
    let h = t.cuts in
    let later = t.read in
    record {
      more = g.more ++ h.more;
      appended = rw (h.appended, g.appended) (append_assoc old g.more h.more);
      ends = between_append a.read b.read c.read g.more h.more (omega (arith, read)) (omega (arith, later)) g.ends h.ends;
      yields = λ y ms e.
          rw (append_assoc g.more h.more ms, take_then text at n le, append_assoc (take at text) (take n (drop at text)) y)
          (g.yields (take n (drop at text) ++ y) (h.more ++ ms) (h.yields y ms e));
    }

-- what was taken of a piece
cuts_fit : (before after : Progress) (taken : List ℕ) (old new : List Message)
    → IsSound after → ¬ (HasFailed after) → after.read ≡ before.read + length taken → (cuts : Cuts before taken after old new)
    → (past : List ℕ) (sofar : List Message) → CutterAfter past sofar before → CutterAfter (past ++ taken) (sofar ++ cuts.more) after
cuts_fit before after taken old new sound live read cuts past sofar fits =
    let step : (y : List ℕ) (ms : List Message) → YieldsIn after y ms → Messages 0 ((past ++ taken) ++ y) ((sofar ++ cuts.more) ++ ms) =
    λ y ms h. rw (append_assoc past taken y, append_assoc sofar cuts.more ms) (fits.goes_on (taken ++ y) (cuts.more ++ ms) (cuts.yields y ms h)) in
    record {
      live = live;
      read = rw (read, fits.read, length-append past taken) refl;
      messages = rw (append-nil (past ++ taken), append-nil (sofar ++ cuts.more)) at (step [] [] (sound_waits after sound));
      goes_on = step;
    }

take_whole : (piece : List ℕ) (at : ℕ) → length piece ≤ at → take at piece ≡ piece
take_whole piece at h = grind (arith, common_steps)

-- a whole piece was cut
pub cuts_fed : (before after : Progress) (piece : List ℕ) (at : ℕ) (old new : List Message) → length piece ≤ at → at ≤ length piece
    → IsSound after → ¬ (HasFailed after) → after.read ≡ before.read + at → Cuts before (take at piece) after old new
    → (past : List ℕ) (sofar : List Message) → CutterAfter past sofar before → Fed past sofar after piece old new
cuts_fed before after piece at old new a b sound live read cuts past sofar fits =
    let all = rw (take_whole piece at a) at cuts in
    let n : at ≡ length piece = omega (arith, a, b) in
    let f = cuts_fit before after piece old new sound live (rw (← n) read) all past sofar fits in
    let from = fits.read in
    let to : after.read ≡ length past + length piece = omega (arith, from, read, n) in
    record {
      more = all.more;
      appended = all.appended;
      messages = f.messages;
      in_piece = rw (← to, ← from) all.ends;
      fits = f;
    }

-- memory ran out in the middle of a piece
pub cuts_some : (before after : Progress) (piece : List ℕ) (at : ℕ) (old new : List Message) → at ≤ length piece
    → IsSound after → ¬ (HasFailed after) → after.read ≡ before.read + at → Cuts before (take at piece) after old new
    → (past : List ℕ) (sofar : List Message) → CutterAfter past sofar before → FedSome past sofar piece old new
cuts_some before after piece at old new b sound live read cuts past sofar fits =
    let f = cuts_fit before after (take at piece) old new sound live (rw (taken_len piece at b) read) cuts past sofar fits in
    let whole : past ++ piece ≡ (past ++ take at piece) ++ drop at piece = rw (append_assoc past (take at piece) (drop at piece), take-append-drop at piece) refl in
    record {
      more = cuts.more;
      appended = cuts.appended;
      at = at;
      within = b;
      messages = f.messages;
      first = λ all h. messages_prefix 0 (past ++ take at piece) (drop at piece) (sofar ++ cuts.more) all f.messages (rw whole at h);
    }

-- the rest of a piece, as the code slices it
pub tail_is : (piece : List ℕ) (at : ℕ) → take (length piece - at) (drop at piece) ≡ drop at piece
tail_is piece at = grind (arith, common_steps)

pub took_rest : (text : List ℕ) (at n : ℕ) → at ≤ length text → n ≤ length (drop at text) → at + n ≤ length text
took_rest text at n h k = let l = length-drop at text in omega (arith, h, k, l)

-- a new cutter fits the empty text
pub fits_new : (c : Progress) → c.held ≡ [] → c.stage ≡ Seeking → c.read ≡ 0 → CutterAfter [] [] c
fits_new c h e r =
    let step : (y : List ℕ) (ms : List Message) → YieldsIn c y ms → Messages 0 y ms =
    λ y ms yields. rw (h, r) at (of_seeking_yields c y ms e yields) in
    record {
      live = live_seeking c e;
      read = r;
      messages = step [] [] (sound_waits c (sound_empty c h (inl e)));
      goes_on = step;
    }

-- bytes of a body are still to come
pub enters_later : (what : Meaning) (left : ℕ) (c : Progress) (old : List Message) → c.stage ≡ Body what left → Enters what left c.read c old old
enters_later what left c old e = record {
  more = [];
  appended = sym (append-nil old);
  ends = λ from below. tt;
  yields = λ y ms h. rw e at h;
}

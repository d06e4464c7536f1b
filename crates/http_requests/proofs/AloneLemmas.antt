-- Pieces that are cut by themselves.
use Rattle.std.proofs.Common.{◌≡◌, ℕ, ◌+◌, ◌-◌, inl, Bool, true, false, List, [], ◌∷◌, ◌++◌, length, drop, refl, sym, ap, ◌∙◌, arith, length-append, append_assoc, append-nil, zero-add}
use Rattle.std.specs.Prelude.{MatchBool}
use Rattle.http_requests.specs.declared.cutting.CutterState.TheVariants.{Closed as IsClosed}
use Rattle.http_requests.specs.declared.cutting.PieceEnd.{PieceEnd}
use Rattle.http_requests.specs.declared.cutting.PieceEnd.TheVariants.{Between, Closed, Unfinished}
use Rattle.http_requests.specs.declared.messages.Message.{Message}
use Rattle.http_requests.specs.Reference.{Messages, MessagesOf, closes}
use Rattle.http_requests.specs.Cutting.{Progress, EndBetween, YieldsIn, CutterAfter, Fed}
use Rattle.http_requests.specs.Alone.{shifted, IsWholly, IsLast, CutAlone, IsBetween, StandsSo}
use Rattle.http_requests.proofs.CutLemmas.{sound_empty, sound_waits, live_seeking}

-- ---- messages from another place of a text

rest_moved : (b : Bool) (n p q : ℕ) (r : List ℕ) (ms : List Message) → (Messages p r ms → Messages q r (shifted n ms))
    → MatchBool b (ms ≡ []) (Messages p r ms) → MatchBool b (shifted n ms ≡ []) (Messages q r (shifted n ms))
rest_moved true n p q r ms f h = ap (shifted n) h
rest_moved false n p q r ms f h = f h

pub moved : (n p q : ℕ) (r : List ℕ) (ms : List Message) → q ≡ n + p → Messages p r ms → Messages q r (shifted n ms)
moved n p q r [] e h = h
moved n p q r (m ∷ ms) e h = (
  h.0,
  h.1,
  (let own = h.2 in omega (arith, e, own)),
  rest_moved (closes m.what) n (p + h.0) (q + h.0) (drop h.0 r) ms (moved n (p + h.0) (q + h.0) (drop h.0 r) ms (omega (arith, e))) h.3,
)

-- they are those of a place before it
abbrev Back : ℕ → ℕ → List ℕ → List Message → Type 0
Back n p r ns = (ms : List Message) × (shifted n ms ≡ ns) × Messages p r ms

rest_back : (b : Bool) (n p q : ℕ) (r : List ℕ) (ns : List Message) → (Messages q r ns → Back n p r ns) → MatchBool b (ns ≡ []) (Messages q r ns)
    → (ms : List Message) × (shifted n ms ≡ ns) × MatchBool b (ms ≡ []) (Messages p r ms)
rest_back true n p q r ns f h = ([], sym h, refl)
rest_back false n p q r ns f h = f h

same_list : (end : ℕ) (m : Message) (xs ns : List Message) → end ≡ m.end → xs ≡ ns → record { end = end; what = m.what } ∷ xs ≡ m ∷ ns
same_list end m xs ns e same = let mk : ℕ → List Message → List Message = λ n l. record { end = n; what = m.what } ∷ l in ap (λ n. mk n xs) e ∙ ap (mk m.end) same

pub moved_back : (n p q : ℕ) (r : List ℕ) (ns : List Message) → q ≡ n + p → Messages q r ns → Back n p r ns
moved_back n p q r [] e h = ([], refl, h)
moved_back n p q r (m ∷ ns) e h =
    let rest = rest_back (closes m.what) n (p + h.0) (q + h.0) (drop h.0 r) ns (moved_back n (p + h.0) (q + h.0) (drop h.0 r) ns (omega (arith, e))) h.3 in
    let own = h.2 in (
      record { end = p + h.0; what = m.what } ∷ rest.0,
      same_list (n + (p + h.0)) m (shifted n rest.0) ns (omega (arith, e, own)) rest.1,
      (h.0, h.1, refl, rest.2),
    )

shifted_append : (n : ℕ) (ms ns : List Message) → shifted n (ms ++ ns) ≡ shifted n ms ++ shifted n ns
shifted_append n [] ns = refl
shifted_append n (m ∷ ms) ns = ap (λ (l : List Message). record { end = n + m.end; what = m.what } ∷ l) (shifted_append n ms ns)

pub between_moved : (n from to a b : ℕ) (ms : List Message) → a ≡ n + from → b ≡ n + to → EndBetween from to ms → EndBetween a b (shifted n ms)
between_moved n from to a b [] e f h = tt
between_moved n from to a b (m ∷ ms) e f h = (
  (let i = h.0 in omega (arith, i, e)),
  (let i = h.1 in omega (arith, i, f)),
  between_moved n m.end to (n + m.end) b ms refl f h.2,
)

-- ---- a cutter between two messages

-- it yields the messages of what follows
yields_next : (c : Progress) (p : ℕ) (y : List ℕ) (ns : List Message) → IsBetween c → c.read ≡ p → Messages p y ns → YieldsIn c y ns
yields_next c p y ns between read h = let at : c.read - 0 ≡ p = omega (arith, read) in rw (between.0, between.1, at) h

next_yields : (c : Progress) (p : ℕ) (y : List ℕ) (ns : List Message) → IsBetween c → c.read ≡ p → YieldsIn c y ns → Messages p y ns
next_yields c p y ns between read h = let at : c.read - 0 ≡ p = omega (arith, read) in rw (between.0, between.1, at) at h

-- ---- a new cutter has read the piece

wholly : (c : Progress) (piece : List ℕ) (old new : List Message) (fed : Fed [] [] c piece old new) → IsBetween c → IsWholly piece fed.more
wholly c piece old new fed between = record { in_piece = rw zero-add at fed.in_piece; goes_on = goes_on }
  where
    goes_on : (p : ℕ) (y : List ℕ) (ns : List Message) → Messages (p + length piece) y ns → Messages p (piece ++ y) (shifted p fed.more ++ ns)
    goes_on p y ns h =
        let back = moved_back p (length piece) (p + length piece) y ns refl h in
        let all : Messages 0 (piece ++ y) (fed.more ++ back.0) = fed.fits.goes_on y back.0 (yields_next c (length piece) y back.0 between fed.fits.read back.2) in
        let there = moved p 0 p (piece ++ y) (fed.more ++ back.0) (omega arith) all in
        rw (shifted_append p fed.more back.0, back.1) at there

last : (c : Progress) (piece : List ℕ) (old new : List Message) (fed : Fed [] [] c piece old new) → c.stage ≡ IsClosed → IsLast piece fed.more
last c piece old new fed closed = record {
  in_piece = rw zero-add at fed.in_piece;
  closes = λ p y.
      let none : YieldsIn c y [] = rw closed refl in
      let all : Messages 0 (piece ++ y) (fed.more ++ []) = fed.fits.goes_on y [] none in
      moved p 0 p (piece ++ y) fed.more (omega arith) (rw append-nil at all);
}

pub alone : (end : PieceEnd) (c : Progress) (piece : List ℕ) (old new : List Message) (fed : Fed [] [] c piece old new) → StandsSo end c → CutAlone piece fed.more end
alone Between c piece old new fed stands = wholly c piece old new fed stands
alone Closed c piece old new fed stands = last c piece old new fed stands
alone Unfinished c piece old new fed stands = tt

-- ---- a cutter takes it

pub passes : (c after : Progress) (piece : List ℕ) (ms : List Message) → IsBetween c → IsBetween after → after.read ≡ c.read + length piece → IsWholly piece ms
    → (past : List ℕ) (sofar : List Message) → CutterAfter past sofar c → Fed past sofar after piece [] (shifted c.read ms)
passes c after piece ms between still read all past sofar fits = record {
  more = new;
  appended = refl;
  messages = messages;
  in_piece = (let from = fits.read in between_moved c.read 0 (length piece) (length past) (length past + length piece) ms (omega (arith, from)) (omega (arith, from)) all.in_piece);
  fits = record {
    live = live_seeking after still.0;
    read = (let from = fits.read in let len = length-append past piece in omega (arith, from, read, len));
    messages = messages;
    goes_on = step;
  };
}
  where
    new : List Message
    new = shifted c.read ms

    step : (y : List ℕ) (ns : List Message) → YieldsIn after y ns → MessagesOf ((past ++ piece) ++ y) ((sofar ++ new) ++ ns)
    step y ns h = rw (append_assoc past piece y, append_assoc sofar new ns)
        (fits.goes_on (piece ++ y) (new ++ ns)
        (yields_next c c.read (piece ++ y) (new ++ ns) between refl (all.goes_on c.read y ns (next_yields after (c.read + length piece) y ns still read h))))

    messages : MessagesOf (past ++ piece) (sofar ++ new)
    messages = rw (append-nil (past ++ piece), append-nil (sofar ++ new)) at (step [] [] (sound_waits after (sound_empty after still.1 (inl still.0))))

-- its last message closes the connection
pub lasts : (c : Progress) (piece : List ℕ) (ms : List Message) → IsBetween c → IsLast piece ms → (past : List ℕ) (sofar : List Message) → CutterAfter past sofar c
    → (more : List ℕ) → MessagesOf ((past ++ piece) ++ more) (sofar ++ shifted c.read ms)
lasts c piece ms between all past sofar fits more = rw (append_assoc past piece more)
    (fits.goes_on (piece ++ more) (shifted c.read ms) (yields_next c c.read (piece ++ more) (shifted c.read ms) between refl (all.closes c.read more)))

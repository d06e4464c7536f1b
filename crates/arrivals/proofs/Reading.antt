-- What a connection has read, and what it reads next.
use Rattle.std.proofs.Common.{◌≡◌, ℕ, zero, suc, ◌+◌, Bool, true, false, ◌||◌, List, [], ◌∷◌, ◌++◌, drop, refl, arith}
use Rattle.std.specs.Prelude.{MatchBool}
use Rattle.std.proofs.lemmas.List.{append_assoc, append-nil, drop-append-le}
use Rattle.http_requests.specs.declared.messages.Message.{Message}
use Rattle.http_requests.specs.Reference.{Messages, MessagesOf, closes}
use Rattle.http_requests.specs.Cutting.{Progress, CutterAfter, Fed}
use Rattle.http_requests.proofs.FrontLemmas.{next_append, next_within}
use Rattle.arrivals.specs.Connections.{HasRead, ReadMore, connection_at, some_closes}
use Rattle.arrivals.specs.declared.connections.Connection.{Connection}
use Rattle.arrivals.specs.declared.connections.Connection.TheVariants.{Silent, Open, Closed}

rest_closed : (b : Bool) (p : ℕ) (r y s : List ℕ) (ms : List Message) → s ≡ r ++ y → (b || some_closes ms) ≡ true
    → (some_closes ms ≡ true → Messages p r ms → Messages p (r ++ y) ms) → MatchBool b (ms ≡ []) (Messages p r ms) → MatchBool b (ms ≡ []) (Messages p s ms)
rest_closed true p r y s ms t e f h = h
rest_closed false p r y s ms t e f h = rw t (f e h)

-- after a message that closes there is no other, whatever follows
pub closed_for_good : (p : ℕ) (r y : List ℕ) (ms : List Message) → some_closes ms ≡ true → Messages p r ms → Messages p (r ++ y) ms
closed_for_good p r y [] e h = absurd (let x : ⊥ = grind (arith, e) in x)
closed_for_good p r y (m ∷ ms) e h =
    let w = next_within r m.what h.0 h.1 in
    let t : drop h.0 (r ++ y) ≡ drop h.0 r ++ y = drop-append-le h.0 r y w.1 in
    (h.0, next_append r y m.what h.0 h.1, h.2, rest_closed (closes m.what) (p + h.0) (drop h.0 r) y (drop h.0 (r ++ y)) ms t e (closed_for_good (p + h.0) (drop h.0 r) y ms) h.3)

or_true : (b c : Bool) → c ≡ true → (b || c) ≡ true
or_true true c e = refl
or_true false c e = e

closes_later : (ms more : List Message) → some_closes more ≡ true → some_closes (ms ++ more) ≡ true
closes_later [] more e = e
closes_later (m ∷ ms) more e = or_true (closes m.what) (some_closes (ms ++ more)) (closes_later ms more e)

-- an open connection read one more piece
pub read_open : (cutter : Progress) (text piece : List ℕ) (ms old new : List Message) → old ≡ [] → Fed text ms cutter piece old new → ReadMore text ms (Open cutter) piece new
read_open cutter text piece ms old new none fed =
    let same : new ≡ fed.more = rw none at fed.appended in
    record { has = rw same fed.fits; in_piece = rw same fed.in_piece }

-- a message that ends in it closes the connection
pub read_last : (cutter : Progress) (text piece : List ℕ) (ms old new : List Message) → old ≡ [] → some_closes new ≡ true → Fed text ms cutter piece old new → ReadMore text ms Closed piece new
read_last cutter text piece ms old new none last fed =
    let same : new ≡ fed.more = rw none at fed.appended in
    let messages : MessagesOf (text ++ piece) (ms ++ new) = rw same fed.messages in
    record {
      has = λ more. closed_for_good 0 (text ++ piece) more (ms ++ new) (closes_later ms new last) messages;
      in_piece = rw same fed.in_piece;
    }

-- a closed connection passes over what follows
pub read_closed : (text piece : List ℕ) (ms new : List Message) → new ≡ [] → HasRead Closed text ms → ReadMore text ms Closed piece new
read_closed text piece ms new none h = record {
  has = λ more. rw (none, append-nil ms, append_assoc text piece more) (h (piece ++ more));
  in_piece = rw none tt;
}

-- a new cutter has read what a silent connection has: nothing
pub fits_silent : (cutter : Progress) (text : List ℕ) (ms : List Message) → CutterAfter [] [] cutter → HasRead Silent text ms → CutterAfter text ms cutter
fits_silent cutter text ms fits h = rw (h.0, h.1) fits

-- a further silent connection is none kept
pub silent_more : (connections : List Connection) (c : ℕ) → connection_at (connections ++ Silent ∷ []) c ≡ connection_at connections c
silent_more [] zero = refl
silent_more [] (suc c) = refl
silent_more (k ∷ connections) zero = refl
silent_more (k ∷ connections) (suc c) = silent_more connections c

-- Each connection's replies stand in its request order.
use Rattle.std.proofs.Common.{◌≡◌, ℕ, ◌==◌, cond, true, false, List, [], ◌∷◌, ◌++◌, map, get_or, All, refl, sym, ap, ◌∙◌, subst, arith}
use Rattle.std.proofs.lemmas.List.Elements.{All-head, All-tail}
use Rattle.captures.specs.declared.version.Version.{Version}
use Rattle.captures.specs.declared.record.Record.{Record}
use Rattle.captures.specs.Reference.{format_of, used_once, IsCapture}
use Rattle.captures.proofs.Lives.{all_low, piece_low}
use Rattle.captures.proofs.UpgradeLaws.{numbers_once}
use Rattle.std.specs.List.{filter}
use Rattle.arrivals.specs.Reference.{Arrival, AreArrivals, messages_of, text_of}
use Rattle.http_requests.specs.declared.messages.Message.{Message}
use Rattle.http_requests.specs.Reference.{MessagesOf}
use Rattle.std.specs.Prelude.{Option}
use Rattle.std.specs.Io.KnownBytes.{Appends}
use Rattle.reference.specs.declared.summary.Outcome.{Outcome}
use Rattle.reference.specs.Reference.{Terms, Handled, handled, handled_after, handled_next, handled_on, reply_of, replies_of, one_thread, ArrivedCapture, Answers}
use Rattle.reference.specs.Outcomes.{outcome_of}
use Rattle.reference.specs.Laws.{RepliesInRequestOrder}
use Rattle.paths.specs.declared.file.File.{File}

-- the replies that name a connection are those to its messages
own_replies : (files : List File) (terms : Terms) (start conn : ℕ) (messages : List Handled) → filter (λ reply. reply.1 == conn) (replies_of files terms start messages) ≡ replies_of files terms start (filter (λ h. h.arrival.origin.conn == conn) messages)
unfolding reply_of
own_replies files terms start conn [] = refl
own_replies files terms start conn (h ∷ messages) =
    let rest = own_replies files terms start conn messages in
    let all = filter (λ reply. reply.1 == conn) (replies_of files terms start messages) in
    let own = filter (λ h. h.arrival.origin.conn == conn) messages in
    elim (h.arrival.origin.conn == conn) as (λ t. cond t (reply_of files terms start h ∷ all) all ≡ replies_of files terms start (cond t (h ∷ own) own)) [
      | true ↦ ap (λ l. reply_of files terms start h ∷ l) rest
      | false ↦ rest
    ]

-- these are the messages of the connection, in their order
pub own_messages : (files : List File) (terms : Terms) (c : ℕ) (earlier arrivals : List Arrival) → map (λ h. h.arrival.message) (handled_on c (handled_after files terms earlier arrivals)) ≡ messages_of c arrivals
unfolding handled_after
own_messages files terms c earlier [] = refl
own_messages files terms c earlier (a ∷ arrivals) =
    let rest = own_messages files terms c (earlier ++ a ∷ []) arrivals in
    let own = handled_on c (handled_after files terms (earlier ++ a ∷ []) arrivals) in
    let of_conn = filter (λ b. b.connection == c) arrivals in
    elim (a.connection == c) as (λ t. map (λ h. h.arrival.message) (cond t (handled_next files terms earlier a ∷ own) own) ≡ map (λ b. b.message) (cond t (a ∷ of_conn) of_conn)) [
      | true ↦ ap (λ l. a.message ∷ l) rest
      | false ↦ rest
    ]

-- where each arrival's connection is its number, those of the number are those of the connection
same_ones : (files : List File) (terms : Terms) (c : ℕ) (earlier arrivals : List Arrival) → All (λ a. a.origin.conn ≡ a.connection) arrivals
    → filter (λ h. h.arrival.origin.conn == c) (handled_after files terms earlier arrivals) ≡ handled_on c (handled_after files terms earlier arrivals)
unfolding handled_after
same_ones files terms c earlier [] all = refl
same_ones files terms c earlier (a ∷ arrivals) all =
    let rest = same_ones files terms c (earlier ++ a ∷ []) arrivals (All-tail (λ b. b.origin.conn ≡ b.connection) a arrivals all) in
    let others = filter (λ h. h.arrival.origin.conn == c) (handled_after files terms (earlier ++ a ∷ []) arrivals) in
    let own = handled_on c (handled_after files terms (earlier ++ a ∷ []) arrivals) in
    let test : (a.origin.conn == c) ≡ (a.connection == c) = ap (λ n. n == c) (All-head (λ b. b.origin.conn ≡ b.connection) a arrivals all) in
    ap (λ t. cond t (handled_next files terms earlier a ∷ others) others) test ∙ ap (λ l. cond (a.connection == c) (handled_next files terms earlier a ∷ l) l) rest

-- so it is where numbers are used once
pub numbers_are : (v : Version) (start : ℕ) (records : List Record) (arrivals : List Arrival) → IsCapture v start records → (format_of v).used_again ≡ false
    → AreArrivals (used_once records) arrivals → All (λ a. a.origin.conn ≡ a.connection) arrivals
numbers_are v start records arrivals rules once are = λ k d lt.
    let a = get_or arrivals k d in
    let with = are.with k d lt in
    let piece = rw (numbers_once v start records once rules) at with.piece in
    let low = piece_low records a.place a.origin.tick a.connection with.bytes (all_low v records rules.each) piece in
    with.number ∙ omega (arith, low)

pub in_request_order : RepliesInRequestOrder
in_request_order files terms input old new outcome answers c number once =
    let capture = answers.read.capture in
    let arrivals = answers.read.arrivals in
    own_replies files terms capture.start c (handled files terms arrivals)
    ∙ ap (replies_of files terms capture.start) (same_ones files terms c [] arrivals (numbers_are capture.version capture.start capture.records arrivals capture.rules once answers.read.are))

-- an answer has its outcome whole, and is one by it
pub outcome_is : {files : List File} {terms : Terms} {input old new : Option (List ℕ)} {outcome : Outcome} (a : Answers files terms input old new outcome)
    → outcome ≡ outcome_of a.read.capture.version files terms a.read.arrivals
outcome_is a = λ i. record { version = a.format i; rejected = a.listed_exactly i; summary = a.figures i }

abbrev pub answered : (files : List File) (terms : Terms) (input old new : Option (List ℕ)) (outcome : Outcome) (read : ArrivedCapture input)
    → Appends old new (one_thread files terms read.capture.start read.arrivals)
    → outcome ≡ outcome_of read.capture.version files terms read.arrivals → Answers files terms input old new outcome
answered files terms input old new outcome read written same = record {
  read = read;
  written_exactly = written;
  listed_exactly = ap (λ (o : Outcome). o.rejected) same;
  in_request_order = λ c. subst (λ (ms : List Message). MessagesOf (text_of c (used_once read.capture.records)) ms) (sym (own_messages files terms c [] read.arrivals)) (read.are.each c);
  figures = ap (λ (o : Outcome). o.summary) same;
  format = ap (λ (o : Outcome). o.version) same;
}

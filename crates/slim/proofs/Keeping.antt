-- The slim records keep the arrivals.
use Rattle.std.proofs.Common.{◌≡◌, ◌≢◌, ℕ, ◌+◌, ◌*◌, ◌==◌, inl, inr, cond, List, [], ◌∷◌, ◌++◌, length, map, refl, sym, ap, ◌∙◌, subst, arith, append-nil}
use Rattle.std.specs.Prelude.{count_by, if◌then◌else◌}
use Rattle.std.proofs.lemmas.Bool.Decides.{eqb_tells}
use Rattle.std.proofs.lemmas.List.{append_assoc, length-append, map-append}
use Rattle.std.proofs.lemmas.List.Elements.{All-push, All-nil}
use Rattle.std.proofs.lemmas.List.Sums.{sum_by-append}
use Rattle.std.proofs.lemmas.Grind.{flat_map-append}
use Rattle.captures.specs.declared.record.Record.{Record}
use Rattle.captures.specs.declared.record.Record.TheVariants.{Piece, End, Tier}
use Rattle.captures.specs.Reference.{connection_of, connection_now, named_by, is_end_of, used_once}
use Rattle.captures.proofs.Lives.{once_push, once_length}
use Rattle.http_requests.specs.declared.messages.Message.{Message}
use Rattle.http_requests.specs.declared.messages.Meaning.{Meaning}
use Rattle.http_requests.specs.Reference.{MessagesOf}
use Rattle.http_requests.specs.Cutting.{EndBetween}
use Rattle.arrivals.specs.Reference.{Arrival, AreArrivals, bytes_to, text_of, messages_of}
use Rattle.arrivals.specs.Connections.{HaveNumbers, IsNumber, arrivals_with, tier_now}
use Rattle.arrivals.specs.Batches.{origin_now}
use Rattle.arrivals.specs.declared.incoming.Origin.{Origin}
use Rattle.arrivals.proofs.Arriving.{from_piece, text_more, own_bytes, other_bytes, messages_more, own_messages, other_messages, arrives_none, arrives_without, arrive_with_piece, each_piece}
use Rattle.arrivals.proofs.Merging.{named_back}
use Rattle.arrivals.proofs.Tiered.{now_piece, now_end, now_tier}
use Rattle.slim.specs.Blocks.{block_of}
use Rattle.slim.specs.Slims.{seen, slim_record, slim_from, slim_records}
use Rattle.slim.specs.Steps.{whats_of, text_of_blocks, laid, whats_on, IsShort, Kept}
use Rattle.slim.proofs.Laid.{IsSaid, AreSaid, laid_messages, block_some, said_short}
use Rattle.slim.proofs.Placing.{slim_next}

-- ---- lists of meanings

said_front : (xs ys : List Meaning) → AreSaid (xs ++ ys) → AreSaid xs
said_front [] ys said = tt
said_front (x ∷ xs) ys said = (said.0, λ e. front_none xs (said.1 e), said_front xs ys said.2)
  where
    front_none : (zs : List Meaning) → zs ++ ys ≡ [] → zs ≡ []
    front_none [] e = refl
    front_none (z ∷ zs) e = absurd (let z : ⊥ = cc in z)

laid_push : (p : ℕ) (ws : List Meaning) (w : Meaning) → laid p (ws ++ w ∷ []) ≡ laid p ws ++ record { end = p + length (text_of_blocks ws) + length (block_of w); what = w } ∷ []
laid_push p [] w = ap (λ n. record { end = n + length (block_of w); what = w } ∷ []) (let e : p ≡ p + length (text_of_blocks []) = omega arith in e)
laid_push p (x ∷ ws) w =
    let len = length-append (block_of x) (text_of_blocks ws) in
    let same : p + length (block_of x) + length (text_of_blocks ws) ≡ p + length (block_of x ++ text_of_blocks ws) = omega (arith, len) in
    ap (λ l. record { end = p + length (block_of x); what = x } ∷ l)
    (laid_push (p + length (block_of x)) ws w ∙ ap (λ n. laid (p + length (block_of x)) ws ++ record { end = n + length (block_of w); what = w } ∷ []) same)

blocks_push : (ws : List Meaning) (w : Meaning) → text_of_blocks (ws ++ w ∷ []) ≡ text_of_blocks ws ++ block_of w
blocks_push ws w = flat_map-append block_of ws (w ∷ []) ∙ ap (λ b. text_of_blocks ws ++ b) (append-nil (block_of w))

said_last : (ws : List Meaning) (w : Meaning) → AreSaid (ws ++ w ∷ []) → IsSaid w
said_last [] w said = said.0
said_last (x ∷ ws) w said = said_last ws w said.2

whats_push : (id place : ℕ) (o : Origin) (A : List Arrival) (m : Message) → whats_on id (A ++ arrivals_with place id o (m ∷ [])) ≡ whats_on id A ++ m.what ∷ []
whats_push id place o A m =
    ap whats_of (messages_more id A (arrivals_with place id o (m ∷ [])) ∙ ap (λ l. messages_of id A ++ l) (own_messages place id o (m ∷ [])))
    ∙ map-append (λ m. m.what) (messages_of id A) (m ∷ [])

whats_apart : (c id place : ℕ) (o : Origin) (A : List Arrival) (m : Message) → c ≢ id → whats_on c (A ++ arrivals_with place id o (m ∷ [])) ≡ whats_on c A
whats_apart c id place o A m differs =
    ap whats_of (messages_more c A (arrivals_with place id o (m ∷ [])) ∙ ap (λ l. messages_of c A ++ l) (other_messages c place id o (m ∷ []) differs) ∙ append-nil (messages_of c A))

-- ---- ends

ends_more : (c : ℕ) (r : Record) (S R : List Record) → count_by (is_end_of c) S ≡ count_by (is_end_of c) R → count_by (is_end_of c) (S ++ r ∷ []) ≡ count_by (is_end_of c) (R ++ r ∷ [])
ends_more c r S R e =
    sum_by-append (λ q. cond (is_end_of c q) 1 0) S (r ∷ []) ∙ ap (λ n. n + count_by (is_end_of c) (r ∷ [])) e ∙ sym (sum_by-append (λ q. cond (is_end_of c q) 1 0) R (r ∷ []))

ends_same : (c tick conn : ℕ) (bytes : List ℕ) (S : List Record) → count_by (is_end_of c) (S ++ Piece tick conn bytes ∷ []) ≡ count_by (is_end_of c) S
ends_same c tick conn bytes S =
    let a = sum_by-append (λ q. cond (is_end_of c q) 1 0) S (Piece tick conn bytes ∷ []) in
    let none : count_by (is_end_of c) (Piece tick conn bytes ∷ []) ≡ 0 = refl in
    omega (arith, a, none)

now_same : (c : ℕ) (S R : List Record) → count_by (is_end_of c) S ≡ count_by (is_end_of c) R → connection_now c S ≡ connection_now c R
now_same c S R e = ap (λ n. c + 65536 * n) e

numbers_more : (records : List Record) (r : Record) → IsNumber (connection_of r) → HaveNumbers records → HaveNumbers (records ++ r ∷ [])
numbers_more records r number numbers = All-push (λ (q : Record). IsNumber (connection_of q)) records r numbers number

-- a record that brings no message stays
again_without : (S : List Record) (r : Record) (slims : List Arrival) → slim_record [] r ≡ r ∷ [] → AreArrivals (used_once S) slims → slim_records S slims ≡ S → slim_records (S ++ r ∷ []) slims ≡ S ++ r ∷ []
again_without S r slims is are again =
    ap (slim_records (S ++ r ∷ [])) (sym (append-nil slims)) ∙ slim_next S r slims 0 (origin_now 0 0 S) [] are ∙ ap (λ l. slim_records S slims ++ l) is ∙ ap (λ l. l ++ r ∷ []) again

-- ---- steps

pub kept_none : Kept (slim_records [] []) [] []
unfolding slim_records slim_from
kept_none = record {
  slims = [];
  arrived = arrives_none;
  same = refl;
  numbers = All-nil (λ (r : Record). IsNumber (connection_of r));
  ends = λ c. refl;
  tiers = λ c low. refl;
  text = λ c. refl;
  messages = λ c. refl;
  again = refl;
  short = All-nil (λ (a : Arrival). IsShort a.message.what);
}

pub kept_end : (S R : List Record) (A : List Arrival) (tick conn : ℕ) → IsNumber conn → HaveNumbers R → Kept S R A → Kept (S ++ End tick conn ∷ []) (R ++ End tick conn ∷ []) A
kept_end S R A tick conn number numbers k =
    let r = End tick conn in
    let id = connection_now conn S in
    let push : used_once (S ++ r ∷ []) ≡ used_once S ++ End tick id ∷ [] = once_push S r in
    record {
      slims = k.slims;
      arrived = subst (λ (rs : List Record). AreArrivals rs k.slims) (sym push) (arrives_without (used_once S) k.slims (End tick id) (λ c. refl) k.arrived);
      same = k.same;
      numbers = numbers_more S r number k.numbers;
      ends = λ c. ends_more c r S R (k.ends c);
      tiers = λ c low. now_end c tick conn S k.numbers low ∙ ap (λ t. if conn == c then 0 else t) (k.tiers c low) ∙ sym (now_end c tick conn R numbers low);
      text = λ c. ap (text_of c) push ∙ text_more c (used_once S) (End tick id) ∙ append-nil (text_of c (used_once S)) ∙ k.text c;
      messages = k.messages;
      again = again_without S r k.slims refl k.arrived k.again;
      short = k.short;
    }

pub kept_tier : (S R : List Record) (A : List Arrival) (conn tier : ℕ) → IsNumber conn → Kept S R A → Kept (S ++ Tier conn tier ∷ []) (R ++ Tier conn tier ∷ []) A
kept_tier S R A conn tier number k =
    let r = Tier conn tier in
    let id = connection_now conn S in
    let push : used_once (S ++ r ∷ []) ≡ used_once S ++ Tier id tier ∷ [] = once_push S r in
    record {
      slims = k.slims;
      arrived = subst (λ (rs : List Record). AreArrivals rs k.slims) (sym push) (arrives_without (used_once S) k.slims (Tier id tier) (λ c. refl) k.arrived);
      same = k.same;
      numbers = numbers_more S r number k.numbers;
      ends = λ c. ends_more c r S R (k.ends c);
      tiers = λ c low. now_tier c conn tier S low number ∙ ap (λ t. if conn == c then tier else t) (k.tiers c low) ∙ sym (now_tier c conn tier R low number);
      text = λ c. ap (text_of c) push ∙ text_more c (used_once S) (Tier id tier) ∙ append-nil (text_of c (used_once S)) ∙ k.text c;
      messages = k.messages;
      again = again_without S r k.slims refl k.arrived k.again;
      short = k.short;
    }

-- the piece of a message, whose text stands in the records before it
pub kept_message : (S R : List Record) (A : List Arrival) (tick conn place : ℕ) (m : Message) → IsNumber conn
    → AreSaid (whats_on (connection_now conn R) A ++ m.what ∷ []) → Kept S R A
    → Kept (S ++ Piece tick conn (block_of m.what) ∷ []) R (A ++ record { origin = origin_now conn tick R; connection = connection_now conn R; place = place; message = m } ∷ [])
kept_message S R A tick conn place m number said k = record {
  slims = k.slims ++ new;
  arrived = arrived;
  same = map-append seen k.slims new ∙ ap (λ l. l ++ map seen new) k.same ∙ ap (λ x. map seen A ++ x ∷ []) seen_same ∙ sym (map-append seen A (a ∷ []));
  numbers = numbers_more S r number k.numbers;
  ends = λ c. ends_same c tick conn block S ∙ k.ends c;
  tiers = λ c low. now_piece c tick conn block S ∙ k.tiers c low;
  text = text_is;
  messages = messages_are;
  again = ap (λ n. slim_records (S ++ r ∷ []) (k.slims ++ arrivals_with n id (from_piece (tier_now conn S) tick id) (next ∷ []))) (once_length S)
      ∙ slim_next S r k.slims id (from_piece (tier_now conn S) tick id) (next ∷ []) k.arrived ∙ ap (λ l. l ++ r ∷ []) k.again;
  short = All-push (λ (b : Arrival). IsShort b.message.what) A a k.short (block_some m.what (said_last ws m.what said_id), said_short m.what (said_last ws m.what said_id));
}
  where
    block : List ℕ
    block = block_of m.what

    r : Record
    r = Piece tick conn block

    id : ℕ
    id = connection_now conn S

    same_id : id ≡ connection_now conn R
    same_id = now_same conn S R (k.ends conn)

    a : Arrival
    a = record { origin = origin_now conn tick R; connection = connection_now conn R; place = place; message = m }

    ws : List Meaning
    ws = whats_on id A

    said_id : AreSaid (ws ++ m.what ∷ [])
    said_id = subst (λ (x : ℕ). AreSaid (whats_on x A ++ m.what ∷ [])) (sym same_id) said

    next : Message
    next = record { end = 0 + length (text_of_blocks ws) + length block; what = m.what }

    new : List Arrival
    new = arrivals_with (length (used_once S)) id (from_piece (tier_now conn S) tick id) (next ∷ [])

    seen_same : ◌≡◌ {A = Origin × ℕ × Meaning} (record { conn = named_by id; tick = tick; tier = tier_now conn S }, id, m.what) (origin_now conn tick R, connection_now conn R, m.what)
    seen_same = λ i. (record { conn = named_back conn (count_by (is_end_of conn) S) number i; tick = tick; tier = k.tiers conn number i }, same_id i, m.what)

    whats_own : whats_on id (A ++ a ∷ []) ≡ ws ++ m.what ∷ []
    whats_own = subst (λ (x : ℕ). whats_on x (A ++ a ∷ []) ≡ whats_on x A ++ m.what ∷ []) (sym same_id) (whats_push (connection_now conn R) place (origin_now conn tick R) A m)

    whats_other : (c : ℕ) → c ≢ id → whats_on c (A ++ a ∷ []) ≡ whats_on c A
    whats_other c differs = whats_apart c (connection_now conn R) place (origin_now conn tick R) A m (λ e. differs (e ∙ sym same_id))

    push : used_once (S ++ r ∷ []) ≡ used_once S ++ Piece tick id block ∷ []
    push = once_push S r

    whole : MessagesOf (text_of id (used_once S) ++ block) (messages_of id k.slims ++ next ∷ [])
    whole = rw (k.text id, k.messages id) (rw (blocks_push ws m.what, laid_push 0 ws m.what) at (laid_messages 0 (ws ++ m.what ∷ []) said_id))

    ends_now : EndBetween (length (text_of id (used_once S))) (length (text_of id (used_once S)) + length block) (next ∷ [])
    ends_now = (let some = block_some m.what (said_last ws m.what said_id) in let e = ap length (k.text id) in (omega (arith, some, e), omega (arith, e), tt))

    arrived : AreArrivals (used_once (S ++ r ∷ [])) (k.slims ++ new)
    arrived = subst (λ (rs : List Record). AreArrivals rs (k.slims ++ new)) (sym push)
        (arrive_with_piece (used_once S) k.slims (tier_now conn S) tick id block (next ∷ []) refl k.arrived ends_now (each_piece (used_once S) k.slims (tier_now conn S) tick id block (next ∷ []) k.arrived whole))

    text_is : (c : ℕ) → text_of c (used_once (S ++ r ∷ [])) ≡ text_of_blocks (whats_on c (A ++ a ∷ []))
    text_is c = ap (text_of c) push ∙ text_more c (used_once S) (Piece tick id block) ∙ elim (eqb_tells c id) [
      | inl same ↦ subst (λ (x : ℕ). text_of x (used_once S) ++ bytes_to x (Piece tick id block) ≡ text_of_blocks (whats_on x (A ++ a ∷ []))) (sym same.1)
          (ap (λ b. text_of id (used_once S) ++ b) (own_bytes tick id block) ∙ ap (λ t. t ++ block) (k.text id) ∙ sym (blocks_push ws m.what) ∙ ap text_of_blocks (sym whats_own))
      | inr other ↦ ap (λ b. text_of c (used_once S) ++ b) (other_bytes c tick id block other.1) ∙ append-nil (text_of c (used_once S)) ∙ k.text c ∙ ap text_of_blocks (sym (whats_other c other.1))
    ]

    messages_are : (c : ℕ) → messages_of c (k.slims ++ new) ≡ laid 0 (whats_on c (A ++ a ∷ []))
    messages_are c = messages_more c k.slims new ∙ elim (eqb_tells c id) [
      | inl same ↦ subst (λ (x : ℕ). messages_of x k.slims ++ messages_of x new ≡ laid 0 (whats_on x (A ++ a ∷ []))) (sym same.1)
          (ap (λ l. messages_of id k.slims ++ l) (own_messages (length (used_once S)) id (from_piece (tier_now conn S) tick id) (next ∷ []))
          ∙ ap (λ l. l ++ next ∷ []) (k.messages id) ∙ sym (laid_push 0 ws m.what) ∙ ap (laid 0) (sym whats_own))
      | inr other ↦ ap (λ l. messages_of c k.slims ++ l) (other_messages c (length (used_once S)) id (from_piece (tier_now conn S) tick id) (next ∷ []) other.1)
          ∙ append-nil (messages_of c k.slims) ∙ k.messages c ∙ ap (laid 0) (sym (whats_other c other.1))
    ]

-- the pieces of the messages that arrive with a piece
kept_messages : (R : List Record) (tick conn place : ℕ) (ms : List Message) (S : List Record) (A : List Arrival) → IsNumber conn
    → AreSaid (whats_on (connection_now conn R) A ++ whats_of ms) → Kept S R A
    → Kept (S ++ slim_record (whats_of ms) (Piece tick conn [])) R (A ++ arrivals_with place (connection_now conn R) (origin_now conn tick R) ms)
kept_messages R tick conn place [] S A number said k = rw (append-nil S, append-nil A) k
kept_messages R tick conn place (m ∷ ms) S A number said k =
    let id = connection_now conn R in
    let o = origin_now conn tick R in
    let p : Record = Piece tick conn (block_of m.what) in
    let a : Arrival = record { origin = o; connection = id; place = place; message = m } in
    let all : AreSaid ((whats_on id A ++ m.what ∷ []) ++ whats_of ms) = rw (append_assoc (whats_on id A) (m.what ∷ []) (whats_of ms)) said in
    let one = kept_message S R A tick conn place m number (said_front (whats_on id A ++ m.what ∷ []) (whats_of ms) all) k in
    let rest = kept_messages R tick conn place ms (S ++ p ∷ []) (A ++ a ∷ []) number (rw (whats_push id place o A m) all) one in
    rw (append_assoc S (p ∷ []) (slim_record (whats_of ms) (Piece tick conn [])), append_assoc A (a ∷ []) (arrivals_with place id o ms)) at rest

pub kept_piece : (S R : List Record) (A : List Arrival) (tick conn place : ℕ) (bytes : List ℕ) (ms : List Message) → IsNumber conn
    → AreSaid (whats_on (connection_now conn R) A ++ whats_of ms) → Kept S R A
    → Kept (S ++ slim_record (whats_of ms) (Piece tick conn [])) (R ++ Piece tick conn bytes ∷ []) (A ++ arrivals_with place (connection_now conn R) (origin_now conn tick R) ms)
kept_piece S R A tick conn place bytes ms number said k =
    let all = kept_messages R tick conn place ms S A number said k in
    record {
      slims = all.slims;
      arrived = all.arrived;
      same = all.same;
      numbers = all.numbers;
      ends = λ c. all.ends c ∙ sym (ends_same c tick conn bytes R);
      tiers = λ c low. all.tiers c low ∙ sym (now_piece c tick conn bytes R);
      text = all.text;
      messages = all.messages;
      again = all.again;
      short = all.short;
    }

-- The parts of a batch, piece by piece.
use Rattle.std.proofs.Common.{◌≡◌, ℕ, ◌+◌, ◌<◌, ◌≤◌, inl, inr, List, ◌∷◌, ◌++◌, length, All, sym, ap, ◌∙◌, subst, arith}
use Rattle.std.proofs.lemmas.List.{length-append, length-map}
use Rattle.std.proofs.lemmas.List.Elements.{All-head, All-tail, All-push}
use Rattle.arrivals.specs.Parts.{incoming_from, enough_messages, Lays}
use Rattle.arrivals.specs.declared.incoming.Incoming.{Incoming}
use Rattle.arrivals.specs.declared.incoming.PieceMessages.{PieceMessages}

-- no piece has more messages
abbrev pub AtMost : ℕ → List PieceMessages → Type 0
AtMost n pieces = All (λ (piece : PieceMessages). length piece.messages ≤ n) pieces

-- the parts so far, and one that isn't long enough
pub record Sized (pieces left : List PieceMessages) (parts : List (List Incoming)) (part : List Incoming) : Type 0 where
  pub short : length part < enough_messages
  pub long : All (λ (p : List Incoming). enough_messages ≤ length p) parts
  pub within : (n : ℕ) → AtMost n pieces → AtMost n left
  pub most : (n : ℕ) → AtMost n pieces → All (λ (p : List Incoming). length p < enough_messages + n) parts

pub sized_more : (pieces left : List PieceMessages) (piece : PieceMessages) (parts new : List (List Incoming)) (part longer rest : List Incoming) → Sized pieces (piece ∷ left) parts part
    → longer ≡ part ++ incoming_from piece → Lays parts longer new rest → Sized pieces left new rest
sized_more pieces left piece parts new part longer rest s is (inl stay) = record {
  short = let same = ap length stay.2 in omega (arith, stay.0, same);
  long = subst (λ (ps : List (List Incoming)). All (λ (p : List Incoming). enough_messages ≤ length p) ps) (sym stay.1) s.long;
  within = λ n all. All-tail (λ (p : PieceMessages). length p.messages ≤ n) piece left (s.within n all);
  most = λ n all. subst (λ (ps : List (List Incoming)). All (λ (p : List Incoming). length p < enough_messages + n) ps) (sym stay.1) (s.most n all);
}
sized_more pieces left piece parts new part longer rest s is (inr laid) = record {
  short = let same = ap length laid.2 in omega (arith, same);
  long = subst (λ (ps : List (List Incoming)). All (λ (p : List Incoming). enough_messages ≤ length p) ps) (sym laid.1) (All-push (λ (p : List Incoming). enough_messages ≤ length p) parts longer s.long laid.0);
  within = λ n all. All-tail (λ (p : PieceMessages). length p.messages ≤ n) piece left (s.within n all);
  most = λ n all.
      let own : length piece.messages ≤ n = All-head (λ (p : PieceMessages). length p.messages ≤ n) piece left (s.within n all) in
      let size : length longer ≡ length part + length piece.messages = ap length is ∙ (length-append part (incoming_from piece) ∙ ap (λ k. length part + k) (length-map piece.messages _)) in
      subst (λ (ps : List (List Incoming)). All (λ (p : List Incoming). length p < enough_messages + n) ps) (sym laid.1)
      (All-push (λ (p : List Incoming). length p < enough_messages + n) parts longer (s.most n all) (omega (arith, size, own, s.short)));
}

-- What stands at a device after a write after another.
use Rattle.std.proofs.Common.{◌≡◌, ℕ, ◌+◌, List, [], ◌∷◌, ◌++◌, length, sym, ap, ◌∙◌, arith}
use Rattle.std.proofs.lemmas.List.{append_assoc, length-append}
use Rattle.responses.specs.Reference.{record_text}
use Rattle.responses.specs.Replies.{record_line}

-- a record in the parts in which it is written
pub record_parts : (reply : ℕ × ℕ × List ℕ) (line shown front body : List ℕ) → shown ≡ line → line ≡ record_line reply.0 reply.1 (length front + length body) → reply.2 ≡ front ++ body
    → record_text reply ≡ shown ++ (front ++ (body ++ 10 ∷ []))
record_parts reply line shown front body same is text =
    let size : length front + length body ≡ length reply.2 = omega (arith, ap length text, length-append front body) in
    let head : shown ≡ record_line reply.0 reply.1 (length reply.2) = same ∙ is ∙ ap (record_line reply.0 reply.1) size in
    append_assoc (record_line reply.0 reply.1 (length reply.2)) reply.2 (10 ∷ [])
    ∙ ap (λ v. record_line reply.0 reply.1 (length reply.2) ++ v) (ap (λ v. v ++ 10 ∷ []) text ∙ append_assoc front body (10 ∷ []))
    ∙ ap (λ v. v ++ (front ++ (body ++ 10 ∷ []))) (sym head)

-- What stands after the last byte of a value, by the place of that byte.
use Rattle.std.proofs.Common.{◌≡◌, ◌≢◌, ℕ, ◌+◌, ◌-◌, ◌<◌, ◌≤◌, ◌||◌, not, Bool, true, false, cond, map, sym, zero, suc, List, [], ◌∷◌, length, drop, get_or, refl, ap, ◌∙◌, arith, rules, ◌==◌}
use Rattle.std.specs.List.{after_last, list_any}
use Rattle.std.proofs.lemmas.List.Sums.{suffix_len_is}
use Rattle.std.specs.Char.{to_ascii_lowercase}
use Rattle.paths.specs.Reference.{dot, slash}
use Rattle.page_cache.specs.declared.media.MediaType.{MediaType}
use Rattle.page_cache.specs.Reference.{extension, media_by_extension, media_of}
use Rattle.page_cache.specs.Pages.{IsAfterLast}

other_byte : (b mark : ℕ) → b ≢ mark → (b == mark) ≡ false
other_byte b mark ne = search (rules, ne)

same_byte : (b mark : ℕ) → b ≡ mark → (b == mark) ≡ true
same_byte b mark is = search (rules, is)

pub after_last_none : (mark : ℕ) (text : List ℕ) → ((k : ℕ) → k < length text → get_or text k 0 ≢ mark) → list_any (λ b. b == mark) text ≡ false
after_last_none mark [] other = refl
after_last_none mark (b ∷ text) other =
    rw (other_byte b mark (other 0 (omega arith))) (after_last_none mark text (λ k inside. other (suc k) (omega (arith, inside))))

neither : (a b : Bool) → a || b ≡ false → (a ≡ false) × (b ≡ false)
neither true b h = absurd (cc)
neither false b h = (refl, h)

-- where there is none, all is left
none_all : (mark : ℕ) (text : List ℕ) → list_any (λ b. b == mark) text ≡ false → (k : ℕ) → k < length text → not (get_or text k 0 == mark) ≡ true
none_all mark [] none k inside = absurd (omega (arith, inside))
none_all mark (b ∷ text) none zero inside = ap not (neither (b == mark) (list_any (λ c. c == mark) text) none).0
none_all mark (b ∷ text) none (suc k) inside = none_all mark text (neither (b == mark) (list_any (λ c. c == mark) text) none).1 k (omega (arith, inside))

pub after_none_is_all : (mark : ℕ) (text : List ℕ) → list_any (λ b. b == mark) text ≡ false → text ≡ after_last (λ b. b == mark) text
after_none_is_all mark text none =
    let all = suffix_len_is (λ b. not (b == mark)) text 0 0 (omega arith) (λ k low inside. none_all mark text none k inside) (λ some. absurd (omega (arith, some))) in
    let place : length text - (length text - 0) ≡ 0 = omega arith in
    rw (all, place) refl

has_mark : (mark : ℕ) (text : List ℕ) (at : ℕ) → at < length text → get_or text at 0 ≡ mark → list_any (λ b. b == mark) text ≡ true
has_mark mark [] at inside here = absurd (omega (arith, inside))
has_mark mark (b ∷ text) zero inside here = rw (same_byte b mark here) refl
has_mark mark (b ∷ text) (suc at) inside here =
    elim (b == mark) as (λ t. t || list_any (λ c. c == mark) text ≡ true) [
      | true ↦ refl
      | false ↦ has_mark mark text at (omega (arith, inside)) here
    ]

pub after_last_at : (mark : ℕ) (text : List ℕ) (at : ℕ) → at < length text → get_or text at 0 ≡ mark → ((k : ℕ) → at + 1 ≤ k → k < length text → get_or text k 0 ≢ mark)
    → IsAfterLast mark text (drop (at + 1) text)
after_last_at mark text at inside here other =
    let back : at + 1 - 1 ≡ at = omega arith in
    let size = suffix_len_is (λ b. not (b == mark)) text (at + 1) 0 (omega (arith, inside)) (λ k above within. ap not (other_byte (get_or text k 0) mark (other k above within))) (λ some. rw back (ap not (same_byte (get_or text at 0) mark here))) in
    let place : length text - (length text - (at + 1)) ≡ at + 1 = omega (arith, inside) in
    (has_mark mark text at inside here, rw (size, place) refl)

-- the type by what stands after the last dot of the last part
pub media_is : (name part rest : List ℕ) (media : MediaType) → part ≡ after_last (λ b. b == slash) name → IsAfterLast dot part rest → media ≡ media_by_extension (map to_ascii_lowercase rest) → media ≡ media_of name
unfolding media_of
media_is name part rest media is after found =
    found ∙ ap (λ e. media_by_extension (map to_ascii_lowercase e)) (after.1 ∙ ap (λ t. cond t (after_last (λ b. b == dot) part) []) (sym after.0))
    ∙ ap (λ p. media_by_extension (map to_ascii_lowercase (extension p))) is

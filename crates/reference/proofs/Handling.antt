-- What becomes of messages follows from the terms and the messages before them.
use Rattle.std.proofs.Common.{◌≡◌, ℕ, zero, suc, Bool, true, false, List, [], ◌∷◌, ◌++◌, length, map, take, refl, ap, ◌∙◌, subst}
use Rattle.cost_model.specs.Reference.{Tariff}
use Rattle.std.proofs.lemmas.List.{map-append}
use Rattle.captures.specs.Reference.{format_of, used_once, used_once_after}
use Rattle.captures.proofs.Lives.{once_append}
use Rattle.arrivals.specs.Reference.{Arrival, AreArrivals}
use Rattle.arrivals.proofs.ArrivalLaws.{arrivals_begin}
use Rattle.reference.specs.Reference.{Terms, handled, handled_after, is_turned_away, reply_of, replies_of}
use Rattle.reference.specs.Choices.{with_tariff}
use Rattle.reference.specs.Laws.{TariffsChangeNoReply, HandledBegin, DueBegin}
use Rattle.reference.proofs.Offering.{handled_more}
use Rattle.paths.specs.declared.file.File.{File}

-- a message that was turned away, or wasn't, has one reply with each tariff
same_reply : (files : List File) (terms : Terms) (tariff : Tariff) (start number : ℕ) (a : Arrival) (away : Bool)
    → reply_of files terms start (record { number = number; arrival = a; turned_away = away })
    ≡ reply_of files (with_tariff tariff terms) start (record { number = number; arrival = a; turned_away = away })
unfolding reply_of
same_reply files terms tariff start number a true = refl
same_reply files terms tariff start number a false = refl

pub tariffs_change_no_reply : TariffsChangeNoReply
tariffs_change_no_reply files terms tariff start earlier a same =
    let other = with_tariff tariff terms in
    same_reply files terms tariff start (length earlier) a (is_turned_away files terms earlier a)
    ∙ ap (λ (away : Bool). reply_of files other start (record { number = length earlier; arrival = a; turned_away = away })) same

pub handled_begin : HandledBegin
handled_begin files terms arrivals more = (handled_after files terms arrivals more, handled_more files terms [] arrivals more)

-- the first n of a longer list begin with the first n of the shorter
take_begins : {A : Type 0} (n : ℕ) (xs ys : List A) → (rest : List A) × (take n (xs ++ ys) ≡ take n xs ++ rest)
take_begins zero xs ys = ([], refl)
take_begins (suc n) [] ys = (take (suc n) ys, refl)
take_begins (suc n) (x ∷ xs) ys = let r = take_begins n xs ys in (r.0, ap (λ l. x ∷ l) r.1)

pub due_begins : DueBegin
due_begins v files terms start records more xs ys a b =
    let most = (format_of v).max_messages in
    let longer = arrivals_begin (used_once records) (used_once_after records more) xs ys a (subst (λ rs. AreArrivals rs ys) (once_append records more) b) in
    let within = take_begins most xs longer.0 in
    let both = handled_begin files terms (take most xs) within.0 in (
      map (reply_of files terms start) both.0,
      ap (λ l. replies_of files terms start (handled files terms (take most l))) longer.1
          ∙ ap (λ l. replies_of files terms start (handled files terms l)) within.1
          ∙ ap (λ l. replies_of files terms start l) both.1
          ∙ map-append (reply_of files terms start) (handled files terms (take most xs)) both.0,
    )

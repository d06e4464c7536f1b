-- Two inspections of a text are the same.
use Rattle.std.proofs.Common.{◌≡◌, ℕ, List, Some, refl, sym, ap, ◌∙◌, subst, arith}
use Rattle.std.specs.Prelude.{slice_get, length, ◌-◌}
use Rattle.captures.specs.declared.record.Record.{Record}
use Rattle.captures.specs.Reference.{ticks_of, used_once}
use Rattle.captures.proofs.Agree.{one_list}
use Rattle.arrivals.specs.Reference.{Arrival, AreArrivals}
use Rattle.arrivals.proofs.ArrivalLaws.{one_list_of_arrivals}
use Rattle.inspection.specs.declared.inspection.Inspection.{Inspection}
use Rattle.inspection.specs.declared.inspection.Second.{Second}
use Rattle.inspection.specs.Figures.{IsBusiest, IsMostOpen, AreFigures, records_by_kind, messages_by_kind, whats_of, seconds_of, received, after_close, unfinished}
use Rattle.inspection.specs.Inspections.{HoldsAll}

one_busiest : (seconds : List ℕ) (a b : Second) → IsBusiest seconds a → IsBusiest seconds b → a ≡ b
one_busiest seconds a b h k =
    let a_is = h.is in let b_is = k.is in
    let ab = k.most a.number in
    let ba = h.most b.number in
    let messages : a.messages ≡ b.messages = omega (arith, a_is, b_is, ab, ba) in
    let first = h.first b.number (sym b_is ∙ sym messages) in
    let second = k.first a.number (sym a_is ∙ messages) in
    let number : a.number ≡ b.number = omega (arith, first, second) in
    λ i. record { number = number i; messages = messages i }

one_most_open : (records : List Record) (m n : ℕ) → IsMostOpen records m → IsMostOpen records n → m ≡ n
one_most_open records m n h k =
    let a = h.most k.is.0 k.is.1 in
    let b = k.most h.is.0 h.is.1 in
    let c = h.is.2 in let d = k.is.2 in
    omega (arith, a, b, c, d)

same_figures : (i j : Inspection) (rs ss : List Record) (xs ys : List Arrival) → i.version ≡ j.version → i.start ≡ j.start → rs ≡ ss → xs ≡ ys → AreFigures rs xs i → AreFigures ss ys j → i ≡ j
same_figures i j rs ss xs ys version start records arrivals h k =
    let busiest = one_busiest (seconds_of ys) i.busiest j.busiest (subst (λ (l : List Arrival). IsBusiest (seconds_of l) i.busiest) arrivals h.busiest) k.busiest in
    let counts : i.records ≡ j.records = h.counts ∙ ap records_by_kind records ∙ sym k.counts in
    let first : i.first_tick ≡ j.first_tick = h.first_tick ∙ ap (λ l. slice_get (ticks_of l) 0) records ∙ sym k.first_tick in
    let last : i.last_tick ≡ j.last_tick = h.last_tick ∙ ap (λ l. slice_get (ticks_of l) (length (ticks_of l) - 1)) records ∙ sym k.last_tick in
    let came : i.received ≡ j.received = h.received ∙ ap received records ∙ sym k.received in
    let most_open : i.most_open ≡ j.most_open = one_most_open ss i.most_open j.most_open (subst (λ (l : List Record). IsMostOpen l i.most_open) records h.most_open) k.most_open in
    let messages : i.messages ≡ j.messages = h.messages ∙ ap (λ l. messages_by_kind (whats_of l)) arrivals ∙ sym k.messages in
    let closed : i.after_close ≡ j.after_close = h.after_close ∙ ap (λ l. after_close l xs) records ∙ ap (after_close ss) arrivals ∙ sym k.after_close in
    let open_ones : i.unfinished ≡ j.unfinished = h.unfinished ∙ ap (λ l. unfinished l xs) records ∙ ap (unfinished ss) arrivals ∙ sym k.unfinished in
    λ t. record {
      version = version t;
      start = start t;
      records = counts t;
      first_tick = first t;
      last_tick = last t;
      received = came t;
      most_open = most_open t;
      messages = messages t;
      after_close = closed t;
      unfinished = open_ones t;
      busiest = busiest t;
    }

pub one_inspection : (bytes : List ℕ) (i j : Inspection) → HoldsAll (Some bytes) i → HoldsAll (Some bytes) j → i ≡ j
one_inspection bytes i j h k =
    let c = h.capture in
    let d = k.capture in
    let one = one_list bytes c.version d.version c.start d.start c.records d.records (c.text refl) (d.text refl) in
    let arrived : AreArrivals (used_once d.records) h.arrivals = subst (λ (l : List Record). AreArrivals (used_once l) h.arrivals) one.2 h.arrived in
    same_figures i j c.records d.records h.arrivals k.arrivals (h.version ∙ (one.0 ∙ sym k.version)) (h.start ∙ (one.1 ∙ sym k.start)) one.2
    (one_list_of_arrivals (used_once d.records) h.arrivals k.arrivals arrived k.arrived) h.figures k.figures

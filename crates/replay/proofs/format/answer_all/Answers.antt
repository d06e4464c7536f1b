use Rattle.std.proofs.Common.{◌≡◌, ℕ, ◌+◌, List, [], ◌∷◌, ◌++◌, refl, sym, ap, ◌∙◌, arith, append-nil, take, get_or}
use Rattle.std.proofs.lemmas.Grind.{common_steps}
use Rattle.std.proofs.lemmas.List.{append_assoc}
use Rattle.arrivals.specs.Reference.{Arrival}
use Rattle.arrivals.specs.Connections.{arrivals_with}
use Rattle.replay.proofs.Writing.{arrivals_step}
use Rattle.replay.proofs.Texts.{wrote_none, wrote_more, wrote_part}
use Rattle.replay.proofs.Judging.{by_more, passed_on, own_many, own_cut}
use Rattle.replay.proofs.format.answer_all.Goals as goal

pub loop-message-init : goal.loop-message-init
loop-message-init g c = (
  λ arrivals place id stands. rw (append-nil arrivals) stands,
  λ arrivals place id stands. wrote_none _ c.args.decider.now.start arrivals c.args.writer.now.bytes c.requires.texts,
  (refl, refl),
  omega arith,
  refl,
  c.requires.next.1,
)

-- the message that the loop is at
pub write_message-requires-clause-next : goal.write_message-requires-clause-next
write_message-requires-clause-next g c =
    let may = c.requires.next.0 in
    let sofar = take c.loop-message.message-index c.args.messages.now in
    let stands = c.loop-message.invariant.0 may.arrivals 0 0 may.stands in
    let within = c.loop-message.invariant.5 in
    let most = stands.counted.most in
    let other = c.if-decider.false in (
      record {
        tick = may.tick;
        tier = may.tier;
        arrivals = may.arrivals ++ arrivals_with 0 0 c.args.origin sofar;
        stands = stands;
        by = by_more 0 0 c.args.origin sofar may.arrivals may.by;
      },
      omega (arith, within, most, other),
    )

pub returns-then-decider-clause-stops : goal.returns-then-decider-clause-stops
returns-then-decider-clause-stops g c =
    let inv = c.loop-message.invariant in
    let lt = c.loop-message-test.true in
    let at = inv.3 in
    let most = inv.2.1 in
    let full = c.if-decider.true in (
      (
        most,
        c.loop-message.message-index,
        omega (arith, lt),
        omega (arith, at, most, full),
        inv.1,
      ),
      tt,
    )

pub returns-in_err-write_message-clause-stops : goal.returns-in_err-write_message-clause-stops
returns-in_err-write_message-clause-stops g c =
    let inv = c.loop-message.invariant in
    let messages = c.args.messages.now in
    let i = c.loop-message.message-index in
    let m = c.message-item.result in
    let lt = c.loop-message-test.true in
    let at = inv.3 in
    let own = c.in_err-write_message.ensures.faults.1 in (
      passed_on c.from_residual.result _ _ (λ f same. rw same (own_many c.in_err-write_message.field-0.0 _ own)) c.from_residual.ensures.1,
      passed_on c.from_residual.result _ _
          (λ f same. rw same (own_cut c.in_err-write_message.field-0.0 _ own (
            i + 1,
            omega (arith, lt),
            (let within = inv.5 in
                let most = inv.2.1 in
                let other = c.if-decider.false in
                omega (arith, at, within, most, other)),
            λ arrivals place id stands.
                (let sofar = arrivals_with place id c.args.origin (take i messages) in
                let part = c.in_err-write_message.ensures.part (arrivals ++ sofar) (record { origin = c.args.origin; connection = id; place = place; message = get_or messages i m }) (inv.0 arrivals place id stands) refl (ap (λ x. x.what) (sym c.message-item.is)) in
                rw (arrivals_step place id c.args.origin messages i m lt) (wrote_part _ c.args.decider.now.start arrivals sofar _ _ _ _ c.requires.texts (inv.1 arrivals place id stands) (rw inv.2.0 at part))),
          )))
          c.from_residual.ensures.1,
    )

pub loop-message-preserved : goal.loop-message-preserved
loop-message-preserved g c =
    let inv = c.loop-message.invariant in
    let messages = c.args.messages.now in
    let i = c.loop-message.message-index in
    let m = c.message-item.result in
    let lt = c.loop-message-test.true in
    let one = c.in_ok-write_message.ensures in
    let decides = one.stands in
    let at = inv.3 in
    let what : (get_or messages i m).what ≡ m.what = ap (λ x. x.what) (sym c.message-item.is) in
    let a : ℕ → ℕ → Arrival = λ place id. record { origin = c.args.origin; connection = id; place = place; message = get_or messages i m } in
    let sofar : ℕ → ℕ → List Arrival = λ place id. arrivals_with place id c.args.origin (take i messages) in (
      λ arrivals place id stands. rw (arrivals_step place id c.args.origin messages i m lt)
          (rw (append_assoc arrivals (sofar place id) (a place id ∷ [])) at (decides.stands (arrivals ++ sofar place id) (a place id) (inv.0 arrivals place id stands).counted refl what)),
      λ arrivals place id stands. rw (arrivals_step place id c.args.origin messages i m lt)
          (wrote_more _ c.args.decider.now.start arrivals (sofar place id) (a place id ∷ []) _ _ _ c.requires.texts (inv.1 arrivals place id stands) (rw inv.2.0 at (one.written (arrivals ++ sofar place id) (a place id) (inv.0 arrivals place id stands) refl what))),
      (decides.same.0 ∙ inv.2.0, decides.same.1 ∙ inv.2.1),
      (let n = decides.number in omega (arith, n, at)),
      one.faults.0 ∙ inv.4,
      (let n = decides.number in let within = inv.5 in let most = decides.same.1 in let other = c.if-decider.false in omega (arith, n, within, most, other)),
    )

pub returns-clause-ok : goal.returns-clause-ok
returns-clause-ok g c =
    let past = c.loop-message-test.false in
    let inv = c.loop-message.invariant in
    let all : take c.loop-message.message-index c.args.messages.now ≡ c.args.messages.now = grind (arith, common_steps, past) in (
      record {
        same = inv.2;
        within = inv.5;
        stands = λ arrivals place id stands. rw all at (inv.0 arrivals place id stands);
      },
      λ arrivals place id stands. rw all at (inv.1 arrivals place id stands),
    )

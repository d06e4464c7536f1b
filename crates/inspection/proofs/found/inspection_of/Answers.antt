use Rattle.std.proofs.Common.{ap, sym, ◌∙◌, refl, length}
use Rattle.captures.specs.Reference.{used_once}
use Rattle.arrivals.specs.Reference.{text_of, messages_of}
use Rattle.arrivals.specs.Connections.{text_now, messages_now}
use Rattle.inspection.specs.Figures.{bytes_after_close, bytes_unfinished}
use Rattle.inspection.specs.Running.{rest_after_close, rest_unfinished}
use Rattle.inspection.proofs.Blanks.{unfinished_kept}
use Rattle.inspection.proofs.Everyone.{share_over_all}
use Rattle.inspection.proofs.Sharing.{room_of_all}
use Rattle.inspection.proofs.found.inspection_of.Goals as goal

pub with_all-shares-requires : goal.with_all-shares-requires
with_all-shares-requires c =
    let given = c.requires in
    rw c.as_slice.ensures (room_of_all given.0 given.1 c.args.found.now given.2 given.3 given.4)

pub returns-clause-figures : goal.returns-clause-figures
returns-clause-figures c = λ records arrivals is.
    let tails = c.args.found.now.tails in
    let shares = rw c.as_slice.ensures at c.with_all-shares.ensures in
    record {
      counts = is.counts;
      first_tick = is.first_tick;
      last_tick = is.last_tick;
      received = share_over_all (λ t. t.bytes) (λ d. length (text_of d (used_once records))) records tails _ _ is.tails.few refl (λ k low. ap (λ t. t.bytes) (sym (is.tails.each k low))) is.ended.received shares.received;
      most_open = is.opened.most;
      messages = is.messages;
      after_close = share_over_all rest_after_close (λ d. bytes_after_close (text_of d (used_once records)) (messages_of d arrivals)) records tails _ _ is.tails.few refl (λ k low. ap rest_after_close (sym (is.tails.each k low))) is.ended.after_close shares.after_close;
      unfinished = share_over_all rest_unfinished (λ d. bytes_unfinished (text_of d (used_once records)) (messages_of d arrivals)) records tails _ _ is.tails.few refl (λ k low. unfinished_kept (text_now k records) (messages_now k records arrivals) ∙ ap rest_unfinished (sym (is.tails.each k low))) is.ended.unfinished shares.unfinished;
      busiest = is.busy.busiest;
    }

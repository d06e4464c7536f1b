use Rattle.std.proofs.Common.{◌<◌, length, ◌∙◌, arith}
use Rattle.std.proofs.lemmas.List.{length-set}
use Rattle.admission.proofs.PassLemmas.{all_none, all_set, first_set, all_first, few_at}
use Rattle.admission.proofs.controller.pass.Goals as goal

pub loop-tier-init : goal.loop-tier-init
loop-tier-init c = record {
  moves = all_none c.args.tiers.now c.args.tick;
  complete = λ j t below at. absurd (omega arith);
  within = omega arith;
  four = c.told-tiers;
}

pub pass-requires-clause-few : goal.pass-requires-clause-few
pass-requires-clause-few c =
    let within : c.loop-tier.tier < length c.loop-tier.tiers = omega (arith, c.loop-tier-test.true, c.loop-tier.invariant.four) in
    few_at c.args.tiers.now c.loop-tier.tiers c.args.tick c.loop-tier.tier c.index-tiers-tier.result c.requires.share
    c.loop-tier.invariant.moves within c.index-tiers-tier.is

pub returns-in_err-pass-clause-moves : goal.returns-in_err-pass-clause-moves
returns-in_err-pass-clause-moves c =
    let within : c.loop-tier.tier < length c.loop-tier.tiers = omega (arith, c.loop-tier-test.true, c.loop-tier.invariant.four) in
    all_set c.args.tiers.now c.loop-tier.tiers c.args.tick c.loop-tier.tier c.index-tiers-tier.result c.pass.new.self
    c.loop-tier.invariant.moves within c.index-tiers-tier.is c.pass.ensures.moves

pub loop-tier-preserved : goal.loop-tier-preserved
loop-tier-preserved c =
    let within : c.loop-tier.tier < length c.loop-tier.tiers = omega (arith, c.loop-tier-test.true, c.loop-tier.invariant.four) in
    record {
      moves = all_set c.args.tiers.now c.loop-tier.tiers c.args.tick c.loop-tier.tier c.index-tiers-tier.result c.pass.new.self
          c.loop-tier.invariant.moves within c.index-tiers-tier.is c.pass.ensures.moves;
      complete = first_set c.loop-tier.tiers c.args.tick c.loop-tier.tier c.pass.new.self c.loop-tier.invariant.complete within
          c.in_ok-pass.ensures.complete;
      within = omega (arith, c.loop-tier-test.true);
      four = length-set c.loop-tier.tiers c.loop-tier.tier c.pass.new.self ∙ c.loop-tier.invariant.four;
    }

pub returns-clause-complete : goal.returns-clause-complete
returns-clause-complete c =
    all_first c.loop-tier.tiers c.args.tick c.loop-tier.tier c.loop-tier.invariant.complete
    (omega (arith, c.loop-tier-test.false, c.loop-tier.invariant.four))

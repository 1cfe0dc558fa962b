use Rattle.std.proofs.Common.{sym}
use Rattle.std.proofs.lemmas.Bool.{true≢false}
use Rattle.star_outline.proofs.Noted.{names_done, names_turn}
use Rattle.star_outline.proofs.binders.Binders.add_all.Goals as goal

pub loop-name-init : goal.loop-name-init
loop-name-init c = record { noted = λ n h. absurd (true≢false (sym h)); kept = λ n k h. h }

pub loop-name-preserved : goal.loop-name-preserved
loop-name-preserved c = record {
  noted = names_turn c.args.names.now c.loop-name.name-index _ c.args.number c.loop-name.self c.add.new.self
      c.loop-name-test.true c.loop-name.invariant.noted c.in_ok-add.ensures.kept c.in_ok-add.ensures.here;
  kept = λ n k h. c.in_ok-add.ensures.kept n k (c.loop-name.invariant.kept n k h);
}

pub returns-clause-all : goal.returns-clause-all
returns-clause-all c =
    names_done c.args.names.now c.loop-name.name-index c.args.number c.loop-name.self c.loop-name-test.false c.loop-name.auto.name-index-end c.loop-name.invariant.noted

pub returns-clause-kept : goal.returns-clause-kept
returns-clause-kept c = c.loop-name.invariant.kept

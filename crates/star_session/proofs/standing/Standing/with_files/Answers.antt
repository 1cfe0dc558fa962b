use Rattle.std.proofs.Common.{subst, sym}
use Rattle.star_memo.specs.Outcomes.{AreOutcomes}
use Rattle.star_memo.specs.declared.outcomes.Terms.{Terms}
use Rattle.star_session.proofs.standing.Standing.with_files.Goals as goal

pub returns-clause-standing : goal.returns-clause-standing
returns-clause-standing g c = record {
  kept = record {
    parses = c.in_ok-staying.ensures.parses;
    outcomes = subst (λ (t : Terms). AreOutcomes c.args.files t.prelude t.mode c.in_ok-staying.staying.outcomes.all.items) (sym c.in_ok-staying.ensures.terms) c.in_ok-staying.ensures.outcomes;
    last = tt;
  };
  readings = c.in_ok-staying.ensures.readings;
}

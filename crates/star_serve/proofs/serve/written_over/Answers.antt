use Rattle.star_serve.proofs.GoodEnds.{ends_in}
use Rattle.star_serve.proofs.serve.written_over.Goals as goal

pub returns-in-Check-clause-text : goal.returns-in-Check-clause-text
returns-in-Check-clause-text g c = rw c.in-Check.is c.in_ok-written.ensures.text

pub returns : goal.returns
returns g c =
    let asked = c.args.job.now.asked.now in
    record {
      kinds = tt;
      text = c.in-Ok.ensures.text;
      ends = ends_in asked.files asked.roots.items asked.prelude c.args.options.now.mode _ _ c.in-Ok.ensures.modules c.in_ok-ends.ensures.plans;
      read = c.in-Ok.ensures.read;
      others = c.in-Ok.ensures.others;
    }

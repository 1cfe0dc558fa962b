use Rattle.std.proofs.Common.{subst}
use Rattle.star_reading.specs.Readings.{loads_at}
use Rattle.star_sound.specs.Sound.{IsProspect}
use Rattle.star_check.specs.Check.{needs}
use Rattle.star_check.proofs.Rows.{IsAt, load_none}
use Rattle.star_check.proofs.judge.load_by.Goals as goal

pub returns-in-Lacks-clause-none : goal.returns-in-Lacks-clause-none
returns-in-Lacks-clause-none c = λ none plan read lack i same.
    let row = c.args.reads.now.all.items in
    let n = c.args.n in
    let place = c.in-Lacks.place in
    let is : IsAt (loads_at row n) place c.get.result = subst (λ ls. IsAt ls place c.get.result) c.loads.ensures c.get.ensures.lookup.3 in
    load_none row n place c.get.result is none plan read (subst (IsProspect (needs plan) n) c.in-Lacks.is lack)

use Rattle.star_needs.proofs.Kept.{kept_results_stay}
use Rattle.star_needs.proofs.law.kept_results_stay.Goals as goal

pub returns : goal.returns
returns c = kept_results_stay c.files_run_the_same.ensures c.files_without_loads_run_the_same.ensures

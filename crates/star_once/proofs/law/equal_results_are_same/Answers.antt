use Rattle.star_data.specs.Data.{on_shelf}
use Rattle.star_once.proofs.Results.{results_keep_keys}
use Rattle.star_once.proofs.law.equal_results_are_same.Goals as goal

pub returns : goal.returns
returns c = λ plan n shelf globals texts lines is. c.equal_are_same.ensures (on_shelf shelf) (results_keep_keys plan n shelf globals texts lines is)

use Rattle.star_data.proofs.OneJson.{one_json}
use Rattle.star_data.proofs.law.one_json.Goals as goal

pub returns : goal.returns
returns c = one_json

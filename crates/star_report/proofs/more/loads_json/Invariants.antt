use Rattle.std.proofs.Common.{◌≡◌, map, take}
use Rattle.std.specs.Prelude.{filter, is_some}
use Rattle.serde_json.specs.View.{view}
use Rattle.star_report.specs.Wanted.{load_member}
use Rattle.star_report.proofs.more.loads_json.Given as goal

abbrev pub invariant-loop-load : goal.invariant-loop-load
invariant-loop-load l = map view l.all.items ≡ map (load_member l.files) (filter (λ x. is_some x.token) (take l.load-index l.loads))

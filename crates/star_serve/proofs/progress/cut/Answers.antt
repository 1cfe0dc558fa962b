use Rattle.std.proofs.Common.{rules, sym}
use Rattle.std.proofs.lemmas.List.{length-take-le, take_all}
use Rattle.star_serve.proofs.progress.cut.Goals as goal

pub returns-then-text-le-COLUMNS : goal.returns-then-text-le-COLUMNS
returns-then-text-le-COLUMNS c = sym (take_all 79 c.args.text.now (search rules))

pub slice_bounds-result-end : goal.slice_bounds-result-end
slice_bounds-result-end c = sym (length-take-le 79 c.args.text.now (search rules))

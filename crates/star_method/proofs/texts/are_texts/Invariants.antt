use Rattle.std.proofs.Common.{◌≡◌, drop, is_some}
use Rattle.star_meaning.specs.TextMethods.{texts_of}
use Rattle.star_method.proofs.texts.are_texts.Given as goal

abbrev pub invariant-loop-value : goal.invariant-loop-value
invariant-loop-value l = is_some (texts_of l.setting l.machine (drop l.value-index l.values)) ≡ is_some (texts_of l.setting l.machine l.values)

use Rattle.std.proofs.Common.{◌≡◌, drop}
use Rattle.std.specs.List.{list_any}
use Rattle.star_tree.specs.declared.tree.Parameter.{Parameter}
use Rattle.star_outline.specs.Syntax.{parameter}
use Rattle.star_meaning.specs.Binding.{takes_names}
use Rattle.star_call.proofs.binding.take_names.Given as goal

abbrev pub invariant-loop-parameter : goal.invariant-loop-parameter
invariant-loop-parameter l =
    let f = λ (p : Parameter). takes_names (parameter p) in
    list_any f (drop l.parameter-index l.parameters) ≡ list_any f l.parameters

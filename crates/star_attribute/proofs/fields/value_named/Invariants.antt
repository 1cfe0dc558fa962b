use Rattle.std.proofs.Common.{◌≡◌, drop}
use Rattle.std.specs.List.{find}
use Rattle.star_outline.specs.Names.{same_name}
use Rattle.star_meaning.specs.declared.given.KeywordArgument.{KeywordArgument}
use Rattle.star_attribute.proofs.fields.value_named.Given as goal

abbrev pub invariant-loop-named : goal.invariant-loop-named
invariant-loop-named l =
    let f = λ (n : KeywordArgument). same_name n.name l.name in
    find f (drop l.named-index l.values) ≡ find f l.values

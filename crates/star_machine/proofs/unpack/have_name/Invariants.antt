use Rattle.std.proofs.Common.{◌≡◌, drop}
use Rattle.std.specs.List.{list_all}
use Rattle.star_outline.specs.Names.{same_name}
use Rattle.star_meaning.specs.declared.given.KeywordArgument.{KeywordArgument}
use Rattle.star_machine.proofs.unpack.have_name.Given as goal

abbrev pub invariant-loop-value : goal.invariant-loop-value
invariant-loop-value l =
    let f = λ (n : KeywordArgument). same_name n.name l.name in
    list_all f (drop l.value-index l.named) ≡ list_all f l.named

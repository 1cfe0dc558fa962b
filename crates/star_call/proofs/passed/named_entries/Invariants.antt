use Rattle.std.proofs.Common.{◌≡◌, ◌++◌, List, drop}
use Rattle.std.specs.Option.{option_map}
use Rattle.star_meaning.specs.declared.given.KeywordArgument.{KeywordArgument}
use Rattle.star_meaning.specs.Arguments.{named_entries}
use Rattle.star_call.proofs.passed.named_entries.Given as goal

abbrev pub invariant-loop-entry : goal.invariant-loop-entry
invariant-loop-entry l =
    let f = named_entries l.setting l.machine in
    option_map (λ (ns : List KeywordArgument). l.names.items ++ ns) (f (drop l.entry-index l.entries)) ≡ f l.entries

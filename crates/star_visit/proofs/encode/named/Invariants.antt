use Rattle.std.proofs.Common.{◌≡◌, ◌++◌, drop}
use Rattle.std.specs.Option.{option_map}
use Rattle.star_store.specs.Json.{named}
use Rattle.star_visit.specs.Sheets.{look_in}
use Rattle.star_visit.proofs.encode.named.Given as goal

abbrev pub invariant-loop-entry : goal.invariant-loop-entry
invariant-loop-entry l = option_map (λ fs. l.fields.items ++ fs) (named (look_in l.source) (drop l.entry-index l.entries)) ≡ named (look_in l.source) l.entries

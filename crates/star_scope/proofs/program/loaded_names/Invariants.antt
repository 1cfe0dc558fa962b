use Rattle.std.proofs.Common.{◌≡◌, [], drop}
use Rattle.std.specs.List.{flat_map}
use Rattle.star_outline.specs.Names.{with_names}
use Rattle.star_outline.specs.Outlines.{loaded_by}
use Rattle.star_outline.specs.Syntax.{form_of}
use Rattle.star_scope.proofs.program.loaded_names.Given as goal

abbrev pub invariant-loop-statement : goal.invariant-loop-statement
invariant-loop-statement l = with_names l.names (flat_map (λ s. loaded_by (form_of s)) (drop l.statement-index l.statements)) ≡ with_names [] (flat_map (λ s. loaded_by (form_of s)) l.statements)

use Rattle.std.proofs.Common.{rules, ◌≡◌, [], ap, sym, ◌∙◌, ◌++◌}
use Rattle.star_outline.specs.Names.{with_names}
use Rattle.star_outline.specs.Outlines.{block_names, loaded_names}
use Rattle.star_outline.proofs.BoundNames.{with_joined}
use Rattle.star_outline.proofs.FirstPlaces.{names_once}
use Rattle.star_scope.proofs.program.names_of_file.Goals as goal

pub returns : goal.returns
returns c =
    let ss = c.args.statements.now in
    let bound : c.add_statements.new.names ≡ with_names [] (block_names ss) = search rules in
    c.in_ok-load_statements.ensures ∙ ap (λ ns. with_names ns (loaded_names ss)) bound ∙ sym (with_joined [] (block_names ss) (loaded_names ss)) ∙ names_once (block_names ss ++ loaded_names ss)

use Rattle.std.proofs.Common.{ap, ◌∙◌}
use Rattle.star_label.specs.Label.{is_package, with_folder}
use Rattle.star_folder.specs.Views.{path_of}
use Rattle.star_folder.proofs.Paths.{inside_is_package}
use Rattle.star_folder.proofs.path.FolderPath.inside.Goals as goal

pub invariant_of-result : goal.invariant_of-result
invariant_of-result c =
    record {
      in_form = ap is_package (c.in_ok-text.ensures ∙ ap (λ p. with_folder p c.args.name.now) c.as_str.ensures.value)
          ∙ inside_is_package (path_of c.args.self.now) c.args.name.now c.args.self.now.in_form c.requires;
    }

use Rattle.std.proofs.Common.{◌∙◌, ap}
use Rattle.std.specs.Option.{option_and_then}
use Rattle.star_outline.specs.Definitions.{definition_in}
use Rattle.star_meaning.specs.Program as program
use Rattle.star_meaning.specs.Programs.{outline_at}
use Rattle.star_world.proofs.Rows.{definition_there}
use Rattle.star_world.proofs.world.World.definition.Goals as goal

-- src/world.rt:87:5
pub returns : goal.returns
returns c =
    c.definition.ensures
    ∙ ap (λ fs. option_and_then (λ o. definition_in o.definitions c.args.number) (outline_at fs c.args.file)) c.programs.ensures
    ∙ definition_there c.self.inside.setting c.self.inside.files.now c.args.file c.args.number c.self.invariant.outlined
    ∙ ap (λ w. program.definition_of w.setting c.args.file c.args.number) c.self.view_is

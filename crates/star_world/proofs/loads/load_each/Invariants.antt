use Rattle.std.proofs.Common.{◌≡◌, drop}
use Rattle.std.specs.Option.{option_copied}
use Rattle.star_meaning.specs.Run.{all_of}
use Rattle.star_meaning.specs.Statements.{load_name}
use Rattle.star_world.specs.World.{variables}
use Rattle.star_world.proofs.loads.load_each.Given as goal

abbrev pub invariant-loop-name : goal.invariant-loop-name
invariant-loop-name l =
    let f = load_name (variables l.world) l.place (option_copied l.published) in
    all_of f (drop l.name-index l.names) l.machine ≡ all_of f l.names l.fn.machine

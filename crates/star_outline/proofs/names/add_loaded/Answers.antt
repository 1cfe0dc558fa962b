use Rattle.std.proofs.Common.{refl, map, [], ◌∷◌}
use Rattle.star_outline.specs.Outlines.{local_name}
use Rattle.star_outline.proofs.BoundNames.{names_turn, names_done}
use Rattle.star_outline.proofs.names.add_loaded.Goals as goal

pub loop-name-preserved : goal.loop-name-preserved
loop-name-preserved c =
    names_turn (λ n. local_name n ∷ []) (map local_name) (λ x xs. refl) c.args.loaded.now c.loop-name.name-index c.name-item.result
    c.loop-name.names c.add_name.new.names _ c.loop-name-test.true c.name-item.is c.in_ok-add_name.ensures c.loop-name.invariant

pub returns : goal.returns
returns c = names_done (map local_name) c.args.loaded.now c.loop-name.name-index c.loop-name.names _ refl c.loop-name-test.false c.loop-name.invariant

use Rattle.std.proofs.Common.{◌≡◌, drop, map}
use Rattle.star_outline.specs.Names.{with_names}
use Rattle.star_outline.specs.Outlines.{local_name}
use Rattle.star_outline.proofs.names.add_loaded.Given as goal

abbrev pub invariant-loop-name : goal.invariant-loop-name
invariant-loop-name l = with_names l.names (map local_name (drop l.name-index l.loaded)) ≡ with_names l.fn.names (map local_name l.loaded)

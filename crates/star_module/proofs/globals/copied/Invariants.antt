use Rattle.std.proofs.Common.{◌≡◌, take}
use Rattle.star_module.specs.Globals.{borrowed, owned}
use Rattle.star_module.proofs.globals.copied.Given as goal

abbrev pub invariant-loop-name : goal.invariant-loop-name
invariant-loop-name l = owned l.copies.items ≡ borrowed (take l.name-index l.named)

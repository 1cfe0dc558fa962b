use Rattle.std.proofs.Common.{◌≡◌, map, take}
use Rattle.std.specs.Prelude.{All, string_bytes}
use Rattle.star_shards.specs.Joined.{shown}
use Rattle.star_shards.specs.Read.{IsRead, texts}
use Rattle.star_shards.proofs.joined.shown.Given as goal

abbrev pub invariant-loop-entry : goal.invariant-loop-entry
invariant-loop-entry l = All IsRead l.entries → texts l.shown.items ≡ shown (map string_bytes l.roots) (texts (take l.entry-index l.entries))

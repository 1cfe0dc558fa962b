use Rattle.std.proofs.Common.{take}
use Rattle.star_outline.proofs.Noted.{Kept, NamesNoted}
use Rattle.star_outline.proofs.binders.Binders.add_all.Given as goal

abbrev pub invariant-loop-name : goal.invariant-loop-name
invariant-loop-name l = record {
  noted : NamesNoted (take l.name-index l.names) l.number l.self;
  kept : Kept l.fn.self l.self;
}

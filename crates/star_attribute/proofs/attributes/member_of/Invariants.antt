use Rattle.std.proofs.Common.{◌≡◌, drop}
use Rattle.star_store.specs.Store.{global_of}
use Rattle.star_attribute.specs.Attributes.{shown_members}
use Rattle.star_attribute.proofs.attributes.member_of.Given as goal

abbrev pub invariant-loop-member : goal.invariant-loop-member
invariant-loop-member l = global_of l.name (shown_members (drop l.member-index l.members)) ≡ global_of l.name (shown_members l.members)

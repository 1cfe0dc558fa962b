use Rattle.std.proofs.Common.{◌≡◌, take}
use Rattle.star_store.specs.Fields.{names_of}
use Rattle.star_attribute.specs.Attributes.{shown_members, shown_names}
use Rattle.star_attribute.proofs.attributes.member_names.Given as goal

abbrev pub invariant-loop-member : goal.invariant-loop-member
invariant-loop-member l = shown_names l.names.items ≡ names_of (shown_members (take l.member-index l.members))

use Rattle.std.proofs.Common.{◌≡◌, ◌++◌, map, option_map, length}
use Rattle.serde_json.specs.View.{members_view}
use Rattle.star_bundle.specs.Bundle as bundle
use Rattle.star_bundle.specs.View.{member_view}
use Rattle.star_bundle.proofs.bundle.texts_in.Given as goal

abbrev pub decreases-loop-label : goal.decreases-loop-label
decreases-loop-label l = length l.members.entries

abbrev pub invariant-loop-label : goal.invariant-loop-label
invariant-loop-label l = bundle.texts_of (members_view l.fn.members.entries) ≡ option_map (λ fs. map member_view l.texts.items ++ fs) (bundle.texts_of (members_view l.members.entries))

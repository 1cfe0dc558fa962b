use Rattle.std.proofs.Common.{◌≡◌, ◌++◌, ◌∷◌, false}
use Rattle.star_report.specs.Texts.{joined_members}
use Rattle.star_report.proofs.more.with_object.Given as goal

abbrev pub invariant-loop-name : goal.invariant-loop-name
invariant-loop-name l = l.text.items ++ joined_members l.later l.name-iterator ≡ l.fn.text.items ++ 123 ∷ joined_members false l.members.entries

-- The invariants of every run: binding.
use Rattle.star_tree.specs.declared.tree.Name.{Name}
use Rattle.star_meaning.specs.declared.given.KeywordArgument.{KeywordArgument}
use Rattle.std.proofs.Common.{ℕ, List, Bool}
use Rattle.star_meaning.specs.Binding.{key_and_value, build_argument, build_arguments, BoundArgument, One, Rest, Names}
use Rattle.star_meaning.proofs.Keeps.{keeps, Keeps}
use Rattle.star_meaning.proofs.KeepsValues.{keeps-new_dict}
use Rattle.star_meaning.proofs.KeepsArguments.{keeps-key_for}

pub keeps-key_and_value : {q : Bool} → (line : ℕ) (n : KeywordArgument) → Keeps q (key_and_value line n)
keeps-key_and_value line n = search (keeps, keeps-key_for) depth 14

pub keeps-build_argument : {q : Bool} → (line : ℕ) (a1 : BoundArgument) → Keeps q (build_argument line a1)
keeps-build_argument line (One v) = search keeps depth 14
keeps-build_argument line (Rest xs) = search keeps depth 14
keeps-build_argument line (Names ns) = search (keeps, keeps-new_dict, keeps-key_and_value) depth 14

pub keeps-build_arguments : {q : Bool} → (line : ℕ) (xs : List (Name × BoundArgument)) → Keeps q (build_arguments line xs)
unfolding build_arguments
keeps-build_arguments line xs = search (keeps, keeps-build_argument) depth 14

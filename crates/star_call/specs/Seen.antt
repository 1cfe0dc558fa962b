-- The names of keyword arguments that have been seen, to find one that comes twice.
use Rattle.std.specs.Prelude.{ℕ, Bool, ◌||◌, List}
use denote.Ref.{Bor}
use Rattle.std.specs.List.{list_any}
use Rattle.std.specs.Option.{is_some}
use Rattle.std.specs.Ordering.{nat_cmp}
use Rattle.std.specs.Cmp.Lexicographic.{slice_cmp}
use Rattle.std.specs.BTreeMap.{BTreeMap, get_by}
use Rattle.star_meaning.specs.declared.given.KeywordArgument.{KeywordArgument}
use Rattle.star_meaning.specs.Arguments.{comes_twice}

-- whether a name is among those that were seen
abbrev pub has : BTreeMap (Bor (List ℕ)) (Unit {0}) → List ℕ → Bool
has seen name = is_some (get_by (λ k. slice_cmp nat_cmp name k.now) seen)

-- whether one of these names was seen, or comes twice
abbrev pub twice_after : BTreeMap (Bor (List ℕ)) (Unit {0}) → List KeywordArgument → Bool
twice_after seen ns = list_any (λ n. has seen n.name) ns || comes_twice ns

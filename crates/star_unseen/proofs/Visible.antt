-- What leads to nothing hidden: arguments, callees, sites, and what else actions give on.
use Rattle.std.specs.Prelude.{List, Option}
use Rattle.star_store.specs.declared.values.Value.{Value}
use Rattle.star_store.specs.declared.values.Function.{Function}
use Rattle.star_meaning.specs.declared.given.Arguments.{Arguments}
use Rattle.star_meaning.specs.declared.given.KeywordArgument.{KeywordArgument}
use Rattle.star_meaning.specs.declared.site.Site.{Site}
use Rattle.star_meaning.specs.Arguments.{EvaluatedArgument, Plain, Named, Star, StarStar}
use Rattle.star_meaning.specs.Binding.{BindingState, BoundArgument, Names, One, Rest}
use Rattle.star_meaning.specs.Calls.{ABuiltIn, AFunction, AMethod, Callee}
use Rattle.star_meaning.specs.Semantics.{Read}
use Rattle.star_tree.specs.declared.tree.Name.{Name}
use Rattle.star_unseen.specs.Veil.{AreVisible, Every, FileIsVisible, Hides, IsVisible, VisibleIfThere}
use Rattle.star_unseen.specs.Shelves.{BodyIsPlaced}

abbrev pub KeywordIsVisible : Hides → KeywordArgument → Type 0
KeywordIsVisible hides n = VisibleIfThere hides n.key × IsVisible hides n.value

abbrev pub KeywordsAreVisible : Hides → List KeywordArgument → Type 0
KeywordsAreVisible hides = Every (KeywordIsVisible hides)

abbrev pub ArgumentsAreVisible : Hides → Arguments → Type 0
ArgumentsAreVisible hides g = AreVisible hides g.positional × KeywordsAreVisible hides g.named

abbrev pub ArgumentIsVisible : Hides → EvaluatedArgument → Type 0
ArgumentIsVisible hides (Plain v) = IsVisible hides v
ArgumentIsVisible hides (Named n v) = IsVisible hides v
ArgumentIsVisible hides (Star v) = IsVisible hides v
ArgumentIsVisible hides (StarStar v) = IsVisible hides v

-- a value with one that may be there
abbrev pub WithMaybe : Hides → Value × Option Value → Type 0
WithMaybe hides p = IsVisible hides p.0 × VisibleIfThere hides p.1

-- two values with one that may be there
abbrev pub TwoWithMaybe : Hides → Value × Value × Option Value → Type 0
TwoWithMaybe hides p = IsVisible hides p.0 × IsVisible hides p.1 × VisibleIfThere hides p.2

abbrev pub BoundIsVisible : Hides → BoundArgument → Type 0
BoundIsVisible hides (One v) = IsVisible hides v
BoundIsVisible hides (Rest xs) = AreVisible hides xs
BoundIsVisible hides (Names ns) = KeywordsAreVisible hides ns

abbrev pub ShareIsVisible : Hides → Name × BoundArgument → Type 0
ShareIsVisible hides x = BoundIsVisible hides x.1

abbrev pub BindingIsVisible : Hides → BindingState → Type 0
BindingIsVisible hides q = AreVisible hides q.positional × AreVisible hides q.defaults

abbrev pub FunctionIsVisible : Hides → Function → Type 0
FunctionIsVisible hides f = AreVisible hides f.defaults × IsVisible hides f.frame × FileIsVisible hides f.file

abbrev pub CalleeIsVisible : Hides → Callee → Type 0
CalleeIsVisible hides (AFunction f d) = FunctionIsVisible hides f × BodyIsPlaced d.body
CalleeIsVisible hides (ABuiltIn b) = Unit {0}
CalleeIsVisible hides (AMethod m v) = IsVisible hides v

abbrev pub ReadIsVisible : Hides → Read → Type 0
ReadIsVisible hides r = IsVisible hides r.base × IsVisible hides r.index × IsVisible hides r.old

abbrev pub SiteIsVisible : Hides → Site → Type 0
SiteIsVisible hides p = IsVisible hides p.frame × FileIsVisible hides p.file

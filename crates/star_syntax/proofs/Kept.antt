-- A value made of parts that are in order is in order.
use Rattle.std.proofs.Common.{◌≡◌, ℕ, ℤ, Bool, true, ◌&&◌, List, [], ◌∷◌, map, Option, Some, None, refl, ap, sym, ◌∙◌}
use Rattle.star_tree.specs.declared.tree.Position.{Position}
use Rattle.star_tree.specs.declared.tree.Name.{Name}
use Rattle.star_tree.specs.declared.tree.UnaryOperator.{UnaryOperator}
use Rattle.star_tree.specs.declared.tree.BinaryOperator.{BinaryOperator}
use Rattle.star_tree.specs.declared.tree.Comparator.{Comparator}
use Rattle.star_tree.specs.declared.tree.Argument.{Argument}
use Rattle.star_tree.specs.declared.tree.Clause.{Clause}
use Rattle.star_tree.specs.declared.tree.Expression.{Expression}
use Rattle.star_tree.specs.declared.tree.Parameter.{Parameter}
use Rattle.star_tree.specs.declared.tree.Target.{Target}
use Rattle.star_tree.specs.declared.tree.Clauses.{Clauses, roll-Clauses}
use Rattle.star_tree.specs.declared.tree.Entry.{Entry, roll-Entry}
use Rattle.star_tree.specs.declared.tree.Argument.TheVariants as arguments
use Rattle.star_tree.specs.declared.tree.Clause.TheVariants as clauses
use Rattle.star_tree.specs.declared.tree.Expression.TheVariants as e
use Rattle.star_tree.specs.declared.tree.Parameter.TheVariants as parameters
use Rattle.star_tree.specs.declared.tree.Target.TheVariants as targets
use Rattle.star_tree.specs.declared.tree.Argument.TheOpen as tree
use Rattle.star_syntax.specs.Keeps.{arguments_in_order, parameters_in_order}
use Rattle.star_syntax.specs.InOrder.{each_in_order, firsts, in_order, parameter_in_order, target_in_order}
use Rattle.star_syntax.proofs.Makes.{Each, Maybe}
use Rattle.star_syntax.proofs.Orders.{argument_in_order, clause_in_order, clauses_in_order, entry_in_order, opened}

-- a value that is in order by its test
abbrev pub Holds : {A : Type 0} → (A → Bool) → A → Type 0
Holds test x = test x ≡ true

abbrev pub OfExpression : Expression → Type 0
OfExpression x = in_order x ≡ true

abbrev pub OfTarget : Target → Type 0
OfTarget x = target_in_order x ≡ true

-- arguments of a call, and parameters
abbrev pub Given : List Argument → Type 0
Given xs = (arguments_in_order xs ≡ true) × Each (Holds argument_in_order) xs

abbrev pub Taken : List Parameter → Type 0
Taken xs = (parameters_in_order xs ≡ true) × Each (Holds parameter_in_order) xs

pub true-both : (a b : Bool) → a ≡ true → b ≡ true → (a && b) ≡ true
true-both a b i j = ap (λ z. z && b) i ∙ j

each-kept : {A : Type 0} (f : A → Bool) (xs : List A) → Each (λ x. f x ≡ true) xs → each_in_order (map (λ z. (z, f z)) xs) ≡ true
each-kept f [] k = refl
each-kept f (x ∷ xs) k = true-both (f x) (each_in_order (map (λ z. (z, f z)) xs)) k.0 (each-kept f xs k.1)

pub unpaired : {A : Type 0} (f : A → Bool) (xs : List A) → firsts (map (λ z. (z, f z)) xs) ≡ xs
unpaired f [] = refl
unpaired f (x ∷ xs) = ap (λ zs. x ∷ zs) (unpaired f xs)

still-kept : {A : Type 0} (test : List A → Bool) (f : A → Bool) (xs : List A) → test xs ≡ true → test (firsts (map (λ z. (z, f z)) xs)) ≡ true
still-kept test f xs k = ap test (unpaired f xs) ∙ k

abbrev optional : Option Expression → Bool
optional None = true
optional (Some x) = in_order x

maybe-kept : (a : Option Expression) → Maybe OfExpression a → optional a ≡ true
maybe-kept None k = refl
maybe-kept (Some x) k = k

-- ---- expressions

pub of-Name : (n : Name) → OfExpression (e.Name n)
of-Name n = ap in_order (sym (e.rolls-Name n)) ∙ (opened.expression' (tree.Expression-F.Expression::Name n) ∙ refl)

pub of-Int : (n : ℤ) → OfExpression (e.Int n)
of-Int n = ap in_order (sym (e.rolls-Int n)) ∙ (opened.expression' (tree.Int n) ∙ refl)

pub of-Text : (t : List ℕ) → OfExpression (e.Text t)
of-Text t = ap in_order (sym (e.rolls-Text t)) ∙ (opened.expression' (tree.Text t) ∙ refl)

pub of-Tuple : (xs : List Expression) → Each OfExpression xs → OfExpression (e.Tuple xs)
of-Tuple xs k = ap in_order (sym (e.rolls-Tuple xs)) ∙ (opened.expression' (tree.Expression-F.Expression::Tuple xs) ∙ each-kept in_order xs k)

pub of-List : (xs : List Expression) → Each OfExpression xs → OfExpression (e.List xs)
of-List xs k = ap in_order (sym (e.rolls-List xs)) ∙ (opened.expression' (tree.Expression-F.Expression::List xs) ∙ each-kept in_order xs k)

pub of-Dict : (xs : List Entry) → Each (Holds entry_in_order) xs → OfExpression (e.Dict xs)
of-Dict xs k = ap in_order (sym (e.rolls-Dict xs)) ∙ (opened.expression' (tree.Dict xs) ∙ each-kept entry_in_order xs k)

pub of-ListComprehension : (p : Position) (x : Expression) (cs : Clauses) → OfExpression x → Holds clauses_in_order cs → OfExpression (e.ListComprehension p x cs)
of-ListComprehension p x cs k l = ap in_order (sym (e.rolls-ListComprehension p x cs)) ∙ (opened.expression' (tree.ListComprehension p x cs) ∙ true-both (in_order x) (clauses_in_order cs) k l)

pub of-DictComprehension : (p : Position) (x : Entry) (cs : Clauses) → Holds entry_in_order x → Holds clauses_in_order cs → OfExpression (e.DictComprehension p x cs)
of-DictComprehension p x cs k l = ap in_order (sym (e.rolls-DictComprehension p x cs)) ∙ (opened.expression' (tree.DictComprehension p x cs) ∙ true-both (entry_in_order x) (clauses_in_order cs) k l)

pub of-Unary : (op : UnaryOperator) (x : Expression) → OfExpression x → OfExpression (e.Unary op x)
of-Unary op x k = ap in_order (sym (e.rolls-Unary op x)) ∙ (opened.expression' (tree.Unary op x) ∙ k)

pub of-Binary : (op : BinaryOperator) (a : Expression) (b : Expression) → OfExpression a → OfExpression b → OfExpression (e.Binary op a b)
of-Binary op a b k l = ap in_order (sym (e.rolls-Binary op a b)) ∙ (opened.expression' (tree.Binary op a b) ∙ true-both (in_order a) (in_order b) k l)

pub of-Compare : (c : Comparator) (a : Expression) (b : Expression) → OfExpression a → OfExpression b → OfExpression (e.Compare c a b)
of-Compare c a b k l = ap in_order (sym (e.rolls-Compare c a b)) ∙ (opened.expression' (tree.Compare c a b) ∙ true-both (in_order a) (in_order b) k l)

pub of-And : (a : Expression) (b : Expression) → OfExpression a → OfExpression b → OfExpression (e.And a b)
of-And a b k l = ap in_order (sym (e.rolls-And a b)) ∙ (opened.expression' (tree.And a b) ∙ true-both (in_order a) (in_order b) k l)

pub of-Or : (a : Expression) (b : Expression) → OfExpression a → OfExpression b → OfExpression (e.Or a b)
of-Or a b k l = ap in_order (sym (e.rolls-Or a b)) ∙ (opened.expression' (tree.Or a b) ∙ true-both (in_order a) (in_order b) k l)

pub of-Conditional : (c : Expression) (a : Expression) (b : Expression) → OfExpression c → OfExpression a → OfExpression b → OfExpression (e.Conditional c a b)
of-Conditional c a b j k l = ap in_order (sym (e.rolls-Conditional c a b)) ∙ (opened.expression' (tree.Conditional c a b) ∙ true-both (in_order c) (in_order a && in_order b) j (true-both (in_order a) (in_order b) k l))

pub of-Lambda : (p : Position) (ps : List Parameter) (x : Expression) → Taken ps → OfExpression x → OfExpression (e.Lambda p ps x)
of-Lambda p ps x k l = ap in_order (sym (e.rolls-Lambda p ps x)) ∙ (opened.expression' (tree.Lambda p ps x) ∙ true-both (parameters_in_order (firsts (map (λ z. (z, parameter_in_order z)) ps))) (each_in_order (map (λ z. (z, parameter_in_order z)) ps) && in_order x) (still-kept parameters_in_order parameter_in_order ps k.0) (true-both (each_in_order (map (λ z. (z, parameter_in_order z)) ps)) (in_order x) (each-kept parameter_in_order ps k.1) l))

pub of-Call : (x : Expression) (xs : List Argument) → OfExpression x → Given xs → OfExpression (e.Call x xs)
of-Call x xs k l = ap in_order (sym (e.rolls-Call x xs)) ∙ (opened.expression' (tree.Call x xs) ∙ true-both (arguments_in_order (firsts (map (λ z. (z, argument_in_order z)) xs))) (in_order x && each_in_order (map (λ z. (z, argument_in_order z)) xs)) (still-kept arguments_in_order argument_in_order xs l.0) (true-both (in_order x) (each_in_order (map (λ z. (z, argument_in_order z)) xs)) k (each-kept argument_in_order xs l.1)))

pub of-Attribute : (x : Expression) (n : Name) → OfExpression x → OfExpression (e.Attribute x n)
of-Attribute x n k = ap in_order (sym (e.rolls-Attribute x n)) ∙ (opened.expression' (tree.Attribute x n) ∙ k)

pub of-Index : (a : Expression) (b : Expression) → OfExpression a → OfExpression b → OfExpression (e.Index a b)
of-Index a b k l = ap in_order (sym (e.rolls-Index a b)) ∙ (opened.expression' (tree.Expression-F.Expression::Index a b) ∙ true-both (in_order a) (in_order b) k l)

slice-kept : (x : Expression) (a b c : Option Expression) → OfExpression x → Maybe OfExpression a → Maybe OfExpression b → Maybe OfExpression c → (in_order x && (optional a && (optional b && optional c))) ≡ true
slice-kept x a b c j k l m = true-both (in_order x) (optional a && (optional b && optional c)) j (true-both (optional a) (optional b && optional c) (maybe-kept a k) (true-both (optional b) (optional c) (maybe-kept b l) (maybe-kept c m)))

pub of-Slice : (x : Expression) (a b c : Option Expression) → OfExpression x → Maybe OfExpression a → Maybe OfExpression b → Maybe OfExpression c → OfExpression (e.Slice x a b c)
of-Slice x None None None j k l m = ap in_order (sym (e.rolls-Slice x None None None)) ∙ (opened.expression' (tree.Slice x None None None) ∙ slice-kept x None None None j k l m)
of-Slice x None None (Some c) j k l m = ap in_order (sym (e.rolls-Slice x None None (Some c))) ∙ (opened.expression' (tree.Slice x None None (Some c)) ∙ slice-kept x None None (Some c) j k l m)
of-Slice x None (Some b) None j k l m = ap in_order (sym (e.rolls-Slice x None (Some b) None)) ∙ (opened.expression' (tree.Slice x None (Some b) None) ∙ slice-kept x None (Some b) None j k l m)
of-Slice x None (Some b) (Some c) j k l m = ap in_order (sym (e.rolls-Slice x None (Some b) (Some c))) ∙ (opened.expression' (tree.Slice x None (Some b) (Some c)) ∙ slice-kept x None (Some b) (Some c) j k l m)
of-Slice x (Some a) None None j k l m = ap in_order (sym (e.rolls-Slice x (Some a) None None)) ∙ (opened.expression' (tree.Slice x (Some a) None None) ∙ slice-kept x (Some a) None None j k l m)
of-Slice x (Some a) None (Some c) j k l m = ap in_order (sym (e.rolls-Slice x (Some a) None (Some c))) ∙ (opened.expression' (tree.Slice x (Some a) None (Some c)) ∙ slice-kept x (Some a) None (Some c) j k l m)
of-Slice x (Some a) (Some b) None j k l m = ap in_order (sym (e.rolls-Slice x (Some a) (Some b) None)) ∙ (opened.expression' (tree.Slice x (Some a) (Some b) None) ∙ slice-kept x (Some a) (Some b) None j k l m)
of-Slice x (Some a) (Some b) (Some c) j k l m = ap in_order (sym (e.rolls-Slice x (Some a) (Some b) (Some c))) ∙ (opened.expression' (tree.Slice x (Some a) (Some b) (Some c)) ∙ slice-kept x (Some a) (Some b) (Some c) j k l m)

-- ---- the other parts

pub of-Positional : (x : Expression) → OfExpression x → Holds argument_in_order (arguments.Positional x)
of-Positional x k = ap argument_in_order (sym (arguments.rolls-Positional x)) ∙ (opened.argument' (tree.Positional x) ∙ k)

pub of-Named : (n : Name) (x : Expression) → OfExpression x → Holds argument_in_order (arguments.Named n x)
of-Named n x k = ap argument_in_order (sym (arguments.rolls-Named n x)) ∙ (opened.argument' (tree.Named n x) ∙ k)

pub of-StarArgument : (x : Expression) → OfExpression x → Holds argument_in_order (arguments.Star x)
of-StarArgument x k = ap argument_in_order (sym (arguments.rolls-Star x)) ∙ (opened.argument' (tree.Argument-F.Argument::Star x) ∙ k)

pub of-StarStarArgument : (x : Expression) → OfExpression x → Holds argument_in_order (arguments.StarStar x)
of-StarStarArgument x k = ap argument_in_order (sym (arguments.rolls-StarStar x)) ∙ (opened.argument' (tree.Argument-F.Argument::StarStar x) ∙ k)

pub of-Plain : (n : Name) → Holds parameter_in_order (parameters.Plain n)
of-Plain n = ap parameter_in_order (sym (parameters.rolls-Plain n)) ∙ opened.parameter' (tree.Plain n)

pub of-Default : (n : Name) (x : Expression) → OfExpression x → Holds parameter_in_order (parameters.Default n x)
of-Default n x k = ap parameter_in_order (sym (parameters.rolls-Default n x)) ∙ (opened.parameter' (tree.Default n x) ∙ k)

pub of-StarParameter : (n : Name) → Holds parameter_in_order (parameters.Star n)
of-StarParameter n = ap parameter_in_order (sym (parameters.rolls-Star n)) ∙ opened.parameter' (tree.Parameter-F.Parameter::Star n)

pub of-BareStar : Holds parameter_in_order parameters.BareStar
of-BareStar = ap parameter_in_order (sym parameters.rolls-BareStar) ∙ opened.parameter' tree.BareStar

pub of-StarStarParameter : (n : Name) → Holds parameter_in_order (parameters.StarStar n)
of-StarStarParameter n = ap parameter_in_order (sym (parameters.rolls-StarStar n)) ∙ opened.parameter' (tree.Parameter-F.Parameter::StarStar n)

pub of-NameTarget : (n : Name) → OfTarget (targets.Name n)
of-NameTarget n = ap target_in_order (sym (targets.rolls-Name n)) ∙ opened.target' (tree.Target-F.Target::Name n)

pub of-IndexTarget : (a b : Expression) → OfExpression a → OfExpression b → OfTarget (targets.Index a b)
of-IndexTarget a b k l = ap target_in_order (sym (targets.rolls-Index a b)) ∙ (opened.target' (tree.Target-F.Target::Index a b) ∙ true-both (in_order a) (in_order b) k l)

pub of-TupleTarget : (ts : List Target) → Each OfTarget ts → OfTarget (targets.Tuple ts)
of-TupleTarget ts k = ap target_in_order (sym (targets.rolls-Tuple ts)) ∙ (opened.target' (tree.Target-F.Target::Tuple ts) ∙ each-kept target_in_order ts k)

pub of-ListTarget : (ts : List Target) → Each OfTarget ts → OfTarget (targets.List ts)
of-ListTarget ts k = ap target_in_order (sym (targets.rolls-List ts)) ∙ (opened.target' (tree.Target-F.Target::List ts) ∙ each-kept target_in_order ts k)

pub of-For : (t : Target) (x : Expression) → OfTarget t → OfExpression x → Holds clause_in_order (clauses.For t x)
of-For t x k l = ap clause_in_order (sym (clauses.rolls-For t x)) ∙ (opened.clause' (tree.For t x) ∙ true-both (target_in_order t) (in_order x) k l)

pub of-If : (x : Expression) → OfExpression x → Holds clause_in_order (clauses.If x)
of-If x k = ap clause_in_order (sym (clauses.rolls-If x)) ∙ (opened.clause' (tree.If x) ∙ k)

pub of-clauses : (t : Target) (x : Expression) (cs : List Clause) → OfTarget t → OfExpression x → Each (Holds clause_in_order) cs → Holds clauses_in_order (roll-Clauses (record { target = t; iterable = x; more = cs }))
of-clauses t x cs j k l = opened.clauses' (record { target = t; iterable = x; more = cs }) ∙ true-both (target_in_order t) (in_order x && each_in_order (map (λ z. (z, clause_in_order z)) cs)) j (true-both (in_order x) (each_in_order (map (λ z. (z, clause_in_order z)) cs)) k (each-kept clause_in_order cs l))

pub of-entry : (a b : Expression) → OfExpression a → OfExpression b → Holds entry_in_order (roll-Entry (record { key = a; value = b }))
of-entry a b k l = opened.entry' (record { key = a; value = b }) ∙ true-both (in_order a) (in_order b) k l

-- Each expression whose arguments and parameters are in order can be written with a parenthesis round each part.
use Rattle.std.proofs.Common.{◌≡◌, Bool, true, ◌&&◌, List, [], ◌∷◌, map, Option, Some, None, refl, ap, sym, ◌∙◌, subst}
use Rattle.star_lex.specs.declared.token.Punctuator.{Punctuator}
use Rattle.star_lex.specs.declared.token.Punctuator.TheVariants as s
use Rattle.star_lex.specs.declared.token.Keyword.TheVariants as keyword
use Rattle.star_syntax.specs.declared.leaf.TokenValue.{TokenValue}
use Rattle.star_syntax.specs.declared.leaf.TokenValue.TheVariants as word
use Rattle.star_syntax.specs.declared.leaf.ValuedToken.{ValuedToken}
use Rattle.star_tree.specs.declared.tree.Position.{Position}
use Rattle.star_tree.specs.declared.tree.UnaryOperator.{UnaryOperator}
use Rattle.star_tree.specs.declared.tree.UnaryOperator.TheVariants as unaries
use Rattle.star_tree.specs.declared.tree.BinaryOperator.{BinaryOperator}
use Rattle.star_tree.specs.declared.tree.BinaryOperator.TheVariants as binaries
use Rattle.star_tree.specs.declared.tree.Comparator.{Comparator}
use Rattle.star_tree.specs.declared.tree.Comparator.TheVariants as comparators
use Rattle.star_tree.specs.declared.tree.Argument.{Argument, roll-Argument}
use Rattle.star_tree.specs.declared.tree.Clause.{Clause, roll-Clause}
use Rattle.star_tree.specs.declared.tree.Expression.{Expression, roll-Expression, ind-Expression}
use Rattle.star_tree.specs.declared.tree.Parameter.{Parameter, roll-Parameter}
use Rattle.star_tree.specs.declared.tree.Target.{Target, roll-Target}
use Rattle.star_tree.specs.declared.tree.Clauses.{Clauses, roll-Clauses}
use Rattle.star_tree.specs.declared.tree.Entry.{Entry, roll-Entry}
use Rattle.star_tree.specs.declared.tree.Argument.TheVariants as arguments
use Rattle.star_tree.specs.declared.tree.Parameter.TheVariants as parameters
use Rattle.star_tree.specs.declared.tree.Clause.TheVariants as clauses
use Rattle.star_tree.specs.declared.tree.Target.TheVariants as targets
use Rattle.star_tree.specs.declared.tree.Expression.TheVariants as e
use Rattle.star_tree.specs.declared.tree.Argument.TheOpen as tree
use Rattle.star_tree.specs.declared.tree.Argument.TheFolds as folds
use Rattle.star_syntax.specs.Keeps.{target_of, targets_of, tuple_target, list_target, arguments_in_order, parameters_in_order}
use Rattle.star_syntax.specs.InOrder.{each_in_order, firsts, in_order, parameter_in_order, target_in_order, Writable, AllWritable}
use Rattle.star_syntax.specs.Written.{a-name, an-int, a-text, a-sign, a-denial, a-binary, a-comparison, an-absence, an-and, an-or, a-conditional, an-attribute, an-index, an-empty-tuple, a-tuple, an-empty-list, a-list, an-empty-dict, a-dict, a-list-comprehension, a-dict-comprehension, a-call, a-slice, a-lambda, Enclosed, enclosed, Further, no-further, one-further, Optional, left-out, put, OneEntry, an-entry, FurtherEntries, no-entry, next-entry, OneArgument, positional, by-name, with-star, with-two-stars, FurtherArguments, no-argument, next-argument, Arguments, none-given, some-given, OneParameter, plain, default, starred, bare-star, twice-starred, FurtherParameters, no-parameter, next-parameter, Parameters, none-taken, some-taken, ForPart, for-each, OneClause, each, only-if, FurtherClauses, no-clause, next-clause, AllClauses, clauses-from, positive, negative, inverted, times, divided, modulo, plus, minus, to-left, to-right, bits-and, bits-xor, bits-or, equal, unequal, less, greater, at-most, at-least, contained, mark, spelt, IsBinary, IsComparator}
use Rattle.star_syntax.proofs.Kept.{unpaired}
use Rattle.star_syntax.proofs.Orders.{both-true, argument_in_order, clause_in_order, clauses_in_order, entry_in_order, Layer, Maps, Form, opened}
use Rattle.star_syntax.proofs.Targets.{target-Name, target-Index, target-Tuple, target-List}

at : Position
at = record { line = 0; token = 0 }

abbrev Inside : Expression → Type 0
Inside x = (us : List ValuedToken) → (ts : List ValuedToken) × Enclosed x ts us

inside : {x : Expression} → Writable x → Inside x
inside w us = let i = w (mark at s.RightParen ∷ us) in (mark at s.LeftParen ∷ i.0, enclosed {p = at} i.1)

abbrev PE : Expression → Type 0
PE x = in_order x ≡ true → Writable x

abbrev PA : Argument → Type 0
PA x = argument_in_order x ≡ true → (us : List ValuedToken) → (ts : List ValuedToken) × OneArgument x ts us

abbrev PC : Clause → Type 0
PC x = clause_in_order x ≡ true → (us : List ValuedToken) → (ts : List ValuedToken) × OneClause x ts us

abbrev PP : Parameter → Type 0
PP x = parameter_in_order x ≡ true → (us : List ValuedToken) → (ts : List ValuedToken) × OneParameter x ts us

abbrev PT : Target → Type 0
PT x = target_in_order x ≡ true → (z : Expression) × (target_of z ≡ Some x) × Writable z

abbrev PS : Clauses → Type 0
PS x = clauses_in_order x ≡ true → (us : List ValuedToken) → (ts : List ValuedToken) × AllClauses x ts us

abbrev PN : Entry → Type 0
PN x = entry_in_order x ≡ true → (us : List ValuedToken) → (ts : List ValuedToken) × OneEntry x ts us

-- a layer of parts that can be written
abbrev Such : Layer → Type 0
Such F = F ((x : Argument) × PA x) ((x : Clause) × PC x) ((x : Expression) × PE x) ((x : Parameter) × PP x) ((x : Target) × PT x) ((x : Clauses) × PS x) ((x : Entry) × PN x)

-- its parts alone
abbrev bare : (F : Layer) → Maps F → Such F → Form F
bare F maps y = maps ((x : Argument) × PA x) ((x : Clause) × PC x) ((x : Expression) × PE x) ((x : Parameter) × PP x) ((x : Target) × PT x) ((x : Clauses) × PS x) ((x : Entry) × PN x) Argument Clause Expression Parameter Target Clauses Entry (λ z. z.0) (λ z. z.0) (λ z. z.0) (λ z. z.0) (λ z. z.0) (λ z. z.0) (λ z. z.0) y

-- ---- lists

still-in-order : {A : Type 0} (test : List A → Bool) (f : A → Bool) (xs : List A) → test (firsts (map (λ z. (z, f z)) xs)) ≡ true → test xs ≡ true
still-in-order test f xs e = ap test (sym (unpaired f xs)) ∙ e

abbrev EachWritable : List Expression → Type 0
EachWritable [] = Unit {0}
EachWritable (x ∷ xs) = Writable x × EachWritable xs

each-writable : (ys : List ((x : Expression) × PE x)) → each_in_order (map (λ z. (z, in_order z)) (map (λ y. y.0) ys)) ≡ true → EachWritable (map (λ y. y.0) ys)
each-writable [] k = tt
each-writable (y ∷ ys) k = let q = both-true _ _ k in (y.1 q.0, each-writable ys q.1)

further-made : (xs : List Expression) → EachWritable xs → (us : List ValuedToken) → (ts : List ValuedToken) × Further xs ts us
further-made [] w us = (us, no-further)
further-made (x ∷ xs) w us =
    let j = further-made xs w.1 us in
    let i = inside w.0 j.0 in
    (mark at s.Comma ∷ i.0, one-further {p = at} i.1 j.1)

tuple-made : (xs : List Expression) → EachWritable xs → Writable (e.Tuple xs)
tuple-made [] w us = (mark at s.LeftParen ∷ mark at s.RightParen ∷ us, an-empty-tuple {p = at} {q = at})
tuple-made (x ∷ xs) w us =
    let j = further-made xs w.1 (mark at s.Comma ∷ mark at s.RightParen ∷ us) in
    let i = inside w.0 j.0 in
    (mark at s.LeftParen ∷ i.0, a-tuple {p = at} {q = at} {r = at} i.1 j.1)

list-made : (xs : List Expression) → EachWritable xs → Writable (e.List xs)
list-made [] w us = (mark at s.LeftBracket ∷ mark at s.RightBracket ∷ us, an-empty-list {p = at} {q = at})
list-made (x ∷ xs) w us =
    let j = further-made xs w.1 (mark at s.RightBracket ∷ us) in
    let i = inside w.0 j.0 in
    (mark at s.LeftBracket ∷ i.0, a-list {p = at} {q = at} i.1 j.1)

module _ {Y : Type 0} (judge : Y → Bool) (One : Y → List ValuedToken → List ValuedToken → Type 0) where
  abbrev Makeable : Y → Type 0
  Makeable y = judge y ≡ true → (us : List ValuedToken) → (ts : List ValuedToken) × One y ts us

  abbrev AllJudged : List ((y : Y) × Makeable y) → Type 0
  AllJudged ys = each_in_order (map (λ z. (z, judge z)) (map (λ y. y.0) ys)) ≡ true

  module _ (Rest : List Y → List ValuedToken → List ValuedToken → Type 0) where
    -- further parts, with the leaves that lead each
    rest-made : (lead : List ValuedToken → List ValuedToken) → ((us : List ValuedToken) → Rest [] us us) → ((y : Y) (ys : List Y) (ts vs us : List ValuedToken) → One y ts vs → Rest ys vs us → Rest (y ∷ ys) (lead ts) us)
        → (ys : List ((y : Y) × Makeable y)) → AllJudged ys → (us : List ValuedToken) → (ts : List ValuedToken) × Rest (map (λ y. y.0) ys) ts us
    rest-made lead none next [] k us = (us, none us)
    rest-made lead none next (y ∷ ys) k us =
        let q = both-true _ _ k in
        let j = rest-made lead none next ys q.1 us in
        let i = y.1 q.0 j.0 in
        (lead i.0, next y.0 (map (λ z. z.0) ys) i.0 j.0 us i.1 j.1)

    -- a part and the further ones, or nothing
    all-made : (All : List Y → List ValuedToken → List ValuedToken → Type 0) → ((ys : List ((y : Y) × Makeable y)) → AllJudged ys → (us : List ValuedToken) → (ts : List ValuedToken) × Rest (map (λ y. y.0) ys) ts us)
        → ((us : List ValuedToken) → All [] us us) → ((y : Y) (ys : List Y) (ts vs us : List ValuedToken) → One y ts vs → Rest ys vs us → All (y ∷ ys) ts us)
        → (ys : List ((y : Y) × Makeable y)) → AllJudged ys → (us : List ValuedToken) → (ts : List ValuedToken) × All (map (λ y. y.0) ys) ts us
    all-made All further none some [] k us = (us, none us)
    all-made All further none some (y ∷ ys) k us =
        let q = both-true _ _ k in
        let j = further ys q.1 us in
        let i = y.1 q.0 j.0 in
        (i.0, some y.0 (map (λ z. z.0) ys) i.0 j.0 us i.1 j.1)

further-entries : (ys : List ((x : Entry) × PN x)) → AllJudged entry_in_order OneEntry ys → (us : List ValuedToken) → (ts : List ValuedToken) × FurtherEntries (map (λ y. y.0) ys) ts us
further-entries = rest-made entry_in_order OneEntry FurtherEntries (λ ts. mark at s.Comma ∷ ts) (λ us. no-entry) (λ y ys ts vs us i j. next-entry {p = at} i j)

further-arguments : (ys : List ((x : Argument) × PA x)) → AllJudged argument_in_order OneArgument ys → (us : List ValuedToken) → (ts : List ValuedToken) × FurtherArguments (map (λ y. y.0) ys) ts us
further-arguments = rest-made argument_in_order OneArgument FurtherArguments (λ ts. mark at s.Comma ∷ ts) (λ us. no-argument) (λ y ys ts vs us i j. next-argument {p = at} i j)

further-parameters : (ys : List ((x : Parameter) × PP x)) → AllJudged parameter_in_order OneParameter ys → (us : List ValuedToken) → (ts : List ValuedToken) × FurtherParameters (map (λ y. y.0) ys) ts us
further-parameters = rest-made parameter_in_order OneParameter FurtherParameters (λ ts. mark at s.Comma ∷ ts) (λ us. no-parameter) (λ y ys ts vs us i j. next-parameter {p = at} i j)

further-clauses : (ys : List ((x : Clause) × PC x)) → AllJudged clause_in_order OneClause ys → (us : List ValuedToken) → (ts : List ValuedToken) × FurtherClauses (map (λ y. y.0) ys) ts us
further-clauses = rest-made clause_in_order OneClause FurtherClauses (λ ts. ts) (λ us. no-clause) (λ y ys ts vs us i j. next-clause i j)

dict-made : (ys : List ((x : Entry) × PN x)) → each_in_order (map (λ z. (z, entry_in_order z)) (map (λ y. y.0) ys)) ≡ true → Writable (e.Dict (map (λ y. y.0) ys))
dict-made [] k us = (mark at s.LeftBrace ∷ mark at s.RightBrace ∷ us, an-empty-dict {p = at} {q = at})
dict-made (y ∷ ys) k us =
    let q = both-true _ _ k in
    let j = further-entries ys q.1 (mark at s.RightBrace ∷ us) in
    let i = y.1 q.0 j.0 in
    (mark at s.LeftBrace ∷ i.0, a-dict {p = at} {q = at} i.1 j.1)

given-made : (ys : List ((x : Argument) × PA x)) → AllJudged argument_in_order OneArgument ys → (us : List ValuedToken) → (ts : List ValuedToken) × Arguments (map (λ y. y.0) ys) ts us
given-made = all-made argument_in_order OneArgument FurtherArguments Arguments further-arguments (λ us. none-given) (λ y ys ts vs us i j. some-given i j)

taken-made : (ys : List ((x : Parameter) × PP x)) → AllJudged parameter_in_order OneParameter ys → (us : List ValuedToken) → (ts : List ValuedToken) × Parameters (map (λ y. y.0) ys) ts us
taken-made = all-made parameter_in_order OneParameter FurtherParameters Parameters further-parameters (λ us. none-taken) (λ y ys ts vs us i j. some-taken i j)

-- ---- forms

unary-made : (op : UnaryOperator) (x : Expression) → Writable x → Writable (e.Unary op x)
unary-made unaries.Plus x w us = let i = inside w us in (mark at s.Plus ∷ i.0, a-sign {p = at} positive i.1)
unary-made unaries.Minus x w us = let i = inside w us in (mark at s.Minus ∷ i.0, a-sign {p = at} negative i.1)
unary-made unaries.Invert x w us = let i = inside w us in (mark at s.Tilde ∷ i.0, a-sign {p = at} inverted i.1)
unary-made unaries.Not x w us = let i = inside w us in (spelt at keyword.Not ∷ i.0, a-denial {p = at} i.1)

binary-sign : (op : BinaryOperator) → (sign : Punctuator) × IsBinary sign op
binary-sign binaries.Multiply = (s.Star, times)
binary-sign binaries.FloorDivide = (s.SlashSlash, divided)
binary-sign binaries.Modulo = (s.Percent, modulo)
binary-sign binaries.Add = (s.Plus, plus)
binary-sign binaries.Subtract = (s.Minus, minus)
binary-sign binaries.ShiftLeft = (s.ShiftLeft, to-left)
binary-sign binaries.ShiftRight = (s.ShiftRight, to-right)
binary-sign binaries.BitAnd = (s.Ampersand, bits-and)
binary-sign binaries.BitXor = (s.Caret, bits-xor)
binary-sign binaries.BitOr = (s.Bar, bits-or)

binary-made : (op : BinaryOperator) (x y : Expression) → Writable x → Writable y → Writable (e.Binary op x y)
binary-made op x y v w us =
    let b = binary-sign op in
    let j = inside w us in
    let i = inside v (mark at b.0 ∷ j.0) in
    (i.0, a-binary {p = at} b.1 i.1 j.1)

compared-made : (t : TokenValue) (c : Comparator) (x y : Expression) → IsComparator t c → Writable x → Writable y → Writable (e.Compare c x y)
compared-made t c x y is v w us =
    let j = inside w us in
    let i = inside v (record { word = t; position = at } ∷ j.0) in
    (i.0, a-comparison {p = at} is i.1 j.1)

compare-made : (c : Comparator) (x y : Expression) → Writable x → Writable y → Writable (e.Compare c x y)
compare-made comparators.Equal x y v w us = compared-made (word.Punctuator s.EqualEqual) comparators.Equal x y equal v w us
compare-made comparators.NotEqual x y v w us = compared-made (word.Punctuator s.NotEqual) comparators.NotEqual x y unequal v w us
compare-made comparators.Less x y v w us = compared-made (word.Punctuator s.Less) comparators.Less x y less v w us
compare-made comparators.Greater x y v w us = compared-made (word.Punctuator s.Greater) comparators.Greater x y greater v w us
compare-made comparators.LessEqual x y v w us = compared-made (word.Punctuator s.LessEqual) comparators.LessEqual x y at-most v w us
compare-made comparators.GreaterEqual x y v w us = compared-made (word.Punctuator s.GreaterEqual) comparators.GreaterEqual x y at-least v w us
compare-made comparators.In x y v w us = compared-made (word.Keyword keyword.In) comparators.In x y contained v w us
compare-made comparators.NotIn x y v w us = let j = inside w us in let i = inside v (spelt at keyword.Not ∷ spelt at keyword.In ∷ j.0) in (i.0, an-absence {p = at} {q = at} i.1 j.1)

abbrev Optionally : Option Expression → Type 0
Optionally a = (us : List ValuedToken) → (ts : List ValuedToken) × Optional a ts us

nothing-put : Optionally None
nothing-put us = (us, left-out)

something-put : {x : Expression} → Writable x → Optionally (Some x)
something-put w us = let i = inside w us in (i.0, put i.1)

slice-made : (x : Expression) (a b c : Option Expression) → Writable x → Optionally a → Optionally b → Optionally c → Writable (e.Slice x a b c)
slice-made x a b c w o p r us =
    let l = r (mark at s.RightBracket ∷ us) in
    let j = p (mark at s.Colon ∷ l.0) in
    let i = o (mark at s.Colon ∷ j.0) in
    let h = inside w (mark at s.LeftBracket ∷ i.0) in
    (h.0, a-slice {p = at} {q = at} {r = at} {t = at} h.1 i.1 j.1 l.1)

-- ---- layers

entry-made : (y : Such tree.Entry-F) → PN (roll-Entry (bare tree.Entry-F folds.map-Entry y))
entry-made y k us =
    let b = both-true _ _ (sym (opened.entry' (bare tree.Entry-F folds.map-Entry y)) ∙ k) in
    let j = inside (y.value.1 b.1) us in
    let i = inside (y.key.1 b.0) (mark at s.Colon ∷ j.0) in
    (i.0, an-entry i.1 j.1)

abbrev WA : Argument → List ValuedToken → Type 0
WA x us = (ts : List ValuedToken) × OneArgument x ts us

argument-made : (y : Such tree.Argument-F) → PA (roll-Argument (bare tree.Argument-F folds.map-Argument y))
argument-made (tree.Positional x) k us = let i = inside (x.1 (sym (opened.argument' (bare tree.Argument-F folds.map-Argument (tree.Positional x))) ∙ k)) us in subst (λ z. WA z us) (sym (arguments.rolls-Positional x.0)) (i.0, positional i.1)
argument-made (tree.Named n x) k us = let i = inside (x.1 (sym (opened.argument' (bare tree.Argument-F folds.map-Argument (tree.Named n x))) ∙ k)) us in subst (λ z. WA z us) (sym (arguments.rolls-Named n x.0)) (_, by-name {p = at} i.1)
argument-made (tree.Argument-F.Argument::Star x) k us = let i = inside (x.1 (sym (opened.argument' (bare tree.Argument-F folds.map-Argument (tree.Argument-F.Argument::Star x))) ∙ k)) us in subst (λ z. WA z us) (sym (arguments.rolls-Star x.0)) (mark at s.Star ∷ i.0, with-star {p = at} i.1)
argument-made (tree.Argument-F.Argument::StarStar x) k us = let i = inside (x.1 (sym (opened.argument' (bare tree.Argument-F folds.map-Argument (tree.Argument-F.Argument::StarStar x))) ∙ k)) us in subst (λ z. WA z us) (sym (arguments.rolls-StarStar x.0)) (mark at s.StarStar ∷ i.0, with-two-stars {p = at} i.1)

abbrev WP : Parameter → List ValuedToken → Type 0
WP x us = (ts : List ValuedToken) × OneParameter x ts us

parameter-made : (y : Such tree.Parameter-F) → PP (roll-Parameter (bare tree.Parameter-F folds.map-Parameter y))
parameter-made (tree.Plain n) k us = subst (λ z. WP z us) (sym (parameters.rolls-Plain n)) (_, plain)
parameter-made (tree.Default n x) k us = let i = inside (x.1 (sym (opened.parameter' (bare tree.Parameter-F folds.map-Parameter (tree.Default n x))) ∙ k)) us in subst (λ z. WP z us) (sym (parameters.rolls-Default n x.0)) (_, default {p = at} i.1)
parameter-made (tree.Parameter-F.Parameter::Star n) k us = subst (λ z. WP z us) (sym (parameters.rolls-Star n)) (_, starred {p = at})
parameter-made tree.BareStar k us = subst (λ z. WP z us) (sym parameters.rolls-BareStar) (_, bare-star {p = at})
parameter-made (tree.Parameter-F.Parameter::StarStar n) k us = subst (λ z. WP z us) (sym (parameters.rolls-StarStar n)) (_, twice-starred {p = at})

abbrev WT : Target → Type 0
WT x = (z : Expression) × (target_of z ≡ Some x) × Writable z

index-made : (x y : Expression) → Writable x → Writable y → Writable (e.Index x y)
index-made x y v w us = let j = inside w (mark at s.RightBracket ∷ us) in let i = inside v (mark at s.LeftBracket ∷ j.0) in (i.0, an-index {p = at} {q = at} i.1 j.1)

several : (ys : List ((x : Target) × PT x)) → each_in_order (map (λ z. (z, target_in_order z)) (map (λ y. y.0) ys)) ≡ true → (zs : List Expression) × (targets_of zs ≡ Some (map (λ y. y.0) ys)) × EachWritable zs
unfolding targets_of
several [] k = ([], refl, tt)
several (y ∷ ys) k =
    let q = both-true _ _ k in
    let i = y.1 q.0 in
    let j = several ys q.1 in
    (i.0 ∷ j.0, rw i.1 (rw j.1 refl), (i.2, j.2))

target-made : (y : Such tree.Target-F) → PT (roll-Target (bare tree.Target-F folds.map-Target y))
target-made (tree.Target-F.Target::Name n) k = subst WT (sym (targets.rolls-Name n)) (e.Name n, target-Name n, λ us. (_, a-name))
target-made (tree.Target-F.Target::Index a b) k = let q = both-true _ _ (sym (opened.target' (bare tree.Target-F folds.map-Target (tree.Target-F.Target::Index a b))) ∙ k) in subst WT (sym (targets.rolls-Index a.0 b.0)) (e.Index a.0 b.0, target-Index a.0 b.0, index-made a.0 b.0 (a.1 q.0) (b.1 q.1))
target-made (tree.Target-F.Target::Tuple ys) k = let j = several ys (sym (opened.target' (bare tree.Target-F folds.map-Target (tree.Target-F.Target::Tuple ys))) ∙ k) in subst WT (sym (targets.rolls-Tuple _)) (e.Tuple j.0, target-Tuple j.0 ∙ ap tuple_target j.1, tuple-made j.0 j.2)
target-made (tree.Target-F.Target::List ys) k = let j = several ys (sym (opened.target' (bare tree.Target-F folds.map-Target (tree.Target-F.Target::List ys))) ∙ k) in subst WT (sym (targets.rolls-List _)) (e.List j.0, target-List j.0 ∙ ap list_target j.1, list-made j.0 j.2)

for-made : (x : Target) (y : Expression) → WT x → Writable y → (us : List ValuedToken) → (ts : List ValuedToken) × ForPart x y ts us
for-made x y t w us = let j = inside w us in let i = inside t.2 (spelt at keyword.In ∷ j.0) in (spelt at keyword.For ∷ i.0, for-each {p = at} {q = at} t.1 i.1 j.1)

abbrev WC : Clause → List ValuedToken → Type 0
WC x us = (ts : List ValuedToken) × OneClause x ts us

clause-made : (y : Such tree.Clause-F) → PC (roll-Clause (bare tree.Clause-F folds.map-Clause y))
clause-made (tree.For t x) k us = let q = both-true _ _ (sym (opened.clause' (bare tree.Clause-F folds.map-Clause (tree.For t x))) ∙ k) in let f = for-made t.0 x.0 (t.1 q.0) (x.1 q.1) us in subst (λ z. WC z us) (sym (clauses.rolls-For t.0 x.0)) (f.0, each f.1)
clause-made (tree.If x) k us = let i = inside (x.1 (sym (opened.clause' (bare tree.Clause-F folds.map-Clause (tree.If x))) ∙ k)) us in subst (λ z. WC z us) (sym (clauses.rolls-If x.0)) (spelt at keyword.If ∷ i.0, only-if {p = at} i.1)

clauses-made : (y : Such tree.Clauses-F) → PS (roll-Clauses (bare tree.Clauses-F folds.map-Clauses y))
clauses-made y k us =
    let q = both-true _ _ (sym (opened.clauses' (bare tree.Clauses-F folds.map-Clauses y)) ∙ k) in
    let r = both-true _ _ q.1 in
    let j = further-clauses y.more r.1 us in
    let f = for-made y.target.0 y.iterable.0 (y.target.1 q.0) (y.iterable.1 r.0) j.0 in
    (f.0, clauses-from f.1 j.1)

expression-made : (y : Such tree.Expression-F) → PE (roll-Expression (bare tree.Expression-F folds.map-Expression y))
expression-made (tree.Expression-F.Expression::Name n) k = subst Writable (sym (e.rolls-Name n)) (λ us. (_, a-name))
expression-made (tree.Int n) k = subst Writable (sym (e.rolls-Int n)) (λ us. (_, an-int {p = at}))
expression-made (tree.Text n) k = subst Writable (sym (e.rolls-Text n)) (λ us. (_, a-text {p = at}))
expression-made (tree.Expression-F.Expression::Tuple ys) k = subst Writable (sym (e.rolls-Tuple _)) (tuple-made _ (each-writable ys (sym (opened.expression' (bare tree.Expression-F folds.map-Expression (tree.Expression-F.Expression::Tuple ys))) ∙ k)))
expression-made (tree.Expression-F.Expression::List ys) k = subst Writable (sym (e.rolls-List _)) (list-made _ (each-writable ys (sym (opened.expression' (bare tree.Expression-F folds.map-Expression (tree.Expression-F.Expression::List ys))) ∙ k)))
expression-made (tree.Dict ys) k = subst Writable (sym (e.rolls-Dict _)) (dict-made ys (sym (opened.expression' (bare tree.Expression-F folds.map-Expression (tree.Dict ys))) ∙ k))
expression-made (tree.ListComprehension p x cs) k = let q = both-true _ _ (sym (opened.expression' (bare tree.Expression-F folds.map-Expression (tree.ListComprehension p x cs))) ∙ k) in subst Writable (sym (e.rolls-ListComprehension p x.0 cs.0)) (λ us. let j = cs.1 q.1 (mark at s.RightBracket ∷ us) in let i = inside (x.1 q.0) j.0 in (mark p s.LeftBracket ∷ i.0, a-list-comprehension {p = p} {q = at} i.1 j.1))
expression-made (tree.DictComprehension p x cs) k = let q = both-true _ _ (sym (opened.expression' (bare tree.Expression-F folds.map-Expression (tree.DictComprehension p x cs))) ∙ k) in subst Writable (sym (e.rolls-DictComprehension p x.0 cs.0)) (λ us. let j = cs.1 q.1 (mark at s.RightBrace ∷ us) in let i = x.1 q.0 j.0 in (mark p s.LeftBrace ∷ i.0, a-dict-comprehension {p = p} {q = at} i.1 j.1))
expression-made (tree.Unary op x) k = subst Writable (sym (e.rolls-Unary op x.0)) (unary-made op x.0 (x.1 (sym (opened.expression' (bare tree.Expression-F folds.map-Expression (tree.Unary op x))) ∙ k)))
expression-made (tree.Binary op a b) k = let q = both-true _ _ (sym (opened.expression' (bare tree.Expression-F folds.map-Expression (tree.Binary op a b))) ∙ k) in subst Writable (sym (e.rolls-Binary op a.0 b.0)) (binary-made op a.0 b.0 (a.1 q.0) (b.1 q.1))
expression-made (tree.Compare op a b) k = let q = both-true _ _ (sym (opened.expression' (bare tree.Expression-F folds.map-Expression (tree.Compare op a b))) ∙ k) in subst Writable (sym (e.rolls-Compare op a.0 b.0)) (compare-made op a.0 b.0 (a.1 q.0) (b.1 q.1))
expression-made (tree.And a b) k = let q = both-true _ _ (sym (opened.expression' (bare tree.Expression-F folds.map-Expression (tree.And a b))) ∙ k) in subst Writable (sym (e.rolls-And a.0 b.0)) (λ us. let j = inside (b.1 q.1) us in let i = inside (a.1 q.0) (spelt at keyword.And ∷ j.0) in (i.0, an-and {p = at} i.1 j.1))
expression-made (tree.Or a b) k = let q = both-true _ _ (sym (opened.expression' (bare tree.Expression-F folds.map-Expression (tree.Or a b))) ∙ k) in subst Writable (sym (e.rolls-Or a.0 b.0)) (λ us. let j = inside (b.1 q.1) us in let i = inside (a.1 q.0) (spelt at keyword.Or ∷ j.0) in (i.0, an-or {p = at} i.1 j.1))
expression-made (tree.Conditional x a b) k = let q = both-true _ _ (sym (opened.expression' (bare tree.Expression-F folds.map-Expression (tree.Conditional x a b))) ∙ k) in let r = both-true _ _ q.1 in subst Writable (sym (e.rolls-Conditional x.0 a.0 b.0)) (λ us. let l = inside (b.1 r.1) us in let j = inside (x.1 q.0) (spelt at keyword.Else ∷ l.0) in let i = inside (a.1 r.0) (spelt at keyword.If ∷ j.0) in (i.0, a-conditional {p = at} {q = at} i.1 j.1 l.1))
expression-made (tree.Lambda p ys x) k = let q = both-true _ _ (sym (opened.expression' (bare tree.Expression-F folds.map-Expression (tree.Lambda p ys x))) ∙ k) in let r = both-true _ _ q.1 in subst Writable (sym (e.rolls-Lambda p _ x.0)) (λ us. let i = inside (x.1 r.1) us in let j = taken-made ys r.0 (mark at s.Colon ∷ i.0) in (spelt p keyword.Lambda ∷ j.0, a-lambda {p = p} {q = at} j.1 (still-in-order parameters_in_order parameter_in_order (map (λ y. y.0) ys) q.0) i.1))
expression-made (tree.Call x ys) k = let q = both-true _ _ (sym (opened.expression' (bare tree.Expression-F folds.map-Expression (tree.Call x ys))) ∙ k) in let r = both-true _ _ q.1 in subst Writable (sym (e.rolls-Call x.0 _)) (λ us. let j = given-made ys r.1 (mark at s.RightParen ∷ us) in let i = inside (x.1 r.0) (mark at s.LeftParen ∷ j.0) in (i.0, a-call {p = at} {q = at} i.1 j.1 (still-in-order arguments_in_order argument_in_order (map (λ y. y.0) ys) q.0)))
expression-made (tree.Attribute x n) k = subst Writable (sym (e.rolls-Attribute x.0 n)) (λ us. let i = inside (x.1 (sym (opened.expression' (bare tree.Expression-F folds.map-Expression (tree.Attribute x n))) ∙ k)) _ in (i.0, an-attribute {p = at} i.1))
expression-made (tree.Expression-F.Expression::Index a b) k = let q = both-true _ _ (sym (opened.expression' (bare tree.Expression-F folds.map-Expression (tree.Expression-F.Expression::Index a b))) ∙ k) in subst Writable (sym (e.rolls-Index a.0 b.0)) (index-made a.0 b.0 (a.1 q.0) (b.1 q.1))
expression-made (tree.Slice x None None None) k = let q = both-true (in_order x.0) (true && (true && true)) (sym (opened.expression' (bare tree.Expression-F folds.map-Expression (tree.Slice x None None None))) ∙ k) in let q1 = both-true true (true && true) q.1 in let q2 = both-true true true q1.1 in subst Writable (sym (e.rolls-Slice x.0 None None None)) (slice-made x.0 None None None (x.1 q.0) nothing-put nothing-put nothing-put)
expression-made (tree.Slice x (Some a) None None) k = let q = both-true (in_order x.0) (in_order a.0 && (true && true)) (sym (opened.expression' (bare tree.Expression-F folds.map-Expression (tree.Slice x (Some a) None None))) ∙ k) in let q1 = both-true (in_order a.0) (true && true) q.1 in let q2 = both-true true true q1.1 in subst Writable (sym (e.rolls-Slice x.0 (Some a.0) None None)) (slice-made x.0 (Some a.0) None None (x.1 q.0) (something-put (a.1 q1.0)) nothing-put nothing-put)
expression-made (tree.Slice x None (Some b) None) k = let q = both-true (in_order x.0) (true && (in_order b.0 && true)) (sym (opened.expression' (bare tree.Expression-F folds.map-Expression (tree.Slice x None (Some b) None))) ∙ k) in let q1 = both-true true (in_order b.0 && true) q.1 in let q2 = both-true (in_order b.0) true q1.1 in subst Writable (sym (e.rolls-Slice x.0 None (Some b.0) None)) (slice-made x.0 None (Some b.0) None (x.1 q.0) nothing-put (something-put (b.1 q2.0)) nothing-put)
expression-made (tree.Slice x (Some a) (Some b) None) k = let q = both-true (in_order x.0) (in_order a.0 && (in_order b.0 && true)) (sym (opened.expression' (bare tree.Expression-F folds.map-Expression (tree.Slice x (Some a) (Some b) None))) ∙ k) in let q1 = both-true (in_order a.0) (in_order b.0 && true) q.1 in let q2 = both-true (in_order b.0) true q1.1 in subst Writable (sym (e.rolls-Slice x.0 (Some a.0) (Some b.0) None)) (slice-made x.0 (Some a.0) (Some b.0) None (x.1 q.0) (something-put (a.1 q1.0)) (something-put (b.1 q2.0)) nothing-put)
expression-made (tree.Slice x None None (Some c)) k = let q = both-true (in_order x.0) (true && (true && in_order c.0)) (sym (opened.expression' (bare tree.Expression-F folds.map-Expression (tree.Slice x None None (Some c)))) ∙ k) in let q1 = both-true true (true && in_order c.0) q.1 in let q2 = both-true true (in_order c.0) q1.1 in subst Writable (sym (e.rolls-Slice x.0 None None (Some c.0))) (slice-made x.0 None None (Some c.0) (x.1 q.0) nothing-put nothing-put (something-put (c.1 q2.1)))
expression-made (tree.Slice x (Some a) None (Some c)) k = let q = both-true (in_order x.0) (in_order a.0 && (true && in_order c.0)) (sym (opened.expression' (bare tree.Expression-F folds.map-Expression (tree.Slice x (Some a) None (Some c)))) ∙ k) in let q1 = both-true (in_order a.0) (true && in_order c.0) q.1 in let q2 = both-true true (in_order c.0) q1.1 in subst Writable (sym (e.rolls-Slice x.0 (Some a.0) None (Some c.0))) (slice-made x.0 (Some a.0) None (Some c.0) (x.1 q.0) (something-put (a.1 q1.0)) nothing-put (something-put (c.1 q2.1)))
expression-made (tree.Slice x None (Some b) (Some c)) k = let q = both-true (in_order x.0) (true && (in_order b.0 && in_order c.0)) (sym (opened.expression' (bare tree.Expression-F folds.map-Expression (tree.Slice x None (Some b) (Some c)))) ∙ k) in let q1 = both-true true (in_order b.0 && in_order c.0) q.1 in let q2 = both-true (in_order b.0) (in_order c.0) q1.1 in subst Writable (sym (e.rolls-Slice x.0 None (Some b.0) (Some c.0))) (slice-made x.0 None (Some b.0) (Some c.0) (x.1 q.0) nothing-put (something-put (b.1 q2.0)) (something-put (c.1 q2.1)))
expression-made (tree.Slice x (Some a) (Some b) (Some c)) k = let q = both-true (in_order x.0) (in_order a.0 && (in_order b.0 && in_order c.0)) (sym (opened.expression' (bare tree.Expression-F folds.map-Expression (tree.Slice x (Some a) (Some b) (Some c)))) ∙ k) in let q1 = both-true (in_order a.0) (in_order b.0 && in_order c.0) q.1 in let q2 = both-true (in_order b.0) (in_order c.0) q1.1 in subst Writable (sym (e.rolls-Slice x.0 (Some a.0) (Some b.0) (Some c.0))) (slice-made x.0 (Some a.0) (Some b.0) (Some c.0) (x.1 q.0) (something-put (a.1 q1.0)) (something-put (b.1 q2.0)) (something-put (c.1 q2.1)))

pub writable : AllWritable
writable x = ind-Expression PA PC PE PP PT PS PN (λ x' y p. subst (λ z. PA (roll-Argument z)) p (argument-made y)) (λ x' y p. subst (λ z. PC (roll-Clause z)) p (clause-made y)) (λ x' y p. subst (λ z. PE (roll-Expression z)) p (expression-made y)) (λ x' y p. subst (λ z. PP (roll-Parameter z)) p (parameter-made y)) (λ x' y p. subst (λ z. PT (roll-Target z)) p (target-made y)) (λ x' y p. subst (λ z. PS (roll-Clauses z)) p (clauses-made y)) (λ x' y p. subst (λ z. PN (roll-Entry z)) p (entry-made y)) x

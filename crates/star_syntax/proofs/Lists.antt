-- The readings of the lists of an expression, and of the forms that hold them.
use Rattle.std.proofs.Common.{◌≡◌, Bool, true, List, [], ◌∷◌, ◌++◌, Option, Some, None, refl, subst, sym, append-nil, append_assoc}
use Rattle.star_lex.specs.declared.token.Punctuator.{Punctuator}
use Rattle.star_lex.specs.declared.token.Punctuator.TheVariants as s
use Rattle.star_lex.specs.declared.token.Keyword.TheVariants as k
use Rattle.star_syntax.specs.declared.leaf.TokenValue.TheVariants as word
use Rattle.star_syntax.specs.declared.leaf.ValuedToken.{ValuedToken}
use Rattle.star_syntax.specs.declared.level.Level.TheVariants as levels
use Rattle.star_syntax.specs.declared.level.Suffix.TheVariants as suffixes
use Rattle.star_tree.specs.declared.tree.Position.{Position}
use Rattle.star_tree.specs.declared.tree.Name.{Name}
use Rattle.star_tree.specs.declared.tree.Expression.{Expression}
use Rattle.star_tree.specs.declared.tree.Expression.TheVariants as e
use Rattle.star_tree.specs.declared.tree.Entry.{Entry, roll-Entry}
use Rattle.star_tree.specs.declared.tree.Argument.{Argument}
use Rattle.star_tree.specs.declared.tree.Argument.TheVariants as arguments
use Rattle.star_tree.specs.declared.tree.Parameter.{Parameter}
use Rattle.star_tree.specs.declared.tree.Parameter.TheVariants as parameters
use Rattle.star_tree.specs.declared.tree.Target.{Target}
use Rattle.star_tree.specs.declared.tree.Clauses.{Clauses, roll-Clauses}
use Rattle.star_tree.specs.declared.tree.Clause.{Clause}
use Rattle.star_tree.specs.declared.tree.Clause.TheVariants as clauses
use Rattle.star_syntax.specs.Sorts.{Sort, Val}
use Rattle.star_syntax.specs.Sorts as sorts
use Rattle.star_syntax.specs.Grammar.{level, Part, nonterminal, Reads, hit, miss, free, seq-some, seq-first, alt-first, alt-second, fold-none, fold-some, act-none, act-some, when-none, when-some, itself, Rounds, stop, more}
use Rattle.star_syntax.specs.Keeps.{keep, arguments_in_order, parameters_in_order, target_of}
use Rattle.star_syntax.specs.Expressions.{same_sign, same_keyword, snoc, opt, after, sign_, a_test, name, next_primary, list_of_primaries, primaries, targets, for_clause, if_clause, next_clause, further_clauses, all_clauses, parentheses, after_element, elements, list_display, entry, next_entry, further_entries, after_entry, entries, dict_display, atom, operand, named, argument, next_argument, list_of_arguments, ordered_arguments, optional_arguments, default, named_parameter, star, star_star, parameter, next_parameter, list_of_parameters, ordered_parameters, lambda_parameters, lambda, attribute, call, stride, stop_and_stride, after_start, from_test, in_brackets, subscript, suffix, primary, disjunction, any_test}
use Rattle.star_syntax.specs.Language.{rule}
use Rattle.star_syntax.specs.Written.{mark, spelt, called}
use Rattle.star_syntax.proofs.Quiet.{test-none}
use Rattle.star_syntax.proofs.Forms.{Commas, commas, closing}

-- ---- rounds that make a list

abbrev pub Listed : (a : Sort) → Part a → List (Val a) → List ValuedToken → List (Val a) → List ValuedToken → Type 0
Listed a h found ts all us = Rounds rule (sorts.list a) a snoc h found ts (all, us)

pub last-listed : (a : Sort) (h : Part a) (found : List (Val a)) (us : List ValuedToken) → Reads rule a h us None → Listed a h found us (found ++ []) us
last-listed a h found us n =
    let P : List (Val a) → Type 0 = λ z. Listed a h found us z us in
    subst P (sym (append-nil found)) (stop n)

pub one-listed : (a : Sort) (h : Part a) {ts vs us : List ValuedToken} (found : List (Val a)) (x : Val a) (xs : List (Val a)) → Reads rule a h ts (Some (x, vs)) → Listed a h (found ++ x ∷ []) vs ((found ++ x ∷ []) ++ xs) us
    → Listed a h found ts (found ++ x ∷ xs) us
one-listed a h {ts = ts} {us = us} found x xs d f =
    let P : List (Val a) → Type 0 = λ z. Listed a h found ts z us in
    subst P (append_assoc found (x ∷ []) xs) (more d f)

kept : {A : Type 0} (test : A → Bool) (x : A) → test x ≡ true → keep test x ≡ Some x
kept test x e = rw e refl

-- ---- dictionaries

pub entry-of : {ts vs us : List ValuedToken} {x y : Expression} (p : Position) → Reads rule _ (nonterminal (level levels.Test)) ts (Some (x, mark p s.Colon ∷ vs)) → Reads rule _ (nonterminal (level levels.Test)) vs (Some (y, us))
    → Reads rule _ entry ts (Some (roll-Entry (record { key = x; value = y }), us))
unfolding entry same_sign
entry-of {x = x} {y = y} p d f = act-some {x = (x, y)} (seq-some d (act-some {x = (tt, y)} (seq-some (hit refl) f)))

pub next-entries : Commas sorts.entry next_entry entry
unfolding next_entry
next-entries = commas sorts.entry entry

pub empty-dict-of : (p q : Position) (us : List ValuedToken) → Reads rule _ operand (mark p s.LeftBrace ∷ mark q s.RightBrace ∷ us) (Some (e.Dict [], us))
unfolding operand atom parentheses list_display dict_display entries entry same_sign
empty-dict-of p q us = alt-second (miss refl) (alt-second (act-none (seq-first (miss refl))) (alt-second (act-none (seq-first (miss refl))) (act-some {x = (p, None)} (seq-some (hit refl) (act-some {x = (None, tt)} (seq-some
    (alt-second (act-none (seq-first (act-none (seq-first (test-none q (word.Punctuator s.RightBrace) us closing.brace'))))) (act-some {x = tt} free)) (hit refl)))))))

pub dict-of : {ts vs us : List ValuedToken} {y : Entry} {ys : List Entry} (p q : Position) → Reads rule _ entry ts (Some (y, vs)) → Reads rule _ all_clauses vs None → Listed sorts.entry next_entry [] vs ys (mark q s.RightBrace ∷ us)
    → Reads rule _ operand (mark p s.LeftBrace ∷ ts) (Some (e.Dict (y ∷ ys), us))
unfolding operand atom parentheses list_display dict_display entries after_entry further_entries same_sign
dict-of {y = y} {ys = ys} p q d n f = alt-second (miss refl) (alt-second (act-none (seq-first (miss refl))) (alt-second (act-none (seq-first (miss refl))) (act-some {x = (p, Some (y, (None, ys)))} (seq-some (hit refl) (act-some {x = (Some (y, (None, ys)), tt)} (seq-some
    (alt-first (act-some {x = (y, (None, ys))} (seq-some d (alt-second (act-none n) (act-some {x = ys} (act-some {x = (ys, None)} (seq-some (fold-some (act-some {x = tt} free) f) (alt-second (act-none (miss refl)) (act-some {x = tt} free))))))))) (hit refl)))))))

-- ---- comprehensions

pub list-comprehension-of : {ts vs us : List ValuedToken} {x : Expression} {c : Clauses} (p q : Position) → Reads rule _ (nonterminal (level levels.Test)) ts (Some (x, vs)) → Reads rule _ all_clauses vs (Some (c, mark q s.RightBracket ∷ us))
    → Reads rule _ operand (mark p s.LeftBracket ∷ ts) (Some (e.ListComprehension p x c, us))
unfolding operand atom parentheses list_display elements after_element same_sign
list-comprehension-of {x = x} {c = c} p q d f = alt-second (miss refl) (alt-second (act-none (seq-first (miss refl))) (alt-first (act-some {x = (p, Some (x, (Some c, [])))} (seq-some (hit refl) (act-some {x = (Some (x, (Some c, [])), tt)} (seq-some
    (alt-first (act-some {x = (x, (Some c, []))} (seq-some d (alt-first (act-some {x = c} f))))) (hit refl)))))))

pub dict-comprehension-of : {ts vs us : List ValuedToken} {y : Entry} {c : Clauses} (p q : Position) → Reads rule _ entry ts (Some (y, vs)) → Reads rule _ all_clauses vs (Some (c, mark q s.RightBrace ∷ us))
    → Reads rule _ operand (mark p s.LeftBrace ∷ ts) (Some (e.DictComprehension p y c, us))
unfolding operand atom parentheses list_display dict_display entries after_entry same_sign
dict-comprehension-of {y = y} {c = c} p q d f = alt-second (miss refl) (alt-second (act-none (seq-first (miss refl))) (alt-second (act-none (seq-first (miss refl))) (act-some {x = (p, Some (y, (Some c, [])))} (seq-some (hit refl) (act-some {x = (Some (y, (Some c, [])), tt)} (seq-some
    (alt-first (act-some {x = (y, (Some c, []))} (seq-some d (alt-first (act-some {x = c} f))))) (hit refl)))))))

pub for-of : {ts vs us : List ValuedToken} {y z : Expression} {target : Target} (p q : Position) → target_of z ≡ Some target → Reads rule _ primary ts (Some (z, spelt q k.In ∷ vs)) → Reads rule _ disjunction vs (Some (y, us))
    → Reads rule _ for_clause (spelt p k.For ∷ ts) (Some ((target, y), us))
unfolding for_clause targets primaries list_of_primaries next_primary same_keyword
for-of {y = y} {z = z} {target = target} p q is d f = act-some {x = (tt, (target, y))} (seq-some (hit refl) (seq-some
    (when-some is (act-some {x = z ∷ []} (fold-some (act-some {x = z} (itself {r = level levels.Primary} d)) (stop (act-none (seq-first (miss refl)))))))
    (act-some {x = (tt, y)} (seq-some (hit refl) (itself {r = level levels.Or} f)))))

pub each-of : {ts us : List ValuedToken} {y : Expression} {target : Target} → Reads rule _ for_clause ts (Some ((target, y), us)) → Reads rule _ next_clause ts (Some (clauses.For target y, us))
unfolding next_clause
each-of {y = y} {target = target} d = alt-first (act-some {x = (target, y)} d)

pub only-if-of : {ts us : List ValuedToken} {y : Expression} (p : Position) → Reads rule _ disjunction ts (Some (y, us)) → Reads rule _ next_clause (spelt p k.If ∷ ts) (Some (clauses.If y, us))
unfolding next_clause for_clause if_clause same_keyword
only-if-of {y = y} p d = alt-second (act-none (act-none (seq-first (miss refl)))) (act-some {x = y} (act-some {x = (tt, y)} (seq-some (hit refl) (itself {r = level levels.Or} d))))

pub no-next-clause : (p : Position) (sign : Punctuator) (ts : List ValuedToken) → Reads rule _ next_clause (mark p sign ∷ ts) None
unfolding next_clause for_clause if_clause
no-next-clause p sign ts = alt-second (act-none (act-none (seq-first (miss refl)))) (act-none (act-none (seq-first (miss refl))))

pub clauses-of : {ts vs us : List ValuedToken} {y : Expression} {target : Target} {ys : List Clause} → Reads rule _ for_clause ts (Some ((target, y), vs)) → Listed sorts.clause next_clause [] vs ys us
    → Reads rule _ all_clauses ts (Some (roll-Clauses (record { target = target; iterable = y; more = ys }), us))
unfolding all_clauses further_clauses
clauses-of {y = y} {target = target} {ys = ys} d f = act-some {x = ((target, y), ys)} (seq-some d (fold-some (act-some {x = tt} free) f))

-- ---- calls

-- no keyword argument, and none with a star, begins here
pub record Unnamed (ts : List ValuedToken) : Type 0 where
  pub named' : Reads rule _ named ts None
  pub star' : Reads rule _ (after (sign_ s.Star) a_test) ts None
  pub star-star' : Reads rule _ (after (sign_ s.StarStar) a_test) ts None

pub unnamed : (p : Position) (ts : List ValuedToken) → Unnamed (mark p s.LeftParen ∷ ts)
unfolding named same_sign
unnamed p ts = record { named' = act-none (seq-first (act-none (seq-first (miss refl)))); star' = act-none (seq-first (miss refl)); star-star' = act-none (seq-first (miss refl)) }

module _ {ts us : List ValuedToken} {x : Expression} where
  pub positional-of : Unnamed ts → Reads rule _ (nonterminal (level levels.Test)) ts (Some (x, us)) → Reads rule _ argument ts (Some (arguments.Positional x, us))
  unfolding argument
  positional-of n d = alt-second n.named' (alt-second (act-none n.star') (alt-second (act-none n.star-star') (act-some {x = x} d)))

  pub by-name-of : (p : Position) (x' : Name) → Reads rule _ (nonterminal (level levels.Test)) ts (Some (x, us)) → Reads rule _ argument (called x' ∷ mark p s.Assign ∷ ts) (Some (arguments.Named x' x, us))
  unfolding argument named same_sign
  by-name-of p x' d = alt-first (act-some {x = (x', x)} (seq-some (act-some {x = (x', tt)} (seq-some (hit refl) (hit refl))) d))

  pub with-star-of : (p : Position) → Reads rule _ (nonterminal (level levels.Test)) ts (Some (x, us)) → Reads rule _ argument (mark p s.Star ∷ ts) (Some (arguments.Star x, us))
  unfolding argument named same_sign
  with-star-of p d = alt-second (act-none (seq-first (act-none (seq-first (miss refl))))) (alt-first (act-some {x = x} (act-some {x = (tt, x)} (seq-some (hit refl) d))))

  pub with-two-stars-of : (p : Position) → Reads rule _ (nonterminal (level levels.Test)) ts (Some (x, us)) → Reads rule _ argument (mark p s.StarStar ∷ ts) (Some (arguments.StarStar x, us))
  unfolding argument named same_sign
  with-two-stars-of p d = alt-second (act-none (seq-first (act-none (seq-first (miss refl))))) (alt-second (act-none (act-none (seq-first (miss refl)))) (alt-first (act-some {x = x} (act-some {x = (tt, x)} (seq-some (hit refl) d)))))

pub next-arguments : Commas sorts.argument next_argument argument
unfolding next_argument
next-arguments = commas sorts.argument argument

pub none-given-of : (p : Position) (us : List ValuedToken) → Reads rule _ optional_arguments (mark p s.RightParen ∷ us) (Some ([], mark p s.RightParen ∷ us))
unfolding optional_arguments ordered_arguments list_of_arguments argument named same_sign
none-given-of p us = alt-second (act-none (seq-first (when-none (fold-none (act-none (alt-second (act-none (seq-first (act-none (seq-first (miss refl))))) (alt-second (act-none (act-none (seq-first (miss refl))))
    (alt-second (act-none (act-none (seq-first (miss refl)))) (act-none (test-none p (word.Punctuator s.RightParen) us closing.paren')))))))))) (act-some {x = tt} free)

pub given-of : {ts vs us : List ValuedToken} {y : Argument} {ys : List Argument} (p : Position) → arguments_in_order ys ≡ true → Reads rule _ argument ts (Some (y, vs)) → Listed sorts.argument next_argument (y ∷ []) vs ys (mark p s.RightParen ∷ us)
    → Reads rule _ optional_arguments ts (Some (ys, mark p s.RightParen ∷ us))
unfolding optional_arguments ordered_arguments list_of_arguments same_sign
given-of {y = y} {ys = ys} p is d f = alt-first (act-some {x = (ys, None)} (seq-some (when-some {x = ys} (kept arguments_in_order ys is) (fold-some (act-some {x = y} d) f)) (alt-second (act-none (miss refl)) (act-some {x = tt} free))))

pub call-of : {ts vs us : List ValuedToken} {x : Expression} {ys : List Argument} (p q : Position) → Reads rule _ operand ts (Some (x, mark p s.LeftParen ∷ vs)) → Reads rule _ optional_arguments vs (Some (ys, mark q s.RightParen ∷ us)) → Reads rule _ suffix us None
    → Reads rule _ primary ts (Some (e.Call x ys, us))
unfolding primary suffix attribute call same_sign
call-of {ys = ys} p q d f n = fold-some d (more {y = suffixes.Call ys} (alt-second (act-none (act-none (seq-first (miss refl)))) (alt-first (act-some {x = ys} (act-some {x = (tt, ys)} (seq-some (hit refl) (act-some {x = (ys, tt)} (seq-some f (hit refl)))))))) (stop n))

-- ---- slices

pub put-of : {ts us : List ValuedToken} {x : Expression} → Reads rule _ (nonterminal (level levels.Test)) ts (Some (x, us)) → Reads rule _ (opt a_test) ts (Some (Some x, us))
put-of {x = x} d = alt-first (act-some {x = x} d)

pub left-out-of : {us : List ValuedToken} → Reads rule _ (nonterminal (level levels.Test)) us None → Reads rule _ (opt a_test) us (Some (None, us))
left-out-of n = alt-second (act-none n) (act-some {x = tt} free)

pub stop-and-stride-of : {ts us vs : List ValuedToken} {b c : Option Expression} (p q : Position) → Reads rule _ (opt a_test) ts (Some (b, mark q s.Colon ∷ vs)) → Reads rule _ (opt a_test) vs (Some (c, us)) → Reads rule _ stop_and_stride (mark p s.Colon ∷ ts) (Some ((b, c), us))
unfolding stop_and_stride stride same_sign
stop-and-stride-of {b = b} {c = c} p q d f = act-some {x = (tt, (b, c))} (seq-some (hit refl) (seq-some d (alt-first (act-some {x = (tt, c)} (seq-some (hit refl) f)))))

pub from-start : {ts us vs : List ValuedToken} {x : Expression} {b c : Option Expression} → Reads rule _ (nonterminal (level levels.Test)) ts (Some (x, vs)) → Reads rule _ stop_and_stride vs (Some ((b, c), us)) → Reads rule _ in_brackets ts (Some (suffixes.Slice (Some x) b c, us))
unfolding in_brackets from_test after_start
from-start {x = x} {b = b} {c = c} d f = alt-first (act-some {x = (x, (Some (b, c), []))} (seq-some d (alt-first (act-some {x = (b, c)} f))))

pub from-nothing : {ts us : List ValuedToken} {b c : Option Expression} → Reads rule _ (nonterminal (level levels.Test)) ts None → Reads rule _ stop_and_stride ts (Some ((b, c), us)) → Reads rule _ in_brackets ts (Some (suffixes.Slice None b c, us))
unfolding in_brackets from_test
from-nothing {b = b} {c = c} n f = alt-second (act-none (seq-first n)) (act-some {x = (b, c)} f)

pub slice-of : {ts vs us : List ValuedToken} {x : Expression} {a b c : Option Expression} (p q : Position) → Reads rule _ operand ts (Some (x, mark p s.LeftBracket ∷ vs)) → Reads rule _ in_brackets vs (Some (suffixes.Slice a b c, mark q s.RightBracket ∷ us)) → Reads rule _ suffix us None
    → Reads rule _ primary ts (Some (e.Slice x a b c, us))
unfolding primary suffix attribute call subscript same_sign
slice-of {a = a} {b = b} {c = c} p q d f n = fold-some d (more {y = suffixes.Slice a b c} (alt-second (act-none (act-none (seq-first (miss refl)))) (alt-second (act-none (act-none (seq-first (miss refl))))
    (act-some {x = (tt, suffixes.Slice a b c)} (seq-some (hit refl) (act-some {x = (suffixes.Slice a b c, tt)} (seq-some f (hit refl))))))) (stop n))

-- ---- lambda

-- neither a default nor a name continues a parameter
pub record Closed (ts : List ValuedToken) : Type 0 where
  pub default' : Reads rule _ default ts None
  pub name' : Reads rule _ name ts None

pub closed-comma : (p : Position) (ts : List ValuedToken) → Closed (mark p s.Comma ∷ ts)
unfolding default same_sign
closed-comma p ts = record { default' = act-none (seq-first (miss refl)); name' = miss refl }

pub closed-colon : (p : Position) (ts : List ValuedToken) → Closed (mark p s.Colon ∷ ts)
unfolding default same_sign
closed-colon p ts = record { default' = act-none (seq-first (miss refl)); name' = miss refl }

pub plain-of : (x : Name) {us : List ValuedToken} → Closed us → Reads rule _ parameter (called x ∷ us) (Some (parameters.Plain x, us))
unfolding parameter named_parameter
plain-of x n = alt-first (act-some {x = (x, None)} (seq-some (hit refl) (alt-second (act-none n.default') (act-some {x = tt} free))))

pub default-of : (p : Position) (x : Name) {y : Expression} {ts us : List ValuedToken} → Reads rule _ (nonterminal (level levels.Test)) ts (Some (y, us)) → Reads rule _ parameter (called x ∷ mark p s.Assign ∷ ts) (Some (parameters.Default x y, us))
unfolding parameter named_parameter default same_sign
default-of p x {y = y} d = alt-first (act-some {x = (x, Some y)} (seq-some (hit refl) (alt-first (act-some {x = y} (act-some {x = (tt, y)} (seq-some (hit refl) d))))))

pub starred-of : (p : Position) (x : Name) (us : List ValuedToken) → Reads rule _ parameter (mark p s.Star ∷ called x ∷ us) (Some (parameters.Star x, us))
unfolding parameter named_parameter star same_sign
starred-of p x us = alt-second (act-none (seq-first (miss refl))) (alt-first (act-some {x = Some x} (act-some {x = (tt, Some x)} (seq-some (hit refl) (alt-first (act-some {x = x} (hit refl)))))))

pub bare-star-of : (p : Position) {us : List ValuedToken} → Closed us → Reads rule _ parameter (mark p s.Star ∷ us) (Some (parameters.BareStar, us))
unfolding parameter named_parameter star same_sign
bare-star-of p n = alt-second (act-none (seq-first (miss refl))) (alt-first (act-some {x = None} (act-some {x = (tt, None)} (seq-some (hit refl) (alt-second (act-none n.name') (act-some {x = tt} free))))))

pub twice-starred-of : (p : Position) (x : Name) (us : List ValuedToken) → Reads rule _ parameter (mark p s.StarStar ∷ called x ∷ us) (Some (parameters.StarStar x, us))
unfolding parameter named_parameter star star_star same_sign
twice-starred-of p x us = alt-second (act-none (seq-first (miss refl))) (alt-second (act-none (act-none (seq-first (miss refl)))) (act-some {x = x} (act-some {x = (tt, x)} (seq-some (hit refl) (hit refl)))))

pub next-parameters : Commas sorts.parameter next_parameter parameter
unfolding next_parameter
next-parameters = commas sorts.parameter parameter

pub none-taken-of : (p : Position) (us : List ValuedToken) → Reads rule _ lambda_parameters (mark p s.Colon ∷ us) (Some ([], mark p s.Colon ∷ us))
unfolding lambda_parameters ordered_parameters list_of_parameters parameter named_parameter star star_star same_sign
none-taken-of p us = alt-second (when-none (fold-none (act-none (alt-second (act-none (seq-first (miss refl))) (alt-second (act-none (act-none (seq-first (miss refl)))) (act-none (act-none (seq-first (miss refl))))))))) (act-some {x = tt} free)

pub taken-of : {ts vs us : List ValuedToken} {y : Parameter} {ys : List Parameter} → parameters_in_order ys ≡ true → Reads rule _ parameter ts (Some (y, vs)) → Listed sorts.parameter next_parameter (y ∷ []) vs ys us → Reads rule _ lambda_parameters ts (Some (ys, us))
unfolding lambda_parameters ordered_parameters list_of_parameters
taken-of {y = y} {ys = ys} is d f = alt-first (when-some {x = ys} (kept parameters_in_order ys is) (fold-some (act-some {x = y} d) f))

pub lambda-of : {ts vs us : List ValuedToken} {x : Expression} {ys : List Parameter} (p q : Position) → Reads rule _ lambda_parameters ts (Some (ys, mark q s.Colon ∷ vs)) → Reads rule _ (nonterminal (level levels.Test)) vs (Some (x, us))
    → Reads rule _ (nonterminal (level levels.Test)) (spelt p k.Lambda ∷ ts) (Some (e.Lambda p ys x, us))
unfolding any_test lambda same_sign same_keyword
lambda-of {x = x} {ys = ys} p q d f = itself {r = level levels.Test} (alt-first (act-some {x = (p, (ys, x))} (seq-some (hit refl) (seq-some d (act-some {x = (tt, x)} (seq-some (hit refl) f))))))

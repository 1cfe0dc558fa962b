-- The reading of each form of expression, from the readings of its parts.
use Rattle.std.proofs.Common.{◌≡◌, ℕ, List, [], ◌∷◌, Some, None, refl}
use Rattle.star_lex.specs.declared.token.Punctuator.{Punctuator}
use Rattle.star_lex.specs.declared.token.Punctuator.TheVariants as s
use Rattle.star_lex.specs.declared.token.Keyword.{Keyword}
use Rattle.star_lex.specs.declared.token.Keyword.TheVariants as k
use Rattle.star_syntax.specs.declared.leaf.TokenValue.{TokenValue}
use Rattle.star_syntax.specs.declared.leaf.TokenValue.TheVariants as word
use Rattle.star_syntax.specs.declared.leaf.ValuedToken.{ValuedToken}
use Rattle.star_syntax.specs.declared.level.Level.TheVariants as levels
use Rattle.star_syntax.specs.declared.level.Suffix.TheVariants as suffixes
use Rattle.star_tree.specs.declared.tree.Position.{Position}
use Rattle.star_tree.specs.declared.tree.Name.{Name}
use Rattle.star_tree.specs.declared.tree.UnaryOperator.{UnaryOperator}
use Rattle.star_tree.specs.declared.tree.UnaryOperator.TheVariants as unaries
use Rattle.star_tree.specs.declared.tree.BinaryOperator.{BinaryOperator}
use Rattle.star_tree.specs.declared.tree.Comparator.{Comparator}
use Rattle.star_tree.specs.declared.tree.Comparator.TheVariants as comparators
use Rattle.star_tree.specs.declared.tree.Expression.{Expression}
use Rattle.star_tree.specs.declared.tree.Expression.TheVariants as e
use Rattle.star_syntax.specs.Sorts.{Sort, Val}
use Rattle.star_syntax.specs.Sorts as sorts
use Rattle.star_syntax.specs.Grammar.{level, Part, nonterminal, Reads, hit, miss, free, seq-some, seq-first, seq-second, alt-first, alt-second, fold-none, fold-some, act-none, act-some, itself, Rounds, stop, more}
use Rattle.star_syntax.specs.Expressions.{same_sign, same_keyword, is_sign, is_keyword, binary_operator, snoc, after, sign_, a_test, next_test, list_of_tests, for_clause, all_clauses, inside, parentheses, further_tests, after_element, elements, list_display, atom, operand, attribute, call, stop_and_stride, after_start, from_test, in_brackets, subscript, suffix, primary, sign_operand, unary, bit_or, comparator, compared, comparison, not_operand, negation, next_negation, conjunction, next_conjunction, disjunction, choice, conditional}
use Rattle.star_syntax.specs.Language.{rule}
use Rattle.star_syntax.specs.Written.{mark, spelt, called, IsUnary, positive, negative, inverted, IsBinary, times, divided, modulo, plus, minus, to-left, to-right, bits-and, bits-xor, bits-or, IsComparator, equal, unequal, less, greater, at-most, at-least, contained}
use Rattle.star_syntax.proofs.Quiet.{BeginsNone, suffix-none, test-none}

-- ---- words between parts

pub after_binary : (p : Position) (sign : Punctuator) {operator : BinaryOperator} (ts : List ValuedToken) → IsBinary sign operator → Reads rule _ suffix (mark p sign ∷ ts) None
unfolding same_sign
after_binary p sign ts times = suffix-none (record { dot = refl; paren = refl; bracket = refl })
after_binary p sign ts divided = suffix-none (record { dot = refl; paren = refl; bracket = refl })
after_binary p sign ts modulo = suffix-none (record { dot = refl; paren = refl; bracket = refl })
after_binary p sign ts plus = suffix-none (record { dot = refl; paren = refl; bracket = refl })
after_binary p sign ts minus = suffix-none (record { dot = refl; paren = refl; bracket = refl })
after_binary p sign ts to-left = suffix-none (record { dot = refl; paren = refl; bracket = refl })
after_binary p sign ts to-right = suffix-none (record { dot = refl; paren = refl; bracket = refl })
after_binary p sign ts bits-and = suffix-none (record { dot = refl; paren = refl; bracket = refl })
after_binary p sign ts bits-xor = suffix-none (record { dot = refl; paren = refl; bracket = refl })
after_binary p sign ts bits-or = suffix-none (record { dot = refl; paren = refl; bracket = refl })

-- the word of a comparison, which continues no operand
pub record Comparing (p : Position) (w : TokenValue) (c : Comparator) (ts : List ValuedToken) : Type 0 where
  pub suffix' : Reads rule _ suffix (record { word = w; position = p } ∷ ts) None
  pub sign' : (i : ℕ) → Reads rule _ (binary_operator i) (record { word = w; position = p } ∷ ts) None
  pub compares' : Reads rule _ comparator (record { word = w; position = p } ∷ ts) (Some (c, ts))

pub comparing : (p : Position) (w : TokenValue) (c : Comparator) (ts : List ValuedToken) → IsComparator w c → Comparing p w c ts
unfolding same_sign comparator
comparing p w c ts equal = record { suffix' = suffix-none (record { dot = refl; paren = refl; bracket = refl }); sign' = λ i. miss refl; compares' = alt-first (hit refl) }
comparing p w c ts unequal = record { suffix' = suffix-none (record { dot = refl; paren = refl; bracket = refl }); sign' = λ i. miss refl; compares' = alt-first (hit refl) }
comparing p w c ts less = record { suffix' = suffix-none (record { dot = refl; paren = refl; bracket = refl }); sign' = λ i. miss refl; compares' = alt-first (hit refl) }
comparing p w c ts greater = record { suffix' = suffix-none (record { dot = refl; paren = refl; bracket = refl }); sign' = λ i. miss refl; compares' = alt-first (hit refl) }
comparing p w c ts at-most = record { suffix' = suffix-none (record { dot = refl; paren = refl; bracket = refl }); sign' = λ i. miss refl; compares' = alt-first (hit refl) }
comparing p w c ts at-least = record { suffix' = suffix-none (record { dot = refl; paren = refl; bracket = refl }); sign' = λ i. miss refl; compares' = alt-first (hit refl) }
comparing p w c ts contained = record { suffix' = suffix-none (record { dot = refl; paren = refl; bracket = refl }); sign' = λ i. miss refl; compares' = alt-first (hit refl) }

pub not_in : (p q : Position) (ts : List ValuedToken) → Reads rule _ comparator (spelt p k.Not ∷ spelt q k.In ∷ ts) (Some (comparators.NotIn, ts))
unfolding comparator same_keyword
not_in p q ts = alt-second (miss refl) (act-some {x = (tt, tt)} (seq-some (hit refl) (hit refl)))

pub after_keyword : (p : Position) (keyword : Keyword) (ts : List ValuedToken) → Reads rule _ suffix (spelt p keyword ∷ ts) None
after_keyword p keyword ts = suffix-none (record { dot = refl; paren = refl; bracket = refl })

pub no_sign : (p : Position) (keyword : Keyword) (ts : List ValuedToken) (i : ℕ) → Reads rule _ (binary_operator i) (spelt p keyword ∷ ts) None
no_sign p keyword ts i = miss refl

-- ---- forms

module _ {ts vs us : List ValuedToken} {x y : Expression} where
  pub compared-of : (c : Comparator) {ws : List ValuedToken} → Reads rule _ bit_or ts (Some (x, vs)) → Reads rule _ comparator vs (Some (c, ws)) → Reads rule _ bit_or ws (Some (y, us)) → Reads rule _ comparison ts (Some (e.Compare c x y, us))
  unfolding comparison compared
  compared-of c d f g = act-some {x = (x, Some (c, y))} (seq-some d (alt-first (act-some (seq-some f g))))

  pub and-of : (p : Position) → Reads rule _ negation ts (Some (x, spelt p k.And ∷ vs)) → Reads rule _ negation vs (Some (y, us)) → Reads rule _ next_negation us None → Reads rule _ conjunction ts (Some (e.And x y, us))
  unfolding conjunction next_negation same_keyword
  and-of p d f n = fold-some d (more {y = y} (act-some {x = (tt, y)} (seq-some (hit refl) f)) (stop n))

  pub or-of : (p : Position) → Reads rule _ conjunction ts (Some (x, spelt p k.Or ∷ vs)) → Reads rule _ conjunction vs (Some (y, us)) → Reads rule _ next_conjunction us None → Reads rule _ disjunction ts (Some (e.Or x y, us))
  unfolding disjunction next_conjunction same_keyword
  or-of p d f n = fold-some d (more {y = y} (act-some {x = (tt, y)} (seq-some (hit refl) f)) (stop n))

  pub choice-of : (p q : Position) {ws : List ValuedToken} {z : Expression} → Reads rule _ disjunction ts (Some (x, spelt p k.If ∷ vs)) → Reads rule _ disjunction vs (Some (y, spelt q k.Else ∷ ws)) → Reads rule _ (nonterminal (level levels.Test)) ws (Some (z, us))
      → Reads rule _ conditional ts (Some (e.Conditional y x z, us))
  unfolding conditional choice same_keyword
  choice-of p q {ws = ws} {z = z} d f g = act-some {x = (x, Some (y, z))} (seq-some d (alt-first (act-some (act-some {x = (tt, (y, z))} (seq-some (hit refl) (seq-some f (act-some {x = (tt, z)} (seq-some (hit refl) g))))))))

  pub index-of : (p q : Position) → Reads rule _ operand ts (Some (x, mark p s.LeftBracket ∷ vs)) → Reads rule _ (nonterminal (level levels.Test)) vs (Some (y, mark q s.RightBracket ∷ us)) → Reads rule _ suffix us None
      → Reads rule _ primary ts (Some (e.Index x y, us))
  unfolding primary suffix attribute call subscript in_brackets from_test after_start stop_and_stride further_tests next_test same_sign
  index-of p q d f n = fold-some d (more {y = suffixes.Index y}
      (alt-second (act-none (act-none (seq-first (miss refl)))) (alt-second (act-none (act-none (seq-first (miss refl))))
      (act-some {x = (tt, suffixes.Index y)} (seq-some (hit refl) (act-some {x = (suffixes.Index y, tt)} (seq-some
      (alt-first (act-some {x = (y, (None, []))} (seq-some f (alt-second (act-none (act-none (seq-first (miss refl)))) (act-some {x = []} (fold-some (act-some {x = tt} free) (stop (act-none (seq-first (miss refl)))))))))) (hit refl)))))))
      (stop n))

module _ {ts us : List ValuedToken} {x : Expression} where
  pub sign-of : (p : Position) (sign : Punctuator) (operator : UnaryOperator) → IsUnary sign operator → Reads rule _ unary ts (Some (x, us)) → Reads rule _ unary (mark p sign ∷ ts) (Some (e.Unary operator x, us))
  unfolding unary sign_operand
  sign-of p sign operator positive d = alt-first (act-some {x = (unaries.Plus, x)} (seq-some (hit refl) (itself {r = level levels.Unary} d)))
  sign-of p sign operator negative d = alt-first (act-some {x = (unaries.Minus, x)} (seq-some (hit refl) (itself {r = level levels.Unary} d)))
  sign-of p sign operator inverted d = alt-first (act-some {x = (unaries.Invert, x)} (seq-some (hit refl) (itself {r = level levels.Unary} d)))

  pub denial-of : (p : Position) → Reads rule _ negation ts (Some (x, us)) → Reads rule _ negation (spelt p k.Not ∷ ts) (Some (e.Unary unaries.Not x, us))
  unfolding negation not_operand same_keyword
  denial-of p d = alt-first (act-some {x = x} (act-some {x = (tt, x)} (seq-some (hit refl) (itself {r = level levels.Negation} d))))

  pub attribute-of : (p : Position) (name : Name) → Reads rule _ operand ts (Some (x, mark p s.Dot ∷ called name ∷ us)) → Reads rule _ suffix us None → Reads rule _ primary ts (Some (e.Attribute x name, us))
  unfolding primary suffix attribute same_sign
  attribute-of p name d n = fold-some d (more {y = suffixes.Attribute name} (alt-first (act-some {x = name} (act-some {x = (tt, name)} (seq-some (hit refl) (hit refl))))) (stop n))

  -- (x)
  pub enclosed-of : (p q : Position) → Reads rule _ (nonterminal (level levels.Test)) ts (Some (x, mark q s.RightParen ∷ us)) → Reads rule _ operand (mark p s.LeftParen ∷ ts) (Some (x, us))
  unfolding operand atom parentheses inside list_of_tests next_test same_sign
  enclosed-of p q d = alt-second (miss refl) (alt-first (act-some {x = (tt, x)} (seq-some (hit refl) (act-some {x = Some (x ∷ [], None)} (act-some {x = (Some (x ∷ [], None), tt)} (seq-some
      (alt-first (act-some {x = (x ∷ [], None)} (seq-some (fold-some (act-some {x = x} d) (stop (act-none (seq-first (miss refl))))) (alt-second (act-none (miss refl)) (act-some {x = tt} free))))) (hit refl)))))))

-- ---- displays

-- nothing begins with a closing sign or a colon
pub record ClosingSigns : Type 0 where
  pub paren' : BeginsNone (word.Punctuator s.RightParen)
  pub bracket' : BeginsNone (word.Punctuator s.RightBracket)
  pub brace' : BeginsNone (word.Punctuator s.RightBrace)
  pub colon' : BeginsNone (word.Punctuator s.Colon)

pub closing : ClosingSigns
unfolding same_sign same_keyword
closing = record {
  paren' = record { lambda' = refl; denial = refl; sign = refl; atom' = λ p. refl; paren = refl; bracket = refl; brace = refl };
  bracket' = record { lambda' = refl; denial = refl; sign = refl; atom' = λ p. refl; paren = refl; bracket = refl; brace = refl };
  brace' = record { lambda' = refl; denial = refl; sign = refl; atom' = λ p. refl; paren = refl; bracket = refl; brace = refl };
  colon' = record { lambda' = refl; denial = refl; sign = refl; atom' = λ p. refl; paren = refl; bracket = refl; brace = refl };
}

-- a further part is one after a comma
pub record Commas (a : Sort) (further h : Part a) : Type 0 where
  pub next' : (ts us : List ValuedToken) (y : Val a) (p : Position) → Reads rule _ h ts (Some (y, us)) → Reads rule _ further (mark p s.Comma ∷ ts) (Some (y, us))
  pub none' : (p : Position) (w : TokenValue) (ts : List ValuedToken) → is_sign s.Comma w ≡ None → Reads rule _ further (record { word = w; position = p } ∷ ts) None

pub commas : (a : Sort) (h : Part a) → Commas a (after (sign_ s.Comma) h) h
unfolding same_sign
commas a h = record { next' = λ ts us y p d. act-some {x = (tt, y)} (seq-some (hit refl) d); none' = λ p w ts n. act-none (seq-first (miss n)) }

pub next-tests : Commas sorts.expression next_test a_test
unfolding next_test
next-tests = commas sorts.expression a_test

pub last-comma : (p q : Position) (ts : List ValuedToken) → Reads rule _ next_test (mark p s.Comma ∷ mark q s.RightParen ∷ ts) None
unfolding next_test same_sign
last-comma p q ts = act-none (seq-second {x = tt} (hit refl) (test-none q (word.Punctuator s.RightParen) ts closing.paren'))

pub no-clauses : (p : Position) (w : TokenValue) (ts : List ValuedToken) → is_keyword k.For w ≡ None → Reads rule _ all_clauses (record { word = w; position = p } ∷ ts) None
unfolding all_clauses for_clause
no-clauses p w ts n = act-none (seq-first (act-none (seq-first (miss n))))

abbrev pub Tests : List Expression → List ValuedToken → List Expression → List ValuedToken → Type 0
Tests found ts all us = Rounds rule (sorts.list sorts.expression) sorts.expression snoc next_test found ts (all, us)

pub empty-tuple-of : (p q : Position) (us : List ValuedToken) → Reads rule _ operand (mark p s.LeftParen ∷ mark q s.RightParen ∷ us) (Some (e.Tuple [], us))
unfolding operand atom parentheses inside list_of_tests same_sign
empty-tuple-of p q us = alt-second (miss refl) (alt-first (act-some {x = (tt, e.Tuple [])} (seq-some (hit refl) (act-some {x = None} (act-some {x = (None, tt)} (seq-some
    (alt-second (act-none (seq-first (fold-none (act-none (test-none q (word.Punctuator s.RightParen) us closing.paren'))))) (act-some {x = tt} free)) (hit refl)))))))

pub tuple-of : {ts vs us : List ValuedToken} {x : Expression} {xs : List Expression} (p q r : Position) → Reads rule _ (nonterminal (level levels.Test)) ts (Some (x, vs)) → Tests (x ∷ []) vs xs (mark q s.Comma ∷ mark r s.RightParen ∷ us)
    → Reads rule _ operand (mark p s.LeftParen ∷ ts) (Some (e.Tuple xs, us))
unfolding operand atom parentheses inside list_of_tests same_sign
tuple-of {x = x} {xs = xs} p q r d f = alt-second (miss refl) (alt-first (act-some {x = (tt, e.Tuple xs)} (seq-some (hit refl) (act-some {x = Some (xs, Some tt)} (act-some {x = (Some (xs, Some tt), tt)} (seq-some
    (alt-first (act-some {x = (xs, Some tt)} (seq-some (fold-some (act-some {x = x} d) f) (alt-first (act-some {x = tt} (hit refl)))))) (hit refl)))))))

pub empty-list-of : (p q : Position) (us : List ValuedToken) → Reads rule _ operand (mark p s.LeftBracket ∷ mark q s.RightBracket ∷ us) (Some (e.List [], us))
unfolding operand atom parentheses list_display elements same_sign
empty-list-of p q us = alt-second (miss refl) (alt-second (act-none (seq-first (miss refl))) (alt-first (act-some {x = (p, None)} (seq-some (hit refl) (act-some {x = (None, tt)} (seq-some
    (alt-second (act-none (seq-first (test-none q (word.Punctuator s.RightBracket) us closing.bracket'))) (act-some {x = tt} free)) (hit refl)))))))

pub list-of : {ts vs us : List ValuedToken} {x : Expression} {xs : List Expression} (p q : Position) → Reads rule _ (nonterminal (level levels.Test)) ts (Some (x, vs)) → Reads rule _ all_clauses vs None → Tests [] vs xs (mark q s.RightBracket ∷ us)
    → Reads rule _ operand (mark p s.LeftBracket ∷ ts) (Some (e.List (x ∷ xs), us))
unfolding operand atom parentheses list_display elements after_element further_tests same_sign
list-of {x = x} {xs = xs} p q d n f = alt-second (miss refl) (alt-second (act-none (seq-first (miss refl))) (alt-first (act-some {x = (p, Some (x, (None, xs)))} (seq-some (hit refl) (act-some {x = (Some (x, (None, xs)), tt)} (seq-some
    (alt-first (act-some {x = (x, (None, xs))} (seq-some d (alt-second (act-none n) (act-some {x = xs} (act-some {x = (xs, None)} (seq-some (fold-some (act-some {x = tt} free) f) (alt-second (act-none (miss refl)) (act-some {x = tt} free))))))))) (hit refl)))))))

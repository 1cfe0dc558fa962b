-- An expression written with a parenthesis round each part reads back as itself.
use Rattle.std.proofs.Common.{◌≡◌, ℕ, true, List, [], ◌∷◌, ◌++◌, Option, Some, None, refl, subst, sym, append-nil, append_assoc}
use Rattle.star_lex.specs.declared.token.Punctuator.{Punctuator}
use Rattle.star_lex.specs.declared.token.Punctuator.TheVariants as s
use Rattle.star_lex.specs.declared.token.Keyword.TheVariants as k
use Rattle.star_syntax.specs.declared.leaf.TokenValue.TheVariants as word
use Rattle.star_syntax.specs.declared.leaf.ValuedToken.{ValuedToken}
use Rattle.star_syntax.specs.declared.level.Level.TheVariants as levels
use Rattle.star_tree.specs.declared.tree.Position.{Position}
use Rattle.star_tree.specs.declared.tree.Expression.{Expression}
use Rattle.star_tree.specs.declared.tree.Entry.{Entry}
use Rattle.star_tree.specs.declared.tree.Argument.{Argument}
use Rattle.star_tree.specs.declared.tree.Parameter.{Parameter}
use Rattle.star_tree.specs.declared.tree.Target.{Target}
use Rattle.star_tree.specs.declared.tree.Clauses.{Clauses}
use Rattle.star_tree.specs.declared.tree.Clause.{Clause}
use Rattle.star_syntax.specs.declared.level.Suffix.TheVariants as suffixes
use Rattle.star_syntax.specs.Sorts as sorts
use Rattle.star_syntax.specs.Grammar.{level, nonterminal, Reads, hit, miss, seq-first, act-none, alt-first, stop, more}
use Rattle.star_syntax.specs.Keeps.{arguments_in_order, parameters_in_order}
use Rattle.star_syntax.specs.Expressions.{next_test, atom, operand, suffix, unary, binary_operator, bit_or, comparator, next_negation, negation, conjunction, next_conjunction, disjunction, same_sign, same_keyword, all_clauses, not_operand, lambda, opt, a_test, entry, next_entry as following_entry, argument, next_argument as following_argument, optional_arguments as arguments_given, parameter, next_parameter as following_parameter, lambda_parameters, for_clause, next_clause as following_clause, stop_and_stride, in_brackets}
use Rattle.star_syntax.specs.Language.{rule}
use Rattle.star_syntax.specs.Written.{mark, spelt, right-paren, right-bracket, right-brace, comma, colon, for', before, Written, a-name, an-int, a-text, a-sign, a-denial, a-binary, a-comparison, an-absence, an-and, an-or, a-conditional, an-attribute, an-index, an-empty-tuple, a-tuple, an-empty-list, a-list, an-empty-dict, a-dict, a-list-comprehension, a-dict-comprehension, a-call, a-slice, a-lambda, Enclosed, enclosed, Further, no-further, one-further, Optional, left-out, put, OneEntry, an-entry, FurtherEntries, no-entry, next-entry, OneArgument, positional, by-name, with-star, with-two-stars, FurtherArguments, no-argument, next-argument, Arguments, none-given, some-given, OneParameter, plain, default, starred, bare-star, twice-starred, FurtherParameters, no-parameter, next-parameter, Parameters, none-taken, some-taken, ForPart, for-each, OneClause, each, only-if, FurtherClauses, no-clause, next-clause, AllClauses, clauses-from, ReadsBack}
use Rattle.star_syntax.proofs.Quiet.{Quiet, quiet, comparator-none, and-none, or-none, test-none}
use Rattle.star_syntax.proofs.Levels.{Front, front, in_front, primary-of, unary-of, bit-or-of, comparison-of, negation-of, conjunction-of, disjunction-of, test-of, from-disjunction, from-negation, from-comparison, from-bit-or, from-unary, from-primary, from-operand, binary-of}
use Rattle.star_syntax.proofs.Forms.{after_binary, comparing, not_in, after_keyword, no_sign, compared-of, and-of, or-of, choice-of, index-of, sign-of, denial-of, attribute-of, enclosed-of, closing, next-tests, last-comma, no-clauses, Tests, empty-tuple-of, tuple-of, empty-list-of, list-of}
use Rattle.star_syntax.proofs.Lists.{Listed, last-listed, one-listed, entry-of, next-entries, empty-dict-of, dict-of, list-comprehension-of, dict-comprehension-of, for-of, each-of, only-if-of, no-next-clause, clauses-of, Unnamed, unnamed, positional-of, by-name-of, with-star-of, with-two-stars-of, next-arguments, none-given-of, given-of, call-of, put-of, left-out-of, stop-and-stride-of, from-start, from-nothing, slice-of, Closed, closed-comma, closed-colon, plain-of, default-of, starred-of, bare-star-of, twice-starred-of, next-parameters, none-taken-of, taken-of, lambda-of}

before-comma : (p : Position) (ts : List ValuedToken) → Quiet (mark p s.Comma ∷ ts)
before-comma p ts = quiet (mark p s.Comma ∷ ts) (before comma)

before-paren : (p : Position) (ts : List ValuedToken) → Quiet (mark p s.RightParen ∷ ts)
before-paren p ts = quiet (mark p s.RightParen ∷ ts) (before right-paren)

before-bracket : (p : Position) (ts : List ValuedToken) → Quiet (mark p s.RightBracket ∷ ts)
before-bracket p ts = quiet (mark p s.RightBracket ∷ ts) (before right-bracket)

front-of : {x : Expression} {ts us : List ValuedToken} → Enclosed x ts us → Front ts
front-of (enclosed {p = p} {ts = ts} w) = in_front p ts

-- the word after an element is quiet, if the word after all of them is
-- so the leaves from the first comma on are such as each comma begins
further-front : {xs : List Expression} {ts us : List ValuedToken} (P : List ValuedToken → Type 0) → ((p : Position) (ts : List ValuedToken) → P (mark p s.Comma ∷ ts)) → Further xs ts us → P us → P ts
further-front P at-comma no-further n = n
further-front P at-comma (one-further {p = p} {ts = ts} e f) n = at-comma p ts

abbrev NoClauses : List ValuedToken → Type 0
NoClauses ts = Reads rule _ all_clauses ts None

clauses-comma : (p : Position) (ts : List ValuedToken) → NoClauses (mark p s.Comma ∷ ts)
clauses-comma p ts = no-clauses p (word.Punctuator s.Comma) ts refl

module _ {x : Expression} {ts us : List ValuedToken} (f : Front ts) (d : Reads rule _ operand ts (Some (x, us))) (n : Reads rule _ suffix us None) where
  unary-at : Reads rule _ unary ts (Some (x, us))
  unary-at = unary-of f (primary-of d n)

  module _ (o : (i : ℕ) → Reads rule _ (binary_operator i) us None) where
    bit-or-at : Reads rule _ bit_or ts (Some (x, us))
    bit-or-at = bit-or-of unary-at o

    module _ (c : Reads rule _ comparator us None) where
      negation-at : Reads rule _ negation ts (Some (x, us))
      negation-at = negation-of f.undenied (comparison-of bit-or-at c)

      module _ (a : Reads rule _ next_negation us None) where
        conjunction-at : Reads rule _ conjunction ts (Some (x, us))
        conjunction-at = conjunction-of negation-at a

        disjunction-at : Reads rule _ next_conjunction us None → Reads rule _ disjunction ts (Some (x, us))
        disjunction-at b = disjunction-of conjunction-at b

-- words that do not continue the part before a clause or a bracket
record QuietPart (ts : List ValuedToken) : Type 0 where
  suffix' : Reads rule _ suffix ts None
  binary' : (n : ℕ) → Reads rule _ (binary_operator n) ts None
  comparator' : Reads rule _ comparator ts None
  and' : Reads rule _ next_negation ts None
  or' : Reads rule _ next_conjunction ts None

quiet-part : {ts : List ValuedToken} → Quiet ts → QuietPart ts
quiet-part q = record { suffix' = q.suffix'; binary' = q.binary'; comparator' = q.comparator'; and' = q.and'; or' = q.or' }

before-for : (p : Position) (ts : List ValuedToken) → Quiet (spelt p k.For ∷ ts)
before-for p ts = quiet (spelt p k.For ∷ ts) (before for')

before-colon : (p : Position) (ts : List ValuedToken) → Quiet (mark p s.Colon ∷ ts)
before-colon p ts = quiet (mark p s.Colon ∷ ts) (before colon)

before-brace : (p : Position) (ts : List ValuedToken) → Quiet (mark p s.RightBrace ∷ ts)
before-brace p ts = quiet (mark p s.RightBrace ∷ ts) (before right-brace)

before-if : (p : Position) (ts : List ValuedToken) → QuietPart (spelt p k.If ∷ ts)
unfolding same_keyword
before-if p ts = record { suffix' = after_keyword p k.If ts; binary' = no_sign p k.If ts; comparator' = comparator-none (record { sign = refl; denial = refl }); and' = and-none refl; or' = or-none refl }

for-front : {target : Target} {y : Expression} {ts us : List ValuedToken} → ForPart target y ts us → Quiet ts
for-front (for-each {p = p} {ts = ts} is i j) = before-for p ts

all-front : {c : Clauses} {ts us : List ValuedToken} → AllClauses c ts us → Quiet ts
all-front (clauses-from f more') = for-front f

clause-front : {c : Clause} {ts us : List ValuedToken} → OneClause c ts us → QuietPart ts
clause-front (each f) = quiet-part (for-front f)
clause-front (only-if {p = p} {ts = ts} i) = before-if p ts

clauses-front : {cs : List Clause} {ts us : List ValuedToken} → FurtherClauses cs ts us → QuietPart us → QuietPart ts
clauses-front no-clause q = q
clauses-front (next-clause c cs) q = clause-front c

entries-front : {ys : List Entry} {ts us : List ValuedToken} (P : List ValuedToken → Type 0) → ((p : Position) (ts : List ValuedToken) → P (mark p s.Comma ∷ ts)) → FurtherEntries ys ts us → P us → P ts
entries-front P at-comma no-entry n = n
entries-front P at-comma (next-entry {p = p} {ts = ts} y ys) n = at-comma p ts

arguments-front : {ys : List Argument} {ts us : List ValuedToken} → FurtherArguments ys ts us → Quiet us → Quiet ts
arguments-front no-argument q = q
arguments-front (next-argument {p = p} {ts = ts} y ys) q = before-comma p ts

parameters-front : {ys : List Parameter} {ts us : List ValuedToken} → FurtherParameters ys ts us → Quiet us × Closed us → Quiet ts × Closed ts
parameters-front no-parameter q = q
parameters-front (next-parameter {p = p} {ts = ts} y ys) q = (before-comma p ts, closed-comma p ts)

unnamed-of : {x : Expression} {ts us : List ValuedToken} → Enclosed x ts us → Unnamed ts
unnamed-of (enclosed {p = p} {ts = ts} w) = unnamed p ts

front-brace : (p : Position) (ts : List ValuedToken) → Front (mark p s.LeftBrace ∷ ts)
front-brace p ts = front p (word.Punctuator s.LeftBrace) ts refl refl refl

front-not : (p : Position) (sign : Punctuator) (ts : List ValuedToken) → Reads rule _ not_operand (mark p sign ∷ ts) None × Reads rule _ lambda (mark p sign ∷ ts) None
unfolding not_operand lambda
front-not p sign ts = (act-none (act-none (seq-first (miss refl))), act-none (seq-first (miss refl)))

unbound-not : (p : Position) (ts : List ValuedToken) → Reads rule _ lambda (spelt p k.Not ∷ ts) None
unfolding lambda same_keyword
unbound-not p ts = act-none (seq-first (miss refl))

front-bracket : (p : Position) (ts : List ValuedToken) → Front (mark p s.LeftBracket ∷ ts)
front-bracket p ts = front p (word.Punctuator s.LeftBracket) ts refl refl refl

no-more-tests : (found : List Expression) (us : List ValuedToken) → Reads rule _ next_test us None → Tests found us (found ++ []) us
no-more-tests found us n =
    let P : List Expression → Type 0 = λ z. Tests found us z us in
    subst P (sym (append-nil found)) (stop n)

one-more-test : {ts vs us : List ValuedToken} (found : List Expression) (x : Expression) (xs : List Expression) (p : Position) → Reads rule _ (nonterminal (level levels.Test)) ts (Some (x, vs)) → Tests (found ++ x ∷ []) vs ((found ++ x ∷ []) ++ xs) us
    → Tests found (mark p s.Comma ∷ ts) (found ++ x ∷ xs) us
one-more-test {ts = ts} {us = us} found x xs p d f =
    let P : List Expression → Type 0 = λ z. Tests found (mark p s.Comma ∷ ts) z us in
    subst P (append_assoc found (x ∷ []) xs) (more (next-tests.next' _ _ x p d) f)

mutual
  unfolding operand atom same_sign same_keyword

  law : {x : Expression} {ts us : List ValuedToken} → Written x ts us → Quiet us → Reads rule _ (nonterminal (level levels.Test)) ts (Some (x, us))
  law (a-name {x = x} {us = us}) q = from-operand (front x.position (word.Name x.text) us refl refl refl) q (alt-first (hit refl))
  law (an-int {p = p} {value = value} {us = us}) q = from-operand (front p (word.Int value) us refl refl refl) q (alt-first (hit refl))
  law (a-text {p = p} {text = text} {us = us}) q = from-operand (front p (word.Text text) us refl refl refl) q (alt-first (hit refl))
  law (a-sign {p = p} {sign = sign} {operator = operator} {ts = ts} is i) q =
      let f = front-not p sign ts in
      from-unary f.0 f.1 q (sign-of p sign operator is (unary-at (front-of i) (part i) q.suffix'))
  law (a-denial {p = p} {ts = ts} i) q = from-negation (unbound-not p ts) q (denial-of p (negation-at (front-of i) (part i) q.suffix' q.binary' q.comparator'))
  law (a-binary {p = p} {sign = sign} {operator = operator} {vs = vs} is i j) q =
      let f = front-of i in
      from-bit-or f.undenied f.unbound q (binary-of p sign operator is (unary-at f (part i) (after_binary p sign vs is)) (unary-at (front-of j) (part j) q.suffix') q.binary')
  law (a-comparison {p = p} {w = w} {comparator = c} {vs = vs} is i j) q =
      let f = front-of i in
      let m = comparing p w c vs is in
      from-comparison f.undenied f.unbound q (compared-of c (bit-or-at f (part i) m.suffix' m.sign') m.compares' (bit-or-at (front-of j) (part j) q.suffix' q.binary'))
  law (an-absence {p = p} {q = p'} {vs = vs} i j) q =
      let f = front-of i in
      let ws : List ValuedToken = spelt p' k.In ∷ vs in
      from-comparison f.undenied f.unbound q (compared-of _ (bit-or-at f (part i) (after_keyword p k.Not ws) (no_sign p k.Not ws)) (not_in p p' vs) (bit-or-at (front-of j) (part j) q.suffix' q.binary'))
  law (an-and {p = p} {vs = vs} i j) q =
      let f = front-of i in
      from-disjunction f.unbound q (disjunction-of (and-of p (negation-at f (part i) (after_keyword p k.And vs) (no_sign p k.And vs) (comparator-none (record { sign = refl; denial = refl })))
      (negation-at (front-of j) (part j) q.suffix' q.binary' q.comparator') q.and') q.or')
  law (an-or {p = p} {vs = vs} i j) q =
      let f = front-of i in
      from-disjunction f.unbound q (or-of p (conjunction-at f (part i) (after_keyword p k.Or vs) (no_sign p k.Or vs) (comparator-none (record { sign = refl; denial = refl })) (and-none refl))
      (conjunction-at (front-of j) (part j) q.suffix' q.binary' q.comparator' q.and') q.or')
  law (a-conditional {p = p} {q = p'} {vs = vs} {ws = ws} i j l) q =
      let f = front-of i in
      test-of f.unbound (choice-of p p' (disjunction-at f (part i) (after_keyword p k.If vs) (no_sign p k.If vs) (comparator-none (record { sign = refl; denial = refl })) (and-none refl) (or-none refl))
      (disjunction-at (front-of j) (part j) (after_keyword p' k.Else ws) (no_sign p' k.Else ws) (comparator-none (record { sign = refl; denial = refl })) (and-none refl) (or-none refl))
      (from-operand (front-of l) q (part l)))
  law (an-attribute {p = p} {name = name} i) q = from-primary (front-of i) q (attribute-of p name (part i) q.suffix')
  law (an-index {p = p} {q = p'} {us = us} i j) q = from-primary (front-of i) q (index-of p p' (part i) (from-operand (front-of j) (before-bracket p' us) (part j)) q.suffix')
  law (an-empty-tuple {p = p} {q = p'} {us = us}) q = from-operand (in_front p (mark p' s.RightParen ∷ us)) q (empty-tuple-of p p' us)
  law (a-tuple {p = p} {q = p'} {r = r} {x = x} {ts = ts} {us = us} i js) q =
      let b = before-comma p' (mark r s.RightParen ∷ us) in
      from-operand (in_front p ts) q (tuple-of p p' r (from-operand (front-of i) (further-front Quiet before-comma js b) (part i)) (parts js (x ∷ []) b (last-comma p' r us)))
  law (an-empty-list {p = p} {q = p'} {us = us}) q = from-operand (front-bracket p (mark p' s.RightBracket ∷ us)) q (empty-list-of p p' us)
  law (a-list {p = p} {q = p'} {ts = ts} {us = us} i js) q =
      let b = before-bracket p' us in
      from-operand (front-bracket p ts) q (list-of p p' (from-operand (front-of i) (further-front Quiet before-comma js b) (part i)) (further-front NoClauses clauses-comma js (no-clauses p' (word.Punctuator s.RightBracket) us refl)) (parts js [] b (next-tests.none' p' (word.Punctuator s.RightBracket) us refl)))
  law (an-empty-dict {p = p} {q = p'} {us = us}) q = from-operand (front-brace p (mark p' s.RightBrace ∷ us)) q (empty-dict-of p p' us)
  law (a-dict {p = p} {q = p'} {ts = ts} {us = us} y ys) q =
      let b = before-brace p' us in
      from-operand (front-brace p ts) q (dict-of p p' (entry-law y (entries-front Quiet before-comma ys b)) (entries-front NoClauses clauses-comma ys (no-clauses p' (word.Punctuator s.RightBrace) us refl)) (entries-law ys [] b (next-entries.none' p' (word.Punctuator s.RightBrace) us refl)))
  law (a-list-comprehension {p = p} {q = p'} {ts = ts} {us = us} i c) q =
      from-operand (front-bracket p ts) q (list-comprehension-of p p' (from-operand (front-of i) (all-front c) (part i)) (all-law c (quiet-part (before-bracket p' us)) (no-next-clause p' s.RightBracket us)))
  law (a-dict-comprehension {p = p} {q = p'} {ts = ts} {us = us} y c) q =
      from-operand (front-brace p ts) q (dict-comprehension-of p p' (entry-law y (all-front c)) (all-law c (quiet-part (before-brace p' us)) (no-next-clause p' s.RightBrace us)))
  law (a-call {p = p} {q = p'} {us = us} i js is) q = from-primary (front-of i) q (call-of p p' (part i) (given-law p' us js is) q.suffix')
  law (a-slice {p = p} {q = q'} {r = r} {t = t} {ws = ws} {zs = zs} {us = us} i a b c) q =
      from-primary (front-of i) q (slice-of p t (part i)
      (start-law q' ws a (stop-and-stride-of q' r (optional-law b (before-colon r zs) (test-none r (word.Punctuator s.Colon) zs closing.colon')) (optional-law c (before-bracket t us) (test-none t (word.Punctuator s.RightBracket) us closing.bracket')))) q.suffix')
  law (a-lambda {p = p} {q = p'} {vs = vs} js is i) q = lambda-of p p' (taken-law p' vs js is) (from-operand (front-of i) q (part i))

  -- a part in parentheses is an operand
  part : {x : Expression} {ts us : List ValuedToken} → Enclosed x ts us → Reads rule _ operand ts (Some (x, us))
  part (enclosed {p = p} {q = q} {us = us} w) = enclosed-of p q (law w (before-paren q us))

  parts : {xs : List Expression} {ts us : List ValuedToken} → Further xs ts us → (found : List Expression) → Quiet us → Reads rule _ next_test us None → Tests found ts (found ++ xs) us
  parts (no-further {us = us}) found q n = no-more-tests found us n
  parts (one-further {p = p} {x = x} {xs = xs} i js) found q n = one-more-test found x xs p (from-operand (front-of i) (further-front Quiet before-comma js q) (part i)) (parts js (found ++ x ∷ []) q n)

  optional-law : {a : Option Expression} {ts us : List ValuedToken} → Optional a ts us → Quiet us → Reads rule _ (nonterminal (level levels.Test)) us None → Reads rule _ (opt a_test) ts (Some (a, us))
  optional-law left-out q n = left-out-of n
  optional-law (put i) q n = put-of (from-operand (front-of i) q (part i))

  start-law : {a b c : Option Expression} {ts us : List ValuedToken} (p : Position) (ws : List ValuedToken) → Optional a ts (mark p s.Colon ∷ ws) → Reads rule _ stop_and_stride (mark p s.Colon ∷ ws) (Some ((b, c), us)) → Reads rule _ in_brackets ts (Some (suffixes.Slice a b c, us))
  start-law p ws left-out d = from-nothing (test-none p (word.Punctuator s.Colon) ws closing.colon') d
  start-law p ws (put i) d = from-start (from-operand (front-of i) (before-colon p ws) (part i)) d

  entry-law : {y : Entry} {ts us : List ValuedToken} → OneEntry y ts us → Quiet us → Reads rule _ entry ts (Some (y, us))
  entry-law (an-entry {p = p} {vs = vs} i j) q = entry-of p (from-operand (front-of i) (before-colon p vs) (part i)) (from-operand (front-of j) q (part j))

  entries-law : {ys : List Entry} {ts us : List ValuedToken} → FurtherEntries ys ts us → (found : List Entry) → Quiet us → Reads rule _ following_entry us None → Listed sorts.entry following_entry found ts (found ++ ys) us
  entries-law (no-entry {us = us}) found q n = last-listed sorts.entry following_entry found us n
  entries-law (next-entry {p = p} {y = y} {ys = ys} i js) found q n = one-listed sorts.entry following_entry found y ys (next-entries.next' _ _ y p (entry-law i (entries-front Quiet before-comma js q))) (entries-law js (found ++ y ∷ []) q n)

  argument-law : {y : Argument} {ts us : List ValuedToken} → OneArgument y ts us → Quiet us → Reads rule _ argument ts (Some (y, us))
  argument-law (positional i) q = positional-of (unnamed-of i) (from-operand (front-of i) q (part i))
  argument-law (by-name {p = p} {name = name} i) q = by-name-of p name (from-operand (front-of i) q (part i))
  argument-law (with-star {p = p} i) q = with-star-of p (from-operand (front-of i) q (part i))
  argument-law (with-two-stars {p = p} i) q = with-two-stars-of p (from-operand (front-of i) q (part i))

  arguments-law : {ys : List Argument} {ts us : List ValuedToken} → FurtherArguments ys ts us → (found : List Argument) → Quiet us → Reads rule _ following_argument us None → Listed sorts.argument following_argument found ts (found ++ ys) us
  arguments-law (no-argument {us = us}) found q n = last-listed sorts.argument following_argument found us n
  arguments-law (next-argument {p = p} {y = y} {ys = ys} i js) found q n = one-listed sorts.argument following_argument found y ys (next-arguments.next' _ _ y p (argument-law i (arguments-front js q))) (arguments-law js (found ++ y ∷ []) q n)

  given-law : {ys : List Argument} {ts : List ValuedToken} (p : Position) (vs : List ValuedToken) → Arguments ys ts (mark p s.RightParen ∷ vs) → arguments_in_order ys ≡ true → Reads rule _ arguments_given ts (Some (ys, mark p s.RightParen ∷ vs))
  given-law p vs none-given is = none-given-of p vs
  given-law p vs (some-given {y = y} i js) is = given-of p is (argument-law i (arguments-front js (before-paren p vs))) (arguments-law js (y ∷ []) (before-paren p vs) (next-arguments.none' p (word.Punctuator s.RightParen) vs refl))

  parameter-law : {y : Parameter} {ts us : List ValuedToken} → OneParameter y ts us → Quiet us → Closed us → Reads rule _ parameter ts (Some (y, us))
  parameter-law (plain {name = name}) q c = plain-of name c
  parameter-law (default {p = p} {name = name} i) q c = default-of p name (from-operand (front-of i) q (part i))
  parameter-law (starred {p = p} {name = name} {us = us}) q c = starred-of p name us
  parameter-law (bare-star {p = p}) q c = bare-star-of p c
  parameter-law (twice-starred {p = p} {name = name} {us = us}) q c = twice-starred-of p name us

  parameters-law : {ys : List Parameter} {ts us : List ValuedToken} → FurtherParameters ys ts us → (found : List Parameter) → Quiet us × Closed us → Reads rule _ following_parameter us None → Listed sorts.parameter following_parameter found ts (found ++ ys) us
  parameters-law (no-parameter {us = us}) found q n = last-listed sorts.parameter following_parameter found us n
  parameters-law (next-parameter {p = p} {y = y} {ys = ys} i js) found q n =
      let f = parameters-front js q in
      one-listed sorts.parameter following_parameter found y ys (next-parameters.next' _ _ y p (parameter-law i f.0 f.1)) (parameters-law js (found ++ y ∷ []) q n)

  taken-law : {ys : List Parameter} {ts : List ValuedToken} (p : Position) (vs : List ValuedToken) → Parameters ys ts (mark p s.Colon ∷ vs) → parameters_in_order ys ≡ true → Reads rule _ lambda_parameters ts (Some (ys, mark p s.Colon ∷ vs))
  taken-law p vs none-taken is = none-taken-of p vs
  taken-law p vs (some-taken {y = y} i js) is =
      let q : Quiet (mark p s.Colon ∷ vs) × Closed (mark p s.Colon ∷ vs) = (before-colon p vs, closed-colon p vs) in
      let f = parameters-front js q in
      taken-of is (parameter-law i f.0 f.1) (parameters-law js (y ∷ []) q (next-parameters.none' p (word.Punctuator s.Colon) vs refl))

  for-law : {target : Target} {y : Expression} {ts us : List ValuedToken} → ForPart target y ts us → QuietPart us → Reads rule _ for_clause ts (Some ((target, y), us))
  for-law (for-each {p = p} {q = p'} {vs = vs} is i j) q = for-of p p' is (primary-of (part i) (after_keyword p' k.In vs)) (disjunction-at (front-of j) (part j) q.suffix' q.binary' q.comparator' q.and' q.or')

  clause-law : {c : Clause} {ts us : List ValuedToken} → OneClause c ts us → QuietPart us → Reads rule _ following_clause ts (Some (c, us))
  clause-law (each f) q = each-of (for-law f q)
  clause-law (only-if {p = p} j) q = only-if-of p (disjunction-at (front-of j) (part j) q.suffix' q.binary' q.comparator' q.and' q.or')

  further-law : {cs : List Clause} {ts us : List ValuedToken} → FurtherClauses cs ts us → (found : List Clause) → QuietPart us → Reads rule _ following_clause us None → Listed sorts.clause following_clause found ts (found ++ cs) us
  further-law (no-clause {us = us}) found q n = last-listed sorts.clause following_clause found us n
  further-law (next-clause {y = y} {ys = ys} i js) found q n = one-listed sorts.clause following_clause found y ys (clause-law i (clauses-front js q)) (further-law js (found ++ y ∷ []) q n)

  all-law : {c : Clauses} {ts us : List ValuedToken} → AllClauses c ts us → QuietPart us → Reads rule _ following_clause us None → Reads rule _ all_clauses ts (Some (c, us))
  all-law (clauses-from f js) q n = clauses-of (for-law f (clauses-front js q)) (further-law js [] q n)

pub reads_back : ReadsBack
reads_back x ts us w st = law w (quiet us st)

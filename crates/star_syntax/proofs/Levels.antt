-- From each level of the grammar of expressions up to the loosest, if nothing more is read after.
use Rattle.std.proofs.Common.{◌≡◌, ℕ, suc, List, ◌∷◌, Some, None, refl}
use Rattle.star_lex.specs.declared.token.Punctuator.{Punctuator}
use Rattle.star_lex.specs.declared.token.Punctuator.TheVariants as s
use Rattle.star_lex.specs.declared.token.Keyword.TheVariants as k
use Rattle.star_syntax.specs.declared.leaf.TokenValue.{TokenValue}
use Rattle.star_syntax.specs.declared.leaf.TokenValue.TheVariants as word
use Rattle.star_syntax.specs.declared.leaf.ValuedToken.{ValuedToken}
use Rattle.star_syntax.specs.declared.level.Level.TheVariants as levels
use Rattle.star_tree.specs.declared.tree.Position.{Position}
use Rattle.star_tree.specs.declared.tree.BinaryOperator.{BinaryOperator}
use Rattle.star_tree.specs.declared.tree.BinaryOperator.TheVariants as binaries
use Rattle.star_tree.specs.declared.tree.Expression.{Expression}
use Rattle.star_tree.specs.declared.tree.Expression.TheVariants as e
use Rattle.star_syntax.specs.Grammar.{level, nonterminal, Reads, hit, miss, free, seq-some, seq-first, alt-second, fold-some, act-none, act-some, itself, stop, more}
use Rattle.star_syntax.specs.Expressions.{same_sign, same_keyword, is_keyword, unary_word, binary_word, binary_operator, operand, lambda, suffix, primary, sign_operand, unary, climb, bit_or, comparator, compared, comparison, not_operand, negation, next_negation, conjunction, next_conjunction, disjunction, choice, conditional, any_test}
use Rattle.star_syntax.specs.Language.{rule}
use Rattle.star_syntax.specs.Written.{IsBinary, times, divided, modulo, plus, minus, to-left, to-right, bits-and, bits-xor, bits-or}
use Rattle.star_syntax.proofs.Quiet.{Quiet, unplaced}

-- no sign, `not` or `lambda` is in front
pub record Front (ts : List ValuedToken) : Type 0 where
  pub unsigned : Reads rule _ sign_operand ts None
  pub undenied : Reads rule _ not_operand ts None
  pub unbound : Reads rule _ lambda ts None

pub front : (p : Position) (w : TokenValue) (ts : List ValuedToken) → unary_word w ≡ None → is_keyword k.Not w ≡ None → is_keyword k.Lambda w ≡ None → Front (record { word = w; position = p } ∷ ts)
unfolding sign_operand not_operand lambda
front p w ts a b c = record { unsigned = act-none (seq-first (miss a)); undenied = act-none (act-none (seq-first (miss b))); unbound = act-none (seq-first (miss (unplaced p (is_keyword k.Lambda w) c))) }

pub in_front : (p : Position) (ts : List ValuedToken) → Front (record { word = word.Punctuator s.LeftParen; position = p } ∷ ts)
unfolding same_sign same_keyword
in_front p ts = front p (word.Punctuator s.LeftParen) ts refl refl refl

module _ {ts us : List ValuedToken} {x : Expression} where
  pub primary-of : Reads rule _ operand ts (Some (x, us)) → Reads rule _ suffix us None → Reads rule _ primary ts (Some (x, us))
  unfolding primary
  primary-of d n = fold-some d (stop n)

  pub unary-of : Front ts → Reads rule _ primary ts (Some (x, us)) → Reads rule _ unary ts (Some (x, us))
  unfolding unary
  unary-of f d = alt-second f.unsigned d

  pub climb-of : (n : ℕ) → Reads rule _ (climb n) ts (Some (x, us)) → Reads rule _ (binary_operator n) us None → Reads rule _ (climb (suc n)) ts (Some (x, us))
  unfolding climb
  climb-of n d o = fold-some d (stop (seq-first o))

  -- through the levels above one, if their signs do not follow
  pub above-0 : ((i : ℕ) → Reads rule _ (binary_operator i) us None) → Reads rule _ (climb 0) ts (Some (x, us)) → Reads rule _ bit_or ts (Some (x, us))
  unfolding bit_or
  above-0 o d = climb-of 5 (climb-of 4 (climb-of 3 (climb-of 2 (climb-of 1 (climb-of 0 d (o 0)) (o 1)) (o 2)) (o 3)) (o 4)) (o 5)

  pub above-1 : ((i : ℕ) → Reads rule _ (binary_operator i) us None) → Reads rule _ (climb 1) ts (Some (x, us)) → Reads rule _ bit_or ts (Some (x, us))
  unfolding bit_or
  above-1 o d = climb-of 5 (climb-of 4 (climb-of 3 (climb-of 2 (climb-of 1 d (o 1)) (o 2)) (o 3)) (o 4)) (o 5)

  pub above-2 : ((i : ℕ) → Reads rule _ (binary_operator i) us None) → Reads rule _ (climb 2) ts (Some (x, us)) → Reads rule _ bit_or ts (Some (x, us))
  unfolding bit_or
  above-2 o d = climb-of 5 (climb-of 4 (climb-of 3 (climb-of 2 d (o 2)) (o 3)) (o 4)) (o 5)

  pub above-3 : ((i : ℕ) → Reads rule _ (binary_operator i) us None) → Reads rule _ (climb 3) ts (Some (x, us)) → Reads rule _ bit_or ts (Some (x, us))
  unfolding bit_or
  above-3 o d = climb-of 5 (climb-of 4 (climb-of 3 d (o 3)) (o 4)) (o 5)

  pub above-4 : ((i : ℕ) → Reads rule _ (binary_operator i) us None) → Reads rule _ (climb 4) ts (Some (x, us)) → Reads rule _ bit_or ts (Some (x, us))
  unfolding bit_or
  above-4 o d = climb-of 5 (climb-of 4 d (o 4)) (o 5)

  pub above-5 : ((i : ℕ) → Reads rule _ (binary_operator i) us None) → Reads rule _ (climb 5) ts (Some (x, us)) → Reads rule _ bit_or ts (Some (x, us))
  unfolding bit_or
  above-5 o d = climb-of 5 d (o 5)

  pub above-6 : ((i : ℕ) → Reads rule _ (binary_operator i) us None) → Reads rule _ (climb 6) ts (Some (x, us)) → Reads rule _ bit_or ts (Some (x, us))
  unfolding bit_or
  above-6 o d = d

  pub bit-or-of : Reads rule _ unary ts (Some (x, us)) → ((i : ℕ) → Reads rule _ (binary_operator i) us None) → Reads rule _ bit_or ts (Some (x, us))
  unfolding climb
  bit-or-of d o = above-0 o d

  pub comparison-of : Reads rule _ bit_or ts (Some (x, us)) → Reads rule _ comparator us None → Reads rule _ comparison ts (Some (x, us))
  unfolding comparison compared
  comparison-of d c = act-some {x = (x, None)} (seq-some d (alt-second (act-none (seq-first c)) (act-some free)))

  pub negation-of : Reads rule _ not_operand ts None → Reads rule _ comparison ts (Some (x, us)) → Reads rule _ negation ts (Some (x, us))
  unfolding negation
  negation-of n d = alt-second n d

  pub conjunction-of : Reads rule _ negation ts (Some (x, us)) → Reads rule _ next_negation us None → Reads rule _ conjunction ts (Some (x, us))
  unfolding conjunction
  conjunction-of d a = fold-some d (stop a)

  pub disjunction-of : Reads rule _ conjunction ts (Some (x, us)) → Reads rule _ next_conjunction us None → Reads rule _ disjunction ts (Some (x, us))
  unfolding disjunction
  disjunction-of d o = fold-some d (stop o)

  pub conditional-of : Reads rule _ disjunction ts (Some (x, us)) → Reads rule _ choice us None → Reads rule _ conditional ts (Some (x, us))
  unfolding conditional
  conditional-of d i = act-some {x = (x, None)} (seq-some d (alt-second (act-none i) (act-some free)))

  pub test-of : Reads rule _ lambda ts None → Reads rule _ conditional ts (Some (x, us)) → Reads rule _ (nonterminal (level levels.Test)) ts (Some (x, us))
  unfolding any_test
  test-of l d = itself {r = level levels.Test} (alt-second l d)

  -- from a level to the loosest
  pub from-disjunction : Reads rule _ lambda ts None → Quiet us → Reads rule _ disjunction ts (Some (x, us)) → Reads rule _ (nonterminal (level levels.Test)) ts (Some (x, us))
  from-disjunction l q d = test-of l (conditional-of d q.if')

  pub from-negation : Reads rule _ lambda ts None → Quiet us → Reads rule _ negation ts (Some (x, us)) → Reads rule _ (nonterminal (level levels.Test)) ts (Some (x, us))
  from-negation l q d = from-disjunction l q (disjunction-of (conjunction-of d q.and') q.or')

  pub from-comparison : Reads rule _ not_operand ts None → Reads rule _ lambda ts None → Quiet us → Reads rule _ comparison ts (Some (x, us)) → Reads rule _ (nonterminal (level levels.Test)) ts (Some (x, us))
  from-comparison n l q d = from-negation l q (negation-of n d)

  pub from-bit-or : Reads rule _ not_operand ts None → Reads rule _ lambda ts None → Quiet us → Reads rule _ bit_or ts (Some (x, us)) → Reads rule _ (nonterminal (level levels.Test)) ts (Some (x, us))
  from-bit-or n l q d = from-comparison n l q (comparison-of d q.comparator')

  pub from-unary : Reads rule _ not_operand ts None → Reads rule _ lambda ts None → Quiet us → Reads rule _ unary ts (Some (x, us)) → Reads rule _ (nonterminal (level levels.Test)) ts (Some (x, us))
  from-unary n l q d = from-bit-or n l q (bit-or-of d q.binary')

  pub from-primary : Front ts → Quiet us → Reads rule _ primary ts (Some (x, us)) → Reads rule _ (nonterminal (level levels.Test)) ts (Some (x, us))
  from-primary f q d = from-unary f.undenied f.unbound q (unary-of f d)

  pub from-operand : Front ts → Quiet us → Reads rule _ operand ts (Some (x, us)) → Reads rule _ (nonterminal (level levels.Test)) ts (Some (x, us))
  from-operand f q d = from-primary f q (primary-of d q.suffix')

-- ---- one sign between two operands

one-round : {ts vs us : List ValuedToken} {x y : Expression} (n : ℕ) (p : Position) (sign : Punctuator) (operator : BinaryOperator) → binary_word n (word.Punctuator sign) ≡ Some operator
    → Reads rule _ (climb n) ts (Some (x, record { word = word.Punctuator sign; position = p } ∷ vs)) → Reads rule _ (climb n) vs (Some (y, us)) → Reads rule _ (binary_operator n) us None
    → Reads rule _ (climb (suc n)) ts (Some (e.Binary operator x y, us))
unfolding climb
one-round n p sign operator same d f o = fold-some d (more {y = (operator, _)} (seq-some (hit same) f) (stop (seq-first o)))

pub binary-of : {ts vs us : List ValuedToken} {x y : Expression} (p : Position) (sign : Punctuator) (operator : BinaryOperator) → IsBinary sign operator
    → Reads rule _ unary ts (Some (x, record { word = word.Punctuator sign; position = p } ∷ vs)) → Reads rule _ unary vs (Some (y, us)) → ((i : ℕ) → Reads rule _ (binary_operator i) us None)
    → Reads rule _ bit_or ts (Some (e.Binary operator x y, us))
unfolding climb
binary-of p sign operator times d f o = above-1 o (one-round 0 p s.Star binaries.Multiply refl d f (o 0))
binary-of p sign operator divided d f o = above-1 o (one-round 0 p s.SlashSlash binaries.FloorDivide refl d f (o 0))
binary-of p sign operator modulo d f o = above-1 o (one-round 0 p s.Percent binaries.Modulo refl d f (o 0))
binary-of p sign operator plus d f o = above-2 o (one-round 1 p s.Plus binaries.Add refl (climb-of 0 d (miss refl)) (climb-of 0 f (o 0)) (o 1))
binary-of p sign operator minus d f o = above-2 o (one-round 1 p s.Minus binaries.Subtract refl (climb-of 0 d (miss refl)) (climb-of 0 f (o 0)) (o 1))
binary-of p sign operator to-left d f o = above-3 o (one-round 2 p s.ShiftLeft binaries.ShiftLeft refl (climb-of 1 (climb-of 0 d (miss refl)) (miss refl)) (climb-of 1 (climb-of 0 f (o 0)) (o 1)) (o 2))
binary-of p sign operator to-right d f o = above-3 o (one-round 2 p s.ShiftRight binaries.ShiftRight refl (climb-of 1 (climb-of 0 d (miss refl)) (miss refl)) (climb-of 1 (climb-of 0 f (o 0)) (o 1)) (o 2))
binary-of p sign operator bits-and d f o = above-4 o (one-round 3 p s.Ampersand binaries.BitAnd refl (climb-of 2 (climb-of 1 (climb-of 0 d (miss refl)) (miss refl)) (miss refl)) (climb-of 2 (climb-of 1 (climb-of 0 f (o 0)) (o 1)) (o 2)) (o 3))
binary-of p sign operator bits-xor d f o = above-5 o (one-round 4 p s.Caret binaries.BitXor refl (climb-of 3 (climb-of 2 (climb-of 1 (climb-of 0 d (miss refl)) (miss refl)) (miss refl)) (miss refl)) (climb-of 3 (climb-of 2 (climb-of 1 (climb-of 0 f (o 0)) (o 1)) (o 2)) (o 3)) (o 4))
binary-of p sign operator bits-or d f o = above-6 o (one-round 5 p s.Bar binaries.BitOr refl (climb-of 4 (climb-of 3 (climb-of 2 (climb-of 1 (climb-of 0 d (miss refl)) (miss refl)) (miss refl)) (miss refl)) (miss refl)) (climb-of 4 (climb-of 3 (climb-of 2 (climb-of 1 (climb-of 0 f (o 0)) (o 1)) (o 2)) (o 3)) (o 4)) (o 5))

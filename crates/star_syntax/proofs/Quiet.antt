-- The words at which parts of the grammar read nothing.
use Rattle.std.proofs.Common.{◌≡◌, ℕ, zero, suc, List, [], ◌∷◌, Option, None, refl}
use Rattle.star_lex.specs.declared.token.Punctuator.TheVariants as s
use Rattle.star_lex.specs.declared.token.Keyword.TheVariants as k
use Rattle.star_syntax.specs.declared.leaf.TokenValue.{TokenValue}
use Rattle.star_syntax.specs.declared.leaf.ValuedToken.{ValuedToken}
use Rattle.star_syntax.specs.declared.level.Level.TheVariants as levels
use Rattle.star_tree.specs.declared.tree.Position.{Position}
use Rattle.star_syntax.specs.Grammar.{level, nonterminal, Reads, miss, over, seq-first, alt-second, fold-none, act-none, itself}
use Rattle.star_syntax.specs.Expressions.{same_sign, same_keyword, is_sign, is_keyword, unary_word, binary_word, comparator_word, atom_of, placed_at, binary_operator, parentheses, list_display, dict_display, atom, operand, lambda, attribute, call, subscript, suffix, primary, sign_operand, unary, climb, bit_or, comparator, comparison, not_operand, negation, next_negation, conjunction, next_conjunction, disjunction, choice, conditional, any_test}
use Rattle.star_syntax.specs.Language.{rule}
use Rattle.star_syntax.specs.Written.{EndsBefore, right-paren, right-bracket, right-brace, comma, colon, semicolon, assign, plus-assign, minus-assign, star-assign, slashes-assign, percent-assign, ampersand-assign, bar-assign, caret-assign, left-assign, right-assign, new-line, for', else', Stops, nothing-more, before}

-- ---- words after an operand, or between operands

-- no suffix begins with the word
pub record NoSuffix (w : TokenValue) : Type 0 where
  pub dot : is_sign s.Dot w ≡ None
  pub paren : is_sign s.LeftParen w ≡ None
  pub bracket : is_sign s.LeftBracket w ≡ None

pub suffix-none : {p : Position} {w : TokenValue} {ts : List ValuedToken} → NoSuffix w → Reads rule _ suffix (record { word = w; position = p } ∷ ts) None
unfolding suffix attribute call subscript
suffix-none n = alt-second (act-none (act-none (seq-first (miss n.dot)))) (alt-second (act-none (act-none (seq-first (miss n.paren)))) (act-none (seq-first (miss n.bracket))))

suffix-over : Reads rule _ suffix [] None
unfolding suffix attribute call subscript
suffix-over = alt-second (act-none (act-none (seq-first over))) (alt-second (act-none (act-none (seq-first over))) (act-none (seq-first over)))

-- the word continues no comparison
pub record NoComparator (w : TokenValue) : Type 0 where
  pub sign : comparator_word w ≡ None
  pub denial : is_keyword k.Not w ≡ None

pub comparator-none : {p : Position} {w : TokenValue} {ts : List ValuedToken} → NoComparator w → Reads rule _ comparator (record { word = w; position = p } ∷ ts) None
unfolding comparator
comparator-none n = alt-second (miss n.sign) (act-none (seq-first (miss n.denial)))

comparator-over : Reads rule _ comparator [] None
unfolding comparator
comparator-over = alt-second over (act-none (seq-first over))

pub and-none : {p : Position} {w : TokenValue} {ts : List ValuedToken} → is_keyword k.And w ≡ None → Reads rule _ next_negation (record { word = w; position = p } ∷ ts) None
unfolding next_negation
and-none n = act-none (seq-first (miss n))

pub or-none : {p : Position} {w : TokenValue} {ts : List ValuedToken} → is_keyword k.Or w ≡ None → Reads rule _ next_conjunction (record { word = w; position = p } ∷ ts) None
unfolding next_conjunction
or-none n = act-none (seq-first (miss n))

pub if-none : {p : Position} {w : TokenValue} {ts : List ValuedToken} → is_keyword k.If w ≡ None → Reads rule _ choice (record { word = w; position = p } ∷ ts) None
unfolding choice
if-none n = act-none (seq-first (miss n))

-- words that continue no part of an expression
pub record Quiet (ts : List ValuedToken) : Type 0 where
  pub suffix' : Reads rule _ suffix ts None
  pub binary' : (n : ℕ) → Reads rule _ (binary_operator n) ts None
  pub comparator' : Reads rule _ comparator ts None
  pub and' : Reads rule _ next_negation ts None
  pub or' : Reads rule _ next_conjunction ts None
  pub if' : Reads rule _ choice ts None

-- the same for a word
pub record QuietWord (w : TokenValue) : Type 0 where
  pub suffix' : NoSuffix w
  pub binary' : (n : ℕ) → binary_word n w ≡ None
  pub comparator' : NoComparator w
  pub and' : is_keyword k.And w ≡ None
  pub or' : is_keyword k.Or w ≡ None
  pub if' : is_keyword k.If w ≡ None

pub quiet-word : (w : TokenValue) → EndsBefore w → QuietWord w
unfolding same_sign same_keyword
quiet-word w right-paren = record { suffix' = record { dot = refl; paren = refl; bracket = refl }; binary' = λ n. refl; comparator' = record { sign = refl; denial = refl }; and' = refl; or' = refl; if' = refl }
quiet-word w right-bracket = record { suffix' = record { dot = refl; paren = refl; bracket = refl }; binary' = λ n. refl; comparator' = record { sign = refl; denial = refl }; and' = refl; or' = refl; if' = refl }
quiet-word w right-brace = record { suffix' = record { dot = refl; paren = refl; bracket = refl }; binary' = λ n. refl; comparator' = record { sign = refl; denial = refl }; and' = refl; or' = refl; if' = refl }
quiet-word w comma = record { suffix' = record { dot = refl; paren = refl; bracket = refl }; binary' = λ n. refl; comparator' = record { sign = refl; denial = refl }; and' = refl; or' = refl; if' = refl }
quiet-word w colon = record { suffix' = record { dot = refl; paren = refl; bracket = refl }; binary' = λ n. refl; comparator' = record { sign = refl; denial = refl }; and' = refl; or' = refl; if' = refl }
quiet-word w semicolon = record { suffix' = record { dot = refl; paren = refl; bracket = refl }; binary' = λ n. refl; comparator' = record { sign = refl; denial = refl }; and' = refl; or' = refl; if' = refl }
quiet-word w assign = record { suffix' = record { dot = refl; paren = refl; bracket = refl }; binary' = λ n. refl; comparator' = record { sign = refl; denial = refl }; and' = refl; or' = refl; if' = refl }
quiet-word w plus-assign = record { suffix' = record { dot = refl; paren = refl; bracket = refl }; binary' = λ n. refl; comparator' = record { sign = refl; denial = refl }; and' = refl; or' = refl; if' = refl }
quiet-word w minus-assign = record { suffix' = record { dot = refl; paren = refl; bracket = refl }; binary' = λ n. refl; comparator' = record { sign = refl; denial = refl }; and' = refl; or' = refl; if' = refl }
quiet-word w star-assign = record { suffix' = record { dot = refl; paren = refl; bracket = refl }; binary' = λ n. refl; comparator' = record { sign = refl; denial = refl }; and' = refl; or' = refl; if' = refl }
quiet-word w slashes-assign = record { suffix' = record { dot = refl; paren = refl; bracket = refl }; binary' = λ n. refl; comparator' = record { sign = refl; denial = refl }; and' = refl; or' = refl; if' = refl }
quiet-word w percent-assign = record { suffix' = record { dot = refl; paren = refl; bracket = refl }; binary' = λ n. refl; comparator' = record { sign = refl; denial = refl }; and' = refl; or' = refl; if' = refl }
quiet-word w ampersand-assign = record { suffix' = record { dot = refl; paren = refl; bracket = refl }; binary' = λ n. refl; comparator' = record { sign = refl; denial = refl }; and' = refl; or' = refl; if' = refl }
quiet-word w bar-assign = record { suffix' = record { dot = refl; paren = refl; bracket = refl }; binary' = λ n. refl; comparator' = record { sign = refl; denial = refl }; and' = refl; or' = refl; if' = refl }
quiet-word w caret-assign = record { suffix' = record { dot = refl; paren = refl; bracket = refl }; binary' = λ n. refl; comparator' = record { sign = refl; denial = refl }; and' = refl; or' = refl; if' = refl }
quiet-word w left-assign = record { suffix' = record { dot = refl; paren = refl; bracket = refl }; binary' = λ n. refl; comparator' = record { sign = refl; denial = refl }; and' = refl; or' = refl; if' = refl }
quiet-word w right-assign = record { suffix' = record { dot = refl; paren = refl; bracket = refl }; binary' = λ n. refl; comparator' = record { sign = refl; denial = refl }; and' = refl; or' = refl; if' = refl }
quiet-word w new-line = record { suffix' = record { dot = refl; paren = refl; bracket = refl }; binary' = λ n. refl; comparator' = record { sign = refl; denial = refl }; and' = refl; or' = refl; if' = refl }
quiet-word w for' = record { suffix' = record { dot = refl; paren = refl; bracket = refl }; binary' = λ n. refl; comparator' = record { sign = refl; denial = refl }; and' = refl; or' = refl; if' = refl }
quiet-word w else' = record { suffix' = record { dot = refl; paren = refl; bracket = refl }; binary' = λ n. refl; comparator' = record { sign = refl; denial = refl }; and' = refl; or' = refl; if' = refl }

pub quiet : (ts : List ValuedToken) → Stops ts → Quiet ts
unfolding next_negation next_conjunction choice
quiet ts nothing-more = record { suffix' = suffix-over; binary' = λ n. over; comparator' = comparator-over; and' = act-none (seq-first over); or' = act-none (seq-first over); if' = act-none (seq-first over) }
quiet ts (before {w = w} ends) =
    let q = quiet-word w ends in
    record { suffix' = suffix-none q.suffix'; binary' = λ n. miss (q.binary' n); comparator' = comparator-none q.comparator'; and' = and-none q.and'; or' = or-none q.or'; if' = if-none q.if' }

-- ---- words in the place of an expression

-- no expression begins with the word
pub record BeginsNone (w : TokenValue) : Type 0 where
  pub lambda' : is_keyword k.Lambda w ≡ None
  pub denial : is_keyword k.Not w ≡ None
  pub sign : unary_word w ≡ None
  pub atom' : (p : Position) → atom_of p w ≡ None
  pub paren : is_sign s.LeftParen w ≡ None
  pub bracket : is_sign s.LeftBracket w ≡ None
  pub brace : is_sign s.LeftBrace w ≡ None

pub unplaced : (p : Position) (o : Option (Unit {0})) → o ≡ None → placed_at p o ≡ None
unplaced p o e = rw e refl

module _ (p : Position) (w : TokenValue) (ts : List ValuedToken) (n : BeginsNone w) where
  operand-none : Reads rule _ operand (record { word = w; position = p } ∷ ts) None
  unfolding operand atom parentheses list_display dict_display
  operand-none = alt-second (miss (n.atom' p)) (alt-second (act-none (seq-first (miss n.paren))) (alt-second (act-none (seq-first (miss (unplaced p (is_sign s.LeftBracket w) n.bracket)))) (act-none (seq-first (miss (unplaced p (is_sign s.LeftBrace w) n.brace))))))

  primary-none : Reads rule _ primary (record { word = w; position = p } ∷ ts) None
  unfolding primary
  primary-none = fold-none operand-none

  unary-none : Reads rule _ unary (record { word = w; position = p } ∷ ts) None
  unfolding unary sign_operand
  unary-none = alt-second (act-none (seq-first (miss n.sign))) primary-none

  climb-none : (l : ℕ) → Reads rule _ (climb l) (record { word = w; position = p } ∷ ts) None
  unfolding climb
  climb-none zero = unary-none
  climb-none (suc l) = fold-none (climb-none l)

  negation-none : Reads rule _ negation (record { word = w; position = p } ∷ ts) None
  unfolding negation not_operand comparison bit_or
  negation-none = alt-second (act-none (act-none (seq-first (miss n.denial)))) (act-none (seq-first (climb-none 6)))

  disjunction-none : Reads rule _ disjunction (record { word = w; position = p } ∷ ts) None
  unfolding disjunction conjunction
  disjunction-none = fold-none (fold-none negation-none)

  pub test-none : Reads rule _ (nonterminal (level levels.Test)) (record { word = w; position = p } ∷ ts) None
  unfolding any_test lambda conditional
  test-none = itself {r = level levels.Test} (alt-second (act-none (seq-first (miss (unplaced p (is_keyword k.Lambda w) n.lambda')))) (act-none (seq-first disjunction-none)))

-- An atom before a word that ends an expression is read as itself, at each level.
use Rattle.std.proofs.Common.{◌≡◌, ℕ, zero, suc, ◌<◌, ◌≤◌, List, [], ◌∷◌, Option, Some, None, Result, Ok, Err, refl, ap, subst, ◌∙◌, arith, length}
use Rattle.std.proofs.Math.ListN.{get_or}
use Rattle.std.specs.Borrow.{Bor}
use Rattle.std.specs.declared.alloc.AllocError.{AllocError}
use Rattle.star_lex.specs.declared.token.Punctuator.TheVariants as s
use Rattle.star_lex.specs.declared.token.Keyword.TheVariants as k
use Rattle.star_syntax.specs.declared.leaf.TokenValue.{TokenValue}
use Rattle.star_syntax.specs.declared.leaf.ValuedToken.{ValuedToken}
use Rattle.star_syntax.specs.declared.level.Level.{Level}
use Rattle.star_syntax.specs.declared.level.Level.TheVariants as levels
use Rattle.star_syntax.specs.declared.level.Suffix.TheVariants as suffixes
use Rattle.star_tree.specs.declared.tree.Position.{Position}
use Rattle.star_tree.specs.declared.tree.Expression.{Expression}
use Rattle.star_syntax.specs.Sorts.{Sort, Val, maybe}
use Rattle.star_syntax.specs.Sorts as sorts
use Rattle.star_syntax.specs.Grammar.{Part, terminal, seq, alt, fold, act, nonterminal, Answer, Readers, level, run, rounds, step, and_then, or_else, before_rest, first}
use Rattle.star_syntax.specs.Alone.{ReadAlone}
use Rattle.star_syntax.specs.Expressions.{right_of, after, before, opt, sign_, keyword_, keyword_at, is_keyword, unary_word, comparator_word, atom_of, atom, with_suffix, name, optional_arguments, in_brackets, parentheses, list_display, dict_display, operand, lambda_of, lambda_parameters, lambda, a_test, attribute, call, subscript, suffix, primary, unary_of, unary_operator, sign_operand, unary, binary_of, binary_operator, climb, round_at, bit_or, not_in_of, comparator, compared, comparison_of, comparison, not_of, not_operand, negation, and_of, next_negation, conjunction, or_of, next_conjunction, disjunction, choice, conditional_of, conditional, any_test}
use Rattle.star_syntax.specs.Language.{Gives, rule, rule_of_level}
use Rattle.star_syntax.specs.Written.{EndsBefore}
use Rattle.star_syntax.proofs.Makes.{by-atom}
use Rattle.star_syntax.proofs.Quiet.{QuietWord, quiet-word, unplaced}
use Rattle.star_syntax.proofs.Rounds.{rest}

-- ---- how the parts of a part read

abbrev or-nothing : (a : Sort) → List ValuedToken → Answer (Val (maybe a)) → Answer (Val (maybe a))
or-nothing a ts q = or_else q (Some (None, ts))

module _ (knot : Readers) where
  act-none' : {a : Sort} (b : Sort) (f : Val a → Val b) (g : Part a) (ts : List ValuedToken) → step knot g ts ≡ None → step knot (act f g) ts ≡ None
  act-none' b f g ts n = ap (λ r. and_then r (λ x us. Some (f x, us))) n

  act-some' : {a : Sort} (b : Sort) (f : Val a → Val b) (g : Part a) (ts us : List ValuedToken) (x : Val a) → step knot g ts ≡ Some (x, us) → step knot (act f g) ts ≡ Some (f x, us)
  act-some' b f g ts us x d = ap (λ r. and_then r (λ x us. Some (f x, us))) d

  seq-none : {a b : Sort} (g : Part a) (h : Part b) (ts : List ValuedToken) → step knot g ts ≡ None → step knot (seq g h) ts ≡ None
  seq-none g h ts n = ap (λ r. and_then r (λ x us. and_then (step knot h us) (λ y vs. Some ((x, y), vs)))) n

  seq-some' : {a b : Sort} (g : Part a) (h : Part b) (ts us vs : List ValuedToken) (x : Val a) (y : Val b) → step knot g ts ≡ Some (x, us) → step knot h us ≡ Some (y, vs) → step knot (seq g h) ts ≡ Some ((x, y), vs)
  seq-some' g h ts us vs x y d e =
      ap (λ r. and_then r (λ x us. and_then (step knot h us) (λ y vs. Some ((x, y), vs)))) d
      ∙ ap (λ r. and_then r (λ y vs. Some ((x, y), vs))) e

  after-none : {a b : Sort} (g : Part a) (h : Part b) (ts : List ValuedToken) → step knot g ts ≡ None → step knot (after g h) ts ≡ None
  after-none {b = b} g h ts n = act-none' b right_of (seq g h) ts (seq-none g h ts n)

  alt-one : {a : Sort} (g h : Part a) (ts : List ValuedToken) (p : Val a × List ValuedToken) → step knot g ts ≡ Some p → step knot (alt g h) ts ≡ Some p
  alt-one g h ts p d = ap (λ r. or_else r (step knot h ts)) d

  alt-other : (a : Sort) (g h : Part a) (ts : List ValuedToken) (r : Answer (Val a)) → step knot g ts ≡ None → step knot h ts ≡ r → step knot (alt g h) ts ≡ r
  alt-other a g h ts r n d = ap (λ q. or_else q (step knot h ts)) n ∙ d

  opt-none : {a : Sort} (g : Part a) (ts : List ValuedToken) → step knot g ts ≡ None → step knot (opt g) ts ≡ Some (None, ts)
  opt-none {a = a} g ts n = ap (or-nothing a ts) (act-none' (maybe a) Some g ts n)

  fold-rest : {a b : Sort} (f : Val a → Val b → Val a) (g : Part a) (h : Part b) (ts us : List ValuedToken) (x : Val a) → step knot g ts ≡ Some (x, us) → step knot h us ≡ None → step knot (fold f g h) ts ≡ Some (x, us)
  fold-rest f g h ts us x d n =
      ap (λ r. and_then r (λ x us. rounds f (step knot h) (length us) x us)) d ∙ rest f (step knot h) (length us) x us n

-- ---- an atom, and the word that ends it

-- a word that is an operand by itself
pub record IsAtom (p : Position) (w : TokenValue) (x : Expression) : Type 0 where
  pub atom' : atom_of p w ≡ Some x
  pub sign : unary_word w ≡ None
  pub denial : is_keyword k.Not w ≡ None
  pub lambda' : is_keyword k.Lambda w ≡ None

module _ (knot : Readers) (t u : ValuedToken) (us : List ValuedToken) (x : Expression) (a : IsAtom t.position t.word x) (e : QuietWord u.word) where
  abbrev All : List ValuedToken
  All = t ∷ u ∷ us

  abbrev IsRead : Answer Expression → Type 0
  IsRead r = r ≡ Some (x, u ∷ us)

  no-suffix : step knot suffix (u ∷ us) ≡ None
  unfolding suffix attribute call subscript
  no-suffix =
      alt-other knot sorts.suffix attribute (alt call subscript) (u ∷ us) None
      (act-none' knot sorts.suffix suffixes.Attribute (after (sign_ s.Dot) name) (u ∷ us) (after-none knot (sign_ s.Dot) name (u ∷ us) (ap (λ o. before_rest o us) e.suffix'.dot)))
      (alt-other knot sorts.suffix call subscript (u ∷ us) None
      (act-none' knot sorts.suffix suffixes.Call (after (sign_ s.LeftParen) (before optional_arguments (sign_ s.RightParen))) (u ∷ us) (after-none knot (sign_ s.LeftParen) (before optional_arguments (sign_ s.RightParen)) (u ∷ us) (ap (λ o. before_rest o us) e.suffix'.paren)))
      (after-none knot (sign_ s.LeftBracket) (before in_brackets (sign_ s.RightBracket)) (u ∷ us) (ap (λ o. before_rest o us) e.suffix'.bracket)))

  no-round : (n : ℕ) → step knot (round_at n) (u ∷ us) ≡ None
  no-round n = seq-none knot (binary_operator n) (climb n) (u ∷ us) (ap (λ o. before_rest o us) (e.binary' n))

  no-comparison : step knot compared (u ∷ us) ≡ None
  unfolding compared comparator
  no-comparison =
      seq-none knot comparator bit_or (u ∷ us)
      (alt-other knot sorts.comparator (terminal (λ t. comparator_word t.word)) (act not_in_of (seq (keyword_ k.Not) (keyword_ k.In))) (u ∷ us) None
      (ap (λ o. before_rest o us) e.comparator'.sign)
      (act-none' knot sorts.comparator not_in_of (seq (keyword_ k.Not) (keyword_ k.In)) (u ∷ us) (seq-none knot (keyword_ k.Not) (keyword_ k.In) (u ∷ us) (ap (λ o. before_rest o us) e.comparator'.denial))))

  no-and : step knot next_negation (u ∷ us) ≡ None
  unfolding next_negation
  no-and = after-none knot (keyword_ k.And) negation (u ∷ us) (ap (λ o. before_rest o us) e.and')

  no-or : step knot next_conjunction (u ∷ us) ≡ None
  unfolding next_conjunction
  no-or = after-none knot (keyword_ k.Or) conjunction (u ∷ us) (ap (λ o. before_rest o us) e.or')

  no-if : step knot choice (u ∷ us) ≡ None
  unfolding choice
  no-if = after-none knot (keyword_ k.If) (seq disjunction (after (keyword_ k.Else) a_test)) (u ∷ us) (ap (λ o. before_rest o us) e.if')

  operand-read : IsRead (step knot operand All)
  unfolding operand atom
  operand-read = alt-one knot atom (alt parentheses (alt list_display dict_display)) All (x, u ∷ us) (ap (λ o. before_rest o (u ∷ us)) a.atom')

  primary-read : IsRead (step knot primary All)
  unfolding primary
  primary-read = fold-rest knot with_suffix operand suffix All (u ∷ us) x operand-read no-suffix

  unary-read : IsRead (step knot unary All)
  unfolding unary sign_operand
  unary-read = alt-other knot sorts.expression sign_operand primary All (Some (x, u ∷ us))
      (act-none' knot sorts.expression unary_of (seq unary_operator (nonterminal (level levels.Unary))) All (seq-none knot unary_operator (nonterminal (level levels.Unary)) All (ap (λ o. before_rest o (u ∷ us)) a.sign)))
      primary-read

  climb-read : (n : ℕ) → IsRead (step knot (climb n) All)
  unfolding climb
  climb-read zero = unary-read
  climb-read (suc n) = fold-rest knot binary_of (climb n) (round_at n) All (u ∷ us) x (climb-read n) (no-round n)

  bit-or-read : IsRead (step knot bit_or All)
  unfolding bit_or
  bit-or-read = climb-read 6

  comparison-read : IsRead (step knot comparison All)
  unfolding comparison
  comparison-read = act-some' knot sorts.expression comparison_of (seq bit_or (opt compared)) All (u ∷ us) (x, None)
      (seq-some' knot bit_or (opt compared) All (u ∷ us) (u ∷ us) x None bit-or-read (opt-none knot compared (u ∷ us) no-comparison))

  negation-read : IsRead (step knot negation All)
  unfolding negation not_operand
  negation-read = alt-other knot sorts.expression not_operand comparison All (Some (x, u ∷ us))
      (act-none' knot sorts.expression not_of (after (keyword_ k.Not) (nonterminal (level levels.Negation))) All (after-none knot (keyword_ k.Not) (nonterminal (level levels.Negation)) All (ap (λ o. before_rest o (u ∷ us)) a.denial)))
      comparison-read

  conjunction-read : IsRead (step knot conjunction All)
  unfolding conjunction
  conjunction-read = fold-rest knot and_of negation next_negation All (u ∷ us) x negation-read no-and

  disjunction-read : IsRead (step knot disjunction All)
  unfolding disjunction
  disjunction-read = fold-rest knot or_of conjunction next_conjunction All (u ∷ us) x conjunction-read no-or

  conditional-read : IsRead (step knot conditional All)
  unfolding conditional
  conditional-read = act-some' knot sorts.expression conditional_of (seq disjunction (opt choice)) All (u ∷ us) (x, None)
      (seq-some' knot disjunction (opt choice) All (u ∷ us) (u ∷ us) x None disjunction-read (opt-none knot choice (u ∷ us) no-if))

  test-read : IsRead (step knot any_test All)
  unfolding any_test lambda
  test-read = alt-other knot sorts.expression lambda conditional All (Some (x, u ∷ us))
      (act-none' knot sorts.expression lambda_of (seq (keyword_at k.Lambda) (seq lambda_parameters (after (sign_ s.Colon) a_test))) All
      (seq-none knot (keyword_at k.Lambda) (seq lambda_parameters (after (sign_ s.Colon) a_test)) All (ap (λ o. before_rest o (u ∷ us)) (unplaced t.position (is_keyword k.Lambda t.word) a.lambda'))))
      conditional-read

  level-read : (l : Level) → IsRead (step knot (rule_of_level l) All)
  level-read levels.Test = test-read
  level-read levels.Or = disjunction-read
  level-read levels.Negation = negation-read
  level-read levels.Unary = unary-read
  level-read levels.Primary = primary-read

-- an atom is one of three words
is-atom : (p : Position) (w : TokenValue) (x : Expression) → atom_of p w ≡ Some x → IsAtom p w x
is-atom p = by-atom (λ w x. IsAtom p w x) p (λ text. record { atom' = refl; sign = refl; denial = refl; lambda' = refl }) (λ value. record { atom' = refl; sign = refl; denial = refl; lambda' = refl }) (λ text. record { atom' = refl; sign = refl; denial = refl; lambda' = refl })

abbrev value-or : Expression → Answer Expression → Expression
value-or y None = y
value-or y (Some p) = p.0

abbrev rest-or : List ValuedToken → Answer Expression → List ValuedToken
rest-or vs None = vs
rest-or vs (Some p) = p.1

nothing-found : (us : List ValuedToken) (x : Expression) → before_rest None us ≡ Some (x, us) → ⊥
nothing-found us x e = cc

found : (o : Option Expression) (vs us : List ValuedToken) (x : Expression) → before_rest o vs ≡ Some (x, us) → (o ≡ Some x) × (vs ≡ us)
found None vs us x e = absurd (nothing-found us x e)
found (Some y) vs us x e = (ap (λ r. Some (value-or y r)) e, ap (rest-or vs) e)

read-below : (t u : ValuedToken) (us vs : List ValuedToken) (x : Expression) → EndsBefore u.word → (atom_of t.position t.word ≡ Some x) × (u ∷ us ≡ vs)
    → (depth : ℕ) (l : Level) → run rule (suc depth) (level l) (t ∷ u ∷ us) ≡ Some (x, vs)
unfolding run
read-below t u us vs x ends f depth l =
    level-read (run rule depth) t u us x (is-atom t.position t.word x f.0) (quiet-word u.word ends) l ∙ ap (λ r. Some (x, r)) f.1

read-at : (t u : ValuedToken) (us vs : List ValuedToken) (x : Expression) → EndsBefore u.word → (atom_of t.position t.word ≡ Some x) × (u ∷ us ≡ vs)
    → (depth : ℕ) (l : Level) → 0 < depth → run rule depth (level l) (t ∷ u ∷ us) ≡ Some (x, vs)
read-at t u us vs x ends f zero l some = absurd (omega (arith, some))
read-at t u us vs x ends f (suc depth) l some = read-below t u us vs x ends f depth l

pub read_alone : (ts : List ValuedToken) (u : ValuedToken) (r : Result (Option (Expression × Bor (List ValuedToken))) AllocError)
    → 2 ≤ length ts → u ≡ get_or ts 1 u → EndsBefore u.word → Gives (first (λ t. atom_of t.position t.word) ts) r → ReadAlone ts r
read_alone [] u r long is ends given = absurd (omega (arith, long))
read_alone (t ∷ []) u r long is ends given = absurd (omega (arith, long))
read_alone (t ∷ v ∷ us) u (Err e) long is ends given = tt
read_alone (t ∷ v ∷ us) u (Ok None) long is ends given = tt
read_alone (t ∷ v ∷ us) u (Ok (Some p)) long is ends given =
    read-at t v us p.1.now p.0 (subst (λ z. EndsBefore z.word) is ends) (found (atom_of t.position t.word) (v ∷ us) p.1.now p.0 given)

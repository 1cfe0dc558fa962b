-- The methods of strings: the number and types of the arguments, then the bytes of the string are paid, then the work.
use Rattle.std.specs.Prelude.{ℕ, nat_eq, Bool, not, List, [], ◌∷◌, length, map, Option, Some, None, ℤ, pos, negsuc, unsigned_abs, if◌then◌else◌}
use Rattle.std.specs.List.{list_any, concat}
use Rattle.star_store.specs.declared.values.Value.{Value}
use Rattle.star_store.specs.declared.values.Value.TheVariants as value
use Rattle.star_store.specs.declared.values.Cell.TheVariants as cell
use Rattle.star_meaning.specs.declared.fault.FaultCode.TheVariants as code
use Rattle.star_meaning.specs.Run.{State, Action, ◌>>=◌, give, fail, pay, check, found, each, seeing}
use Rattle.star_meaning.specs.Program.{Setting}
use Rattle.star_meaning.specs.Values.{Content, Held, content, want_int, want_text, text_of, new_text, new_list, count_of, take_items}
use Rattle.star_meaning.specs.Subscript.{want_part, bound_of}
use Rattle.star_meaning.specs.Operators.{place_between}
use Rattle.star_meaning.specs.declared.given.Arguments.{Arguments}
use Rattle.star_meaning.specs.Arguments.{positional, only_one, none_or_one, no_value, before_all}
use Rattle.star_meaning.specs.Texts.{characters, without_front, without_end, is_blank, is_in, parts, joined}
use Rattle.star_meaning.specs.Format.{formatted, Outside, Unused}

-- the bytes of the string are paid
abbrev pub pay_for_bytes : ℕ → List ℕ → Action (Unit {0})
pay_for_bytes line t = pay line (length t)

-- the strings that values are
abbrev pub texts_of : Setting → State → List Value → Option (List (List ℕ))
texts_of w s [] = Some []
texts_of w s (x ∷ xs) = before_all (text_of (content w s x)) (texts_of w s xs)

-- a string, or a tuple of strings
abbrev pub choices_in : Setting → State → Content → Option (List (List ℕ))
choices_in w s (Held (cell.Text t)) = Some (t ∷ [])
choices_in w s (Held (cell.Tuple xs)) = texts_of w s xs
choices_in w s _ = None

abbrev pub want_choices : Setting → ℕ → Value → Action (List (List ℕ))
want_choices w line v = seeing (λ s. found code.BadType line (choices_in w s (content w s v)))

-- startswith(p) and endswith(p), by a test
abbrev pub call_edge : Setting → ℕ → (List ℕ → List ℕ → Bool) → List ℕ → Arguments → Action Value
call_edge w line test t g = do
  p ← positional line g >>= only_one line
  us ← want_choices w line p
  _ ← pay_for_bytes line t
  give (value.Bool (list_any (test t) us))

-- find(t, [a, [b]]): the ends are as in a slice
pub record Search : Type 0 where
  pub what : Value
  pub from : Option Value
  pub to : Option Value

abbrev pub one_to_three : ℕ → List Value → Action Search
one_to_three line (x ∷ []) = give (record { what = x; from = None; to = None })
one_to_three line (x ∷ a ∷ []) = give (record { what = x; from = Some a; to = None })
one_to_three line (x ∷ a ∷ b ∷ []) = give (record { what = x; from = Some a; to = Some b })
one_to_three line _ = fail code.Args line

abbrev pub place_or_none : Option ℕ → ℤ
place_or_none None = negsuc 0
place_or_none (Some i) = pos i

abbrev pub end_of : ℕ → ℤ → Option ℤ → ℕ
end_of n absent z = unsigned_abs (bound_of n (pos 0) (pos n) absent z)

abbrev pub call_find : Setting → ℕ → List ℕ → Arguments → Action Value
call_find w line t g = do
  q ← positional line g >>= one_to_three line
  u ← want_text w line q.what
  a ← want_part w line q.from
  b ← want_part w line q.to
  _ ← pay_for_bytes line t
  give (value.Int (place_or_none (place_between t u (end_of (length t) (pos 0) a)
      (end_of (length t) (pos (length t)) b))))

-- join(it): the items are strings, else `type`
abbrev pub call_join : Setting → ℕ → List ℕ → Arguments → Action Value
call_join w line t g = do
  it ← positional line g >>= only_one line
  n ← count_of w line it
  _ ← pay_for_bytes line t
  xs ← take_items w line it n
  us ← seeing (λ s. found code.BadType line (texts_of w s xs))
  new_text line (joined t us)

-- a number of cuts: negative or absent, all
abbrev pub cuts_of : ℤ → Option ℕ
cuts_of (pos n) = Some n
cuts_of (negsuc n) = None

abbrev pub want_cuts : Setting → ℕ → Option Value → Action (Option ℕ)
want_cuts w line None = give None
want_cuts w line (Some v) = want_int w line v >>= λ z. give (cuts_of z)

abbrev pub one_and_maybe : ℕ → List Value → Action (Value × Option Value)
one_and_maybe line (x ∷ []) = give (x, None)
one_and_maybe line (x ∷ n ∷ []) = give (x, Some n)
one_and_maybe line _ = fail code.Args line

-- split(sep, [n])
abbrev pub call_split : Setting → ℕ → List ℕ → Arguments → Action Value
call_split w line t g = do
  a ← positional line g >>= one_and_maybe line
  by ← want_text w line a.0
  n ← want_cuts w line a.1
  _ ← pay_for_bytes line t
  _ ← check code.BadValue line (not (nat_eq (length by) 0))
  vs ← each (new_text line) (parts t by n)
  new_list line vs

-- strip([c]), lstrip([c]), rstrip([c]): the characters of c, or blanks, at the ends go
abbrev pub want_set : Setting → ℕ → Option Value → Action (List ℕ → Bool)
want_set w line None = give is_blank
want_set w line (Some v) = want_text w line v >>= λ c. give (is_in c)

abbrev pub stripped : Bool → Bool → (List ℕ → Bool) → List ℕ → List ℕ
stripped front back test t =
    concat ((if front then without_front test else (λ cs. cs))
    ((if back then without_end test else (λ cs. cs)) (characters t)))

abbrev pub call_strip : Setting → ℕ → Bool → Bool → List ℕ → Arguments → Action Value
call_strip w line front back t g = do
  c ← positional line g >>= none_or_one line
  test ← want_set w line c
  _ ← pay_for_bytes line t
  new_text line (stripped front back test t)

-- lower() and upper()
abbrev pub call_case : ℕ → (ℕ → ℕ) → List ℕ → Arguments → Action Value
call_case line f t g = do
  _ ← positional line g >>= no_value line
  _ ← pay_for_bytes line t
  new_text line (map f t)

-- replace(old, new, [n])
pub record Exchange : Type 0 where
  pub old : Value
  pub new : Value
  pub cuts : Option Value

abbrev pub two_or_three : ℕ → List Value → Action Exchange
two_or_three line (a ∷ b ∷ []) = give (record { old = a; new = b; cuts = None })
two_or_three line (a ∷ b ∷ n ∷ []) = give (record { old = a; new = b; cuts = Some n })
two_or_three line _ = fail code.Args line

abbrev pub call_replace : Setting → ℕ → List ℕ → Arguments → Action Value
call_replace w line t g = do
  q ← positional line g >>= two_or_three line
  u ← want_text w line q.old
  v ← want_text w line q.new
  n ← want_cuts w line q.cuts
  _ ← pay_for_bytes line t
  _ ← check code.BadValue line (not (nat_eq (length u) 0))
  new_text line (joined v (parts t u n))

-- format(*x, **kw)
abbrev pub call_format : Setting → ℕ → ℕ → List ℕ → Arguments → Action Value
call_format w levels line t g = do
  _ ← pay_for_bytes line t
  out ← formatted w levels line g t Outside Unused []
  new_text line out

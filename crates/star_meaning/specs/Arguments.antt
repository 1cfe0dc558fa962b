-- The arguments of a call: positional and keyword ones, with the ones that `*` and `**` add.
use Rattle.std.specs.Prelude.{ℕ, nat_eq, Bool, false, not, ◌||◌, List, [], ◌∷◌, ◌++◌, length, Option, Some, None, slice_get}
use Rattle.std.specs.List.{list_any, list_all}
use Rattle.std.specs.Option.{option_map}
use Rattle.star_store.specs.declared.values.Value.{Value}
use Rattle.star_store.specs.declared.values.Cell.TheVariants as cell
use Rattle.star_meaning.specs.declared.fault.FaultCode.TheVariants as code
use Rattle.star_meaning.specs.declared.given.Arguments.{Arguments}
use Rattle.star_meaning.specs.declared.given.KeywordArgument.{KeywordArgument}
use Rattle.star_meaning.specs.Run.{State, Action, ◌>>=◌, give, fail, pay, check, found, each, seeing}
use Rattle.star_outline.specs.Names.{same_name}
use Rattle.star_meaning.specs.Program.{Setting}
use Rattle.star_meaning.specs.Values.{Content, Held, content, text_of, count_of, take_items, new_text}

-- an argument with its value, in its form in the call
pub data EvaluatedArgument : Type 0 where
  Plain : Value → EvaluatedArgument
  Named : List ℕ → Value → EvaluatedArgument
  Star : Value → EvaluatedArgument
  StarStar : Value → EvaluatedArgument

-- the positional arguments, and the keyword arguments
abbrev pub positional_of : List EvaluatedArgument → List Value
positional_of [] = []
positional_of (Plain v ∷ ps) = v ∷ positional_of ps
positional_of (Named n v ∷ ps) = positional_of ps
positional_of (Star v ∷ ps) = positional_of ps
positional_of (StarStar v ∷ ps) = positional_of ps

abbrev pub named_of : List EvaluatedArgument → List KeywordArgument
named_of [] = []
named_of (Plain v ∷ ps) = named_of ps
named_of (Named n v ∷ ps) = record { name = n; key = None; value = v } ∷ named_of ps
named_of (Star v ∷ ps) = named_of ps
named_of (StarStar v ∷ ps) = named_of ps

-- the values after `*` and after `**`
abbrev pub star_of : List EvaluatedArgument → Option Value
star_of [] = None
star_of (Plain v ∷ ps) = star_of ps
star_of (Named n v ∷ ps) = star_of ps
star_of (Star v ∷ ps) = Some v
star_of (StarStar v ∷ ps) = star_of ps

abbrev pub star_star_of : List EvaluatedArgument → Option Value
star_star_of [] = None
star_star_of (Plain v ∷ ps) = star_star_of ps
star_star_of (Named n v ∷ ps) = star_star_of ps
star_star_of (Star v ∷ ps) = star_star_of ps
star_star_of (StarStar v ∷ ps) = Some v

-- the number of items after `*`: `type` if it is not iterable
abbrev pub star_count : Setting → ℕ → Option Value → Action ℕ
star_count w line None = give 0
star_count w line (Some v) = count_of w line v

abbrev pub take_star : Setting → ℕ → Option Value → ℕ → Action (List Value)
take_star w line None n = give []
take_star w line (Some v) n = take_items w line v n

-- the entries of a dictionary whose keys are all strings, as keyword arguments
abbrev pub named_entry : Setting → State → Value × Value → Option (List ℕ) → Option KeywordArgument
named_entry w s e None = None
named_entry w s e (Some t) = Some (record { name = t; key = Some e.0; value = e.1 })

abbrev pub before_all : {A : Type 0} → Option A → Option (List A) → Option (List A)
before_all (Some x) (Some xs) = Some (x ∷ xs)
before_all _ _ = None

abbrev pub named_entries : Setting → State → List (Value × Value) → Option (List KeywordArgument)
named_entries w s [] = Some []
named_entries w s (e ∷ es) = before_all (named_entry w s e (text_of (content w s e.0))) (named_entries w s es)

abbrev pub names_in : Setting → State → Content → Option (List KeywordArgument)
names_in w s (Held (cell.Dict es)) = named_entries w s es
names_in w s _ = None

-- the value after `**`: `type` unless it is a dictionary whose keys are all strings
abbrev pub star_star_names : Setting → ℕ → Option Value → Action (List KeywordArgument)
star_star_names w line None = give []
star_star_names w line (Some v) = seeing (λ s. found code.BadType line (names_in w s (content w s v)))

-- 1 is paid before each entry that is taken
abbrev pub take_names : ℕ → List KeywordArgument → Action (List KeywordArgument)
take_names line ns = each (λ n. pay line 1 >>= λ _. give n) ns

-- whether a name is among those given
abbrev pub is_given : List ℕ → List KeywordArgument → Bool
is_given name ns = list_any (λ n. same_name n.name name) ns

-- whether a name comes twice
abbrev pub comes_twice : List KeywordArgument → Bool
comes_twice [] = false
comes_twice (n ∷ ns) = is_given n.name ns || comes_twice ns

-- the arguments of a call, in order: the values after `*` and `**` are checked, then their items and entries are taken,
-- then no name may come twice
unfoldable pub given : Setting → ℕ → List EvaluatedArgument → Action Arguments
given w line ps = do
  n ← star_count w line (star_of ps)
  names ← star_star_names w line (star_star_of ps)
  xs ← take_star w line (star_of ps) n
  ns ← take_names line names
  _ ← check code.Args line (not (comes_twice (named_of ps ++ ns)))
  give (record { positional = positional_of ps ++ xs; named = named_of ps ++ ns })

-- a name as a key: one that is written in the call is a new string, one from `**` is the key that is there
unfoldable pub name_key : ℕ → KeywordArgument → Option Value → Action Value
name_key line n (Some k) = give k
name_key line n None = new_text line n.name

abbrev pub key_for : ℕ → KeywordArgument → Action Value
key_for line n = name_key line n n.key

-- positional values alone
abbrev pub positional : ℕ → Arguments → Action (List Value)
positional line g = check code.Args line (nat_eq (length g.named) 0) >>= λ _. give g.positional

-- positional values, and no keyword but this one
abbrev pub with_name : ℕ → List ℕ → Arguments → Action (List Value × Option Value)
with_name line name g =
    check code.Args line (list_all (λ n. same_name n.name name) g.named)
    >>= λ _. give (g.positional, option_map (λ n. n.value) (slice_get g.named 0))

-- exactly this many positional arguments
abbrev pub only_one : ℕ → List Value → Action Value
only_one line (x ∷ []) = give x
only_one line _ = fail code.Args line

abbrev pub none_or_one : ℕ → List Value → Action (Option Value)
none_or_one line [] = give None
none_or_one line (x ∷ []) = give (Some x)
none_or_one line _ = fail code.Args line

abbrev pub one_or_two : ℕ → List Value → Action (Value × Option Value)
one_or_two line (x ∷ []) = give (x, None)
one_or_two line (x ∷ y ∷ []) = give (x, Some y)
one_or_two line _ = fail code.Args line

abbrev pub two : ℕ → List Value → Action (Value × Value)
two line (x ∷ y ∷ []) = give (x, y)
two line _ = fail code.Args line

abbrev pub two_or_three : ℕ → List Value → Action (Value × Value × Option Value)
two_or_three line (x ∷ y ∷ []) = give (x, y, None)
two_or_three line (x ∷ y ∷ z ∷ []) = give (x, y, Some z)
two_or_three line _ = fail code.Args line

abbrev pub no_value : ℕ → List Value → Action (Unit {0})
no_value line [] = give tt
no_value line _ = fail code.Args line

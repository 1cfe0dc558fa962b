-- Items in the order of their keys: what `sorted`, `max` and `min` of the extended language do before and after the function
-- of `key` is called. An item is beside its key, which is first.
use Rattle.std.specs.Prelude.{ℕ, Bool, true, false, ◌||◌, List, [], ◌∷◌, map, Option, Some, None, is_some, if◌then◌else◌, codes}
use Rattle.std.specs.List.{list_all}
use Rattle.std.specs.Ordering.{int_cmp, nat_cmp, is_lt, is_gt}
use Rattle.std.specs.Cmp.Lexicographic.{slice_cmp}
use Rattle.std.specs.declared.cmp.Ordering.{Ordering}
use Rattle.star_store.specs.declared.values.Value.{Value}
use Rattle.star_store.specs.declared.values.Cell.TheVariants as cell
use Rattle.star_store.specs.Names.{is_function}
use Rattle.star_outline.specs.Names.{same_name}
use Rattle.star_meaning.specs.declared.fault.FaultCode.TheVariants as code
use Rattle.star_meaning.specs.declared.given.Arguments.{Arguments}
use Rattle.star_meaning.specs.declared.given.KeywordArgument.{KeywordArgument}
use Rattle.star_meaning.specs.Run.{State, Action, ◌>>=◌, give, fail, check, seeing}
use Rattle.star_meaning.specs.Program.{Setting}
use Rattle.star_meaning.specs.Values.{Content, Nothing, Number, BuiltInFunction, Held, content, with_content, want_bool, new_list, count_of, take_items, compare}
use Rattle.star_meaning.specs.Arguments.{with_name, only_one}
use Rattle.star_meaning.specs.Binding.{value_named}
use Rattle.star_meaning.specs.Merging.{merge_sort}
use Rattle.star_store.specs.Sorting.{in_order}

-- whether a name is given
abbrev pub is_named : List ℕ → List KeywordArgument → Bool
is_named name ns = is_some (value_named name ns)

-- the value of `reverse`: without one False, else a bool
abbrev pub want_reverse : Setting → ℕ → Option Value → Action Bool
want_reverse w line None = give false
want_reverse w line (Some v) = want_bool w line v

-- the function of `key`: none without a value and for None; else what can be called, or `type`
abbrev pub key_in : ℕ → Value → Content → Action (Option Value)
key_in line v Nothing = give None
key_in line v (BuiltInFunction b) = check code.BadType line (is_function b) >>= λ _. give (Some v)
key_in line v (Held (cell.Func f)) = give (Some v)
key_in line v (Held (cell.Bound m x)) = give (Some v)
key_in line v _ = fail code.BadType line

abbrev pub want_key : Setting → ℕ → Option Value → Action (Option Value)
want_key w line None = give None
want_key w line (Some v) = with_content w v (key_in line v)

-- sorted(it, key=None, reverse=False): the items, the function and the direction
abbrev pub is_of_sorted : KeywordArgument → Bool
is_of_sorted n = same_name n.name (codes "key") || same_name n.name (codes "reverse")

abbrev pub asked_to_sort : Setting → ℕ → Arguments → Action (List Value × Option Value × Bool)
asked_to_sort w line g = do
  _ ← check code.Args line (list_all is_of_sorted g.named)
  it ← only_one line g.positional
  n ← count_of w line it
  key ← want_key w line (value_named (codes "key") g.named)
  backwards ← want_reverse w line (value_named (codes "reverse") g.named)
  xs ← take_items w line it n
  give (xs, key, backwards)

-- max(x, .., key=None) and min(x, .., key=None): all items of one argument, or several arguments, and the function
abbrev pub candidates_by : Setting → ℕ → Option Value → List Value → Action (List Value × Option Value)
candidates_by w line k [] = fail code.Args line
candidates_by w line k (v ∷ []) = do
  n ← count_of w line v
  key ← want_key w line k
  xs ← take_items w line v n
  give (xs, key)
candidates_by w line k (x ∷ y ∷ xs) = want_key w line k >>= λ key. give (x ∷ y ∷ xs, key)

abbrev pub asked_for_best : Setting → ℕ → Arguments → Action (List Value × Option Value)
asked_for_best w line g = with_name line (codes "key") g >>= λ a. candidates_by w line a.1 a.0

-- an item that is its own key
abbrev pub by_itself : Value → Value × Value
by_itself x = (x, x)

-- ints alone, or strings alone
abbrev pub is_int : Content → Bool
is_int (Number z) = true
is_int _ = false

abbrev pub is_text : Content → Bool
is_text (Held (cell.Text t)) = true
is_text _ = false

abbrev pub can_sort : List Content → Bool
can_sort cs = list_all is_int cs || list_all is_text cs

-- whether an int, or a string by its bytes, comes before another
abbrev pub is_before : Content → Content → Bool
is_before (Number x) (Number y) = is_lt (int_cmp x y)
is_before (Held (cell.Text t)) (Held (cell.Text u)) = is_lt (slice_cmp nat_cmp t u)
is_before _ _ = false

-- .. or after it, backwards
abbrev pub is_before_by : Bool → Content → Content → Bool
is_before_by true c d = is_before d c
is_before_by false c d = is_before c d

-- items whose keys are ints alone, or strings alone: nothing is paid
abbrev pub sorted_free : Setting → State → Bool → List (Value × Value) → List (Value × Value)
sorted_free w s backwards ps =
    in_order (λ p q. is_before_by backwards (content w s p.0) (content w s q.0)) ps

-- other keys are compared, with their visits: whether an item of the rest goes before one of the front
abbrev pub goes_first : Bool → Ordering → Bool
goes_first true o = is_gt o
goes_first false o = is_lt o

abbrev pub precedes : Setting → ℕ → ℕ → Bool → Value × Value → Value × Value → Action Bool
precedes w levels line backwards y x = compare w levels line y.0 x.0 >>= λ o. give (goes_first backwards o)

abbrev pub sorted_pairs : Setting → ℕ → ℕ → Bool → List (Value × Value) → Action (List (Value × Value))
sorted_pairs w levels line backwards ps =
    seeing (λ s. if can_sort (map (λ p. content w s p.0) ps) then give (sorted_free w s backwards ps)
    else merge_sort (precedes w levels line backwards) ps)

-- the items in the order of their keys, in a new list; equal keys keep the order of their items
abbrev pub sort_by : Setting → ℕ → ℕ → Bool → List (Value × Value) → Action Value
sort_by w levels line backwards ps =
    sorted_pairs w levels line backwards ps >>= λ qs. new_list line (map (λ q. q.1) qs)

-- the item of the first best key: each key is compared with the best so far
abbrev pub best_pair : Setting → ℕ → ℕ → (Ordering → Bool) → Value × Value → List (Value × Value) → Action Value
best_pair w levels line better best [] = give best.1
best_pair w levels line better best (p ∷ ps) =
    compare w levels line p.0 best.0 >>= λ o. best_pair w levels line better (if better o then p else best) ps

abbrev pub best_by : Setting → ℕ → ℕ → (Ordering → Bool) → List (Value × Value) → Action Value
best_by w levels line better [] = fail code.BadValue line
best_by w levels line better (p ∷ ps) = best_pair w levels line better p ps

-- The methods of lists: the number and types of the arguments, then the write guard, then the work.
use Rattle.std.specs.Prelude.{ℕ, ◌+◌, List, [], ◌∷◌, length, take, drop, Option, Some, None, ℤ, pos, negsuc, unsigned_abs, if◌then◌else◌}
use Rattle.star_store.specs.declared.values.Value.{Value}
use Rattle.star_store.specs.declared.values.Value.TheVariants as value
use Rattle.star_store.specs.declared.values.Cell.TheVariants as cell
use Rattle.star_store.specs.declared.arena.write.Change.TheVariants as change_to
use Rattle.star_dialect.specs.declared.Dialect.{Dialect}
use Rattle.star_dialect.specs.declared.Dialect.TheVariants as dialect
use Rattle.star_meaning.specs.declared.fault.FaultCode.TheVariants as code
use Rattle.star_meaning.specs.Run.{Action, ◌>>=◌, give, fail, pay, found, all_of}
use Rattle.star_meaning.specs.Program.{Setting}
use Rattle.star_meaning.specs.Values.{Content, Held, with_content, want_int, count_of, take_items, equal, guard, change, new_int}
use Rattle.star_meaning.specs.Subscript.{place_from, bound_of, want_part}
use Rattle.star_meaning.specs.declared.given.Arguments.{Arguments}
use Rattle.star_meaning.specs.Arguments.{positional, only_one, none_or_one, two, no_value}

-- the items of a list now
abbrev pub items_of : Content → List Value
items_of (Held (cell.List xs)) = xs
items_of _ = []

abbrev pub with_items : {A : Type 0} → Setting → Value → (List Value → Action A) → Action A
with_items w l f = with_content w l (λ c. f (items_of c))

-- adds a value after all others
abbrev pub add_item : Setting → ℕ → Value → Value → Action (Unit {0})
add_item w line l x = change w line l (change_to.Append x) >>= λ _. give tt

-- append(x)
abbrev pub call_append : Setting → ℕ → Value → Arguments → Action Value
call_append w line l g = do
  x ← positional line g >>= only_one line
  _ ← guard w line l
  _ ← pay line 1
  _ ← add_item w line l x
  give value.NoneValue

-- clear(), of a list or a dictionary
abbrev pub call_clear : Setting → ℕ → Value → Arguments → Action Value
call_clear w line l g = do
  _ ← positional line g >>= no_value line
  _ ← guard w line l
  _ ← change w line l change_to.Clear
  give value.NoneValue

-- l.extend(it): all items are taken, then paid, then added
unfoldable pub extend : Setting → ℕ → Value → Value → Action (Unit {0})
extend w line l it = do
  n ← count_of w line it
  _ ← guard w line l
  xs ← take_items w line it n
  _ ← pay line n
  all_of (add_item w line l) xs

abbrev pub call_extend : Setting → ℕ → Value → Arguments → Action Value
call_extend w line l g = do
  it ← positional line g >>= only_one line
  _ ← extend w line l it
  give value.NoneValue

-- the place of the first item, from the i-th on, that is equal to x
abbrev pub equal_place : Setting → ℕ → ℕ → Value → ℕ → List Value → Action (Option ℕ)
equal_place w levels line x i [] = give None
equal_place w levels line x i (y ∷ ys) =
    equal w levels line y x >>= λ b. if b then give (Some i) else equal_place w levels line x (i + 1) ys

abbrev pub place_with : Setting → ℕ → ℕ → Value → Value → Action ℕ
place_with w levels line l x = with_items w l (equal_place w levels line x 0) >>= found code.BadValue line

-- the index of a value in a whole list, else `value`
abbrev pub index_of : Setting → ℕ → ℕ → Value → Value → Action Value
index_of w levels line l x = place_with w levels line l x >>= λ i. new_int line (pos i)

-- a bound among so many items, held within 0 and their number
abbrev pub item_bound : ℕ → ℕ → Option ℤ → ℕ
item_bound n absent z = unsigned_abs (bound_of n (pos 0) (pos n) (pos absent) z)

-- the place of the first item, from one place on and before another, that is equal to x
abbrev pub equal_between : Setting → ℕ → ℕ → Value → ℕ → ℕ → List Value → Action (Option ℕ)
equal_between w levels line x from to ys = equal_place w levels line x from (drop from (take to ys))

-- the same within bounds, which are ints or None
abbrev pub within_bounds : Setting → ℕ → ℕ → Value → Option ℤ → Option ℤ → List Value → Action (Option ℕ)
within_bounds w levels line x a b ys =
    equal_between w levels line x (item_bound (length ys) 0 a) (item_bound (length ys) (length ys) b) ys

abbrev pub index_between : Setting → ℕ → ℕ → Value → Value → Option Value → Option Value → Action Value
index_between w levels line l x a b = do
  from ← want_part w line a
  to ← want_part w line b
  i ← with_items w l (within_bounds w levels line x from to) >>= found code.BadValue line
  new_int line (pos i)

-- index(x), in the extended language index(x, [a, [b]])
abbrev pub index_in : Setting → ℕ → ℕ → Value → Dialect → List Value → Action Value
index_in w levels line l d (x ∷ []) = index_of w levels line l x
index_in w levels line l dialect.Extended (x ∷ a ∷ []) = index_between w levels line l x (Some a) None
index_in w levels line l dialect.Extended (x ∷ a ∷ b ∷ []) = index_between w levels line l x (Some a) (Some b)
index_in w levels line l _ _ = fail code.Args line

abbrev pub call_index : Setting → ℕ → ℕ → Value → Arguments → Action Value
call_index w levels line l g = positional line g >>= index_in w levels line l w.language.dialect

-- insert(i, x): the place is clamped between 0 and the length
abbrev pub insert_place : ℕ → ℤ → ℕ
insert_place n z = unsigned_abs (bound_of n (pos 0) (pos n) (pos 0) (Some z))

abbrev pub call_insert : Setting → ℕ → Value → Arguments → Action Value
call_insert w line l g = do
  a ← positional line g >>= two line
  z ← want_int w line a.0
  _ ← guard w line l
  _ ← pay line 1
  _ ← with_items w l (λ xs. change w line l (change_to.Insert (insert_place (length xs) z) a.1))
  give value.NoneValue

-- pop([i]): the item is taken out
abbrev pub want_last : Setting → ℕ → Option Value → Action ℤ
want_last w line None = give (negsuc 0)
want_last w line (Some v) = want_int w line v

abbrev pub call_pop : Setting → ℕ → Value → Arguments → Action Value
call_pop w line l g = do
  i ← positional line g >>= none_or_one line
  z ← want_last w line i
  _ ← guard w line l
  at ← with_items w l (λ xs. found code.Index line (place_from (length xs) z))
  x ← change w line l (change_to.RemoveAt at)
  found code.Index line x

-- remove(x): the first equal item goes
abbrev pub call_remove : Setting → ℕ → ℕ → Value → Arguments → Action Value
call_remove w levels line l g = do
  x ← positional line g >>= only_one line
  _ ← guard w line l
  i ← place_with w levels line l x
  _ ← change w line l (change_to.RemoveAt i)
  give value.NoneValue

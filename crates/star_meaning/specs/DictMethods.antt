-- The methods of dictionaries.
use Rattle.std.specs.Prelude.{ℕ, List, [], ◌∷◌, map, Option, Some, None, slice_get}
use Rattle.star_store.specs.declared.values.Value.{Value}
use Rattle.star_store.specs.declared.values.Value.TheVariants as value
use Rattle.star_store.specs.declared.arena.write.Change.TheVariants as change_to
use Rattle.star_meaning.specs.declared.fault.FaultCode.TheVariants as code
use Rattle.star_meaning.specs.Run.{Action, ◌>>=◌, give, found, each, seeing}
use Rattle.star_meaning.specs.Program.{Setting}
use Rattle.star_meaning.specs.Values.{content, with_content, check_key, value_in, guard, change, new_tuple, new_list}
use Rattle.star_meaning.specs.Subscript.{put_entry, entries_in}
use Rattle.star_meaning.specs.declared.given.Arguments.{Arguments}
use Rattle.star_meaning.specs.Arguments.{positional, none_or_one, one_or_two, no_value}
use Rattle.star_meaning.specs.Pairs.{update_with}

-- the entries of a dictionary now
abbrev pub with_entries_of : {A : Type 0} → Setting → Value → (List (Value × Value) → Action A) → Action A
with_entries_of w d f = with_content w d (λ c. f (entries_in c))

-- the value under a key now
abbrev pub value_under : Setting → Value → Value → Action (Option Value)
value_under w d k = seeing (λ s. give (value_in w s k (entries_in (content w s d))))

-- the value, else the one that is given, else None
abbrev pub else_given : Option Value → Option Value → Value
else_given (Some v) d = v
else_given None (Some d) = d
else_given None None = value.NoneValue

-- get(k, [d])
abbrev pub call_get : Setting → ℕ → ℕ → Value → Arguments → Action Value
call_get w levels line d g = do
  a ← positional line g >>= one_or_two line
  _ ← check_key w levels line a.0
  v ← value_under w d a.0
  give (else_given v a.1)

-- items(): a new list of pairs
abbrev pub pair_up : ℕ → Value × Value → Action Value
pair_up line e = new_tuple line (e.0 ∷ e.1 ∷ [])

abbrev pub call_items : Setting → ℕ → Value → Arguments → Action Value
call_items w line d g = do
  _ ← positional line g >>= no_value line
  ps ← with_entries_of w d (each (pair_up line))
  new_list line ps

-- keys() and values(): new lists
abbrev pub call_keys : Setting → ℕ → Value → Arguments → Action Value
call_keys w line d g = do
  _ ← positional line g >>= no_value line
  with_entries_of w d (λ es. new_list line (map (λ e. e.0) es))

abbrev pub call_values : Setting → ℕ → Value → Arguments → Action Value
call_values w line d g = do
  _ ← positional line g >>= no_value line
  with_entries_of w d (λ es. new_list line (map (λ e. e.1) es))

-- pop(k, [d]): the value is taken out; if the key is absent, d, or `key`
abbrev pub take_out : Setting → ℕ → Value → Value → Option Value → Option Value → Action Value
take_out w line d k (Some v) x = change w line d (change_to.Delete k) >>= λ _. give v
take_out w line d k None x = found code.Key line x

abbrev pub call_dict_pop : Setting → ℕ → ℕ → Value → Arguments → Action Value
call_dict_pop w levels line d g = do
  a ← positional line g >>= one_or_two line
  _ ← guard w line d
  _ ← check_key w levels line a.0
  v ← value_under w d a.0
  take_out w line d a.0 v a.1

-- popitem(): the first entry as a pair, taken out
abbrev pub call_popitem : Setting → ℕ → Value → Arguments → Action Value
call_popitem w line d g = do
  _ ← positional line g >>= no_value line
  _ ← guard w line d
  e ← with_entries_of w d (λ es. found code.Key line (slice_get es 0))
  p ← pair_up line e
  _ ← change w line d (change_to.Delete e.0)
  give p

-- setdefault(k, [d]): the value; if the key is absent, d or None is put
abbrev pub put_default : Setting → ℕ → Value → Value → Option Value → Option Value → Action Value
put_default w line d k (Some v) x = give v
put_default w line d k None x = put_entry w line d k (else_given None x) >>= λ _. give (else_given None x)

abbrev pub call_setdefault : Setting → ℕ → ℕ → Value → Arguments → Action Value
call_setdefault w levels line d g = do
  a ← positional line g >>= one_or_two line
  _ ← guard w line d
  _ ← check_key w levels line a.0
  v ← value_under w d a.0
  put_default w line d a.0 v a.1

-- update([x], **kw)
abbrev pub call_update : Setting → ℕ → ℕ → Value → Arguments → Action Value
call_update w levels line d g = do
  x ← none_or_one line g.positional
  _ ← update_with w levels line d x g.named (guard w line d)
  give value.NoneValue

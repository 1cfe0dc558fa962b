-- `set`, and the methods of sets.
use Rattle.std.specs.Prelude.{ℕ, List, [], ◌∷◌, Option, Some, None, slice_get}
use Rattle.star_store.specs.declared.values.Value.{Value}
use Rattle.star_store.specs.declared.values.Value.TheVariants as value
use Rattle.star_store.specs.declared.names.SetMethod.{SetMethod}
use Rattle.star_store.specs.declared.names.SetMethod.TheVariants as set_method
use Rattle.star_store.specs.declared.arena.write.Change.TheVariants as change_to
use Rattle.star_meaning.specs.declared.fault.FaultCode.TheVariants as code
use Rattle.star_meaning.specs.declared.merge.Merge.{Merge}
use Rattle.star_meaning.specs.declared.merge.Merge.TheVariants as merge
use Rattle.star_meaning.specs.declared.merge.Relation.{Relation}
use Rattle.star_meaning.specs.declared.merge.Relation.TheVariants as relation
use Rattle.star_meaning.specs.Run.{Action, ◌>>=◌, give, found, seeing}
use Rattle.star_meaning.specs.Program.{Setting}
use Rattle.star_meaning.specs.Values.{content, check_key, place_in, guard, change, new_set}
use Rattle.star_meaning.specs.Entries.{with_elements}
use Rattle.star_meaning.specs.Subscript.{entries_in}
use Rattle.star_meaning.specs.Sets.{take_elements, merge_new, merge_into, put_element, relate}
use Rattle.star_meaning.specs.declared.given.Arguments.{Arguments}
use Rattle.star_meaning.specs.Arguments.{positional, only_one, none_or_one, no_value}
use Rattle.star_meaning.specs.DictMethods.{with_entries_of}
use Rattle.star_meaning.specs.ListMethods.{call_clear}

-- set([it])
abbrev pub elements_of : Setting → ℕ → ℕ → Option Value → Action (List Value)
elements_of w levels line None = give []
elements_of w levels line (Some x) = take_elements w levels line x

abbrev pub call_set : Setting → ℕ → ℕ → Arguments → Action Value
call_set w levels line g = do
  x ← positional line g >>= none_or_one line
  xs ← elements_of w levels line x
  seeing (λ s. new_set line (with_elements w s [] xs))

-- add(x)
abbrev pub call_add : Setting → ℕ → ℕ → Value → Arguments → Action Value
call_add w levels line v g = do
  x ← positional line g >>= only_one line
  _ ← guard w line v
  _ ← check_key w levels line x
  _ ← put_element w line v x
  give value.NoneValue

-- discard(x), remove(x): the element is taken out; if it is absent, nothing, or `key`
abbrev pub take_element : Setting → ℕ → Value → Value → Option Value → Option ℕ → Action Value
take_element w line v x absent (Some i) = change w line v (change_to.Delete x) >>= λ _. give value.NoneValue
take_element w line v x absent None = found code.Key line absent

abbrev pub call_out : Setting → ℕ → ℕ → Option Value → Value → Arguments → Action Value
call_out w levels line absent v g = do
  x ← positional line g >>= only_one line
  _ ← guard w line v
  _ ← check_key w levels line x
  seeing (λ s. take_element w line v x absent (place_in w s x (entries_in (content w s v))))

-- pop(): the first element, taken out
abbrev pub call_first : Setting → ℕ → Value → Arguments → Action Value
call_first w line v g = do
  _ ← positional line g >>= no_value line
  _ ← guard w line v
  e ← with_entries_of w v (λ es. found code.Key line (slice_get es 0))
  _ ← change w line v (change_to.Delete e.0)
  give e.0

-- union(*others) and the like: a new set
abbrev pub call_merge : Setting → ℕ → ℕ → Merge → Value → Arguments → Action Value
call_merge w levels line m v g = positional line g >>= λ xs. with_entries_of w v (λ es. merge_new w levels line m es xs)

-- update(*others) and the like: a write
abbrev pub call_merge_into : Setting → ℕ → ℕ → Merge → Value → Arguments → Action Value
call_merge_into w levels line m v g =
    positional line g >>= λ xs. merge_into w levels line m v xs >>= λ _. give value.NoneValue

-- symmetric_difference(other), and the same as a write
abbrev pub call_merge_one : Setting → ℕ → ℕ → Value → Arguments → Action Value
call_merge_one w levels line v g = do
  x ← positional line g >>= only_one line
  with_entries_of w v (λ es. merge_new w levels line merge.SymmetricDifference es (x ∷ []))

abbrev pub call_merge_one_into : Setting → ℕ → ℕ → Value → Arguments → Action Value
call_merge_one_into w levels line v g = do
  x ← positional line g >>= only_one line
  _ ← merge_into w levels line merge.SymmetricDifference v (x ∷ [])
  give value.NoneValue

-- isdisjoint(other), issubset(other), issuperset(other)
abbrev pub call_relate : Setting → ℕ → ℕ → Relation → Value → Arguments → Action Value
call_relate w levels line r v g = do
  x ← positional line g >>= only_one line
  with_entries_of w v (λ es. relate w levels line r es x)

-- a call of a method of a set
unfoldable pub call_on_set : Setting → ℕ → ℕ → SetMethod → Value → Arguments → Action Value
call_on_set w levels line set_method.Add v g = call_add w levels line v g
call_on_set w levels line set_method.Clear v g = call_clear w line v g
call_on_set w levels line set_method.Difference v g = call_merge w levels line merge.Difference v g
call_on_set w levels line set_method.DifferenceUpdate v g = call_merge_into w levels line merge.Difference v g
call_on_set w levels line set_method.Discard v g = call_out w levels line (Some value.NoneValue) v g
call_on_set w levels line set_method.Intersection v g = call_merge w levels line merge.Intersection v g
call_on_set w levels line set_method.IntersectionUpdate v g = call_merge_into w levels line merge.Intersection v g
call_on_set w levels line set_method.Isdisjoint v g = call_relate w levels line relation.IsDisjoint v g
call_on_set w levels line set_method.Issubset v g = call_relate w levels line relation.IsSubset v g
call_on_set w levels line set_method.Issuperset v g = call_relate w levels line relation.IsSuperset v g
call_on_set w levels line set_method.Pop v g = call_first w line v g
call_on_set w levels line set_method.Remove v g = call_out w levels line None v g
call_on_set w levels line set_method.SymmetricDifference v g = call_merge_one w levels line v g
call_on_set w levels line set_method.SymmetricDifferenceUpdate v g = call_merge_one_into w levels line v g
call_on_set w levels line set_method.Union v g = call_merge w levels line merge.Union v g
call_on_set w levels line set_method.Update v g = call_merge_into w levels line merge.Union v g

-- Sets, of the extended language: a set and others are merged, as a new set or as a write. A set is a dictionary whose
-- values are all None.
use Rattle.std.specs.Prelude.{ℕ, nat_eq, Bool, true, false, not, List, [], ◌∷◌, ◌++◌, length, filter, is_some}
use Rattle.star_store.specs.declared.values.Value.{Value}
use Rattle.star_store.specs.declared.values.Value.TheVariants as value
use Rattle.star_store.specs.declared.values.Cell.TheVariants as cell
use Rattle.star_store.specs.declared.arena.write.Change.TheVariants as change_to
use Rattle.star_meaning.specs.declared.fault.FaultCode.TheVariants as code
use Rattle.star_meaning.specs.declared.merge.Merge.{Merge}
use Rattle.star_meaning.specs.declared.merge.Merge.TheVariants as merge
use Rattle.star_meaning.specs.declared.merge.Relation.{Relation}
use Rattle.star_meaning.specs.declared.merge.Relation.TheVariants as relation
use Rattle.star_meaning.specs.Run.{State, Action, ◌>>=◌, give, pay, check, each, all_of, seeing}
use Rattle.star_meaning.specs.Program.{Setting}
use Rattle.star_meaning.specs.Values.{Content, Held, with_content, count_of, take_all, check_key, place_in, guard, change, new_set}
use Rattle.star_meaning.specs.Entries.{with_elements}
use Rattle.star_meaning.specs.Subscript.{put_entry, entries_in}

-- whether a set has an element
abbrev pub has_element : Setting → State → List (Value × Value) → Value → Bool
has_element w s es x = is_some (place_in w s x es)

-- the elements of a set that another one has, those that it does not have, and items that a set does not have
abbrev pub those_in : Setting → State → List (Value × Value) → List (Value × Value) → List (Value × Value)
those_in w s fs es = filter (λ e. has_element w s fs e.0) es

abbrev pub those_out : Setting → State → List (Value × Value) → List (Value × Value) → List (Value × Value)
those_out w s fs es = filter (λ e. not (has_element w s fs e.0)) es

abbrev pub new_to : Setting → State → List (Value × Value) → List Value → List Value
new_to w s es xs = filter (λ x. not (has_element w s es x)) xs

-- the elements of a set that each of some others has
abbrev pub those_in_all : Setting → State → List (Value × Value) → List (List Value) → List (Value × Value)
those_in_all w s es [] = es
those_in_all w s es (xs ∷ xss) = those_in_all w s (those_in w s (with_elements w s [] xs) es) xss

-- the items of rows, in order
abbrev pub all_items : List (List Value) → List Value
all_items [] = []
all_items (xs ∷ xss) = xs ++ all_items xss

-- the elements of a set that stay if it is merged with others
abbrev pub kept : Setting → State → Merge → List (Value × Value) → List (List Value) → List (Value × Value)
kept w s merge.Union es xss = es
kept w s merge.Intersection es xss = those_in_all w s es xss
kept w s merge.Difference es xss = those_out w s (with_elements w s [] (all_items xss)) es
kept w s merge.SymmetricDifference es xss = those_out w s (with_elements w s [] (all_items xss)) es

-- the items that are added to them
abbrev pub added : Setting → State → Merge → List (Value × Value) → List (List Value) → List Value
added w s merge.Union es xss = all_items xss
added w s merge.SymmetricDifference es xss = new_to w s es (all_items xss)
added w s _ es xss = []

abbrev pub merged : Setting → State → Merge → List (Value × Value) → List (List Value) → List (Value × Value)
merged w s m es xss = with_elements w s (kept w s m es xss) (added w s m es xss)

-- the others are iterable, else `type`
abbrev pub check_other : Setting → ℕ → Value → Action (Unit {0})
check_other w line x = count_of w line x >>= λ _. give tt

abbrev pub check_others : Setting → ℕ → List Value → Action (Unit {0})
check_others w line xs = all_of (check_other w line) xs

-- 1 for each element of the set itself, but not for a union
abbrev pub pay_elements : ℕ → Merge → List (Value × Value) → Action (Unit {0})
pay_elements line merge.Union es = give tt
pay_elements line _ es = pay line (length es)

-- whether the items of a value are keys already: those of a dictionary or a set
abbrev pub has_keys : Content → Bool
has_keys (Held (cell.Dict es)) = true
has_keys (Held (cell.Set es)) = true
has_keys _ = false

abbrev pub check_elements : Setting → ℕ → ℕ → List Value → Bool → Action (Unit {0})
check_elements w levels line xs true = give tt
check_elements w levels line xs false = all_of (check_key w levels line) xs

-- all items of an iterable as elements: each is checked as a key, unless it is one already
unfoldable pub take_elements : Setting → ℕ → ℕ → Value → Action (List Value)
take_elements w levels line x = do
  xs ← take_all w line x
  _ ← with_content w x (λ c. check_elements w levels line xs (has_keys c))
  give xs

-- x.union(*others) and the like, and x | y: a new set
unfoldable pub merge_new : Setting → ℕ → ℕ → Merge → List (Value × Value) → List Value → Action Value
merge_new w levels line m es others = do
  _ ← check_others w line others
  _ ← pay_elements line m es
  xss ← each (take_elements w levels line) others
  seeing (λ s. new_set line (merged w s m es xss))

-- an element is put into an existing set, and 1 is paid if it is new
abbrev pub put_element : Setting → ℕ → Value → Value → Action (Unit {0})
put_element w line v x = put_entry w line v x value.NoneValue

-- an element that stays
abbrev pub put_back : Setting → ℕ → Value → Value × Value → Action (Unit {0})
put_back w line v e = change w line v (change_to.Put e.0 e.1) >>= λ _. give tt

-- a set with these elements alone
abbrev pub reset : Setting → ℕ → Value → List (Value × Value) → Action (Unit {0})
reset w line v es = change w line v change_to.Clear >>= λ _. all_of (put_back w line v) es

abbrev pub keep_only : Setting → ℕ → Value → Merge → List (Value × Value) → Action (Unit {0})
keep_only w line v merge.Union es = give tt
keep_only w line v _ es = reset w line v es

abbrev pub write_merged : Setting → ℕ → Value → List (Value × Value) → List Value → Merge → Action (Unit {0})
write_merged w line v es xs m = keep_only w line v m es >>= λ _. all_of (put_element w line v) xs

-- x.update(*others) and the like, and x |= y: the same as a write
unfoldable pub merge_into : Setting → ℕ → ℕ → Merge → Value → List Value → Action (Unit {0})
merge_into w levels line m v others = do
  _ ← check_others w line others
  _ ← guard w line v
  _ ← with_content w v (λ c. pay_elements line m (entries_in c))
  xss ← each (take_elements w levels line) others
  with_content w v
      (λ c. seeing (λ s. write_merged w line v (kept w s m (entries_in c) xss) (added w s m (entries_in c) xss) m))

-- x op= y of two sets; with a value of another type `type`
abbrev pub is_set : Content → Bool
is_set (Held (cell.Set es)) = true
is_set _ = false

abbrev pub augment_set : Setting → ℕ → ℕ → Merge → Value → Value → Action Value
augment_set w levels line m x y = do
  _ ← with_content w y (λ d. check code.BadType line (is_set d))
  _ ← merge_into w levels line m x (y ∷ [])
  give x

-- whether a relation holds between the elements of a set and the items of another value
abbrev pub is_related : Setting → State → Relation → List (Value × Value) → List Value → Bool
is_related w s relation.IsDisjoint es xs = nat_eq (length (those_in w s (with_elements w s [] xs) es)) 0
is_related w s relation.IsSubset es xs = nat_eq (length (those_out w s (with_elements w s [] xs) es)) 0
is_related w s relation.IsSuperset es xs = nat_eq (length (new_to w s es xs)) 0

unfoldable pub relate : Setting → ℕ → ℕ → Relation → List (Value × Value) → Value → Action Value
relate w levels line r es other = do
  _ ← check_other w line other
  _ ← pay line (length es)
  xs ← take_elements w levels line other
  seeing (λ s. give (value.Bool (is_related w s r es xs)))

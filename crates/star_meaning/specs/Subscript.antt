-- `x[i]`, `x[i] = v` and `x[a:b:c]`.
use Rattle.std.specs.Prelude.{ℕ, zero, suc, ◌+◌, ◌-◌, nat_eq, nat_lt, Bool, true, false, not, ◌&&◌, ◌||◌, List, [], ◌∷◌, length, Option, Some, None, slice_get, ℤ, pos, negsuc, ◌+ℤ◌, ◌-ℤ◌, ◌*ℤ◌, unsigned_abs, int_lt, if◌then◌else◌}
use Rattle.std.specs.List.{filter_map, list_all}
use Rattle.std.specs.Int.{int_min, int_max}
use Rattle.std.specs.Ordering.{int_eq}
use Rattle.star_store.specs.declared.values.Value.{Value}
use Rattle.star_store.specs.declared.values.Cell.TheVariants as cell
use Rattle.star_store.specs.declared.arena.write.Change.TheVariants as change_to
use Rattle.star_store.specs.declared.range.Range.{Range}
use Rattle.star_store.specs.Range.{range_length}
use Rattle.star_store.specs.Arithmetic.{checked}
use Rattle.star_dialect.specs.declared.Dialect.{Dialect}
use Rattle.star_dialect.specs.declared.Dialect.TheVariants as dialect
use Rattle.star_meaning.specs.declared.fault.FaultCode.TheVariants as code
use Rattle.star_meaning.specs.Run.{Action, ◌>>=◌, give, fail, pay, check, found, agreed, seeing, build}
use Rattle.star_meaning.specs.Program.{Setting}
use Rattle.star_meaning.specs.Values.{Content, Nothing, Number, Held, content, with_content, item_in, want_int, new_text, new_tuple, new_list, check_key, place_in, value_in, guard, change}

-- a place counted from the front or, below 0, from the end
abbrev pub place_from : ℕ → ℤ → Option ℕ
place_from len (pos i) = if nat_lt i len then Some i else None
place_from len (negsuc i) = if nat_lt i len then Some (len - (i + 1)) else None

-- the item of a list, tuple or range at an int: `type` for another index, `index` outside
abbrev pub row_item : Setting → ℕ → Content → ℕ → Value → Action Value
row_item w line c len i = do
  z ← want_int w line i
  at ← found code.Index line (place_from len z)
  found code.Index line (item_in c at)

-- the byte of a string at an int, as a new string: `cut` if it is not ASCII
abbrev pub byte_at : Setting → ℕ → List ℕ → Value → Action Value
byte_at w line t i = do
  z ← want_int w line i
  at ← found code.Index line (place_from (length t) z)
  b ← found code.Index line (slice_get t at)
  _ ← check code.Cut line (nat_lt b 128)
  new_text line (b ∷ [])

-- the value under a key: the key is checked, and `key` if it is absent
abbrev pub entry_value : Setting → ℕ → ℕ → List (Value × Value) → Value → Action Value
entry_value w levels line es k =
    check_key w levels line k >>= λ _. seeing (λ s. found code.Key line (value_in w s k es))

abbrev pub item_of : Setting → ℕ → ℕ → Content → Value → Action Value
item_of w levels line (Held (cell.List xs)) i = row_item w line (Held (cell.List xs)) (length xs) i
item_of w levels line (Held (cell.Tuple xs)) i = row_item w line (Held (cell.Tuple xs)) (length xs) i
item_of w levels line (Held (cell.Range r)) i = row_item w line (Held (cell.Range r)) (range_length r) i
item_of w levels line (Held (cell.Text t)) i = byte_at w line t i
item_of w levels line (Held (cell.Dict es)) i = entry_value w levels line es i
item_of w levels line _ i = fail code.BadType line

-- x[i]
unfoldable pub index : Setting → ℕ → ℕ → Value → Value → Action Value
index w levels line x i = with_content w x (λ c. item_of w levels line c i)

-- 1 is paid for an entry that is new
abbrev pub pay_if_new : ℕ → Option ℕ → Action (Unit {0})
pay_if_new line None = pay line 1
pay_if_new line (Some i) = give tt

abbrev pub entries_in : Content → List (Value × Value)
entries_in (Held (cell.Dict es)) = es
entries_in (Held (cell.Set es)) = es
entries_in _ = []

-- puts an entry into an existing dictionary or set, and pays 1 if its key is new
unfoldable pub put_entry : Setting → ℕ → Value → Value → Value → Action (Unit {0})
put_entry w line d k v = do
  _ ← seeing (λ s. pay_if_new line (place_in w s k (entries_in (content w s d))))
  _ ← change w line d (change_to.Put k v)
  give tt

-- l[i] = v
abbrev pub set_item : Setting → ℕ → Value → ℕ → Value → Value → Action (Unit {0})
set_item w line x len i v = do
  _ ← guard w line x
  z ← want_int w line i
  at ← found code.Index line (place_from len z)
  _ ← change w line x (change_to.Set at v)
  give tt

-- d[k] = v
abbrev pub set_entry : Setting → ℕ → ℕ → Value → Value → Value → Action (Unit {0})
set_entry w levels line x k v = do
  _ ← guard w line x
  _ ← check_key w levels line k
  put_entry w line x k v

abbrev pub set_in : Setting → ℕ → ℕ → Content → Value → Value → Value → Action (Unit {0})
set_in w levels line (Held (cell.List xs)) x i v = set_item w line x (length xs) i v
set_in w levels line (Held (cell.Dict es)) x i v = set_entry w levels line x i v
set_in w levels line _ x i v = fail code.BadType line

-- x[i] = v: `type` unless x is a list or dictionary, then the write guard, then the index or the key
unfoldable pub set_index : Setting → ℕ → ℕ → Value → Value → Value → Action (Unit {0})
set_index w levels line x i v = with_content w x (λ c. set_in w levels line c x i v)

-- a part of a slice: absent, or an int or None, else `type`
abbrev pub part_of : Content → Option (Option ℤ)
part_of Nothing = Some None
part_of (Number z) = Some (Some z)
part_of _ = None

abbrev pub want_part : Setting → ℕ → Option Value → Action (Option ℤ)
want_part w line None = give None
want_part w line (Some v) = with_content w v (λ c. found code.BadType line (part_of c))

-- a place below 0 gets the length added, and is then clamped to two bounds; an absent one is at its end
abbrev pub from_end : ℕ → ℤ → ℤ
from_end n z = if int_lt z (pos 0) then z +ℤ pos n else z

abbrev pub bound_of : ℕ → ℤ → ℤ → ℤ → Option ℤ → ℤ
bound_of n low high absent None = absent
bound_of n low high absent (Some z) = int_min high (int_max low (from_end n z))

-- the places of a slice, as the ints of a range: upwards within 0 and the length, downwards within -1 and the last
-- place
abbrev pub slice_range : ℕ → Option ℤ → Option ℤ → ℤ → Range
slice_range n a b c =
    if int_lt c (pos 0)
    then record {
      start = bound_of n (negsuc 0) (pos n -ℤ pos 1) (pos n -ℤ pos 1) a;
      stop = bound_of n (negsuc 0) (pos n -ℤ pos 1) (negsuc 0) b;
      step = c;
    }
    else record { start = bound_of n (pos 0) (pos n) (pos 0) a; stop = bound_of n (pos 0) (pos n) (pos n) b; step = c }

-- a number of ints of a range, from the i-th on, as places
abbrev pub places_from : Range → ℕ → ℕ → List ℕ
places_from r zero i = []
places_from r (suc n) i = unsigned_abs (r.start +ℤ pos i *ℤ r.step) ∷ places_from r n (i + 1)

abbrev pub places_of : Range → List ℕ
places_of r = places_from r (range_length r) 0

-- the items at places
abbrev pub picked : {A : Type 0} → List A → List ℕ → List A
picked xs places = filter_map (slice_get xs) places

-- whether a place is the first byte of a character, or the end
abbrev pub is_first_byte : Option ℕ → Bool
is_first_byte None = true
is_first_byte (Some b) = nat_lt b 128 || nat_lt 191 b

abbrev pub is_boundary : List ℕ → ℕ → Bool
is_boundary t i = is_first_byte (slice_get t i)

-- a part of stride 1 that is not empty has both ends at characters' boundaries; with another stride each byte is ASCII
abbrev pub is_whole : List ℕ → Range → Bool
is_whole t r =
    if int_eq r.step (pos 1)
    then (nat_eq (range_length r) 0 || (is_boundary t (unsigned_abs r.start) && is_boundary t (unsigned_abs r.stop)))
    else list_all (λ b. nat_lt b 128) (picked t (places_of r))

abbrev pub text_slice : ℕ → List ℕ → Range → Action Value
text_slice line t r = check code.Cut line (is_whole t r) >>= λ _. new_text line (picked t (places_of r))

-- the ints of a range at the places of another one, which may begin or end outside of it: `overflow` for a bound or a step
-- outside 64 bits
abbrev pub range_slice : ℕ → Range → Range → Action Value
range_slice line r p = do
  start ← agreed line (checked (r.start +ℤ p.start *ℤ r.step))
  stop ← agreed line (checked (r.start +ℤ p.stop *ℤ r.step))
  step ← agreed line (checked (r.step *ℤ p.step))
  build line 1 (cell.Range (record { start = start; stop = stop; step = step }))

-- the part of a list, tuple, string or range at the places of a range
abbrev pub sliced : ℕ → Content → (ℕ → Range) → Action Value
sliced line (Held (cell.List xs)) r = new_list line (picked xs (places_of (r (length xs))))
sliced line (Held (cell.Tuple xs)) r = new_tuple line (picked xs (places_of (r (length xs))))
sliced line (Held (cell.Text t)) r = text_slice line t (r (length t))
sliced line (Held (cell.Range s)) r = range_slice line s (r (range_length s))
sliced line _ r = fail code.BadType line

-- whether a value has slices: a range has them in the extended language
abbrev pub has_range_slices : Dialect → Bool
has_range_slices dialect.Core = false
has_range_slices dialect.Extended = true

abbrev pub has_slices : Dialect → Content → Bool
has_slices d (Held (cell.List xs)) = true
has_slices d (Held (cell.Tuple xs)) = true
has_slices d (Held (cell.Text t)) = true
has_slices d (Held (cell.Range r)) = has_range_slices d
has_slices d _ = false

abbrev pub stride_of : Option ℤ → ℤ
stride_of None = pos 1
stride_of (Some z) = z

-- x[a:b:c]: `type` of the base, then of the parts in order; a stride of 0 is `value`
unfoldable pub slice : Setting → ℕ → Value → Option Value → Option Value → Option Value → Action Value
slice w line x a b c = do
  _ ← with_content w x (λ d. check code.BadType line (has_slices w.language.dialect d))
  start ← want_part w line a
  stop ← want_part w line b
  stride ← want_part w line c
  _ ← check code.BadValue line (not (int_eq (stride_of stride) (pos 0)))
  with_content w x (λ d. sliced line d (λ n. slice_range n start stop (stride_of stride)))

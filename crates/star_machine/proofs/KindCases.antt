-- The contents of values, by their kinds.
use Rattle.std.proofs.Common.{◌≡◌, Option, Some, None, refl}
use Rattle.star_store.specs.declared.values.Value.{Value}
use Rattle.star_store.specs.declared.values.Value.TheVariants as value
use Rattle.star_store.specs.declared.values.Cell.{Cell}
use Rattle.star_store.specs.declared.values.Cell.TheVariants as cell
use Rattle.star_store.specs.declared.range.Range.{Range}
use Rattle.star_machine.specs.declared.content.Kind.TheVariants as kind
use Rattle.star_meaning.specs.Run.{State}
use Rattle.star_meaning.specs.Program.{Setting, seen}
use Rattle.star_meaning.specs.Values.{Content, Held, content, held}
use Rattle.star_meaning.specs.Subscript.{entries_in}
use Rattle.star_machine.specs.Kinds.{kind_of, row_in, row_of, bytes_of}

row_held : (o : Option Cell) → row_of (held o) ≡ row_in o
row_held (Some c) = refl
row_held None = refl

pub row_seen : (w : Setting) (s : State) (v : Value) → row_of (content w s v) ≡ row_in (seen w s v)
row_seen w s value.NoneValue = refl
row_seen w s (value.Bool b) = refl
row_seen w s (value.Int n) = refl
row_seen w s (value.Builtin b) = refl
row_seen w s (value.Ref h a) = row_held (seen w s (value.Ref h a))

-- the content of a value of a kind
pub is_text : (c : Content) → kind_of c ≡ kind.Text → c ≡ Held (cell.Text (bytes_of c))
is_text (Held (cell.Text t)) h = refl
is_text _ h = cc

pub is_tuple : (c : Content) → kind_of c ≡ kind.Tuple → c ≡ Held (cell.Tuple (row_of c))
is_tuple (Held (cell.Tuple xs)) h = refl
is_tuple _ h = cc

pub is_list : (c : Content) → kind_of c ≡ kind.List → c ≡ Held (cell.List (row_of c))
is_list (Held (cell.List xs)) h = refl
is_list _ h = cc

pub is_dict : (c : Content) → kind_of c ≡ kind.Dict → c ≡ Held (cell.Dict (entries_in c))
is_dict (Held (cell.Dict es)) h = refl
is_dict _ h = cc

pub is_set : (c : Content) → kind_of c ≡ kind.Set → c ≡ Held (cell.Set (entries_in c))
is_set (Held (cell.Set es)) h = refl
is_set _ h = cc

pub is_range : (c : Content) (r : Range) → kind_of c ≡ kind.Range r → c ≡ Held (cell.Range r)
is_range (Held (cell.Range q)) r h = let e : q ≡ r = cc in cc
is_range _ r h = cc

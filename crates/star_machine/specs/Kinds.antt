-- The kinds of values, and the contents of values of a kind.
use Rattle.std.specs.Prelude.{ℕ, List, [], Option, Some}
use Rattle.std.specs.Option.{unwrap_or}
use Rattle.star_store.specs.declared.values.Value.{Value}
use Rattle.star_store.specs.declared.values.Cell.{Cell}
use Rattle.star_store.specs.declared.values.Cell.TheVariants as cell
use Rattle.star_machine.specs.declared.content.Kind.{Kind}
use Rattle.star_machine.specs.declared.content.Kind.TheVariants as kind
use Rattle.star_meaning.specs.Values.{Content, Nothing, Truth, Number, BuiltInFunction, Held, Nowhere, count_in}

abbrev pub kind_of : Content → Kind
kind_of Nothing = kind.Nothing
kind_of (Truth b) = kind.Truth b
kind_of (Number n) = kind.Number n
kind_of (BuiltInFunction b) = kind.BuiltInFunction b
kind_of (Held (cell.Text t)) = kind.Text
kind_of (Held (cell.Range r)) = kind.Range r
kind_of (Held (cell.Tuple xs)) = kind.Tuple
kind_of (Held (cell.List xs)) = kind.List
kind_of (Held (cell.Dict es)) = kind.Dict
kind_of (Held (cell.Set es)) = kind.Set
kind_of (Held (cell.Func f)) = kind.Function
kind_of (Held (cell.Frame f)) = kind.Frame
kind_of (Held (cell.Bound m v)) = kind.Method m v
kind_of (Held (cell.Struct fs)) = kind.Struct
kind_of Nowhere = kind.Nowhere

-- the items of a list or a tuple
abbrev pub row_in : Option Cell → List Value
row_in (Some (cell.List xs)) = xs
row_in (Some (cell.Tuple xs)) = xs
row_in _ = []

abbrev pub row_of : Content → List Value
row_of (Held c) = row_in (Some c)
row_of _ = []

-- the bytes of a string
abbrev pub bytes_of : Content → List ℕ
bytes_of (Held (cell.Text t)) = t
bytes_of _ = []

-- how many items an iterable has; none for another value
abbrev pub size_of : Content → ℕ
size_of c = unwrap_or (count_in c) 0

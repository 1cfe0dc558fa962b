-- Look-ups in dictionaries, as the store answers them.
use Rattle.std.proofs.Common.{◌≡◌, ℕ, List, length, Option, Some, None, refl, ap, ◌∙◌}
use Rattle.star_store.specs.declared.values.Value.{Value}
use Rattle.star_store.specs.declared.values.Value.TheVariants as value
use Rattle.star_store.specs.declared.values.Cell.{Cell}
use Rattle.star_store.specs.declared.values.Cell.TheVariants as cell
use Rattle.star_store.specs.Index.{entries_of}
use Rattle.star_store.specs.Key.{place_of, value_of}
use Rattle.star_store.specs.Key as keys
use Rattle.star_store.specs.Store.{Shelf, look}
use Rattle.star_meaning.specs.Program.{Setting, seen}
use Rattle.star_meaning.specs.Run.{State}
use Rattle.star_meaning.specs.Subscript.{entries_in}
use Rattle.star_meaning.specs.Values.{content, held, place_in, text_value, value_in}

held_entries : (o : Option Cell) → entries_of o ≡ entries_in (held o)
held_entries (Some (cell.Dict es)) = refl
held_entries (Some (cell.Text t)) = refl
held_entries (Some (cell.Range r)) = refl
held_entries (Some (cell.Tuple xs)) = refl
held_entries (Some (cell.List xs)) = refl
held_entries (Some (cell.Func f)) = refl
held_entries (Some (cell.Frame f)) = refl
held_entries (Some (cell.Bound m v)) = refl
held_entries (Some (cell.Struct fs)) = refl
held_entries (Some (cell.Set es)) = refl
held_entries None = refl

entries_same : (w : Setting) (s : State) (v : Value) → entries_of (look s.store w.shelf v) ≡ entries_in (content w s v)
entries_same w s value.NoneValue = refl
entries_same w s (value.Bool b) = refl
entries_same w s (value.Int n) = refl
entries_same w s (value.Builtin b) = refl
entries_same w s (value.Ref h a) = held_entries (seen w s (value.Ref h a))

-- the place of a key, and its value, if the state is given by its parts
pub place_told : (w : Setting) (m s : State) (shelf : Shelf) (key dict : Value) (r : Option ℕ) → m ≡ s → shelf ≡ w.shelf → r ≡ place_of (look m.store shelf) key (entries_of (look m.store shelf dict)) → r ≡ place_in w s key (entries_in (content w s dict))
place_told w m s shelf key dict r e h k =
    k
    ∙ ap (λ (t : State). place_of (look t.store shelf) key (entries_of (look t.store shelf dict))) e
    ∙ ap (λ (sh : Shelf). place_of (look s.store sh) key (entries_of (look s.store sh dict))) h
    ∙ ap (place_of (seen w s) key) (entries_same w s dict)

pub value_told : (w : Setting) (m s : State) (shelf : Shelf) (key dict : Value) (r : Option Value) → m ≡ s → shelf ≡ w.shelf → r ≡ value_of (look m.store shelf) key (entries_of (look m.store shelf dict)) → r ≡ value_in w s key (entries_in (content w s dict))
value_told w m s shelf key dict r e h k =
    k
    ∙ ap (λ (t : State). value_of (look t.store shelf) key (entries_of (look t.store shelf dict))) e
    ∙ ap (λ (sh : Shelf). value_of (look s.store sh) key (entries_of (look s.store sh dict))) h
    ∙ ap (value_of (seen w s) key) (entries_same w s dict)

-- and the value of a string
pub text_told : (w : Setting) (m s : State) (shelf : Shelf) (text : List ℕ) (dict : Value) (r : Option Value) → m ≡ s → shelf ≡ w.shelf → r ≡ keys.text_value (look m.store shelf) text (entries_of (look m.store shelf dict)) → r ≡ text_value w s text (entries_in (content w s dict))
text_told w m s shelf text dict r e h k =
    k
    ∙ ap (λ (t : State). keys.text_value (look t.store shelf) text (entries_of (look t.store shelf dict))) e
    ∙ ap (λ (sh : Shelf). keys.text_value (look s.store sh) text (entries_of (look s.store sh dict))) h
    ∙ ap (keys.text_value (seen w s) text) (entries_same w s dict)

-- and how many entries there are
pub count_told : (w : Setting) (m s : State) (shelf : Shelf) (dict : Value) (r : ℕ) → m ≡ s → shelf ≡ w.shelf → r ≡ length (entries_of (look m.store shelf dict)) → r ≡ length (entries_in (content w s dict))
count_told w m s shelf dict r e h k =
    k
    ∙ ap (λ (t : State). length (entries_of (look t.store shelf dict))) e
    ∙ ap (λ (sh : Shelf). length (entries_of (look s.store sh dict))) h
    ∙ ap length (entries_same w s dict)

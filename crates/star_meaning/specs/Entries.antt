-- The entries of a dictionary, or the elements of a set, with more put in.
use Rattle.std.specs.Prelude.{List, [], ◌∷◌, Option, Result, Ok, Err}
use Rattle.star_store.specs.declared.values.Value.{Value}
use Rattle.star_store.specs.declared.values.Value.TheVariants as value
use Rattle.star_store.specs.declared.fault.StoreFault.{StoreFault}
use Rattle.star_store.specs.Write.{put}
use Rattle.star_meaning.specs.Run.{State}
use Rattle.star_meaning.specs.Program.{Setting}
use Rattle.star_meaning.specs.Values.{place_in}

-- the entries with one more put in: a key that is there keeps its place
abbrev pub entries_after : List (Value × Value) → Result (Option Value × List (Value × Value)) StoreFault
    → List (Value × Value)
entries_after es (Ok r) = r.1
entries_after es (Err f) = es

abbrev pub with_entry : Setting → State → List (Value × Value) → Value × Value → List (Value × Value)
with_entry w s es e = entries_after es (put e.0 e.1 (place_in w s e.0 es) es)

-- the entries with others put in, in order
abbrev pub with_entries : Setting → State → List (Value × Value) → List (Value × Value) → List (Value × Value)
with_entries w s es [] = es
with_entries w s es (f ∷ fs) = with_entries w s (with_entry w s es f) fs

-- an element of a set is an entry whose value is None
abbrev pub element : Value → Value × Value
element x = (x, value.NoneValue)

-- the elements of a set with others put in, in order
abbrev pub with_elements : Setting → State → List (Value × Value) → List Value → List (Value × Value)
with_elements w s es [] = es
with_elements w s es (x ∷ xs) = with_elements w s (with_entry w s es (element x)) xs

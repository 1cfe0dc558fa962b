-- Variables by their names: a frame is a finite map from the names of its block to a value, or to nothing if the name
-- is unbound.
use Rattle.std.specs.Prelude.{ℕ, zero, suc, ◌+◌, nat_eq, Bool, true, false, not, ◌&&◌, List, [], ◌∷◌, ◌++◌, length, replicate, map, Option, Some, None, slice_get, if◌then◌else◌, codes}
use Rattle.std.specs.List.{list_any}
use Rattle.std.specs.Option.{option_and_then}
use Rattle.star_store.specs.declared.values.Value.{Value}
use Rattle.star_store.specs.declared.values.Value.TheVariants as value
use Rattle.star_store.specs.declared.values.Cell.{Cell}
use Rattle.star_store.specs.declared.values.Cell.TheVariants as cell
use Rattle.star_store.specs.declared.values.Frame.{Frame}
use Rattle.star_store.specs.declared.names.BuiltIn.{BuiltIn}
use Rattle.star_store.specs.declared.names.BuiltIn.TheVariants as built_in
use Rattle.star_store.specs.Names.{built_in_name}
use Rattle.star_store.specs.Store.{bound, global_of}
use Rattle.star_dialect.specs.declared.Dialect.{Dialect}
use Rattle.star_dialect.specs.declared.Dialect.TheVariants as dialect
use Rattle.star_dialect.specs.declared.Language.{Language}
use Rattle.star_tree.specs.declared.tree.Name.{Name}
use Rattle.star_meaning.specs.declared.fault.FaultCode.TheVariants as code
use Rattle.star_meaning.specs.declared.site.Site.{Site}
use Rattle.star_meaning.specs.Run.{State, Action, give, found, seeing, storing, make}
use Rattle.star_scope.specs.Loads.{is_private}
use Rattle.star_outline.specs.Names.{same_name, slot_of}
use Rattle.star_scope.specs.Places.{chain_length}
use Rattle.star_meaning.specs.Program.{Setting, Variables, names_of, published_of, seen}

-- the state of a name in a frame: nothing if its block does not bind the name, nothing inside if the name is unbound
abbrev pub in_frame : Setting → List ℕ → Frame → Option (Option Value)
in_frame w name f = option_and_then (λ i. slice_get f.slots i) (slot_of name (names_of w f.file f.block))

abbrev pub frame_of : Option Cell → Option Frame
frame_of (Some (cell.Frame f)) = Some f
frame_of _ = None

-- the first that is there
abbrev pub else_in : Option (Option Value) → Option (Option Value) → Option (Option Value)
else_in (Some v) rest = Some v
else_in None rest = rest

-- the state of the name in the nearest frame of the chain that has it
abbrev pub nearest : Setting → State → List ℕ → ℕ → Option Value → Option (Option Value)
nearest w s name zero frame = None
nearest w s name (suc n) frame =
    else_in (option_and_then (in_frame w name) (option_and_then (λ v. frame_of (seen w s v)) frame))
    (nearest w s name n (option_and_then (λ f. f.parent) (option_and_then (λ v. frame_of (seen w s v)) frame)))

-- the built-in functions of the core, and what the extended language has further: functions, and the module `json`
abbrev pub core_built_ins : List BuiltIn
core_built_ins =
    built_in.Abs ∷ built_in.All ∷ built_in.Any ∷ built_in.Bool ∷ built_in.Dict ∷ built_in.Enumerate ∷ built_in.Fail
    ∷ built_in.Int ∷ built_in.Len ∷ built_in.List ∷ built_in.Max ∷ built_in.Min ∷ built_in.Print ∷ built_in.Range
    ∷ built_in.Repr ∷ built_in.Reversed ∷ built_in.Sorted ∷ built_in.Str ∷ built_in.Tuple ∷ built_in.Type ∷ built_in.Zip
    ∷ []

abbrev pub further_built_ins : List BuiltIn
further_built_ins =
    built_in.Chr ∷ built_in.Dir ∷ built_in.Getattr ∷ built_in.Hasattr ∷ built_in.Hash ∷ built_in.Json ∷ built_in.Ord
    ∷ built_in.Set ∷ built_in.Struct ∷ []

abbrev pub built_ins : Dialect → List BuiltIn
built_ins dialect.Core = core_built_ins
built_ins dialect.Extended = core_built_ins ++ further_built_ins

-- the names of the language's own in a dialect, with their values
abbrev pub own_values : Dialect → List (List ℕ × Value)
own_values d =
    (codes "None", value.NoneValue) ∷ (codes "True", value.Bool true) ∷ (codes "False", value.Bool false)
    ∷ map (λ b. (built_in_name b, value.Builtin b)) (built_ins d)

-- recorded names, whose places are counted from a number on, each with its function
abbrev pub recorded_from : ℕ → List (List ℕ) → List (List ℕ × Value)
recorded_from i [] = []
recorded_from i (n ∷ ns) = (n, value.Builtin (built_in.Recorded i)) ∷ recorded_from (i + 1) ns

-- the names of the outermost block of a language, with their values
abbrev pub outermost : Language → List (List ℕ × Value)
outermost l = own_values l.dialect ++ recorded_from 0 l.recorded

-- whether the prelude's block has a name: its file's own block binds it, and it is not private
abbrev pub prelude_has : Setting → List ℕ → ℕ → Bool
prelude_has w name file = not (is_private name) && list_any (same_name name) (names_of w file 0)

-- the value of a name outside of the file: a name of the prelude, which may be unbound there, else one of the outermost
-- block
abbrev pub outside_prelude : Language → ℕ → List ℕ → Action Value
outside_prelude l line name = found code.Unbound line (global_of name (outermost l))

abbrev pub outside : Setting → Option ℕ → ℕ → ℕ → List ℕ → Action Value
outside w None file line name = outside_prelude w.language line name
outside w (Some prelude) file line name =
    if not (nat_eq prelude file) && prelude_has w name prelude
    then found code.Unbound line (option_and_then (λ p. global_of name p.globals) (published_of w prelude))
    else outside_prelude w.language line name

-- the value of a name: in the nearest frame that has it, where it may be unbound, else outside of the file
abbrev pub read_found : Setting → Site → List ℕ → Option (Option Value) → Action Value
read_found w p name (Some v) = found code.Unbound p.line v
read_found w p name None = outside w w.prelude p.file p.line name

unfoldable pub read_name : Setting → Site → Name → Action Value
read_name w p n = seeing (λ s. read_found w p n.text (nearest w s n.text chain_length (Some p.frame)))

-- the place of a name in the innermost frame
abbrev pub keyword_slot : Setting → State → Value → List ℕ → Option ℕ
keyword_slot w s frame name = option_and_then (λ f. slot_of name (names_of w f.file f.block))
    (frame_of (seen w s frame))

abbrev pub bind_at : Value → Value → Option ℕ → Action (Unit {0})
bind_at frame v None = give tt
bind_at frame v (Some i) = storing (bound frame i v)

-- gives a name of the innermost frame a value
unfoldable pub bind_name : Setting → Site → Name → Value → Action (Unit {0})
bind_name w p n v = seeing (λ s. bind_at p.frame v (keyword_slot w s p.frame n.text))

-- a new frame, with all names of its block unbound
unfoldable pub new_frame : Setting → ℕ → ℕ → Option Value → Action Value
new_frame w file number parent =
    make (cell.Frame (record {
      file = file;
      block = number;
      parent = parent;
      slots = replicate (length (names_of w file number)) None;
    }))

-- variables by their names
abbrev pub by_names : Setting → Variables
by_names w = record { read = read_name w; bind = bind_name w; frame = new_frame w }

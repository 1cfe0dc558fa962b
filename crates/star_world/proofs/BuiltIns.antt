-- The names outside of all files: the built-in functions of the core, then the further ones, then the recorded ones.
use Rattle.std.proofs.Common.{◌≡◌, ℕ, ◌+◌, Bool, true, false, List, [], ◌∷◌, ◌++◌, Option, Some, None, map, nat_eq, if◌then◌else◌, refl}
use Rattle.std.specs.Cmp.Lexicographic.{pointwise}
use Rattle.star_dialect.specs.declared.Language.{Language}
use Rattle.star_dialect.specs.Words.{index_from, index_of}
use Rattle.star_store.specs.declared.names.BuiltIn.{BuiltIn}
use Rattle.star_store.specs.declared.names.BuiltIn.TheVariants as built_in
use Rattle.star_store.specs.declared.values.Value.{Value}
use Rattle.star_store.specs.declared.values.Value.TheVariants as value
use Rattle.star_store.specs.Names.{built_in_name}
use Rattle.star_store.specs.Store.{global_of}
use Rattle.star_meaning.specs.Variables.{core_built_ins, further_built_ins, outermost, own_values, recorded_from}

abbrev row : List BuiltIn → List (List ℕ × Value)
row bs = map (λ b. (built_in_name b, value.Builtin b)) bs

abbrev or_else : Option Value → Option Value → Option Value
or_else (Some v) o = Some v
or_else None o = o

by_first : (b : Bool) (v : Value) (o p : Option Value) → (if b then Some v else or_else o p) ≡ or_else (if b then Some v else o) p
by_first true v o p = refl
by_first false v o p = refl

first_of : (name : List ℕ) (bs cs : List BuiltIn) → global_of name (row (bs ++ cs)) ≡ or_else (global_of name (row bs)) (global_of name (row cs))
first_of name [] cs = refl
first_of name (b ∷ bs) cs = rw (first_of name bs cs) (by_first (pointwise nat_eq (built_in_name b) name) (value.Builtin b) (global_of name (row bs)) (global_of name (row cs)))

-- a name of the core is found first
pub first_of_both : (name : List ℕ) → global_of name (row (core_built_ins ++ further_built_ins)) ≡ or_else (global_of name (row core_built_ins)) (global_of name (row further_built_ins))
first_of_both name = first_of name core_built_ins further_built_ins

rest_of : (name : List ℕ) (gs hs : List (List ℕ × Value)) → global_of name (gs ++ hs) ≡ or_else (global_of name gs) (global_of name hs)
rest_of name [] hs = refl
rest_of name (g ∷ gs) hs = rw (rest_of name gs hs) (by_first (pointwise nat_eq g.0 name) g.1 (global_of name gs) (global_of name hs))

-- a name of the language's own is found first, then a recorded one
pub own_first : (name : List ℕ) (l : Language) → global_of name (outermost l) ≡ or_else (global_of name (own_values l.dialect)) (global_of name (recorded_from 0 l.recorded))
own_first name l = rest_of name (own_values l.dialect) (recorded_from 0 l.recorded)

-- the function with a place
abbrev placed : Option ℕ → Option Value
placed (Some i) = Some (value.Builtin (built_in.Recorded i))
placed None = None

by_name : (b : Bool) (i : ℕ) (o : Option ℕ) → (if b then Some (value.Builtin (built_in.Recorded i)) else placed o) ≡ placed (if b then Some i else o)
by_name true i o = refl
by_name false i o = refl

placed_from : (name : List ℕ) (i : ℕ) (ns : List (List ℕ)) → global_of name (recorded_from i ns) ≡ placed (index_from i name ns)
placed_from name i [] = refl
placed_from name i (n ∷ ns) = rw (placed_from name (i + 1) ns) (by_name (pointwise nat_eq n name) i (index_from (i + 1) name ns))

-- a recorded name has the function with its place
pub recorded_at : (name : List ℕ) (ns : List (List ℕ)) → global_of name (recorded_from 0 ns) ≡ placed (index_of name ns)
recorded_at name ns = placed_from name 0 ns

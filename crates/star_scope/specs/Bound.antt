-- The code's two sets of names: all names bound so far, and the names that must be bound alone.
use Rattle.std.specs.Prelude.{◌≡◌, ℕ, ◌&&◌, List, [], ◌∷◌, map, Bool}
use Rattle.std.specs.List.{list_any}
use Rattle.std.specs.Str.{bytes_eq}
use Rattle.std.specs.BTreeSet.{BTreeSet}
use denote.Ref.{Bor}
use Rattle.star_tree.specs.declared.tree.Name.{Name}
use Rattle.star_scope.specs.declared.conflicts.Bound.{Bound}
use Rattle.star_scope.specs.Conflicts.{Binding, conflicts}
use Rattle.star_scope.specs.Faults.{first_from}

-- the names of a set
abbrev pub names_of : BTreeSet (Bor (List ℕ)) → List (List ℕ)
names_of s = map (λ x. x.now) s.keys

abbrev pub is_in : List (List ℕ) → List ℕ → Bool
is_in names x = list_any (bytes_eq x) names

-- one set has the names of all bindings so far, the other the names that are bound alone
abbrev pub Knows : Bound → List Binding → Type 0
Knows b earlier = ((x : List ℕ) → is_in (names_of b.all) x ≡ list_any (λ e. bytes_eq x e.text) earlier)
    × ((x : List ℕ) → is_in (names_of b.alone) x ≡ list_any (λ e. bytes_eq x e.text && e.alone) earlier)

-- bindings after earlier ones, the latest first
abbrev pub after : List Binding → List Binding → List Binding
after earlier [] = earlier
after earlier (b ∷ bs) = after (b ∷ earlier) bs

-- the sets that know earlier bindings now know these too, and the first of their conflicts is found
abbrev pub Binds : List Binding → Bound → Bound → Type 0
Binds bs old new =
    (earlier : List Binding) → Knows old earlier → Knows new (after earlier bs)
    × (new.found ≡ first_from old.found (conflicts earlier bs))

abbrev pub binding : Name → Bool → Binding
binding n alone = record { text = n.text; position = n.position; alone = alone }

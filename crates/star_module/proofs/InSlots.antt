-- The globals of a file are found slot by slot.
use Rattle.std.proofs.Common.{◌≡◌, ◌<◌, ℕ, zero, suc, ◌+◌, Bool, true, false, List, [], ◌∷◌, ◌++◌, map, length, get_or, drop, slice_get, Option, Some, None, refl, ap, sym, ◌∙◌, add-one, append_assoc, arith}
use Rattle.std.proofs.lemmas.List.{map-append}
use Rattle.std.specs.Prelude.{if◌then◌else◌}
use denote.Ref.{Bor}
use Rattle.star_store.specs.declared.values.Value.{Value}
use Rattle.star_outline.specs.Names.{Names, has_name}
use Rattle.star_meaning.specs.Module.{bound_names, by_name, globals_of, if_bound, slots_of, without_loaded}
use Rattle.star_meaning.specs.Run.{State}
use Rattle.star_meaning.specs.Variables.{frame_of}
use Rattle.star_meaning.specs.Program.{Setting, names_of, seen}
use Rattle.star_module.specs.Globals.{all_now, borrowed, in_slots, own_loads, own_value}

-- the globals under names with slots, in order of the slots
abbrev unsorted : Names → List (Bor (List ℕ)) → List (Option Value) → List (List ℕ × Value)
unsorted loaded names slots = without_loaded loaded (bound_names (all_now names) slots)

nothing_bound : (names : Names) → bound_names names [] ≡ []
nothing_bound [] = refl
nothing_bound (n ∷ ns) = refl

no_slots : (loaded : Names) (names : List (Bor (List ℕ))) → unsorted loaded names [] ≡ []
no_slots loaded names = ap (without_loaded loaded) (nothing_bound (all_now names))

not_loaded : (b : Bool) (name : List ℕ) (v : Value) (gs : List (List ℕ × Value)) → (if b then gs else (name, v) ∷ gs) ≡ if_bound name (if b then None else Some v) gs
not_loaded true name v gs = refl
not_loaded false name v gs = refl

first_bound : (loaded : Names) (name : List ℕ) (o : Option Value) (gs : List (List ℕ × Value)) → without_loaded loaded (if_bound name o gs) ≡ if_bound name (own_value loaded name (Some o)) (without_loaded loaded gs)
first_bound loaded name None gs = refl
first_bound loaded name (Some v) gs = not_loaded (has_name loaded name) name v (without_loaded loaded gs)

from_slot : (loaded : Names) (names : List (Bor (List ℕ))) (slots : List (Option Value)) (i : ℕ) (d : Bor (List ℕ)) → i < length names
    → unsorted loaded (drop i names) (drop i slots) ≡ if_bound (get_or names i d).now (own_value loaded (get_or names i d).now (slice_get slots i)) (unsorted loaded (drop (suc i) names) (drop (suc i) slots))
from_slot loaded [] slots i d h = absurd (omega arith)
from_slot loaded (n ∷ ns) [] zero d h = sym (no_slots loaded ns)
from_slot loaded (n ∷ ns) (o ∷ os) zero d h = first_bound loaded n.now o (bound_names (all_now ns) os)
from_slot loaded (n ∷ ns) [] (suc i) d h = no_slots loaded (drop i ns) ∙ sym (no_slots loaded (drop (suc i) ns))
from_slot loaded (n ∷ ns) (o ∷ os) (suc i) d h = from_slot loaded ns os i d (omega arith)

next_slot : (loaded : Names) (names : List (Bor (List ℕ))) (slots : List (Option Value)) (i : ℕ) (d : Bor (List ℕ)) (o : Option Value) → i < length names → own_value loaded (get_or names i d).now (slice_get slots i) ≡ o
    → if_bound (get_or names i d).now o (unsorted loaded (drop (i + 1) names) (drop (i + 1) slots)) ≡ unsorted loaded (drop i names) (drop i slots)
next_slot loaded names slots i d o h e = rw add-one (sym (from_slot loaded names slots i d h ∙ ap (λ p. if_bound (get_or names i d).now p (unsorted loaded (drop (suc i) names) (drop (suc i) slots))) e))

-- a name that gives nothing leaves the others
pub passed : (loaded : Names) (names : List (Bor (List ℕ))) (slots : List (Option Value)) (i : ℕ) (d : Bor (List ℕ)) (found fresh : List (Bor (List ℕ) × Value)) (whole : List (List ℕ × Value))
    → i < length names → own_value loaded (get_or names i d).now (slice_get slots i) ≡ None → fresh ≡ found
    → borrowed found ++ unsorted loaded (drop i names) (drop i slots) ≡ whole
    → borrowed fresh ++ unsorted loaded (drop (i + 1) names) (drop (i + 1) slots) ≡ whole
passed loaded names slots i d found fresh whole h e k w = ap (λ xs. borrowed xs ++ unsorted loaded (drop (i + 1) names) (drop (i + 1) slots)) k ∙ ap (λ gs. borrowed found ++ gs) (next_slot loaded names slots i d None h e) ∙ w

-- one that gives a value is found
pub taken : (loaded : Names) (names : List (Bor (List ℕ))) (slots : List (Option Value)) (i : ℕ) (d : Bor (List ℕ)) (v : Value) (found fresh : List (Bor (List ℕ) × Value)) (whole : List (List ℕ × Value))
    → i < length names → own_value loaded (get_or names i d).now (slice_get slots i) ≡ Some v → fresh ≡ found ++ (get_or names i d, v) ∷ []
    → borrowed found ++ unsorted loaded (drop i names) (drop i slots) ≡ whole
    → borrowed fresh ++ unsorted loaded (drop (i + 1) names) (drop (i + 1) slots) ≡ whole
taken loaded names slots i d v found fresh whole h e k w =
    let rest = unsorted loaded (drop (i + 1) names) (drop (i + 1) slots) in
    let name = (get_or names i d).now in
    ap (λ xs. borrowed xs ++ rest) k
    ∙ ap (λ gs. gs ++ rest) (map-append (λ x. (x.0.now, x.1)) found ((get_or names i d, v) ∷ []))
    ∙ append_assoc (borrowed found) ((name, v) ∷ []) rest
    ∙ ap (λ gs. borrowed found ++ gs) (next_slot loaded names slots i d (Some v) h e)
    ∙ w

-- without slots nothing is global
pub no_globals : (w : Setting) (s : State) (frame : Value) → [] ≡ slots_of (frame_of (seen w s frame)) → [] ≡ globals_of w s frame
no_globals w s frame h = ap by_name (sym (ap (in_slots w (names_of w w.home 0)) (sym h) ∙ ap (without_loaded (own_loads w)) (nothing_bound (names_of w w.home 0))))

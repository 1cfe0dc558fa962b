-- Data that is the same in two stores.
use Rattle.std.proofs.Common.{◌≡◌, ◌<◌, ◌+◌, ℕ, zero, suc, Bool, true, false, ◌&&◌, List, [], ◌∷◌, length, drop, get_or, Some, refl, ap, sym, subst, ◌∙◌, arith}
use Rattle.std.proofs.lemmas.List.{at_drop_more}
use Rattle.star_store.specs.declared.values.Value.{Value}
use Rattle.star_store.specs.declared.values.Cell.{Cell}
use Rattle.star_store.specs.declared.values.HeapCell.{HeapCell}
use Rattle.star_store.specs.Write.{cell_at}
use Rattle.star_needs.specs.Changed.{data_by, same_at, same_cell, same_entries, same_value}

-- two cells with the same content, if one level less is opened in them
pub same_opened : (own other : List HeapCell) (home levels low at : ℕ) (c d : Cell) → levels ≡ low + 1 → cell_at own at ≡ Some c → cell_at other at ≡ Some d → same_cell (data_by home (same_at own other home low)) (Some c) (Some d) ≡ true → same_at own other home levels at ≡ true
unfolding same_at
same_opened own other home zero low at c d e x y h = absurd (let no : ⊥ = omega (arith, e) in no)
same_opened own other home (suc levels) low at c d e x y h =
    let one : low ≡ levels = omega (arith, e) in
    ap (λ o. same_cell (data_by home (same_at own other home levels)) o (cell_at other at)) x
    ∙ (ap (λ o. same_cell (data_by home (same_at own other home levels)) (Some c) o) y
    ∙ subst (λ l. same_cell (data_by home (same_at own other home l)) (Some c) (Some d) ≡ true) one h)

one_entry : (a b c : Bool) → (a && (b && true)) ≡ true → (a && (b && c)) ≡ c
one_entry true true c h = refl
one_entry true false c h = absurd (let no : ⊥ = cc in no)
one_entry false b c h = absurd (let no : ⊥ = cc in no)

-- rows of entries, of which those at a place are the same, are the same if the rest is
pub entries_next : (fits : Value → Bool) (xs ys : List (Value × Value)) (i : ℕ) (d e : Value × Value) → i < length xs → i < length ys → same_entries fits (get_or xs i d ∷ []) (get_or ys i e ∷ []) ≡ true
    → same_entries fits (drop (i + 1) xs) (drop (i + 1) ys) ≡ same_entries fits (drop i xs) (drop i ys)
entries_next fits xs ys i d e less below same =
    let a : Value × Value = get_or xs i d in
    let b : Value × Value = get_or ys i e in
    sym (at_drop_more (λ zs. same_entries fits zs (drop i ys)) xs i d less
    ∙ (at_drop_more (λ zs. same_entries fits (a ∷ drop (i + 1) xs) zs) ys i e below
    ∙ one_entry (same_value a.0 b.0 && fits a.0) (same_value a.1 b.1 && fits a.1) (same_entries fits (drop (i + 1) xs) (drop (i + 1) ys)) same))

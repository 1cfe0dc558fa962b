-- The names whose calls are recorded are among those of the outermost block.
use Rattle.std.proofs.Common.{◌≡◌, ℕ, ◌+◌, Bool, true, false, ◌||◌, List, [], ◌∷◌, Option, Some, None, is_some, if◌then◌else◌, refl, ap, sym, ◌∙◌}
use Rattle.std.specs.List.{list_any}
use Rattle.std.specs.Str.{bytes_eq}
use Rattle.std.proofs.lemmas.List.Folds.{list_any-append}
use Rattle.std.proofs.lemmas.Cmp.{nat_list_eq_equiv}
use Rattle.star_dialect.specs.declared.Language.{Language}
use Rattle.star_dialect.specs.Words.{index_from, index_of}
use Rattle.star_outline.specs.Names.{has_name, same_name}
use Rattle.star_scope.specs.Places.{outermost_names, own_names}

found : (b c : Bool) (i : ℕ) (o : Option ℕ) → b ≡ c → is_some (if b then Some i else o) ≡ (c || is_some o)
found true c i o e = ap (λ d. d || is_some o) e
found false c i o e = ap (λ d. d || is_some o) e

index_any : (i : ℕ) (name : List ℕ) (names : List (List ℕ)) → is_some (index_from i name names) ≡ has_name names name
index_any i name [] = refl
index_any i name (n ∷ names) =
    found (bytes_eq n name) (same_name name n) i (index_from (i + 1) name names) (nat_list_eq_equiv.symm n name)
    ∙ ap (λ b. same_name name n || b) (index_any (i + 1) name names)

-- a name is the language's own, or recorded
pub either_name : (l : Language) (name : List ℕ) → has_name (outermost_names l) name ≡ (has_name (own_names l.dialect) name || is_some (index_of name l.recorded))
either_name l name = list_any-append (same_name name) (own_names l.dialect) l.recorded ∙ ap (λ b. has_name (own_names l.dialect) name || b) (sym (index_any 0 name l.recorded))

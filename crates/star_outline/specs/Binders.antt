-- The blocks that bind each name, as the code notes them.
use Rattle.std.specs.Prelude.{◌≡◌, ℕ, Bool, true, false, List, Option, Some, None, slice_get}
use Rattle.std.specs.Cmp.Lexicographic.{slice_cmp}
use Rattle.std.specs.Ordering.{nat_cmp}
use Rattle.std.specs.BTreeMap.{get_by}
use Rattle.std.specs.BTreeSet.{BTreeSet, contains_by}
use denote.Ref.{Bor}
use Rattle.star_outline.specs.declared.binders.Binders.{Binders}
use Rattle.star_outline.specs.Names.{slot_of}
use Rattle.star_outline.specs.Outlines.{Block, names_in}

-- whether a number is noted
abbrev pub noted : Option (BTreeSet ℕ) → ℕ → Bool
noted None number = false
noted (Some numbers) number = contains_by (nat_cmp number) numbers

abbrev pub noted_at : List (BTreeSet ℕ) → Option ℕ → ℕ → Bool
noted_at numbers None number = false
noted_at numbers (Some id) number = noted (slice_get numbers id) number

-- whether a number is noted for a name
abbrev pub binds : Binders → List ℕ → ℕ → Bool
binds b name number = noted_at b.numbers.items (get_by (λ k. slice_cmp nat_cmp name k.now) b.ids) number

-- each block that has a name is noted for it
abbrev pub Covers : List Block → Binders → Type 0
Covers blocks b =
    (name : List ℕ) (number slot : ℕ) → slot_of name (names_in blocks number) ≡ Some slot → binds b name number ≡ true

abbrev pub is_binder : Option (Bor (BTreeSet ℕ)) → ℕ → Bool
is_binder None number = false
is_binder (Some numbers) number = contains_by (nat_cmp number) numbers.now

-- each block that has this name is among these
abbrev pub AreBinders : List Block → List ℕ → Option (Bor (BTreeSet ℕ)) → Type 0
AreBinders blocks name numbers =
    (number slot : ℕ) → slot_of name (names_in blocks number) ≡ Some slot → is_binder numbers number ≡ true

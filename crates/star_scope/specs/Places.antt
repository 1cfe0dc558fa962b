-- The spot of a name in a chain of blocks, and the names that have none.
use Rattle.std.specs.Prelude.{◌≡◌, ◌≤◌, ℕ, ◌+◌, Bool, true, false, not, ◌&&◌, List, [], ◌∷◌, ◌++◌, length, Option, Some, None, if◌then◌else◌, codes, slice_get}
use Rattle.std.specs.List.{flat_map}
use Rattle.std.specs.Option.{option_and_then}
use Rattle.star_dialect.specs.declared.Dialect.{Dialect}
use Rattle.star_dialect.specs.declared.Dialect.TheVariants as dialect
use Rattle.star_dialect.specs.declared.Language.{Language}
use Rattle.star_tree.specs.declared.tree.Name.{Name}
use Rattle.star_scope.specs.declared.error.ScopeFault.TheVariants as fault
use Rattle.star_scope.specs.declared.error.LocatedFault.{LocatedFault}
use Rattle.star_scope.specs.declared.spot.Spot.{Spot}
use Rattle.star_scope.specs.declared.spot.Spot.TheVariants as spot
use Rattle.star_scope.specs.Faults.{at}
use Rattle.star_scope.specs.Loads.{is_private}
use Rattle.star_outline.specs.Names.{Names, has_name, same_name, slot_of}
use Rattle.star_outline.specs.Outlines.{names_in}
use Rattle.star_outline.specs.declared.blocks.Block.{Block}
use Rattle.star_scope.specs.Uses.{Use, Named, Defined}

-- the most blocks that can be nested: the file's own; one for each of the 100 that the nesting weight allows; and one
-- for a `def` on one line, which the `;` after it forgets
abbrev pub chain_length : ℕ
chain_length = 102

-- the names of the outermost block of the core
abbrev pub core_names : Names
core_names =
    codes "None" ∷ codes "True" ∷ codes "False" ∷ codes "abs" ∷ codes "all" ∷ codes "any" ∷ codes "bool" ∷ codes "dict"
    ∷ codes "enumerate" ∷ codes "fail" ∷ codes "int" ∷ codes "len" ∷ codes "list" ∷ codes "max" ∷ codes "min"
    ∷ codes "print" ∷ codes "range" ∷ codes "repr" ∷ codes "reversed" ∷ codes "sorted" ∷ codes "str" ∷ codes "tuple"
    ∷ codes "type" ∷ codes "zip" ∷ []

-- the further names of the extended language
abbrev pub further_names : Names
further_names =
    codes "chr" ∷ codes "dir" ∷ codes "getattr" ∷ codes "hasattr" ∷ codes "hash" ∷ codes "json" ∷ codes "ord"
    ∷ codes "set" ∷ codes "struct" ∷ []

-- the names of the language's own in a dialect
abbrev pub own_names : Dialect → Names
own_names dialect.Core = core_names
own_names dialect.Extended = core_names ++ further_names

-- the names of the outermost block of a language: its own, and those whose calls are recorded
abbrev pub outermost_names : Language → Names
outermost_names l = own_names l.dialect ++ l.recorded

-- what is outside of a file: the names of the prelude's block, if the file sees a prelude, and the language, which has
-- the names of the outermost block
pub record Outer : Type 0 where
  pub names : Option Names
  pub language : Language

-- whether the prelude's block, whose names these are, has a name that other files see: one that is not private
abbrev pub prelude_has : Option Names → List ℕ → Bool
prelude_has None name = false
prelude_has (Some names) name = not (is_private name) && has_name names name

-- the spot of a name outside of the file: in the prelude, else in the outermost block
abbrev pub outside_spot : Outer → List ℕ → Option Spot
outside_spot outer name =
    if prelude_has outer.names name then Some spot.Prelude
    else if has_name (outermost_names outer.language) name then Some spot.Outermost else None

abbrev pub or_further : ℕ → Option ℕ → Option Spot → Option Spot
or_further up (Some slot) further = Some (spot.Frame up slot)
or_further up None further = further

-- the spot of a name in a chain of blocks, the innermost first: in the first block that binds it, else outside of the
-- file
abbrev pub spot_in : List Block → Outer → List ℕ → ℕ → List ℕ → Option Spot
spot_in blocks outer name up [] = outside_spot outer name
spot_in blocks outer name up (b ∷ bs) =
    or_further up (slot_of name (names_in blocks b)) (spot_in blocks outer name (up + 1) bs)

abbrev pub spot_of : List Block → Outer → List ℕ → List ℕ → Option Spot
spot_of blocks outer name chain = spot_in blocks outer name 0 chain

-- a name that no block around it, no prelude and no built-in binds is undefined
abbrev pub undefined_at : Name → Option Spot → List LocatedFault
undefined_at n (Some s) = []
undefined_at n None = at n.position (λ line. fault.Undefined line) ∷ []

abbrev pub undefined_in : List Block → Outer → Use → List LocatedFault
undefined_in blocks outer (Named n chain) = undefined_at n (spot_of blocks outer n.text chain)
undefined_in blocks outer (Defined number chain) = []

abbrev pub undefined : List Block → Outer → List Use → List LocatedFault
undefined blocks outer us = flat_map (undefined_in blocks outer) us

-- the spots of tokens
abbrev pub Spots : Type 0
Spots = ℕ → Option Spot

-- a use of a name is in no more blocks than a chain may have, and its token has its spot
abbrev pub IsPlaced : Spots → List Block → Outer → Use → Type 0
IsPlaced spots blocks outer (Named n chain) =
    (length chain ≤ chain_length) × (spots n.position.token ≡ spot_of blocks outer n.text chain)
IsPlaced spots blocks outer (Defined number chain) = Unit {0}

abbrev pub AllPlaced : Spots → List Block → Outer → List Use → Type 0
AllPlaced spots blocks outer [] = Unit {0}
AllPlaced spots blocks outer (u ∷ us) = IsPlaced spots blocks outer u × AllPlaced spots blocks outer us

-- ---- the use of a spot: rows of values, one for each block of a chain

-- the values that the names of a block have, in the order of the names
pub record Row (V : Type 0) : Type 0 where
  pub block : ℕ
  pub values : List V

-- rows fit a chain of blocks: one row for each block, in the same order, with a value for each name of the block
abbrev pub FitRows : {V : Type 0} → List Block → List ℕ → List (Row V) → Type 0
FitRows blocks [] [] = Unit {0}
FitRows blocks [] (r ∷ rs) = ⊥
FitRows blocks (b ∷ bs) [] = ⊥
FitRows blocks (b ∷ bs) (r ∷ rs) = (r.block ≡ b) × (length r.values ≡ length (names_in blocks b)) × FitRows blocks bs rs

-- the value beside a name
abbrev pub value_beside : {V : Type 0} → List ℕ → Names → List V → Option V
value_beside name [] vs = None
value_beside name (n ∷ ns) [] = None
value_beside name (n ∷ ns) (v ∷ vs) = if same_name name n then Some v else value_beside name ns vs

abbrev pub first_there : {V : Type 0} → Option V → Option V → Option V
first_there (Some v) further = Some v
first_there None further = further

-- the value of a name in the nearest row whose block binds it
abbrev pub nearest : {V : Type 0} → List Block → List ℕ → List (Row V) → Option V
nearest blocks name [] = None
nearest blocks name (r ∷ rs) =
    first_there (value_beside name (names_in blocks r.block) r.values) (nearest blocks name rs)

-- the value in the row that is `up` rows up, at this slot
abbrev pub value_at : {V : Type 0} → ℕ → ℕ → List (Row V) → Option V
value_at up slot rows = option_and_then (λ r. slice_get r.values slot) (slice_get rows up)

-- the value that the spot of a name leads to: the value of the name in the nearest row that has it. It leads outside of
-- the rows only if no row has the name, and to the outermost block only if the prelude lacks it too. A name without a
-- spot is nowhere
pub record Leads (V : Type 0) (blocks : List Block) (outer : Outer) (name : List ℕ) (rows : List (Row V))
    (s : Option Spot) : Type 0 where
  pub in_rows : (up slot : ℕ) → s ≡ Some (spot.Frame up slot) → (v : V) × (value_at up slot rows ≡ Some v)
      × (nearest blocks name rows ≡ Some v)
  pub in_prelude : s ≡ Some spot.Prelude → (nearest blocks name rows ≡ None) × (prelude_has outer.names name ≡ true)
  pub outermost : s ≡ Some spot.Outermost → (nearest blocks name rows ≡ None) × (prelude_has outer.names name ≡ false)
      × (has_name (outermost_names outer.language) name ≡ true)
  pub nowhere : s ≡ None → (nearest blocks name rows ≡ None) × (prelude_has outer.names name ≡ false)
      × (has_name (outermost_names outer.language) name ≡ false)

-- the law of spots: they lead to the right values in all rows that fit
abbrev pub SpotsLead : Type 0 → Type 0
SpotsLead V =
    (blocks : List Block) (outer : Outer) (name : List ℕ) (chain : List ℕ) (rows : List (Row V))
    → FitRows blocks chain rows
    → Leads V blocks outer name rows (spot_of blocks outer name chain)

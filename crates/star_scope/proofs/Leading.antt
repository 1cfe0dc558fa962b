-- The values that spots lead to in rows of values.
use Rattle.std.proofs.Common.{arith, ◌≡◌, ◌+◌, ℕ, suc, Bool, true, false, List, [], ◌∷◌, Option, Some, None, refl, ap, sym, ◌∙◌, subst, length, if◌then◌else◌}
use Rattle.std.specs.Prelude.{slice_get}
use Rattle.std.specs.Option.{option_map}
use Rattle.star_scope.specs.declared.spot.Spot.{Spot}
use Rattle.star_scope.specs.declared.spot.Spot.TheVariants as spot
use Rattle.star_outline.specs.Names.{Names, has_name, same_name, slot_of}
use Rattle.star_outline.specs.Outlines.{names_in}
use Rattle.star_outline.specs.declared.blocks.Block.{Block}
use Rattle.star_scope.specs.Places.{FitRows, Leads, Outer, Row, SpotsLead, first_there, nearest, or_further, outermost_names, outside_spot, prelude_has, spot_in, spot_of, value_at, value_beside}
use Rattle.star_outline.proofs.Numbers.{position_next}

-- ---- in one row

abbrev next_slot : Bool → Option ℕ → Option ℕ
next_slot b o = if b then Some 0 else option_map (λ i. suc i) o

slot_next : (name n : List ℕ) (ns : Names) → slot_of name (n ∷ ns) ≡ next_slot (same_name name n) (slot_of name ns)
slot_next name n ns = position_next (same_name name) n ns

abbrev Beside : {V : Type 0} → Option ℕ → List V → Option V → Type 0
Beside {V = V} None vs beside = beside ≡ None
Beside {V = V} (Some i) vs beside = (v : V) × (slice_get vs i ≡ Some v) × (beside ≡ Some v)

beside_next : {V : Type 0} (b : Bool) (o : Option ℕ) (v : V) (vs : List V) (rest : Option V) → Beside o vs rest → Beside (next_slot b o) (v ∷ vs) (if b then Some v else rest)
beside_next true o v vs rest h = (v, refl, refl)
beside_next false None v vs rest h = h
beside_next false (Some i) v vs rest h = h

-- the value beside a name is the one at the name's slot
beside : {V : Type 0} (name : List ℕ) (ns : Names) (vs : List V) → length vs ≡ length ns → Beside (slot_of name ns) vs (value_beside name ns vs)
beside name [] vs e = refl
beside name (n ∷ ns) [] e = absurd (none e)
  where
    none : 0 ≡ suc (length ns) → ⊥
    none e = omega (arith, e)
beside name (n ∷ ns) (v ∷ vs) e =
    subst (λ o. Beside o (v ∷ vs) (value_beside name (n ∷ ns) (v ∷ vs))) (sym (slot_next name n ns))
    (beside_next (same_name name n) (slot_of name ns) v vs (value_beside name ns vs) (beside name ns vs (omega (arith, e))))

-- ---- in a chain of rows

-- a spot found from a block of the chain on, which is `up` blocks up
abbrev Found : {V : Type 0} → List Block → Outer → List ℕ → ℕ → List (Row V) → Option Spot → Type 0
Found {V = V} blocks outer name up rows (Some (spot.Frame u slot)) = (k : ℕ) × (v : V) × (u ≡ up + k) × (value_at k slot rows ≡ Some v) × (nearest blocks name rows ≡ Some v)
Found blocks outer name up rows (Some spot.Prelude) = (nearest blocks name rows ≡ None) × (outside_spot outer name ≡ Some spot.Prelude)
Found blocks outer name up rows (Some spot.Outermost) = (nearest blocks name rows ≡ None) × (outside_spot outer name ≡ Some spot.Outermost)
Found blocks outer name up rows None = (nearest blocks name rows ≡ None) × (outside_spot outer name ≡ None)

outside : (V : Type 0) (blocks : List Block) (outer : Outer) (name : List ℕ) (up : ℕ) (o : Option Spot) → outside_spot outer name ≡ o → Found {V = V} blocks outer name up [] o
outside V blocks outer name up (Some (spot.Frame u slot)) e = absurd (never (prelude_has outer.names name) (has_name (outermost_names outer.language) name) e)
  where
    never : (a b : Bool) → (if a then Some spot.Prelude else if b then Some spot.Outermost else None) ≡ Some (spot.Frame u slot) → ⊥
    never true b e = cc
    never false true e = cc
    never false false e = cc
outside V blocks outer name up (Some spot.Prelude) e = (refl, e)
outside V blocks outer name up (Some spot.Outermost) e = (refl, e)
outside V blocks outer name up None e = (refl, e)

-- after a row without the name
further : {V : Type 0} (blocks : List Block) (outer : Outer) (name : List ℕ) (up : ℕ) (r : Row V) (rs : List (Row V)) (o : Option Spot)
    → value_beside name (names_in blocks r.block) r.values ≡ None → Found blocks outer name (up + 1) rs o → Found blocks outer name up (r ∷ rs) o
further blocks outer name up r rs (Some (spot.Frame u slot)) none h = (suc h.0, h.1, (omega (arith, h.2)), h.3, ap (λ o. first_there o (nearest blocks name rs)) none ∙ h.4)
further blocks outer name up r rs (Some spot.Prelude) none h = (ap (λ o. first_there o (nearest blocks name rs)) none ∙ h.0, h.1)
further blocks outer name up r rs (Some spot.Outermost) none h = (ap (λ o. first_there o (nearest blocks name rs)) none ∙ h.0, h.1)
further blocks outer name up r rs None none h = (ap (λ o. first_there o (nearest blocks name rs)) none ∙ h.0, h.1)

row : {V : Type 0} (blocks : List Block) (outer : Outer) (name : List ℕ) (up : ℕ) (r : Row V) (rs : List (Row V)) (slot : Option ℕ) (o : Option Spot)
    → Beside slot r.values (value_beside name (names_in blocks r.block) r.values) → Found blocks outer name (up + 1) rs o → Found blocks outer name up (r ∷ rs) (or_further up slot o)
row blocks outer name up r rs None o h k = further blocks outer name up r rs o h k
row blocks outer name up r rs (Some i) o h k = (0, h.0, (omega arith), h.1, ap (λ o. first_there o (nearest blocks name rs)) h.2)

found : {V : Type 0} (blocks : List Block) (outer : Outer) (name : List ℕ) (up : ℕ) (chain : List ℕ) (rows : List (Row V)) → FitRows blocks chain rows
    → Found blocks outer name up rows (spot_in blocks outer name up chain)
found blocks outer name up [] [] fit = outside _ blocks outer name up (outside_spot outer name) refl
found blocks outer name up [] (r ∷ rs) fit = absurd fit
found blocks outer name up (b ∷ bs) [] fit = absurd fit
found blocks outer name up (b ∷ bs) (r ∷ rs) fit =
    row blocks outer name up r rs (slot_of name (names_in blocks b)) (spot_in blocks outer name (up + 1) bs)
    (subst (λ c. Beside (slot_of name (names_in blocks b)) r.values (value_beside name (names_in blocks c) r.values)) (sym fit.0) (beside name (names_in blocks b) r.values fit.1))
    (found blocks outer name (up + 1) bs rs fit.2)

-- ---- outside of the rows

from_prelude : (a b : Bool) → (if a then Some spot.Prelude else if b then Some spot.Outermost else None) ≡ Some spot.Prelude → a ≡ true
from_prelude true b e = refl
from_prelude false true e = cc
from_prelude false false e = cc

from_outermost : (a b : Bool) → (if a then Some spot.Prelude else if b then Some spot.Outermost else None) ≡ Some spot.Outermost → (a ≡ false) × (b ≡ true)
from_outermost true b e = absurd (differ e)
  where
    differ : Some spot.Prelude ≡ Some spot.Outermost → ⊥
    differ e = cc
from_outermost false true e = (refl, refl)
from_outermost false false e = absurd (differ e)
  where
    differ : None ≡ Some spot.Outermost → ⊥
    differ e = cc

from_nowhere : (a b : Bool) → (if a then Some spot.Prelude else if b then Some spot.Outermost else None) ≡ None → (a ≡ false) × (b ≡ false)
from_nowhere true b e = absurd (differ e)
  where
    differ : Some spot.Prelude ≡ None → ⊥
    differ e = cc
from_nowhere false true e = absurd (differ e)
  where
    differ : Some spot.Outermost ≡ None → ⊥
    differ e = cc
from_nowhere false false e = (refl, refl)

in_frames : {V : Type 0} (blocks : List Block) (outer : Outer) (name : List ℕ) (rows : List (Row V)) (u slot : ℕ) → Found blocks outer name 0 rows (Some (spot.Frame u slot))
    → (v : V) × (value_at u slot rows ≡ Some v) × (nearest blocks name rows ≡ Some v)
in_frames blocks outer name rows u slot h = (h.1, ap (λ k. value_at k slot rows) (omega (arith, h.2)) ∙ h.3, h.4)

leads : {V : Type 0} (blocks : List Block) (outer : Outer) (name : List ℕ) (rows : List (Row V)) (o : Option Spot) → Found blocks outer name 0 rows o → Leads V blocks outer name rows o
leads blocks outer name rows o h = record {
  in_rows = λ u slot e. in_frames blocks outer name rows u slot (subst (λ x. Found blocks outer name 0 rows x) e h);
  in_prelude = λ e.
      let k = subst (λ x. Found blocks outer name 0 rows x) e h in
      (k.0, from_prelude (prelude_has outer.names name) (has_name (outermost_names outer.language) name) k.1);
  outermost = λ e.
      let k = subst (λ x. Found blocks outer name 0 rows x) e h in
      let both = from_outermost (prelude_has outer.names name) (has_name (outermost_names outer.language) name) k.1 in
      (k.0, both.0, both.1);
  nowhere = λ e.
      let k = subst (λ x. Found blocks outer name 0 rows x) e h in
      let both = from_nowhere (prelude_has outer.names name) (has_name (outermost_names outer.language) name) k.1 in
      (k.0, both.0, both.1);
}

pub spots_lead : (V : Type 0) → SpotsLead V
spots_lead V blocks outer name chain rows fit = leads blocks outer name rows (spot_of blocks outer name chain) (found blocks outer name 0 chain rows fit)

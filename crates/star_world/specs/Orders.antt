-- The layout of a definition's parameters: how they take the first slots of its frames, in order.
use Rattle.std.specs.Prelude.{◌≡◌, ◌<◌, ◌≤◌, ◌+◌, ◌&&◌, ℕ, suc, nat_eq, nat_lt, not, Bool, true, false, List, [], ◌∷◌, length, Option, Some, None, slice_get}
use Rattle.std.specs.BTreeMap.{BTreeMap, get}
use Rattle.std.specs.Ordering.{nat_cmp}
use Rattle.star_tree.specs.declared.tree.Argument.TheOpen as tree
use Rattle.star_tree.specs.declared.tree.Name.{Name}
use Rattle.star_tree.specs.declared.tree.Parameter.{Parameter}
use Rattle.star_scope.specs.declared.program.Program.{Program}
use Rattle.star_outline.specs.Definitions.{Definition, definition_in}
use Rattle.star_outline.specs.Names.{Names, slot_of}
use Rattle.star_outline.specs.Outlines.{names_in}
use Rattle.star_scope.specs.Places.{Spots}
use Rattle.star_scope.specs.Spots.{spot_at}
use Rattle.star_outline.specs.Syntax.{ParameterForm, parameter}
use Rattle.star_meaning.specs.Places.{own_spot}
use Rattle.star_world.specs.declared.layouts.Cursor.{Cursor}
use Rattle.star_world.specs.declared.layouts.Stage.{Stage}
use Rattle.star_world.specs.declared.layouts.Stage.TheVariants as stage

-- A layout of parameters: how many slots they have, how many of the first slots take positional values, and how many
-- defaults there are. Also the number of each slot's default, if the slot has one, the slots that need a value, and the
-- slots of `*name` and `**name`.
pub record Layout : Type 0 where
  pub count : ℕ
  pub positional : ℕ
  pub defaults : ℕ
  pub ranks : List (Option ℕ)
  pub needed : List ℕ
  pub rest : Option ℕ
  pub names : Option ℕ

-- whether there is a place, and it is this slot
abbrev pub is_at : Option ℕ → ℕ → Bool
is_at None i = false
is_at (Some j) i = nat_eq j i

-- whether a slot takes a keyword argument
abbrev pub takes_keyword : Layout → ℕ → Bool
takes_keyword l i = nat_lt i l.count && (not (is_at l.rest i) && not (is_at l.names i))

-- a name has this slot of its frame
abbrev pub IsSlot : Spots → Names → ℕ → Name → Type 0
IsSlot spots names i n = (own_spot (spots n.position.token) ≡ Some i) × (slot_of n.text names ≡ Some i)

-- a parameter that gets one value may come here: before the end of those that take positional arguments, or after it
abbrev pub MayStand : Layout → Stage → ℕ → Type 0
MayStand l stage.Positional i = i < l.positional
MayStand l stage.ByName i = l.positional ≤ i
MayStand l stage.Ended i = ⊥

-- those that take positional values end here; the positional values that are left go to this slot, if there is one
abbrev pub PlacesEnd : Layout → Stage → ℕ → Option ℕ → Type 0
PlacesEnd l stage.Positional i rest = (i ≡ l.positional) × (l.rest ≡ rest)
PlacesEnd l stage.ByName i rest = ⊥
PlacesEnd l stage.Ended i rest = ⊥

-- they end here, or ended before
abbrev pub PlacesAreOver : Layout → Stage → ℕ → Type 0
PlacesAreOver l stage.Positional i = (i ≡ l.positional) × (l.rest ≡ None)
PlacesAreOver l stage.ByName i = Unit {0}
PlacesAreOver l stage.Ended i = ⊥

-- a parameter has the slot at the cursor: one with a name alone needs a value, one with a default has the next default
abbrev pub StandsAt : Spots → Names → Layout → Cursor → ParameterForm → Type 0
StandsAt spots names l c (tree.Plain n) =
    MayStand l c.stage c.slot × IsSlot spots names c.slot n × (takes_keyword l c.slot ≡ true)
    × (slice_get l.ranks c.slot ≡ Some None) × (slice_get l.needed c.needed ≡ Some c.slot)
StandsAt spots names l c (tree.Default n e) =
    MayStand l c.stage c.slot × IsSlot spots names c.slot n × (takes_keyword l c.slot ≡ true)
    × (slice_get l.ranks c.slot ≡ Some (Some c.rank)) × (c.rank < l.defaults)
StandsAt spots names l c (tree.Parameter-F.Parameter::Star n) =
    PlacesEnd l c.stage c.slot (Some c.slot) × IsSlot spots names c.slot n
StandsAt spots names l c tree.BareStar = PlacesEnd l c.stage c.slot None
StandsAt spots names l c (tree.Parameter-F.Parameter::StarStar n) =
    PlacesAreOver l c.stage c.slot × IsSlot spots names c.slot n × (is_at l.rest c.slot ≡ false)
    × (l.names ≡ Some c.slot)

-- the cursor after a parameter
abbrev pub after : Cursor → ParameterForm → Cursor
after c (tree.Plain n) = record c { slot = suc c.slot; needed = suc c.needed }
after c (tree.Default n e) = record c { slot = suc c.slot; rank = suc c.rank }
after c (tree.Parameter-F.Parameter::Star n) = record c { stage = stage.ByName; slot = suc c.slot }
after c tree.BareStar = record c { stage = stage.ByName }
after c (tree.Parameter-F.Parameter::StarStar n) = record c { stage = stage.Ended; slot = suc c.slot }

-- the cursor before all parameters
abbrev pub start : Cursor
start = record { stage = stage.Positional; slot = 0; rank = 0; needed = 0 }

-- no parameter is missing after the last
abbrev pub MayEnd : Layout → Stage → ℕ → Type 0
MayEnd l stage.Positional i = (i ≡ l.positional) × (l.rest ≡ None) × (l.names ≡ None)
MayEnd l stage.ByName i = l.names ≡ None
MayEnd l stage.Ended i = Unit {0}

-- parameters are in order from the cursor on
abbrev pub InOrder : Spots → Names → Layout → Cursor → List Parameter → Type 0
InOrder spots names l c [] = (c.slot ≡ l.count) × MayEnd l c.stage c.slot
InOrder spots names l c (p ∷ ps) =
    StandsAt spots names l c (parameter p) × InOrder spots names l (after c (parameter p)) ps

-- a slot, if there is one, is one of the first `n`
abbrev pub IsBelow : Option ℕ → ℕ → Type 0
IsBelow None n = Unit {0}
IsBelow (Some i) n = i < n

-- a layout of no other slots than the slots of the parameters
pub record IsBounded (l : Layout) : Type 0 where
  pub places : l.positional ≤ l.count
  pub ranks : length l.ranks ≤ l.count
  pub rest : IsBelow l.rest l.count
  pub names : IsBelow l.names l.count

-- all parameters are in the first slots as a layout says
abbrev pub AreLaidOut : Spots → Names → Layout → List Parameter → Type 0
AreLaidOut spots names l ps = InOrder spots names l start ps × IsBounded l

-- so are the parameters of the definition with this number in a program
abbrev pub HasLayout : Program → ℕ → Layout → Type 0
HasLayout p number l =
    (d : Definition) → definition_in p.definitions number ≡ Some d
    → AreLaidOut (spot_at p.spots) (names_in p.blocks (1 + number)) l d.parameters

-- the items of a map hold of the definitions with their numbers
abbrev pub HaveLayouts : Program → BTreeMap ℕ Layout → Type 0
HaveLayouts p layouts = (number : ℕ) (l : Layout) → get nat_cmp layouts number ≡ Some l → HasLayout p number l

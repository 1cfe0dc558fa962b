-- A table of spots by the numbers of tokens.
use Rattle.std.specs.Prelude.{◌≡◌, ◌≢◌, ◌⊎◌, ℕ, List, [], ◌∷◌, Option, Some, None, slice_get}
use Rattle.std.specs.Option.{option_flatten}
use Rattle.star_scope.specs.declared.spot.Spot.{Spot}
use Rattle.star_scope.specs.declared.spot.Spot.TheVariants as spot
use Rattle.star_scope.specs.declared.spots.Entry.{Entry}
use Rattle.star_scope.specs.declared.spots.Entry.TheVariants as entry

-- the spot at a token
abbrev pub spot_at : List (Option Spot) → ℕ → Option Spot
spot_at entries token = option_flatten (slice_get entries token)

-- the entries of one table are in the other too
abbrev pub Keeps : List (Option Spot) → List (Option Spot) → Type 0
Keeps old new = (token : ℕ) (s : Spot) → spot_at old token ≡ Some s → spot_at new token ≡ Some s

-- the spot of an entry, beside a spot from the row of those too large for entries
unfoldable pub spot_in : Entry → Option Spot → Option Spot
spot_in entry.Empty far = None
spot_in (entry.Frame up slot) far = Some (spot.Frame up slot)
spot_in entry.Prelude far = Some spot.Prelude
spot_in entry.Outermost far = Some spot.Outermost
spot_in entry.Far far = far

-- the spot of an entry, if there is one
unfoldable pub found : Option Entry → Option Spot → Option Spot
found None far = None
found (Some e) far = spot_in e far

-- the spots of entries, beside a row of the spots too large for entries
unfoldable pub spots_of : List Entry → List (Option Spot) → List (Option Spot)
spots_of [] far = []
spots_of (e ∷ es) [] = spot_in e None ∷ spots_of es []
spots_of (e ∷ es) (f ∷ fs) = spot_in e f ∷ spots_of es fs

-- a row with this value put at this index; each other item stays, or is empty if the row had none there
pub record IsPutAt {T : Type 0} (old new : List T) (at : ℕ) (value empty : T) : Type 0 where
  pub put : slice_get new at ≡ Some value
  pub others : (i : ℕ) → i ≢ at
      → (slice_get new i ≡ slice_get old i) ⊎ ((slice_get old i ≡ None) × (slice_get new i ≡ Some empty))

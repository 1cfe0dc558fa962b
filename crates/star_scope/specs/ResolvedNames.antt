-- The effect of the code's walk over a part of a file: each name gets its spot, and the first undefined one is found.
use Rattle.std.specs.Prelude.{◌≡◌, ◌≤◌, List, [], ◌∷◌, length, Option, Some, None}
use Rattle.star_tree.specs.declared.tree.Statement.{Statement}
use Rattle.star_scope.specs.declared.chain.Scope.{Scope}
use Rattle.star_scope.specs.declared.spot.Spot.{Spot}
use Rattle.star_scope.specs.declared.uses.ResolvedNames.{ResolvedNames}
use Rattle.star_scope.specs.Chains.{outer_shown}
use Rattle.star_scope.specs.Faults.{first, first_from}
use Rattle.star_outline.specs.declared.blocks.Block.{Block}
use Rattle.star_scope.specs.Places.{AllPlaced, Outer, Spots, chain_length, spot_of, undefined}
use Rattle.star_scope.specs.Spots.{Keeps, spot_at}
use Rattle.star_scope.specs.Uses.{Use, Named, Defined, uses}

-- a use of a name is in no more blocks than a chain may have, and if the name has a spot, its token has it
abbrev pub HasSpot : Spots → List Block → Outer → Use → Type 0
HasSpot spots blocks outer (Named n chain) =
    (length chain ≤ chain_length) × ((s : Spot) → spot_of blocks outer n.text chain ≡ Some s → spots n.position.token
    ≡ Some s)
HasSpot spots blocks outer (Defined number chain) = Unit {0}

abbrev pub AllHaveSpots : Spots → List Block → Outer → List Use → Type 0
AllHaveSpots spots blocks outer [] = Unit {0}
AllHaveSpots spots blocks outer (u ∷ us) = HasSpot spots blocks outer u × AllHaveSpots spots blocks outer us

-- spots that are there stay; the uses have theirs; and the first undefined name is found, among these and before
pub record Places (scope : Scope) (us : List Use) (old new : ResolvedNames) : Type 0 where
  pub kept : Keeps old.spots new.spots
  pub have : AllHaveSpots (spot_at new.spots) scope.blocks.now (outer_shown scope.prelude scope.language) us
  pub found : new.first ≡ first_from old.first (undefined scope.blocks.now (outer_shown scope.prelude scope.language) us)

-- the names of a file among these blocks: the first undefined one is found
abbrev pub HasFirst : List Block → Outer → List Statement → ResolvedNames → Type 0
HasFirst blocks outer ss placed = placed.first ≡ first (undefined blocks outer (uses ss))

-- and if none is undefined, each has its spot
abbrev pub HasSpots : List Block → Outer → List Statement → ResolvedNames → Type 0
HasSpots blocks outer ss placed = placed.first ≡ None → AllPlaced (spot_at placed.spots) blocks outer (uses ss)

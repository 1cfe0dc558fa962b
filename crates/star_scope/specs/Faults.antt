-- The static faults of a file, each with its token, and the first of them.
use Rattle.std.specs.Prelude.{◌≡◌, ◌⊎◌, ℕ, Bool, false, nat_lt, nat_eq, ◌&&◌, ◌||◌, List, [], ◌∷◌, Option, Some, None, if◌then◌else◌}
use Rattle.star_scope.specs.declared.error.ScopeFault.{ScopeFault}
use Rattle.star_scope.specs.declared.error.ScopeFault.TheVariants as fault
use Rattle.star_scope.specs.declared.error.LocatedFault.{LocatedFault}
use Rattle.star_tree.specs.declared.tree.Position.{Position}

-- the number of a kind of fault
abbrev pub rank : ScopeFault → ℕ
rank (fault.Undefined line) = 1
rank (fault.BadPlace line) = 2
rank (fault.Conflict line) = 3
rank (fault.Private line) = 4
rank (fault.NoFile line) = 5
rank (fault.BadLabel line) = 6
rank fault.Memory = 7

-- a fault at a token
abbrev pub at : Position → (ℕ → ScopeFault) → LocatedFault
at p f = record { token = p.token; fault = f p.line }

-- its token comes first; at one token, its kind has the lower number
abbrev pub comes_before : LocatedFault → LocatedFault → Bool
comes_before a b = nat_lt a.token b.token || (nat_eq a.token b.token && nat_lt (rank a.fault) (rank b.fault))

-- the earlier of the fault found so far and one more
abbrev pub earlier : Option LocatedFault → LocatedFault → Option LocatedFault
earlier None more = Some more
earlier (Some found) more = if comes_before more found then Some more else Some found

-- the earliest of the fault found so far and further faults
unfoldable pub first_from : Option LocatedFault → List LocatedFault → Option LocatedFault
first_from found [] = found
first_from found (f ∷ fs) = first_from (earlier found f) fs

-- the first of all
abbrev pub first : List LocatedFault → Option LocatedFault
first fs = first_from None fs

-- the earlier of two faults
abbrev pub first_of : Option LocatedFault → Option LocatedFault → Option LocatedFault
first_of found None = found
first_of found (Some more) = earlier found more

-- a fault is one of these
abbrev pub IsAmong : List LocatedFault → LocatedFault → Type 0
IsAmong [] r = ⊥
IsAmong (f ∷ fs) r = (r ≡ f) ⊎ IsAmong fs r

-- it is one of these, and no other of them comes before it
abbrev pub IsFirst : List LocatedFault → LocatedFault → Type 0
IsFirst fs r = IsAmong fs r × ((f : LocatedFault) → IsAmong fs f → comes_before f r ≡ false)

-- the answer of `first`: the first fault; `None` exactly for an empty list
pub record FirstIsFirst : Type 0 where
  pub some : (fs : List LocatedFault) (r : LocatedFault) → first fs ≡ Some r → IsFirst fs r
  pub none : (fs : List LocatedFault) → first fs ≡ None → fs ≡ []
  pub empty : first [] ≡ None

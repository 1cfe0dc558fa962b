-- Laws of whole walks.
use Rattle.std.specs.Prelude.{◌≡◌, ◌↔◌, ◌⊎◌, List, [], ◌∷◌}
use Rattle.star_folder.specs.Folder.{Contents}
use Rattle.star_folder.specs.Walk.{FolderAt, IsWalk, Place, Visit, opened, place_of}

abbrev pub IsIn : Place → List Place → Type 0
IsIn place [] = ⊥
IsIn place (p ∷ ps) = (p ≡ place) ⊎ IsIn place ps

-- some visit is at the place
abbrev pub IsVisited : List Visit → Place → Type 0
IsVisited [] place = ⊥
IsVisited (v ∷ vs) place = (place_of v ≡ place) ⊎ IsVisited vs place

-- some visit is to a folder that leads to the place
abbrev pub IsLedTo : List Visit → Place → Type 0
IsLedTo [] place = ⊥
IsLedTo (v ∷ vs) place = IsIn place (opened v) ⊎ IsLedTo vs place

-- a whole walk visits exactly the top, and the places that its visited folders lead to
abbrev pub VisitsAll : Type 0
VisitsAll =
    (held : Contents) (visits : List Visit) (place : Place) → IsWalk held visits [] → IsVisited visits place
    ↔ ((FolderAt [] ≡ place) ⊎ IsLedTo visits place)

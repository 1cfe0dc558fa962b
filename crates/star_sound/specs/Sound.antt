-- Files that need others: which have all that they need.
use Rattle.std.specs.Prelude.{◌≡◌, ◌<◌, ℕ, List, All, Contains, Option, Some, Vec, length, map, slice_get}
use Rattle.std.specs.Option.{option_map}
use Rattle.star_sound.specs.declared.sound.Prospect.{Prospect}
use Rattle.star_sound.specs.declared.sound.Prospect.TheVariants.{Barred, Lacks, Sound}

-- for each file, the files that it needs. A barred file has `None`: it cannot be used, whatever it needs
abbrev pub Needs : Type 0
Needs = List (Option (List ℕ))

abbrev pub rows_of : {Z : Type 0} → List (Option (Vec ℕ Z)) → Needs
rows_of needs = map (option_map (λ v. v.items)) needs

-- a file is not barred, and needs these
abbrev pub NeedsAll : Needs → ℕ → List ℕ → Type 0
NeedsAll needs n ns = slice_get needs n ≡ Some (Some ns)

-- each needed file is one of the files
abbrev pub AreWithin : Needs → Type 0
AreWithin needs = (n : ℕ) (ns : List ℕ) → NeedsAll needs n ns → All (λ m. m < length needs) ns

-- the least set that has each file which is not barred and all of whose needs it has
pub data IsSound (needs : Needs) : ℕ → Type 0 where
  sound : {n : ℕ} {ns : List ℕ} → NeedsAll needs n ns → ((m : ℕ) → Contains ns m → IsSound needs m) → IsSound needs n

-- the first of these needs that is not sound is at place i
pub record IsFirstLack (needs : Needs) (ns : List ℕ) (i : ℕ) : Type 0 where
  pub file : ℕ
  pub there : slice_get ns i ≡ Some file
  pub lacks : IsSound needs file → ⊥
  pub before : (j m : ℕ) → j < i → slice_get ns j ≡ Some m → IsSound needs m

-- this is the prospect of a file
abbrev pub IsProspect : Needs → ℕ → Prospect → Type 0
IsProspect needs n Barred = (ns : List ℕ) → NeedsAll needs n ns → ⊥
IsProspect needs n Sound = IsSound needs n
IsProspect needs n (Lacks i) = (ns : List ℕ) × NeedsAll needs n ns × IsFirstLack needs ns i

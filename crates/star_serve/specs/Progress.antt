-- The line that shows a person how far a run is.
use Rattle.std.specs.Prelude.{◌≡◌, ◌⊎◌, ℕ, Bool, false, All, List, [], ◌∷◌, ◌++◌, Option, Some, None, codes, decimal, take}
use Rattle.star_serve.specs.Stream.{Adds}

-- how many of the files that were read have run, and the running file that began first, if one runs
abbrev pub progress_text : ℕ → ℕ → Option (List ℕ) → List ℕ
progress_text done reached None =
    codes "starload: " ++ (decimal done ++ (codes " of " ++ (decimal reached ++ codes " files run")))
progress_text done reached (Some label) =
    codes "starload: " ++ (decimal done ++ (codes " of " ++ (decimal reached
    ++ (codes " files run; " ++ (label ++ codes " has run longest")))))

-- the most columns of a line
abbrev pub columns : ℕ
columns = 79

-- the bytes that clear a terminal's line from here on
abbrev pub rest_cleared : List ℕ
rest_cleared = 27 ∷ codes "[K"

-- The line as it is written, in place of the one before it.
abbrev pub progress_line : ℕ → ℕ → Option (List ℕ) → List ℕ
progress_line done reached longest = 13 ∷ (take columns (progress_text done reached longest) ++ rest_cleared)

-- such a line
abbrev pub IsLine : List ℕ → Type 0
IsLine bytes =
    (done : ℕ) × (reached : ℕ) × (longest : Option (List ℕ)) × (bytes ≡ progress_line done reached longest)

-- texts, one after another
abbrev pub joined : List (List ℕ) → List ℕ
joined [] = []
joined (t ∷ ts) = t ++ joined ts

-- between old and new such lines were written, and there was one if `shown` says so
abbrev pub ShowsLines : Bool → Option (List ℕ) → Option (List ℕ) → Type 0
ShowsLines shown old new =
    (lines : List (List ℕ)) × All IsLine lines × (shown ≡ false → lines ≡ []) × Adds old new (joined lines)

-- The bytes that show a run: none, or such lines one after another, and then those that clear the last one.
abbrev pub IsShown : List ℕ → Type 0
IsShown bytes =
    (bytes ≡ [])
    ⊎ ((lines : List (List ℕ)) × All IsLine lines × (bytes ≡ joined lines ++ 13 ∷ rest_cleared))

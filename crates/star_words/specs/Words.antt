-- The label that a path names.
use denote.Ref.{Bor}
use Rattle.std.specs.Prelude.{◌≡◌, ℕ, ◌-◌, List, [], ◌∷◌, ◌++◌, ◌==◌, length, map, take, Bool, true, false, ◌&&◌, ◌||◌, Option, Some, None, if◌then◌else◌, slice_index_or}
use Rattle.std.specs.List.{list_all}
use Rattle.std.specs.Option.{option_and_then}
use Rattle.std.specs.Str.{bytes_eq}
use Rattle.star_label.specs.Label.{is_segment, joined, label_text, parts}

-- an empty part and `.` stay in the folder, `..` goes up
abbrev pub stays : List ℕ → Bool
stays p = bytes_eq p [] || bytes_eq p (46 ∷ [])

abbrev pub goes_up : List ℕ → Bool
goes_up p = bytes_eq p (46 ∷ 46 ∷ [])

-- The folders without the last one. There is nothing above the top.
abbrev pub above : List (List ℕ) → Option (List (List ℕ))
above [] = None
above (f ∷ fs) = Some (take (length (f ∷ fs) - 1) (f ∷ fs))

-- the folder that a part of a path leads to, if it begins where these folders lead, from the top down
abbrev pub led : List (List ℕ) → List ℕ → Option (List (List ℕ))
led fs p = if stays p then Some fs else (if goes_up p then above fs else Some (fs ++ p ∷ []))

abbrev pub led_by : List (List ℕ) → List (List ℕ) → Option (List (List ℕ))
led_by fs [] = Some fs
led_by fs (p ∷ ps) = option_and_then (λ gs. led_by gs ps) (led fs p)

-- the file that these parts lead to: the last is its name
abbrev pub label_of_parts : List (List ℕ) → Option (List ℕ)
label_of_parts [] = None
label_of_parts (f ∷ fs) =
    let front : List (List ℕ) = take (length (f ∷ fs) - 1) (f ∷ fs) in
    let name : List ℕ = slice_index_or (f ∷ fs) (length (f ∷ fs) - 1) [] in
    if list_all is_segment front && is_segment name then Some (label_text (joined front) name) else None

-- the label that a path names from the folder of the package `here`
abbrev pub label_of_path : List ℕ → List ℕ → Option (List ℕ)
label_of_path here path = option_and_then label_of_parts (led_by [] (parts here ++ parts path))

-- a walk goes on in these folders, or leads out of the top
abbrev pub Leads : Option (List (List ℕ)) → Bool → List (List ℕ) → Type 0
Leads given true folders = given ≡ Some folders
Leads given false folders = given ≡ None

abbrev pub folders_of : List (Bor (List ℕ)) → List (List ℕ)
folders_of fs = map (λ f. f.now) fs

-- The label that a word names as a path. A path that begins with a slash is not below the top.
abbrev pub path_named : List ℕ → List ℕ → Option (List ℕ)
path_named here [] = label_of_path here []
path_named here (b ∷ bs) = if b == 47 then None else label_of_path here (b ∷ bs)

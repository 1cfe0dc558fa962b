-- The bundle of files: one compact JSON object, from labels to texts.
use Rattle.std.specs.Prelude.{◌≡◌, ℕ, true, List, [], ◌∷◌, IsUtf8, None, Ok}
use Rattle.std.specs.List.{AllByRecursion, list_all}
use Rattle.serde_json.specs.Data.{Members, member, no_members, object, string}
use Rattle.serde_json.specs.Written.{compact_text}
use Rattle.star_label.specs.Files.{File, IsOrdered, limit_passed}
use Rattle.star_bundle.specs.Bundle.{files_of, is_label}

abbrev pub members_of : List File → Members
members_of [] = no_members
members_of (f ∷ fs) = member f.0 (string f.1) (members_of fs)

abbrev pub bundle_text : List File → List ℕ
bundle_text files = compact_text (object (members_of files))

-- a label and a text that are UTF-8
abbrev pub IsText : File → Type 0
IsText f = IsUtf8 f.0 × IsUtf8 f.1

-- the files of their bundle are these files, if their labels are in order and in normal form, labels and texts are UTF-8,
-- and no limit is passed
abbrev pub BundlesAreFiles : Type 0
BundlesAreFiles =
    (files : List File) → IsOrdered files → list_all (λ f. is_label f.0) files ≡ true → AllByRecursion IsText files
    → limit_passed files ≡ None → files_of (bundle_text files) ≡ Ok files

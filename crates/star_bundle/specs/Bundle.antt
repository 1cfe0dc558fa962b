-- The bundle that a text is: a JSON object from labels in normal form to the texts of files.
use Rattle.std.specs.Prelude.{ℕ, List, [], ◌∷◌, ◌&&◌, Bool, Option, Some, None, Result, Ok, Err, option_map, if◌then◌else◌}
use Rattle.std.specs.BTreeMap.{insert_entry}
use Rattle.std.specs.Cmp.Lexicographic.{slice_cmp}
use Rattle.std.specs.List.{list_all, position}
use Rattle.std.specs.Option.{option_and_then}
use Rattle.std.specs.Ordering.{nat_cmp}
use Rattle.std.specs.Str.{is_utf8, bytes_eq}
use Rattle.serde_json.specs.Data.{Data, Members, no_members, member}
use Rattle.serde_json.specs.Read.{read}
use Rattle.serde_json.specs.Find.{as_str, as_object}
use Rattle.star_label.specs.declared.error.LabelError.{LabelError}
use Rattle.star_label.specs.declared.error.LabelError.TheVariants as limit
use Rattle.star_label.specs.Files.{File, limit_passed}
use Rattle.star_label.specs.Label.{is_package, is_segment, label_text, name_of, package_of}
use Rattle.star_bundle.specs.declared.error.ServeError.{ServeError}
use Rattle.star_bundle.specs.declared.error.ServeError.TheVariants.{BadBundle, BadKey, TooMany, TooLong, BadRoot, NoRoot, BadPrelude, NoPrelude}

-- one step after another, up to the first refusal
infixl 10 ◌>>=◌
abbrev pub ◌>>=◌ : {A B : Type 0} → Result A ServeError → (A → Result B ServeError) → Result B ServeError
(Ok x) >>= f = f x
(Err e) >>= f = Err e

-- there, or refused so
abbrev pub there_or : {A : Type 0} → ServeError → Option A → Result A ServeError
there_or e None = Err e
there_or e (Some x) = Ok x

-- the JSON value of the bytes, as `serde_json` reads them
unfoldable pub json_of : List ℕ → Option Data
json_of bytes = if is_utf8 bytes then read bytes else None

-- the members of an object, if each is a text
unfoldable pub texts_of : Members → Option (List File)
texts_of no_members = Some []
texts_of (member k d ms) = option_and_then (λ t. option_map (λ fs. (k, t) ∷ fs) (texts_of ms)) (as_str d)

-- a text is a label in normal form
unfoldable pub is_label : List ℕ → Bool
is_label t = bytes_eq t (label_text (package_of t) (name_of t)) && is_package (package_of t) && is_segment (name_of t)

-- files with further ones, each at the place of its label
unfoldable pub with_files : List File → List File → List File
with_files made [] = made
with_files made (f ∷ fs) = with_files (insert_entry (slice_cmp nat_cmp) made f.0 f.1) fs

-- the limit that files pass, as a refusal
abbrev pub within_limits : List File → Option LabelError → Result (List File) ServeError
within_limits files None = Ok files
within_limits files (Some limit.TooMany) = Err TooMany
within_limits files (Some limit.TooLong) = Err TooLong
within_limits files (Some e) = Err BadKey

-- members whose names are all labels in normal form, as files
unfoldable pub labelled : List File → Result (List File) ServeError
labelled members = if list_all (λ f. is_label f.0) members then Ok (with_files [] members) else Err BadKey

-- the files of the bytes
unfoldable pub files_of : List ℕ → Result (List File) ServeError
files_of input = do
  d ← there_or BadBundle (json_of input)
  ms ← there_or BadBundle (as_object d)
  members ← there_or BadBundle (texts_of ms)
  files ← labelled members
  within_limits files (limit_passed files)

-- the number of the file that a word names
unfoldable pub number_of : ServeError → ServeError → List File → List ℕ → Result ℕ ServeError
number_of bad none files word =
    if is_label word then there_or none (position (λ f. bytes_eq f.0 word) files) else Err bad

-- the numbers of the roots, in order
unfoldable pub roots_of : List File → List (List ℕ) → Result (List ℕ) ServeError
roots_of files [] = Ok []
roots_of files (r ∷ rs) = do
  n ← number_of BadRoot NoRoot files r
  ns ← roots_of files rs
  Ok (n ∷ ns)

-- the number of the prelude
unfoldable pub prelude_of : List File → Option (List ℕ) → Result (Option ℕ) ServeError
prelude_of files None = Ok None
prelude_of files (Some word) = do
  n ← number_of BadPrelude NoPrelude files word
  Ok (Some n)

-- an input: the files, the numbers of the roots and the number of the prelude
pub record Asked : Type 0 where
  pub files : List File
  pub roots : List ℕ
  pub prelude : Option ℕ

unfoldable pub asked_among : List (List ℕ) → Option (List ℕ) → List File → Result Asked ServeError
asked_among roots prelude files = do
  ns ← roots_of files roots
  p ← prelude_of files prelude
  Ok (record { files = files; roots = ns; prelude = p })

-- the input that a bundle with these bytes is
unfoldable pub asked_of : List (List ℕ) → Option (List ℕ) → List ℕ → Result Asked ServeError
asked_of roots prelude input = files_of input >>= λ files. asked_among roots prelude files

-- The program's states of a reading, as contracts see them.
use Rattle.std.specs.Prelude.{◌≡◌, ◌↔◌, ◌⊎◌, ℕ, ⊤, List, [], ◌∷◌, ◌++◌, map, All, Option, None, Some, IfSome, option_map, Result, String, string_bytes}
use Rattle.std.specs.BTreeMap.{BTreeMap, insert_entry, values}
use Rattle.std.specs.Cmp.Lexicographic.{slice_cmp}
use Rattle.std.specs.Ordering.{nat_cmp}
use Rattle.std.specs.declared.cmp.Ordering.TheVariants.{Less}
use Rattle.std.specs.declared.alloc.Global.{Global}
use Rattle.star_label.specs.declared.label.Label.{Label}
use Rattle.star_label.specs.Files.{File, file_of}
use Rattle.star_label.specs.Label.{Reads, label_text, package_of}
use Rattle.star_label.specs.View.{text_of}
use Rattle.star_bundle.specs.declared.error.ServeError.TheVariants.{BadFile}
use Rattle.star_folder.specs.Refusal.{failed_by}
use Rattle.star_scope.specs.Loads.{Written}
use Rattle.star_repo.specs.Held.{Fits, Held, Said}
use Rattle.star_repo.specs.Loading.{LoadsLabel}
use Rattle.star_reading.specs.Parsed.{IsParsed, ParsedView}
use Rattle.star_repo.specs.Reach.{Words}
use Rattle.star_repo.specs.Refusal.{AreFilesBy, IsRefusedAt}
use Rattle.star_words.specs.Rows.{IsIn}
pub use Rattle.star_words.specs.Named.{labels_of}
use Rattle.star_repo.specs.Way.{Answer, IsBelow, IsLooked, IsWay}
use Rattle.star_repo.specs.declared.error.ReadError.{ReadError}
use Rattle.star_repo.specs.declared.error.ReadError.TheVariants as why
use Rattle.star_repo.specs.declared.found.Found.{Found}
use Rattle.star_repo.specs.declared.found.ReadFile.{ReadFile}

-- a run asks for these labels
abbrev pub words_of : List Label → Words
words_of labels = record { roots = labels_of labels; prelude = None }

-- the result of a look-up at a label
abbrev pub answer_of : Label × Option ReadFile → Answer
answer_of e = (text_of e.0, option_map (λ f. string_bytes f.text) e.1)

abbrev pub fresh_answer : Label × String Global → Answer
fresh_answer f = (text_of f.0, Some (string_bytes f.1))

-- the labels that were looked up: the fresh files, and those that were found before them
abbrev pub answers_in : List (Label × String Global) → List (Label × Option ReadFile) → List Answer
answers_in fresh looked = map fresh_answer fresh ++ map answer_of looked

-- the reading has come so far: these labels wait
abbrev pub IsOnWay : Said → Words → ℕ → Found → List (List ℕ) → Type 0
IsOnWay said words d found rest =
    IsWay said words d (answers_in found.fresh.items found.looked.entries) (map file_of found.fresh.items) rest
    found.count found.size

-- each file that was read is beside the result of parsing its text
abbrev pub IsRead : Option ReadFile → Type 0
IsRead o = IfSome o (λ f. IsParsed (string_bytes f.text) f.parsed)

abbrev pub AllRead : BTreeMap Label (Option ReadFile) → Type 0
AllRead looked = All IsRead (values looked)

-- the label is not among these entries
abbrev pub IsUnknown : Label → List (Label × Option ReadFile) → Type 0
IsUnknown label looked = IsLooked (text_of label) (map answer_of looked) → ⊥

-- the meaning of an error: the files of the run are refused so at this label, or memory ran out
abbrev pub Says : Said → Words → ReadError → Type 0
Says said words (why.Refused label error) =
    (held : Held) × Fits said held × IsRefusedAt held words (text_of label) error
Says said words why.Memory = ⊤

-- In a folder that tells this, a reading that has come to these labels has then looked them all up.
abbrev pub LooksUpAll : Said → Found → List (List ℕ) → Found → Type 0
LooksUpAll said found labels after =
    (words : Words) (d : ℕ) → IsOnWay said words d found labels → IsOnWay said words d after []

-- .. or is refused so
abbrev pub FailsAmong : Said → Found → List (List ℕ) → ReadError → Type 0
FailsAmong said found labels e = (words : Words) (d : ℕ) → IsOnWay said words d found labels → Says said words e

-- In a folder that tells this, a reading that has come to this label has then looked it up.
abbrev pub LooksUp : Said → Found → Label → Found → Type 0
LooksUp said found label after =
    (words : Words) (d : ℕ) (rest : List (List ℕ)) → IsBelow (text_of label) rest
    → IsOnWay said words d found (text_of label ∷ rest) → IsOnWay said words d after rest

-- .. or is refused so
abbrev pub FailsAt : Said → Found → Label → ReadError → Type 0
FailsAt said found label e =
    (words : Words) (d : ℕ) (rest : List (List ℕ)) → IsBelow (text_of label) rest
    → IsOnWay said words d found (text_of label ∷ rest) → Says said words e

-- In each folder that tells this of a label, a reading that has come to the label for the first time has then looked it
-- up.
abbrev pub LooksUpNew : Found → Label → (Option (Option (List ℕ)) → Type 0) → Found → Type 0
LooksUpNew found label Told after =
    (said : Said) (words : Words) (d : ℕ) (rest : List (List ℕ)) → IsUnknown label found.looked.entries
    → IsBelow (text_of label) rest → Told (said (text_of label)) → IsOnWay said words d found (text_of label ∷ rest)
    → IsOnWay said words d after rest

-- .. or is refused so
abbrev pub FailsAtNew : Found → Label → (Option (Option (List ℕ)) → Type 0) → ReadError → Type 0
FailsAtNew found label Told e =
    (said : Said) (words : Words) (d : ℕ) (rest : List (List ℕ)) → IsUnknown label found.looked.entries
    → IsBelow (text_of label) rest → Told (said (text_of label)) → IsOnWay said words d found (text_of label ∷ rest)
    → Says said words e

-- one read failed if the answer is so, else none
abbrev pub failed_read : ReadError → ℕ
failed_read (why.Refused label BadFile) = 1
failed_read e = 0

abbrev pub reads_failed : {T : Type 0} → Result T ReadError → ℕ
reads_failed r = failed_by failed_read r

-- load statements name the label in a file of the package `here`
abbrev pub IsNamed : List ℕ → List Written → List ℕ → Type 0
IsNamed here ws m = (w : Written) × IsIn w ws
    × (p : List ℕ) × (n : List ℕ) × Reads here w.module_string.text p n × (m ≡ label_text p n)

-- labels, and further ones: those that have this property
abbrev pub GainsLabels : List Label → List Label → (List ℕ → Type 0) → Type 0
GainsLabels old new IsNew = (m : List ℕ) → IsIn m (labels_of new) ↔ (IsIn m (labels_of old) ⊎ IsNew m)

-- .. those that the file at this label loads, by the result of parsing its text
abbrev pub GainsLoads : List Label → List Label → Label → ParsedView → Type 0
GainsLoads old new label parsed =
    (text : List ℕ) → IsParsed text parsed → GainsLabels old new (LoadsLabel (package_of (text_of label)) text)

-- A file is kept after the others, beside the result of parsing it. An absent one is not.
abbrev pub IsKept : List (Label × String Global) → List ParsedView → Label → Option ReadFile
    → List (Label × String Global) → List ParsedView → Type 0
IsKept texts parses label None more others = (more ≡ texts) × (others ≡ parses)
IsKept texts parses label (Some f) more others =
    (more ≡ texts ++ (label, f.text) ∷ []) × (others ≡ parses ++ f.parsed ∷ [])

-- the label comes after the labels of these files
abbrev pub IsAfter : Label → List (Label × String Global) → Type 0
IsAfter label texts = (f : File) → IsIn f (map file_of texts) → slice_cmp nat_cmp f.0 (text_of label) ≡ Less

-- the entries with the entry of a file, at the place of its label
abbrev pub with_read : List (Label × Option ReadFile) → Label → ReadFile → List (Label × Option ReadFile)
with_read looked label file = insert_entry (λ l m. slice_cmp nat_cmp (text_of l) (text_of m)) looked label (Some file)

-- .. with the entry of a fresh file, beside the result of parsing it
abbrev pub GainsFile : List (Label × Option ReadFile) → List (Label × Option ReadFile) → Label × String Global
    → ParsedView → Type 0
GainsFile old new fresh parsed =
    (file : ReadFile) × (file.text ≡ fresh.1) × (file.parsed ≡ parsed) × (new ≡ with_read old fresh.0 file)

-- the files of a reading that has come to its end
abbrev pub AreEndFiles : Found → List File → Type 0
AreEndFiles found files =
    (said : Said) (words : Words) (d : ℕ) → IsOnWay said words d found [] → found.fresh.items ≡ []
    → AreFilesBy said words files

-- some reading has come to its end with this
abbrev pub IsEnded : Found → Type 0
IsEnded found =
    (said : Said) × (words : Words) × (d : ℕ) × IsOnWay said words d found [] × (found.fresh.items ≡ [])

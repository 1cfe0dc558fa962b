-- The pages of a report: modules, and their texts.
use Rattle.std.specs.Prelude.{◌≡◌, ◌<◌, ℕ, List, [], ◌∷◌, ◌++◌, Bool, false, true, Option, Some, None, IfSome, Vec, codes, filter, length, map, slice_index_or}
use Rattle.serde_json.specs.Data.{Data}
use Rattle.star_label.specs.Files.{File}
use Rattle.star_cause.specs.Ways.{Nexts}
use Rattle.star_scope.specs.declared.loads.Load.{Load}
use Rattle.star_reading.specs.Readings.{Row, loads_at}
use Rattle.star_report.specs.Calls.{calls_of, with_calls}
use Rattle.star_report.specs.Shelf.{more_of}
use Rattle.star_report.specs.Shown.{IsShown}
use Rattle.star_report.specs.Texts.{IsDataText}
use Rattle.star_report.specs.Wanted.{added, is_shown_by}
use Rattle.star_report.specs.declared.wanted.Wanted.{Wanted}
use Rattle.star_outcome.specs.Views.{ended_well}
use Rattle.star_outcome.specs.declared.module.Module.{Module}
use Rattle.star_report.specs.declared.pages.Page.{Page}

-- a text is the text of data that show a module, with the further members that are wanted
abbrev pub IsTextOf : Wanted → List File → Nexts → List Load → Module → List ℕ → Type 0
IsTextOf wanted files nexts loads m text =
    (d : Data) × IsShown files nexts m.number m.ended d × IsDataText (added (more_of wanted files loads m) d) text

-- the same with the calls that the module recorded, if they are wanted
abbrev pub IsWholeTextOf : Wanted → List File → Nexts → List Load → Module → List ℕ → Type 0
IsWholeTextOf wanted files nexts loads m text =
    (own : List ℕ) × IsTextOf wanted files nexts loads m own × (text ≡ with_calls wanted.calls (calls_of m.ended) own)

-- the text of a module that ran to its end, by the JSON of its globals, of its label and of its lines
abbrev pub text_around : List ℕ → List ℕ → List ℕ → List ℕ
text_around globals label lines =
    codes "{\"globals\":" ++ (globals ++ (codes ",\"label\":" ++ (label ++ (codes ",\"lines\":"
    ++ (lines ++ codes ",\"status\":\"ok\"}")))))

-- the module that a page is about, as a note knows it
abbrev pub known_of : Page → Option Module
known_of p = Some p.about.now

-- a page was written: if it has a text, it is the text of its module
pub record IsWritten (wanted : Wanted) (files : List File) (nexts : Nexts) (old new : Page) : Type 0 where
  pub same : new.about ≡ old.about
  pub loads : new.loads ≡ old.loads
  pub shown : new.shown ≡ old.shown
  pub text : IfSome new.text (λ s. IsWholeTextOf wanted files nexts new.loads.now new.about.now s.items)

-- a page has the loads of its module's file
abbrev pub HasItsLoads : Row → Page → Type 0
HasItsLoads row p = p.loads.now ≡ loads_at row p.about.now.number

-- each page of a row was written
abbrev pub AreWritten : Wanted → List File → Nexts → List Page → List Page → Type 0
AreWritten wanted files nexts old new =
    (i : ℕ) (d : Page) → i < length old → IsWritten wanted files nexts (slice_index_or old i d) (slice_index_or new i d)

abbrev pub text_in : {Z : Type 0} → Option (Vec ℕ Z) → List ℕ
text_in None = []
text_in (Some s) = s.items

abbrev pub page_text : Page → List ℕ
page_text p = text_in p.text

-- the texts of the pages that are shown
abbrev pub shown_texts_of : List Page → List (List ℕ)
shown_texts_of ps = map page_text (filter (λ p. p.shown) ps)

-- a page says right whether its module is shown
abbrev pub SaysShown : Wanted → List ℕ → Page → Type 0
SaysShown wanted roots p = p.shown ≡ is_shown_by wanted roots (ended_well p.about.now.ended) p.about.now.number

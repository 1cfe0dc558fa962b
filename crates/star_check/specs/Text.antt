-- The text of a check: one compact JSON value, the keys of its objects in byte order, and a line end.
use Rattle.std.specs.Prelude.{◌≡◌, ◌↔◌, ℕ, List, [], ◌∷◌, ◌++◌, Bool, true, false, not, ◌||◌, codes, filter, map, nat_eq}
use Rattle.std.specs.List.{list_any}
use Rattle.serde_json.specs.Data.{Data, array, member, no_items, no_members, number, object, put, string, unsigned}
use Rattle.serde_json.specs.View.{items_of}
use Rattle.serde_json.specs.Written.{compact_text}
use Rattle.star_label.specs.Files.{File, label_at}
use Rattle.star_plan.specs.Plan.{Plan}
use Rattle.star_plan.specs.Reached.{IsReached}
use Rattle.star_plan.specs.Text.{load_data, static_data, texts_data}
use Rattle.star_check.specs.Check.{AtFault, Fails, IsCheck, IsSound, Module, Unrun, Verdict}

-- a module that was not run, with nothing known against it
abbrev pub unrun_data : List ℕ → Data
unrun_data label =
    object (member (codes "label") (string label) (member (codes "lines") (texts_data [])
    (member (codes "status") (string (codes "unrun")) no_members)))

-- the other modules are those of the report of a run
abbrev pub verdict_data : List File → List ℕ → Verdict → Data
verdict_data files label (AtFault f) = static_data label f
verdict_data files label (Fails cause line) = load_data files label cause line
verdict_data files label Unrun = unrun_data label

abbrev pub module_data : List File → Module → Data
module_data files m = verdict_data files (label_at files m.file) m.verdict

abbrev pub is_unrun : Verdict → Bool
is_unrun Unrun = true
is_unrun v = false

-- whether a module is shown: all are, or those with a fault and the roots
abbrev pub is_shown : Bool → List ℕ → Module → Bool
is_shown only_roots roots m = not only_roots || (not (is_unrun m.verdict) || list_any (nat_eq m.file) roots)

-- none was begun
abbrev pub check_data : List Data → Data
check_data modules =
    object (member (codes "begun") (number (unsigned 0))
    (member (codes "modules") (array (items_of modules)) no_members))

-- an object with an empty row of calls, if calls are recorded: no file runs
abbrev pub with_no_calls : Bool → Data → Data
with_no_calls true (object ms) = object (put (codes "calls") (array no_items) ms)
with_no_calls _ d = d

-- the modules that are shown
abbrev pub shown_data : Bool → Bool → List File → List ℕ → List Module → List Data
shown_data only_roots calls files roots modules =
    map (λ m. with_no_calls calls (module_data files m)) (filter (is_shown only_roots roots) modules)

unfoldable pub check_text : Bool → Bool → List File → List ℕ → List Module → List ℕ
check_text only_roots calls files roots modules =
    compact_text (check_data (shown_data only_roots calls files roots modules)) ++ 10 ∷ []

-- a text is the check of a plan
abbrev pub IsCheckText : Bool → Bool → List File → Plan → List ℕ → Type 0
IsCheckText only_roots calls files plan text =
    (modules : List Module) × IsCheck plan modules × (text ≡ check_text only_roots calls files plan.roots modules)

-- the answer is whether all reached files are sound
abbrev pub IsCheckAnswer : Plan → Bool → Type 0
IsCheckAnswer plan ok = (ok ≡ true) ↔ ((n : ℕ) → IsReached plan n → IsSound plan n)

-- The report with the further members that were asked for of each module.
use Rattle.std.specs.Prelude.{◌≡◌, ℕ, Bool, true, false, not, ◌||◌, nat_eq, List, ◌∷◌, ◌++◌, [], codes, is_some, map}
use Rattle.std.specs.List.{All, filter, list_any}
use Rattle.serde_json.specs.Data.{Data, Members, array, member, no_members, number, object, put, string, unsigned}
use Rattle.serde_json.specs.View.{items_of}
use Rattle.serde_json.specs.Written.{compact_text}
use Rattle.star_label.specs.Files.{File, label_at}
use Rattle.star_scope.specs.declared.loads.Load.{Load}
use Rattle.star_meaning.specs.Module.{Good}
use Rattle.star_plan.specs.Plan.{Plan, loads_of}
use Rattle.star_plan.specs.Report.{Ended, IsReport, Module, WentWell}
use Rattle.star_plan.specs.Results.{IsOutcome, Outcome, Ran}
use Rattle.star_plan.specs.Text.{module_data}
use Rattle.star_outcome.specs.Paid.{HasPaid}
use Rattle.star_report.specs.Calls.{calls_by, with_calls}
use Rattle.star_report.specs.Joined.{joined_text}
use Rattle.star_report.specs.Values.{value_members}
use Rattle.star_report.specs.declared.wanted.Wanted.{Wanted}

-- no further members, and all modules
abbrev pub nothing_more : Wanted
nothing_more = record { values = false; loads = false; steps = false; calls = false; only_roots = false }

-- no further members, but perhaps calls
abbrev pub IsPlain : Wanted → Type 0
IsPlain w = (w.values ≡ false) × (w.loads ≡ false) × (w.steps ≡ false)

-- members of one kind: those that are wanted, or none
abbrev pub AreWanted : Bool → (Members → Type 0) → Members → Type 0
AreWanted true P ms = P ms
AreWanted false P ms = ms ≡ no_members

-- a load, by the label of its file and its line
abbrev pub load_member : List File → Load → Data
load_member files l =
    object (member (codes "label") (string (label_at files l.file))
    (member (codes "line") (number (unsigned l.line)) no_members))

-- the loads of load statements, in order: the prelude's has none
abbrev pub loads_member : List File → List Load → Members
loads_member files loads =
    member (codes "loads") (array (items_of (map (load_member files) (filter (λ l. is_some l.token) loads)))) no_members

-- the loads of a module
abbrev pub HasLoads : List File → Plan → ℕ → Members → Type 0
HasLoads files plan n ms = ms ≡ loads_member files (loads_of plan n)

-- the steps of a module that ended well. Any other module has none
abbrev pub HasStepsAs : Plan → ℕ → Outcome → Members → Type 0
HasStepsAs plan n (Ran (Good shelf globals texts lines)) ms =
    (paid : ℕ) × HasPaid plan n paid × (ms ≡ member (codes "steps") (number (unsigned paid)) no_members)
HasStepsAs plan n o ms = ms ≡ no_members

abbrev pub HasSteps : Plan → ℕ → Members → Type 0
HasSteps plan n ms = (o : Outcome) × IsOutcome plan n o × HasStepsAs plan n o ms

-- the values of a module, and the names of those that are not data
abbrev pub HasValues : Plan → ℕ → Members → Type 0
HasValues plan n ms = (o : Outcome) × IsOutcome plan n o × (ms ≡ value_members o)

-- members and then others
abbrev pub followed : Members → Members → Members
followed no_members others = others
followed (member k d ms) others = member k d (followed ms others)

-- the further members of a file's module: its loads, its steps and its values, if they are wanted
abbrev pub AreMore : Wanted → List File → Plan → ℕ → Members → Type 0
AreMore wanted files plan n ms =
    (l s v : Members) × AreWanted wanted.loads (HasLoads files plan n) l × AreWanted wanted.steps (HasSteps plan n) s
    × AreWanted wanted.values (HasValues plan n) v × (ms ≡ followed l (followed s v))

-- an object with one member more, in its place
abbrev pub put_in : List ℕ → Data → Data → Data
put_in k e (object ms) = object (put k e ms)
put_in k e d = d

-- an object with further members
abbrev pub added : Members → Data → Data
added no_members d = d
added (member k e ms) d = added ms (put_in k e d)

-- a module of the report with its further members
pub record Full : Type 0 where
  pub shown : Module
  pub more : Members

abbrev pub full_data : List File → Full → Data
full_data files f = added f.more (module_data files f.shown)

-- whether a module went well
abbrev pub is_ok : Ended → Bool
is_ok (WentWell texts lines) = true
is_ok e = false

-- whether a module of a file is shown: all are, or the roots and all that are not ok
abbrev pub is_shown_by : Wanted → List ℕ → Bool → ℕ → Bool
is_shown_by wanted roots ok n = not wanted.only_roots || (not ok || list_any (nat_eq n) roots)

abbrev pub is_shown : Wanted → Plan → Full → Bool
is_shown wanted plan f = is_shown_by wanted plan.roots (is_ok f.shown.ended) f.shown.file

-- a module's text with the calls that it recorded, if they are wanted
abbrev pub full_row : Wanted → List File → Full → List ℕ
full_row wanted files f = with_calls wanted.calls (calls_by f.shown.ended) (compact_text (full_data files f))

-- the text of a report without calls
unfoldable pub full_text : Wanted → List File → Plan → ℕ → List Full → List ℕ
full_text wanted files plan begun fulls =
    compact_text (object (member (codes "begun") (number (unsigned begun))
    (member (codes "modules") (array (items_of (map (full_data files) (filter (is_shown wanted plan) fulls))))
    no_members))) ++ 10 ∷ []

-- the text of a report with the calls of each module, if they are wanted
abbrev pub whole_text : Bool → Wanted → List File → Plan → ℕ → List Full → List ℕ
whole_text false wanted files plan begun fulls = full_text wanted files plan begun fulls
whole_text true wanted files plan begun fulls =
    joined_text begun (map (full_row wanted files) (filter (is_shown wanted plan) fulls))

-- a text is the report of a plan, with the wanted members
pub record IsFullText (wanted : Wanted) (files : List File) (plan : Plan) (text : List ℕ) : Type 0 where
  pub begun : ℕ
  pub fulls : List Full
  pub report : IsReport plan begun (map (λ f. f.shown) fulls)
  pub more : All (λ f. AreMore wanted files plan f.shown.file f.more) fulls
  pub text_is : text ≡ whole_text wanted.calls wanted files plan begun fulls

-- The text that is written of a plan: the report, the globals of the roots, the graph of loads, or the check.
use Rattle.std.specs.Prelude.{◌≡◌, ℕ, List, [], Bool, true, false, Option, string_bytes}
use Rattle.serde_json.specs.Data.{Data}
use Rattle.star_dialect.specs.declared.Mode.{Mode}
use Rattle.star_label.specs.Files.{File}
use Rattle.star_plan.specs.Plan.{Plan}
use Rattle.star_plan.specs.Reading.{IsPlanOf}
use Rattle.star_check.specs.Text.{IsCheckAnswer, IsCheckText}
use Rattle.star_outcome.specs.Kept.{AllGood, AreModules, KeptView}
use Rattle.star_report.specs.Calls.{AreCalls, IsFirstNotOk}
use Rattle.star_report.specs.Got.{AreGot, IsFirstLack, got_text, lack_line}
use Rattle.star_report.specs.Graph.{IsGraphText}
use Rattle.star_report.specs.Wanted.{IsFullText}
use Rattle.star_report.specs.declared.got.Lack.{Lack}
use Rattle.star_report.specs.declared.got.Lack.TheVariants.{NotOk}
use Rattle.star_report.specs.declared.wanted.Output.{Output}
use Rattle.star_report.specs.declared.wanted.Output.TheVariants.{Calls, Check, Global, Graph, Report}

-- the answer is whether all modules are good: those of exactly the reached files, each with its file's outcome
abbrev pub IsAnswer : Plan → Bool → Type 0
IsAnswer plan ok =
    (modules : List KeptView) × AreModules plan modules × (ok ≡ true → AllGood modules)
    × (ok ≡ false → AllGood modules → ⊥)

-- this text is written, with this answer. If globals are wanted, the answer is whether each root has its own, and
-- nothing is written if one has none
abbrev pub IsOutput : Output → List File → Plan → List ℕ → Bool → Type 0
IsOutput (Report wanted) files plan text ok = IsFullText wanted files plan text × IsAnswer plan ok
IsOutput (Global name) files plan text true =
    (ds : List Data) × AreGot plan (string_bytes name) plan.roots ds × (text ≡ got_text ds)
IsOutput (Global name) files plan text false =
    ((n : ℕ) × (why : Lack) × IsFirstLack plan (string_bytes name) plan.roots n why) × (text ≡ [])
IsOutput (Calls name) files plan text true = AreCalls files plan (string_bytes name) plan.roots text
IsOutput (Calls name) files plan text false =
    ((n : ℕ) × IsFirstNotOk files plan (string_bytes name) plan.roots n) × (text ≡ [])
IsOutput Graph files plan text ok = IsGraphText files plan text × IsAnswer plan ok
IsOutput (Check only_roots calls) files plan text ok =
    IsCheckText only_roots calls files plan text × IsCheckAnswer plan ok

-- this message is written beside it: the first root that has no global as data, and why
abbrev pub IsSaid : Output → List File → Plan → Bool → List ℕ → Type 0
IsSaid (Report wanted) files plan ok line = line ≡ []
IsSaid (Global name) files plan true line = line ≡ []
IsSaid (Global name) files plan false line =
    (n : ℕ) × (why : Lack) × IsFirstLack plan (string_bytes name) plan.roots n why × (line ≡ lack_line files n why)
IsSaid (Calls name) files plan true line = line ≡ []
IsSaid (Calls name) files plan false line =
    (n : ℕ) × IsFirstNotOk files plan (string_bytes name) plan.roots n × (line ≡ lack_line files n NotOk)
IsSaid Graph files plan ok line = line ≡ []
IsSaid (Check only_roots calls) files plan ok line = line ≡ []

-- this holds in the plan that files have for roots, a prelude and a mode
abbrev pub InPlanOf : List File → List ℕ → Option ℕ → Mode → (Plan → Type 0) → Type 0
InPlanOf files roots prelude mode P =
    (plan : Plan) × IsPlanOf files plan × (plan.roots ≡ roots) × (plan.prelude ≡ prelude) × (plan.mode ≡ mode) × P plan

-- The lines that are written of the refused loads.
use Rattle.std.specs.Prelude.{◌≡◌, ℕ, Bool, false, not, List, [], ◌∷◌, ◌++◌, take, Option, codes}
use Rattle.star_dialect.specs.declared.Mode.{Mode}
use Rattle.star_label.specs.Files.{File, label_at}
use Rattle.star_bundle.specs.Bundle.{Asked}
use Rattle.star_outcome.specs.Refusals.{AreRefusalsOf}
use Rattle.star_outcome.specs.declared.trace.CyclicLoad.{CyclicLoad}
use Rattle.star_report.specs.Output.{InPlanOf, IsSaid}
use Rattle.star_report.specs.declared.wanted.Output.{Output}
use Rattle.star_report.specs.declared.wanted.Output.TheVariants.{Calls, Check, Global, Graph, Report}
use Rattle.star_serve.specs.Stream.{Adds}

-- the line of a load
abbrev pub trace_line : List File → CyclicLoad → List ℕ
trace_line files r =
    codes "starload: cycle: " ++ (label_at files r.file ++ (codes " loads " ++ (label_at files r.loaded ++ 10 ∷ [])))

-- the lines of loads, in order
abbrev pub trace_text : List File → List CyclicLoad → List ℕ
trace_text files [] = []
trace_text files (r ∷ rs) = trace_line files r ++ trace_text files rs

-- this line is written beside the wanted output for the input that is asked for
abbrev pub IsSaidFor : Output → Asked → Mode → Bool → List ℕ → Type 0
IsSaidFor output asked mode all_ok line =
    InPlanOf asked.files asked.roots asked.prelude mode (λ plan. IsSaid output asked.files plan all_ok line)

-- between old and new the lines of the first of these loads were written
abbrev pub TracesFirst : List File → List CyclicLoad → Option (List ℕ) → Option (List ℕ) → Type 0
TracesFirst files rs old new = (count : ℕ) × Adds old new (trace_text files (take count rs))

-- .. after this text, and of none without the trace
abbrev pub SaysFirst : List File → List ℕ → List CyclicLoad → Bool → Option (List ℕ) → Option (List ℕ) → Type 0
SaysFirst files said rs trace old new =
    (count : ℕ) × (trace ≡ false → count ≡ 0) × Adds old new (said ++ trace_text files (take count rs))

-- Between old and new the line beside the wanted output was written (`IsSaid`), and then, with the trace, the lines of
-- some loads, and nothing else. Each of these loads lies on a cycle of loads.
abbrev pub Traces : Output → Asked → Mode → Bool → Bool → Option (List ℕ) → Option (List ℕ) → Type 0
Traces output asked mode all_ok trace old new =
    (line : List ℕ) × IsSaidFor output asked mode all_ok line
    × (rs : List CyclicLoad) × AreRefusalsOf asked.files asked.roots asked.prelude mode rs
    × (trace ≡ false → rs ≡ []) × Adds old new (line ++ trace_text asked.files rs)

-- whether a line is written beside the wanted output
abbrev pub is_said : Output → Bool → Bool
is_said (Report wanted) all_ok = false
is_said (Global name) all_ok = not all_ok
is_said (Calls name) all_ok = not all_ok
is_said Graph all_ok = false
is_said (Check only_roots calls) all_ok = false

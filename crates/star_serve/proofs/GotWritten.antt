-- What is written of the roots: a line for each, or the line about the first that lacks something.
use Rattle.std.proofs.Common.{◌≡◌, ◌<◌, ◌∙◌, ℕ, List, Bool, true, false, String, Global, ap, string_bytes, subst, sym}
use Rattle.std.specs.List.{All}
use Rattle.std.proofs.lemmas.Bool.{true≢false}
use Rattle.std.proofs.lemmas.List.Elements.{All-contains}
use Rattle.star_label.specs.Files.{File}
use Rattle.star_plan.specs.Plan.{Plan}
use Rattle.star_report.specs.Calls.{AreCalls, CallsFor}
use Rattle.star_report.specs.Gets.{GotFor, IsLackAmong}
use Rattle.star_report.specs.Got.{lack_line}
use Rattle.star_report.specs.Output.{IsOutput, IsSaid}
use Rattle.star_report.specs.declared.got.Got.{Got}
use Rattle.star_report.specs.declared.got.Got.TheVariants.{Lack as Lacking, Lines}
use Rattle.star_report.specs.declared.wanted.Output.TheVariants.{Calls, Global as Named}
use Rattle.star_serve.specs.Written.{IsGotAs, IsLackBelow}

-- a root that lacks something is among the files, as all roots are
pub lack_below : (count : ℕ) (roots : List ℕ) (g : Got) → All (λ n. n < count) roots → IsLackAmong roots g → IsLackBelow count g
lack_below count roots (Lines text) all among = tt
lack_below count roots (Lacking root why) all among = All-contains (λ n. n < count) roots root all among

-- the globals
pub global_output : (files : List File) (plan : Plan) (name : String Global) (g : Got) (text said : List ℕ) (ok : Bool) → GotFor plan (string_bytes name) g → IsGotAs files g text said ok → IsOutput (Named name) files plan text ok
global_output files plan name (Lines t) text said true got is = (got.0, got.1, is.0 ∙ got.2)
global_output files plan name (Lines t) text said false got is = absurd (true≢false (sym is.2))
global_output files plan name (Lacking root why) text said true got is = absurd (true≢false is.2)
global_output files plan name (Lacking root why) text said false got is = ((root, why, got), is.0)

pub global_said : (files : List File) (plan : Plan) (name : String Global) (g : Got) (text said : List ℕ) (ok : Bool) → GotFor plan (string_bytes name) g → IsGotAs files g text said ok → IsSaid (Named name) files plan ok said
global_said files plan name (Lines t) text said true got is = is.1
global_said files plan name (Lines t) text said false got is = absurd (true≢false (sym is.2))
global_said files plan name (Lacking root why) text said true got is = absurd (true≢false is.2)
global_said files plan name (Lacking root why) text said false got is = (root, why, got, is.1)

-- the calls
pub calls_output : (files : List File) (plan : Plan) (name : String Global) (g : Got) (text said : List ℕ) (ok : Bool) → CallsFor files plan (string_bytes name) g → IsGotAs files g text said ok → IsOutput (Calls name) files plan text ok
calls_output files plan name (Lines t) text said true got is = subst (AreCalls files plan (string_bytes name) plan.roots) (sym is.0) got
calls_output files plan name (Lines t) text said false got is = absurd (true≢false (sym is.2))
calls_output files plan name (Lacking root why) text said true got is = absurd (true≢false is.2)
calls_output files plan name (Lacking root why) text said false got is = ((root, got.1), is.0)

pub calls_said : (files : List File) (plan : Plan) (name : String Global) (g : Got) (text said : List ℕ) (ok : Bool) → CallsFor files plan (string_bytes name) g → IsGotAs files g text said ok → IsSaid (Calls name) files plan ok said
calls_said files plan name (Lines t) text said true got is = is.1
calls_said files plan name (Lines t) text said false got is = absurd (true≢false (sym is.2))
calls_said files plan name (Lacking root why) text said true got is = absurd (true≢false is.2)
calls_said files plan name (Lacking root why) text said false got is = (root, got.1, is.1 ∙ ap (lack_line files root) got.0)

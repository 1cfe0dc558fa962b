-- The calls that modules recorded, as JSON.
use Rattle.std.specs.Arc.{arc_value}
use Rattle.std.specs.Prelude.{◌≡◌, ℕ, List, [], ◌∷◌, ◌++◌, Bool, true, false, codes, decimal, drop, flat_map, map, if◌then◌else◌}
use Rattle.std.specs.Str.{bytes_eq}
use Rattle.serde_json.specs.Data.{string}
use Rattle.serde_json.specs.Written.{compact_text}
use Rattle.star_label.specs.Files.{File, label_at}
use Rattle.star_meaning.specs.declared.said.RecordedCall.{RecordedCall}
use Rattle.star_meaning.specs.declared.said.Said.{Said}
use Rattle.star_meaning.specs.declared.said.Said.TheVariants.{Call, Line}
use Rattle.star_meaning.specs.Module.{Good as GoodLocal}
use Rattle.star_plan.specs.Plan.{Plan}
use Rattle.star_plan.specs.Report as report
use Rattle.star_plan.specs.Results.{IsOutcome, Outcome, Ran}
use Rattle.star_outcome.specs.declared.module.Ended.{Ended}
use Rattle.star_outcome.specs.declared.module.Ended.TheVariants.{Good, Stopped}
use Rattle.star_outcome.specs.declared.module.Module.{Module}
use Rattle.star_outcome.specs.Views.{ended_well}
use Rattle.star_report.specs.Joined.{listed}
use Rattle.star_report.specs.declared.got.Got.{Got}
use Rattle.star_report.specs.declared.got.Got.TheVariants.{Lack as Lacking, Lines}
use Rattle.star_report.specs.declared.got.Lack.TheVariants.{NotOk}

-- the calls among what was said
abbrev pub calls_in : List Said → List RecordedCall
calls_in [] = []
calls_in (Line t ∷ xs) = calls_in xs
calls_in (Call c ∷ xs) = c ∷ calls_in xs

-- the calls of a module. One that did not run has none
abbrev pub calls_by : report.Ended → List RecordedCall
calls_by (report.WentWell texts said) = calls_in said
calls_by (report.HadFault f said) = calls_in said
calls_by e = []

-- what a module said, as the code has it, and the calls among that
abbrev pub said_of : Ended → List Said
said_of (Stopped code line said left) = said.items
said_of (Good b) = (arc_value b).lines.items
said_of e = []

abbrev pub calls_of : Ended → List RecordedCall
calls_of e = calls_in (said_of e)

-- a call as an object, its members in byte order: the inputs, the line and the name
abbrev pub call_start : RecordedCall → List ℕ
call_start c = 123 ∷ c.inputs

abbrev pub rest_of_call : RecordedCall → List ℕ
rest_of_call c = codes ",\"line\":" ++ (decimal c.line ++ (codes ",\"name\":\"" ++ (c.name ++ codes "\"}")))

abbrev pub call_row : RecordedCall → List ℕ
call_row c = call_start c ++ rest_of_call c

-- whether something said is a call, and its object
abbrev pub is_call : Said → Bool
is_call (Line t) = false
is_call (Call c) = true

abbrev pub row_of : Said → List ℕ
row_of (Line t) = []
row_of (Call c) = call_row c

abbrev pub calls_text : List RecordedCall → List ℕ
calls_text cs = 91 ∷ (listed false (map call_row cs) ++ 93 ∷ [])

-- the text of an object with the calls as its first member, if they are wanted
abbrev pub with_calls : Bool → List RecordedCall → List ℕ → List ℕ
with_calls false cs text = text
with_calls true cs text = codes "{\"calls\":" ++ (calls_text cs ++ 44 ∷ drop 1 text)

-- a call as a line, with the label of the root that recorded it
abbrev pub call_line : List ℕ → RecordedCall → List ℕ
call_line label c = call_start c ++ (codes ",\"label\":" ++ (label ++ (rest_of_call c ++ 10 ∷ [])))

-- the line of something said, if it is a call of a name; and the lines of all of these
abbrev pub line_if : List ℕ → List ℕ → Said → List ℕ
line_if label name (Line t) = []
line_if label name (Call c) = if bytes_eq c.name name then call_line label c else []

abbrev pub calls_from : List ℕ → List ℕ → List Said → List ℕ
calls_from label name said = flat_map (line_if label name) said

-- the label of a file as JSON
abbrev pub label_json : List File → ℕ → List ℕ
label_json files n = compact_text (string (label_at files n))

-- a root is ok, and its lines were added; or it is not, and nothing was
abbrev pub CallsOf : List File → ℕ → List ℕ → Module → List ℕ → List ℕ → Bool → Type 0
CallsOf files n name m old new true =
    (ended_well m.ended ≡ true) × (new ≡ old ++ calls_from (label_json files n) name (said_of m.ended))
CallsOf files n name m old new false = (ended_well m.ended ≡ false) × (new ≡ old)

-- a file of a plan ended well, and said this
abbrev pub SaidBy : Outcome → List Said → Type 0
SaidBy (Ran (GoodLocal shelf globals texts said)) xs = xs ≡ said
SaidBy o xs = ⊥

abbrev pub HasSaid : Plan → ℕ → List Said → Type 0
HasSaid plan n xs = (o : Outcome) × IsOutcome plan n o × SaidBy o xs

-- the lines of the calls of a name that these files recorded, in their order, each of which ended well
abbrev pub AreCalls : List File → Plan → List ℕ → List ℕ → List ℕ → Type 0
AreCalls files plan name [] text = text ≡ []
AreCalls files plan name (n ∷ ns) text =
    (xs : List Said) × (more : List ℕ) × HasSaid plan n xs × AreCalls files plan name ns more
    × (text ≡ calls_from (label_json files n) name xs ++ more)

-- whether a file did not end well
abbrev pub IsNotOk : Outcome → Type 0
IsNotOk (Ran (GoodLocal shelf globals texts said)) = ⊥
IsNotOk o = Unit {0}

abbrev pub HasFailed : Plan → ℕ → Type 0
HasFailed plan n = (o : Outcome) × IsOutcome plan n o × IsNotOk o

-- the lines of a root of a plan are added, if it is ok
abbrev pub AddsRoot : List File → Plan → List ℕ → ℕ → List ℕ → List ℕ → Bool → Type 0
AddsRoot files plan name n old new true =
    (xs : List Said) × HasSaid plan n xs × (new ≡ old ++ calls_from (label_json files n) name xs)
AddsRoot files plan name n old new false = HasFailed plan n × (new ≡ old)

-- the first of these files that did not end well
pub record IsFirstNotOk (files : List File) (plan : Plan) (name : List ℕ) (roots : List ℕ) (n : ℕ) : Type 0 where
  pub before : List ℕ
  pub after : List ℕ
  pub text_before : List ℕ
  pub files_are : roots ≡ before ++ n ∷ after
  pub calls : AreCalls files plan name before text_before
  pub lacks : HasFailed plan n

-- the lines of the roots of a plan, or the first that is not ok
abbrev pub CallsFor : List File → Plan → List ℕ → Got → Type 0
CallsFor files plan name (Lines text) = AreCalls files plan name plan.roots text.items
CallsFor files plan name (Lacking root why) = (why ≡ NotOk) × IsFirstNotOk files plan name plan.roots root

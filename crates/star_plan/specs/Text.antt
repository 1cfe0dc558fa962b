-- The text of a report: one compact JSON value, the keys of its objects in byte order, and a line end.
use Rattle.std.specs.Prelude.{◌≡◌, ℕ, List, [], ◌∷◌, ◌++◌, fold, map, codes}
use Rattle.serde_json.specs.Data.{Data, Members, array, member, no_members, number, object, put, string, unsigned}
use Rattle.serde_json.specs.View.{items_of}
use Rattle.serde_json.specs.Written.{compact_text}
use Rattle.star_label.specs.Files.{File, label_at}
use Rattle.star_lex.specs.declared.token.SyntaxFault.{SyntaxFault}
use Rattle.star_lex.specs.declared.token.SyntaxFault.TheVariants as syntax
use Rattle.star_scope.specs.declared.error.ScopeFault.{ScopeFault}
use Rattle.star_scope.specs.declared.error.ScopeFault.TheVariants as names
use Rattle.star_meaning.specs.declared.fault.FaultCode.{FaultCode}
use Rattle.star_meaning.specs.declared.fault.FaultCode.TheVariants as code
use Rattle.star_meaning.specs.declared.said.Said.{Said}
use Rattle.star_meaning.specs.declared.said.Said.TheVariants.{Call, Line}
use Rattle.star_plan.specs.Causes.{Cause, Culprit, Cycle}
use Rattle.star_plan.specs.Plan.{Plan, StaticFault, OfNames, OfText}
use Rattle.star_plan.specs.Report.{Ended, HadFault, HadLoad, HadStatic, IsReport, Module, WentWell}

-- the word of a fault of a run
abbrev pub code_word : FaultCode → List ℕ
code_word code.Frozen = codes "frozen"
code_word code.Iterating = codes "iterating"
code_word code.BadType = codes "type"
code_word code.Index = codes "index"
code_word code.Key = codes "key"
code_word code.Overflow = codes "overflow"
code_word code.Unbound = codes "unbound"
code_word code.Recursion = codes "recursion"
code_word code.Args = codes "args"
code_word code.Zero = codes "zero"
code_word code.Fail = codes "fail"
code_word code.NoName = codes "no_name"
code_word code.Steps = codes "steps"
code_word code.Deep = codes "deep"
code_word code.Cut = codes "cut"
code_word code.BadValue = codes "value"

-- the word of a static fault. Want of memory is not a static fault of a file, and has none
abbrev pub syntax_word : SyntaxFault → List ℕ
syntax_word (syntax.BadToken line) = codes "bad_token"
syntax_word (syntax.BadIndent line) = codes "bad_indent"
syntax_word (syntax.TooNested line) = codes "nested"
syntax_word syntax.BadSyntax = codes "syntax"
syntax_word syntax.Memory = []

abbrev pub scope_word : ScopeFault → List ℕ
scope_word (names.Undefined line) = codes "undefined"
scope_word (names.BadPlace line) = codes "bad_place"
scope_word (names.Conflict line) = codes "conflict"
scope_word (names.Private line) = codes "private"
scope_word (names.NoFile line) = codes "no_file"
scope_word (names.BadLabel line) = codes "bad_label"
scope_word names.Memory = []

abbrev pub static_word : StaticFault → List ℕ
static_word (OfText f) = syntax_word f
static_word (OfNames f) = scope_word f

-- the line of a static fault. Bad syntax has the line 0
abbrev pub syntax_line : SyntaxFault → ℕ
syntax_line (syntax.BadToken line) = line
syntax_line (syntax.BadIndent line) = line
syntax_line (syntax.TooNested line) = line
syntax_line syntax.BadSyntax = 0
syntax_line syntax.Memory = 0

abbrev pub scope_line : ScopeFault → ℕ
scope_line (names.Undefined line) = line
scope_line (names.BadPlace line) = line
scope_line (names.Conflict line) = line
scope_line (names.Private line) = line
scope_line (names.NoFile line) = line
scope_line (names.BadLabel line) = line
scope_line names.Memory = 0

abbrev pub static_line : StaticFault → ℕ
static_line (OfText f) = syntax_line f
static_line (OfNames f) = scope_line f

-- each global's name with its text
abbrev pub with_global : Members → List ℕ × List ℕ → Members
with_global ms g = put g.0 (string g.1) ms

abbrev pub globals_data : List (List ℕ × List ℕ) → Data
globals_data texts = object (fold with_global no_members texts)

-- several texts
abbrev pub texts_data : List (List ℕ) → Data
texts_data texts = array (items_of (map string texts))

-- the lines among what was said
abbrev pub lines_in : List Said → List (List ℕ)
lines_in [] = []
lines_in (Line t ∷ xs) = t ∷ lines_in xs
lines_in (Call c ∷ xs) = lines_in xs

-- a module that ended well: its globals, its label, its lines
abbrev pub well_data : List ℕ → List (List ℕ × List ℕ) → List (List ℕ) → Data
well_data label texts lines =
    object (member (codes "globals") (globals_data texts) (member (codes "label") (string label)
    (member (codes "lines") (texts_data lines) (member (codes "status") (string (codes "ok")) no_members))))

-- a module that did not: its fault or its cause first, then its label, the line, the lines printed before, and the
-- status
abbrev pub ill_data : List ℕ → Data → List ℕ → ℕ → List (List ℕ) → List ℕ → Data
ill_data key fault label line lines status =
    object (member key fault (member (codes "label") (string label) (member (codes "line") (number (unsigned line))
    (member (codes "lines") (texts_data lines) (member (codes "status") (string status) no_members)))))

-- of a static fault: its word and its line
abbrev pub static_data : List ℕ → StaticFault → Data
static_data label f = ill_data (codes "fault") (string (static_word f)) label (static_line f) [] (codes "static")

-- of a load that is not good: the label of its cause, or the labels of the cycle
abbrev pub load_data : List File → List ℕ → Cause → ℕ → Data
load_data files label (Culprit n) line =
    ill_data (codes "cause") (string (label_at files n)) label line [] (codes "load")
load_data files label (Cycle ns) line =
    ill_data (codes "cycle") (texts_data (map (label_at files) ns)) label line [] (codes "load")

abbrev pub ended_data : List File → List ℕ → Ended → Data
ended_data files label (WentWell texts said) = well_data label texts (lines_in said)
ended_data files label (HadFault f said) =
    ill_data (codes "fault") (string (code_word f.code)) label f.line (lines_in said) (codes "fault")
ended_data files label (HadStatic f) = static_data label f
ended_data files label (HadLoad cause line) = load_data files label cause line

abbrev pub module_data : List File → Module → Data
module_data files m = ended_data files (label_at files m.file) m.ended

abbrev pub report_data : List File → ℕ → List Module → Data
report_data files begun modules =
    object (member (codes "begun") (number (unsigned begun))
    (member (codes "modules") (array (items_of (map (module_data files) modules))) no_members))

-- the text of a report
unfoldable pub report_text : List File → ℕ → List Module → List ℕ
report_text files begun modules = compact_text (report_data files begun modules) ++ 10 ∷ []

-- a text is the report of a plan
abbrev pub IsReportText : List File → Plan → List ℕ → Type 0
IsReportText files plan text =
    (begun : ℕ) × (modules : List Module) × IsReport plan begun modules × (text ≡ report_text files begun modules)

-- Static faults of the code, as the definitions have them.
use Rattle.std.specs.Prelude.{ℕ, List, codes}
use Rattle.star_lex.specs.declared.token.SyntaxFault.TheVariants as text
use Rattle.star_scope.specs.declared.error.ScopeFault.TheVariants as names
use Rattle.star_plan.specs.Plan.{StaticFault as PlanFault, OfText, OfNames}
use Rattle.star_reading.specs.declared.code.StaticFaultCode.{StaticFaultCode}
use Rattle.star_reading.specs.declared.code.StaticFaultCode.TheVariants.{BadToken, BadIndent, Nested, Syntax, Undefined, BadPlace, Conflict, Private, NoFile, BadLabel}
use Rattle.star_reading.specs.declared.code.StaticFault.{StaticFault}

abbrev pub fault_at : StaticFaultCode → ℕ → PlanFault
fault_at BadToken line = OfText (text.BadToken line)
fault_at BadIndent line = OfText (text.BadIndent line)
fault_at Nested line = OfText (text.TooNested line)
fault_at Syntax line = OfText text.BadSyntax
fault_at Undefined line = OfNames (names.Undefined line)
fault_at BadPlace line = OfNames (names.BadPlace line)
fault_at Conflict line = OfNames (names.Conflict line)
fault_at Private line = OfNames (names.Private line)
fault_at NoFile line = OfNames (names.NoFile line)
fault_at BadLabel line = OfNames (names.BadLabel line)

-- the fault of a code and its line
abbrev pub fault_of : StaticFault → PlanFault
fault_of f = fault_at f.code f.line

-- the word of a static fault in the report
abbrev pub word_of : StaticFaultCode → List ℕ
word_of BadToken = codes "bad_token"
word_of BadIndent = codes "bad_indent"
word_of Nested = codes "nested"
word_of Syntax = codes "syntax"
word_of Undefined = codes "undefined"
word_of BadPlace = codes "bad_place"
word_of Conflict = codes "conflict"
word_of Private = codes "private"
word_of NoFile = codes "no_file"
word_of BadLabel = codes "bad_label"

-- The table of the methods of strings that are functions of bytes.
use Rattle.std.specs.Prelude.{ℕ, ◌+◌, nat_eq, List, [], ◌∷◌, Option, Some, None, false, if◌then◌else◌, codes, slice_get}
use Rattle.std.specs.Cmp.Lexicographic.{pointwise}
use Rattle.std.specs.Option.{option_map}
use Rattle.star_strings.specs.declared.cases.Case.TheVariants as case
use Rattle.star_strings.specs.declared.cases.Heads.TheVariants as heads
use Rattle.star_strings.specs.declared.classes.Class.TheVariants as class
use Rattle.star_strings.specs.declared.table.Answer.{Answer}
use Rattle.star_strings.specs.declared.table.Answer.TheVariants as answer
use Rattle.star_strings.specs.declared.table.Argument.{Argument}
use Rattle.star_strings.specs.declared.table.Argument.TheVariants as argument
use Rattle.star_strings.specs.declared.table.Entry.{Entry}
use Rattle.star_strings.specs.declared.table.Line.{Line}
use Rattle.star_strings.specs.Words.{lines}
use Rattle.star_strings.specs.Places.{ends, first_within, last_within, starts}
use Rattle.star_strings.specs.Strings.{codepoint_ords, codepoints, counted, elem_ords, elems, headed, is_all, is_cased, parted, place_or_none, place_wanted, rparted, rsplit, split, without_prefix, without_suffix}
use Rattle.star_strings.specs.declared.table.Kind.{Kind}
use Rattle.star_strings.specs.declared.table.Kind.TheVariants as kind
use Rattle.star_strings.specs.declared.table.StringMethod.{StringMethod}
use Rattle.star_strings.specs.declared.work.AtEnd.{AtEnd}
use Rattle.star_strings.specs.declared.work.AtEnd.TheVariants as end_work
use Rattle.star_strings.specs.declared.work.Bare.{Bare}
use Rattle.star_strings.specs.declared.work.Bare.TheVariants as bare_work
use Rattle.star_strings.specs.declared.work.OfText.{OfText}
use Rattle.star_strings.specs.declared.work.OfText.TheVariants as text_work
use Rattle.star_strings.specs.declared.work.Within.{Within}
use Rattle.star_strings.specs.declared.work.Within.TheVariants as within_work
use Rattle.star_strings.specs.declared.work.Work.{Work}
use Rattle.star_strings.specs.declared.work.Work.TheVariants as work

-- a method: its name, the number of arguments that it has to have, and the kinds of those that it may have
pub record Row : Type 0 where
  pub name : List ℕ
  pub least : ℕ
  pub wants : List Kind

-- .. and its work
pub record Entered : Type 0 where
  pub row : Row
  pub work : Work

-- all of them, in order of their names
abbrev pub rows : List Entered
rows =
    record { row = record { name = codes "capitalize"; least = 0; wants = [] }; work = work.Bare (bare_work.Headed heads.Text) }
    ∷ record { row = record { name = codes "codepoint_ords"; least = 0; wants = [] }; work = work.Bare bare_work.CodepointOrds }
    ∷ record { row = record { name = codes "codepoints"; least = 0; wants = [] }; work = work.Bare bare_work.Codepoints }
    ∷ record { row = record { name = codes "count"; least = 1; wants = kind.Text ∷ kind.Place ∷ kind.Place ∷ [] }; work = work.Within within_work.Count }
    ∷ record { row = record { name = codes "elem_ords"; least = 0; wants = [] }; work = work.Bare bare_work.ElemOrds }
    ∷ record { row = record { name = codes "elems"; least = 0; wants = [] }; work = work.Bare bare_work.Elems }
    ∷ record { row = record { name = codes "endswith"; least = 1; wants = kind.Texts ∷ kind.Place ∷ kind.Place ∷ [] }; work = work.AtEnd end_work.Endswith }
    ∷ record { row = record { name = codes "index"; least = 1; wants = kind.Text ∷ kind.Place ∷ kind.Place ∷ [] }; work = work.Within within_work.Index }
    ∷ record { row = record { name = codes "isalnum"; least = 0; wants = [] }; work = work.Bare (bare_work.Are class.Alnum) }
    ∷ record { row = record { name = codes "isalpha"; least = 0; wants = [] }; work = work.Bare (bare_work.Are class.Alpha) }
    ∷ record { row = record { name = codes "isdigit"; least = 0; wants = [] }; work = work.Bare (bare_work.Are class.Digit) }
    ∷ record { row = record { name = codes "islower"; least = 0; wants = [] }; work = work.Bare (bare_work.Cased case.Lower) }
    ∷ record { row = record { name = codes "isspace"; least = 0; wants = [] }; work = work.Bare (bare_work.Are class.Space) }
    ∷ record { row = record { name = codes "istitle"; least = 0; wants = [] }; work = work.Bare (bare_work.Cased case.Title) }
    ∷ record { row = record { name = codes "isupper"; least = 0; wants = [] }; work = work.Bare (bare_work.Cased case.Upper) }
    ∷ record { row = record { name = codes "partition"; least = 1; wants = kind.Text ∷ [] }; work = work.OfText text_work.Partition }
    ∷ record { row = record { name = codes "removeprefix"; least = 1; wants = kind.Text ∷ [] }; work = work.OfText text_work.Removeprefix }
    ∷ record { row = record { name = codes "removesuffix"; least = 1; wants = kind.Text ∷ [] }; work = work.OfText text_work.Removesuffix }
    ∷ record { row = record { name = codes "rfind"; least = 1; wants = kind.Text ∷ kind.Place ∷ kind.Place ∷ [] }; work = work.Within within_work.Rfind }
    ∷ record { row = record { name = codes "rindex"; least = 1; wants = kind.Text ∷ kind.Place ∷ kind.Place ∷ [] }; work = work.Within within_work.Rindex }
    ∷ record { row = record { name = codes "rpartition"; least = 1; wants = kind.Text ∷ [] }; work = work.OfText text_work.Rpartition }
    ∷ record { row = record { name = codes "rsplit"; least = 0; wants = kind.MaybeText ∷ kind.Int ∷ [] }; work = work.Rsplit }
    ∷ record { row = record { name = codes "split"; least = 0; wants = kind.MaybeText ∷ kind.Int ∷ [] }; work = work.Split }
    ∷ record { row = record { name = codes "splitlines"; least = 0; wants = kind.Bool ∷ [] }; work = work.Splitlines }
    ∷ record { row = record { name = codes "startswith"; least = 1; wants = kind.Texts ∷ kind.Place ∷ kind.Place ∷ [] }; work = work.AtEnd end_work.Startswith }
    ∷ record { row = record { name = codes "title"; least = 0; wants = [] }; work = work.Bare (bare_work.Headed heads.Words) }
    ∷ []

-- the answer of each, of the string and of the arguments
abbrev pub bare : Bare → List ℕ → Answer
bare (bare_work.Are k) t = answer.Truth (is_all k t)
bare (bare_work.Cased k) t = answer.Truth (is_cased k t)
bare bare_work.CodepointOrds t = answer.Numbers (codepoint_ords t)
bare bare_work.Codepoints t = answer.List (codepoints t)
bare bare_work.ElemOrds t = answer.Numbers (elem_ords t)
bare bare_work.Elems t = elems t
bare (bare_work.Headed h) t = answer.Text (headed h t)

abbrev pub of_text : OfText → List ℕ → List ℕ → Answer
of_text text_work.Partition t u = parted t u
of_text text_work.Removeprefix t u = answer.Text (without_prefix t u)
of_text text_work.Removesuffix t u = answer.Text (without_suffix t u)
of_text text_work.Rpartition t u = rparted t u

abbrev pub within : Within → List ℕ → List ℕ → List Argument → Answer
within within_work.Count t u given = counted t u given
within within_work.Index t u given = place_wanted (first_within t u given)
within within_work.Rfind t u given = answer.Number (place_or_none (last_within t u given))
within within_work.Rindex t u given = place_wanted (last_within t u given)

abbrev pub at_end : AtEnd → List ℕ → List (List ℕ) → List Argument → Answer
at_end end_work.Endswith t us given = answer.Truth (ends t us given)
at_end end_work.Startswith t us given = answer.Truth (starts t us given)

unfoldable pub answer_of : Work → List ℕ → List Argument → Answer
answer_of (work.Bare k) t [] = bare k t
answer_of (work.OfText k) t (argument.Text u ∷ []) = of_text k t u
answer_of (work.Within k) t (argument.Text u ∷ given) = within k t u given
answer_of (work.AtEnd k) t (argument.Texts us ∷ given) = at_end k t us given
answer_of work.Rsplit t given = rsplit t given
answer_of work.Split t given = split t given
answer_of work.Splitlines t [] = answer.List (lines false t)
answer_of work.Splitlines t (argument.Bool b ∷ []) = answer.List (lines b t)
answer_of _ t _ = answer.Refused

-- the row of a method
unfoldable pub row_of : StringMethod → Option Row
row_of m = option_map (λ e. e.row) (slice_get rows m.number)

-- its work, and what it answers of a string and of arguments
abbrev pub work_of : StringMethod → Option Work
work_of m = option_map (λ e. e.work) (slice_get rows m.number)

abbrev pub answer_by : Option Work → List ℕ → List Argument → Answer
answer_by (Some k) t given = answer_of k t given
answer_by None t given = answer.Refused

unfoldable pub answer_to : StringMethod → List ℕ → List Argument → Answer
answer_to m = answer_by (work_of m)

-- its name
abbrev pub name_in : Option Row → List ℕ
name_in (Some r) = r.name
name_in None = []

abbrev pub method_name : StringMethod → List ℕ
method_name m = name_in (row_of m)

-- the method with a name
abbrev pub named_from : List ℕ → ℕ → List Entered → Option StringMethod
named_from name n [] = None
named_from name n (r ∷ rs) =
    if pointwise nat_eq r.row.name name then Some (record { number = n }) else named_from name (n + 1) rs

unfoldable pub named : List ℕ → Option StringMethod
named name = named_from name 0 rows

-- an entry of the code's table
abbrev pub shown : Entry → Row
shown e = record { name = e.name.now; least = e.least; wants = e.wants.now }

abbrev pub line_of : Line → Entered
line_of l = record { row = shown l.entry; work = l.work }

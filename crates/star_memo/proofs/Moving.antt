-- Several threads may parse texts: the data that they share, and the results that they hand back.
use Rattle.std.proofs.Common.{ℕ, List, [], ◌∷◌}
use denote.Builtin.{usize}
use denote.RattleType.{RattleType}
use denote.Ref.{NamedLft}
use denote.Struct.Tuple.{Tuple, TupleAt}
use denote.Param.Send.{IsSend, IsSync, sendable}
use denote.Param.SendFields.{variants_send, variants_sync}
use Rattle.std.proofs.Crossing.{crosses}
use Rattle.std.specs.contracts.result.Result as result
use Rattle.std.specs.contracts.vec.Vec as vec
use Rattle.std.specs.contracts.alloc.Global as heap
use Rattle.std.specs.contracts.alloc.AllocError as refusal
use Rattle.std.specs.contracts.impls.GlobalAllocator.TheImpl.{ghosts}
use Rattle.star_flow.specs.contracts.search.Search as search_of
use Rattle.star_flow.proofs.search.Search.TheSendSync as of_search
use Rattle.star_dialect.proofs.Language.TheSendSync as of_language
use Rattle.star_label.proofs.files.Files.TheSendSync as of_labels
use Rattle.star_lex.proofs.token.SyntaxFault.TheSendSync as of_syntax
use Rattle.star_reading.proofs.Closures.{captured, closure_sync}
use Rattle.star_reading.specs.contracts.reading.Read as read
use Rattle.star_reading.proofs.Crossing.{program_sync}
use Rattle.star_reading.proofs.Moving.{read_send, tree_send, tree_sync}
use Rattle.star_reading.proofs.code.StaticFault.TheSendSync as of_fault
use Rattle.star_memo.specs.contracts.parses.Parse as parse
use Rattle.star_memo.specs.contracts.ahead.Parser as parser
use Rattle.star_memo.specs.contracts.readings.Arena as arena
use Rattle.star_memo.specs.contracts.readings.Readings as readings
use Rattle.boxcar.proofs.vec.Vec.TheSendSync as of_row

parse_send : IsSend parse.the_row
parse_send = variants_send parse.enum ((tree_send, tt), ((of_syntax.the_send, tt), tt))

parse_sync : IsSync parse.the_row
parse_sync = variants_sync parse.enum ((tree_sync, tt), ((of_syntax.the_sync, tt), tt))

-- an arena may be freed by another thread
pub arena_send : IsSend arena.the_row
arena_send =
    let t = tree_send in
    let y = tree_sync in
    let p = parse_send in
    let q = parse_sync in
    search (of_row.the_send, sendable, crosses) depth 40

-- .. and so may readings
pub readings_send : (κ : NamedLft) → IsSend (readings.the_row κ)
readings_send κ =
    let g = of_language.the_send in
    let r = read_send κ in
    let y = tree_sync in
    let f = of_syntax.the_send in
    search (sendable, crosses) depth 40 fits 100000

abbrev numbered : RattleType
numbered = Tuple (usize ∷ parse.the_row ∷ [])

numbered_send : IsSend numbered
numbered_send = let p = parse_send in search sendable depth 20

-- the result of a thread that has parsed some texts
pub share_send : IsSend (result.the_row (vec.the_row numbered heap.the_row ghosts) refusal.the_row)
share_send = let n = numbered_send in search (sendable, crosses) depth 20

read_sync : (κ : NamedLft) → IsSync (read.the_row κ)
read_sync κ = variants_sync (read.enum κ) ((program_sync κ, tt), ((of_fault.the_sync, tt), tt))

parser_sync : (κ ν μ : NamedLft) → IsSync (parser.the_row κ ν μ)
parser_sync κ ν μ =
    let l = of_labels.the_sync in
    let f = of_syntax.the_sync in
    let s = tree_send in
    let y = tree_sync in
    let r = read_sync μ in
    search (sendable, crosses) depth 40

-- a parser's closure: it captures the parser, the runtime R, and the search
pub parsers_sync : (R : RattleType) (α β γ δ ε ζ : NamedLft) → IsSync R → (ν : List ℕ) → IsSync (TupleAt ν (captured (parser.the_row β γ ζ) R search_of.the_row α δ ε))
parsers_sync R α β γ δ ε ζ r ν = closure_sync (parser.the_row β γ ζ) R search_of.the_row α δ ε (parser_sync β γ ζ) r of_search.the_sync ν

-- What a thread of its own gets, and what it hands back.
use Rattle.std.proofs.Common.{ℕ, List, [], ◌∷◌}
use denote.RattleType.{RattleType}
use denote.Ref.{NamedLft}
use denote.Struct.Field.{row_field}
use denote.Struct.Tuple.{TupleAt, type_at, parts}
use denote.Param.Send.{AllSend, IsSend, IsSync, sendable}
use denote.Param.SendFields.{FieldsHave, as_row_send, declared_send, variants_send, variants_sync}
use Rattle.std.proofs.Crossing.{crosses}
use Rattle.star_dialect.proofs.Language.TheSendSync as of_language
use Rattle.star_dialect.proofs.Mode.TheSendSync as of_mode
use Rattle.star_label.proofs.files.Files.TheSendSync as of_labels
use Rattle.star_lex.proofs.token.SyntaxFault.TheSendSync as of_syntax
use Rattle.star_reading.specs.contracts.reading.Read as read
use Rattle.star_reading.proofs.Crossing.{program_sync}
use Rattle.star_reading.proofs.Moving.{tree_send, tree_sync}
use Rattle.star_reading.proofs.code.StaticFault.TheSendSync as of_fault
use Rattle.star_memo.specs.contracts.parses.Parse as parse
use Rattle.star_memo.specs.contracts.parses.Parses as parses
use Rattle.star_bundle.specs.contracts.bundle.AskedFor as asked
use Rattle.star_label.proofs.label.Label.TheSendSync as of_label
use Rattle.star_session.specs.contracts.request.Request as request

parse_send : IsSend parse.the_row
parse_send = variants_send parse.enum ((tree_send, tt), ((of_syntax.the_send, tt), tt))

parse_sync : IsSync parse.the_row
parse_sync = variants_sync parse.enum ((tree_sync, tt), ((of_syntax.the_sync, tt), tt))

pub parses_send : IsSend parses.the_row
parses_send =
    let p = parse_send in
    let q = parse_sync in
    search (sendable, crosses) depth 40

pub parses_sync : IsSync parses.the_row
parses_sync =
    let p = parse_send in
    let q = parse_sync in
    search (sendable, crosses) depth 40

pub read_sync : (κ : NamedLft) → IsSync (read.the_row κ)
read_sync κ = variants_sync (read.enum κ) ((program_sync κ, tt), ((of_fault.the_sync, tt), tt))

pub asked_sync : IsSync asked.the_row
asked_sync = let l = of_labels.the_sync in search (sendable, crosses) depth 40

pub request_sync : IsSync request.the_row
request_sync =
    let l = of_label.the_sync in
    let g = of_language.the_sync in
    let m = of_mode.the_sync in
    search (sendable, crosses) depth 40 fits 100000

parts_send : (Ts : List RattleType) → AllSend Ts → FieldsHave IsSend (parts Ts)
parts_send [] s = tt
parts_send (T ∷ Ts) s = (as_row_send (row_field T) s.0, parts_send Ts s.1)

-- a closure may go to another thread if all that it captures may
pub tuple_send : (ν : List ℕ) (Ts : List RattleType) → AllSend Ts → IsSend (TupleAt ν Ts)
tuple_send ν Ts s = declared_send (type_at ν Ts) (parts_send Ts s)

-- Several threads may read files: the data that they share, and the results that they hand back.
use Rattle.std.proofs.Common.{ℕ, List, [], ◌∷◌}
use denote.Builtin.{usize}
use denote.RattleType.{RattleType}
use denote.Ref.{NamedLft}
use denote.Struct.Tuple.{Tuple, TupleAt}
use Rattle.std.specs.contracts.result.Result as result
use Rattle.std.specs.contracts.vec.Vec as vec
use Rattle.std.specs.contracts.alloc.Global as heap
use Rattle.std.specs.contracts.alloc.AllocError as refusal
use Rattle.std.specs.contracts.impls.GlobalAllocator.TheImpl.{ghosts}
use Rattle.star_flow.specs.contracts.search.Search as search_of
use Rattle.star_flow.proofs.search.Search.TheSendSync as of_search
use Rattle.boxcar.proofs.vec.Vec.TheSendSync as of_trees
use Rattle.star_dialect.proofs.Language.TheSendSync as of_language
use Rattle.star_label.proofs.files.Files.TheSendSync as of_labels
use Rattle.star_lex.proofs.token.SyntaxFault.TheSendSync as of_syntax
use Rattle.star_reading.proofs.Closures.{captured, closure_sync}
use denote.Param.Send.{IsSend, IsSync, sendable}
use denote.Param.SendFields.{variants_send}
use Rattle.std.proofs.Crossing.{crosses}
use Rattle.std.proofs.MapsCrossing as maps
use Rattle.star_scope.specs.contracts.program.Program as program
use Rattle.star_outline.specs.contracts.outline.Body as body
use Rattle.star_outline.specs.contracts.outline.Definition as definition
use Rattle.star_outline.specs.contracts.outline.Definitions as definitions
use Rattle.star_outline.proofs.blocks.Blocks.TheSendSync as of_blocks
use Rattle.star_outline.proofs.blocks.BlockNames.TheSendSync as of_names
use Rattle.star_scope.proofs.spots.Spots.TheSendSync as of_spots
use Rattle.star_scope.proofs.loads.Load.TheSendSync as of_load
use Rattle.star_scope.proofs.program.Prelude.TheSendSync as of_prelude
use Rattle.star_tree.specs.contracts.tree.Expression as expression
use Rattle.star_tree.specs.contracts.tree.Parameter as parameter
use Rattle.star_tree.specs.contracts.tree.Statement as statement
use Rattle.star_tree.specs.contracts.tree.Target as target
use Rattle.star_tree.specs.contracts.tree.Tree as tree
use Rattle.star_tree.proofs.tree.Argument.TheLaws.TheKnot as of_expressions
use Rattle.star_tree.proofs.tree.Form.TheLaws.TheKnot as of_statements
use Rattle.star_tree.proofs.tree.Name.TheSendSync as of_name
use Rattle.star_tree.proofs.tree.Position.TheSendSync as of_position
use Rattle.star_tree.proofs.tree.UnaryOperator.TheSendSync as of_unary
use Rattle.star_tree.proofs.tree.BinaryOperator.TheSendSync as of_binary
use Rattle.star_tree.proofs.tree.Comparator.TheSendSync as of_comparator
use Rattle.star_tree.proofs.tree.Literal.TheSendSync as of_literal
use Rattle.star_tree.proofs.tree.LoadedName.TheSendSync as of_loaded
use Rattle.star_text.proofs.Text.TheSendSync as of_text
use Rattle.sqlite_items.proofs.items.Items.TheSendSync as of_items
use Rattle.sqlite_items.proofs.boxed.Boxed.TheSendSync as of_boxed
use Rattle.star_reading.specs.contracts.reading.Read as read
use Rattle.star_reading.specs.contracts.reading.Reader as reader
use Rattle.star_reading.proofs.code.StaticFault.TheSendSync as of_fault
use Rattle.star_reading.proofs.Crossing.{statement_sync, parameter_sync, expression_sync}

ruleset moving = (of_name.the_field_send, of_position.the_field_send, of_unary.the_field_send, of_binary.the_field_send, of_comparator.the_field_send, of_text.the_send, of_items.the_send, of_boxed.the_send)

expression_field_send : IsSend (expression.the_field).row
expression_field_send = search (sendable, crosses, of_expressions.crosses, moving) depth 60

target_field_send : IsSend (target.the_field).row
target_field_send = search (sendable, crosses, of_expressions.crosses, moving) depth 60

parameter_field_send : IsSend (parameter.the_field).row
parameter_field_send = search (sendable, crosses, of_expressions.crosses, moving) depth 60

statement_send : IsSend statement.the_row
statement_send = search (sendable, crosses, of_statements.crosses, expression_field_send, target_field_send, parameter_field_send, of_literal.the_field_send, of_loaded.the_field_send, moving) depth 60 fits 100000

pub tree_send : IsSend tree.the_row
tree_send = let s = statement_send in search (sendable, crosses, of_items.the_send) depth 20

pub tree_sync : IsSync tree.the_row
tree_sync = let s = statement_sync in search (sendable, crosses, of_items.the_sync) depth 20

module _ (s : IsSync statement.the_row) (p : IsSync parameter.the_row) (e : IsSync expression.the_row) (κ : NamedLft) where
  body_send : IsSend (body.the_row κ)
  body_send = search (sendable, crosses) depth 40

  definition_send : IsSend (definition.the_row κ)
  definition_send = let b = body_send in search (sendable, crosses) depth 40

  definitions_send : IsSend (definitions.the_row κ)
  definitions_send = let d = definition_send in search (sendable, crosses, maps.crosses) depth 40

  the_program : IsSend (program.the_row κ)
  the_program =
      let l = of_load.the_send in
      let d = definitions_send in
      let b = of_blocks.the_send κ in
      let n = of_names.the_send κ in
      let t = of_spots.the_send in
      search (sendable, crosses) depth 40

pub program_send : (κ : NamedLft) → IsSend (program.the_row κ)
program_send = the_program statement_sync parameter_sync expression_sync

pub read_send : (κ : NamedLft) → IsSend (read.the_row κ)
read_send κ = variants_send (read.enum κ) ((program_send κ, tt), ((of_fault.the_send, tt), tt))

-- the result of a thread that has read some files
module _ (κ : NamedLft) where
  abbrev numbered : RattleType
  numbered = Tuple (usize ∷ read.the_row κ ∷ [])

  numbered_send : IsSend numbered
  numbered_send = let r = read_send κ in search sendable depth 20

  pub share_send : IsSend (result.the_row (vec.the_row numbered heap.the_row ghosts) refusal.the_row)
  share_send = let n = numbered_send in search (sendable, crosses) depth 20

reader_sync : (κ ν : NamedLft) → IsSync (reader.the_row κ ν)
reader_sync κ ν =
    let l = of_labels.the_sync in
    let g = of_language.the_sync in
    let p = of_prelude.the_sync ν in
    let f = of_syntax.the_sync in
    let s = tree_send in
    let y = tree_sync in
    search (of_trees.the_sync, sendable, crosses) depth 40

-- a reader's closure: it captures the reader, the runtime R, and the search
pub readers_sync : (R : RattleType) (α β γ δ ε : NamedLft) → IsSync R → (ν : List ℕ) → IsSync (TupleAt ν (captured (reader.the_row β γ) R search_of.the_row α δ ε))
readers_sync R α β γ δ ε r ν = closure_sync (reader.the_row β γ) R search_of.the_row α δ ε (reader_sync β γ) r of_search.the_sync ν

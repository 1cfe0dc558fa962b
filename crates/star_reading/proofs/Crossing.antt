-- Programs and trees that several threads may read.
use denote.Ref.{NamedLft}
use denote.Param.Send.{IsSync, sendable}
use Rattle.std.proofs.Crossing.{crosses}
use Rattle.std.proofs.MapsCrossing as maps
use Rattle.star_scope.specs.contracts.program.Program as program
use Rattle.star_outline.specs.contracts.outline.Body as body
use Rattle.star_outline.specs.contracts.outline.Definition as definition
use Rattle.star_outline.specs.contracts.outline.Definitions as definitions
use Rattle.star_outline.proofs.blocks.Blocks.TheSendSync as of_blocks
use Rattle.star_outline.proofs.blocks.BlockNames.TheSendSync as of_names
use Rattle.star_scope.proofs.spots.Spots.TheSendSync as of_spots
use Rattle.star_scope.proofs.loads.Load.TheSendSync as of_load
use Rattle.star_tree.specs.contracts.tree.Expression as expression
use Rattle.star_tree.specs.contracts.tree.Parameter as parameter
use Rattle.star_tree.specs.contracts.tree.Statement as statement
use Rattle.star_tree.specs.contracts.tree.Target as target
use Rattle.star_tree.proofs.tree.Argument.TheLaws.TheKnot as of_expressions
use Rattle.star_tree.proofs.tree.Form.TheLaws.TheKnot as of_statements
use Rattle.star_tree.proofs.tree.Name.TheSendSync as of_name
use Rattle.star_tree.proofs.tree.Position.TheSendSync as of_position
use Rattle.star_tree.proofs.tree.UnaryOperator.TheSendSync as of_unary
use Rattle.star_tree.proofs.tree.BinaryOperator.TheSendSync as of_binary
use Rattle.star_tree.proofs.tree.Comparator.TheSendSync as of_comparator
use Rattle.star_tree.proofs.tree.Literal.TheSendSync as of_literal
use Rattle.star_tree.proofs.tree.LoadedName.TheSendSync as of_loaded
use Rattle.star_text.proofs.Text.TheSendSync as of_text
use Rattle.sqlite_items.proofs.items.Items.TheSendSync as of_items
use Rattle.sqlite_items.proofs.boxed.Boxed.TheSendSync as of_boxed

ruleset leaves = (of_name.the_field_sync, of_position.the_field_sync, of_unary.the_field_sync, of_binary.the_field_sync, of_comparator.the_field_sync, of_text.the_sync, of_items.the_sync, of_boxed.the_sync)

pub expression_sync : IsSync expression.the_row
expression_sync = search (sendable, crosses, of_expressions.crosses, leaves) depth 60

expression_field : IsSync (expression.the_field).row
expression_field = search (sendable, crosses, of_expressions.crosses, leaves) depth 60

target_field : IsSync (target.the_field).row
target_field = search (sendable, crosses, of_expressions.crosses, leaves) depth 60

parameter_field : IsSync (parameter.the_field).row
parameter_field = search (sendable, crosses, of_expressions.crosses, leaves) depth 60

pub parameter_sync : IsSync parameter.the_row
parameter_sync = search (sendable, crosses, of_expressions.crosses, leaves) depth 60

pub statement_sync : IsSync statement.the_row
statement_sync = search (sendable, crosses, of_statements.crosses, expression_field, target_field, parameter_field, of_literal.the_field_sync, of_loaded.the_field_sync, leaves) depth 60 fits 100000

module _ (s : IsSync statement.the_row) (p : IsSync parameter.the_row) (e : IsSync expression.the_row) (κ : NamedLft) where
  body_sync : IsSync (body.the_row κ)
  body_sync = search (sendable, crosses) depth 40

  definition_sync : IsSync (definition.the_row κ)
  definition_sync = let b = body_sync in search (sendable, crosses) depth 40

  definitions_sync : IsSync (definitions.the_row κ)
  definitions_sync = let d = definition_sync in search (sendable, crosses, maps.crosses) depth 40

  the_program : IsSync (program.the_row κ)
  the_program =
      let l = of_load.the_sync in
      let d = definitions_sync in
      let b = of_blocks.the_sync κ in
      let n = of_names.the_sync κ in
      let t = of_spots.the_sync in
      search (sendable, crosses) depth 40

pub program_sync : (κ : NamedLft) → IsSync (program.the_row κ)
program_sync = the_program statement_sync parameter_sync expression_sync

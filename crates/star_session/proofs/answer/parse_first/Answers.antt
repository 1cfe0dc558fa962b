use Rattle.std.proofs.Common.{ℕ, List, [], ◌∷◌}
use base.Fml.{Lft}
use mir.Syntax.{Lifetime}
use denote.Exit.{no}
use denote.Hole.{shared_at}
use denote.Param.{param}
use denote.Param.Send.{AllSend, IsSend, IsSync, arg_send, param_send, sendable}
use denote.RattleType.{RattleType}
use denote.Ref.{MutRef, NamedLft}
use denote.Slice.{ShrSlice}
use denote.Struct.Tuple.{TupleAt}
use Rattle.std.proofs.Crossing.{crosses}
use Rattle.std.specs.contracts.alloc.Global as heap
use Rattle.std.specs.contracts.option.Option as option
use Rattle.star_bundle.specs.contracts.bundle.AskedFor as asked
use Rattle.star_memo.specs.contracts.parses.Parses as parses
use Rattle.star_outcome.specs.contracts.memory.Size as size
use Rattle.star_reading.specs.contracts.reading.Read as read
use Rattle.star_session.proofs.Moving.{asked_sync, parses_send, read_sync, tuple_send}
use Rattle.star_session.proofs.answer.parse_first.Goals as goal

module _ (R : RattleType) (α β γ δ ε ζ : NamedLft) (ℓ : Lifetime) (ρ : Lft) where
  abbrev captured : List RattleType
  captured = shared_at α heap.the_row ∷ shared_at β size.the_row ∷ shared_at γ R ∷ shared_at δ asked.the_row ∷ MutRef ℓ ρ parses.the_row ∷ ShrSlice ε.mir ε.lft (option.the_row (read.the_row ζ)) ∷ []

  captured_send : IsSync R → AllSend captured
  captured_send r = let d = read_sync ζ in search (asked_sync, parses_send, sendable, crosses) depth 40

  parser_send : IsSync R → (ν : List ℕ) → IsSend (TupleAt ν captured)
  parser_send r ν = tuple_send ν captured (captured_send r)

pub join_mut-ballast-requires-send-F : goal.join_mut-ballast-requires-send-F
join_mut-ballast-requires-send-F g c κs within =
    param_send 1 _ (arg_send _ no _ (parser_send (param 0 g.row.H) _ _ _ _ _ _ _ _ c.type_bounds.sync-H _))

use Rattle.std.proofs.Common.{ℕ, List, [], ◌∷◌}
use denote.Exit.{no}
use denote.Hole.{shared_at}
use denote.Param.{param}
use denote.Param.Send.{AllSend, IsSend, IsSync, arg_send, param_send, sendable}
use denote.RattleType.{RattleType}
use denote.Ref.{NamedLft}
use denote.Struct.Tuple.{TupleAt}
use Rattle.std.proofs.Crossing.{crosses}
use Rattle.std.specs.contracts.alloc.Global as heap
use Rattle.star_label.specs.contracts.files.Files as files
use Rattle.star_label.proofs.files.Files.TheSendSync as of_files
use Rattle.star_memo.specs.contracts.parses.Parses as parses
use Rattle.star_outcome.specs.contracts.memory.Size as size
use Rattle.star_session.specs.contracts.request.Request as request
use Rattle.star_session.proofs.Moving.{parses_sync, request_sync, tuple_send}
use Rattle.star_session.proofs.folder.looked_apart.Goals as goal

-- what the closure captures: the allocator, the size of its ballast, the runtime R, the folder F, the files with their
-- parses, and the request
module _ (R F : RattleType) (α β γ δ ε ζ η : NamedLft) where
  abbrev captured : List RattleType
  captured = shared_at α heap.the_row ∷ shared_at β size.the_row ∷ shared_at γ R ∷ shared_at δ F ∷ shared_at ε files.the_row ∷ shared_at ζ parses.the_row ∷ shared_at η request.the_row ∷ []

  captured_send : IsSync R → IsSync F → AllSend captured
  captured_send r f = search (of_files.the_sync, parses_sync, request_sync, sendable, crosses) depth 40

  looker_send : IsSync R → IsSync F → (ν : List ℕ) → IsSend (TupleAt ν captured)
  looker_send r f ν = tuple_send ν captured (captured_send r f)

pub join_mut-looked-requires-send-F : goal.join_mut-looked-requires-send-F
join_mut-looked-requires-send-F g c κs within =
    param_send 1 _ (arg_send _ no _ (looker_send (param 0 g.row.H) _ _ _ _ _ _ _ _ c.type_bounds.sync-H c.type_bounds.sync-F _))

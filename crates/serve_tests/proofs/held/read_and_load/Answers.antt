-- Two threads may use the data that the loaders of a test share.
use Rattle.std.proofs.Common.{ℕ, List, [], ◌∷◌}
use denote.Builtin.{usize}
use denote.Hole.{shared_at}
use denote.Ref.{NamedLft}
use denote.RattleType.{RattleType}
use denote.Slice.{ShrSlice}
use denote.Struct.Tuple.{TupleAt}
use denote.Param.Send.{AllSync, IsSync, sendable}
use Rattle.std.specs.declared.sync.ledger.Ledger
use Rattle.star_cache.specs.contracts.cache.LoadCache as cache
use Rattle.star_cache.proofs.cache.LoadCache.TheSendSync as of_cache
use Rattle.star_outcome.specs.contracts.told.Told as told
use Rattle.star_outcome.specs.contracts.told.ToldProduct.TheImpl as product
use Rattle.star_outcome.specs.contracts.trace.Trace as trace
use Rattle.star_outcome.specs.declared.run_id.RunId
use Rattle.star_outcome.proofs.told.Told.TheSendSync as of_told
use Rattle.star_outcome.proofs.trace.Trace.TheSendSync as of_trace
use Rattle.star_reading.proofs.Closures.{tuple_sync}
use Rattle.star_host.specs.contracts.common.LoadContext as common
use Rattle.star_host.proofs.Sharing.{common_sync}
use Rattle.serve_tests.specs.contracts.meeting.Meeting as meeting
use Rattle.serve_tests.proofs.meeting.Meeting.TheSendSync as of_meeting
use denote.Exit.{no}
use denote.Param.{param}
use denote.Param.Send.{param_sync, arg_sync}
use Rattle.serve_tests.proofs.held.read_and_load.Goals as goal

-- a loader's closure: it captures the runtime R, the data that the loaders share, the gate, the cache, the roots and
-- the trace
module _ (J : RattleType) (n : RunId.Ghosts J.Denot) (l : Ledger.Ghosts J.Denot) (R : RattleType) (α β γ δ ε ζ η θ κ ξ : NamedLft) where
  abbrev the_cache : RattleType
  the_cache = cache.the_row (told.the_row J n l) J (product.ghosts J n product.no_dict l product.no_dict) l

  abbrev captured : List RattleType
  captured = shared_at α R ∷ shared_at β (common.the_row γ δ ε ζ) ∷ shared_at η meeting.the_row ∷ shared_at θ the_cache ∷ ShrSlice κ.mir κ.lft usize ∷ shared_at ξ (trace.the_row J n l) ∷ []

  captured_sync : IsSync R → AllSync captured
  captured_sync r = search (common_sync, of_meeting.the_sync, of_cache.the_sync, of_told.the_send, of_trace.the_sync, sendable) depth 20

  reader_sync : IsSync R → (ν : List ℕ) → IsSync (TupleAt ν captured)
  reader_sync r ν = tuple_sync ν captured (captured_sync r)

pub map_vec-requires-sync-F : goal.map_vec-requires-sync-F
map_vec-requires-sync-F g c κs within =
    let all = reader_sync (param 0 g.row.J) g.J.RunId g.J.Ledger (param 1 g.row.R) _ _ _ _ _ _ _ _ _ _ c.type_bounds.sync-R _ in
    param_sync 4 _ (arg_sync _ no _ all)

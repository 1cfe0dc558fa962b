-- Several threads may use the data that loaders share.
use Rattle.std.proofs.Common.{ℕ, List, [], ◌∷◌}
use denote.Hole.{shared_at}
use base.Fml.{Lft}
use mir.Syntax.{Lifetime}
use denote.Ref.{NamedLft}
use denote.Slice.{MutSlice}
use denote.RattleType.{RattleType}
use denote.Struct.Field.{row_field}
use denote.Struct.Tuple.{TupleAt, type_at, parts}
use denote.Param.Send.{AllSend, AllSync, IsSend, IsSync, sendable}
use denote.Param.SendFields.{FieldsHave, as_row_send, declared_send, variants_sync}
use Rattle.std.proofs.Crossing.{crosses}
use Rattle.std.proofs.MapsCrossing as maps
use Rattle.std.specs.declared.sync.ledger.Ledger
use Rattle.star_dialect.proofs.Mode.TheSendSync as of_mode
use Rattle.star_cache.specs.contracts.cache.LoadCache as cache
use Rattle.star_cache.proofs.cache.LoadCache.TheSendSync as of_cache
use Rattle.star_world.specs.contracts.files.Files as files
use Rattle.star_flow.specs.contracts.flow.Flow as flow
use Rattle.star_flow.proofs.flow.Flow.TheSendSync as of_flow
use Rattle.star_label.proofs.files.Files.TheSendSync as of_labels
use Rattle.star_world.specs.contracts.placed.IndexedProgram as placed
use Rattle.star_world.specs.contracts.programs.Programs as programs
use Rattle.star_reading.specs.contracts.reading.Read as read
use Rattle.star_outcome.specs.contracts.told.Told as told
use Rattle.star_outcome.specs.contracts.told.ToldProduct.TheImpl as product
use Rattle.star_outcome.specs.contracts.trace.Trace as trace
use Rattle.star_host.specs.contracts.common.LoadContext as common
use Rattle.star_host.specs.contracts.running.Loader as loader
use Rattle.star_outcome.specs.declared.run_id.RunId
use Rattle.star_reading.proofs.Closures.{tuple_sync}
use Rattle.star_reading.proofs.Crossing.{program_sync, statement_sync}
use Rattle.star_reading.proofs.code.StaticFault.TheSendSync as of_fault
use Rattle.star_outcome.proofs.good_end.GoodEnd.TheSendSync as of_end
use Rattle.star_outcome.proofs.module.Module.TheSendSync as of_module
use Rattle.star_outcome.proofs.shelf.Shelf.TheSendSync as of_shelf
use Rattle.star_outcome.proofs.told.Told.TheSendSync as of_told
use Rattle.star_outcome.proofs.trace.Trace.TheSendSync as of_trace
use Rattle.star_host.proofs.running.Loader.TheSendSync as of_loader

read_sync : (κ : NamedLft) → IsSync (read.the_row κ)
read_sync κ = variants_sync (read.enum κ) ((program_sync κ, tt), ((of_fault.the_sync, tt), tt))

placed_sync : (κ ν : NamedLft) → IsSync (placed.the_row κ ν)
placed_sync κ ν = let p = program_sync ν in search (sendable, crosses, maps.crosses) depth 40

programs_sync : (κ ν : NamedLft) → IsSync (programs.the_row κ ν)
programs_sync κ ν = let p = placed_sync κ ν in search (sendable, crosses) depth 40

files_sync : (κ ν : NamedLft) → IsSync (files.the_row κ ν)
files_sync κ ν = let p = programs_sync κ ν in let s = statement_sync in search (sendable, crosses) depth 40

pub common_sync : (κ ν μ ξ : NamedLft) → IsSync (common.the_row κ ν μ ξ)
common_sync κ ν μ ξ =
    let r = read_sync ξ in
    let f = files_sync ν ξ in
    let l = of_labels.the_sync in
    let m = of_mode.the_sync in
    let e = of_end.the_sync in
    let s = of_shelf.the_sync _ of_module.the_send of_module.the_sync in
    search (sendable, crosses) depth 40

parts_send : (Ts : List RattleType) → AllSend Ts → FieldsHave IsSend (parts Ts)
parts_send [] s = tt
parts_send (T ∷ Ts) s = (as_row_send (row_field T) s.0, parts_send Ts s.1)

-- a closure may go to another thread if all that it captures may
pub tuple_send : (ν : List ℕ) (Ts : List RattleType) → AllSend Ts → IsSend (TupleAt ν Ts)
tuple_send ν Ts s = declared_send (type_at ν Ts) (parts_send Ts s)

-- a loader's closure: it captures the runtime R, the data that all loaders share, the gate G, the cache, the trace and
-- the flow
module _ (J : RattleType) (n : RunId.Ghosts J.Denot) (l : Ledger.Ghosts J.Denot) (R G : RattleType) (α β γ δ ε ζ η θ ι κ : NamedLft) where
  abbrev the_cache : RattleType
  the_cache = cache.the_row (told.the_row J n l) J (product.ghosts J n product.no_dict l product.no_dict) l

  abbrev captured : List RattleType
  captured = shared_at α R ∷ shared_at β (common.the_row γ δ ε ζ) ∷ shared_at η G ∷ shared_at θ the_cache ∷ shared_at ι (trace.the_row J n l) ∷ shared_at κ flow.the_row ∷ []

  captured_sync : IsSync R → IsSync G → AllSync captured
  captured_sync r g = search (common_sync, of_cache.the_sync, of_told.the_send, of_trace.the_sync, of_flow.the_sync, sendable) depth 20

  pub loader_sync : IsSync R → IsSync G → (ν : List ℕ) → IsSync (TupleAt ν captured)
  loader_sync r g ν = tuple_sync ν captured (captured_sync r g)

  -- the closure that starts all loaders: it captures their row, too
  abbrev captured_apart : Lifetime → Lft → List RattleType
  captured_apart ℓ ρ = shared_at α R ∷ shared_at β (common.the_row γ δ ε ζ) ∷ shared_at η G ∷ shared_at θ the_cache ∷ MutSlice ℓ ρ (loader.the_row J n l) ∷ shared_at ι (trace.the_row J n l) ∷ shared_at κ flow.the_row ∷ []

  apart_all : IsSync R → IsSync G → (ℓ : Lifetime) (ρ : Lft) → AllSend (captured_apart ℓ ρ)
  apart_all r g ℓ ρ = search (common_sync, of_cache.the_sync, of_told.the_send, of_trace.the_sync, of_flow.the_sync, of_loader.the_send, sendable) depth 20

  pub apart_send : IsSync R → IsSync G → (ℓ : Lifetime) (ρ : Lft) (ν : List ℕ) → IsSend (TupleAt ν (captured_apart ℓ ρ))
  apart_send r g ℓ ρ ν = tuple_send ν (captured_apart ℓ ρ) (apart_all r g ℓ ρ)

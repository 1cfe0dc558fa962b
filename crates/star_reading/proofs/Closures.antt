-- Closures that several threads may share.
use Rattle.std.proofs.Common.{ℕ, List, [], ◌∷◌}
use denote.Hole.{shared_at}
use denote.RattleType.{RattleType}
use denote.Ref.{NamedLft}
use denote.Struct.Field.{row_field}
use denote.Struct.Tuple.{TupleAt, type_at, parts}
use denote.Param.Send.{AllSync, IsSync, sendable}
use denote.Param.SendFields.{FieldsHave, declared_sync, as_row_sync}

parts_sync : (Ts : List RattleType) → AllSync Ts → FieldsHave IsSync (parts Ts)
parts_sync [] s = tt
parts_sync (T ∷ Ts) s = (as_row_sync (row_field T) s.0, parts_sync Ts s.1)

-- a closure may be shared if all that it captures may be
pub tuple_sync : (ν : List ℕ) (Ts : List RattleType) → AllSync Ts → IsSync (TupleAt ν Ts)
tuple_sync ν Ts s = declared_sync (type_at ν Ts) (parts_sync Ts s)

-- a closure that captures three values by shared references
module _ (A B C : RattleType) (α β γ : NamedLft) where
  abbrev pub captured : List RattleType
  captured = shared_at α A ∷ shared_at β B ∷ shared_at γ C ∷ []

  captured_sync : IsSync A → IsSync B → IsSync C → AllSync captured
  captured_sync a b c = search sendable depth 20

  pub closure_sync : IsSync A → IsSync B → IsSync C → (ν : List ℕ) → IsSync (TupleAt ν captured)
  closure_sync a b c ν = tuple_sync ν captured (captured_sync a b c)

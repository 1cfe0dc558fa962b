-- What is known of a message by what was read of it.
use Rattle.std.proofs.Common.{◌≡◌, ℕ, List, Some, None, Result, Ok, Err, subst}
use Rattle.std.specs.Prelude.{OnOk, codes, option_and_then}
use Rattle.serde_json.specs.Data.{Data}
use Rattle.serde_json.specs.Find.{as_str, get}
use Rattle.serde_json.specs.declared.value.Value.{Value}
use Rattle.star_lsp.specs.Message.{Answers, Asks}

nothing_there : (message id : Data) → get (codes "id") message ≡ None → get (codes "id") message ≡ Some id → ⊥
nothing_there message id e h = cc

-- a message with no id asks for nothing
pub no_id : {T E : Type 0} (r : Result T E) (message : Data) (old new : List Value) → get (codes "id") message ≡ None
    → OnOk r ((id : Data) → Asks message id → Answers id old new)
no_id (Err x) message old new e = tt
no_id (Ok x) message old new e = λ id is. absurd (nothing_there message id e is.1)

-- the id of a message is this one alone
pub with_id : {T E : Type 0} (r : Result T E) (message its : Data) (old new : List Value) → get (codes "id") message ≡ Some its
    → OnOk r ((name : List ℕ) → option_and_then as_str (get (codes "method") message) ≡ Some name → Answers its old new)
    → OnOk r ((id : Data) → Asks message id → Answers id old new)
with_id (Err x) message its old new e h = tt
with_id (Ok x) message its old new e h = λ id is.
    let same : its ≡ id = cc (e, is.1) in
    subst (λ d. Answers d old new) same (h is.0 is.2)

-- Pairs that are put into a new dictionary, one after another.
use Rattle.std.proofs.Common.{◌≡◌, ℕ, ◌+◌, ◌<◌, Bool, List, ◌∷◌, length, drop, get_or, ap, sym, subst, ◌∙◌}
use Rattle.std.proofs.lemmas.List.{drop_more}
use Rattle.star_store.specs.declared.values.Value.{Value}
use Rattle.star_machine.specs.declared.fault.EvalError.{EvalError}
use Rattle.star_machine.specs.declared.fault.EvalError.TheVariants.{Memory, Faulted}
use Rattle.star_machine.specs.Refines.{Ends}
use Rattle.star_meaning.specs.Pairs.{with_pair, with_pairs}
use Rattle.star_meaning.specs.Program.{Setting}
use Rattle.star_meaning.specs.Run.{State, Outcome, and_then}

-- a pair that stops the putting
pub pair_ends : (w : Setting) (levels line : ℕ) (keys : Bool) (es ps rest : List (Value × Value)) (e : Value × Value) (s new : State) (whole : Outcome (List (Value × Value))) (stop : EvalError) → ps ≡ e ∷ rest → with_pairs w levels line keys es ps s ≡ whole → Ends (with_pair w levels line keys es e s) stop new → Ends whole stop new
pair_ends w levels line keys es ps rest e s new whole Memory next told h = tt
pair_ends w levels line keys es ps rest e s new whole (Faulted c n) next told h =
    sym told ∙ (ap (λ xs. with_pairs w levels line keys es xs s) next ∙ ap (λ o. and_then o (λ fs. with_pairs w levels line keys fs rest)) h)

-- the rest of a list begins with the item at the place
pub left_at : {X : Type 0} (xs ys : List X) (i : ℕ) (d : X) → i < length ys → ys ≡ xs → drop i xs ≡ get_or ys i d ∷ drop (i + 1) xs
left_at xs ys i d h e = subst (λ zs. drop i zs ≡ get_or ys i d ∷ drop (i + 1) zs) e (drop_more ys i d h)

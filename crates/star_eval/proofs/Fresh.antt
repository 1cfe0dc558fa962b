-- An entry of a display whose key is checked and new.
use Rattle.std.proofs.Common.{◌≡◌, ℕ, List, ◌∷◌, Option, Some, None, Bool, true, false, not, is_some, refl, ap, sym, subst, ◌∙◌}
use Rattle.std.specs.Bool.{OnTrue}
use Rattle.std.proofs.lemmas.Bool.{OnTrue_at}
use Rattle.star_store.specs.declared.values.Value.{Value}
use Rattle.star_machine.specs.declared.fault.EvalError.{EvalError}
use Rattle.star_machine.specs.declared.fault.EvalError.TheVariants.{Memory, Faulted}
use Rattle.star_machine.specs.Refines.{Ends}
use Rattle.star_meaning.specs.declared.fault.FaultCode.TheVariants.{Key}
use Rattle.star_meaning.specs.Expressions.{fresh_entries, fresh_entry}
use Rattle.star_meaning.specs.Entries.{with_entry}
use Rattle.star_meaning.specs.Program.{Setting}
use Rattle.star_meaning.specs.Run.{State, Outcome, Done, and_then, check, give, seeing}
use Rattle.star_meaning.specs.Values.{check_key, place_in}

passed : (line : ℕ) (o : Option ℕ) (t : State) → is_some o ≡ false → check Key line (not (is_some o)) t ≡ Done tt t
passed line None t h = refl
passed line (Some n) t h = cc

pub fresh_made : (w v : Setting) (levels line : ℕ) (es fs : List (Value × Value)) (e : Value × Value) (s t : State) → v ≡ w → check_key v levels line e.0 s ≡ Done tt t → is_some (place_in v t e.0 es) ≡ false → fs ≡ with_entry v t es e → fresh_entry w levels line es e s ≡ Done fs t
fresh_made w v levels line es fs e s t q h k m = subst (λ u. fresh_entry u levels line es e s ≡ Done fs t) q (rw h (rw (passed line (place_in v t e.0 es) t k) (ap (λ x. Done x t) (sym m))))

-- an entry that was put in as a new one
pub fresh_put : (w v : Setting) (levels line : ℕ) (es fs : List (Value × Value)) (e : Value × Value) (s t : State) (new : Bool) → v ≡ w → check_key v levels line e.0 s ≡ Done tt t → new ≡ not (is_some (place_in v t e.0 es)) → new ≡ true → OnTrue new (fs ≡ with_entry v t es e) → fresh_entry w levels line es e s ≡ Done fs t
fresh_put w v levels line es fs e s t new q h k b m = fresh_made w v levels line es fs e s t q h (absent (is_some (place_in v t e.0 es)) (sym k ∙ b)) (OnTrue_at b m)
  where
    absent : (c : Bool) → not c ≡ true → c ≡ false
    absent true i = cc
    absent false i = refl

-- an entry whose key is there already
pub fresh_there : (w v : Setting) (levels line : ℕ) (es : List (Value × Value)) (e : Value × Value) (s t : State) (new : Bool) (stop : EvalError) → v ≡ w → check_key v levels line e.0 s ≡ Done tt t → new ≡ not (is_some (place_in v t e.0 es)) → new ≡ false → stop ≡ Faulted Key line → Ends (fresh_entry w levels line es e s) stop t
fresh_there w v levels line es e s t new stop q h k b j =
    subst (λ u. Ends (fresh_entry u levels line es e s) stop t) q (rw (j, h) (stays (place_in v t e.0 es) (sym k ∙ b)))
  where
    stays : (o : Option ℕ) → not (is_some o) ≡ false → Ends (and_then (check Key line (not (is_some o)) t) (λ _. seeing (λ u. give (with_entry v u es e)))) (Faulted Key line) t
    stays None i = cc
    stays (Some n) i = refl

-- an entry that stops the making of a display
pub fresh_ends : (w : Setting) (levels line : ℕ) (es found rest : List (Value × Value)) (e : Value × Value) (s new : State) (whole : Outcome (List (Value × Value))) (stop : EvalError) → found ≡ e ∷ rest → fresh_entries w levels line es found s ≡ whole → Ends (fresh_entry w levels line es e s) stop new → Ends whole stop new
fresh_ends w levels line es found rest e s new whole Memory next told h = tt
fresh_ends w levels line es found rest e s new whole (Faulted c n) next told h =
    sym told ∙ (ap (λ xs. fresh_entries w levels line es xs s) next ∙ ap (λ o. and_then o (λ fs. fresh_entries w levels line fs rest)) h)

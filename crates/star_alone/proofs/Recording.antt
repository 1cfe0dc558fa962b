-- The refusal of names whose calls are to be recorded comes after all others of the input.
use Rattle.std.proofs.Common.{◌≡◌, ◌⊎◌, inl, inr, Bool, true, false, Result, Ok, Err, refl, ap, subst, sym, ◌∙◌}
use Rattle.std.specs.Prelude.{if◌then◌else◌}
use Rattle.star_dialect.specs.declared.Mode.{Mode}
use Rattle.star_bundle.specs.Bundle.{Asked}
use Rattle.star_bundle.specs.Refusal.{Fails}
use Rattle.star_bundle.specs.declared.error.ServeError.{ServeError}
use Rattle.star_bundle.specs.declared.error.ServeError.TheVariants.{BadRecord, Memory, Unpublished}
use Rattle.star_reading.specs.Record.{are_recordable}
use Rattle.star_alone.specs.Alone.{IsRefusedBy, recording}

if_true : {A : Type 0} (b : Bool) (x y : A) → b ≡ true → (if b then x else y) ≡ x
if_true true x y h = refl
if_true false x y h = absurd (let no : ⊥ = cc in no)

if_false : {A : Type 0} (b : Bool) (x y : A) → b ≡ false → (if b then x else y) ≡ y
if_false true x y h = absurd (let no : ⊥ = cc in no)
if_false false x y h = refl

pub recorded_ok : (mode : Mode) (given : Result Asked ServeError) (asked : Asked) → are_recordable mode.language.recorded ≡ true → given ≡ Ok asked → recording mode given ≡ Ok asked
recorded_ok mode given asked may is = ap (recording mode) is ∙ if_true (are_recordable mode.language.recorded) (Ok asked) (Err BadRecord) may

pub recorded_not : (mode : Mode) (given : Result Asked ServeError) (asked : Asked) → are_recordable mode.language.recorded ≡ false → given ≡ Ok asked → recording mode given ≡ Err BadRecord
recorded_not mode given asked may is = ap (recording mode) is ∙ if_false (are_recordable mode.language.recorded) (Ok asked) (Err BadRecord) may

-- a refusal of the input stays
pub fails_so : (mode : Mode) (given : Result Asked ServeError) (e : ServeError) → Fails e given → Fails e (recording mode given)
fails_so mode given Memory h = tt
fails_so mode given e h = ap (recording mode) h

-- a refusal of the run
pub run_refused : (given : Result Asked ServeError) (asked : Asked) (e : ServeError) → given ≡ Ok asked → (e ≡ Memory) ⊎ (e ≡ Unpublished) → IsRefusedBy given e
run_refused given asked e is (inl memory) = inl (subst (λ x. Fails x given) (sym memory) tt)
run_refused given asked e is (inr never) = inr (never, (asked, is))

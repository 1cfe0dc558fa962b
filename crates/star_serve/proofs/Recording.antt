-- The refusal of names whose calls are to be recorded comes after all others of the input.
use Rattle.std.proofs.Common.{◌≡◌, ℕ, List, Bool, true, false, Option, Result, Ok, Err, refl, ap, ◌∙◌}
use Rattle.std.specs.Prelude.{if◌then◌else◌}
use Rattle.star_bundle.specs.Bundle.{Asked}
use Rattle.star_bundle.specs.Refusal.{writes_failed}
use Rattle.star_bundle.specs.declared.error.ServeError.{ServeError}
use Rattle.star_bundle.specs.declared.error.ServeError.TheVariants.{BadPrelude, BadRecord, BadRoot, Memory, Write}
use Rattle.star_repo.specs.Held.{Said}
use Rattle.star_repo.specs.declared.error.RepoError.TheVariants as why
use Rattle.star_serve.specs.Repo.{IsRefusedAll, IsUnrecorded, repo_writes_failed}
use Rattle.star_serve.specs.Serve.{may_record, recording}
use Rattle.star_serve.specs.declared.serve.Options.{Options}
use Rattle.star_words.specs.Named.{IsMisnamed}

if_true : {A : Type 0} (b : Bool) (x y : A) → b ≡ true → (if b then x else y) ≡ x
if_true true x y h = refl
if_true false x y h = absurd (let no : ⊥ = cc in no)

if_false : {A : Type 0} (b : Bool) (x y : A) → b ≡ false → (if b then x else y) ≡ y
if_false true x y h = absurd (let no : ⊥ = cc in no)
if_false false x y h = refl

-- an input whose names may be recorded
pub recorded_ok : (options : Options) (given : Result Asked ServeError) (asked : Asked) → may_record options ≡ true → given ≡ Ok asked → recording options given ≡ Ok asked
recorded_ok options given asked may is = ap (recording options) is ∙ if_true (may_record options) (Ok asked) (Err BadRecord) may

-- .. and one whose names may not
pub recorded_not : (options : Options) (given : Result Asked ServeError) (asked : Asked) → may_record options ≡ false → given ≡ Ok asked → recording options given ≡ Err BadRecord
recorded_not options given asked may is = ap (recording options) is ∙ if_false (may_record options) (Ok asked) (Err BadRecord) may

-- a refusal of a word is one before anything is read
pub misnamed_so : (roots : List (List ℕ)) (p : Option (List ℕ)) (e : ServeError) → IsMisnamed roots p e → IsUnrecorded roots p e
misnamed_so roots p BadRecord h = absurd h
misnamed_so roots p e h = h

-- .. which is a refusal of the whole
pub unrecorded_refused : (said : Said) (roots : List (List ℕ)) (p : Option (List ℕ)) (recorded : Bool) (unwritten : Type 0) (e : ServeError) → IsUnrecorded roots p e → recorded ≡ false → unwritten → IsRefusedAll said roots p recorded unwritten e
unrecorded_refused said roots p recorded unwritten BadRoot h r u = (h, u)
unrecorded_refused said roots p recorded unwritten BadPrelude h r u = (h, u)
unrecorded_refused said roots p recorded unwritten BadRecord h r u = (h, r, u)
unrecorded_refused said roots p recorded unwritten Memory h r u = u
unrecorded_refused said roots p recorded unwritten e h r u = absurd h

pub unrecorded_writes : (roots : List (List ℕ)) (p : Option (List ℕ)) (e : ServeError) → IsUnrecorded roots p e → repo_writes_failed {T = Bool} (Err (why.Run e)) ≡ 0
unrecorded_writes roots p Write h = absurd h
unrecorded_writes roots p e h = refl

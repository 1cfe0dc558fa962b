-- The text of one file by the first bytes that are read of it.
use Rattle.std.proofs.Common.{◌≡◌, ◌≢◌, ◌≤◌, ℕ, List, length, Option, Some, refl, subst, sym}
use Rattle.std.specs.Str.{IsUtf8}
use Rattle.star_bundle.specs.declared.error.ServeError.{ServeError}
use Rattle.star_bundle.specs.declared.error.ServeError.TheVariants as error
use Rattle.star_folder.specs.Refusal.{failed_read}
use Rattle.star_repo.specs.Held.{TellsFront}
use Rattle.star_repo.specs.Refusal.{Refuses}
use Rattle.star_repo.specs.Text.{IsTextAt, IsUnfit}
use Rattle.star_repo.proofs.Steps.{front_of, refuses_all, whole_told}

pub fit_front : (o : Option (Option (List ℕ))) (front text : List ℕ) → text ≡ front → TellsFront o (Some front) → length front ≤ 1048576 → IsUtf8 front → IsTextAt o (Some text)
fit_front o front text is told short utf8 = subst (λ t. IsTextAt o (Some t)) (sym is) (whole_told o front told short, (short, utf8))

pub unfit_front : (o : Option (Option (List ℕ))) (front : List ℕ) (e : ServeError) → TellsFront o (Some front) → Refuses 0 0 front e → IsUnfit o e
unfit_front o front error.BadFile told h = tt
unfit_front o front error.Memory told h = tt
unfit_front o front e told h = let f = front_of o front told in (f.0, f.1, refuses_all 0 0 f.0 front e f.2 h)

pub no_read_failed : (e : ServeError) → e ≢ error.BadFile → failed_read e ≡ 0
no_read_failed error.BadFile k = absurd (k refl)
no_read_failed e k = refl

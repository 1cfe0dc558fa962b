-- Which refusals a folder can have.
use Rattle.std.proofs.Common.{◌≡◌, ℕ, List, [], ◌∷◌, Bool, Option, Result, Ok, Err, refl}
use Rattle.std.specs.Prelude.{IfErr}
use Rattle.star_bundle.specs.Bundle.{Asked, asked_among}
use Rattle.star_bundle.specs.Refusal.{Fails, writes_failed}
use Rattle.star_folder.specs.Refusal.{failed_listing, failed_read, files_failed, listings_failed}
use Rattle.star_folder.proofs.StopKinds.{IsOfWalk}
use Rattle.star_serve.specs.Serve.{IsRefusedDir, IsRefusedRun}
use Rattle.star_label.specs.Files.{File}
use Rattle.star_serve.proofs.Refusals.{IsOf, IsOfWords, words_kind}
use Rattle.star_bundle.specs.declared.error.ServeError.{ServeError}
use Rattle.star_bundle.specs.declared.error.ServeError.TheVariants.{TooBig, BadDir, BadFile, NotText, TooMany, TooLong, BadRoot, NoRoot, BadPrelude, NoPrelude, Memory, Write, Unpublished}

-- no listing, no read and no write failed
abbrev pub NoneFailed : ServeError → Type 0
NoneFailed e = (failed_listing e ≡ 0) × (failed_read e ≡ 0) × (writes_failed {T = Bool} (Err e) ≡ 0)

-- the walk stopped
pub stopped_refused : (stopped : ServeError → Type 0) (answers : Result Asked ServeError → Type 0) (unwritten : Type 0) (e : ServeError) → IsOfWalk e → stopped e → unwritten → IsRefusedDir stopped answers unwritten e
stopped_refused stopped answers unwritten TooBig k s u = (s, u)
stopped_refused stopped answers unwritten BadDir k s u = (s, u)
stopped_refused stopped answers unwritten BadFile k s u = (s, u)
stopped_refused stopped answers unwritten NotText k s u = (s, u)
stopped_refused stopped answers unwritten TooMany k s u = (s, u)
stopped_refused stopped answers unwritten TooLong k s u = (s, u)
stopped_refused stopped answers unwritten Memory k s u = u
stopped_refused stopped answers unwritten e k s u = absurd k

pub stopped_writes : (e : ServeError) → IsOfWalk e → writes_failed {T = Bool} (Err e) ≡ 0
stopped_writes Write k = absurd k
stopped_writes e k = refl

-- the words are refused
pub words_refused : (stopped : ServeError → Type 0) (answers : Result Asked ServeError → Type 0) (unwritten : Type 0) (e : ServeError) (given : Result Asked ServeError) → Fails e given → IsOf IsOfWords given → ((x : ServeError) → given ≡ Err x → answers (Err x)) → unwritten → IsRefusedDir stopped answers unwritten e
words_refused stopped answers unwritten BadRoot given h k a u = (a BadRoot h, u)
words_refused stopped answers unwritten NoRoot given h k a u = (a NoRoot h, u)
words_refused stopped answers unwritten BadPrelude given h k a u = (a BadPrelude h, u)
words_refused stopped answers unwritten NoPrelude given h k a u = (a NoPrelude h, u)
words_refused stopped answers unwritten Memory given h k a u = u
words_refused stopped answers unwritten e given h k a u = absurd (rw h at k)

words_failed : (e : ServeError) (given : Result Asked ServeError) → Fails e given → IsOf IsOfWords given → NoneFailed e
words_failed BadDir given h k = absurd (rw h at k)
words_failed BadFile given h k = absurd (rw h at k)
words_failed Write given h k = absurd (rw h at k)
words_failed e given h k = (refl, refl, refl)

-- .. of these files
pub words_among : (roots : List (List ℕ)) (prelude : Option (List ℕ)) (files : List File) (e : ServeError) → Fails e (asked_among roots prelude files) → NoneFailed e
words_among roots prelude files e h = words_failed e (asked_among roots prelude files) h (words_kind IsOfWords roots prelude files tt tt tt tt)

-- a run or its report is refused
pub run_refused : (stopped : ServeError → Type 0) (answers : Result Asked ServeError → Type 0) (unwritten : Type 0) (e : ServeError) (asked : Asked) → IsRefusedRun unwritten e → answers (Ok asked) → IsRefusedDir stopped answers unwritten e
run_refused stopped answers unwritten Memory asked h a = h
run_refused stopped answers unwritten Write asked h a = (asked, a)
run_refused stopped answers unwritten Unpublished asked h a = ((asked, a), h)
run_refused stopped answers unwritten e asked h a = absurd h

pub run_failed : (unwritten : Type 0) (e : ServeError) → IsRefusedRun unwritten e → (failed_listing e ≡ 0) × (failed_read e ≡ 0)
run_failed unwritten BadDir h = absurd h
run_failed unwritten BadFile h = absurd h
run_failed unwritten e h = (refl, refl)

pub run_counts : (unwritten : Type 0) (r : Result Bool ServeError) → IfErr r (IsRefusedRun unwritten) → (listings_failed r ≡ 0) × (files_failed r ≡ 0)
run_counts unwritten (Ok x) h = (refl, refl)
run_counts unwritten (Err e) h = run_failed unwritten e h

-- With which errors a walk can stop.
use Rattle.std.proofs.Common.{ℕ, List, [], ◌∷◌, sym, subst}
use Rattle.std.specs.Prelude.{⊤}
use Rattle.star_bundle.specs.declared.error.ServeError.{ServeError}
use Rattle.star_bundle.specs.declared.error.ServeError.TheVariants.{TooBig, BadDir, BadFile, NotText, TooMany, TooLong, Memory}
use Rattle.star_folder.specs.Folder.{Contents}
use Rattle.star_folder.specs.Refusal.{FileStops, FolderStops, IsStopped, Stops}
use Rattle.star_folder.specs.Walk.{FileOf, FolderAt, Place, Visit}

abbrev pub IsOfWalk : ServeError → Type 0
IsOfWalk TooBig = ⊤
IsOfWalk BadDir = ⊤
IsOfWalk BadFile = ⊤
IsOfWalk NotText = ⊤
IsOfWalk TooMany = ⊤
IsOfWalk TooLong = ⊤
IsOfWalk Memory = ⊤
IsOfWalk e = ⊥

of_folder : (held : Contents) (listed : ℕ) (path : List ℕ) (e : ServeError) → FolderStops held listed path e → IsOfWalk e
of_folder held listed path TooBig h = tt
of_folder held listed path BadDir h = tt
of_folder held listed path BadFile h = tt
of_folder held listed path NotText h = tt
of_folder held listed path TooMany h = tt
of_folder held listed path TooLong h = tt
of_folder held listed path Memory h = tt
of_folder held listed path e h = h

of_file : (held : Contents) (count size : ℕ) (label : List ℕ) (e : ServeError) → FileStops held count size label e → IsOfWalk e
of_file held count size label TooBig h = tt
of_file held count size label BadDir h = tt
of_file held count size label BadFile h = tt
of_file held count size label NotText h = tt
of_file held count size label TooMany h = tt
of_file held count size label TooLong h = tt
of_file held count size label Memory h = tt
of_file held count size label e h = h.1

of_place : (held : Contents) (visits : List Visit) (left : List Place) (e : ServeError) → Stops held visits left e → IsOfWalk e
of_place held visits [] e h = subst IsOfWalk (sym h) tt
of_place held visits (FolderAt path ∷ left) e h = of_folder held _ path e h
of_place held visits (FileOf label ∷ left) e h = of_file held _ _ label e h

pub of_walk : (held : Contents) (e : ServeError) → IsStopped held e → IsOfWalk e
of_walk held e h = of_place held h.0 h.1 e h.3

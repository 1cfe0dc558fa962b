-- Which refusals files on demand can have.
use Rattle.std.proofs.Common.{◌≡◌, inl, inr, ℕ, List, [], ◌∷◌, Bool, true, false, cond, Option, Some, None, Result, Ok, Err, refl, ap, sym, subst}
use Rattle.std.specs.Prelude.{⊤}
use Rattle.std.specs.List.{position}
use Rattle.std.specs.Str.{bytes_eq}
use Rattle.star_label.specs.Files.{File}
use Rattle.star_bundle.specs.Bundle.{Asked, asked_among, is_label, number_of, prelude_of, roots_of, there_or, ◌>>=◌}
use Rattle.star_bundle.specs.Refusal.{Fails, writes_failed}
use Rattle.star_bundle.specs.declared.error.ServeError.{ServeError}
use Rattle.star_bundle.specs.declared.error.ServeError.TheVariants.{BadRoot, NoRoot, BadPrelude, NoPrelude, Memory, Write, Unpublished}
use Rattle.star_words.specs.Named.{AllLabels, AreLabels}
use Rattle.star_repo.specs.Asked.{AreFilesFor}
use Rattle.star_repo.specs.Held.{Said}
use Rattle.star_repo.specs.declared.error.RepoError.TheVariants as why
use Rattle.star_serve.specs.Repo.{IsRefusedAll, IsRefusedOf}
use Rattle.star_serve.specs.Serve.{IsRefusedRun}
use Rattle.star_serve.proofs.Refusals.{IsOf, IsOfWords, bind_kind, there_kind}

-- a refusal of labels that no file has
abbrev pub IsOfFiles : ServeError → Type 0
IsOfFiles NoRoot = ⊤
IsOfFiles NoPrelude = ⊤
IsOfFiles e = ⊥

found_or : (b : Bool) (bad none : ServeError) (o : Option ℕ) → b ≡ true → IsOfFiles none → IsOf {A = ℕ} IsOfFiles (cond b (there_or none o) (Err bad))
found_or true bad none o e h = there_kind IsOfFiles {A = ℕ} none o h
found_or false bad none o e h = absurd (let no : ⊥ = cc in no)

number_kind : (bad none : ServeError) (files : List File) (word : List ℕ) → is_label word ≡ true → IsOfFiles none → IsOf IsOfFiles (number_of bad none files word)
unfolding number_of
number_kind bad none files word is h = found_or (is_label word) bad none (position (λ f. bytes_eq f.0 word) files) is h

roots_kind : (files : List File) (rs : List (List ℕ)) → AllLabels rs → IsOf IsOfFiles (roots_of files rs)
unfolding roots_of
roots_kind files [] all = tt
roots_kind files (r ∷ rs) all =
    bind_kind IsOfFiles {A = ℕ} {B = List ℕ} (number_of BadRoot NoRoot files r) _ (number_kind BadRoot NoRoot files r (all r (inl refl)) tt)
    (λ m. bind_kind IsOfFiles {A = List ℕ} {B = List ℕ} (roots_of files rs) _ (roots_kind files rs (λ t i. all t (inr i))) (λ ns. tt))

prelude_kind : (files : List File) (p : Option (List ℕ)) → ((t : List ℕ) → p ≡ Some t → is_label t ≡ true) → IsOf IsOfFiles (prelude_of files p)
unfolding prelude_of
prelude_kind files None all = tt
prelude_kind files (Some word) all = bind_kind IsOfFiles {A = ℕ} {B = Option ℕ} (number_of BadPrelude NoPrelude files word) _ (number_kind BadPrelude NoPrelude files word (all word refl) tt) (λ m. tt)

-- labels are not refused as words
pub labels_kind : (roots : List (List ℕ)) (p : Option (List ℕ)) (files : List File) → AreLabels roots p → IsOf IsOfFiles (asked_among roots p files)
unfolding asked_among
labels_kind roots p files are =
    bind_kind IsOfFiles {A = List ℕ} {B = Asked} (roots_of files roots) _ (roots_kind files roots are.0)
    (λ ns. bind_kind IsOfFiles {A = Option ℕ} {B = Asked} (prelude_of files p) _ (prelude_kind files p are.1) (λ n. tt))

-- the input that is asked for is refused
pub asked_refused : (given : Result Asked ServeError) (unwritten : Type 0) (e : ServeError) → Fails e given → IsOf IsOfWords given → unwritten → IsRefusedOf given unwritten e
asked_refused given unwritten BadRoot h k u = (h, u)
asked_refused given unwritten NoRoot h k u = (h, u)
asked_refused given unwritten BadPrelude h k u = (h, u)
asked_refused given unwritten NoPrelude h k u = (h, u)
asked_refused given unwritten Memory h k u = u
asked_refused given unwritten e h k u = absurd (rw h at k)

pub asked_writes : (given : Result Asked ServeError) (e : ServeError) → Fails e given → IsOf IsOfWords given → writes_failed {T = Bool} (Err e) ≡ 0
asked_writes given Write h k = absurd (rw h at k)
asked_writes given e h k = refl

-- the run is refused
pub run_refused : (given : Result Asked ServeError) (unwritten : Type 0) (e : ServeError) (asked : Asked) → IsRefusedRun unwritten e → given ≡ Ok asked → IsRefusedOf given unwritten e
run_refused given unwritten Memory asked h is = h
run_refused given unwritten Write asked h is = (asked, is)
run_refused given unwritten Unpublished asked h is = ((asked, is), h)
run_refused given unwritten e asked h is = absurd h

-- a refusal of files that were read
pub read_refused : (said : Said) (roots : List (List ℕ)) (p : Option (List ℕ)) (files : List File) (recorded : Bool) (unwritten : Type 0) (e : ServeError) → AreFilesFor said roots p files → AreLabels roots p
    → IsRefusedOf (asked_among roots p files) unwritten e → IsRefusedAll said roots p recorded unwritten e
read_refused said roots p files recorded unwritten BadRoot are labels h = absurd (subst (IsOf IsOfFiles) h.0 (labels_kind roots p files labels))
read_refused said roots p files recorded unwritten NoRoot are labels h = ((files, are, h.0), h.1)
read_refused said roots p files recorded unwritten BadPrelude are labels h = absurd (subst (IsOf IsOfFiles) h.0 (labels_kind roots p files labels))
read_refused said roots p files recorded unwritten NoPrelude are labels h = ((files, are, h.0), h.1)
read_refused said roots p files recorded unwritten Memory are labels h = h
read_refused said roots p files recorded unwritten Write are labels h = (h.0, (files, are, h.1))
read_refused said roots p files recorded unwritten Unpublished are labels h = ((h.0.0, (files, are, h.0.1)), h.1)
read_refused said roots p files recorded unwritten e are labels h = absurd h

-- the files of an input are those that its words are looked up in
asked_so : (files : List File) (p : Result (Option ℕ) ServeError) (ns : List ℕ) (a : Asked) → (p >>= λ q. Ok (record { files = files; roots = ns; prelude = q })) ≡ Ok a → a.files ≡ files
asked_so files (Ok q) ns a e =
    let b : Asked = record { files = files; roots = ns; prelude = q } in
    let same : b ≡ a = cc in
    sym (ap (λ (x : Asked). x.files) same)
asked_so files (Err x) ns a e = absurd (let no : ⊥ = cc in no)

asked_by : (files : List File) (r : Result (List ℕ) ServeError) (p : Result (Option ℕ) ServeError) (a : Asked) → (r >>= λ ns. p >>= λ q. Ok (record { files = files; roots = ns; prelude = q })) ≡ Ok a → a.files ≡ files
asked_by files (Ok ns) p a e = asked_so files p ns a e
asked_by files (Err x) p a e = absurd (let no : ⊥ = cc in no)

pub asked_files : (roots : List (List ℕ)) (p : Option (List ℕ)) (files : List File) (a : Asked) → asked_among roots p files ≡ Ok a → a.files ≡ files
unfolding asked_among
asked_files roots p files a e = asked_by files (roots_of files roots) (prelude_of files p) a e

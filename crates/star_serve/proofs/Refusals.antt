-- Which refusals the input can have.
use Rattle.std.proofs.Common.{◌≡◌, ◌⊎◌, inl, inr, ℕ, List, [], ◌∷◌, Bool, true, false, cond, Option, Some, None, Result, Ok, Err, refl}
use Rattle.std.specs.Prelude.{⊤, IfErr}
use Rattle.std.specs.List.{list_all, position}
use Rattle.std.specs.Str.{bytes_eq}
use Rattle.serde_json.specs.Data.{Data, Members}
use Rattle.serde_json.specs.Find.{as_object}
use Rattle.star_label.specs.declared.error.LabelError.{LabelError}
use Rattle.star_label.specs.declared.error.LabelError.TheVariants as limit
use Rattle.star_label.specs.Files.{File, limit_passed}
use Rattle.star_bundle.specs.Bundle.{Asked, asked_among, asked_of, files_of, is_label, json_of, labelled, number_of, prelude_of, roots_of, texts_of, there_or, with_files, within_limits, ◌>>=◌}
use Rattle.star_bundle.specs.Refusal.{Fails, reads_failed, writes_failed}
use Rattle.star_serve.specs.Serve.{IsRefused, IsRefusedRun}
use Rattle.star_bundle.specs.declared.error.ServeError.{ServeError}
use Rattle.star_bundle.specs.declared.error.ServeError.TheVariants.{Read, TooBig, BadDir, BadFile, NotText, BadBundle, BadKey, TooMany, TooLong, BadRoot, NoRoot, BadPrelude, NoPrelude, Memory, Write, Unpublished}

-- a refusal of the words of the command line
abbrev pub IsOfWords : ServeError → Type 0
IsOfWords BadRoot = ⊤
IsOfWords NoRoot = ⊤
IsOfWords BadPrelude = ⊤
IsOfWords NoPrelude = ⊤
IsOfWords e = ⊥

-- a refusal of the bytes of a bundle or of the words
abbrev pub IsFault : ServeError → Type 0
IsFault BadBundle = ⊤
IsFault BadKey = ⊤
IsFault TooMany = ⊤
IsFault TooLong = ⊤
IsFault e = IsOfWords e

abbrev pub IsOf : {A : Type 0} → (ServeError → Type 0) → Result A ServeError → Type 0
IsOf P (Ok x) = ⊤
IsOf P (Err e) = P e

module _ (P : ServeError → Type 0) where
  pub there_kind : {A : Type 0} (e : ServeError) (o : Option A) → P e → IsOf P (there_or e o)
  there_kind e None h = h
  there_kind e (Some x) h = tt

  pub bind_kind : {A B : Type 0} (r : Result A ServeError) (f : A → Result B ServeError) → IsOf P r → ((x : A) → IsOf P (f x)) → IsOf P (r >>= f)
  bind_kind (Ok x) f h g = g x
  bind_kind (Err e) f h g = h

  pub cond_kind : {A : Type 0} (b : Bool) (r : Result A ServeError) (e : ServeError) → IsOf P r → P e → IsOf P (cond b r (Err e))
  cond_kind true r e h k = h
  cond_kind false r e h k = k

  number_kind : (bad none : ServeError) (files : List File) (word : List ℕ) → P bad → P none → IsOf P (number_of bad none files word)
  unfolding number_of
  number_kind bad none files word h k = cond_kind (is_label word) (there_or none (position (λ f. bytes_eq f.0 word) files)) bad (there_kind {A = ℕ} none (position (λ f. bytes_eq f.0 word) files) k) h

  roots_kind : (files : List File) (rs : List (List ℕ)) → P BadRoot → P NoRoot → IsOf P (roots_of files rs)
  unfolding roots_of
  roots_kind files [] b n = tt
  roots_kind files (r ∷ rs) b n = bind_kind {A = ℕ} {B = List ℕ} (number_of BadRoot NoRoot files r) _ (number_kind BadRoot NoRoot files r b n) (λ m. bind_kind {A = List ℕ} {B = List ℕ} (roots_of files rs) _ (roots_kind files rs b n) (λ ns. tt))

  prelude_kind : (files : List File) (p : Option (List ℕ)) → P BadPrelude → P NoPrelude → IsOf P (prelude_of files p)
  unfolding prelude_of
  prelude_kind files None b n = tt
  prelude_kind files (Some word) b n = bind_kind {A = ℕ} {B = Option ℕ} (number_of BadPrelude NoPrelude files word) _ (number_kind BadPrelude NoPrelude files word b n) (λ m. tt)

  pub words_kind : (roots : List (List ℕ)) (p : Option (List ℕ)) (files : List File) → P BadRoot → P NoRoot → P BadPrelude → P NoPrelude → IsOf P (asked_among roots p files)
  unfolding asked_among
  words_kind roots p files br nr bp np =
      bind_kind {A = List ℕ} {B = Asked} (roots_of files roots) _ (roots_kind files roots br nr)
      (λ ns. bind_kind {A = Option ℕ} {B = Asked} (prelude_of files p) _ (prelude_kind files p bp np) (λ n. tt))

limits_kind : (files : List File) (o : Option LabelError) → IsOf IsFault (within_limits files o)
limits_kind files None = tt
limits_kind files (Some limit.BadLabel) = tt
limits_kind files (Some limit.TooMany) = tt
limits_kind files (Some limit.TooLong) = tt
limits_kind files (Some limit.Memory) = tt

labelled_kind : (ms : List File) → IsOf IsFault (labelled ms)
unfolding labelled
labelled_kind ms = cond_kind IsFault (list_all (λ f. is_label f.0) ms) (Ok (with_files _ ms)) BadKey tt tt

files_kind : (input : List ℕ) → IsOf IsFault (files_of input)
unfolding files_of
files_kind input =
    bind_kind IsFault {A = Data} {B = List File} (there_or BadBundle (json_of input)) _ (there_kind IsFault {A = Data} BadBundle (json_of input) tt)
    (λ d. bind_kind IsFault {A = Members} {B = List File} (there_or BadBundle (as_object d)) _ (there_kind IsFault {A = Members} BadBundle (as_object d) tt)
    (λ ms. bind_kind IsFault {A = List File} {B = List File} (there_or BadBundle (texts_of ms)) _ (there_kind IsFault {A = List File} BadBundle (texts_of ms) tt)
    (λ fs. bind_kind IsFault {A = List File} {B = List File} (labelled fs) _ (labelled_kind fs) (λ files. limits_kind files (limit_passed files)))))

pub asked_kind : (roots : List (List ℕ)) (p : Option (List ℕ)) (input : List ℕ) → IsOf IsFault (asked_of roots p input)
unfolding asked_of
asked_kind roots p input = bind_kind IsFault {A = List File} {B = Asked} (files_of input) _ (files_kind input) (λ files. words_kind IsFault roots p files tt tt tt tt)

pub refused_by : (answers : Result Asked ServeError → Type 0) (within longer unwritten : Type 0) (e : ServeError) (given : Result Asked ServeError) → Fails e given → IsOf IsFault given → ((x : ServeError) → given ≡ Err x → answers (Err x)) → unwritten → IsRefused answers within longer unwritten e
refused_by answers within longer unwritten Read given h k a u = absurd (rw h at k)
refused_by answers within longer unwritten TooBig given h k a u = absurd (rw h at k)
refused_by answers within longer unwritten BadDir given h k a u = absurd (rw h at k)
refused_by answers within longer unwritten BadFile given h k a u = absurd (rw h at k)
refused_by answers within longer unwritten NotText given h k a u = absurd (rw h at k)
refused_by answers within longer unwritten Memory given h k a u = u
refused_by answers within longer unwritten Write given h k a u = absurd (rw h at k)
refused_by answers within longer unwritten Unpublished given h k a u = absurd (rw h at k)
refused_by answers within longer unwritten e given h k a u = (a e h, u)

pub no_read_failed : (e : ServeError) (given : Result Asked ServeError) → Fails e given → IsOf IsFault given → reads_failed {T = Bool} (Err e) ≡ 0
no_read_failed Read given h k = absurd (rw h at k)
no_read_failed e given h k = refl

pub no_write_failed : (e : ServeError) (given : Result Asked ServeError) → Fails e given → IsOf IsFault given → writes_failed {T = Bool} (Err e) ≡ 0
no_write_failed Write given h k = absurd (rw h at k)
no_write_failed e given h k = refl

-- a run or its report is refused
pub run_refused : (answers : Result Asked ServeError → Type 0) (within longer unwritten : Type 0) (e : ServeError) (asked : Asked) → IsRefusedRun unwritten e → answers (Ok asked) → IsRefused answers within longer unwritten e
run_refused answers within longer unwritten Memory asked h a = h
run_refused answers within longer unwritten Write asked h a = (asked, a)
run_refused answers within longer unwritten Unpublished asked h a = ((asked, a), h)
run_refused answers within longer unwritten e asked h a = absurd h

pub no_read_by_run : (unwritten : Type 0) (e : ServeError) → IsRefusedRun unwritten e → reads_failed {T = Bool} (Err e) ≡ 0
no_read_by_run unwritten Read h = absurd h
no_read_by_run unwritten e h = refl

pub started_refused : (unwritten : Type 0) (e : ServeError) → (e ≡ Memory) ⊎ (e ≡ Unpublished) → unwritten → IsRefusedRun unwritten e
started_refused unwritten e (inl h) u = rw h u
started_refused unwritten e (inr h) u = rw h u

pub started_writes : (e : ServeError) → (e ≡ Memory) ⊎ (e ≡ Unpublished) → writes_failed {T = Bool} (Err e) ≡ 0
started_writes e (inl h) = rw h refl
started_writes e (inr h) = rw h refl

pub run_reads : (unwritten : Type 0) (r : Result Bool ServeError) → IfErr r (IsRefusedRun unwritten) → reads_failed r ≡ 0
run_reads unwritten (Ok x) h = refl
run_reads unwritten (Err e) h = no_read_by_run unwritten e h

-- a fact of an error, in other words
pub if_err : {T : Type 0} (r : Result T ServeError) (P Q : ServeError → Type 0) → ((e : ServeError) → P e → Q e) → IfErr r P → IfErr r Q
if_err (Ok x) P Q f h = tt
if_err (Err e) P Q f h = f e h

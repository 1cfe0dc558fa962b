-- Why there is no report: the refusals, the text of each on standard error, and the exit status.
use Rattle.std.specs.Prelude.{◌≡◌, ⊤, ℕ, List, Bool, true, false, Result, Ok, Err, codes, if◌then◌else◌}
use Rattle.star_bundle.specs.declared.error.ServeError.{ServeError}
use Rattle.star_bundle.specs.declared.error.ServeError.TheVariants.{Read, TooBig, BadDir, BadFile, NotText, BadBundle, BadKey, TooMany, TooLong, BadRoot, NoRoot, BadPrelude, NoPrelude, BadRecord, Memory, Write, Unpublished}

abbrev pub text_of : ServeError → List ℕ
text_of Read = codes "cannot read the bundle"
text_of TooBig = codes "bundle too big"
text_of BadDir = codes "cannot list the folder"
text_of BadFile = codes "cannot read a file"
text_of NotText = codes "a file is not text"
text_of BadBundle = codes "not a JSON object of texts"
text_of BadKey = codes "bad label in the bundle"
text_of TooMany = codes "too many files"
text_of TooLong = codes "file too long"
text_of BadRoot = codes "bad root"
text_of NoRoot = codes "no such root"
text_of BadPrelude = codes "bad prelude"
text_of NoPrelude = codes "no such prelude"
text_of BadRecord = codes "bad record"
text_of Memory = codes "out of memory"
text_of Write = codes "cannot write the report"
text_of Unpublished = codes "module not published"

-- 0 if every module is ok, 1 if one is not, 2 if there is no report
abbrev pub status_of : Result Bool ServeError → ℕ
status_of (Ok true) = 0
status_of (Ok false) = 1
status_of (Err e) = 2

-- what is asked for, or a refusal that comes after all others of the input, if a test fails
abbrev pub if_so : {A : Type 0} → Bool → ServeError → Result A ServeError → Result A ServeError
if_so test refusal (Ok x) = if test then Ok x else Err refusal
if_so test refusal (Err e) = Err e

-- The answer of a function, seen by `view`, is the answer of the definition, unless memory ran out.
abbrev pub Fails : {Y : Type 0} → ServeError → Result Y ServeError → Type 0
Fails Memory given = ⊤
Fails e given = given ≡ Err e

abbrev pub Gives : {X Y : Type 0} → (X → Y) → Result X ServeError → Result Y ServeError → Type 0
Gives view (Ok x) given = given ≡ Ok (view x)
Gives view (Err e) given = Fails e given

-- a refusal other than want of memory
abbrev pub IsNamed : ServeError → Type 0
IsNamed Memory = ⊥
IsNamed e = ⊤

-- one read failed if the answer is so, else none
abbrev pub reads_failed : {T : Type 0} → Result T ServeError → ℕ
reads_failed (Err Read) = 1
reads_failed r = 0

abbrev pub writes_failed : {T : Type 0} → Result T ServeError → ℕ
writes_failed (Err Write) = 1
writes_failed r = 0

-- Laws of the one report of an input.
use Rattle.std.specs.Prelude.{◌≡◌, ◌≢◌, ℕ, Bool, List, [], Option, Some, Ok}
use Rattle.star_dialect.specs.declared.Mode.{Mode}
use Rattle.star_label.specs.Files.{File, IsOrdered}
use Rattle.star_bundle.specs.Bundle.{Asked, asked_among, asked_of}
use Rattle.star_folder.specs.Folder.{Contents, Entry}
use Rattle.star_bundle.specs.declared.error.ServeError.{ServeError}
use Rattle.star_bundle.specs.declared.error.ServeError.TheVariants.{BadDir, BadFile, Memory}
use Rattle.star_folder.specs.Refusal.{IsStopped}
use Rattle.star_folder.specs.Walk.{AreFilesOf}
use Rattle.star_folder.specs.Memory.{contents_of}
use Rattle.star_folder.specs.declared.memory.Row.{Row}
use Rattle.star_alone.specs.Alone.{IsAnswered, asked_within}
use Rattle.star_report.specs.declared.wanted.Output.{Output}
use Rattle.star_report.specs.declared.wanted.Output.TheVariants.{Report}
use Rattle.star_report.specs.declared.wanted.Wanted.{Wanted}
use Rattle.star_serve.specs.Serve.{ReadsAll, Reports}
use Rattle.star_serve.specs.Stream.{Said}

-- the files of a bundle that is asked for are ordered
abbrev pub AskedAreOrdered : Type 0
AskedAreOrdered =
    (roots : List (List ℕ)) (prelude : Option (List ℕ)) (input : List ℕ) (asked : Asked)
    → asked_of roots prelude input ≡ Ok asked → IsOrdered asked.files

-- the files of a whole walk are ordered
abbrev pub WalkedAreOrdered : Type 0
WalkedAreOrdered = (held : Contents) (files : List File) → AreFilesOf held files → IsOrdered files

-- the contents give the entries at each path and the bytes at each label
pub record SaysAll (held : Contents) : Type 0 where
  pub folders : (path : List ℕ) → (entries : List Entry) × (held.entries path ≡ Some entries)
  pub files : (label : List ℕ) → (bytes : List ℕ) × (held.bytes label ≡ Some bytes)

-- a folder in memory says all
abbrev pub MemorySaysAll : Type 0
MemorySaysAll = (rows : List Row) → SaysAll (contents_of rows)

-- whole walks through a folder that says all find the same files
abbrev pub OneWalk : Type 0
OneWalk =
    (held : Contents) → SaysAll held → (files others : List File) → AreFilesOf held files → AreFilesOf held others
    → files ≡ others

-- the answer for these files, as the words ask for them, was written between `before` and `after`
abbrev pub Answers : Output → List File → List (List ℕ) → Option (List ℕ) → Mode → List ℕ → Option (List ℕ) → Bool → Type 0
Answers output files roots prelude mode before after ok =
    (asked : Asked) × (asked_among roots prelude files ≡ Ok asked) × Reports output asked mode (Some before) after ok

-- ordered files have one answer
abbrev pub OneAnswer : Type 0
OneAnswer =
    (files : List File) → IsOrdered files
    → (output : Output) (roots : List (List ℕ)) (prelude : Option (List ℕ)) (mode : Mode) (before : List ℕ)
    → (x y : Option (List ℕ)) (ok well : Bool) → Answers output files roots prelude mode before x ok
    → Answers output files roots prelude mode before y well → (x ≡ y) × (ok ≡ well)

-- the promise of `serve` on its answer, for an input and a writer that reports all it took
abbrev pub Replies : Output → List (List ℕ) → Option (List ℕ) → Mode → List ℕ → List ℕ → Option (List ℕ) → Bool → Type 0
Replies output roots prelude mode input before after ok =
    (asked : Asked) × (asked_of roots prelude input ≡ Ok asked) × Reports output asked mode (Some before) after ok

-- an input has one reply
abbrev pub OneReply : Type 0
OneReply =
    (output : Output) (roots : List (List ℕ)) (prelude : Option (List ℕ)) (mode : Mode) (input before : List ℕ)
    → (x y : Option (List ℕ)) (ok well : Bool) → Replies output roots prelude mode input before x ok
    → Replies output roots prelude mode input before y well → (x ≡ y) × (ok ≡ well)

-- The answer of the caller's own thread is a reply of `serve` to a writer that had taken nothing. So it has the text of
-- every such reply.
abbrev pub AloneReplies : Type 0
AloneReplies =
    (wanted : Wanted) (roots : List (List ℕ)) (prelude : Option (List ℕ)) (mode : Mode) (input : List ℕ) (asked : Asked)
    → asked_within roots prelude input ≡ Ok asked → (text : List ℕ) (ok : Bool) → IsAnswered wanted asked mode text ok
    → Replies (Report wanted) roots prelude mode input [] (Some text) ok

-- the promise of `serve` on its reader too: all that it gave was the input
abbrev pub Serves : Output → List (List ℕ) → Option (List ℕ) → Mode → Said → Said → List ℕ → Option (List ℕ) → Bool → Type 0
Serves output roots prelude mode old new before after ok =
    (input : List ℕ) × ReadsAll old new input × Replies output roots prelude mode input before after ok

-- a reader whose whole input is known beforehand has one reply
abbrev pub OneServed : Type 0
OneServed =
    (output : Output) (roots : List (List ℕ)) (prelude : Option (List ℕ)) (mode : Mode) (old new other : Said) (all before : List ℕ)
    → old.left ≡ Some all
    → (x y : Option (List ℕ)) (ok well : Bool) → Serves output roots prelude mode old new before x ok
    → Serves output roots prelude mode old other before y well → (x ≡ y) × (ok ≡ well)

-- the promise of `serve_dir` on its answer
abbrev pub RepliesDir : Output → List (List ℕ) → Option (List ℕ) → Mode → Contents → List ℕ → Option (List ℕ) → Bool → Type 0
RepliesDir output roots prelude mode held before after ok =
    (files : List File) × AreFilesOf held files × Answers output files roots prelude mode before after ok

-- a folder that says all has one reply
abbrev pub OneReplyDir : Type 0
OneReplyDir =
    (output : Output) (roots : List (List ℕ)) (prelude : Option (List ℕ)) (mode : Mode) (held : Contents) → SaysAll held
    → (before : List ℕ) (x y : Option (List ℕ)) (ok well : Bool) → RepliesDir output roots prelude mode held before x ok
    → RepliesDir output roots prelude mode held before y well → (x ≡ y) × (ok ≡ well)

-- a refusal that the contents decide: no listing, read or allocation failed
abbrev pub IsDecided : ServeError → Type 0
IsDecided e = (e ≢ BadDir) × (e ≢ BadFile) × (e ≢ Memory)

-- walks through a folder that says all stop in one way
abbrev pub OneStop : Type 0
OneStop =
    (held : Contents) → SaysAll held → (e f : ServeError) → IsStopped held e → IsStopped held f → IsDecided e
    → IsDecided f → e ≡ f

-- a walk cannot both end and be stopped by a refusal that the contents decide
abbrev pub StopsOrEnds : Type 0
StopsOrEnds =
    (held : Contents) → SaysAll held → (files : List File) (e : ServeError) → AreFilesOf held files → IsStopped held e
    → IsDecided e → ⊥

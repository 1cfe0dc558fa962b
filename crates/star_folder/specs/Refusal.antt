-- Refusals of a walk: the place and the reason of a stop before its end.
use Rattle.std.specs.Prelude.{◌≡◌, ⊤, ℕ, ◌+◌, ◌<◌, ◌≤◌, List, [], ◌∷◌, length, Result, Ok, Err}
use Rattle.std.specs.Str.{IsUtf8}
use Rattle.star_bundle.specs.declared.error.ServeError.{ServeError}
use Rattle.star_bundle.specs.declared.error.ServeError.TheVariants.{BadDir, BadFile, NotText, TooMany, TooLong, TooBig, Memory}
use Rattle.star_folder.specs.Folder.{Contents, Entry, Says}
use Rattle.star_folder.specs.Walk.{FileOf, FolderAt, IsWalk, Listed, Place, Tells, Visit, bytes_in, entries_in, files_in}

-- at a folder, after a number of entries: its listing failed, or it has too many entries
abbrev pub FolderStops : Contents → ℕ → List ℕ → ServeError → Type 0
FolderStops held listed path BadDir = ⊤
FolderStops held listed path TooMany =
    (entries : List Entry) × Tells held (Listed path entries) × (100000 < listed + length entries)
FolderStops held listed path Memory = ⊤
FolderStops held listed path e = ⊥

-- a file's read failed, or it is too long, or it is not text
abbrev pub IsUnread : Contents → List ℕ → ServeError → Type 0
IsUnread held label BadFile = ⊤
IsUnread held label TooLong = (bytes : List ℕ) × Says (held.bytes label) bytes × (1048576 < length bytes)
IsUnread held label NotText =
    (bytes : List ℕ) × Says (held.bytes label) bytes × (length bytes ≤ 1048576) × ¬ (IsUtf8 bytes)
IsUnread held label Memory = ⊤
IsUnread held label e = ⊥

-- at a file, after a number of files and bytes: it is one too many, or it is unread, or the texts together are too long
abbrev pub FileStops : Contents → ℕ → ℕ → List ℕ → ServeError → Type 0
FileStops held count size label TooMany = count ≡ 10000
FileStops held count size label TooBig =
    (count < 10000) × (bytes : List ℕ) × Says (held.bytes label) bytes × (length bytes ≤ 1048576)
    × IsUtf8 bytes × (268435456 < size + length bytes)
FileStops held count size label e = (count < 10000) × IsUnread held label e

abbrev pub StopsAt : Contents → ℕ → ℕ → ℕ → Place → ServeError → Type 0
StopsAt held listed count size (FolderAt path) e = FolderStops held listed path e
StopsAt held listed count size (FileOf label) e = FileStops held count size label e

-- at the next of the places that are left
abbrev pub Stops : Contents → List Visit → List Place → ServeError → Type 0
Stops held visits [] e = e ≡ Memory
Stops held visits (place ∷ left) e =
    StopsAt held (entries_in visits) (length (files_in visits)) (bytes_in visits) place e

-- a walk stops so
abbrev pub IsStopped : Contents → ServeError → Type 0
IsStopped held e = (visits : List Visit) × (left : List Place) × IsWalk held visits left × Stops held visits left e

-- how many calls failed, by the error of an answer
abbrev pub failed_by : {T E : Type 0} → (E → ℕ) → Result T E → ℕ
failed_by failed (Ok x) = 0
failed_by failed (Err e) = failed e

-- one listing failed if a walk stops so, else none
abbrev pub failed_listing : ServeError → ℕ
failed_listing BadDir = 1
failed_listing e = 0

abbrev pub listings_failed : {T : Type 0} → Result T ServeError → ℕ
listings_failed r = failed_by failed_listing r

-- one read of a file failed if a walk stops so, else none
abbrev pub failed_read : ServeError → ℕ
failed_read BadFile = 1
failed_read e = 0

abbrev pub files_failed : {T : Type 0} → Result T ServeError → ℕ
files_failed r = failed_by failed_read r

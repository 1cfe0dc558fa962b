-- The content of a folder in memory.
use Rattle.std.specs.Prelude.{ℕ, List, [], ◌∷◌, Option, Some, None, option_map, if◌then◌else◌}
use Rattle.std.specs.Str.{bytes_eq}
use Rattle.star_repo.specs.Held.{Said, unmarked}
use Rattle.star_repo.specs.declared.memory.FileAt.{FileAt}
use Rattle.star_repo.specs.declared.memory.MemoryRepo.{MemoryRepo}

abbrev pub files_of : MemoryRepo → List FileAt
files_of folder = folder.files.now

-- the bytes of the first file at this label
abbrev pub bytes_among : List ℕ → List FileAt → Option (List ℕ)
bytes_among label [] = None
bytes_among label (f ∷ fs) = if bytes_eq f.label.now label then Some f.bytes.now else bytes_among label fs

-- at each label the text of the first file with it, and no file if none has it
abbrev pub said_by : List FileAt → Said
said_by files label = Some (option_map unmarked (bytes_among label files))

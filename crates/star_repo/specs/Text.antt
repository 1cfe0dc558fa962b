-- The text of one file, apart from a run.
use Rattle.std.specs.Prelude.{⊤, ℕ, ◌≤◌, List, length, Option, Some, IfSome}
use Rattle.std.specs.Str.{IsUtf8}
use Rattle.star_bundle.specs.declared.error.ServeError.{ServeError}
use Rattle.star_bundle.specs.declared.error.ServeError.TheVariants.{BadFile, Memory}
use Rattle.star_repo.specs.Held.{Tells}
use Rattle.star_repo.specs.Refusal.{Refuses}

-- by all that a folder tells of a label, this may be the text there, UTF-8 of at most 1,048,576 bytes, or there is no
-- file
abbrev pub IsTextAt : Option (Option (List ℕ)) → Option (List ℕ) → Type 0
IsTextAt told text = Tells told text × IfSome text (λ t. (length t ≤ 1048576) × IsUtf8 t)

-- .. or the read of the file failed, or its bytes are refused even if no other files come before
abbrev pub IsUnfit : Option (Option (List ℕ)) → ServeError → Type 0
IsUnfit told BadFile = ⊤
IsUnfit told Memory = ⊤
IsUnfit told e = (bytes : List ℕ) × Tells told (Some bytes) × Refuses 0 0 bytes e

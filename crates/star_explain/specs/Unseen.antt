-- The loads of files to which no way from the roots has come yet.
use Rattle.std.specs.Prelude.{ℕ, List, Option, Some, None, length}
use Rattle.std.specs.Borrow.{Bor}

-- how many loads are kept of a file
abbrev pub kept : Option (Bor (List ℕ)) → ℕ
kept None = 0
kept (Some loads) = length loads.now

-- The words of the dialects, and the places of recorded names.
use Rattle.std.specs.Prelude.{ℕ, ◌+◌, List, [], ◌∷◌, ◌++◌, Option, Some, None, codes, is_some, if◌then◌else◌}
use Rattle.std.specs.Str.{bytes_eq}
use Rattle.star_dialect.specs.declared.Dialect.{Dialect}
use Rattle.star_dialect.specs.declared.Dialect.TheVariants.{Core, Extended}

-- the dialect that a word names
abbrev pub dialect_named : List ℕ → Option Dialect
dialect_named word =
    if bytes_eq word (codes "core") then Some Core
    else (if bytes_eq word (codes "extended") then Some Extended else None)

-- the place of a name among others, which are counted from a number on
abbrev pub index_from : ℕ → List ℕ → List (List ℕ) → Option ℕ
index_from i name [] = None
index_from i name (n ∷ ns) = if bytes_eq n name then Some i else index_from (i + 1) name ns

-- .. from 0 on
abbrev pub index_of : List ℕ → List (List ℕ) → Option ℕ
index_of name names = index_from 0 name names

-- names, and one more unless it is among them
abbrev pub with_name : List (List ℕ) → List ℕ → List (List ℕ)
with_name names name = if is_some (index_of name names) then names else names ++ name ∷ []

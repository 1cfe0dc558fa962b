-- What is being written at a place.
use Rattle.std.specs.Prelude.{ℕ, ◌≡◌, ◌≤◌}
use Rattle.star_lex.specs.declared.token.Span.{Span}
use Rattle.star_editor.specs.declared.context.Context.{Context}
use Rattle.star_editor.specs.declared.context.Context.TheVariants.{Label, LoadedName, Attribute, Name, Nothing}

-- a span that ends at a place
abbrev pub EndsAt : ℕ → Span → Type 0
EndsAt at span = (span.start ≤ at) × (span.end ≡ at)

-- what is written of it so far ends at a place
abbrev pub IsWrittenTo : ℕ → Context → Type 0
IsWrittenTo at (Label prefix) = EndsAt at prefix
IsWrittenTo at (LoadedName label prefix) = EndsAt at prefix
IsWrittenTo at (Attribute of prefix) = EndsAt at prefix
IsWrittenTo at (Name prefix) = EndsAt at prefix
IsWrittenTo at Nothing = Unit {0}

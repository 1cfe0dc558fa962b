-- Places of a text.
use Rattle.std.specs.Prelude.{ℕ, List, ◌≤◌}
use Rattle.std.specs.Str.{IsCharBoundary}
use Rattle.star_lex.specs.declared.token.Span.{Span}

-- a span of a text, which cuts no character
abbrev pub IsWithin : List ℕ → Span → Type 0
IsWithin text span = (span.start ≤ span.end) × IsCharBoundary text span.start × IsCharBoundary text span.end

-- a span has a place in it, or ends there
abbrev pub Touches : ℕ → Span → Type 0
Touches at span = (span.start ≤ at) × (at ≤ span.end)

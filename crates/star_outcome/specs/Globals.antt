-- The globals of a module with their texts.
use Rattle.std.specs.Prelude.{ℕ, List, String, map, string_bytes}

-- globals, each with its text, as the meaning has them
abbrev pub shown_texts : {Z : Type 0} → List (String Z × List ℕ) → List (List ℕ × List ℕ)
shown_texts gs = map (λ g. (string_bytes g.0, g.1)) gs

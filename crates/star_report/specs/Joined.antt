-- Texts of modules joined to a report.
use Rattle.std.specs.Prelude.{ℕ, List, [], ◌∷◌, ◌++◌, Bool, false, true, codes, decimal}
use Rattle.serde_json.specs.Written.{comma_if}

-- texts with a comma before each, except before the first if no text comes before it
abbrev pub listed : Bool → List (List ℕ) → List ℕ
listed later [] = []
listed later (t ∷ ts) = comma_if later ++ (t ++ listed true ts)

-- the text of a report, by the texts of its modules
abbrev pub joined_text : ℕ → List (List ℕ) → List ℕ
joined_text begun texts =
    codes "{\"begun\":" ++ (decimal begun ++ (codes ",\"modules\":[" ++ (listed false texts ++ codes "]}\n")))

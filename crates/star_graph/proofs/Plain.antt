-- The text of a line: its JSON has no float.
use Rattle.std.proofs.Common.{◌≡◌, ℕ, List, [], ◌∷◌, ◌++◌, false, map, refl, ap, ◌∙◌}
use Rattle.serde_json.specs.Data.{Data, string}
use Rattle.serde_json.specs.View.{items_of}
use Rattle.serde_json.specs.Written.{compact_text, has_float, items_have_float}
use Rattle.star_graph.specs.Line.{line_data, line_text}

loads_plain : (ts : List (List ℕ)) → items_have_float (items_of (map string ts)) ≡ false
loads_plain [] = refl
loads_plain (t ∷ ts) = loads_plain ts

pub text_is : (label text : List ℕ) (loads : List (List ℕ)) (value : Data) (bytes line : List ℕ) → value ≡ line_data label text loads
    → (has_float value ≡ false → bytes ≡ compact_text value) → line ≡ bytes ++ 10 ∷ [] → line ≡ line_text label text loads
text_is label text loads value bytes line same exact more =
    let plain : has_float (line_data label text loads) ≡ false = rw (loads_plain loads) refl in
    more ∙ ap (λ b. b ++ 10 ∷ []) (exact (ap has_float same ∙ plain) ∙ ap compact_text same)

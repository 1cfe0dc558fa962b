-- Walks below a folder.
use Rattle.std.proofs.Common.{inl, inr, ℕ, List, [], ◌∷◌, ◌++◌, refl, ap, ◌∙◌, subst}
use Rattle.std.proofs.lemmas.List.{append_assoc}
use Rattle.star_label.specs.Label.{with_folder}
use Rattle.star_folder.specs.declared.folder.Kind.TheVariants.{Folder}
use Rattle.star_words.specs.Below.{IsInside, IsThere}
use Rattle.star_words.specs.Excluded.{IsLeftOut}
use Rattle.star_words.specs.Rows.{IsIn}
use Rattle.star_words.proofs.Members.{in_either}

-- a folder inside one that is inside
pub inside_more : (top path name : List ℕ) → IsInside top path → IsInside top (with_folder path name)
inside_more [] path name h = inr (with_folder path name, refl)
inside_more (t ∷ top) path name (inl e) = inr (name, ap (λ p. with_folder p name) e)
inside_more (t ∷ top) path name (inr (rest, e)) =
    inr (rest ++ 47 ∷ name, ap (λ p. with_folder p name) e ∙ append_assoc (t ∷ top) (47 ∷ rest) (47 ∷ name))

-- the folder at the top is there, and so is one in a folder that is there, if it is not left out
pub top_there : (patterns : List (List ℕ)) (top : List ℕ) → IsThere patterns top top
top_there patterns top = (inl refl, [], refl)

pub there_more : (patterns : List (List ℕ)) (top path name : List ℕ) → (IsLeftOut patterns Folder path name → ⊥) → IsThere patterns top path → IsThere patterns top (with_folder path name)
there_more patterns top path name kept h = (inside_more top path name h.0, name ∷ h.1, (path, h.2, kept, refl))

-- one place more
pub places_more : (patterns : List (List ℕ)) (top : List ℕ) (ps : List (List ℕ)) (p : List ℕ) → ((q : List ℕ) → IsIn q ps → IsThere patterns top q) → IsThere patterns top p → (q : List ℕ) → IsIn q (ps ++ p ∷ []) → IsThere patterns top q
places_more patterns top ps p all here q h = elim (in_either q ps (p ∷ []) h) [
  | inl i ↦ all q i
  | inr i ↦ elim i [ inl e ↦ subst (IsThere patterns top) e here | inr k ↦ absurd k ]
]

-- Labels of files: files with the same labels and texts are the same.
use Rattle.std.proofs.Common.{◌≡◌, ℕ, suc, ◌<◌, List, [], ◌∷◌, length, map, refl, ap, ◌∙◌, arith}
use Rattle.star_label.specs.Files.{File, text_at}
use Rattle.star_memo.specs.Outcomes.{HaveLabels}

-- files with the same labels and the same texts are the same
pub same_files : (files others : List File) → HaveLabels files others → ((n : ℕ) → n < length others → text_at files n ≡ text_at others n) → files ≡ others
same_files [] [] e h = refl
same_files [] (y ∷ ys) e h = absurd (let no : ⊥ = cc in no)
same_files (x ∷ xs) [] e h = absurd (let no : ⊥ = cc in no)
same_files (x ∷ xs) (y ∷ ys) e h =
    let label : x.0 ≡ y.0 = cc in
    let text : x.1 ≡ y.1 = h 0 (omega arith) in
    let rest : map (λ (f : File). f.0) xs ≡ map (λ (f : File). f.0) ys = cc in
    ap (λ l. (l, x.1) ∷ xs) label ∙ ap (λ t. (y.0, t) ∷ xs) text ∙ ap (λ fs. y ∷ fs) (same_files xs ys rest (λ n low. h (suc n) (omega (arith, low))))

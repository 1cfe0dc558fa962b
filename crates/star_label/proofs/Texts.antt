-- Files of which one has another text.
use Rattle.std.proofs.Common.{◌≡◌, ◌<◌, ℕ, zero, suc, List, [], ◌∷◌, length, get_or, map, String, refl, ap, arith}
use Rattle.std.specs.declared.alloc.Global.{Global}
use Rattle.std.specs.Arc.{arc_value}
use Rattle.std.specs.Prelude.{slice_set, string_bytes}
use Rattle.std.specs.declared.sync.Arc.{Arc}
use Rattle.star_label.specs.declared.label.Label.{Label}
use Rattle.star_label.specs.Files.{File, shared_file, with_text}

abbrev pub Entry : Type 0
Entry = Arc Label Global × Arc (String Global) Global

-- the entry of a file with another text
pub set_shared : (es : List Entry) (n : ℕ) (e : Entry) (t : Arc (String Global) Global) → n < length es → e ≡ get_or es n e → map shared_file (slice_set es n (e.0, t)) ≡ with_text (map shared_file es) n (string_bytes (arc_value t))
set_shared [] n e t h k = absurd (let no : ⊥ = omega (arith, h) in no)
set_shared (x ∷ xs) zero e t h k = ap (λ (y : Entry). shared_file (y.0, t) ∷ map shared_file xs) k
set_shared (x ∷ xs) (suc n) e t h k = ap (λ fs. shared_file x ∷ fs) (set_shared xs n e t (omega (arith, h)) k)

-- the labels stay
pub labels_kept : (fs : List File) (n : ℕ) (text : List ℕ) → map (λ (f : File). f.0) (with_text fs n text) ≡ map (λ (f : File). f.0) fs
labels_kept [] n text = refl
labels_kept (f ∷ fs) zero text = refl
labels_kept (f ∷ fs) (suc n) text = ap (λ ls. f.0 ∷ ls) (labels_kept fs n text)

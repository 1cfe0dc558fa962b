-- The end of a reading: its files are within the limits, and they are the files of the run.
use Rattle.std.proofs.Common.{◌≡◌, ◌≤◌, ℕ, List, [], ◌∷◌, length, map, Bool, false, ◌||◌, Some, None, inl, inr, refl, subst}
use Rattle.std.specs.Prelude.{◌↔◌}
use Rattle.std.specs.List.{list_any}
use Rattle.std.specs.Str.{IsUtf8}
use Rattle.std.proofs.lemmas.Bool.{le-ltb}
use Rattle.star_label.specs.Files.{File, IsOrdered, file_of, is_too_long, limit_passed}
use Rattle.star_repo.specs.Held.{Fits, Held, Said}
use Rattle.star_repo.specs.Parsed.{AreFilesParsed, AreParsed}
use Rattle.star_reading.specs.Parsed.{ParsedView}
use Rattle.star_repo.specs.Reach.{AreReachedFiles, Words}
use Rattle.star_repo.specs.Refusal.{Pass}
use Rattle.star_words.specs.Rows.{IsIn}
use Rattle.star_repo.specs.Views.{answer_of, answers_in}
use Rattle.star_repo.specs.Way.{IsWay}
use Rattle.star_repo.proofs.Inserted.{each_of}
use Rattle.star_repo.proofs.Labels.{Entry}
use Rattle.star_repo.proofs.Rows.{same_rows}
use Rattle.star_repo.proofs.Steps.{Fresh}
use Rattle.star_repo.proofs.Ways.{ends}

not_long : (fs : List File) → ((f : File) → IsIn f fs → length f.1 ≤ 1048576) → list_any is_too_long fs ≡ false
not_long [] h = refl
not_long (f ∷ fs) h = both (is_too_long f) (list_any is_too_long fs) (le-ltb 1048576 (length f.1) (h f (inl refl))) (not_long fs (λ g i. h g (inr i)))
  where
    both : (a b : Bool) → a ≡ false → b ≡ false → (a || b) ≡ false
    both a b e k = rw (e, k) refl

pub within : (fs : List File) → Pass fs → limit_passed fs ≡ None
within fs pass =
    let short = not_long fs (λ f i. (each_of (λ (g : File). (length g.1 ≤ 1048576) × IsUtf8 g.1) fs pass.texts f i).0) in
    rw (le-ltb 10000 (length fs) pass.few, short) refl

module _ (said : Said) (words : Words) (d : ℕ) (fresh : List Fresh) (looked : List Entry) (count size : ℕ) (way : IsWay said words d (answers_in fresh looked) (map file_of fresh) [] count size) (none : fresh ≡ [])
    (files : List File) (ordered : IsOrdered files) (are : (l t : List ℕ) → IsIn (l, t) files ↔ IsIn (l, Some t) (map answer_of looked)) where
  last : IsWay said words d (map answer_of looked) [] [] count size
  last = subst (λ fs. IsWay said words d (answers_in fs looked) (map file_of fs) [] count size) none way

  same : last.files ≡ files
  same = same_rows last.files files last.ordered ordered (λ f h. (are f.0 f.1).1 ((last.are f.0 f.1).0 h)) (λ f h. (last.are f.0 f.1).1 ((are f.0 f.1).0 h))

  pub all_pass : Pass files
  all_pass = subst Pass same last.passed

  pub are_reached : (held : Held) × Fits said held × AreReachedFiles held words files × Pass files
  are_reached = subst (λ fs. (held : Held) × Fits said held × AreReachedFiles held words fs × Pass fs) same (ends said words d (map answer_of looked) count size last)

pub files_parsed : (texts : List Fresh) (parses : List ParsedView) → AreParsed texts parses → AreFilesParsed (map file_of texts) (map (λ p. Some p) parses)
files_parsed [] [] h = tt
files_parsed [] (p ∷ ps) h = absurd h
files_parsed (t ∷ ts) [] h = absurd h
files_parsed (t ∷ ts) (p ∷ ps) h = (h.0, files_parsed ts ps h.1)

-- The number of the file that a word names.
use Rattle.std.proofs.Common.{◌≡◌, ℕ, ◌<◌, List, [], length, get_or, Bool, true, false, Option, Some, None, refl, sym, ◌∙◌, ◌≤◌, arith}
use Rattle.std.specs.Prelude.{IfSome}
use Rattle.std.specs.List.{position}
use Rattle.std.specs.Str.{bytes_eq}
use Rattle.std.proofs.lemmas.List.Quantifiers.{position-Some}
use Rattle.std.specs.List.{position_or_len}
use Rattle.std.proofs.lemmas.Grind.{common_steps}
use Rattle.std.proofs.lemmas.List.Sums.{fails_before_first}
use Rattle.std.proofs.lemmas.Slice.Eq.{bytes_eq-Decides}
use Rattle.star_label.specs.Files.{File, label_at}

none_passes : {X : Type 0} (p : X → Bool) (xs : List X) (i : ℕ) (d : X) → position p xs ≡ None → i < length xs → p (get_or xs i d) ≡ false
none_passes p xs i d e h =
    let all : length xs ≤ position_or_len p xs = grind (arith, common_steps) in
    fails_before_first p xs i d (omega (arith, all, h))

-- the answer of `find` is the first place of the label
pub found_first : (files : List File) (word : List ℕ) (r : Option ℕ)
    → IfSome r (λ n. (n < length files) × (label_at files n ≡ word))
    → ((n : ℕ) → n < length files → label_at files n ≡ word → r ≡ Some n)
    → r ≡ position (λ f. bytes_eq f.0 word) files
found_first files word r found each = from (position (λ f. bytes_eq f.0 word) files) refl r found refl
  where
    is : File → Bool
    is f = bytes_eq f.0 word

    from : (o : Option ℕ) → position is files ≡ o → (s : Option ℕ) → IfSome s (λ n. (n < length files) × (label_at files n ≡ word)) → r ≡ s → r ≡ position is files
    from (Some m) e s h q =
        let there = position-Some is files m ([], []) e in
        each m there.0 ((bytes_eq-Decides (label_at files m) word).0 there.1) ∙ sym e
    from None e None h q = q ∙ sym e
    from None e (Some n) h q =
        let no : is (get_or files n ([], [])) ≡ false = none_passes is files n ([], []) e h.0 in
        let yes : bytes_eq (label_at files n) word ≡ true = (bytes_eq-Decides (label_at files n) word).1 h.1 in
        let wrong : true ≡ false = sym yes ∙ no in cc

-- The lines of a header.
use Rattle.std.proofs.Common.{◌≡◌, ◌≢◌, ◌<◌, ◌≤◌, ◌^◌, ◌+◌, ◌++◌, ◌∷◌, ◌⊎◌, [], ℕ, List, Option, Some, None, All, arith, rules, append_assoc, sym, length, refl, ap, ◌∙◌, subst, true, get_or, inl, inr, codes, take, drop, MatchOption}
use Rattle.std.proofs.lemmas.Fmt.{digits_decimal}
use Rattle.std.proofs.lemmas.List.Elements.{All-append, All-cons, All-from_get_or, All-from_recursion, All-head, All-nil, All-push, All-tail}
use Rattle.std.proofs.lemmas.Str.Parse.{IsNumeralModel, digit_at, numerals_by_value, tells_all_ascii_digits}
use Rattle.std.specs.Fmt.{decimal}
use Rattle.std.specs.Io.KnownBytes.{Consumes, IsAtEnd}
use Rattle.std.proofs.Math.Seq.{drop-append_seam, take-append_seam}
use Rattle.std.specs.Str.{all_ascii_digits}
use Rattle.std.specs.Str.Parse.{digits_value}
use Rattle.star_frames.specs.Frame.{crlf, frame_of, length_line}
use mathlib.Core.List.{head-eq_of_cons-eq, nil≢cons, tail-eq_of_cons-eq}

-- what stands before the first line feed, and what after it
split_line : (xs zs ys bs : List ℕ) → All (λ b. b ≢ 10) xs → All (λ b. b ≢ 10) zs → xs ++ 10 ∷ ys ≡ zs ++ 10 ∷ bs → (xs ≡ zs) × (ys ≡ bs)
split_line [] [] ys bs h k e = (refl, tail-eq_of_cons-eq e)
split_line [] (a ∷ zs) ys bs h k e = absurd (All-head (λ b. b ≢ 10) a zs k (sym (head-eq_of_cons-eq e)))
split_line (x ∷ xs) [] ys bs h k e = absurd (All-head (λ b. b ≢ 10) x xs h (head-eq_of_cons-eq e))
split_line (x ∷ xs) (a ∷ zs) ys bs h k e =
    let r = split_line xs zs ys bs (All-tail (λ b. b ≢ 10) x xs h) (All-tail (λ b. b ≢ 10) a zs k) (tail-eq_of_cons-eq e) in
    (ap (λ v. x ∷ v) r.0 ∙ ap (λ v. v ∷ zs) (head-eq_of_cons-eq e), r.1)

own : IsNumeralModel (λ ds. all_ascii_digits ds ≡ true) (digits_value 10)
own = numerals_by_value _ tells_all_ascii_digits

-- no line feed is among the digits of a number
no_feed_in_digits : (n : ℕ) → n < 2 ^ 64 → All (λ b. b ≢ 10) (decimal n)
no_feed_in_digits n h =
    let digits = own.to (decimal n) (digits_decimal own n h) in
    All-from_get_or (λ b. b ≢ 10) (decimal n) 0 (λ i within. let r = digit_at (decimal n) i digits within in omega (arith, r))

letters : All (λ b. b ≢ 10) (codes "Content-Length: ")
letters = All-from_recursion (λ b. b ≢ 10) (codes "Content-Length: ") (search rules)

-- nor in the whole line
no_feed : (n : ℕ) → n < 2 ^ 64 → All (λ b. b ≢ 10) (length_line n ++ 13 ∷ [])
no_feed n h =
    All-append (λ b. b ≢ 10) (codes "Content-Length: ") (decimal n ++ 13 ∷ []) letters
    (All-push (λ b. b ≢ 10) (decimal n) 13 (no_feed_in_digits n h) (omega arith))

-- how far the header of a frame was read
abbrev pub IsInHead : Option (List ℕ) → ℕ → Option ℕ → List ℕ → List ℕ → Type 0
IsInHead left turn size content rest =
    ((turn ≡ 0) × (left ≡ Some (frame_of content ++ rest)) × (size ≡ None))
    ⊎ ((turn ≡ 1) × (left ≡ Some (crlf ++ (content ++ rest))) × (size ≡ Some (length content)))

-- the first line has the length
pub first_line : (old new : Option (List ℕ)) (line content rest : List ℕ) → length content < 2 ^ 64 → old ≡ Some (frame_of content ++ rest) → All (λ b. b ≢ 10) line → Consumes old new (line ++ 10 ∷ []) → (line ≡ length_line (length content) ++ 13 ∷ []) × (new ≡ Some (crlf ++ (content ++ rest)))
first_line old (Some ys) line content rest small was h c =
    let a = length_line (length content) in
    let e : frame_of content ++ rest ≡ (line ++ 10 ∷ []) ++ ys = subst (λ o. Consumes o (Some ys) (line ++ 10 ∷ [])) was c in
    let r = split_line line (a ++ 13 ∷ []) ys (crlf ++ (content ++ rest)) h (no_feed (length content) small)
    (sym (append_assoc line (10 ∷ []) ys) ∙ sym e ∙ append_assoc a (crlf ++ (crlf ++ content)) rest ∙ sym (append_assoc a (13 ∷ []) (10 ∷ (crlf ++ (content ++ rest))))) in
    (r.0, ap (λ v. Some v) r.1)
first_line old None line content rest small was h c = absurd (subst (λ o. Consumes o None (line ++ 10 ∷ [])) was c)

-- the second line is empty
pub second_line : (old new : Option (List ℕ)) (line rest : List ℕ) → old ≡ Some (crlf ++ rest) → All (λ b. b ≢ 10) line → Consumes old new (line ++ 10 ∷ []) → (line ≡ 13 ∷ []) × (new ≡ Some rest)
second_line old (Some ys) line rest was h c =
    let e : crlf ++ rest ≡ (line ++ 10 ∷ []) ++ ys = subst (λ o. Consumes o (Some ys) (line ++ 10 ∷ [])) was c in
    let r = split_line line (13 ∷ []) ys rest h (All-cons (λ b. b ≢ 10) 13 [] (omega arith) (All-nil (λ b. b ≢ 10))) (sym (append_assoc line (10 ∷ []) ys) ∙ sym e) in
    (r.0, ap (λ v. Some v) r.1)
second_line old None line rest was h c = absurd (subst (λ o. Consumes o None (line ++ 10 ∷ [])) was c)

-- a header that was not read whole is not the end
pub not_at_end : (left : Option (List ℕ)) (x : ℕ) (xs : List ℕ) → left ≡ Some (x ∷ xs) → IsAtEnd left → ⊥
not_at_end left x xs e h = nil≢cons (sym (subst IsAtEnd e h))

-- the bytes that are read are the content, if there are as many
pub content_read : (old new : Option (List ℕ)) (bytes content rest : List ℕ) → old ≡ Some (content ++ rest) → length bytes ≡ length content → Consumes old new bytes → (bytes ≡ content) × (new ≡ Some rest)
content_read old (Some ys) bytes content rest was same c =
    let e : content ++ rest ≡ bytes ++ ys = subst (λ o. Consumes o (Some ys) bytes) was c in (
      sym (take-append_seam bytes ys) ∙ ap (λ v. take (length bytes) v) (sym e) ∙ ap (λ n. take n (content ++ rest)) same ∙ take-append_seam content rest,
      ap (λ v. Some v) (sym (drop-append_seam bytes ys) ∙ ap (λ v. drop (length bytes) v) (sym e) ∙ ap (λ n. drop n (content ++ rest)) same ∙ drop-append_seam content rest),
    )
content_read old None bytes content rest was same c = absurd (subst (λ o. Consumes o None bytes) was c)

pub some_of : {X : Type 0} (o : Option X) (x : X) (P : Type 0) (Q : X → Type 0) → o ≡ Some x → MatchOption o P Q → Q x
some_of o x P Q e m = subst (λ v. MatchOption v P Q) e m

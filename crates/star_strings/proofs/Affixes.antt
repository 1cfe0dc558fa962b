-- A string without another one at its front or its end.
use Rattle.std.proofs.Common.{◌≡◌, ◌≢◌, ℕ, ◌+◌, ◌-◌, ◌<◌, ◌≤◌, nat_eq, List, [], ◌∷◌, ◌++◌, length, take, drop, Bool, true, false, Option, Some, None, MatchOption, if◌then◌else◌, refl, ap, sym, subst, ◌∙◌, arith}
use denote.Ref.{Bor}
use Rattle.std.specs.Str.{IsCharBoundary}
use Rattle.std.specs.List.{starts_with, ends_with}
use Rattle.std.specs.Str.Pattern.{FindsTextPrefix, FindsTextSuffix}
use Rattle.std.proofs.lemmas.Str.Pattern.{starts_text, ends_text}
use Rattle.star_strings.proofs.Cutting.{starts_self}
use Rattle.star_strings.specs.Strings.{without_prefix, without_suffix}

if_so : {A : Type 0} (b : Bool) (x y : A) → b ≡ true → x ≡ (if b then x else y)
if_so true x y h = refl
if_so false x y h = cc

if_not : {A : Type 0} (b : Bool) (x y : A) → b ≡ false → y ≡ (if b then x else y)
if_not true x y h = cc
if_not false x y h = refl

pub prefix_gone : (n s : List ℕ) (r : Option (Bor (List ℕ))) → MatchOption r (FindsTextPrefix n s None) (λ x. (k : ℕ) × FindsTextPrefix n s (Some k) × (x.now ≡ drop k s) × (length x.now + k ≡ length s)) → MatchOption r (s ≡ without_prefix s n) (λ x. x.now ≡ without_prefix s n)
prefix_gone n s None f = if_not (starts_with nat_eq s n) (drop (length n) s) s (sym (starts_text false n s f))
prefix_gone n s (Some x) f =
    let there : starts_with nat_eq s n ≡ true = ap (λ z. starts_with nat_eq z n) f.1.1 ∙ starts_self n (drop f.0 s) in
    f.2 ∙ ap (λ k. drop k s) f.1.0 ∙ if_so (starts_with nat_eq s n) (drop (length n) s) s there

pub suffix_gone : (n s : List ℕ) (r : Option (Bor (List ℕ))) → MatchOption r (FindsTextSuffix n s None) (λ x. (k : ℕ) × FindsTextSuffix n s (Some k) × (x.now ≡ take (length s - k) s) × (length x.now + k ≡ length s)) → MatchOption r (s ≡ without_suffix s n) (λ x. x.now ≡ without_suffix s n)
suffix_gone n s None f = if_not (ends_with nat_eq s n) (take (length s - length n) s) s (sym (ends_text false n s f))
suffix_gone n s (Some x) f =
    let there : ends_with nat_eq s n ≡ true = sym (ends_text true n s (f.0, f.1, omega (arith, f.3), subst (λ k. IsCharBoundary s (length s - k)) (sym f.1.0) f.1.2)) in
    f.2 ∙ ap (λ k. take (length s - k) s) f.1.0 ∙ if_so (ends_with nat_eq s n) (take (length s - length n) s) s there

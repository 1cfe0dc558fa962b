-- The part of a text before another one at its end.
use Rattle.std.proofs.Common.{◌≡◌, ℕ, ◌+◌, ◌-◌, nat_eq, List, length, take, true, false, Option, Some, None, MatchOption, ap, sym, subst, ◌∙◌, arith}
use denote.Ref.{Bor}
use Rattle.std.specs.Str.{IsCharBoundary}
use Rattle.std.specs.List.{ends_with}
use Rattle.std.specs.Str.Pattern.{FindsTextSuffix}
use Rattle.std.proofs.lemmas.Str.Pattern.{ends_text}

pub end_there : (n s : List ℕ) (r : Option (Bor (List ℕ))) → MatchOption r (FindsTextSuffix n s None) (λ x. (k : ℕ) × FindsTextSuffix n s (Some k) × (x.now ≡ take (length s - k) s) × (length x.now + k ≡ length s)) → MatchOption r (ends_with nat_eq s n ≡ false) (λ x. (ends_with nat_eq s n ≡ true) × (x.now ≡ take (length s - length n) s))
end_there n s None f = sym (ends_text false n s f)
end_there n s (Some x) f =
    let there : ends_with nat_eq s n ≡ true = sym (ends_text true n s (f.0, f.1, omega (arith, f.3), subst (λ k. IsCharBoundary s (length s - k)) (sym f.1.0) f.1.2)) in
    (there, f.2 ∙ ap (λ k. take (length s - k) s) f.1.0)

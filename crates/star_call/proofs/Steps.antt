-- The shares of parameters go on parameter by parameter.
use denote.Ref.{Bor}
use Rattle.std.proofs.Common.{◌≡◌, ℕ, ◌+◌, ◌<◌, List, [], ◌∷◌, ◌++◌, length, drop, get_or, Option, Some, None, add-one, refl, ap, sym, ◌∙◌, append_assoc, append-nil}
use Rattle.std.proofs.Math.Seq.{drop-cons}
use Rattle.std.proofs.lemmas.List.{map-append}
use Rattle.std.specs.Option.{option_and_then}
use Rattle.star_tree.specs.declared.tree.Name.{Name}
use Rattle.star_tree.specs.declared.tree.Parameter.{Parameter}
use Rattle.star_outline.specs.Syntax.{parameter}
use Rattle.star_meaning.specs.declared.given.KeywordArgument.{KeywordArgument}
use Rattle.star_meaning.specs.Binding.{BoundArgument, BindingState, also, shares, step}
use Rattle.star_call.specs.declared.shares.BoundArgument.{BoundArgument as HeldShare}
use Rattle.star_call.specs.declared.binding.BoundParameter.{BoundParameter}
use Rattle.star_call.specs.BoundArguments.{all_shown, shown}
use Rattle.star_call.specs.Steps.{progress_of, share_in, turn_of}

also_more : (xs ys : List (Name × BoundArgument)) (o : Option (List (Name × BoundArgument))) → also (xs ++ ys) o ≡ also xs (also ys o)
also_more xs ys None = refl
also_more xs ys (Some zs) = ap (λ l. Some l) (append_assoc xs ys zs)

shares_next : (ns left : List KeywordArgument) (ps : List Parameter) (i : ℕ) (d : Parameter) (q : BindingState) → i < length ps → shares ns left (drop i ps) q ≡ option_and_then (λ (r : List (Name × BoundArgument) × BindingState). also r.0 (shares ns left (drop (i + 1) ps) r.1)) (step ns left q (parameter (get_or ps i d)))
shares_next ns left ps i d q h = rw (add-one, drop-cons ps i d) refl

-- a parameter that got its share leaves those after it
shares_taken : (ns left : List KeywordArgument) (ps : List Parameter) (i : ℕ) (d : Parameter) (q t : BindingState) (front xs : List (Name × BoundArgument)) → i < length ps → step ns left q (parameter (get_or ps i d)) ≡ Some (xs, t) → also (front ++ xs) (shares ns left (drop (i + 1) ps) t) ≡ also front (shares ns left (drop i ps) q)
shares_taken ns left ps i d q t front xs h e = also_more front xs (shares ns left (drop (i + 1) ps) t) ∙ sym (ap (also front) (shares_next ns left ps i d q h ∙ ap (option_and_then (λ (r : List (Name × BoundArgument) × BindingState). also r.0 (shares ns left (drop (i + 1) ps) r.1))) e))

-- the code's turn is the definition's step
turn_taken : (ns left : List KeywordArgument) (ps : List Parameter) (i : ℕ) (x : Parameter) (q : BindingState) (t : BoundParameter) (front : List (Bor Name × HeldShare)) → i < length ps → x ≡ get_or ps i x → Some (turn_of left t) ≡ step ns left q (parameter x) → also (all_shown left front ++ share_in left t.share) (shares ns left (drop (i + 1) ps) (progress_of t.progress)) ≡ also (all_shown left front) (shares ns left (drop i ps) q)
turn_taken ns left ps i x q t front h g e = shares_taken ns left ps i x q (progress_of t.progress) (all_shown left front) (share_in left t.share) h (ap (λ p. step ns left q (parameter p)) (sym g) ∙ sym e)

shown_more : (left : List KeywordArgument) (xs : List (Bor Name × HeldShare)) (x : Bor Name × HeldShare) → all_shown left (xs ++ x ∷ []) ≡ all_shown left xs ++ shown left x ∷ []
shown_more left xs x = map-append (shown left) xs (x ∷ [])

-- a share more
pub turn_pushed : (ns left : List KeywordArgument) (ps : List Parameter) (i : ℕ) (x : Parameter) (q : BindingState) (t : BoundParameter) (front made : List (Bor Name × HeldShare)) (y : Bor Name × HeldShare) → i < length ps → x ≡ get_or ps i x → Some (turn_of left t) ≡ step ns left q (parameter x) → made ≡ front ++ y ∷ [] → t.share ≡ Some y → also (all_shown left made) (shares ns left (drop (i + 1) ps) (progress_of t.progress)) ≡ also (all_shown left front) (shares ns left (drop i ps) q)
turn_pushed ns left ps i x q t front made y h g e k f =
    let rest = shares ns left (drop (i + 1) ps) (progress_of t.progress) in
    ap (λ xs. also (all_shown left xs) rest) k ∙ ap (λ xs. also xs rest) (shown_more left front y) ∙ ap (λ o. also (all_shown left front ++ share_in left o) rest) (sym f) ∙ turn_taken ns left ps i x q t front h g e

-- no share
pub turn_passed : (ns left : List KeywordArgument) (ps : List Parameter) (i : ℕ) (x : Parameter) (q : BindingState) (t : BoundParameter) (front made : List (Bor Name × HeldShare)) → i < length ps → x ≡ get_or ps i x → Some (turn_of left t) ≡ step ns left q (parameter x) → made ≡ front → t.share ≡ None → also (all_shown left made) (shares ns left (drop (i + 1) ps) (progress_of t.progress)) ≡ also (all_shown left front) (shares ns left (drop i ps) q)
turn_passed ns left ps i x q t front made h g e k f =
    let rest = shares ns left (drop (i + 1) ps) (progress_of t.progress) in
    ap (λ xs. also (all_shown left xs) rest) k ∙ ap (λ xs. also xs rest) (sym (append-nil (all_shown left front))) ∙ ap (λ o. also (all_shown left front ++ share_in left o) rest) (sym f) ∙ turn_taken ns left ps i x q t front h g e

-- The lines of the graph.
use Rattle.std.proofs.Common.{◌≡◌, ℕ, List, [], ◌∷◌, ◌++◌, ap, ◌∙◌, append-nil, append_assoc}
use Rattle.json.specs.Print.{print, print_from, quoted}
use Rattle.json.specs.Token.{Token, string}

one_string : (name : List ℕ) → print (string name ∷ []) ≡ quoted name
unfolding print_from
one_string name = append-nil (quoted name)

pub labelled : (old all text : List ℕ) (tokens : List Token) (name label : List ℕ) → all ≡ text ++ print tokens → text ≡ old → tokens ≡ string name ∷ [] → name ≡ label → all ≡ old ++ quoted label
labelled old all text tokens name label is was sent same =
    is ∙ (ap (λ t. t ++ print tokens) was ∙ (ap (λ ts. old ++ print ts) sent ∙ (ap (λ t. old ++ t) (one_string name) ∙ ap (λ n. old ++ quoted n) same)))

pub five : (t a q b r e one two three four all : List ℕ) → one ≡ t ++ a → two ≡ one ++ q → three ≡ two ++ b → four ≡ three ++ r → all ≡ four ++ e → all ≡ t ++ (a ++ (q ++ (b ++ (r ++ e))))
five t a q b r e one two three four all p1 p2 p3 p4 p5 =
    p5 ∙ (ap (λ s. s ++ e) (p4 ∙ ap (λ s. s ++ r) (p3 ∙ ap (λ s. s ++ b) (p2 ∙ ap (λ s. s ++ q) p1)))
    ∙ (append_assoc ((((t ++ a) ++ q) ++ b)) r e ∙ (append_assoc ((t ++ a) ++ q) b (r ++ e) ∙ (append_assoc (t ++ a) q (b ++ (r ++ e)) ∙ append_assoc t a (q ++ (b ++ (r ++ e)))))))

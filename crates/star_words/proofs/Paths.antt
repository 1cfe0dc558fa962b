-- Where the parts of a path lead.
use Rattle.std.proofs.Common.{◌≡◌, ◌-◌, ℕ, List, [], ◌∷◌, ◌++◌, length, length-append, take, Bool, ◌&&◌, true, Option, Some, None, refl, ap, subst, ◌∙◌, arith, Bor}
use Rattle.std.proofs.Math.Seq.{get_or-append_seam, take-append_seam}
use Rattle.std.specs.Prelude.{if◌then◌else◌, slice_index_or}
use Rattle.std.specs.List.{list_all}
use Rattle.std.specs.Option.{option_and_then}
use Rattle.star_label.specs.Label.{is_segment, joined, label_text, parts}
use Rattle.star_words.specs.Words.{Leads, folders_of, label_of_parts, label_of_path, led, led_by}

pub led_both : (fs xs ys : List (List ℕ)) → led_by fs (xs ++ ys) ≡ option_and_then (λ gs. led_by gs ys) (led_by fs xs)
led_both fs [] ys = refl
led_both fs (x ∷ xs) ys = by (led fs x) (λ gs. led_both gs xs ys)
  where
    by : (o : Option (List (List ℕ))) → ((gs : List (List ℕ)) → led_by gs (xs ++ ys) ≡ option_and_then (λ gs. led_by gs ys) (led_by gs xs))
        → option_and_then (λ gs. led_by gs (xs ++ ys)) o ≡ option_and_then (λ gs. led_by gs ys) (option_and_then (λ gs. led_by gs xs) o)
    by None more = refl
    by (Some gs) more = more gs

pub then_some : (o : Option (List (List ℕ))) → option_and_then (λ gs. led_by gs []) o ≡ o
then_some None = refl
then_some (Some gs) = refl

-- the last folder is the name
pub named_last : (fs : List (List ℕ)) (n : List ℕ) → label_of_parts (fs ++ n ∷ []) ≡ (if list_all is_segment fs && is_segment n then Some (label_text (joined fs) n) else None)
named_last fs n = opened fs n ∙ ap (λ (p : List (List ℕ) × List ℕ). made p.0 p.1) (pair (front_is fs n) (name_is fs n))
  where
    made : List (List ℕ) → List ℕ → Option (List ℕ)
    made front name = if list_all is_segment front && is_segment name then Some (label_text (joined front) name) else None

    front : List (List ℕ) → List (List ℕ)
    front gs = take (length gs - 1) gs

    last : List (List ℕ) → List ℕ
    last gs = slice_index_or gs (length gs - 1) []

    opened : (fs : List (List ℕ)) (n : List ℕ) → label_of_parts (fs ++ n ∷ []) ≡ made (front (fs ++ n ∷ [])) (last (fs ++ n ∷ []))
    opened [] n = refl
    opened (f ∷ fs) n = refl

    long : (fs : List (List ℕ)) (n : List ℕ) → length (fs ++ n ∷ []) - 1 ≡ length fs
    long fs n = let e = length-append fs (n ∷ []) in omega (arith, e)

    front_is : (fs : List (List ℕ)) (n : List ℕ) → front (fs ++ n ∷ []) ≡ fs
    front_is fs n = ap (λ k. take k (fs ++ n ∷ [])) (long fs n) ∙ take-append_seam fs (n ∷ [])

    name_is : (fs : List (List ℕ)) (n : List ℕ) → last (fs ++ n ∷ []) ≡ n
    name_is fs n = ap (λ k. slice_index_or (fs ++ n ∷ []) k []) (long fs n) ∙ get_or-append_seam fs n [] []

    pair : {A B : Type 0} {a c : A} {b d : B} → a ≡ c → b ≡ d → ◌≡◌ {A = A × B} (a, b) (c, d)
    pair e h = cc

pub folders_last : (fs : List (Bor (List ℕ))) (f : Bor (List ℕ)) → folders_of (fs ++ f ∷ []) ≡ folders_of fs ++ f.now ∷ []
folders_last [] f = refl
folders_last (g ∷ fs) f = ap (λ gs. g.now ∷ gs) (folders_last fs f)

-- a path that leads out of the top names nothing, nor does one from a folder that lies outside
pub first_out : (here path : List ℕ) → led_by [] (parts here) ≡ None → label_of_path here path ≡ None
first_out here path e = ap (option_and_then label_of_parts) (led_both [] (parts here) (parts path) ∙ ap (option_and_then (λ gs. led_by gs (parts path))) e)

pub leads_to : (here path : List ℕ) (gs : List (List ℕ)) (o : Option (List (List ℕ))) → led_by [] (parts here) ≡ Some gs → led_by gs (parts path) ≡ o → label_of_path here path ≡ option_and_then label_of_parts o
leads_to here path gs o e h = ap (option_and_then label_of_parts) (led_both [] (parts here) (parts path) ∙ ap (option_and_then (λ gs. led_by gs (parts path))) e ∙ h)

-- .. where the walk to the package began at the top and went on
pub walked : (here path : List ℕ) (top gs : List (Bor (List ℕ))) (there : Bool) (o : Option (List (List ℕ))) → top ≡ [] → there ≡ true → Leads (led_by (folders_of top) (parts here)) there (folders_of gs) → led_by (folders_of gs) (parts path) ≡ o → label_of_path here path ≡ option_and_then label_of_parts o
walked here path top gs there o none goes leads h =
    let e : led_by (folders_of top) (parts here) ≡ Some (folders_of gs) = subst (λ b. Leads (led_by (folders_of top) (parts here)) b (folders_of gs)) goes leads in
    leads_to here path (folders_of gs) o (subst (λ (fs : List (Bor (List ℕ))). led_by (folders_of fs) (parts here) ≡ Some (folders_of gs)) none e) h

-- .. and so did the walk by the path, to folders whose last one is the name
pub walked_to_name : (here path : List ℕ) (top gs hs fs : List (Bor (List ℕ))) (n : Bor (List ℕ)) (there down : Bool) → top ≡ [] → there ≡ true → Leads (led_by (folders_of top) (parts here)) there (folders_of gs) → down ≡ true → Leads (led_by (folders_of gs) (parts path)) down (folders_of hs) → hs ≡ fs ++ n ∷ []
    → label_of_path here path ≡ (if list_all is_segment (folders_of fs) && is_segment n.now then Some (label_text (joined (folders_of fs)) n.now) else None)
walked_to_name here path top gs hs fs n there down none goes leads goes_down leads_down is =
    walked here path top gs there (Some (folders_of hs)) none goes leads (subst (λ b. Leads (led_by (folders_of gs) (parts path)) b (folders_of hs)) goes_down leads_down)
    ∙ ap (λ (xs : List (Bor (List ℕ))). label_of_parts (folders_of xs)) is ∙ ap label_of_parts (folders_last fs n) ∙ named_last (folders_of fs) n.now

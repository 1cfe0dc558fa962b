use Rattle.std.proofs.Common.{◌≡◌, ◌∙◌, ◌∷◌, ◌++◌, [], ap, inl, refl, subst, sym, string_bytes}
use Rattle.std.proofs.lemmas.List.{map-append}
use Rattle.star_words.specs.Below.{IsThere, left_out}
use Rattle.star_words.specs.Named.{labels_of, texts_of}
use Rattle.star_words.specs.Rows.{IsIn}
use Rattle.star_words.proofs.Members.{in_back, in_front}
use Rattle.star_words.proofs.pattern.files_below.Goals as goal

pub loop-path-preserved : goal.loop-path-preserved
loop-path-preserved g c =
    let top = c.args.top.now in
    let before = c.loop-path.invariant in
    let path = string_bytes c.in-Some.path in
    let left = texts_of c.next_place.new.walk.places.items in
    let cut : texts_of c.loop-path.walk.places.items ≡ left ++ path ∷ [] = ap texts_of c.in-Some.ensures.place ∙ map-append string_bytes c.next_place.new.walk.places.items (c.in-Some.path ∷ []) in
    let patterns = left_out c.args.filter in
    let here : IsThere patterns top path = before.places path (subst (IsIn path) (sym cut) (in_back path left (path ∷ []) (inl refl))) in
    c.in_ok-listed.ensures.walked top (subst (IsThere patterns top) (sym c.as_str.ensures.value) here)
    (record {
      places = λ q i. before.places q (subst (IsIn q) (sym cut) (in_front q left (path ∷ []) i));
      found = λ l i. before.found l (subst (λ f. IsIn l (labels_of f.keys)) c.in-Some.ensures.found i);
    })

-- The tokens that a writer got for the fields of a struct.
use Rattle.std.proofs.Common.{arith, ◌≡◌, ◌+◌, drop, ℕ, zero, suc, true, List, [], ◌∷◌, ◌++◌, Option, Some, None, IsUtf8, refl, ap, sym, subst, ◌∙◌, append_assoc}
use Rattle.std.specs.Prelude.{slice_get}
use Rattle.std.specs.Option.{option_and_then, option_map}
use Rattle.std.specs.Cmp.Lexicographic.{slice_cmp}
use Rattle.std.specs.Ordering.{is_lt, match_ordering, nat_cmp}
use Rattle.std.specs.declared.cmp.Ordering.{Ordering}
use Rattle.std.specs.declared.cmp.Ordering.TheVariants.{Less, Equal, Greater}
use Rattle.std.proofs.lemmas.Bool.{and_parts}
use Rattle.json.specs.Token.{Token, begin_object, end_object, key}
use Rattle.json.specs.Tree.{json_tokens, members_tokens}
use Rattle.serde_json.specs.Data.{Data, Members, member, no_members, object, put}
use Rattle.serde_json.specs.Written.{members_outline, outline}
use Rattle.star_store.specs.declared.values.Value.{Value}
use Rattle.star_store.specs.Fields.{below_next, names_of, rises}
use Rattle.star_data.specs.Data.{fields_data, utf8_of}
use Rattle.star_data.specs.Texts.{Sends}
use Rattle.star_data.proofs.Builds.{none_then, then_none}
use Rattle.star_data.proofs.Options.{chained, mapped}
use Rattle.star_data.proofs.Strings.{its_own, utf8_is}

-- ---- names that rise

is_less : (o : Ordering) → is_lt o ≡ true → o ≡ Less
is_less Less h = refl
is_less Equal h = absurd (let no : ⊥ = cc in no)
is_less Greater h = absurd (let no : ⊥ = cc in no)

-- a name below those of fields comes before their members
pub put_first : (f : Value → Option Data) (n : List ℕ) (d : Data) (left : List (List ℕ × Value)) (ms : Members) → rises (n ∷ names_of left) ≡ true → fields_data f left ≡ Some ms → put n d ms ≡ member n d ms
put_first f n d [] ms r e = let same : no_members ≡ ms = cc in subst (λ z. put n d z ≡ member n d z) same refl
put_first f n d (x ∷ left) ms r e =
    let k = chained (λ k. option_and_then (λ c. option_map (put k c) (fields_data f left)) (f x.1)) (utf8_of x.0) ms e in
    let c = chained (λ c. option_map (put k.0 c) (fields_data f left)) (f x.1) ms k.2 in
    let rest = mapped (put k.0 c.0) (fields_data f left) ms c.2 in
    let both = and_parts (below_next n (names_of (x ∷ left))) (rises (names_of (x ∷ left))) r in
    let less : slice_cmp nat_cmp n x.0 ≡ Less = is_less (slice_cmp nat_cmp n x.0) both.0 in
    let own : x.0 ≡ k.0 = (utf8_is x.0 k.0 k.1).0 in
    let first : put k.0 c.0 rest.0 ≡ member k.0 c.0 rest.0 = subst (λ z. put z c.0 rest.0 ≡ member z c.0 rest.0) own (put_first f x.0 c.0 left rest.0 both.1 rest.1) in
    let is : member k.0 c.0 rest.0 ≡ ms = sym first ∙ rest.2 in
    subst (λ z. put n d z ≡ member n d z) is
    (ap (λ o. match_ordering o (member n d (member k.0 c.0 rest.0)) (member k.0 d rest.0) (member k.0 c.0 (put n d rest.0))) (ap (slice_cmp nat_cmp n) (sym own) ∙ less))

rise_later : (fs : List (List ℕ × Value)) (i : ℕ) → rises (names_of fs) ≡ true → rises (names_of (drop i fs)) ≡ true
rise_later fs zero r = r
rise_later [] (suc i) r = r
rise_later (x ∷ fs) (suc i) r = rise_later fs i (and_parts (below_next x.0 (names_of fs)) (rises (names_of fs)) r).1

pub rise_from : (fs : List (List ℕ × Value)) (i : ℕ) (e : List ℕ × Value) (left : List (List ℕ × Value)) → rises (names_of fs) ≡ true → drop i fs ≡ e ∷ left → rises (e.0 ∷ names_of left) ≡ true
rise_from fs i e left r at = ap (λ gs. rises (names_of gs)) (sym at) ∙ rise_later fs i r

-- ---- places

pub from_place : (fs : List (List ℕ × Value)) (i : ℕ) (e : List ℕ × Value) → slice_get fs i ≡ Some e → drop i fs ≡ e ∷ drop (i + 1) fs
from_place [] i e at = absurd (let no : ⊥ = cc in no)
from_place (x ∷ fs) zero e at = let same : x ≡ e = cc in ap (λ z. z ∷ fs) same
from_place (x ∷ fs) (suc i) e at = from_place fs i e at ∙ ap (λ k. e ∷ drop k (x ∷ fs)) (let h : suc (i + 1) ≡ suc i + 1 = omega arith in h)

-- ---- the rest of the fields: tokens that end the object well from here end it well from the start, and if the rest is
-- not data, nor are the fields

pub record LeftFields (f : Value → Option Data) (fs left : List (List ℕ × Value)) (old now : List Token) : Type 0 where
  pub some : (ms : Members) → fields_data f left ≡ Some ms → (all : Members) × (fields_data f fs ≡ Some all)
      × (old ++ begin_object ∷ members_tokens (members_outline all) ≡ now ++ members_tokens (members_outline ms))
  pub none : fields_data f left ≡ None → fields_data f fs ≡ None

pub fields_begin : (f : Value → Option Data) (fs : List (List ℕ × Value)) (old new : List Token) → new ≡ old ++ begin_object ∷ [] → LeftFields f fs fs old new
fields_begin f fs old new e = record {
  some = λ ms are. (ms, are, sym (ap (λ ts. ts ++ members_tokens (members_outline ms)) e ∙ append_assoc old (begin_object ∷ []) (members_tokens (members_outline ms))));
  none = λ h. h;
}

one_field : (f : Value → Option Data) (e : List ℕ × Value) (left : List (List ℕ × Value)) (d : Data) (ms : Members) → f e.1 ≡ Some d → IsUtf8 e.0 → rises (e.0 ∷ names_of left) ≡ true → fields_data f left ≡ Some ms
    → fields_data f (e ∷ left) ≡ Some (member e.0 d ms)
one_field f e left d ms some utf8 r are =
    ap (option_and_then (λ k. option_and_then (λ c. option_map (put k c) (fields_data f left)) (f e.1))) (its_own e.0 utf8)
    ∙ (ap (option_and_then (λ c. option_map (put e.0 c) (fields_data f left))) some
    ∙ (ap (option_map (put e.0 d)) are ∙ ap Some (put_first f e.0 d left ms r are)))

none_fields : (f : Value → Option Data) (e : List ℕ × Value) (left : List (List ℕ × Value)) → fields_data f left ≡ None → fields_data f (e ∷ left) ≡ None
none_fields f e left h =
    then_none (utf8_of e.0) (λ k. option_and_then (λ d. option_map (put k d) (fields_data f left)) (f e.1))
    (λ k. then_none (f e.1) (λ d. option_map (put k d) (fields_data f left)) (λ d. ap (option_map (put k d)) h))

pub fields_more : (f : Value → Option Data) (fs : List (List ℕ × Value)) (e : List ℕ × Value) (left rest : List (List ℕ × Value)) (d : Data) (old before named new : List Token) → LeftFields f fs rest old before → rest ≡ e ∷ left
    → IsUtf8 e.0 → rises (e.0 ∷ names_of left) ≡ true → f e.1 ≡ Some d → named ≡ before ++ key e.0 ∷ [] → new ≡ named ++ json_tokens (outline d) → LeftFields f fs left old new
fields_more f fs e left rest d old before named new was at utf8 r some name value = record {
  some = λ ms are. (
      let whole = was.some (member e.0 d ms) (ap (fields_data f) at ∙ one_field f e left d ms some utf8 r are) in
      let rest_tokens : List Token = members_tokens (members_outline ms) in
      let tokens : new ++ rest_tokens ≡ before ++ key e.0 ∷ (json_tokens (outline d) ++ rest_tokens) =
      ap (λ ts. ts ++ rest_tokens) (value ∙ ap (λ ts. ts ++ json_tokens (outline d)) name)
      ∙ (append_assoc (before ++ key e.0 ∷ []) (json_tokens (outline d)) rest_tokens ∙ append_assoc before (key e.0 ∷ []) (json_tokens (outline d) ++ rest_tokens)) in
      (whole.0, whole.1, whole.2 ∙ sym tokens)
      );
  none = λ h. was.none (ap (fields_data f) at ∙ none_fields f e left h);
}

-- a value that is not data
pub fields_none : (f : Value → Option Data) (fs : List (List ℕ × Value)) (e : List ℕ × Value) (left rest : List (List ℕ × Value)) (old before : List Token) → LeftFields f fs rest old before → rest ≡ e ∷ left → f e.1 ≡ None → fields_data f fs ≡ None
fields_none f fs e left rest old before was at none =
    was.none (ap (fields_data f) at ∙ then_none (utf8_of e.0) (λ k. option_and_then (λ d. option_map (put k d) (fields_data f left)) (f e.1)) (λ k. none_then (f e.1) (λ d. option_map (put k d) (fields_data f left)) none))

pub fields_end : (f : Value → Option Data) (fs rest : List (List ℕ × Value)) (old before new : List Token) → LeftFields f fs rest old before → rest ≡ [] → new ≡ before ++ end_object ∷ [] → Sends (option_map object (fields_data f fs)) true old new
fields_end f fs rest old before new was at e =
    let whole = was.some no_members (ap (fields_data f) at) in
    subst (λ o. Sends (option_map object o) true old new) (sym whole.1) (refl, e ∙ sym whole.2)

-- The texts of members.
use Rattle.std.proofs.Common.{◌≡◌, ℕ, Bool, true, false, ◌||◌, List, [], ◌∷◌, ◌++◌, Option, Some, None, Vec, refl, ap, sym, subst, ◌∙◌, append-nil, append_assoc, if◌then◌else◌}
use denote.Ref.{Bor}
use Rattle.std.specs.Prelude.{MatchOption}
use Rattle.std.specs.Arc.{arc_value}
use Rattle.std.specs.declared.alloc.Global.{Global}
use Rattle.std.specs.declared.cmp.Ordering.{Ordering}
use Rattle.std.specs.declared.cmp.Ordering.TheVariants.{Less, Equal, Greater}
use Rattle.std.specs.declared.sync.Arc.{Arc}
use Rattle.std.specs.Ordering.{match_ordering, nat_cmp}
use Rattle.std.specs.Cmp.Lexicographic.{slice_cmp}
use Rattle.std.specs.BTreeMap.{insert_entry}
use Rattle.std.proofs.lemmas.Bool.{or_parts}
use Rattle.json.specs.Print.{print, print_from, quoted}
use Rattle.json.specs.Token.{Token, key}
use Rattle.serde_json.specs.Data.{Data, Members, member, no_members, object, put}
use Rattle.serde_json.specs.Written.{comma_if, compact_text, has_float, members_have_float, members_text}
use Rattle.star_outcome.specs.declared.module.Body.{Body}
use Rattle.star_outcome.specs.declared.module.Ended.{Ended}
use Rattle.star_outcome.specs.declared.module.Ended.TheVariants.{Static, Load as Unloaded, Stopped, Good}
use Rattle.star_report.specs.Shelf.{names_of, stored_data, values_in}
use Rattle.star_report.specs.Texts.{AreTexts, EndsIn, IsTextFor, Texts, and_last, joined_members}
use Rattle.star_report.specs.Values.{put_some, value_members_by}
use Rattle.star_report.specs.Wanted.{added, followed, put_in}

-- ---- one more

abbrev key_cmp : Bor (List ℕ) → Bor (List ℕ) → Ordering
key_cmp x y = slice_cmp nat_cmp x.now y.now

put_turn : {Z : Type 0} (k : Bor (List ℕ)) (t : Vec ℕ Z) (d c : Data) (x : Bor (List ℕ) × Vec ℕ Z) (l : List ℕ) (es : Texts Z) (ms : Members) → AreTexts (x ∷ es) (member l c ms) → t.items ≡ compact_text d → AreTexts (insert_entry key_cmp es k t) (put k.now d ms)
    → (o : Ordering) → AreTexts (match_ordering o ((k, t) ∷ x ∷ es) ((x.0, t) ∷ es) (x ∷ insert_entry key_cmp es k t)) (match_ordering o (member k.now d (member l c ms)) (member l d ms) (member l c (put k.now d ms)))
put_turn k t d c x l es ms are e rest Less = (refl, e, are)
put_turn k t d c x l es ms are e rest Equal = (are.0, e, are.2)
put_turn k t d c x l es ms are e rest Greater = (are.0, are.1, rest)

pub texts_put : {Z : Type 0} (k : Bor (List ℕ)) (t : Vec ℕ Z) (d : Data) (es : Texts Z) (ms : Members) → AreTexts es ms → t.items ≡ compact_text d → AreTexts (insert_entry key_cmp es k t) (put k.now d ms)
texts_put k t d [] no_members are e = (refl, e, tt)
texts_put k t d [] (member l c ms) are e = absurd are
texts_put k t d (x ∷ es) no_members are e = absurd are
texts_put k t d (x ∷ es) (member l c ms) are e =
    let rest = texts_put k t d es ms are.2 e in
    let o : Ordering = key_cmp k x.0 in
    subst (λ p. AreTexts (match_ordering o ((k, t) ∷ x ∷ es) ((x.0, t) ∷ es) (x ∷ insert_entry key_cmp es k t)) (match_ordering p (member k.now d (member l c ms)) (member l d ms) (member l c (put k.now d ms))))
    (ap (slice_cmp nat_cmp k.now) are.0) (put_turn k t d c x l es ms are e rest o)

-- a global more that is data
pub texts_some : {Z : Type 0} (k : Bor (List ℕ)) (t : Vec ℕ Z) (o : Option Data) (es new : Texts Z) (ms : Members) → IsTextFor o (Some t) → AreTexts es ms → new ≡ insert_entry key_cmp es k t → AreTexts new (put_some k.now o ms)
texts_some k t None es new ms is are e = absurd is
texts_some k t (Some d) es new ms is are e = subst (λ x. AreTexts x (put k.now d ms)) (sym e) (texts_put k t d es ms are is)

-- ---- joined

pub joined_are : {Z : Type 0} (later : Bool) (es : Texts Z) (ms : Members) → AreTexts es ms → joined_members later es ≡ members_text later ms
joined_are later [] no_members are = refl
joined_are later [] (member k d ms) are = absurd are
joined_are later (e ∷ es) no_members are = absurd are
joined_are later (e ∷ es) (member k d ms) are =
    ap (λ n. comma_if later ++ (quoted n ++ 58 ∷ (e.1.items ++ joined_members true es))) are.0
    ∙ (ap (λ t. comma_if later ++ (quoted k ++ 58 ∷ (t ++ joined_members true es))) are.1 ∙ ap (λ t. comma_if later ++ (quoted k ++ 58 ∷ (compact_text d ++ t))) (joined_are true es ms are.2))

-- ---- one member after the others

-- without the bracket after them
abbrev open_text : Bool → Members → List ℕ
open_text later no_members = []
open_text later (member k d ms) = comma_if later ++ (quoted k ++ 58 ∷ (compact_text d ++ open_text true ms))

one_front : (c q v r s : List ℕ) → c ++ (q ++ 58 ∷ (v ++ (r ++ s))) ≡ (c ++ (q ++ 58 ∷ (v ++ r))) ++ s
one_front c q v r s =
    ap (λ t. c ++ (q ++ 58 ∷ t)) (sym (append_assoc v r s)) ∙ (ap (λ t. c ++ t) (sym (append_assoc q (58 ∷ (v ++ r)) s)) ∙ sym (append_assoc c (q ++ 58 ∷ (v ++ r)) s))

closed : (later : Bool) (ms : Members) → members_text later ms ≡ open_text later ms ++ 125 ∷ []
closed later no_members = refl
closed later (member k d ms) = ap (λ t. comma_if later ++ (quoted k ++ 58 ∷ (compact_text d ++ t))) (closed true ms) ∙ one_front (comma_if later) (quoted k) (compact_text d) (open_text true ms) (125 ∷ [])

and_more : (later : Bool) (ms : Members) (k : List ℕ) (e : Data) → members_text true (and_last ms k e) ≡ open_text true ms ++ 44 ∷ (quoted k ++ 58 ∷ (compact_text e ++ 125 ∷ []))
and_more later no_members k e = refl
and_more later (member l d ms) k e =
    ap (λ t. 44 ∷ (quoted l ++ 58 ∷ (compact_text d ++ t))) (and_more later ms k e) ∙ one_front (44 ∷ []) (quoted l) (compact_text d) (open_text true ms) (44 ∷ (quoted k ++ 58 ∷ (compact_text e ++ 125 ∷ [])))

and_text : (l : List ℕ) (d : Data) (ms : Members) (k : List ℕ) (e : Data) → members_text false (and_last (member l d ms) k e) ≡ open_text false (member l d ms) ++ 44 ∷ (quoted k ++ 58 ∷ (compact_text e ++ 125 ∷ []))
and_text l d ms k e =
    ap (λ t. quoted l ++ 58 ∷ (compact_text d ++ t)) (and_more true ms k e) ∙ one_front [] (quoted l) (compact_text d) (open_text true ms) (44 ∷ (quoted k ++ 58 ∷ (compact_text e ++ 125 ∷ [])))

ends_same : (xs ys : List ℕ) (x y : ℕ) → xs ++ x ∷ [] ≡ ys ++ y ∷ [] → xs ≡ ys
ends_same [] [] x y e = refl
ends_same [] (b ∷ []) x y e = absurd (let no : ⊥ = cc in no)
ends_same [] (b ∷ c ∷ ys) x y e = absurd (let no : ⊥ = cc in no)
ends_same (a ∷ []) [] x y e = absurd (let no : ⊥ = cc in no)
ends_same (a ∷ b ∷ xs) [] x y e = absurd (let no : ⊥ = cc in no)
ends_same (a ∷ xs) (b ∷ ys) x y e =
    let head : a ≡ b = cc in
    let tail : xs ++ x ∷ [] ≡ ys ++ y ∷ [] = cc in
    ap (λ z. z ∷ xs) head ∙ ap (λ zs. b ∷ zs) (ends_same xs ys x y tail)

by_pop : (o : Option ℕ) (old new first : List ℕ) → MatchOption o (old ≡ []) (λ n. old ≡ new ++ n ∷ []) → old ≡ 123 ∷ (first ++ 125 ∷ []) → new ≡ 123 ∷ first
by_pop None old new first h is = absurd (let no : [] ≡ 123 ∷ (first ++ 125 ∷ []) = sym h ∙ is in let none : ⊥ = cc in none)
by_pop (Some n) old new first h is = ends_same new (123 ∷ first) n 125 (sym h ∙ is)

-- the text of an object, whose last byte was taken away, with one more member
pub last_text : (k : List ℕ) (d e : Data) (ends : EndsIn k d) (o : Option ℕ) (old cut new : List ℕ) → old ≡ compact_text d → MatchOption o (old ≡ []) (λ n. old ≡ cut ++ n ∷ [])
    → new ≡ cut ++ 44 ∷ (quoted k ++ 58 ∷ (compact_text e ++ 125 ∷ [])) → new ≡ compact_text (put_in k e d)
last_text k d e ends o old cut new is popped more =
    let ms : Members = member ends.first ends.value ends.rest in
    let whole : old ≡ 123 ∷ (open_text false ms ++ 125 ∷ []) = is ∙ (ap compact_text ends.is ∙ ap (λ t. 123 ∷ t) (closed false ms)) in
    let first : cut ≡ 123 ∷ open_text false ms = by_pop o old cut (open_text false ms) popped whole in
    more
    ∙ (ap (λ t. t ++ 44 ∷ (quoted k ++ 58 ∷ (compact_text e ++ 125 ∷ []))) first
    ∙ (ap (λ t. 123 ∷ t) (sym (and_text ends.first ends.value ends.rest k e))
    ∙ (ap (λ m. compact_text (object m)) (sym (ends.last e)) ∙ ap (λ x. compact_text (put_in k e x)) (sym ends.is))))

-- ---- floats

before_last : (ms : Members) (k : List ℕ) (e : Data) → members_have_float (and_last ms k e) ≡ false → members_have_float ms ≡ false
before_last no_members k e h = refl
before_last (member l d ms) k e h =
    let both = or_parts (has_float d) (members_have_float (and_last ms k e)) h in
    ap (λ b. b || members_have_float ms) both.0 ∙ before_last ms k e both.1

-- if an object with one more member has no float, the object has none
pub no_float_before : (k : List ℕ) (d e : Data) → EndsIn k d → has_float (put_in k e d) ≡ false → has_float d ≡ false
no_float_before k d e ends h =
    let ms : Members = member ends.first ends.value ends.rest in
    let all : members_have_float (and_last ms k e) ≡ false = ap members_have_float (sym (ends.last e)) ∙ (ap (λ x. has_float (put_in k e x)) (sym ends.is) ∙ h) in
    ap has_float ends.is ∙ before_last ms k e all

-- ---- pieces

pub one_key : (name : List ℕ) → print (key name ∷ []) ≡ quoted name ++ 58 ∷ []
unfolding print_from
one_key name = append-nil (quoted name ++ 58 ∷ [])

pub keyed : (old all text : List ℕ) (tokens : List Token) (name : List ℕ) → all ≡ text ++ print tokens → text ≡ old → tokens ≡ key name ∷ [] → all ≡ old ++ (quoted name ++ 58 ∷ [])
keyed old all text tokens name is was sent = is ∙ (ap (λ t. t ++ print tokens) was ∙ (ap (λ ts. old ++ print ts) sent ∙ ap (λ t. old ++ t) (one_key name)))

pub one_text : (old c q j all one two : List ℕ) → one ≡ old ++ c → two ≡ one ++ (q ++ 58 ∷ []) → all ≡ two ++ j → all ≡ old ++ (c ++ (q ++ 58 ∷ j))
one_text old c q j all one two a b d =
    d ∙ (ap (λ t. t ++ j) b ∙ (ap (λ t. (t ++ (q ++ 58 ∷ [])) ++ j) a
    ∙ (append_assoc (old ++ c) (q ++ 58 ∷ []) j ∙ (ap (λ t. (old ++ c) ++ t) (append_assoc q (58 ∷ []) j) ∙ append_assoc old c (q ++ 58 ∷ j)))))

pub one_on : (old c q j r now : List ℕ) → now ≡ old ++ (c ++ (q ++ 58 ∷ j)) → now ++ r ≡ old ++ (c ++ (q ++ 58 ∷ (j ++ r)))
one_on old c q j r now e =
    ap (λ t. t ++ r) e ∙ (append_assoc old (c ++ (q ++ 58 ∷ j)) r ∙ (ap (λ t. old ++ t) (append_assoc c (q ++ 58 ∷ j) r) ∙ ap (λ t. old ++ (c ++ t)) (append_assoc q (58 ∷ j) r)))

pub last_pieces : (cut q j a b c all : List ℕ) → a ≡ cut ++ 44 ∷ [] → b ≡ a ++ (q ++ 58 ∷ []) → c ≡ b ++ 123 ∷ j → all ≡ c ++ 125 ∷ [] → all ≡ cut ++ 44 ∷ (q ++ 58 ∷ ((123 ∷ j) ++ 125 ∷ []))
last_pieces cut q j a b c all ea eb ec e =
    e ∙ (ap (λ t. t ++ 125 ∷ []) (ec ∙ (ap (λ t. t ++ 123 ∷ j) (eb ∙ ap (λ t. t ++ (q ++ 58 ∷ [])) ea)))
    ∙ (append_assoc ((cut ++ 44 ∷ []) ++ (q ++ 58 ∷ [])) (123 ∷ j) (125 ∷ []) ∙ (append_assoc (cut ++ 44 ∷ []) (q ++ 58 ∷ []) (123 ∷ (j ++ 125 ∷ []))
    ∙ (append_assoc cut (44 ∷ []) ((q ++ 58 ∷ []) ++ 123 ∷ (j ++ 125 ∷ [])) ∙ ap (λ t. cut ++ 44 ∷ t) (append_assoc q (58 ∷ []) (123 ∷ (j ++ 125 ∷ [])))))))

-- ---- members in two parts

pub added_followed : (ms ns : Members) (d : Data) → added (followed ms ns) d ≡ added ns (added ms d)
added_followed no_members ns d = refl
added_followed (member k e ms) ns d = added_followed ms ns (put_in k e d)

pub added_three : (l s v : Members) (d : Data) → added (followed l (followed s v)) d ≡ added v (added s (added l d))
added_three l s v d = added_followed l (followed s v) d ∙ added_followed s v (added l d)

pub no_values : (b : Bool) (ms : Members) → b ≡ false → (if b then ms else no_members) ≡ no_members
no_values b ms e = ap (λ c. if c then ms else no_members) e

pub no_body : (b : Bool) (files n : ℕ) (e : Ended) → ((body : Arc Body Global) → e ≡ Good body → ⊥) → (if b then values_in files n e else no_members) ≡ no_members
no_body true files n (Static f) h = refl
no_body true files n (Unloaded index line) h = refl
no_body true files n (Stopped code line lines trail) h = refl
no_body true files n (Good body) h = absurd (h body refl)
no_body false files n e h = refl

pub values_there : (b : Bool) (files n : ℕ) (e : Ended) (good : Arc Body Global) (body : Body) → b ≡ true → e ≡ Good good → body ≡ arc_value good → (if b then values_in files n e else no_members) ≡ value_members_by (stored_data files n body) (names_of body)
values_there b files n e good body wanted is same =
    ap (λ x. if x then values_in files n e else no_members) wanted
    ∙ (ap (values_in files n) is ∙ ap (λ x. value_members_by (stored_data files n x) (names_of x)) (sym same))

-- a text of data is a text of equal data
pub same_text : (d e : Data) (t : List ℕ) → e ≡ d → (has_float d ≡ false → t ≡ compact_text d) → has_float e ≡ false → t ≡ compact_text e
same_text d e t same h none = h (ap has_float (sym same) ∙ none) ∙ ap compact_text (sym same)

-- Where objects end, and what is found in them.
use Rattle.std.proofs.Common.{◌≡◌, ◌≢◌, ℕ, zero, suc, ◌+◌, ◌<◌, ◌≤◌, Bool, true, false, cond, ◌&&◌, List, [], ◌∷◌, ◌++◌, Option, Some, None, length, get_or, drop, take, refl, ap, sym, ◌∙◌, subst, arith}
use Rattle.std.specs.List.{list_any, starts_with}
use Rattle.std.specs.Prelude.{nat_eq}
use Rattle.std.specs.Cmp.Lexicographic.{pointwise}
use Rattle.std.proofs.lemmas.List.{append_assoc, length-append, take_at, drop_at, take_more, length-take-le, take-append-drop, get_or_at}
use Rattle.star_shards.specs.Places.{after, end_from, ends, front_end, later_from, separates, start}
use Rattle.star_shards.specs.Entries.{IsObject}
use Rattle.star_shards.specs.declared.place.Place.{Place}

choose : (b : Bool) (i n : ℕ) (o u : Option ℕ) → (o ≡ Some n → u ≡ Some n) → cond b (Some i) o ≡ Some n → cond b (Some i) u ≡ Some n
choose true i n o u f h = h
choose false i n o u f h = f h

-- what ends is ended whatever follows
pub end-append : (p : Place) (i n : ℕ) (xs ys : List ℕ) → end_from p i xs ≡ Some n → end_from p i (xs ++ ys) ≡ Some n
unfolding end_from
end-append p i n [] ys h = cc
end-append p i n (x ∷ xs) ys h =
    choose (ends p x) i n (end_from (after p x) (i + 1) xs) (end_from (after p x) (i + 1) (xs ++ ys)) (end-append (after p x) (i + 1) n xs ys) h

-- the part of a text up to its end
pub record Cut (p : Place) (i n : ℕ) (xs : List ℕ) : Type 0 where
  pub size : ℕ
  pub place : n ≡ i + size
  pub within : size < length xs
  pub whole : end_from p i (take (suc size) xs) ≡ Some n

cut_by : (b : Bool) (p : Place) (i n x : ℕ) (xs : List ℕ) → ends p x ≡ b → cond b (Some i) (end_from (after p x) (i + 1) xs) ≡ Some n
    → (end_from (after p x) (i + 1) xs ≡ Some n → Cut (after p x) (i + 1) n xs) → Cut p i n (x ∷ xs)
unfolding end_from
cut_by true p i n x xs e h f =
    let same : i ≡ n = cc in
    record {
      size = 0;
      place = omega arith;
      within = omega arith;
      whole = ap (λ t. cond t (Some i) (end_from (after p x) (i + 1) [])) e ∙ h;
    }
cut_by false p i n x xs e h f =
    let rest = f h in
    record {
      size = suc rest.size;
      place = omega (arith, rest.place);
      within = omega (arith, rest.within);
      whole = ap (λ t. cond t (Some i) (end_from (after p x) (i + 1) (take (suc rest.size) xs))) e ∙ rest.whole;
    }

pub cut : (p : Place) (i n : ℕ) (xs : List ℕ) → end_from p i xs ≡ Some n → Cut p i n xs
unfolding end_from
cut p i n [] h = cc
cut p i n (x ∷ xs) h = cut_by (ends p x) p i n x xs refl h (cut (after p x) (i + 1) n xs)

-- ---- a front is found in the part up to the end

and_false : (a b : Bool) → a ≡ false → (a && b) ≡ false
and_false false b h = refl
and_false true b h = cc

-- a front without a byte does not reach past it
pub starts_before : (f ys : List ℕ) (c : ℕ) (zs : List ℕ) → list_any (λ k. nat_eq k c) f ≡ false → starts_with nat_eq (ys ++ c ∷ zs) f ≡ starts_with nat_eq (ys ++ c ∷ []) f
starts_before [] ys c zs h = refl
starts_before (k ∷ ks) [] c zs h =
    let off : nat_eq k c ≡ false = grind arith in
    and_false (nat_eq k c) (pointwise nat_eq ks (take (length ks) zs)) off ∙ sym (and_false (nat_eq k c) (pointwise nat_eq ks (take (length ks) [])) off)
starts_before (k ∷ ks) (y ∷ ys) c zs h =
    let rest : list_any (λ k. nat_eq k c) ks ≡ false = grind arith in
    ap (λ b. nat_eq k y && b) (starts_before ks ys c zs rest)

ended : (b : Bool) (i n : ℕ) → cond b (Some i) None ≡ Some n → b ≡ true
ended true i n h = refl
ended false i n h = cc

none_either : (b : Bool) (o u : Option ℕ) → b ≡ true → cond b None o ≡ cond b None u
none_either true o u h = refl
none_either false o u h = cc

later_by : (b : Bool) (i n : ℕ) (e o u : Option ℕ) → (e ≡ Some n → o ≡ u) → cond b (Some i) e ≡ Some n → cond b None o ≡ cond b None u
later_by true i n e o u f h = refl
later_by false i n e o u f h = f h

later_before : (f : List ℕ) (p : Place) (i n : ℕ) (ys : List ℕ) (c : ℕ) (zs : List ℕ) → list_any (λ k. nat_eq k c) f ≡ false
    → end_from p i (ys ++ c ∷ []) ≡ Some n → later_from f p i (ys ++ c ∷ zs) ≡ later_from f p i (ys ++ c ∷ [])
unfolding end_from later_from
later_before f p i n [] c zs off h =
    none_either (ends p c) (cond (separates p c && starts_with nat_eq zs f) (Some (i + 1 + length f)) (later_from f (after p c) (i + 1) zs))
    (cond (separates p c && starts_with nat_eq [] f) (Some (i + 1 + length f)) (later_from f (after p c) (i + 1) [])) (ended (ends p c) i n h)
later_before f p i n (y ∷ ys) c zs off h =
    let s = starts_with nat_eq (ys ++ c ∷ []) f in
    let o = later_from f (after p y) (i + 1) (ys ++ c ∷ zs) in
    let u = later_from f (after p y) (i + 1) (ys ++ c ∷ []) in
    later_by (ends p y) i n (end_from (after p y) (i + 1) (ys ++ c ∷ []))
    (cond (separates p y && starts_with nat_eq (ys ++ c ∷ zs) f) (Some (i + 1 + length f)) o)
    (cond (separates p y && s) (Some (i + 1 + length f)) u)
    (λ e. ap (λ t. cond (separates p y && t) (Some (i + 1 + length f)) o) (starts_before f ys c zs off)
    ∙ ap (λ t. cond (separates p y && s) (Some (i + 1 + length f)) t) (later_before f (after p y) (i + 1) n ys c zs off e))
    h

pub front_before : (f : List ℕ) (n : ℕ) (ys : List ℕ) (c : ℕ) (zs : List ℕ) → list_any (λ k. nat_eq k c) f ≡ false
    → end_from start 0 (ys ++ c ∷ []) ≡ Some n → front_end f (ys ++ c ∷ zs) ≡ front_end f (ys ++ c ∷ [])
front_before f n ys c zs off h =
    ap (λ t. cond t (Some (length f)) (later_from f start 0 (ys ++ c ∷ zs))) (starts_before f ys c zs off)
    ∙ ap (λ t. cond (starts_with nat_eq (ys ++ c ∷ []) f) (Some (length f)) t) (later_before f start 0 n ys c zs off h)

-- ---- one object stands at the front of a text

same_some : {X : Type 0} (m n : X) → Some m ≡ Some n → m ≡ n
same_some m n h = cc

inside_same : (a b r s : List ℕ) → end_from start 0 (a ++ 125 ∷ []) ≡ Some (length a) → end_from start 0 (b ++ 125 ∷ []) ≡ Some (length b)
    → (a ++ 125 ∷ []) ++ r ≡ (b ++ 125 ∷ []) ++ s → (a ++ 125 ∷ []) ≡ (b ++ 125 ∷ [])
inside_same a b r s ha hb e =
    let one = end-append start 0 (length a) (a ++ 125 ∷ []) r ha in
    let other = end-append start 0 (length b) (b ++ 125 ∷ []) s hb in
    let long : length a ≡ length b = same_some (length a) (length b) (sym one ∙ ap (end_from start 0) e ∙ other) in
    let la : length (a ++ 125 ∷ []) ≡ length a + 1 = length-append a (125 ∷ []) in
    let lb : length (b ++ 125 ∷ []) ≡ length a + 1 = length-append b (125 ∷ []) ∙ ap (λ n. n + 1) (sym long) in
    sym (take_at (a ++ 125 ∷ []) r (length a + 1) la) ∙ ap (take (length a + 1)) e ∙ take_at (b ++ 125 ∷ []) s (length a + 1) lb

tail_same : (x y : ℕ) (xs ys : List ℕ) → (x ∷ xs) ≡ (y ∷ ys) → xs ≡ ys
tail_same x y xs ys h = cc

pub one_object : (t u r s : List ℕ) → IsObject t → IsObject u → t ++ r ≡ u ++ s → t ≡ u
one_object t u r s one other e =
    let a = one.inside in
    let b = other.inside in
    let split : (123 ∷ ((a ++ 125 ∷ []) ++ r)) ≡ (123 ∷ ((b ++ 125 ∷ []) ++ s)) = sym (ap (λ w. w ++ r) one.text_is) ∙ e ∙ ap (λ w. w ++ s) other.text_is in
    one.text_is ∙ ap (λ w. 123 ∷ w) (inside_same a b r s one.whole other.whole (tail_same 123 123 ((a ++ 125 ∷ []) ++ r) ((b ++ 125 ∷ []) ++ s) split)) ∙ sym other.text_is

-- ---- the object at the front of a text that begins with a byte

members_of : (text members t rest : List ℕ) (first : ℕ) (obj : IsObject t) → text ≡ first ∷ members → text ≡ t ++ rest → members ≡ (obj.inside ++ 125 ∷ []) ++ rest
members_of text members t rest first obj split e =
    let both : (first ∷ members) ≡ (123 ∷ ((obj.inside ++ 125 ∷ []) ++ rest)) = sym split ∙ e ∙ ap (λ w. w ++ rest) obj.text_is in
    tail_same first 123 members ((obj.inside ++ 125 ∷ []) ++ rest) both

pub object_end : (text members t rest : List ℕ) (first : ℕ) (obj : IsObject t) → text ≡ first ∷ members → text ≡ t ++ rest → end_from start 0 members ≡ Some (length obj.inside)
object_end text members t rest first obj split e =
    ap (end_from start 0) (members_of text members t rest first obj split e) ∙ end-append start 0 (length obj.inside) (obj.inside ++ 125 ∷ []) rest obj.whole

none_some : {X : Type 0} (n : X) → None ≡ Some n → ⊥
none_some n h = cc

pub none_here : (text members t rest : List ℕ) (first : ℕ) → text ≡ first ∷ members → end_from start 0 members ≡ None → IsObject t → text ≡ t ++ rest → ⊥
none_here text members t rest first split none obj e = none_some (length obj.inside) (sym none ∙ object_end text members t rest first obj split e)

pub other_here : (text members t rest : List ℕ) (first n : ℕ) → text ≡ first ∷ members → end_from start 0 members ≡ Some n → get_or members n 0 ≢ 125 → IsObject t → text ≡ t ++ rest → ⊥
other_here text members t rest first n split found other obj e =
    let a = obj.inside in
    let same : n ≡ length a = same_some n (length a) (sym found ∙ object_end text members t rest first obj split e) in
    let cut_up : members ≡ a ++ 125 ∷ rest = members_of text members t rest first obj split e ∙ append_assoc a (125 ∷ []) rest in
    other (ap (λ m. get_or m n 0) cut_up ∙ get_or_at a 125 rest 0 n (sym same))

size_of : (n : ℕ) (xs : List ℕ) → end_from start 0 xs ≡ Some n → (n < length xs) × (end_from start 0 (take (n + 1) xs) ≡ Some n)
size_of n xs h =
    let found = cut start 0 n xs h in
    let same : found.size ≡ n = omega (arith, found.place) in
    let next : suc found.size ≡ n + 1 = omega (arith, same) in
    (omega (arith, found.within, same), ap (λ k. end_from start 0 (take k xs)) (sym next) ∙ found.whole)

taken : (n first : ℕ) (text members : List ℕ) → text ≡ first ∷ members → take (n + 2) text ≡ first ∷ take (n + 1) members
taken n first text members split =
    let more : n + 2 ≡ suc (n + 1) = omega arith in
    ap (take (n + 2)) split ∙ ap (λ k. take k (first ∷ members)) more

last_taken : (n : ℕ) (members : List ℕ) → n < length members → get_or members n 0 ≡ 125 → take (n + 1) members ≡ take n members ++ 125 ∷ []
last_taken n members lt last = take_more members n 0 lt ∙ ap (λ b. take n members ++ b ∷ []) last

pub object_here : (text members : List ℕ) (first n : ℕ) → text ≡ first ∷ members → first ≡ 123 → end_from start 0 members ≡ Some n → get_or members n 0 ≡ 125 → IsObject (take (n + 2) text)
object_here text members first n split is found last =
    let size = size_of n members found in
    let whole = last_taken n members size.0 last in
    let long : n ≡ length (take n members) = sym (length-take-le n members (let le : n ≤ length members = omega (arith, size.0) in le)) in
    record {
      inside = take n members;
      text_is = taken n first text members split ∙ ap (λ b. b ∷ take (n + 1) members) is ∙ ap (λ w. 123 ∷ w) whole;
      whole = ap (end_from start 0) (sym whole) ∙ size.1 ∙ ap Some long;
    }

pub front_here : (f text members : List ℕ) (first n : ℕ) → list_any (λ k. nat_eq k 125) f ≡ false → text ≡ first ∷ members → end_from start 0 members ≡ Some n → get_or members n 0 ≡ 125
    → front_end f members ≡ front_end f (drop 1 (take (n + 2) text))
front_here f text members first n free split found last =
    let size = size_of n members found in
    let whole = last_taken n members size.0 last in
    let ys = take n members in
    let zs = drop (n + 1) members in
    let all : members ≡ ys ++ 125 ∷ zs = sym (take-append-drop (n + 1) members) ∙ ap (λ w. w ++ zs) whole ∙ append_assoc ys (125 ∷ []) zs in
    let ended_at : end_from start 0 (ys ++ 125 ∷ []) ≡ Some n = ap (end_from start 0) (sym whole) ∙ size.1 in
    ap (front_end f) all ∙ front_before f n ys 125 zs free ended_at ∙ ap (front_end f) (sym whole) ∙ ap (λ w. front_end f (drop 1 w)) (sym (taken n first text members split))

-- Runs of white space and of other bytes, and words.
use Rattle.std.proofs.Common.{◌≡◌, ℕ, zero, suc, ◌+◌, ◌-◌, ◌<◌, ◌≤◌, List, [], ◌∷◌, ◌++◌, length, map, reverse, take, drop, get_or, Bool, true, false, not, ◌&&◌, Option, Some, None, if◌then◌else◌, refl, ap, sym, subst, ◌∙◌, arith, add-one, append_assoc, append-nil, length-take-le, length-drop, get_or-take}
use Rattle.std.specs.List.{list_all}
use Rattle.std.specs.Str.{IsUtf8, IsCharBoundary}
use Rattle.std.proofs.lemmas.Str.{IsCharBoundary-start, IsCharBoundary-after_ascii}
use Rattle.std.proofs.lemmas.Bool.Decides.{nat_tests}
use Rattle.std.proofs.lemmas.Bool.{and_from, and_parts, false≢true}
use Rattle.std.proofs.lemmas.List.{take-append-drop, reverse-append, reverse-reverse, length-reverse, length-append, get_or-reverse}
use Rattle.std.proofs.lemmas.List.Folds.{list_all_more, list_all-append}
use Rattle.std.proofs.Math.Seq.{drop-cons}
use Rattle.star_strings.specs.Texts.{may_cut, one_less}
use Rattle.star_strings.specs.Words.{is_space, mirrored, rwords, words, words_from}
use Rattle.star_strings.specs.Cuts.{ends_word, not_space, only, without_space, without_space_after}
use Rattle.star_strings.proofs.CuttingBack.{mirror_more}

-- ---- one byte more, or less
pub all_more : (p : ℕ → Bool) (t : List ℕ) (at : ℕ) → at < length t → list_all p (take at t) ≡ true → p (get_or t at 0) ≡ true → list_all p (take (at + 1) t) ≡ true
all_more p t at h k j = list_all_more p t at 0 h ∙ and_from (list_all p (take at t)) (p (get_or t at 0)) k j

pub all_less : (p : ℕ → Bool) (t : List ℕ) (at : ℕ) → 0 < at → at ≤ length t → list_all p (drop at t) ≡ true → p (get_or t (at - 1) 0) ≡ true → list_all p (drop (at - 1) t) ≡ true
all_less p t at a h k j =
    let n : suc (at - 1) ≡ at = omega arith in
    let e : drop (at - 1) t ≡ get_or t (at - 1) 0 ∷ drop at t = drop-cons t (at - 1) 0 (omega arith) ∙ ap (λ m. get_or t (at - 1) 0 ∷ drop m t) n in
    ap (list_all p) e ∙ and_from (p (get_or t (at - 1) 0)) (list_all p (drop at t)) j k

pub is_not_space : (b : ℕ) → is_space b ≡ false → not_space b ≡ true
is_not_space b h = ap not h

is_false : (b : Bool) → not b ≡ true → b ≡ false
is_false true h = cc
is_false false h = refl

pub pick_true : {A : Type 0} (b : Bool) (x y : A) → b ≡ true → (if b then x else y) ≡ x
pick_true true x y h = refl
pick_true false x y h = cc

pub pick_false : {A : Type 0} (b : Bool) (x y : A) → b ≡ false → (if b then x else y) ≡ y
pick_false true x y h = cc
pick_false false x y h = refl

-- ---- where white space may be cut
below : (b : ℕ) → is_space b ≡ true → b < 128
below b h = grind (arith, nat_tests)

space_at : (t : List ℕ) (n : ℕ) → suc n ≤ length t → list_all is_space (take (suc n) t) ≡ true → is_space (get_or t n 0) ≡ true
space_at t n w h =
    let o : n + 1 ≡ suc n = omega arith in
    let e : list_all is_space (take (n + 1) t) ≡ (list_all is_space (take n t) && is_space (get_or t n 0)) = list_all_more {X = ℕ} is_space t n 0 w in
    (and_parts (list_all is_space (take n t)) (is_space (get_or t n 0)) (sym e ∙ ap (λ k. list_all is_space (take k t)) o ∙ h)).1

pub after_space : (t : List ℕ) (n : ℕ) → IsUtf8 t → n ≤ length t → (0 < n → is_space (get_or t (n - 1) 0) ≡ true) → IsCharBoundary t n
after_space t zero u w f = IsCharBoundary-start t u
after_space t (suc n) u w f =
    let p : n + 1 ≡ suc n = omega arith in
    let o : n ≡ suc n - 1 = omega arith in
    subst (IsCharBoundary t) p (IsCharBoundary-after_ascii t n u w (below (get_or t n 0) (ap (λ k. is_space (get_or t k 0)) o ∙ f (omega arith))))

pub after_spaces : (t : List ℕ) (n : ℕ) → IsUtf8 t → n ≤ length t → list_all is_space (take n t) ≡ true → IsCharBoundary t n
after_spaces t zero u w h = IsCharBoundary-start t u
after_spaces t (suc n) u w h =
    let o : suc n - 1 ≡ n = omega arith in
    after_space t (suc n) u w (λ _. ap (λ k. is_space (get_or t k 0)) o ∙ space_at t n w h)

pub none : (t : List ℕ) → length t ≡ 0 → t ≡ []
none [] h = refl
none (b ∷ bs) h = absurd (omega (arith, h))

-- ---- white space at the front
space_off : (xs ys : List ℕ) → list_all is_space xs ≡ true → without_space (xs ++ ys) ≡ without_space ys
space_off [] ys h = refl
space_off (x ∷ xs) ys h =
    let p = and_parts (is_space x) (list_all is_space xs) h in
    pick_true (is_space x) (without_space (xs ++ ys)) (x ∷ (xs ++ ys)) p.0 ∙ space_off xs ys p.1

stays : (ys : List ℕ) → (0 < length ys → is_space (get_or ys 0 0) ≡ false) → without_space ys ≡ ys
stays [] f = refl
stays (y ∷ ys) f = pick_false (is_space y) (without_space ys) (y ∷ ys) (f (omega arith))

first_of_drop : (t : List ℕ) (n : ℕ) → n < length t → get_or (drop n t) 0 0 ≡ get_or t n 0
first_of_drop t n h = ap (λ z. get_or z 0 0) (drop-cons t n 0 h)

pub front_gone : (t : List ℕ) (n : ℕ) → n ≤ length t → list_all is_space (take n t) ≡ true → (n < length t → is_space (get_or t n 0) ≡ false) → drop n t ≡ without_space t
front_gone t n w h f =
    sym (stays (drop n t) (λ l. let m : n < length t = omega (arith, l, length-drop n t) in ap is_space (first_of_drop t n m) ∙ f m))
    ∙ sym (space_off (take n t) (drop n t) h) ∙ ap without_space (take-append-drop n t)

longer_if : (e : Bool) (b : ℕ) (xs bs : List ℕ) → length xs ≤ length bs → length (if e then xs else b ∷ bs) ≤ suc (length bs)
longer_if true b xs bs h = omega arith
longer_if false b xs bs h = omega arith

not_longer : (t : List ℕ) → length (without_space t) ≤ length t
not_longer [] = omega arith
not_longer (b ∷ bs) = longer_if (is_space b) b (without_space bs) bs (not_longer bs)

-- ---- the first word
skip_if : (left : Option ℕ) (b : ℕ) (bs : List ℕ) (e : Bool) → is_space b ≡ e → words_from left None bs ≡ words_from left None (without_space bs) → words_from left None (b ∷ bs) ≡ words_from left None (if e then without_space bs else b ∷ bs)
skip_if left b bs true h f = pick_true (is_space b) (words_from left None bs) _ h ∙ f
skip_if left b bs false h f = refl

skip : (left : Option ℕ) (t : List ℕ) → words_from left None t ≡ words_from left None (without_space t)
skip left [] = refl
skip left (b ∷ bs) = skip_if left b bs (is_space b) refl (skip left bs)

run : (left : Option ℕ) (w xs ys : List ℕ) → list_all not_space xs ≡ true → words_from left (Some w) (xs ++ ys) ≡ words_from left (Some (w ++ xs)) ys
run left w [] ys h = ap (λ z. words_from left (Some z) ys) (sym (append-nil w))
run left w (x ∷ xs) ys h =
    let p = and_parts (not_space x) (list_all not_space xs) h in
    pick_false (is_space x) (w ∷ words_from (one_less left) None (xs ++ ys)) (words_from left (Some (w ++ x ∷ [])) (xs ++ ys)) (is_false (is_space x) p.0)
    ∙ run left (w ++ x ∷ []) xs ys p.1 ∙ ap (λ z. words_from left (Some z) ys) (append_assoc w (x ∷ []) xs)

stop : (left : Option ℕ) (w ys : List ℕ) → ends_word ys ≡ true → words_from left (Some w) ys ≡ w ∷ words_from (one_less left) None ys
stop left w [] h = refl
stop left w (b ∷ bs) h =
    pick_true (is_space b) (w ∷ words_from (one_less left) None bs) (words_from left (Some (w ++ b ∷ [])) bs) h
    ∙ ap (λ z. w ∷ z) (sym (pick_true (is_space b) (words_from (one_less left) None bs) _ h))

whole_word : (left : Option ℕ) (w ys : List ℕ) → 0 < length w → may_cut left ≡ true → list_all not_space w ≡ true → ends_word ys ≡ true → words_from left None (w ++ ys) ≡ w ∷ words_from (one_less left) None ys
whole_word left [] ys l m h k = absurd (omega arith)
whole_word left (x ∷ xs) ys l m h k =
    let p = and_parts (not_space x) (list_all not_space xs) h in
    pick_false (is_space x) (words_from left None (xs ++ ys)) _ (is_false (is_space x) p.0)
    ∙ pick_true (may_cut left) (words_from left (Some (x ∷ [])) (xs ++ ys)) ((x ∷ (xs ++ ys)) ∷ []) m
    ∙ run left (x ∷ []) xs ys p.1 ∙ stop left (x ∷ xs) ys k

head_if : (b : ℕ) (bs : List ℕ) (e : Bool) → is_space b ≡ e → (ends_word (without_space bs) ≡ true → without_space bs ≡ []) → ends_word (if e then without_space bs else b ∷ bs) ≡ true → (if e then without_space bs else b ∷ bs) ≡ []
head_if b bs true h f k = f k
head_if b bs false h f k = absurd (false≢true (sym h ∙ k))

no_head : (t : List ℕ) → ends_word (without_space t) ≡ true → without_space t ≡ []
no_head [] h = refl
no_head (b ∷ bs) h = head_if b bs (is_space b) refl (no_head bs) h

has_word : (t w ys : List ℕ) → 0 < length (without_space t) → w ++ ys ≡ without_space t → ends_word ys ≡ true → 0 < length w
has_word t [] ys l e k =
    let gone : without_space t ≡ [] = no_head t (ap ends_word (sym e) ∙ k) in
    let none : length (without_space t) ≡ 0 = ap length gone in
    absurd (omega (arith, l, none))
has_word t (x ∷ xs) ys l e k = omega arith

pub one_word : (left : Option ℕ) (t w ys : List ℕ) → 0 < length (without_space t) → may_cut left ≡ true → list_all not_space w ≡ true → ends_word ys ≡ true → w ++ ys ≡ without_space t → (words left t ≡ w ∷ words (one_less left) ys) × (length ys < length t)
one_word left t w ys l m h k e =
    let n = has_word t w ys l e k in
    let a : length w + length ys ≡ length (without_space t) = sym (length-append w ys) ∙ ap length e in
    let b = not_longer t in
    (skip left t ∙ ap (words_from left None) (sym e) ∙ whole_word left w ys n m h k, omega (arith, n, a, b))

pub no_word : (left : Option ℕ) (t : List ℕ) → without_space t ≡ [] → words left t ≡ only (without_space t)
no_word left t h = skip left t ∙ ap (words_from left None) h ∙ ap only (sym h)

rest_if : (left : Option ℕ) (b : ℕ) (bs : List ℕ) (e : Bool) → is_space b ≡ e → may_cut left ≡ false → words_from left None (without_space bs) ≡ only (without_space bs) → words_from left None (if e then without_space bs else b ∷ bs) ≡ only (if e then without_space bs else b ∷ bs)
rest_if left b bs true h m f = f
rest_if left b bs false h m f =
    pick_false (is_space b) (words_from left None bs) _ h ∙ pick_false (may_cut left) (words_from left (Some (b ∷ [])) bs) ((b ∷ bs) ∷ []) m

rest_only : (left : Option ℕ) (t : List ℕ) → may_cut left ≡ false → words_from left None (without_space t) ≡ only (without_space t)
rest_only left [] m = refl
rest_only left (b ∷ bs) m = rest_if left b bs (is_space b) refl m (rest_only left bs m)

pub no_word_left : (left : Option ℕ) (t : List ℕ) → may_cut left ≡ false → words left t ≡ only (without_space t)
no_word_left left t m = skip left t ∙ rest_only left t m

-- a part, if it has bytes
pub only_some : (xs : List (List ℕ)) (t : List ℕ) → 0 < length t → xs ++ t ∷ [] ≡ xs ++ only t
only_some xs [] h = absurd (omega arith)
only_some xs (b ∷ bs) h = refl

pub only_none : (xs : List (List ℕ)) (t : List ℕ) → t ≡ [] → xs ≡ xs ++ only t
only_none xs [] h = sym (append-nil xs)
only_none xs (b ∷ bs) h = cc

-- ---- in the mirror
all_back : (p : ℕ → Bool) (t : List ℕ) → list_all p t ≡ true → list_all p (reverse t) ≡ true
all_back p [] h = refl
all_back p (b ∷ bs) h =
    let q = and_parts (p b) (list_all p bs) h in
    ap (list_all p) (reverse-append (b ∷ []) bs) ∙ list_all-append p (reverse bs) (b ∷ [])
    ∙ and_from (list_all p (reverse bs)) (list_all p (b ∷ [])) (all_back p bs q.1) (and_from (p b) true q.0 refl)

last_first : (t : List ℕ) (n : ℕ) → 0 < n → n ≤ length t → get_or (reverse (take n t)) 0 0 ≡ get_or t (n - 1) 0
last_first t n a w =
    let l : length (take n t) ≡ n = length-take-le n t w in
    let i : length (take n t) - 1 - 0 ≡ n - 1 = omega (arith, l) in
    get_or-reverse (take n t) 0 0 (omega (arith, l, a)) ∙ ap (λ k. get_or (take n t) k 0) i ∙ get_or-take n t (n - 1) 0 (omega arith)

pub end_gone : (t : List ℕ) (n : ℕ) → n ≤ length t → list_all is_space (drop n t) ≡ true → (0 < n → is_space (get_or t (n - 1) 0) ≡ false) → take n t ≡ without_space_after t
end_gone t n w h f =
    let l : length (take n t) ≡ n = length-take-le n t w in
    let ys = reverse (take n t) in
    let e : reverse t ≡ reverse (drop n t) ++ ys = ap reverse (sym (take-append-drop n t)) ∙ reverse-append (take n t) (drop n t) in
    let s : without_space ys ≡ ys = stays ys (λ m. let p : 0 < n = omega (arith, m, l, length-reverse (take n t)) in ap is_space (last_first t n p w) ∙ f p) in
    sym (reverse-reverse (take n t)) ∙ ap reverse (sym s) ∙ ap reverse (sym (space_off (reverse (drop n t)) ys (all_back is_space (drop n t) h))) ∙ ap (λ z. reverse (without_space z)) (sym e)

ends_at : (ys : List ℕ) → (0 < length ys → is_space (get_or ys 0 0) ≡ true) → ends_word ys ≡ true
ends_at [] h = refl
ends_at (y ∷ ys) h = h (omega arith)

pub word_before : (t : List ℕ) (n : ℕ) → n ≤ length t → (0 < n → is_space (get_or t (n - 1) 0) ≡ true) → ends_word (reverse (take n t)) ≡ true
word_before t zero w f = refl
word_before t (suc n) w f =
    ends_at (reverse (take (suc n) t)) (λ l. ap is_space (last_first t (suc n) (omega arith) w) ∙ f (omega arith))

pub word_after : (t : List ℕ) (n : ℕ) → n ≤ length t → (n < length t → is_space (get_or t n 0) ≡ true) → ends_word (drop n t) ≡ true
word_after t n w f = ends_at (drop n t) (λ l. let m : n < length t = omega (arith, l, length-drop n t) in ap is_space (first_of_drop t n m) ∙ f m)

front_of_back : (t : List ℕ) → reverse (without_space_after t) ≡ without_space (reverse t)
front_of_back t = reverse-reverse (without_space (reverse t))

pub one_word_back : (left : Option ℕ) (t ys w : List ℕ) → 0 < length (without_space_after t) → may_cut left ≡ true → list_all not_space w ≡ true → ends_word (reverse ys) ≡ true → ys ++ w ≡ without_space_after t → (rwords left t ≡ rwords (one_less left) ys ++ w ∷ []) × (length ys < length t)
one_word_back left t ys w l m h k e =
    let r : reverse w ++ reverse ys ≡ without_space (reverse t) = sym (reverse-append ys w) ∙ ap reverse e ∙ front_of_back t in
    let n : 0 < length (without_space (reverse t)) = omega (arith, l, length-reverse (without_space (reverse t))) in
    let q = one_word left (reverse t) (reverse w) (reverse ys) n m (all_back not_space w h) k r in
    (ap (λ z. reverse (map reverse z)) q.0 ∙ mirror_more w (words (one_less left) (reverse ys)), omega (arith, q.1, length-reverse ys, length-reverse t))

only_turned : (t : List ℕ) → reverse (map reverse (only t)) ≡ only (reverse t)
only_turned [] = refl
only_turned (b ∷ bs) =
    let l : 0 < length (reverse (b ∷ bs)) = omega (arith, length-reverse (b ∷ bs)) in
    only_some [] (reverse (b ∷ bs)) l

pub no_word_back : (left : Option ℕ) (t : List ℕ) → without_space_after t ≡ [] → rwords left t ≡ only (without_space_after t)
no_word_back left t h =
    let e : without_space (reverse t) ≡ [] = sym (front_of_back t) ∙ ap reverse h in
    ap (λ z. reverse (map reverse z)) (no_word left (reverse t) e) ∙ only_turned (without_space (reverse t))

pub no_word_left_back : (left : Option ℕ) (t : List ℕ) → may_cut left ≡ false → rwords left t ≡ only (without_space_after t)
no_word_left_back left t m = ap (λ z. reverse (map reverse z)) (no_word_left left (reverse t) m) ∙ only_turned (without_space (reverse t))

pub only_back : (t : List ℕ) (xs : List (List ℕ)) → only t ++ reverse xs ≡ reverse (xs ++ only t)
only_back [] xs = ap reverse (sym (append-nil xs))
only_back (b ∷ bs) xs = sym (reverse-append xs ((b ∷ bs) ∷ []))

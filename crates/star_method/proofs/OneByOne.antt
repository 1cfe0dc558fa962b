-- The characters of a string, from either end.
use Rattle.std.proofs.Common.{◌≡◌, ℕ, zero, suc, ◌+◌, ◌-◌, ◌<◌, ◌≤◌, List, [], ◌∷◌, ◌++◌, length, take, drop, get_or, reverse, Bool, true, false, if◌then◌else◌, add-one, refl, ap, sym, ◌∙◌, arith, append-nil}
use Rattle.std.specs.List.{list_all, concat}
use Rattle.std.specs.Str.{IsUtf8, IsCharBoundary}
use Rattle.std.proofs.lemmas.Bool.{and_from, and_parts}
use Rattle.std.proofs.lemmas.Bool.Decides.{nat_tests}
use Rattle.std.proofs.lemmas.Str.{IsCharBoundary-start}
use Rattle.std.proofs.Math.Seq.{drop-cons}
use Rattle.std.proofs.lemmas.List.{take-append-drop, reverse-append, reverse-reverse}
use Rattle.std.proofs.lemmas.List.Folds.{list_all_more}
use Rattle.star_meaning.specs.Texts.{goes_on, begins_inside, led_by, characters, without_front, without_end}

pub all_more : (t : List ℕ) (at : ℕ) → at < length t → list_all goes_on (take at t) ≡ true → goes_on (get_or t at 0) ≡ true → list_all goes_on (take (at + 1) t) ≡ true
all_more t at h k j = list_all_more goes_on t at 0 h ∙ and_from (list_all goes_on (take at t)) (goes_on (get_or t at 0)) k j

-- a byte before characters; the first has its beginning
led_whole : (b : ℕ) (g : List ℕ) (gs : List (List ℕ)) → begins_inside g ≡ false → led_by b (g ∷ gs) ≡ (b ∷ []) ∷ g ∷ gs
led_whole b g gs h = rw h refl

led_inside : (b : ℕ) (g : List ℕ) (gs : List (List ℕ)) → begins_inside g ≡ true → led_by b (g ∷ gs) ≡ (b ∷ g) ∷ gs
led_inside b g gs h = rw h refl

led_twice_if : (b c : ℕ) (g : List ℕ) (gs : List (List ℕ)) (e : Bool) → goes_on c ≡ false → led_by b (if e then (c ∷ g) ∷ gs else (c ∷ []) ∷ g ∷ gs) ≡ (b ∷ []) ∷ (if e then (c ∷ g) ∷ gs else (c ∷ []) ∷ g ∷ gs)
led_twice_if b c g gs true h = led_whole b (c ∷ g) gs h
led_twice_if b c g gs false h = led_whole b (c ∷ []) (g ∷ gs) h

led_twice : (b c : ℕ) (x : List (List ℕ)) → goes_on c ≡ false → led_by b (led_by c x) ≡ (b ∷ []) ∷ led_by c x
led_twice b c [] h = led_whole b (c ∷ []) [] h
led_twice b c (g ∷ gs) h = led_twice_if b c g gs (begins_inside g) h

led_rest : (b : ℕ) (rest : List ℕ) → begins_inside rest ≡ false → led_by b (characters rest) ≡ (b ∷ []) ∷ characters rest
led_rest b [] h = refl
led_rest b (c ∷ cs) h = led_twice b c (characters cs) h

-- the first character ends where the next one begins
whole_first : (b : ℕ) (ks rest : List ℕ) → list_all goes_on ks ≡ true → begins_inside rest ≡ false → characters (b ∷ (ks ++ rest)) ≡ (b ∷ ks) ∷ characters rest
whole_first b [] rest h j = led_rest b rest j
whole_first b (k ∷ ks) rest h j =
    let all = and_parts (goes_on k) (list_all goes_on ks) h in
    ap (led_by b) (whole_first k ks rest all.1 j) ∙ led_inside b (k ∷ ks) (characters rest) all.0

-- characters side by side
front_if : (b : ℕ) (g : List ℕ) (gs ys : List (List ℕ)) (e : Bool) → (if e then (b ∷ g) ∷ (gs ++ ys) else (b ∷ []) ∷ g ∷ (gs ++ ys)) ≡ (if e then (b ∷ g) ∷ gs else (b ∷ []) ∷ g ∷ gs) ++ ys
front_if b g gs ys true = refl
front_if b g gs ys false = refl

led_front : (b : ℕ) (g : List ℕ) (gs ys : List (List ℕ)) → led_by b (g ∷ (gs ++ ys)) ≡ led_by b (g ∷ gs) ++ ys
led_front b g gs ys = front_if b g gs ys (begins_inside g)

append_if : (b c : ℕ) (g : List ℕ) (gs ys : List (List ℕ)) (e : Bool) → led_by b ((if e then (c ∷ g) ∷ gs else (c ∷ []) ∷ g ∷ gs) ++ ys) ≡ led_by b (if e then (c ∷ g) ∷ gs else (c ∷ []) ∷ g ∷ gs) ++ ys
append_if b c g gs ys true = led_front b (c ∷ g) gs ys
append_if b c g gs ys false = led_front b (c ∷ []) (g ∷ gs) ys

led_append : (b c : ℕ) (x ys : List (List ℕ)) → led_by b (led_by c x ++ ys) ≡ led_by b (led_by c x) ++ ys
led_append b c [] ys = led_front b (c ∷ []) [] ys
led_append b c (g ∷ gs) ys = append_if b c g gs ys (begins_inside g)

characters_append : (xs ys : List ℕ) → begins_inside ys ≡ false → characters (xs ++ ys) ≡ characters xs ++ characters ys
characters_append [] ys h = refl
characters_append (x ∷ []) ys h = led_rest x ys h
characters_append (x ∷ y ∷ xs) ys h = ap (led_by x) (characters_append (y ∷ xs) ys h) ∙ led_append x y (characters xs) (characters ys)

whole_one : (b : ℕ) (ks : List ℕ) → list_all goes_on ks ≡ true → characters (b ∷ ks) ≡ (b ∷ ks) ∷ []
whole_one b ks h = ap (λ z. characters (b ∷ z)) (sym (append-nil ks)) ∙ whole_first b ks [] h refl

begins_at : (t : List ℕ) (i : ℕ) → (i < length t → goes_on (get_or t i 0) ≡ false) → begins_inside (drop i t) ≡ false
begins_at [] zero f = refl
begins_at [] (suc i) f = refl
begins_at (b ∷ bs) zero f = f (omega arith)
begins_at (b ∷ bs) (suc i) f = begins_at bs i (λ h. f (omega arith))

first_ends : (t : List ℕ) (n : ℕ) → 0 < length t → list_all goes_on (take n (drop 1 t)) ≡ true → (n < length (drop 1 t) → goes_on (get_or (drop 1 t) n 0) ≡ false) → characters t ≡ take (suc n) t ∷ characters (drop (suc n) t)
first_ends [] n l h f = absurd (omega arith)
first_ends (b ∷ bs) n l h f = ap (λ z. characters (b ∷ z)) (sym (take-append-drop n bs)) ∙ whole_first b (take n bs) (drop n bs) h (begins_at bs n f)

pub first_is : (t : List ℕ) (n : ℕ) → 0 < length t → list_all goes_on (take n (drop 1 t)) ≡ true → (n < length (drop 1 t) → goes_on (get_or (drop 1 t) n 0) ≡ false) → characters t ≡ take (n + 1) t ∷ characters (drop (n + 1) t)
first_is t n l h f = rw add-one (first_ends t n l h f)

take_whole : (t : List ℕ) → take (length t) t ≡ t
take_whole [] = refl
take_whole (b ∷ bs) = ap (λ z. b ∷ z) (take_whole bs)

one_off : (n : ℕ) → suc n - 1 ≡ n
one_off n = omega arith

pub rest_whole : (t : List ℕ) → take (length t - 1) (drop 1 t) ≡ drop 1 t
rest_whole [] = refl
rest_whole (b ∷ bs) = ap (λ n. take n bs) (one_off (length bs)) ∙ take_whole bs

whole_from : (t : List ℕ) (i : ℕ) → i < length t → list_all goes_on (drop (i + 1) t) ≡ true → characters (drop i t) ≡ drop i t ∷ []
whole_from t i l h =
    let e : drop i t ≡ get_or t i 0 ∷ drop (i + 1) t = rw add-one (drop-cons t i 0 l) in
    ap characters e ∙ whole_one (get_or t i 0) (drop (i + 1) t) h ∙ ap (λ z. z ∷ []) (sym e)

last_turn : (t : List ℕ) (i : ℕ) → i < length t → list_all goes_on (drop (i + 1) t) ≡ true → begins_inside (drop i t) ≡ false → characters t ≡ characters (take i t) ++ drop i t ∷ []
last_turn t i l h j = ap characters (sym (take-append-drop i t)) ∙ characters_append (take i t) (drop i t) j ∙ ap (λ z. characters (take i t) ++ z) (whole_from t i l h)

pub last_is : (t : List ℕ) (i : ℕ) → i < length t → list_all goes_on (drop (i + 1) t) ≡ true → (0 < i → goes_on (get_or t i 0) ≡ false) → characters t ≡ characters (take i t) ++ drop i t ∷ []
last_is t zero l h f = whole_from t 0 l h
last_is t (suc i) l h f = last_turn t (suc i) l h (begins_at t (suc i) (λ _. f (omega arith)))

-- all characters make up the string again
joined_if : (b : ℕ) (g : List ℕ) (gs : List (List ℕ)) (e : Bool) → concat (if e then (b ∷ g) ∷ gs else (b ∷ []) ∷ g ∷ gs) ≡ b ∷ concat (g ∷ gs)
joined_if b g gs true = refl
joined_if b g gs false = refl

joined_led : (b : ℕ) (x : List (List ℕ)) → concat (led_by b x) ≡ b ∷ concat x
joined_led b [] = refl
joined_led b (g ∷ gs) = joined_if b g gs (begins_inside g)

pub joined_whole : (t : List ℕ) → concat (characters t) ≡ t
joined_whole [] = refl
joined_whole (b ∷ bs) = joined_led b (characters bs) ∙ ap (λ z. b ∷ z) (joined_whole bs)

-- a character at the end stays or goes
stays_if : (test : List ℕ → Bool) (c : List ℕ) (cs : List (List ℕ)) (e : Bool) → test c ≡ e → without_front test (c ∷ cs) ≡ (if e then without_front test cs else c ∷ cs)
stays_if test c cs e h = ap (λ k. if k then without_front test cs else c ∷ cs) h

turned : (c : List ℕ) (cs : List (List ℕ)) → reverse (cs ++ c ∷ []) ≡ c ∷ reverse cs
turned c cs = reverse-append cs (c ∷ [])

pub end_goes : (test : List ℕ → Bool) (c : List ℕ) (cs : List (List ℕ)) → test c ≡ true → without_end test (cs ++ c ∷ []) ≡ without_end test cs
end_goes test c cs h = ap (λ z. reverse (without_front test z)) (turned c cs) ∙ ap reverse (stays_if test c (reverse cs) true h)

pub end_stays : (test : List ℕ → Bool) (c : List ℕ) (cs : List (List ℕ)) → test c ≡ false → without_end test (cs ++ c ∷ []) ≡ cs ++ c ∷ []
end_stays test c cs h = ap (λ z. reverse (without_front test z)) (turned c cs) ∙ ap reverse (stays_if test c (reverse cs) false h ∙ sym (turned c cs)) ∙ reverse-reverse (cs ++ c ∷ [])

pub front_stays : (test : List ℕ → Bool) (c : List ℕ) (cs : List (List ℕ)) → test c ≡ false → without_front test (c ∷ cs) ≡ c ∷ cs
front_stays test c cs h = stays_if test c cs false h

-- a string may be cut where its last character begins
plain_byte : (b : ℕ) → goes_on b ≡ false → 128 ≤ b → 192 ≤ b
plain_byte b h k = grind (arith, nat_tests)

pub last_boundary : (t : List ℕ) (i : ℕ) → IsUtf8 t → i < length t → (0 < i → goes_on (get_or t i 0) ≡ false) → IsCharBoundary t i
last_boundary t zero u l f = IsCharBoundary-start t u
last_boundary t (suc i) u l f = (omega arith, λ a b. plain_byte (get_or t (suc i) 0) (f (omega arith)) b)

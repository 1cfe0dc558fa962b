-- Seats that came back from the loaders.
use Rattle.std.proofs.Common.{◌≡◌, ◌<◌, ◌++◌, ℕ, List, [], ◌∷◌, length, map, take, get_or, slice_index_or, ap, arith, refl, suc, sym, ◌∙◌}
use Rattle.std.proofs.lemmas.List.{get_or_default, get_or-map, length-map, take-append-le, take_all}
use Rattle.std.specs.List.{Any}
use Rattle.star_cache.specs.Seats.{SeatState, AreAll, AreNew}

-- seats that came back from the loaders, each at its index, are all the seats
pub seats_back : {W : Type 0} (n : ℕ) (before : List SeatState) (ws : List W) (f : W → SeatState) (w : W) → AreNew n before → length ws ≡ n → ((i : ℕ) (d : W) (e : SeatState) → i < n → (f (get_or ws i d)).number ≡ (get_or before i e).number) → AreAll n (map f ws)
seats_back n before ws f w row len each =
    let s : SeatState = record { number = 0; begun = 0 } in
    let m : length (map f ws) ≡ n = length-map ws f ∙ len in (
      m,
      λ k h.
          let inside : k < length (map f ws) = omega (arith, h, m) in
          let there : k < length ws = omega (arith, h, len) in (
            k,
            get_or (map f ws) k s,
            inside,
            get_or_default (map f ws) k (get_or (map f ws) k s) s inside,
            ap (λ (t : SeatState). t.number) (get_or-map f ws k w s there) ∙ (each k w s h ∙ (row.1 k s h).0),
          ),
    )

-- seats that came back are all the seats if each has the number of the seat that was handed out
pub all_back : {W : Type 0} (n : ℕ) (before : List SeatState) (ws : List W) (f : W → SeatState) (w : W) → AreNew n before → map (λ x. (f x).number) ws ≡ map (λ (s : SeatState). s.number) before → AreAll n (map f ws)
all_back n before ws f w row same =
    let len : length ws ≡ length before = sym (length-map ws (λ x. (f x).number)) ∙ ap length same ∙ length-map before (λ (s : SeatState). s.number) in
    let all : length ws ≡ n = len ∙ row.0 in
    seats_back n before ws f w row all (λ i d e h.
    let here : i < length ws = omega (arith, h, all) in
    let there : i < length before = omega (arith, h, row.0) in
    sym (get_or-map (λ x. (f x).number) ws i d 0 here) ∙ ap (λ ns. get_or ns i 0) same ∙ get_or-map (λ (s : SeatState). s.number) before i e 0 there)

-- a row has the same numbers after as before if it does at each index
pub numbers_kept : {A : Type 0} (f : A → ℕ) (xs ys : List A) → length ys ≡ length xs → ((i : ℕ) (d : A) → i < length xs → f (slice_index_or ys i d) ≡ f (slice_index_or xs i d)) → map f ys ≡ map f xs
numbers_kept f [] [] len each = refl
numbers_kept f [] (y ∷ ys) len each = absurd (omega arith)
numbers_kept f (x ∷ xs) [] len each = absurd (omega arith)
numbers_kept f (x ∷ xs) (y ∷ ys) len each =
    let here : f y ≡ f x = each 0 y (omega arith) in
    let rest : map f ys ≡ map f xs = numbers_kept f xs ys (omega arith) (λ i d k. each (suc i) d (omega (arith, k))) in
    cc

-- a row that was lent as a slice and came back
pub written_back : {A : Type 0} (n : ℕ) (now rest : List A) → length now ≡ n → take n (now ++ rest) ≡ now
written_back n now rest len = take-append-le n now rest (omega (arith, len)) ∙ take_all n now (omega (arith, len))

number_there : (xs ys : List SeatState) (k : ℕ) → length ys ≡ length xs → map (λ (s : SeatState). s.number) ys ≡ map (λ (s : SeatState). s.number) xs → Any (λ (s : SeatState). s.number ≡ k) xs → Any (λ (s : SeatState). s.number ≡ k) ys
number_there xs ys k len same (i, x, inside, there, is) =
    let s : SeatState = record { number = 0; begun = 0 } in
    let here : i < length ys = omega (arith, inside, len) in (
      i,
      get_or ys i s,
      here,
      get_or_default ys i (get_or ys i s) s here,
      sym (get_or-map (λ (t : SeatState). t.number) ys i s 0 here) ∙ (ap (λ ns. get_or ns i 0) same ∙ (get_or-map (λ (t : SeatState). t.number) xs i x 0 inside ∙ (ap (λ (t : SeatState). t.number) there ∙ is))),
    )

-- seats with the numbers of all the seats are all of them
pub same_all : (n : ℕ) (xs ys : List SeatState) → map (λ (s : SeatState). s.number) ys ≡ map (λ (s : SeatState). s.number) xs → AreAll n xs → AreAll n ys
same_all n xs ys same all =
    let len : length ys ≡ length xs = sym (length-map ys (λ (s : SeatState). s.number)) ∙ (ap length same ∙ length-map xs (λ (s : SeatState). s.number)) in (
      len ∙ all.0,
      λ k h. number_there xs ys k len same (all.1 k h),
    )

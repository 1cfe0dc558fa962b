-- Stores in blocks.
use Rattle.std.proofs.Common.{◌≡◌, ◌+◌, ◌<◌, ◌≤◌, ◌⊎◌, inl, inr, ◌∙◌, ℕ, zero, suc, List, [], ◌∷◌, ◌++◌, length, get_or, Option, Some, None, ap, sym, subst, arith}
use denote.Ref.{Bor}
use Rattle.std.specs.Arc.{arc_value}
use Rattle.std.specs.Option.{option_copied}
use Rattle.std.specs.Prelude.{◌↔◌, All, Contains, IfSome, slice_get, take}
use Rattle.std.specs.declared.sync.Arc.{Arc}
use Rattle.std.proofs.lemmas.List.{append-nil, append_assoc, get_or_default, map_more, take_all, take_more}
use Rattle.std.proofs.lemmas.List.Elements.{All-append, Contains-append_left, Contains-append_right, Contains-push, Contains-push_cases}
use Rattle.std.proofs.lemmas.Option.{get_or_from_slice_get, slice_get_within}
use Rattle.star_outcome.specs.Gathered.{IsListed}
use Rattle.star_outcome.specs.Numbers.{AreNumbersOf, Has, HasAmong}
use Rattle.star_outcome.specs.Reaches.{ReachView, shared_of}
use Rattle.star_outcome.specs.declared.numbers.NumberWord.{NumberWord}
use Rattle.star_reading.proofs.Finds.{by_cases, same_or_not}
use Rattle.star_outcome.proofs.Bits.{has_none}
use Rattle.star_outcome.proofs.Stores.{all_listed, back_of, front_of, numbers, of_number}

-- an item at a place
pub item_at : {A : Type 0} (xs : List A) (i : ℕ) (x : A) → slice_get xs i ≡ Some x → Contains xs x
item_at xs i x at = (i, slice_get_within xs i x at, get_or_from_slice_get xs i x x at)

abbrev pub block_stores : {Z : Type 0} → Arc (List ReachView) Z → List ReachView
block_stores b = arc_value b

module _ {Z : Type 0} where
  -- the stores of blocks and one more block
  pub shared_last : (bs : List (Arc (List ReachView) Z)) (b : Arc (List ReachView) Z) → shared_of (bs ++ b ∷ []) ≡ shared_of bs ++ block_stores b
  shared_last [] b = append-nil (block_stores b)
  shared_last (c ∷ bs) b = ap (λ rs. block_stores c ++ rs) (shared_last bs b) ∙ sym (append_assoc (block_stores c) (shared_of bs) (block_stores b))

  pub shared_more : (bs : List (Arc (List ReachView) Z)) (i : ℕ) (b : Arc (List ReachView) Z) → i < length bs → b ≡ get_or bs i b → shared_of (take (i + 1) bs) ≡ shared_of (take i bs) ++ block_stores b
  shared_more bs i b inside is =
      ap shared_of (take_more bs i b inside)
      ∙ (shared_last (take i bs) (get_or bs i b) ∙ ap (λ x. shared_of (take i bs) ++ block_stores x) (sym is))

  -- the same, for copies of the blocks with the same stores
  pub shared_push : (bs shared : List (Arc (List ReachView) Z)) (i : ℕ) (b c : Arc (List ReachView) Z) → i < length bs → b ≡ get_or bs i b → arc_value c ≡ arc_value b → shared_of shared ≡ shared_of (take i bs) → shared_of (shared ++ c ∷ []) ≡ shared_of (take (i + 1) bs)
  shared_push bs shared i b c inside is same before =
      shared_last shared c
      ∙ (ap (λ rs. rs ++ block_stores c) before
      ∙ (ap (λ v. shared_of (take i bs) ++ v) same ∙ sym (shared_more bs i b inside is)))

  -- a store of a block is one of all stores
  pub in_blocks : (bs : List (Arc (List ReachView) Z)) (i : ℕ) (b : Arc (List ReachView) Z) (r : ReachView) → slice_get bs i ≡ Some b → Contains (block_stores b) r → Contains (shared_of bs) r
  in_blocks [] i b r at there = absurd (let no : ⊥ = cc in no)
  in_blocks (c ∷ bs) zero b r at there = let same : b ≡ c = cc in Contains-append_left (block_stores c) (shared_of bs) r (subst (λ x. Contains (block_stores x) r) same there)
  in_blocks (c ∷ bs) (suc i) b r at there = Contains-append_right (block_stores c) (shared_of bs) r (in_blocks bs i b r at there)

  -- so is the one at a place of a block
  pub last_listed : (bs : List (Arc (List ReachView) Z)) (i j : ℕ) (b : Arc (List ReachView) Z) (o : Option (Bor ReachView)) → slice_get bs i ≡ Some b → option_copied o ≡ slice_get (block_stores b) j → IfSome o (λ r. Contains (shared_of bs) r.now)
  last_listed bs i j b None at e = tt
  last_listed bs i j b (Some r) at e = in_blocks bs i b r.now at (item_at (block_stores b) j r.now (sym e))

  -- a property of all stores is one of the stores of each block
  pub of_block : (P : ReachView → Type 0) (bs : List (Arc (List ReachView) Z)) (i : ℕ) (b : Arc (List ReachView) Z) → i < length bs → b ≡ get_or bs i b → All P (shared_of bs) → All P (block_stores b)
  of_block P [] i b inside is all = absurd (omega (arith, inside))
  of_block P (c ∷ bs) zero b inside is all = subst (λ x. All P (block_stores x)) (sym is) (front_of P (block_stores c) (shared_of bs) all)
  of_block P (c ∷ bs) (suc i) b inside is all = of_block P bs i b (omega (arith, inside)) is (back_of P (block_stores c) (shared_of bs) all)

  -- a property of the stores of each block is one of all stores
  pub of_blocks : (P : ReachView → Type 0) (bs : List (Arc (List ReachView) Z)) → ((i : ℕ) (d : Arc (List ReachView) Z) → i < length bs → All P (block_stores (get_or bs i d))) → All P (shared_of bs)
  of_blocks P [] each = λ i d lt. absurd (omega (arith, lt))
  of_blocks P (b ∷ bs) each = All-append P (block_stores b) (shared_of bs) (each 0 b (omega arith)) (of_blocks P bs (λ i d lt. each (suc i) d (omega (arith, lt))))

-- the stores of the first blocks are listed
abbrev pub AreThereBelow : {Z : Type 0} → List ReachView → List (Arc (List ReachView) Z) → ℕ → Type 0
AreThereBelow {Z} to bs n = (i : ℕ) (d : Arc (List ReachView) Z) → i < n → All (λ (r : ReachView). IsListed to r.number) (block_stores (get_or bs i d))

pub more_blocks : {Z : Type 0} (to after : List ReachView) (bs : List (Arc (List ReachView) Z)) (i : ℕ) (b : Arc (List ReachView) Z) → i < length bs → b ≡ get_or bs i b → ((k : ℕ) → IsListed to k → IsListed after k) → AreThereBelow to bs i
    → All (λ (r : ReachView). IsListed after r.number) (block_stores b) → AreThereBelow after bs (i + 1)
more_blocks to after bs i b inside is stays before here k d less = by_cases (same_or_not k i)
    (λ e. subst (λ j. All P (block_stores (get_or bs j d))) (sym e) (subst (λ x. All P (block_stores x)) (is ∙ get_or_default bs i b d inside) here))
    (λ ne. λ j r lt. stays (get_or (block_stores (get_or bs k d)) j r).number (before k d (omega (arith, less, ne)) j r lt))
  where
    P : ReachView → Type 0
    P r = IsListed after r.number

-- the numbers of the first stores, and of one more
pub numbers_more : (rs : List ReachView) (i : ℕ) (it : ReachView) (before room after : List ℕ) → i < length rs → it ≡ get_or rs i it
    → ((k : ℕ) → Has room k ↔ Has before k) → ((k : ℕ) → Has after k ↔ ((k ≡ it.number) ⊎ Has room k))
    → ((k : ℕ) → Has before k ↔ Contains (numbers (take i rs)) k) → (k : ℕ) → Has after k ↔ Contains (numbers (take (i + 1) rs)) k
numbers_more rs i it before room after inside is same new had k =
    let ns : List ℕ = numbers (take i rs) in
    let row : numbers (take (i + 1) rs) ≡ ns ++ it.number ∷ [] = map_more (λ (r : ReachView). r.number) rs i it inside ∙ ap (λ (x : ReachView). ns ++ x.number ∷ []) (sym is) in (
      λ h. subst (λ xs. Contains xs k) (sym row) (by_cases ((new k).0 h)
          (λ e. subst (Contains (ns ++ it.number ∷ [])) (sym e) (Contains-push ns it.number))
          (λ old. Contains-append_left ns (it.number ∷ []) k ((had k).0 ((same k).0 old)))),
      λ h. (new k).1 (by_cases (Contains-push_cases ns it.number k (subst (λ xs. Contains xs k) row h))
          (λ old. inr ((same k).1 ((had k).1 old)))
          (λ e. inl (sym e))),
    )

pub numbers_none : (rs : List ReachView) (k : ℕ) → Has [] k ↔ Contains (numbers (take 0 rs)) k
numbers_none rs k = (λ h. absurd (has_none k h), λ h. let inside = h.1 in absurd (omega (arith, inside)))

pub numbers_all : (rs : List ReachView) (i : ℕ) (words : List ℕ) → length rs ≤ i → ((k : ℕ) → Has words k ↔ Contains (numbers (take i rs)) k)
    → (k : ℕ) → Has words k ↔ Contains (numbers rs) k
numbers_all rs i words long had = subst (λ xs. (k : ℕ) → Has words k ↔ Contains (numbers xs) k) (take_all i rs long) had

-- the words of the set of the numbers
pub words_of : (ws : List NumberWord) (words : List ℕ) (rs : List ReachView) → ((k : ℕ) → HasAmong ws k ↔ Has words k) → ((k : ℕ) → Has words k ↔ Contains (numbers rs) k)
    → AreNumbersOf ws rs
words_of ws words rs a b k = (λ h. (b k).0 ((a k).0 h), λ h. (a k).1 ((b k).1 h))

-- all stores of a block are listed, if a set of listed numbers has those of the block
pub block_listed : (ws : List NumberWord) (words : List ℕ) (rs to : List ReachView) → AreNumbersOf ws rs → ((k : ℕ) → HasAmong ws k → Has words k) → ((k : ℕ) → Has words k → IsListed to k)
    → All (λ (r : ReachView). IsListed to r.number) rs
block_listed ws words rs to are all on i d lt =
    let x : ℕ = (get_or rs i d).number in
    on x (all x ((are x).1 (all_listed rs i d lt)))

-- the numbers of one block more
pub numbers_of_block : {Z : Type 0} (bs : List (Arc (List ReachView) Z)) (i : ℕ) (b : Arc (List ReachView) Z) (ws : List NumberWord) (before after : List ℕ) → i < length bs → b ≡ get_or bs i b → AreNumbersOf ws (block_stores b)
    → ((k : ℕ) → Has after k → HasAmong ws k ⊎ Has before k) → ((k : ℕ) → Has before k → IsListed (shared_of bs) k) → (k : ℕ) → Has after k → IsListed (shared_of bs) k
numbers_of_block bs i b ws before after inside is are new had k h = by_cases (new k h)
    (λ it. of_number (IsListed (shared_of bs)) (block_stores b) (of_block (λ (r : ReachView). IsListed (shared_of bs) r.number) bs i b inside is (all_listed (shared_of bs))) k ((are k).0 it))
    (λ old. had k old)

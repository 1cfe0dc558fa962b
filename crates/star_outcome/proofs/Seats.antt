-- The stores of a row on a shelf.
use Rattle.std.proofs.Common.{◌≡◌, ◌<◌, ℕ, zero, suc, false, List, [], ◌∷◌, length, get_or, fold, Option, Some, None, refl, ap, ◌∙◌, subst, sym, arith}
use Rattle.std.specs.Prelude.{slice_get}
use Rattle.std.specs.Option.{option_flatten}
use Rattle.std.proofs.lemmas.List.{length-map}
use Rattle.star_store.specs.Store.{Published, Shelf, is_taken, put_up}
use Rattle.star_plan.specs.Plan.{Plan}
use Rattle.star_plan.specs.Shelves.{HoldsNeeds, IsOwn, IsTight, Needs}
use Rattle.star_plan.proofs.Shelves.{from_put, one-own}
use Rattle.star_plan.proofs.Tight.{put_up-tight}
use Rattle.star_plan.proofs.Union.{put_up-keeps, put_up-own}
use Rattle.star_reading.proofs.Finds.{by_cases}
use Rattle.star_outcome.specs.Gathered.{AreNeeded, IsListed}
use Rattle.star_outcome.specs.Homes.{seated}
use Rattle.star_outcome.specs.Reaches.{ReachView}
use Rattle.star_outcome.proofs.Stores.{numbers}

-- a shelf has a store of the file k
abbrev pub HasStore : Shelf → ℕ → Type 0
HasStore shelf k = (p : Published) × (slice_get shelf k ≡ Some (Some p))

free : (o : Option (Option Published)) → option_flatten o ≡ None → is_taken o ≡ false
free None e = refl
free (Some None) e = refl
free (Some (Some p)) e = absurd (let no : ⊥ = cc in no)

flat : (o : Option (Option Published)) (p : Published) → option_flatten o ≡ Some p → o ≡ Some (Some p)
flat None p e = absurd (let no : ⊥ = cc in no)
flat (Some None) p e = absurd (let no : ⊥ = cc in no)
flat (Some (Some q)) p e = let same : q ≡ p = cc in ap (λ x. Some (Some x)) same

-- what is on a shelf stays there
has_still : (shelf : Shelf) (h : ℕ) (p : Published) (k : ℕ) → HasStore shelf k → HasStore (put_up h p shelf) k
has_still shelf h p k x = (x.0, put_up-keeps h p shelf k x.0 x.1)

-- a store that is put up is there
has_seated : (shelf : Shelf) (h : ℕ) (p : Published) → HasStore (put_up h p shelf) h
has_seated shelf h p = go (option_flatten (slice_get shelf h)) refl
  where
    go : (o : Option Published) → option_flatten (slice_get shelf h) ≡ o → HasStore (put_up h p shelf) h
    go None e = (p, put_up-own h p shelf (free (slice_get shelf h) e))
    go (Some q) e = has_still shelf h p h (q, flat (slice_get shelf h) q e)

still_all : (rs : List ReachView) (shelf : Shelf) (k : ℕ) → HasStore shelf k → HasStore (fold seated shelf rs) k
still_all [] shelf k h = h
still_all (r ∷ rs) shelf k h = still_all rs (seated shelf r) k (has_still shelf r.number r.store k h)

seated_at : (rs : List ReachView) (shelf : Shelf) (k i : ℕ) → i < length rs → get_or (numbers rs) i k ≡ k → HasStore (fold seated shelf rs) k
seated_at [] shelf k i inside e = absurd (let no : ⊥ = omega (arith, inside) in no)
seated_at (r ∷ rs) shelf k zero inside e = still_all rs (seated shelf r) k (subst (HasStore (seated shelf r)) e (has_seated shelf r.number r.store))
seated_at (r ∷ rs) shelf k (suc i) inside e = seated_at rs (seated shelf r) k i (omega (arith, inside)) e

-- each store of a row is on its shelf
pub listed_seated : (rs : List ReachView) (k : ℕ) → IsListed rs k → HasStore (fold seated [] rs) k
listed_seated rs k c = seated_at rs [] k c.0 (let long = length-map rs (λ (r : ReachView). r.number) in let h = c.1 in omega (arith, long, h)) c.2

-- a shelf of stores that the file n needs
pub record IsShelfFor (plan : Plan) (n : ℕ) (shelf : Shelf) : Type 0 where
  pub tight : IsTight shelf
  pub needed : (k : ℕ) (p : Published) → slice_get shelf k ≡ Some (Some p) → Needs plan n k × IsOwn plan k p

no_store : (plan : Plan) (n : ℕ) → IsShelfFor plan n []
no_store plan n = record {
  tight = λ k e. absurd (let no : ⊥ = omega (arith, e) in no);
  needed = λ k p e. absurd (let no : ⊥ = cc in no);
}

seat_one : (plan : Plan) (n : ℕ) (shelf : Shelf) (h : ℕ) (p : Published) → IsShelfFor plan n shelf → Needs plan n h → IsOwn plan h p → IsShelfFor plan n (put_up h p shelf)
seat_one plan n shelf h p g needs own = record {
  tight = put_up-tight shelf h p g.tight;
  needed = λ k q e. by_cases (from_put (is_taken (slice_get shelf h)) h p shelf k q e) (λ old. g.needed k q old) (λ new. (subst (Needs plan n) (sym new.0) needs, subst (IsOwn plan k) new.1 (subst (λ i. IsOwn plan i p) (sym new.0) own)));
}

seat_all : (plan : Plan) (n : ℕ) (rs : List ReachView) (shelf : Shelf) → AreNeeded plan n rs → IsShelfFor plan n shelf → IsShelfFor plan n (fold seated shelf rs)
seat_all plan n [] shelf needed g = g
seat_all plan n (r ∷ rs) shelf needed g =
    let one = needed 0 r (omega arith) in
    seat_all plan n rs (seated shelf r) (λ i d lt. needed (suc i) d (omega (arith, lt))) (seat_one plan n shelf r.number r.store g one.0 one.1)

-- the shelf of needed stores
pub needed_shelf : (plan : Plan) (n : ℕ) (rs : List ReachView) → AreNeeded plan n rs → IsShelfFor plan n (fold seated [] rs)
needed_shelf plan n rs needed = seat_all plan n rs [] needed (no_store plan n)

-- it has all that the file needs, if the row has
pub holds_needs : (plan : Plan) (n : ℕ) (rs : List ReachView) → AreNeeded plan n rs → ((k : ℕ) → Needs plan n k → IsListed rs k) → HoldsNeeds plan n (fold seated [] rs)
holds_needs plan n rs needed all k p = (λ e. shelf.needed k p e, λ h. back h)
  where
    shelf : IsShelfFor plan n (fold seated [] rs)
    shelf = needed_shelf plan n rs needed

    back : Needs plan n k × IsOwn plan k p → slice_get (fold seated [] rs) k ≡ Some (Some p)
    back (needs, own) =
        let has = listed_seated rs k (all k needs) in
        let same : has.0 ≡ p = one-own plan k has.0 p (shelf.needed k has.0 has.1).1 own in
        has.1 ∙ ap (λ x. Some (Some x)) same

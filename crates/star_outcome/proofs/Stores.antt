-- Stores that are gathered for a file.
use Rattle.std.proofs.Common.{◌≡◌, ◌+◌, ◌<◌, ◌⊎◌, inl, inr, ℕ, zero, suc, List, [], ◌∷◌, ◌++◌, map, length, get_or, Some, Result, Ok, Err, ap, sym, ◌∙◌, subst, arith}
use denote.Ref.{Bor}
use Rattle.std.specs.Arc.{arc_value}
use Rattle.std.specs.Prelude.{All, Contains, IfOk, OnOk, slice_get}
use Rattle.std.specs.declared.alloc.AllocError.{AllocError}
use Rattle.std.specs.declared.alloc.Global.{Global}
use Rattle.std.specs.declared.sync.Arc.{Arc}
use Rattle.std.specs.Option.{option_map}
use Rattle.std.proofs.lemmas.List.{get_or-append-add, get_or-map, get_or_append_left, get_or_default, length-append, length-map, map-append}
use Rattle.std.proofs.lemmas.List.Elements.{All-append, All-nil, Contains-append_left, Contains-append_right}
use Rattle.std.proofs.lemmas.Option.{slice_get-get_or, slice_get-map}
use Rattle.star_cache.specs.State.{Loads}
use Rattle.star_cache.specs.Walk.{LeadsTo}
use Rattle.star_scope.specs.declared.loads.Load.{Load}
use Rattle.star_plan.specs.Plan.{Plan, loaded, loads_of}
use Rattle.star_plan.specs.Shelves.{IsOwn, Needs}
use Rattle.star_plan.proofs.Outcomes.{place_of}
use Rattle.star_plan.proofs.Seen.{contained}
use Rattle.star_outcome.specs.Gathered.{AreNeeded, IsGathered, IsListed}
use Rattle.star_outcome.specs.Numbers.{Has}
use Rattle.star_outcome.specs.Reaches.{ReachView, StoreRowView, row_of}
use Rattle.star_outcome.specs.Views.{AreGoodLoads, AreStores, IsEnd, IsGoodModule, IsModule}
use Rattle.star_outcome.specs.declared.module.Body.{Body}
use Rattle.star_outcome.specs.declared.module.Ended.TheVariants.{Good}
use Rattle.star_outcome.specs.declared.module.Module.{Module}
use Rattle.star_reading.proofs.Finds.{all_one, by_cases, contains_here, same_or_not}
use Rattle.star_outcome.proofs.Bits.{has_none}

-- the numbers of the files of these stores
abbrev pub numbers : List ReachView → List ℕ
numbers rs = map (λ (r : ReachView). r.number) rs

pub listed_left : (rs qs : List ReachView) (k : ℕ) → IsListed rs k → IsListed (rs ++ qs) k
listed_left rs qs k c = subst (λ ns. Contains ns k) (sym (map-append (λ (x : ReachView). x.number) rs qs)) (Contains-append_left (numbers rs) (numbers qs) k c)

pub listed_front : (rs : List ReachView) (r : ReachView) (k : ℕ) → IsListed rs k → IsListed (rs ++ r ∷ []) k
listed_front rs r k c = listed_left rs (r ∷ []) k c

pub listed_last : (rs : List ReachView) (r : ReachView) (k : ℕ) → r.number ≡ k → IsListed (rs ++ r ∷ []) k
listed_last rs r k e = subst (λ ns. Contains ns k) (sym (map-append (λ (x : ReachView). x.number) rs (r ∷ []))) (Contains-append_right (numbers rs) (r.number ∷ []) k (subst (Contains (r.number ∷ [])) e (contains_here r.number)))

-- no store yet
pub gathered_none : (plan : Plan) (n : ℕ) → IsGathered plan n [] []
gathered_none plan n = record {
  needed = All-nil (λ (r : ReachView). Needs plan n r.number × IsOwn plan r.number r.store);
  listed = λ k h. absurd (has_none k h);
}

-- a further store, with its number
pub gathered_more : (plan : Plan) (n : ℕ) (words after : List ℕ) (rs : List ReachView) (r : ReachView) → ((k : ℕ) → Has after k → (k ≡ r.number) ⊎ Has words k) → IsGathered plan n words rs
    → Needs plan n r.number → IsOwn plan r.number r.store → IsGathered plan n after (rs ++ r ∷ [])
gathered_more plan n words after rs r new g needs own = record {
  needed = All-append P rs (r ∷ []) g.needed (all_one P r (needs, own));
  listed = λ k h. by_cases (new k h) (λ e. listed_last rs r k (sym e)) (λ old. listed_front rs r k (g.listed k old));
}
  where
    P : ReachView → Type 0
    P x = Needs plan n x.number × IsOwn plan x.number x.store

pub needed_of : (plan : Plan) (n m : ℕ) (rs : List ReachView) → Loads (loaded plan) n m → AreStores plan m rs → AreNeeded plan n rs
needed_of plan n m rs l s i d lt = let one = s.own i d lt in ((m, l, one.0), one.1)

-- a property of two rows together is one of the first
pub front_of : {X : Type 0} (P : X → Type 0) (xs ys : List X) → All P (xs ++ ys) → All P xs
front_of P xs ys all i d lt = subst P (get_or_append_left xs ys d i lt) (all i d (let long = length-append xs ys in omega (arith, lt, long)))

pub back_of : {X : Type 0} (P : X → Type 0) (xs ys : List X) → All P (xs ++ ys) → All P ys
back_of P xs ys all i d lt = subst P (get_or-append-add xs ys i d) (all (length xs + i) d (let long = length-append xs ys in omega (arith, lt, long)))

-- each store of a row is listed
pub all_listed : (rs : List ReachView) → All (λ (r : ReachView). IsListed rs r.number) rs
all_listed rs i d lt =
    let x : ℕ = (get_or rs i d).number in
    let long = length-map rs (λ (r : ReachView). r.number) in
    let inside : i < length (numbers rs) = omega (arith, lt, long) in
    (i, inside, get_or-map (λ (r : ReachView). r.number) rs i d x lt)

-- a property of the numbers of all stores is one of each number
pub of_number : (Q : ℕ → Type 0) (rs : List ReachView) → All (λ (r : ReachView). Q r.number) rs → (k : ℕ) → IsListed rs k → Q k
of_number Q rs all k c = at rs all c.0 (let l = length-map rs (λ (r : ReachView). r.number) in let h = c.1 in omega (arith, l, h)) c.2
  where
    at : (xs : List ReachView) → All (λ (r : ReachView). Q r.number) xs → (i : ℕ) → i < length xs → get_or (numbers xs) i k ≡ k → Q k
    at [] h i less e = absurd (let no : ⊥ = omega (arith, less) in no)
    at (x ∷ xs) h zero less e = subst Q e (h 0 x (omega arith))
    at (x ∷ xs) h (suc i) less e = at xs (λ j d lt. h (suc j) d (omega (arith, lt))) i (omega (arith, less)) e

-- if all stores of a row are needed, so are those that it shares
pub needed_front : (plan : Plan) (n : ℕ) (rs qs : List ReachView) → AreNeeded plan n (rs ++ qs) → AreNeeded plan n (rs ++ [])
needed_front plan n rs qs all = All-append P rs [] (front_of P rs qs all) (All-nil P)
  where
    P : ReachView → Type 0
    P r = Needs plan n r.number × IsOwn plan r.number r.store

-- all that the loads of a file lead to is listed, if its stores are
pub all_there : (plan : Plan) (m : ℕ) (rs to : List ReachView) → AreStores plan m rs → All (λ (r : ReachView). IsListed to r.number) rs → (k : ℕ) → LeadsTo (Loads (loaded plan)) m k → IsListed to k
all_there plan m rs to s all k w = of_number (IsListed to) rs all k (s.all k w)

-- the row has all that a file needs, if it has all that its loads lead to
pub needs_listed : (plan : Plan) (n : ℕ) (rs : List ReachView) → ((i m : ℕ) → slice_get (loaded plan n) i ≡ Some m → (k : ℕ) → LeadsTo (Loads (loaded plan)) m k → IsListed rs k) → (k : ℕ) → Needs plan n k → IsListed rs k
needs_listed plan n rs all k needs =
    let m : ℕ = needs.0 in
    let place = needs.1 in
    all place.0 m (place_of (loaded plan n) m place.0 place.1 place.2) k needs.2

lead_cases : (plan : Plan) (n k : ℕ) → LeadsTo (Loads (loaded plan)) n k → (n ≡ k) ⊎ Needs plan n k
lead_cases plan n k (zero, w) = inl w
lead_cases plan n k (suc j, w) = inr (w.0, w.1, (j, w.2))

needs_lead : (plan : Plan) (n k : ℕ) → Needs plan n k → LeadsTo (Loads (loaded plan)) n k
needs_lead plan n k (m, l, w) = (suc w.0, (m, l, w.1))

-- the stores of all that a file needs, and its own
pub stores_are : (plan : Plan) (n : ℕ) (rs : List ReachView) (r : ReachView) → AreNeeded plan n rs → ((k : ℕ) → Needs plan n k → Contains (map (λ (x : ReachView). x.number) rs) k) → r.number ≡ n → IsOwn plan n r.store → AreStores plan n (rs ++ r ∷ [])
stores_are plan n rs r needed all number own = record {
  own = All-append P rs (r ∷ []) (λ i d lt. let one = needed i d lt in (needs_lead plan n (get_or rs i d).number one.0, one.1)) (all_one P r ((0, sym number), subst (λ k. IsOwn plan k r.store) (sym number) own));
  all = λ k w. by_cases (lead_cases plan n k w) (λ e. listed_last rs r k (number ∙ e)) (λ needs. listed_front rs r k (all k needs));
}
  where
    P : ReachView → Type 0
    P x = LeadsTo (Loads (loaded plan)) n x.number × IsOwn plan x.number x.store

pub settled_are : (plan : Plan) (n : ℕ) (rs : List ReachView) (o : Result StoreRowView AllocError) → IfOk o (λ s. row_of s ≡ rs) → AreStores plan n rs → IfOk o (λ s. AreStores plan n (row_of s))
settled_are plan n rs (Ok s) e are = subst (AreStores plan n) (sym e) are
settled_are plan n rs (Err x) e are = tt

pub more_there : (to rs : List ReachView) (i : ℕ) (it : ReachView) → it ≡ get_or rs i it → i < length rs → ((k : ℕ) (d : ReachView) → k < i → IsListed to (get_or rs k d).number) → IsListed to it.number → (k : ℕ) (d : ReachView) → k < i + 1 → IsListed to (get_or rs k d).number
more_there to rs i it is inside before here k d less = by_cases (same_or_not k i)
    (λ e. subst (λ j. IsListed to (get_or rs j d).number) (sym e) (subst (λ (x : ReachView). IsListed to x.number) (is ∙ get_or_default rs i it d inside) here))
    (λ ne. before k d (omega (arith, less, ne)))

pub good_stores : (plan : Plan) (n : ℕ) (m : Module) (b : Arc Body Global) (body : Body) → m.ended ≡ Good b → body ≡ arc_value b → IsModule plan n m → AreStores plan n (row_of body.stores)
good_stores plan n m b body e same is = subst (λ (x : Body). AreStores plan n (row_of x.stores)) (sym same) (subst (IsEnd plan n) e is.ended).stores

pub on_ok : {T E A B : Type 0} (r : Result T E) → (A → B) → OnOk r A → OnOk r B
on_ok (Ok x) f a = f a
on_ok (Err e) f a = tt

-- a load, with the good module of the file that it loads
pub load_found : (plan : Plan) (n i : ℕ) (ms : List (Bor Module)) (it : Bor Module) → AreGoodLoads plan n (length (loads_of plan n)) (map (λ (m : Bor Module). m.now) ms) → i < length ms → it ≡ get_or ms i it
    → (m : ℕ) × (slice_get (loaded plan n) i ≡ Some m) × IsGoodModule plan m it.now
load_found plan n i ms it loads inside is =
    let long = length-map (loads_of plan n) (λ (l : Load). l.file) in
    let width = length-map ms (λ (m : Bor Module). m.now) in
    let count = loads.count in
    let short : i < length (loads_of plan n) = omega (arith, inside, width, count) in
    let within : i < length (loaded plan n) = omega (arith, short, long) in
    let m : ℕ = get_or (loaded plan n) i 0 in
    let at : slice_get (loaded plan n) i ≡ Some m = slice_get-get_or (loaded plan n) i 0 within in
    let one = loads.each i m short at in
    let seen : slice_get (map (λ (m : Bor Module). m.now) ms) i ≡ Some it.now = slice_get-map (λ (m : Bor Module). m.now) ms i ∙ (ap (option_map (λ (m : Bor Module). m.now)) (slice_get-get_or ms i it inside) ∙ ap (λ (m : Bor Module). Some m.now) (sym is)) in
    let both : Some one.0 ≡ Some it.now = sym one.1 ∙ seen in
    let same : one.0 ≡ it.now = cc in
    (m, at, subst (IsGoodModule plan m) same one.2)

pub load_is : (plan : Plan) (n i : ℕ) (ms : List (Bor Module)) (it : Bor Module) → AreGoodLoads plan n (length (loads_of plan n)) (map (λ (m : Bor Module). m.now) ms) → i < length ms → it ≡ get_or ms i it → Loads (loaded plan) n it.now.number
load_is plan n i ms it loads inside is =
    let one = load_found plan n i ms it loads inside is in
    subst (Loads (loaded plan) n) (sym one.2.0.number) (contained (loaded plan n) i one.0 one.1)

pub load_good : (plan : Plan) (n i : ℕ) (ms : List (Bor Module)) (it : Bor Module) → AreGoodLoads plan n (length (loads_of plan n)) (map (λ (m : Bor Module). m.now) ms) → i < length ms → it ≡ get_or ms i it → IsGoodModule plan it.now.number it.now
load_good plan n i ms it loads inside is =
    let one = load_found plan n i ms it loads inside is in
    subst (λ k. IsGoodModule plan k it.now) (sym one.2.0.number) one.2

-- the stores of one load more are listed
pub more_loads : (plan : Plan) (n i : ℕ) (ms : List (Bor Module)) (it : Bor Module) (to after : List ReachView) → AreGoodLoads plan n (length (loads_of plan n)) (map (λ (m : Bor Module). m.now) ms) → i < length ms → it ≡ get_or ms i it
    → ((k : ℕ) → IsListed to k → IsListed after k) → ((k : ℕ) → LeadsTo (Loads (loaded plan)) it.now.number k → IsListed after k)
    → ((j m : ℕ) → j < i → slice_get (loaded plan n) j ≡ Some m → (k : ℕ) → LeadsTo (Loads (loaded plan)) m k → IsListed to k)
    → (j m : ℕ) → j < i + 1 → slice_get (loaded plan n) j ≡ Some m → (k : ℕ) → LeadsTo (Loads (loaded plan)) m k → IsListed after k
more_loads plan n i ms it to after loads inside is stays here before j m less at k w = by_cases (same_or_not j i)
    (λ e.
    let one = load_found plan n i ms it loads inside is in
    let both : Some one.0 ≡ Some m = sym one.1 ∙ (ap (slice_get (loaded plan n)) (sym e) ∙ at) in
    let file : one.0 ≡ m = cc in
    here k (subst (λ f. LeadsTo (Loads (loaded plan)) f k) (sym (one.2.0.number ∙ file)) w))
    (λ ne. stays k (before j m (omega (arith, less, ne)) at k w))

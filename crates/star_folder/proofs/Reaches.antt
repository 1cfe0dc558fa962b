-- The visits of walks.
use Rattle.std.proofs.Common.{◌≡◌, ◌⊎◌, inl, inr, List, [], ◌∷◌, ◌++◌, sym, subst}
use Rattle.star_folder.specs.Folder.{Contents}
use Rattle.star_folder.specs.Laws.{IsIn, IsLedTo, IsVisited, VisitsAll}
use Rattle.star_folder.specs.Walk.{FolderAt, IsWalk, Place, Visit, opened, place_of}

in_either : (q : Place) (ps qs : List Place) → IsIn q (ps ++ qs) → IsIn q ps ⊎ IsIn q qs
in_either q [] qs h = inr h
in_either q (p ∷ ps) qs (inl h) = inl (inl h)
in_either q (p ∷ ps) qs (inr h) = elim (in_either q ps qs h) [ inl k ↦ inl (inr k) | inr k ↦ inr k ]

in_left : (q : Place) (ps qs : List Place) → IsIn q ps → IsIn q (ps ++ qs)
in_left q [] qs h = absurd h
in_left q (p ∷ ps) qs (inl h) = inl h
in_left q (p ∷ ps) qs (inr h) = inr (in_left q ps qs h)

in_right : (q : Place) (ps qs : List Place) → IsIn q qs → IsIn q (ps ++ qs)
in_right q [] qs h = h
in_right q (p ∷ ps) qs h = inr (in_right q ps qs h)

-- visited or left, so it is the top or was led to
led : (held : Contents) (vs : List Visit) (left : List Place) (q : Place) → IsWalk held vs left → IsVisited vs q ⊎ IsIn q left → (FolderAt [] ≡ q) ⊎ IsLedTo vs q
led held [] left q w (inl h) = absurd h
led held [] left q w (inr h) = first (subst (IsIn q) w h)
  where
    first : IsIn q (FolderAt [] ∷ []) → (FolderAt [] ≡ q) ⊎ ⊥
    first (inl k) = inl k
    first (inr k) = absurd k
led held (v ∷ vs) left q w h = after (λ k. led held vs (place_of v ∷ w.0) q w.1 k) (before h)
  where
    rest : List Place
    rest = w.0

    before : (IsVisited (v ∷ vs) q) ⊎ IsIn q left → (IsVisited vs q ⊎ IsIn q (place_of v ∷ rest)) ⊎ IsIn q (opened v)
    before (inl (inl k)) = inl (inr (inl k))
    before (inl (inr k)) = inl (inl k)
    before (inr k) = elim (in_either q (opened v) rest (subst (IsIn q) w.4 k)) [ inl m ↦ inr m | inr m ↦ inl (inr (inr m)) ]

    after : ((IsVisited vs q ⊎ IsIn q (place_of v ∷ rest)) → (FolderAt [] ≡ q) ⊎ IsLedTo vs q)
        → (IsVisited vs q ⊎ IsIn q (place_of v ∷ rest)) ⊎ IsIn q (opened v) → (FolderAt [] ≡ q) ⊎ IsLedTo (v ∷ vs) q
    after f (inl k) = elim (f k) [ inl m ↦ inl m | inr m ↦ inr (inr m) ]
    after f (inr k) = inr (inl k)

-- the top, or led to, so it was visited or is left
met : (held : Contents) (vs : List Visit) (left : List Place) (q : Place) → IsWalk held vs left → (FolderAt [] ≡ q) ⊎ IsLedTo vs q → IsVisited vs q ⊎ IsIn q left
met held [] left q w (inl h) = inr (subst (IsIn q) (sym w) (inl h))
met held [] left q w (inr h) = absurd h
met held (v ∷ vs) left q w h = after (λ k. met held vs (place_of v ∷ w.0) q w.1 k) (before h)
  where
    rest : List Place
    rest = w.0

    before : (FolderAt [] ≡ q) ⊎ IsLedTo (v ∷ vs) q → ((FolderAt [] ≡ q) ⊎ IsLedTo vs q) ⊎ IsIn q (opened v)
    before (inl k) = inl (inl k)
    before (inr (inl k)) = inr k
    before (inr (inr k)) = inl (inr k)

    from : IsVisited vs q ⊎ IsIn q (place_of v ∷ rest) → IsVisited (v ∷ vs) q ⊎ IsIn q left
    from (inl k) = inl (inr k)
    from (inr (inl k)) = inl (inl k)
    from (inr (inr k)) = inr (subst (IsIn q) (sym w.4) (in_right q (opened v) rest k))

    after : ((FolderAt [] ≡ q) ⊎ IsLedTo vs q → IsVisited vs q ⊎ IsIn q (place_of v ∷ rest))
        → ((FolderAt [] ≡ q) ⊎ IsLedTo vs q) ⊎ IsIn q (opened v) → IsVisited (v ∷ vs) q ⊎ IsIn q left
    after f (inl k) = from (f k)
    after f (inr k) = inr (subst (IsIn q) (sym w.4) (in_left q (opened v) rest k))

none_left : {A : Type 0} → A ⊎ ⊥ → A
none_left (inl h) = h
none_left (inr h) = absurd h

pub visits_all : VisitsAll
visits_all held vs q w = (λ h. led held vs [] q w (inl h), λ h. none_left (met held vs [] q w h))

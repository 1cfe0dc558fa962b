-- A cycle of links along the stacks is a cycle of loads.
use Rattle.std.proofs.Common.{◌≡◌, ℕ, zero, suc, List, [], ◌∷◌, Some, refl, subst, inl, inr}
use Rattle.star_cache.specs.Walk.{Walk, LeadsTo}
use Rattle.star_cache.specs.State.{BookState, IsLawful, Links, Loads, IsLoadPath, IsIn, top_of, stack_of}
use Rattle.star_cache.proofs.Walks.{LeadsTo-join}

-- a step at the end of a walk
pub LeadsTo-push : (R : ℕ → ℕ → Type 0) (s t u : ℕ) → LeadsTo R s t → R t u → LeadsTo R s u
LeadsTo-push R s t u w step = LeadsTo-join R w.0 s t u w.1 (1, (u, step, refl))

-- the members of a stack lead to its top
pub LeadsTo-top : (loads : ℕ → List ℕ) (e top : ℕ) (stack : List ℕ) → IsLoadPath loads stack → IsIn e stack → top_of stack ≡ Some top → LeadsTo (Loads loads) e top
LeadsTo-top loads e top [] path h t = absurd h
LeadsTo-top loads e top (x ∷ []) path (inl i) t = (0, cc)
LeadsTo-top loads e top (x ∷ []) path (inr i) t = absurd i
LeadsTo-top loads e top (x ∷ y ∷ below) path (inl i) t = (0, cc)
LeadsTo-top loads e top (x ∷ y ∷ below) path (inr i) t =
    let up : LeadsTo (Loads loads) e y = LeadsTo-top loads e y (y ∷ below) path.1 i refl in
    let same : x ≡ top = cc in
    LeadsTo-push (Loads loads) e y top up (subst (λ v. Loads loads y v) same path.0)

-- a stack with a member has a top
pub top_from_member : (e : ℕ) (stack : List ℕ) → IsIn e stack → (x : ℕ) × (top_of stack ≡ Some x)
top_from_member e [] h = absurd h
top_from_member e (x ∷ below) h = (x, refl)

module _ {P : Type 0} (loads : ℕ → List ℕ) (Reached : ℕ → Type 0) (Right : ℕ → P → Type 0) (b : BookState P) (lawful : IsLawful loads Reached Right b) where
  -- an entry that runs in a stack that leads to a seat by links leads to the seat's top by loads
  pub LeadsTo-links : (k s t e top : ℕ) → IsIn e (stack_of b s) → Walk (Links b) k s t → top_of (stack_of b t) ≡ Some top → LeadsTo (Loads loads) e top
  LeadsTo-links zero s t e top h w is_top =
      LeadsTo-top loads e top (stack_of b t) (lawful.path t) (subst (λ v. IsIn e (stack_of b v)) w h) is_top
  LeadsTo-links (suc k) s t e top h w is_top =
      let here = top_from_member e (stack_of b s) h in
      let up : LeadsTo (Loads loads) e here.0 = LeadsTo-top loads e here.0 (stack_of b s) (lawful.path s) h here.1 in
      let link = w.1 in
      let over : Loads loads here.0 link.0 = lawful.awaits_load s link.0 here.0 link.1 here.1 in
      let on : LeadsTo (Loads loads) link.0 top = LeadsTo-links k w.0 t link.0 top link.3 w.2 is_top in
      let far : LeadsTo (Loads loads) e link.0 = LeadsTo-push (Loads loads) e here.0 link.0 up over in
      LeadsTo-join (Loads loads) far.0 e link.0 top far.1 on

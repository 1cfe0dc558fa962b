-- Expressions over both shelves.
use Rattle.std.proofs.Common.{ℕ, ◌+◌, not, List, [], ◌∷◌, Option, Some, None, is_some, codes, subst}
use Rattle.star_store.specs.declared.values.Value.{Value}
use Rattle.star_store.specs.declared.values.Value.TheVariants as value
use Rattle.star_tree.specs.declared.tree.Entry.{Entry, out-Entry}
use Rattle.star_tree.specs.declared.tree.Expression.{Expression}
use Rattle.star_tree.specs.declared.tree.Parameter.{Parameter}
use Rattle.star_tree.specs.declared.tree.Argument.TheOpen as tree
use Rattle.star_outline.specs.Syntax.{ExpressionForm, ParameterForm, parameter}
use Rattle.star_meaning.specs.declared.fault.FaultCode.TheVariants as code
use Rattle.star_meaning.specs.declared.site.Site.{Site}
use Rattle.star_meaning.specs.Expressions.{defaults, defaults_after, entry_of, fresh_entries, fresh_entry, maybe, new_function, node}
use Rattle.star_meaning.specs.Entries.{with_entry}
use Rattle.star_meaning.specs.Program.{Setting, Variables}
use Rattle.star_meaning.specs.Run.{Action, check, each, give}
use Rattle.star_meaning.specs.Semantics.{Semantics}
use Rattle.star_meaning.specs.Values.{place_in}
use Rattle.star_unseen.specs.Veil.{AreVisible, IsVisible, VisibleIfThere, PairIsVisible, PairsAreVisible}
use Rattle.star_unseen.specs.Shelves.{Veil, with_other}
use Rattle.star_unseen.proofs.Alike.{Alike, Any, alike_build, alike_check, alike_give, alike_if, alike_seeing, alike_then}
use Rattle.star_unseen.proofs.Calls.{alike-call_node}
use Rattle.star_unseen.proofs.Visible.{SiteIsVisible}
use Rattle.star_unseen.proofs.Comprehensions.{alike-dict_comprehension, alike-list_comprehension}
use Rattle.star_unseen.proofs.Attributes.{alike-attribute}
use Rattle.star_unseen.proofs.Operators.{alike-comparison, alike-operate, alike-prefix}
use Rattle.star_unseen.proofs.Entries.{visible-with_entry, same-with_entry}
use Rattle.star_unseen.proofs.Parts.{AllAlike, VariablesAlike, alike_every}
use Rattle.star_unseen.proofs.Subscript.{alike-index, alike-slice}
use Rattle.star_unseen.proofs.Values.{alike-check_key, alike-is_true, alike-new_dict, alike-new_list, alike-new_text, alike-new_tuple, same-place_in}

pub alike-defaults_after : {w : Setting} (k : Veil w) (rest other : Action (List Value)) (m n : Semantics) (p : Site) (x : ParameterForm) → Alike k (AreVisible k.hides) rest other → AllAlike k m n → SiteIsVisible k.hides p
    → Alike k (AreVisible k.hides) (defaults_after rest m p x) (defaults_after other n p x)
alike-defaults_after k rest other m n p (tree.Default x e) r b c =
    alike_then (b.expr p e c) (λ v h. alike_then r (λ xs hs. alike_give (AreVisible k.hides) (v ∷ xs) (h, hs)))
alike-defaults_after k rest other m n p _ r b c = r

pub alike-defaults : {w : Setting} (k : Veil w) (m n : Semantics) (p : Site) (qs : List Parameter) → AllAlike k m n → SiteIsVisible k.hides p → Alike k (AreVisible k.hides) (defaults m p qs) (defaults n p qs)
alike-defaults k m n p [] b c = alike_give {A = List Value} (AreVisible k.hides) [] tt
alike-defaults k m n p (q ∷ qs) b c = alike-defaults_after k (defaults m p qs) (defaults n p qs) m n p (parameter q) (alike-defaults k m n p qs b c) b c

pub alike-new_function : {w : Setting} (k : Veil w) (m n : Semantics) (p : Site) (number : ℕ) (name : List ℕ) (ps : List Parameter) → AllAlike k m n → SiteIsVisible k.hides p
    → Alike k (IsVisible k.hides) (new_function m p number name ps) (new_function n p number name ps)
alike-new_function k m n p number name ps b c = alike_then (alike-defaults k m n p ps b c) (λ vs hs. alike_build p.line 1 _ (hs, c.0, c.1))

-- ---- the entries of a display

pub alike-entry_of : {w : Setting} (k : Veil w) (m n : Semantics) (p : Site) (e : Entry) → AllAlike k m n → SiteIsVisible k.hides p → Alike k (PairIsVisible k.hides) (entry_of m p e) (entry_of n p e)
alike-entry_of k m n p e b c =
    alike_then (b.expr p (out-Entry e).key c) (λ x hx.
    alike_then (b.expr p (out-Entry e).value c) (λ v hv.
    alike_give (PairIsVisible k.hides) (x, v) (hx, hv)))

pub alike-fresh_entry : {w : Setting} (k : Veil w) (levels line : ℕ) (es : List (Value × Value)) (e : Value × Value) → PairsAreVisible k.hides es → PairIsVisible k.hides e
    → Alike k (PairsAreVisible k.hides) (fresh_entry w levels line es e) (fresh_entry (with_other k.other w) levels line es e)
alike-fresh_entry {w = w} k levels line es e hs h =
    alike_then (alike-check_key k levels line e.0 h.0) (λ _ _.
    alike_then (alike_seeing Any _ _ (λ s c. subst (λ o. Alike k Any (check code.Key line (not (is_some (place_in w s e.0 es)))) (check code.Key line (not (is_some o)))) (same-place_in k s e.0 es c h.0 hs)
    (alike_check code.Key line (not (is_some (place_in w s e.0 es)))))) (λ _ _.
    alike_seeing (PairsAreVisible k.hides) _ _ (λ s c. subst (λ fs. Alike k (PairsAreVisible k.hides) (give (with_entry w s es e)) (give fs)) (same-with_entry k s es e c hs h)
    (alike_give (PairsAreVisible k.hides) (with_entry w s es e) (visible-with_entry k s es e hs h)))))

pub alike-fresh_entries : {w : Setting} (k : Veil w) (levels line : ℕ) (es more : List (Value × Value)) → PairsAreVisible k.hides es → PairsAreVisible k.hides more
    → Alike k (PairsAreVisible k.hides) (fresh_entries w levels line es more) (fresh_entries (with_other k.other w) levels line es more)
alike-fresh_entries k levels line es [] hs h = alike_give (PairsAreVisible k.hides) es hs
alike-fresh_entries k levels line es (e ∷ more) hs h = alike_then (alike-fresh_entry k levels line es e hs h.0) (λ fs hfs. alike-fresh_entries k levels line fs more hfs h.1)

-- ---- nodes

pub alike-maybe : {w : Setting} (k : Veil w) (m n : Semantics) (p : Site) (o : Option Expression) → AllAlike k m n → SiteIsVisible k.hides p → Alike k (VisibleIfThere k.hides) (maybe m p o) (maybe n p o)
alike-maybe k m n p None b c = alike_give {A = Option Value} (VisibleIfThere k.hides) None tt
alike-maybe k m n p (Some e) b c = alike_then (b.expr p e c) (λ v h. alike_give (VisibleIfThere k.hides) (Some v) h)

-- the values of expressions in order
each_value : {w : Setting} (k : Veil w) (m n : Semantics) (p : Site) (es : List Expression) → AllAlike k m n → SiteIsVisible k.hides p → Alike k (AreVisible k.hides) (each (m.expr p) es) (each (n.expr p) es)
each_value k m n p es b c = alike_every (IsVisible k.hides) (m.expr p) (n.expr p) es (λ e. b.expr p e c)

pub alike-node : {w : Setting} (k : Veil w) (vs us : Variables) (levels : ℕ) (m n : Semantics) (p : Site) (x : ExpressionForm) → VariablesAlike k vs us → AllAlike k m n → SiteIsVisible k.hides p
    → Alike k (IsVisible k.hides) (node vs w levels m p x) (node us (with_other k.other w) levels n p x)
alike-node k vs us levels m n p (tree.Expression-F.Expression::Name x) a b c = a.read p x c
alike-node k vs us levels m n p (tree.Int i) a b c = alike_give (IsVisible k.hides) (value.Int i) tt
alike-node k vs us levels m n p (tree.Text t) a b c = alike-new_text k p.line t
alike-node k vs us levels m n p (tree.Expression-F.Expression::Tuple es) a b c = alike_then (each_value k m n p es b c) (λ xs hs. alike-new_tuple k p.line xs hs)
alike-node k vs us levels m n p (tree.Expression-F.Expression::List es) a b c = alike_then (each_value k m n p es b c) (λ xs hs. alike-new_list k p.line xs hs)
alike-node k vs us levels m n p (tree.Dict es) a b c =
    alike_then (alike_then (alike_every (PairIsVisible k.hides) (entry_of m p) (entry_of n p) es (λ e. alike-entry_of k m n p e b c)) (λ xs hs. alike-fresh_entries k levels p.line [] xs tt hs)) (λ fs hfs. alike-new_dict k p.line fs hfs)
alike-node k vs us levels m n p (tree.ListComprehension at e cs) a b c = alike-list_comprehension k vs us m n p (1 + at.token) e cs a b c
alike-node k vs us levels m n p (tree.DictComprehension at e cs) a b c = alike-dict_comprehension k vs us levels m n p (1 + at.token) e cs a b c
alike-node k vs us levels m n p (tree.Unary op e) a b c = alike_then (b.expr p e c) (λ x h. alike-prefix k p.line op x h)
alike-node k vs us levels m n p (tree.Binary op e f) a b c = alike_then (b.expr p e c) (λ x h. alike_then (b.expr p f c) (λ y i. alike-operate k levels p.line op x y h i))
alike-node k vs us levels m n p (tree.Compare op e f) a b c = alike_then (b.expr p e c) (λ x h. alike_then (b.expr p f c) (λ y i. alike-comparison k levels p.line op x y h i))
alike-node k vs us levels m n p (tree.And e f) a b c =
    alike_then (b.expr p e c) (λ x h. alike_then (alike-is_true k x h) (λ t _. alike_if (IsVisible k.hides) t _ _ _ _ (b.expr p f c) (alike_give (IsVisible k.hides) x h)))
alike-node k vs us levels m n p (tree.Or e f) a b c =
    alike_then (b.expr p e c) (λ x h. alike_then (alike-is_true k x h) (λ t _. alike_if (IsVisible k.hides) t _ _ _ _ (alike_give (IsVisible k.hides) x h) (b.expr p f c)))
alike-node k vs us levels m n p (tree.Conditional d e f) a b c =
    alike_then (b.expr p d c) (λ x h. alike_then (alike-is_true k x h) (λ t _. alike_if (IsVisible k.hides) t _ _ _ _ (b.expr p e c) (b.expr p f c)))
alike-node k vs us levels m n p (tree.Lambda at ps e) a b c = alike-new_function k m n p at.token (codes "lambda") ps b c
alike-node k vs us levels m n p (tree.Call f es) a b c = alike-call_node k levels m n p f es b c
alike-node k vs us levels m n p (tree.Attribute e x) a b c = alike_then (b.expr p e c) (λ v h. alike-attribute k p.line v x.text h)
alike-node k vs us levels m n p (tree.Expression-F.Expression::Index e i) a b c = alike_then (b.expr p e c) (λ x h. alike_then (b.expr p i c) (λ j hj. alike-index k levels p.line x j h hj))
alike-node k vs us levels m n p (tree.Slice e f g i) a b c =
    alike_then (b.expr p e c) (λ x h.
    alike_then (alike-maybe k m n p f b c) (λ u hu.
    alike_then (alike-maybe k m n p g b c) (λ v hv.
    alike_then (alike-maybe k m n p i b c) (λ y hy.
    alike-slice k p.line x u v y h hu hv hy))))

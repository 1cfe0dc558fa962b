-- Entries with more put in, over two shelves: they are the same, and visible.
use Rattle.std.proofs.Common.{◌≡◌, ℕ, List, [], ◌∷◌, Option, Some, None, slice_get, refl, ap, ◌∙◌}
use Rattle.star_store.specs.declared.values.Value.{Value}
use Rattle.star_store.specs.Write.{put, put_at}
use Rattle.star_meaning.specs.Run.{State}
use Rattle.star_meaning.specs.Program.{Setting}
use Rattle.star_meaning.specs.Values.{place_in}
use Rattle.star_meaning.specs.Entries.{entries_after, with_entry, with_entries}
use Rattle.star_unseen.specs.Veil.{Hides, IsVisible, Maybe, PairIsVisible, PairsAreVisible, StateIsVisible}
use Rattle.star_unseen.specs.Shelves.{Veil, with_other}
use Rattle.star_unseen.proofs.Rows.{every_append, every_get, every_set}
use Rattle.star_unseen.proofs.Values.{same-place_in}

visible-put_at : (hides : Hides) (i : ℕ) (v : Value) (o : Option (Value × Value)) (es : List (Value × Value)) → IsVisible hides v → Maybe (PairIsVisible hides) o → PairsAreVisible hides es → PairsAreVisible hides (entries_after es (put_at i v o es))
visible-put_at hides i v None es h l r = r
visible-put_at hides i v (Some e) es h l r = every_set (PairIsVisible hides) es i (e.0, v) r (l.0, h)

visible-put : (hides : Hides) (key v : Value) (o : Option ℕ) (es : List (Value × Value)) → IsVisible hides key → IsVisible hides v → PairsAreVisible hides es → PairsAreVisible hides (entries_after es (put key v o es))
visible-put hides key v None es h l r = every_append (PairIsVisible hides) es ((key, v) ∷ []) r ((h, l), tt)
visible-put hides key v (Some i) es h l r = visible-put_at hides i v (slice_get es i) es l (every_get (PairIsVisible hides) es i r) r

pub visible-with_entry : {w : Setting} (k : Veil w) (s : State) (es : List (Value × Value)) (e : Value × Value) → PairsAreVisible k.hides es → PairIsVisible k.hides e → PairsAreVisible k.hides (with_entry w s es e)
visible-with_entry {w = w} k s es e h l = visible-put k.hides e.0 e.1 (place_in w s e.0 es) es l.0 l.1 h

pub same-with_entry : {w : Setting} (k : Veil w) (s : State) (es : List (Value × Value)) (e : Value × Value) → StateIsVisible k.hides w.home s → PairsAreVisible k.hides es → PairIsVisible k.hides e → with_entry w s es e ≡ with_entry (with_other k.other w) s es e
same-with_entry k s es e c h l = ap (λ o. entries_after es (put e.0 e.1 o es)) (same-place_in k s e.0 es c l.0 h)

pub visible-with_entries : {w : Setting} (k : Veil w) (s : State) (es fs : List (Value × Value)) → PairsAreVisible k.hides es → PairsAreVisible k.hides fs → PairsAreVisible k.hides (with_entries w s es fs)
visible-with_entries k s es [] h l = h
visible-with_entries {w = w} k s es (f ∷ fs) h l = visible-with_entries k s (with_entry w s es f) fs (visible-with_entry k s es f h l.0) l.1

pub same-with_entries : {w : Setting} (k : Veil w) (s : State) (es fs : List (Value × Value)) → StateIsVisible k.hides w.home s → PairsAreVisible k.hides es → PairsAreVisible k.hides fs → with_entries w s es fs ≡ with_entries (with_other k.other w) s es fs
same-with_entries k s es [] c h l = refl
same-with_entries {w = w} k s es (f ∷ fs) c h l =
    same-with_entries k s (with_entry w s es f) fs c (visible-with_entry k s es f h l.0) l.1
    ∙ ap (λ gs. with_entries (with_other k.other w) s gs fs) (same-with_entry k s es f c h l.0)

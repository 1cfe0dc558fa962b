-- A request, member by member.
use Rattle.std.proofs.Common.{◌≡◌, ℕ, ◌<◌, List, [], ◌∷◌, ◌++◌, Bool, true, false, Option, Some, None, Result, Ok, Err, length, inl, inr, refl, ap, sym, ◌∙◌, append_assoc, arith}
use Rattle.std.specs.Prelude.{option_map}
use Rattle.std.proofs.lemmas.List.{append-nil}
use Rattle.serde_json.specs.Data.{Data, Items, item, no_items, Members, member, no_members}
use Rattle.serde_json.specs.Find.{as_str}
use Rattle.star_bundle.specs.Bundle.{is_label}
use Rattle.star_bundle.specs.View.{if_label}
use Rattle.star_dialect.specs.Words.{with_name}
use Rattle.star_label.specs.View.{text_of}
use Rattle.star_label.specs.declared.label.Label.{Label}
use Rattle.star_report.specs.declared.wanted.Wanted.{Wanted}
use Rattle.star_session.specs.Changes.{Change}
use Rattle.star_session.specs.declared.request.Origin.{Origin}
use Rattle.star_words.specs.Words.{label_of_path}
use Rattle.star_session.specs.declared.request.RequestError.{RequestError}
use Rattle.star_session.specs.Requests.{◌>>=◌, Asking, IsWhy, bad_changed, bad_files, bad_label, bad_names, bad_roots, bad_with, changes_of, gone_at, gone_in, names_in, text_or_null, texts_in, with_member, with_members, with_word, with_words}

-- rows after a front
abbrev pub after : {A : Type 0} → List A → Result (List A) (List ℕ) → Result (List A) (List ℕ)
after front r = r >>= λ xs. Ok (front ++ xs)

-- .. where one more item goes to the front
onto : {A : Type 0} (front : List A) (x : A) (r : Result (List A) (List ℕ)) → after front (r >>= λ xs. Ok (x ∷ xs)) ≡ after (front ++ x ∷ []) r
onto front x (Err why) = refl
onto front x (Ok xs) = ap Ok (sym (append_assoc front (x ∷ []) xs))

-- a change, and the members after it
pub changes_next : (front : List Change) (k : List ℕ) (t : Option (List ℕ)) (d : Data) (ms : Members) → text_or_null d ≡ Some t → is_label k ≡ true
    → after front (changes_of (member k d ms)) ≡ after (front ++ (k, t) ∷ []) (changes_of ms)
unfolding changes_of
changes_next front k t d ms h l = rw (h, l) (onto front (k, t) (changes_of ms))

pub no_text : (k : List ℕ) (d : Data) (ms : Members) → text_or_null d ≡ None → changes_of (member k d ms) ≡ Err bad_files
unfolding changes_of
no_text k d ms h = rw h refl

pub no_label : (k : List ℕ) (t : Option (List ℕ)) (d : Data) (ms : Members) → text_or_null d ≡ Some t → is_label k ≡ false → changes_of (member k d ms) ≡ Err (bad_label k)
unfolding changes_of
no_label k t d ms h l = rw (h, l) refl

pub changes_done : (front : List Change) → after front (changes_of no_members) ≡ Ok front
unfolding changes_of
changes_done front = ap Ok (append-nil front)

-- a path, and the items after it
onto_all : (front more : List Change) (r : Result (List Change) (List ℕ)) → after front (r >>= λ cs. Ok (more ++ cs)) ≡ after (front ++ more) r
onto_all front more (Err why) = refl
onto_all front more (Ok cs) = ap Ok (sym (append_assoc front more cs))

pub gone_next : (front : List Change) (path : List ℕ) (d : Data) (ds : Items) → as_str d ≡ Some path
    → after front (gone_in (item d ds)) ≡ after (front ++ gone_at (label_of_path [] path)) (gone_in ds)
unfolding gone_in
gone_next front path d ds h = rw h (onto_all front (gone_at (label_of_path [] path)) (gone_in ds))

pub gone_stop : (d : Data) (ds : Items) → as_str d ≡ None → gone_in (item d ds) ≡ Err bad_changed
unfolding gone_in
gone_stop d ds h = rw h refl

pub gone_done : (front : List Change) → after front (gone_in no_items) ≡ Ok front
unfolding gone_in
gone_done front = ap Ok (append-nil front)

-- a text, and the items after it
pub texts_next : (front : List (List ℕ)) (t : List ℕ) (d : Data) (ds : Items) → as_str d ≡ Some t
    → after front (texts_in (item d ds)) ≡ after (front ++ t ∷ []) (texts_in ds)
unfolding texts_in
texts_next front t d ds h = rw h (onto front t (texts_in ds))

pub texts_stop : (d : Data) (ds : Items) → as_str d ≡ None → texts_in (item d ds) ≡ Err bad_roots
unfolding texts_in
texts_stop d ds h = rw h refl

pub texts_done : (front : List (List ℕ)) → after front (texts_in no_items) ≡ Ok front
unfolding texts_in
texts_done front = ap Ok (append-nil front)

-- a word, and the items after it
pub words_next : (w more : Wanted) (word : List ℕ) (d : Data) (ds : Items) → as_str d ≡ Some word → with_word w word ≡ Ok more → with_words w (item d ds) ≡ with_words more ds
unfolding with_words
words_next w more word d ds h k = rw (h, k) refl

pub words_stop : (w : Wanted) (d : Data) (ds : Items) → as_str d ≡ None → with_words w (item d ds) ≡ Err bad_with
unfolding with_words
words_stop w d ds h = rw h refl

pub words_unknown : (w : Wanted) (word : List ℕ) (d : Data) (ds : Items) → as_str d ≡ Some word → with_word w word ≡ Err bad_with → with_words w (item d ds) ≡ Err bad_with
unfolding with_words
words_unknown w word d ds h k = rw (h, k) refl

pub words_done : (w : Wanted) → with_words w no_items ≡ Ok w
unfolding with_words
words_done w = refl

-- a name, and the items after it
pub names_next : (ns : List (List ℕ)) (name : List ℕ) (d : Data) (ds : Items) → as_str d ≡ Some name → names_in ns (item d ds) ≡ names_in (with_name ns name) ds
unfolding names_in
names_next ns name d ds h = rw h refl

pub names_stop : (ns : List (List ℕ)) (d : Data) (ds : Items) → as_str d ≡ None → names_in ns (item d ds) ≡ Err bad_names
unfolding names_in
names_stop ns d ds h = rw h refl

pub names_done : (ns : List (List ℕ)) → names_in ns no_items ≡ Ok ns
unfolding names_in
names_done ns = refl

-- a member, and those after it
pub members_next : (o : Origin) (a more : Asking) (k : List ℕ) (d : Data) (ms : Members) → with_member o a k d ≡ Ok more → with_members o a (member k d ms) ≡ with_members o more ms
unfolding with_members
members_next o a more k d ms h = rw h refl

pub members_stop : (o : Origin) (a : Asking) (k : List ℕ) (d : Data) (ms : Members) (why : List ℕ) → with_member o a k d ≡ Err why → with_members o a (member k d ms) ≡ Err why
unfolding with_members
members_stop o a k d ms why h = rw h refl

pub members_done : (o : Origin) (a : Asking) → with_members o a no_members ≡ Ok a
unfolding with_members
members_done o a = refl

pub nothing_left : {A : Type 0} (es : List A) → (0 < length es → false ≡ true) → es ≡ []
nothing_left [] h = refl
nothing_left (e ∷ es) h = let wrong : false ≡ true = h (omega arith) in cc

-- the answer of `normal_label` for a text
pub label_is : (t : List ℕ) (o : Option Label) (l : Label) → option_map text_of o ≡ if_label t → o ≡ Some l → (is_label t ≡ true) × (text_of l ≡ t)
label_is t o l h e = from (is_label t) refl
  where
    from : (b : Bool) → is_label t ≡ b → (is_label t ≡ true) × (text_of l ≡ t)
    from true i = let is : Some (text_of l) ≡ Some t = rw i at (ap (option_map text_of) (sym e) ∙ h) in (i, (let equal : text_of l ≡ t = cc in equal))
    from false i = let wrong : Some (text_of l) ≡ None = rw i at (ap (option_map text_of) (sym e) ∙ h) in cc

pub label_not : (t : List ℕ) (o : Option Label) → option_map text_of o ≡ if_label t → o ≡ None → is_label t ≡ false
label_not t o h e = from (is_label t) refl
  where
    from : (b : Bool) → is_label t ≡ b → is_label t ≡ false
    from false i = i
    from true i = let wrong : None ≡ Some t = rw i at (ap (option_map text_of) (sym e) ∙ h) in cc

pub members_refused : (o : Origin) (a now : Asking) (all : Members) (k : List ℕ) (d : Data) (ms : Members) (e : RequestError) → with_members o a all ≡ with_members o now (member k d ms)
    → IsWhy e (with_member o now k d) → IsWhy e (with_members o a all)
members_refused o a now all k d ms e same (inl h) = inl h
members_refused o a now all k d ms e same (inr h) = inr (same ∙ members_stop o now k d ms _ h)

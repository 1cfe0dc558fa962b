-- The steps of a reading, at the values that the program has.
use Rattle.std.proofs.Common.{◌≡◌, ◌≢◌, ◌<◌, ◌≤◌, ◌+◌, inl, inr, ℕ, List, [], ◌∷◌, ◌++◌, map, length, take, Option, Some, None, refl, ap, sym, ◌∙◌, subst, String, string_bytes}
use Rattle.std.specs.BTreeMap.{insert_entry}
use Rattle.std.specs.Str.{IsUtf8}
use Rattle.std.specs.declared.alloc.Global.{Global}
use Rattle.std.proofs.lemmas.List.{take_all}
use Rattle.star_label.specs.declared.label.Label.{Label}
use Rattle.star_label.specs.contracts.label.LabelOrd.TheImpl.{cmp-value}
use Rattle.star_label.specs.Files.{File, file_of}
use Rattle.star_label.specs.View.{text_of}
use Rattle.star_bundle.specs.declared.error.ServeError.{ServeError}
use Rattle.star_bundle.specs.declared.error.ServeError.TheVariants as error
use Rattle.star_folder.proofs.Names.{long_front, whole_front}
use Rattle.star_repo.specs.declared.error.ReadError.TheVariants as why
use Rattle.star_repo.specs.declared.found.ReadFile.{ReadFile}
use Rattle.star_repo.specs.Held.{Held, Said, Tells, TellsFront}
use Rattle.star_repo.specs.Reach.{Words}
use Rattle.star_repo.specs.Refusal.{Refuses, Stands}
use Rattle.star_words.specs.Rows.{IsIn}
use Rattle.star_repo.specs.Views.{IsUnknown, Says, answer_of, answers_in, failed_read, fresh_answer}
use Rattle.star_repo.specs.Way.{Answer, IsBelow, IsLooked, IsWay}
use Rattle.star_repo.proofs.Labels.{Entry, entry_from, entry_to, in_back, in_either, in_front, in_map, of_map}
use Rattle.star_repo.proofs.Ways.{fails, finds, misses, not_fresh, refuses, same_way}

abbrev pub Fresh : Type 0
Fresh = Label × String Global

abbrev pub ins : List Entry → Label → Option ReadFile → List Entry
ins es l v = insert_entry cmp-value.it es l v

-- ---- the bytes read of a file

some_same : {A : Type 0} (a b : A) → Some a ≡ Some b → a ≡ b
some_same a b e = cc

some_none : {A : Type 0} (a : A) → Some a ≡ None → ⊥
some_none a e = cc

-- a front is the front of some text, which is the file if the folder tells of it
pub front_of : (o : Option (Option (List ℕ))) (front : List ℕ) → TellsFront o (Some front) → (all : List ℕ) × Tells o (Some all) × (front ≡ take 1048577 all)
front_of None front h = (front, tt, sym (take_all 1048577 front h))
front_of (Some None) front h = absurd (some_none front h)
front_of (Some (Some all)) front h = (all, refl, some_same front (take 1048577 all) h)

pub whole_told : (o : Option (Option (List ℕ))) (front : List ℕ) → TellsFront o (Some front) → length front ≤ 1048576 → Tells o (Some front)
whole_told o front h short = let f = front_of o front h in subst (λ x. Tells o (Some x)) (sym (whole_front f.0 front f.2 short)) f.1

pub no_file_told : (o : Option (Option (List ℕ))) → TellsFront o None → Tells o None
no_file_told None h = tt
no_file_told (Some None) h = refl
no_file_told (Some (Some all)) h = absurd (some_none _ (sym h))

pub refuses_all : (count size : ℕ) (all front : List ℕ) (e : ServeError) → front ≡ take 1048577 all → Refuses count size front e → Refuses count size all e
refuses_all count size all front error.Read q h = h
refuses_all count size all front error.TooBig q h =
    let same = whole_front all front q h.1 in
    (h.0, subst (λ b. length b ≤ 1048576) same h.1, subst IsUtf8 same h.2, subst (λ b. 268435456 < size + length b) same h.3)
refuses_all count size all front error.BadDir q h = h
refuses_all count size all front error.BadFile q h = tt
refuses_all count size all front error.NotText q h =
    let same = whole_front all front q h.1 in
    (h.0, subst (λ b. length b ≤ 1048576) same h.1, λ text. h.2 (subst IsUtf8 (sym same) text))
refuses_all count size all front error.BadBundle q h = h
refuses_all count size all front error.BadKey q h = h
refuses_all count size all front error.TooMany q h = h
refuses_all count size all front error.TooLong q h = (h.0, long_front all front q h.1)
refuses_all count size all front error.BadRoot q h = h
refuses_all count size all front error.NoRoot q h = h
refuses_all count size all front error.BadPrelude q h = h
refuses_all count size all front error.NoPrelude q h = h
refuses_all count size all front error.Memory q h = h
refuses_all count size all front error.Write q h = h
refuses_all count size all front error.Unpublished q h = h
refuses_all count size all front error.BadRecord q h = elim h [ ]

stands_so : (held : Held) (l bytes : List ℕ) (e : ServeError) → held l ≡ Some bytes → Stands held l bytes e
stands_so held l bytes error.BadFile h = tt
stands_so held l bytes e h = h

pub none_failed : (label : Label) (e : ServeError) → e ≢ error.BadFile → failed_read (why.Refused label e) ≡ 0
none_failed label error.BadFile k = absurd (k refl)
none_failed label e k = refl

-- ---- one label

module _ (said : Said) (words : Words) (d : ℕ) (fresh : List Fresh) (looked : List Entry) (rest : List (List ℕ)) (count size : ℕ) (l : Label)
    (new : IsUnknown l looked) (below : IsBelow (text_of l) rest) (way : IsWay said words d (answers_in fresh looked) (map file_of fresh) (text_of l ∷ rest) count size) where
  new_there : IsLooked (text_of l) (answers_in fresh looked) → ⊥
  new_there (o, i) = elim (in_either _ (map fresh_answer fresh) (map answer_of looked) i) [
    | inl j ↦ let f = of_map fresh_answer fresh (text_of l, o) j in
        let stands : IsIn (text_of l, string_bytes f.0.1) (map file_of fresh) = subst (λ x. IsIn (x, string_bytes f.0.1) (map file_of fresh)) (ap (λ (a : Answer). a.0) f.2) (in_map file_of fresh f.0 f.1) in
        not_fresh said words d (answers_in fresh looked) (map file_of fresh) rest count size (text_of l) (string_bytes f.0.1) way stands
    | inr j ↦ new (o, j)
  ]

  pub missed : Tells (said (text_of l)) None → IsWay said words d (answers_in fresh (ins looked l None)) (map file_of fresh) rest count size
  missed told =
      same_way said words d ((text_of l, None) ∷ answers_in fresh looked) (answers_in fresh (ins looked l None)) (map file_of fresh) (map file_of fresh) rest count size (λ y. (to y, from y)) (λ f. ((λ h. h), (λ h. h)))
      (misses said words d (answers_in fresh looked) (map file_of fresh) rest count size (text_of l) new_there below told way)
    where
      apart : (o : Option (List ℕ)) → IsIn (text_of l, o) (map answer_of looked) → o ≡ None
      apart o i = absurd (new (o, i))

      to : (y : Answer) → IsIn y ((text_of l, None) ∷ answers_in fresh looked) → IsIn y (answers_in fresh (ins looked l None))
      to y (inl e) = in_back y (map fresh_answer fresh) _ (entry_to looked l None y apart (inl e))
      to y (inr i) = elim (in_either y (map fresh_answer fresh) (map answer_of looked) i) [
        | inl j ↦ in_front y (map fresh_answer fresh) _ j
        | inr j ↦ in_back y (map fresh_answer fresh) _ (entry_to looked l None y apart (inr j))
      ]

      from : (y : Answer) → IsIn y (answers_in fresh (ins looked l None)) → IsIn y ((text_of l, None) ∷ answers_in fresh looked)
      from y i = elim (in_either y (map fresh_answer fresh) (map answer_of (ins looked l None)) i) [
        | inl j ↦ inr (in_front y (map fresh_answer fresh) _ j)
        | inr j ↦ elim (entry_from looked l None y j) [
          | inl e ↦ inl e
          | inr k ↦ inr (in_back y (map fresh_answer fresh) _ k)
        ]
      ]

  pub refused_so : (front : List ℕ) (e : ServeError) → TellsFront (said (text_of l)) (Some front) → Refuses count size front e → Says said words (why.Refused l e)
  refused_so front e told refused =
      let f = front_of (said (text_of l)) front told in
      refuses said words d (answers_in fresh looked) (map file_of fresh) rest count size (text_of l) f.0 e new_there below f.1 way (refuses_all count size f.0 front e f.2 refused) (λ held h. stands_so held (text_of l) f.0 e h)

  pub failed_so : Says said words (why.Refused l error.BadFile)
  failed_so = fails said words d (answers_in fresh looked) (map file_of fresh) rest count size (text_of l) new_there below way

  module _ (text : String Global) where
    abbrev more : List Fresh
    more = fresh ++ (l, text) ∷ []

    answers_to : (y : Answer) → IsIn y ((text_of l, Some (string_bytes text)) ∷ answers_in fresh looked) → IsIn y (answers_in more looked)
    answers_to y (inl e) = in_front y (map fresh_answer more) _ (subst (λ x. IsIn x (map fresh_answer more)) e (in_map fresh_answer more (l, text) (in_back _ fresh _ (inl refl))))
    answers_to y (inr i) = elim (in_either y (map fresh_answer fresh) (map answer_of looked) i) [
      | inl j ↦ let f = of_map fresh_answer fresh y j in in_front y (map fresh_answer more) _ (subst (λ x. IsIn x (map fresh_answer more)) f.2 (in_map fresh_answer more f.0 (in_front _ fresh _ f.1)))
      | inr j ↦ in_back y (map fresh_answer more) _ j
    ]

    answers_from : (y : Answer) → IsIn y (answers_in more looked) → IsIn y ((text_of l, Some (string_bytes text)) ∷ answers_in fresh looked)
    answers_from y i = elim (in_either y (map fresh_answer more) (map answer_of looked) i) [
      | inl j ↦ let f = of_map fresh_answer more y j in elim (in_either f.0 fresh ((l, text) ∷ []) f.1) [
        | inl k ↦ inr (in_front y (map fresh_answer fresh) _ (subst (λ x. IsIn x (map fresh_answer fresh)) f.2 (in_map fresh_answer fresh f.0 k)))
        | inr (inl e) ↦ inl (ap fresh_answer e ∙ f.2)
        | inr (inr k) ↦ absurd k
      ]
      | inr j ↦ inr (in_back y (map fresh_answer fresh) _ j)
    ]

    files_to : (f : File) → IsIn f (file_of (l, text) ∷ map file_of fresh) → IsIn f (map file_of more)
    files_to f (inl e) = subst (λ x. IsIn x (map file_of more)) e (in_map file_of more (l, text) (in_back _ fresh _ (inl refl)))
    files_to f (inr i) = let g = of_map file_of fresh f i in subst (λ x. IsIn x (map file_of more)) g.2 (in_map file_of more g.0 (in_front _ fresh _ g.1))

    files_from : (f : File) → IsIn f (map file_of more) → IsIn f (file_of (l, text) ∷ map file_of fresh)
    files_from f i = let g = of_map file_of more f i in elim (in_either g.0 fresh ((l, text) ∷ []) g.1) [
      | inl k ↦ inr (subst (λ x. IsIn x (map file_of fresh)) g.2 (in_map file_of fresh g.0 k))
      | inr (inl e) ↦ inl (ap file_of e ∙ g.2)
      | inr (inr k) ↦ absurd k
    ]

    pub met : Tells (said (text_of l)) (Some (string_bytes text)) → count < 10000 → length (string_bytes text) ≤ 1048576 → IsUtf8 (string_bytes text) → size + length (string_bytes text) ≤ 268435456
        → IsWay said words d (answers_in more looked) (map file_of more) rest (count + 1) (size + length (string_bytes text))
    met told few short is_text small =
        same_way said words d ((text_of l, Some (string_bytes text)) ∷ answers_in fresh looked) (answers_in more looked) (file_of (l, text) ∷ map file_of fresh) (map file_of more) rest (count + 1) (size + length (string_bytes text))
        (λ y. (answers_to y, answers_from y)) (λ f. (files_to f, files_from f))
        (finds said words d (answers_in fresh looked) (map file_of fresh) rest count size (text_of l) (string_bytes text) new_there below told few short is_text small way)

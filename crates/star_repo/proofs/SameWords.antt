-- The files asked for by the labels of roots and of a prelude, and by all of these as roots.
use Rattle.std.proofs.Common.{◌≡◌, ◌⊎◌, inl, inr, ℕ, zero, suc, List, Option, None, Some}
use Rattle.std.specs.Prelude.{◌↔◌, Contains}
use Rattle.star_label.specs.Files.{File}
use Rattle.star_label.specs.declared.label.Label.{Label}
use Rattle.star_bundle.specs.declared.error.ServeError.{ServeError}
use Rattle.star_words.specs.Named.{AreAsked, labels_of}
use Rattle.star_words.specs.Rows.{IsIn}
use Rattle.star_repo.specs.Held.{Held}
use Rattle.star_repo.specs.Reach.{AreReachedFiles, IsReachedOf, Words, root, prelude, load}
use Rattle.star_repo.specs.Refusal.{AreBefore, IsRefusedAt, IsRound, ReachedIn}
use Rattle.star_repo.specs.Views.{words_of}
use Rattle.star_repo.proofs.Rows.{from_in, to_in}

-- the same labels are asked for
abbrev pub SameWords : Words → Words → Type 0
SameWords v w = (held : Held) (l : List ℕ) → ReachedIn held v 0 l ↔ ReachedIn held w 0 l

module _ (held : Held) (v w : Words) (same : SameWords v w) where
  round_to : (d : ℕ) (l : List ℕ) → ReachedIn held v d l → ReachedIn held w d l
  round_to zero l h = (same held l).0 h
  round_to (suc d) l h = (h.0, h.1, round_to d h.0 h.2, h.3, h.4)

  round_from : (d : ℕ) (l : List ℕ) → ReachedIn held w d l → ReachedIn held v d l
  round_from zero l h = (same held l).1 h
  round_from (suc d) l h = (h.0, h.1, round_from d h.0 h.2, h.3, h.4)

  is_round : (d : ℕ) (l : List ℕ) → IsRound held v d l → IsRound held w d l
  is_round d l r = record { reached = round_to d l r.reached; fewest = λ e h. r.fewest e (round_from e l h) }

  was_round : (d : ℕ) (l : List ℕ) → IsRound held w d l → IsRound held v d l
  was_round d l r = record { reached = round_from d l r.reached; fewest = λ e h. r.fewest e (round_to e l h) }

  pub same_refusal : (l : List ℕ) (e : ServeError) → IsRefusedAt held v l e → IsRefusedAt held w l e
  same_refusal l e r = record {
    rounds = r.rounds;
    bytes = r.bytes;
    front = r.front;
    round = is_round r.rounds l r.round;
    there = r.there;
    before = record {
      ordered = r.before.ordered;
      are = λ m text. (
        (λ c. let b = (r.before.are m text).0 c in (b.0, is_round b.0 m b.1, b.2, b.3)),
        (λ b. (r.before.are m text).1 (b.0, was_round b.0 m b.1, b.2, b.3)),
      );
    };
    passed = r.passed;
    refused = r.refused;
  }

  start_to : (l : List ℕ) → ReachedIn held v 0 l → IsReachedOf held w l
  start_to l h = elim ((same held l).0 h) [ inl c ↦ root c | inr e ↦ prelude e ]

  start_from : (l : List ℕ) → ReachedIn held w 0 l → IsReachedOf held v l
  start_from l h = elim ((same held l).1 h) [ inl c ↦ root c | inr e ↦ prelude e ]

  reached_to : (l : List ℕ) → IsReachedOf held v l → IsReachedOf held w l
  reached_to l (root c) = start_to l (inl c)
  reached_to l (prelude e) = start_to l (inr e)
  reached_to l (load {l = k} r e h) = load (reached_to k r) e h

  reached_from : (l : List ℕ) → IsReachedOf held w l → IsReachedOf held v l
  reached_from l (root c) = start_from l (inl c)
  reached_from l (prelude e) = start_from l (inr e)
  reached_from l (load {l = k} r e h) = load (reached_from k r) e h

  pub same_files : (files : List File) → AreReachedFiles held v files → AreReachedFiles held w files
  same_files files a = record {
    ordered = a.ordered;
    are = λ l text. (
      (λ c. let is = (a.are l text).0 c in (reached_to l is.0, is.1)),
      (λ is. (a.are l text).1 (reached_from l is.0, is.1)),
    );
  }

-- the labels that are asked for, all as roots, ask for the same
pub asked_words : (roots : List (List ℕ)) (given : Option (List ℕ)) (labels : List Label) → AreAsked roots given (labels_of labels) → SameWords (words_of labels) (record { roots = roots; prelude = given })
asked_words roots given labels a held l = (
  (λ h. elim h [
    | inl c ↦ elim ((a.labels_are l).0 (to_in (labels_of labels) l c)) [
      | inl i ↦ inl (from_in roots l i)
      | inr e ↦ inr e
    ]
    | inr e ↦ absurd (let no : ⊥ = cc in no)
  ]),
  (λ h. inl (from_in (labels_of labels) l ((a.labels_are l).1 (elim h [
    | inl c ↦ inl (to_in roots l c)
    | inr e ↦ inr e
  ])))),
)

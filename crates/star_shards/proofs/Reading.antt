-- What has been read of lines so far.
use Rattle.std.proofs.Common.{◌≡◌, ℕ, ◌+◌, ◌<◌, Bool, true, false, ◌&&◌, List, [], ◌∷◌, ◌++◌, length, take, refl, ap, arith, sym, ◌∙◌, subst}
use Rattle.std.specs.Prelude.{All, slice_index_or}
use Rattle.std.proofs.lemmas.List.{append_assoc, append-nil, get_or_at, length-append, map-append}
use Rattle.std.proofs.lemmas.List.Elements.{All-append, All-contains, All-nil, All-push, All-take, Contains-push}
use Rattle.star_shards.specs.Joined.{all_entries}
use Rattle.star_shards.specs.Lines.{AreReports, IsCheck, IsReport, IsRun, Report, lines}
use Rattle.star_shards.specs.Read.{AreOfLines, IsOfLine, IsRead, Says, texts}
use Rattle.star_shards.specs.declared.entry.Entry.{Entry}
use Rattle.star_shards.specs.declared.line.Line.{Line}
use Rattle.star_shards.specs.declared.lines.Lines.{Lines}

pub record SoFar (input rest : List ℕ) (count : ℕ) (ls : Lines) : Type 0 where
  pub done : List (List ℕ)
  pub reports : List Report
  pub lines_are : lines input ≡ done ++ lines rest
  pub count_is : count ≡ length done
  pub read : AreReports done reports
  pub entries_are : all_entries reports ≡ texts ls.entries.items
  pub each : All IsRead ls.entries.items
  pub runs : Says ls.are_runs (All IsRun reports)
  pub checks : Says ls.are_checks (All IsCheck reports)

pub begins : (input : List ℕ) (ls : Lines) → ls.entries.items ≡ [] → ls.are_runs ≡ true → ls.are_checks ≡ true → SoFar input input 0 ls
unfolding AreReports all_entries
begins input ls none runs checks = record {
  done = [];
  reports = [];
  lines_are = refl;
  count_is = refl;
  read = tt;
  entries_are = ap texts (sym none);
  each = subst (All IsRead) (sym none) (All-nil IsRead);
  runs = subst (λ b. Says b (All IsRun [])) (sym runs) (All-nil IsRun);
  checks = subst (λ b. Says b (All IsCheck [])) (sym checks) (All-nil IsCheck);
}

reports_more : (ls : List (List ℕ)) (rs : List Report) (l : List ℕ) (r : Report) → AreReports ls rs → IsReport l r → AreReports (ls ++ l ∷ []) (rs ++ r ∷ [])
unfolding AreReports
reports_more [] [] l r are is = (is, tt)
reports_more [] (q ∷ rs) l r are is = absurd are
reports_more (k ∷ ls) [] l r are is = absurd are
reports_more (k ∷ ls) (q ∷ rs) l r are is = (are.0, reports_more ls rs l r are.1 is)

entries_more : (rs : List Report) (r : Report) → all_entries (rs ++ r ∷ []) ≡ all_entries rs ++ r.entries
unfolding all_entries
entries_more [] r = append-nil r.entries
entries_more (q ∷ rs) r = ap (λ es. q.entries ++ es) (entries_more rs r) ∙ sym (append_assoc q.entries (all_entries rs) r.entries)

all_last : {X : Type 0} (P : X → Type 0) (xs : List X) (x : X) → All P (xs ++ x ∷ []) → P x
all_last P xs x all = All-contains P (xs ++ x ∷ []) x all (Contains-push xs x)

take_front : {X : Type 0} (xs ys : List X) → take (length xs) (xs ++ ys) ≡ xs
take_front [] ys = refl
take_front (x ∷ xs) ys = ap (λ zs. x ∷ zs) (take_front xs ys)

all_front : {X : Type 0} (P : X → Type 0) (xs : List X) (x : X) → All P (xs ++ x ∷ []) → All P xs
all_front P xs x all = subst (All P) (take_front xs (x ∷ [])) (All-take P (length xs) (xs ++ x ∷ []) all)

says_more : (a b : Bool) (P : Report → Type 0) (rs : List Report) (r : Report) → Says a (All P rs) → Says b (P r) → Says (a && b) (All P (rs ++ r ∷ []))
says_more true true P rs r all one = All-push P rs r all one
says_more true false P rs r all other = λ h. other (all_last P rs r h)
says_more false b P rs r other one = λ h. other (all_front P rs r h)

pub one_more : (input rest more line : List ℕ) (count : ℕ) (old new : Lines) (l : Line) → SoFar input rest count old → lines rest ≡ line ∷ lines more → IsOfLine line l
    → new.entries.items ≡ old.entries.items ++ l.entries.items → new.are_runs ≡ (old.are_runs && l.is_run) → new.are_checks ≡ (old.are_checks && l.is_check) → SoFar input more (count + 1) new
one_more input rest more line count old new l so_far cut of entries runs checks =
    let r = of.0 in record {
      done = so_far.done ++ line ∷ [];
      reports = so_far.reports ++ r ∷ [];
      lines_are = so_far.lines_are ∙ ap (λ ls. so_far.done ++ ls) cut ∙ sym (append_assoc so_far.done (line ∷ []) (lines more));
      count_is = ap (λ n. n + 1) so_far.count_is ∙ sym (length-append so_far.done (line ∷ []));
      read = reports_more so_far.done so_far.reports line r so_far.read of.1;
      entries_are = entries_more so_far.reports r ∙ ap (λ es. es ++ r.entries) so_far.entries_are ∙ ap (λ es. texts old.entries.items ++ es) of.2
          ∙ sym (map-append (λ (e : Entry). e.text.now) old.entries.items l.entries.items) ∙ ap texts (sym entries);
      each = subst (All IsRead) (sym entries) (All-append IsRead old.entries.items l.entries.items so_far.each of.3);
      runs = subst (λ b. Says b (All IsRun (so_far.reports ++ r ∷ []))) (sym runs) (says_more old.are_runs l.is_run IsRun so_far.reports r so_far.runs of.4);
      checks = subst (λ b. Says b (All IsCheck (so_far.reports ++ r ∷ []))) (sym checks) (says_more old.are_checks l.is_check IsCheck so_far.reports r so_far.checks of.5);
    }

pub refused : (input rest more line : List ℕ) (count : ℕ) (ls : Lines) → SoFar input rest count ls → lines rest ≡ line ∷ lines more → ((r : Report) → IsReport line r → ⊥)
    → (count < length (lines input)) × ((r : Report) → IsReport (slice_index_or (lines input) count []) r → ⊥)
refused input rest more line count ls so_far cut none =
    let all : lines input ≡ so_far.done ++ line ∷ lines more = so_far.lines_are ∙ ap (λ ks. so_far.done ++ ks) cut in
    let size = ap length all ∙ length-append so_far.done (line ∷ lines more) in
    let here : slice_index_or (lines input) count [] ≡ line = ap (λ ks. slice_index_or ks count []) all ∙ get_or_at so_far.done line (lines more) [] count (sym so_far.count_is) in
    (omega (arith, size, so_far.count_is), λ r report. none r (subst (λ k. IsReport k r) here report))

pub all_read : (input rest : List ℕ) (count : ℕ) (ls : Lines) → SoFar input rest count ls → lines rest ≡ [] → AreOfLines input ls
all_read input rest count ls so_far none =
    let all : lines input ≡ so_far.done = so_far.lines_are ∙ ap (λ ks. so_far.done ++ ks) none ∙ append-nil so_far.done in
    (so_far.reports, subst (λ ks. AreReports ks so_far.reports) (sym all) so_far.read, so_far.entries_are, so_far.each, so_far.runs, so_far.checks)

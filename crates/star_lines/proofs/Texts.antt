-- The texts of reports, one after another, are lines, and each line is one report.
use Rattle.std.proofs.Common.{◌≡◌, ◌<◌, ◌^◌, ℕ, List, [], ◌∷◌, ◌++◌, map, length, refl, ap, sym, ◌∙◌, subst, arith}
use Rattle.std.specs.Prelude.{Contains}
use Rattle.std.specs.List.{All, concat}
use Rattle.std.proofs.lemmas.List.{append_assoc, length-append}
use Rattle.std.proofs.lemmas.List.Elements.{All-cons, All-nil}
use Rattle.star_label.specs.Files.{File, IsOrdered}
use Rattle.star_plan.specs.Plan.{Plan}
use Rattle.star_plan.specs.Reading.{IsPlanOf}
use Rattle.star_report.specs.Wanted.{Full, IsFullText, full_data}
use Rattle.star_report.specs.declared.wanted.Wanted.{Wanted}
use Rattle.star_shards.specs.Joined.{IsJoinedText}
use Rattle.star_shards.specs.Lines.{AreReports, IsOneLine, IsReport, Report, ended, lines, report_text}
use Rattle.star_shards.proofs.LineEnds.{data_are_one_line, lines_are_cut, one_report, reports_are_one_line}
use Rattle.star_lines.specs.Joins.{AreOf, AreParts, AreTexts, HasRoot, IsOf, JoinsAreReports}
use Rattle.star_lines.specs.Lines.{HavePlainLabels, IsWhole, entry_text}
use Rattle.star_lines.proofs.Joins.{reports_join}
use Rattle.star_lines.proofs.Lines.{reports_are_lines}

entries_are : (files : List File) (fulls : List Full) → All IsOneLine (map (entry_text files) fulls)
entries_are files [] = All-nil IsOneLine
entries_are files (f ∷ fs) = All-cons IsOneLine (entry_text files f) (map (entry_text files) fs) (data_are_one_line (full_data files f)) (entries_are files fs)

-- a line of its own, which is such a report
record Line (wanted : Wanted) (files : List File) (p : Plan) (t : List ℕ) : Type 0 where
  line : List ℕ
  text_is : t ≡ line ++ 10 ∷ []
  unbroken : IsOneLine line
  report : Report
  is : IsReport line report
  of : IsOf wanted files p report

line_of : (wanted : Wanted) (files : List File) (p : Plan) (t : List ℕ) → IsWhole wanted → HavePlainLabels files → IsFullText wanted files p t → Line wanted files p t
line_of wanted files p t shown labels x =
    let l = reports_are_lines wanted files p t shown labels x in
    let r : Report = record { begun = x.begun; entries = map (entry_text files) x.fulls } in
    record {
      line = l.line;
      text_is = l.text_is;
      unbroken = subst IsOneLine (sym l.report.line_is) (reports_are_one_line r (entries_are files x.fulls));
      report = r;
      is = l.report;
      of = record { text = t; whole = x; report = refl };
    }

-- the lines of texts, and their reports
record Rows (wanted : Wanted) (files : List File) (ps : List Plan) (ts : List (List ℕ)) : Type 0 where
  texts : List (List ℕ)
  joined : concat ts ≡ ended texts
  ones : All IsOneLine texts
  reports : List Report
  are : AreReports texts reports
  of : AreOf wanted files ps reports

rows_of : (wanted : Wanted) (files : List File) (ps : List Plan) (ts : List (List ℕ)) → IsWhole wanted → HavePlainLabels files → AreTexts wanted files ps ts → Rows wanted files ps ts
unfolding AreTexts AreOf AreReports ended
rows_of wanted files [] [] shown labels h =
    record { texts = []; joined = refl; ones = All-nil IsOneLine; reports = []; are = tt; of = tt }
rows_of wanted files [] (t ∷ ts) shown labels h = absurd h
rows_of wanted files (p ∷ ps) [] shown labels h = absurd h
rows_of wanted files (p ∷ ps) (t ∷ ts) shown labels h =
    let l = line_of wanted files p t shown labels h.0 in
    let rest = rows_of wanted files ps ts shown labels h.1 in
    record {
      texts = l.line ∷ rest.texts;
      joined = ap (λ w. w ++ concat ts) l.text_is ∙ append_assoc l.line (10 ∷ []) (concat ts) ∙ ap (λ w. l.line ++ 10 ∷ w) rest.joined;
      ones = All-cons IsOneLine l.line rest.texts l.unbroken rest.ones;
      reports = l.report ∷ rest.reports;
      are = (l.is, rest.are);
      of = (l.of, rest.of);
    }

-- short lines are one row of reports
one_row : (ls : List (List ℕ)) (rs ss : List Report) → length (ended ls) < 2 ^ 63 → AreReports ls rs → AreReports ls ss → rs ≡ ss
unfolding ended AreReports
one_row [] [] [] small h g = refl
one_row [] [] (s ∷ ss) small h g = absurd g
one_row [] (r ∷ rs) ss small h g = absurd h
one_row (l ∷ ls) [] ss small h g = absurd h
one_row (l ∷ ls) (r ∷ rs) [] small h g = absurd g
one_row (l ∷ ls) (r ∷ rs) (s ∷ ss) small h g =
    let size = length-append l (10 ∷ ended ls) in
    let own : length l < 2 ^ 63 = omega (arith, small, size) in
    let rest : length (ended ls) < 2 ^ 63 = omega (arith, small, size) in
    ap (λ w. w ∷ rs) (one_report l r s own h.0 g.0) ∙ ap (λ ws. s ∷ ws) (one_row ls rs ss rest h.1 g.1)

pub joins_are_reports : JoinsAreReports
joins_are_reports wanted files ps ts plan text joined shown labels ordered also parts all texts whole small of =
    ap (λ (r : Report). report_text r ++ 10 ∷ []) same ∙ sym (ap (λ w. w ++ 10 ∷ []) own.is.line_is) ∙ sym own.text_is
  where
    rows : Rows wanted files ps ts
    rows = rows_of wanted files ps ts shown labels texts

    cut : lines (concat ts) ≡ rows.texts
    cut = ap lines rows.joined ∙ lines_are_cut rows.texts rows.ones

    reports : of.0 ≡ rows.reports
    reports = one_row rows.texts of.0 rows.reports (subst (λ w. length w < 2 ^ 63) rows.joined small) (subst (λ ls. AreReports ls of.0) cut of.1) rows.are

    own : Line wanted files plan text
    own = line_of wanted files plan text shown labels whole

    same : joined ≡ own.report
    same = reports_join wanted files ps of.0 plan own.report joined shown labels ordered also parts all (subst (AreOf wanted files ps) (sym reports) rows.of) own.of of.2

-- Parts of a session, one after another.
use Rattle.std.proofs.Common.{◌≡◌, ◌≢◌, ℕ, List, [], ◌∷◌, ◌++◌, Bool, true, false, Option, Result, Ok, Err, map, not, refl, ap, sym, ◌∙◌, subst, append_assoc}
use Rattle.std.specs.List.{concat}
use Rattle.std.specs.Prelude.{IfErr, IfOk, MatchResult}
use Rattle.std.proofs.lemmas.List.{append-nil, map-append}
use Rattle.std.proofs.lemmas.List.Elements.{All-append, All-cons, All-nil}
use Rattle.std.proofs.lemmas.List.Folds.{concat-append}
use Rattle.star_label.specs.Files.{File}
use Rattle.star_serve.specs.Stream.{Adds, Gives, GivesAll, Said}
use Rattle.star_serve.proofs.Streams.{Adds-more, Gives-more}
use Rattle.star_session.specs.Answers.{Answering, AreAnswered, no_memory_line}
use Rattle.star_session.specs.Lines.{IsOneLine, IsPiece, IsTaken, Takes, TakesAll, lines_of}
use Rattle.star_session.specs.Session.{IsPart, IsRest, IsSession, IsStep, ended}
use Rattle.star_session.specs.declared.lines.Line.{Line}
use Rattle.star_session.proofs.Takings.{Adds-none, Gives-none}
use Rattle.star_session.proofs.OfLines.{first_lines, last_line, no_line}

pub then_answered : (d : Answering) (a b c : List File) (ls ms : List (List ℕ)) (xs ys : List (List ℕ)) → AreAnswered d a ls b xs → AreAnswered d b ms c ys → AreAnswered d a (ls ++ ms) c (xs ++ ys)
then_answered d a b c [] ms [] ys h k = subst (λ f. AreAnswered d f ms c ys) h k
then_answered d a b c [] ms (x ∷ xs) ys h k = absurd h
then_answered d a b c (l ∷ ls) ms [] ys h k = absurd h
then_answered d a b c (l ∷ ls) ms (x ∷ xs) ys (f, one, more) k = (f, one, then_answered d f b c ls ms xs ys more k)

Gives-all : (a b c : Said) (x y : List ℕ) → Gives a b x → GivesAll b c y → GivesAll a c (x ++ y)
Gives-all a b c x y h g = (Gives-more a b c x y h g.0, g.1, g.2)

pub Adds-concat : (a b c : Option (List ℕ)) (xs ys : List (List ℕ)) → Adds a b (concat xs) → Adds b c (concat ys) → Adds a c (concat (xs ++ ys))
Adds-concat a b c xs ys h g = subst (Adds a c) (sym (concat-append xs ys)) (Adds-more a b c (concat xs) (concat ys) h g)

-- the bytes that were ahead, and those that were read in two steps
split_on : (ahead g1 first mid g2 more left : List ℕ) → ahead ++ g1 ≡ first ++ mid → mid ++ g2 ≡ more ++ left → ahead ++ (g1 ++ g2) ≡ first ++ (more ++ left)
split_on ahead g1 first mid g2 more left h k =
    sym (append_assoc ahead g1 g2) ∙ ap (λ t. t ++ g2) h ∙ append_assoc first mid g2 ∙ ap (λ t. first ++ t) k

concat_ended : (ls ms : List (List ℕ)) → concat (map ended (ls ++ ms)) ≡ concat (map ended ls) ++ concat (map ended ms)
concat_ended ls ms = ap concat (map-append ended ls ms) ∙ concat-append (map ended ls) (map ended ms)

pub part_then_part : (d : Answering) (s0 s1 s2 : Said) (h0 h1 h2 : List ℕ) (t0 t1 t2 : Option (List ℕ)) (f0 f1 f2 : List File)
    → IsPart d s0 s1 h0 h1 t0 t1 f0 f1 → IsPart d s1 s2 h1 h2 t1 t2 f1 f2 → IsPart d s0 s2 h0 h2 t0 t2 f0 f2
part_then_part d s0 s1 s2 h0 h1 h2 t0 t1 t2 f0 f1 f2 p q = record {
  given = p.given ++ q.given;
  gives = Gives-more s0 s1 s2 p.given q.given p.gives q.gives;
  lines = p.lines ++ q.lines;
  split = split_on h0 p.given (concat (map ended p.lines)) h1 q.given (concat (map ended q.lines)) h2 p.split q.split
      ∙ sym (append_assoc (concat (map ended p.lines)) (concat (map ended q.lines)) h2)
      ∙ ap (λ t. t ++ h2) (sym (concat_ended p.lines q.lines));
  whole = All-append IsOneLine p.lines q.lines p.whole q.whole;
  answers = p.answers ++ q.answers;
  writes = Adds-concat t0 t1 t2 p.answers q.answers p.writes q.writes;
  answered = then_answered d f0 f1 f2 p.lines q.lines p.answers q.answers p.answered q.answered;
}

pub part_then_rest : (d : Answering) (s0 s1 s2 : Said) (h0 h1 : List ℕ) (t0 t1 t2 : Option (List ℕ)) (f0 f1 : List File)
    → IsPart d s0 s1 h0 h1 t0 t1 f0 f1 → IsRest d s1 s2 h1 t1 t2 f1 → IsRest d s0 s2 h0 t0 t2 f0
part_then_rest d s0 s1 s2 h0 h1 t0 t1 t2 f0 f1 p q =
    let text : h0 ++ (p.given ++ q.given) ≡ concat (map ended p.lines) ++ (h1 ++ q.given) =
    sym (append_assoc h0 p.given q.given) ∙ ap (λ t. t ++ q.given) p.split ∙ append_assoc (concat (map ended p.lines)) h1 q.given in
    let are : lines_of (h0 ++ (p.given ++ q.given)) ≡ p.lines ++ lines_of (h1 ++ q.given) =
    ap lines_of text ∙ first_lines p.lines (h1 ++ q.given) p.whole in
    record {
      given = p.given ++ q.given;
      all_read = Gives-all s0 s1 s2 p.given q.given p.gives q.all_read;
      answers = p.answers ++ q.answers;
      writes = Adds-concat t0 t1 t2 p.answers q.answers p.writes q.writes;
      after = q.after;
      answered = subst (λ ls. AreAnswered d f0 ls q.after (p.answers ++ q.answers)) (sym are) (then_answered d f0 f1 q.after p.lines (lines_of (h1 ++ q.given)) p.answers q.answers p.answered q.answered);
    }

-- nothing yet
pub no_part : (d : Answering) (s : Said) (h : List ℕ) (t : Option (List ℕ)) (f : List File) → IsPart d s s h h t t f f
no_part d s h t f = record {
  given = [];
  gives = Gives-none s;
  lines = [];
  split = append-nil h;
  whole = All-nil IsOneLine;
  answers = [];
  writes = Adds-none t;
  answered = refl;
}

-- a line was taken and answered
pub one_part : (d : Answering) (s0 s1 : Said) (h0 h1 line : List ℕ) (t0 t1 : Option (List ℕ)) (f0 f1 : List File) (answer : List ℕ)
    → Takes s0 s1 h0 h1 line → IsOneLine line → Adds t0 t1 answer → d f0 line f1 answer → IsPart d s0 s1 h0 h1 t0 t1 f0 f1
one_part d s0 s1 h0 h1 line t0 t1 f0 f1 answer took one wrote is = record {
  given = took.given;
  gives = took.gives;
  lines = line ∷ [];
  split = took.split ∙ sym (append_assoc line (10 ∷ []) h1) ∙ ap (λ t. t ++ h1) (sym (append-nil (ended line)));
  whole = All-cons IsOneLine line [] one (All-nil IsOneLine);
  answers = answer ∷ [];
  writes = subst (Adds t0 t1) (sym (append-nil answer)) wrote;
  answered = (f1, is, refl);
}

-- the last line was
pub last_part : (d : Answering) (s0 s1 : Said) (h0 line : List ℕ) (t0 t1 : Option (List ℕ)) (f0 f1 : List File) (answer : List ℕ)
    → TakesAll s0 s1 h0 line → IsOneLine line → line ≢ [] → Adds t0 t1 answer → d f0 line f1 answer → IsRest d s0 s1 h0 t0 t1 f0
last_part d s0 s1 h0 line t0 t1 f0 f1 answer took one some wrote is = record {
  given = took.given;
  all_read = took.all_read;
  answers = answer ∷ [];
  writes = subst (Adds t0 t1) (sym (append-nil answer)) wrote;
  after = f1;
  answered = subst (λ ls. AreAnswered d f0 ls f1 (answer ∷ [])) (sym (ap lines_of took.split ∙ last_line line one some)) (f1, is, refl);
}

-- no line was left
pub no_rest : (d : Answering) (s0 s1 : Said) (h0 : List ℕ) (t : Option (List ℕ)) (f : List File) → TakesAll s0 s1 h0 [] → IsRest d s0 s1 h0 t t f
no_rest d s0 s1 h0 t f took = record {
  given = took.given;
  all_read = took.all_read;
  answers = [];
  writes = Adds-none t;
  after = f;
  answered = subst (λ ls. AreAnswered d f ls f []) (sym (ap lines_of took.split ∙ no_line)) refl;
}

-- the rest of a session from its start, where there are no files
pub session : (d : Answering) (s0 s1 : Said) (t0 t1 : Option (List ℕ)) → IsRest d s0 s1 [] t0 t1 [] → IsSession d s0 s1 t0 t1
session d s0 s1 t0 t1 r =
    record { input = r.given; all_read = r.all_read; answers = r.answers; writes = r.writes; after = r.after; answered = r.answered }

-- the next line was taken, and answered
pub step : (d : Answering) (s0 s1 : Said) (h0 h1 line : List ℕ) (t0 t1 : Option (List ℕ)) (f0 f1 : List File) (answer : List ℕ) (last : Bool)
    → IsTaken s0 s1 h0 h1 line last → IsOneLine line → Adds t0 t1 answer → d f0 line f1 answer → IsStep d s0 s1 h0 h1 t0 t1 f0 f1 (not last)
step d s0 s1 h0 h1 line t0 t1 f0 f1 answer false took one wrote is = one_part d s0 s1 h0 h1 line t0 t1 f0 f1 answer took one wrote is
step d s0 s1 h0 h1 line t0 t1 f0 f1 answer true took one wrote is = last_part d s0 s1 h0 line t0 t1 f0 f1 answer took.0 one took.1 wrote is

-- the answer to the bytes of a line is the answer to the line
pub of_piece : {V E : Type 0} (r : Result V E) (items : V → List ℕ) (d : Answering) (before after : List File) (kind : Line) (bytes line : List ℕ) → IsPiece kind bytes line
    → IfOk r (λ v. (whole : List ℕ) → IsPiece kind bytes whole → d before whole after (items v)) → IfOk r (λ v. d before line after (items v))
of_piece (Ok v) items d before after kind bytes line piece h = h line piece
of_piece (Err e) items d before after kind bytes line piece h = tt

-- the bytes that are written: the answer, or the line for want of memory
pub said_answered : {V E : Type 0} (r : Result V E) (items : V → List ℕ) (d : Answering) (before after : List File) (line said : List ℕ)
    → IfOk r (λ v. d before line after (items v)) → IfErr r (λ _. d before line after no_memory_line) → MatchResult r (λ v. said ≡ items v) (λ _. said ≡ no_memory_line) → d before line after said
said_answered (Ok v) items d before after line said ok err is = subst (d before line after) (sym is) ok
said_answered (Err e) items d before after line said ok err is = subst (d before line after) (sym is) err

pub lost_piece : {V E : Type 0} (r : Result V E) (d : Answering) (before after : List File) (kind : Line) (bytes line : List ℕ) → IsPiece kind bytes line
    → IfErr r (λ _. (whole : List ℕ) → IsPiece kind bytes whole → d before whole after no_memory_line) → IfErr r (λ _. d before line after no_memory_line)
lost_piece (Ok v) d before after kind bytes line piece h = tt
lost_piece (Err e) d before after kind bytes line piece h = h line piece

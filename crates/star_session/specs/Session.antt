-- A session: requests on a stream of lines, and their answers on another.
use Rattle.std.specs.Prelude.{◌≡◌, ℕ, List, [], ◌∷◌, ◌++◌, Bool, true, false, Option, None, Some}
use Rattle.std.specs.List.{All, concat}
use Rattle.std.specs.Prelude.{map}
use Rattle.star_label.specs.Files.{File}
use Rattle.star_serve.specs.Stream.{Adds, Gives, GivesAll, Said}
use Rattle.star_session.specs.Answers.{Answering, AreAnswered}
use Rattle.star_session.specs.Lines.{IsOneLine, ahead_of, lines_of}
use Rattle.star_session.specs.declared.session.Begin.{Begin}
use Rattle.star_session.specs.declared.session.Session.{Session}

-- a line with its line end
abbrev pub ended : List ℕ → List ℕ
ended line = line ++ 10 ∷ []

-- A part of a session. Between old and new, lines with their line ends were taken from the bytes that were ahead or
-- were read. The answers to them were written in a row, and nothing else. `before` and `after` are the files.
pub record IsPart (answering : Answering) (old new : Said) (ahead left : List ℕ) (wrote written : Option (List ℕ))
    (before after : List File) : Type 0 where
  pub given : List ℕ
  pub gives : Gives old new given
  pub lines : List (List ℕ)
  pub split : ahead ++ given ≡ concat (map ended lines) ++ left
  pub whole : All IsOneLine lines
  pub answers : List (List ℕ)
  pub writes : Adds wrote written (concat answers)
  pub answered : AreAnswered answering before lines after answers

-- The rest of a session: all was read up to its end. The answers to the lines of the bytes that were ahead or were read
-- were written in a row, and nothing else.
pub record IsRest (answering : Answering) (old new : Said) (ahead : List ℕ) (wrote written : Option (List ℕ))
    (before : List File) : Type 0 where
  pub given : List ℕ
  pub all_read : GivesAll old new given
  pub answers : List (List ℕ)
  pub writes : Adds wrote written (concat answers)
  pub after : List File
  pub answered : AreAnswered answering before (lines_of (ahead ++ given)) after answers

-- one line is answered, or the last one, or none is left
abbrev pub IsStep : Answering → Said → Said → List ℕ → List ℕ → Option (List ℕ) → Option (List ℕ) → List File → List File
    → Bool → Type 0
IsStep answering old new ahead left wrote written before after true =
    IsPart answering old new ahead left wrote written before after
IsStep answering old new ahead left wrote written before after false =
    IsRest answering old new ahead wrote written before

-- .. by a session, between these states
abbrev pub IsStepOf : {R W : Type 0} → (R → Said) → (W → Option (List ℕ)) → Answering → R → R → W → W → Session
    → Session → Bool → Type 0
IsStepOf said taken answering reader reader' writer writer' old new more =
    IsStep answering (said reader) (said reader') (ahead_of old.lines) (ahead_of new.lines) (taken writer)
    (taken writer') old.standing.files new.standing.files more

-- .. in a generation: its lines are answered, and the next one begins so; or the last line is
abbrev pub IsGenerationOf : {R W : Type 0} → (R → Said) → (W → Option (List ℕ)) → Answering → R → R → W → W → Begin
    → Option Begin → Type 0
IsGenerationOf said taken answering reader reader' writer writer' begin None =
    IsRest answering (said reader) (said reader') (ahead_of begin.lines) (taken writer) (taken writer') begin.files
IsGenerationOf said taken answering reader reader' writer writer' begin (Some next) =
    IsPart answering (said reader) (said reader') (ahead_of begin.lines) (ahead_of next.lines) (taken writer)
    (taken writer') begin.files next.files

-- Between old and new all was read up to its end. The answers to its lines, one a line, were written in a row, and
-- nothing else. There are no files at first.
pub record IsSession (answering : Answering) (old new : Said) (wrote written : Option (List ℕ)) : Type 0 where
  pub input : List ℕ
  pub all_read : GivesAll old new input
  pub answers : List (List ℕ)
  pub writes : Adds wrote written (concat answers)
  pub after : List File
  pub answered : AreAnswered answering [] (lines_of input) after answers

-- The answer to a line.
use Rattle.std.proofs.Common.{◌≡◌, ◌≢◌, ◌≤◌, ◌<◌, ℕ, List, Some, Result, Ok, Err, inl, inr, refl, ap, sym, ◌∙◌, subst, length}
use Rattle.std.specs.Prelude.{IfErr, IfOk, codes}
use Rattle.std.proofs.lemmas.Bool.{le-ltb, lt-ltb}
use Rattle.serde_json.specs.Data.{Data, null, string}
use Rattle.serde_json.specs.Written.{compact_text}
use Rattle.star_bundle.specs.Bundle.{json_of}
use Rattle.star_bundle.specs.Refusal.{text_of}
use Rattle.star_bundle.specs.declared.error.ServeError.{ServeError}
use Rattle.star_label.specs.Files.{File}
use Rattle.star_session.specs.Answers.{IsAnswered, IsRefusal, IsRefusalOf, IsReported, answer_line, no_memory_line}
use Rattle.star_session.specs.Lines.{IsPiece, line_limit}
use Rattle.star_session.specs.declared.lines.Line.TheVariants as line
use Rattle.star_session.specs.Requests.{◌>>=◌, Asking, IsIdText, IsWhy, asking_in, asking_of, id_in, id_of, id_within, line_too_long, not_object, there_or, value_of}
use Rattle.star_session.specs.Requests as spec
use Rattle.star_repo.specs.Held.{Said}
use Rattle.star_session.specs.Folders.{IsAnsweredAs, IsAnsweredBy, IsAnsweredFrom, IsKnown}
use Rattle.star_session.specs.declared.lines.Line.{Line}
use Rattle.star_session.specs.declared.request.Defaults.{Defaults}
use Rattle.star_session.specs.declared.request.Origin.{Origin}
use Rattle.star_session.specs.declared.request.Origin.TheVariants as origin
use Rattle.star_session.specs.declared.request.RequestError.{RequestError}
use Rattle.star_session.specs.declared.request.RequestError.TheVariants as reason

value_is : (line : List ℕ) (v : Data) → length line ≤ line_limit → json_of line ≡ Some v → value_of line ≡ Ok v
unfolding value_of
value_is line v low j = rw (le-ltb line_limit (length line) low, j) refl

no_value : (line why : List ℕ) → length line ≤ line_limit → there_or not_object (json_of line) ≡ Err why → value_of line ≡ Err why
unfolding value_of
no_value line why low j = rw (le-ltb line_limit (length line) low) j

no_room : (line : List ℕ) → line_limit < length line → value_of line ≡ Err line_too_long
unfolding value_of
no_room line long = rw (lt-ltb line_limit (length line) long) refl

asks_for : (d : Defaults) (line : List ℕ) (v : Data) (r : Result Asking (List ℕ)) → value_of line ≡ Ok v → asking_in d v ≡ r → asking_of d line ≡ r
asks_for d line v r j h = ap (λ x. x >>= asking_in d) j ∙ h

id_is : (line : List ℕ) (r : Result Data (List ℕ)) → value_of line ≡ r → id_within r ≡ id_of line
id_is line r j = ap id_within (sym j)

-- a request is answered by a report
pub reported : (d : Defaults) (before : List File) (line : List ℕ) (v : Data) (a : Asking) (after : List File) (answer : List ℕ)
    → value_of line ≡ Ok v → asking_in d v ≡ Ok a → IsReported before (id_in v) a after answer → IsAnswered d before line after answer
reported d before line v a after answer j h is =
    inl (a, asks_for d line v (Ok a) j h, subst (λ id. IsReported before id a after answer) (id_is line (Ok v) j) is)

-- or is refused
pub refused : (d : Defaults) (before : List File) (line : List ℕ) (v : Data) (a : Asking) (e : ServeError) (after : List File) (answer : List ℕ)
    → value_of line ≡ Ok v → asking_in d v ≡ Ok a → after ≡ before → IsRefusalOf before a e → IsRefusal (id_in v) (text_of e) answer → IsAnswered d before line after answer
refused d before line v a e after answer j h same is says =
    inr (same, inr (inr (a, asks_for d line v (Ok a) j h, e, is, subst (λ id. IsRefusal id (text_of e) answer) (id_is line (Ok v) j) says)))

-- a value is not a request
pub misread : (d : Defaults) (before : List File) (line : List ℕ) (v : Data) (why : List ℕ) (after : List File) (answer : List ℕ)
    → value_of line ≡ Ok v → asking_in d v ≡ Err why → after ≡ before → IsRefusal (id_in v) why answer → IsAnswered d before line after answer
misread d before line v why after answer j h same says =
    inr (same, inr (inl (why, asks_for d line v (Err why) j h, subst (λ id. IsRefusal id why answer) (id_is line (Ok v) j) says)))

-- a line is not a value
pub unreadable : (d : Defaults) (before : List File) (line why : List ℕ) (after : List File) (answer : List ℕ)
    → value_of line ≡ Err why → after ≡ before → IsRefusal null why answer → IsAnswered d before line after answer
unreadable d before line why after answer j same says =
    inr (same, inr (inl (why, ap (λ x. x >>= asking_in d) j, subst (λ id. IsRefusal id why answer) (id_is line (Err why) j) says)))

-- there is no memory for an answer
pub no_memory : (d : Defaults) (before : List File) (line : List ℕ) (after : List File) → after ≡ before → IsAnswered d before line after no_memory_line
no_memory d before line after same = inr (same, inl refl)

-- the same, wherever the files come from
pub misread_as : (o : Origin) (said : Said) (d : Defaults) (before : List File) (line : List ℕ) (v : Data) (why : List ℕ) (after : List File) (answer : List ℕ)
    → value_of line ≡ Ok v → asking_in d v ≡ Err why → after ≡ before → IsRefusal (id_in v) why answer → IsAnsweredAs o said d before line after answer
misread_as origin.Sent said d before line v why after answer j h same says = misread d before line v why after answer j h same says
misread_as origin.Folder said d before line v why after answer j h same says =
    inr (inl (same, why, asks_for d line v (Err why) j h, subst (λ id. IsRefusal id why answer) (id_is line (Ok v) j) says))

pub unreadable_as : (o : Origin) (said : Said) (d : Defaults) (before : List File) (line why : List ℕ) (after : List File) (answer : List ℕ)
    → value_of line ≡ Err why → after ≡ before → IsRefusal null why answer → IsAnsweredAs o said d before line after answer
unreadable_as origin.Sent said d before line why after answer j same says = unreadable d before line why after answer j same says
unreadable_as origin.Folder said d before line why after answer j same says =
    inr (inl (same, why, ap (λ x. x >>= asking_in d) j, subst (λ id. IsRefusal id why answer) (id_is line (Err why) j) says))

pub lost_as : (o : Origin) (said : Said) (d : Defaults) (before : List File) (line : List ℕ) (after : List File) → after ≡ before → IsAnsweredAs o said d before line after no_memory_line
lost_as origin.Sent said d before line after same = no_memory d before line after same
lost_as origin.Folder said d before line after same = inr (inr (refl, inl same))

pub lost_from : (said : Said) (d : Defaults) (before : List File) (line : List ℕ) (v : Data) (a : Asking) (after : List File) → value_of line ≡ Ok v → asking_in d v ≡ Ok a → IsKnown said before a after → IsAnsweredFrom said d before line after no_memory_line
lost_from said d before line v a after j h known = inr (inr (refl, inr (a, asks_for d line v (Ok a) j h, known)))

pub answered_from : (said : Said) (d : Defaults) (before : List File) (line : List ℕ) (v : Data) (a : Asking) (after : List File) (answer : List ℕ)
    → value_of line ≡ Ok v → asking_in d v ≡ Ok a → IsAnsweredBy said before (id_in v) a after answer → IsAnsweredFrom said d before line after answer
answered_from said d before line v a after answer j h is =
    inl (a, asks_for d line v (Ok a) j h, subst (λ id. IsAnsweredBy said before id a after answer) (id_is line (Ok v) j) is)

-- the answer to a value that is not a request
pub misreads : {V E : Type 0} (r : Result V E) (items : V → List ℕ) (o : Origin) (said : Said) (d : Defaults) (before after : List File) (v : Data) (id : List ℕ) (e : RequestError)
    → IsIdText (id_in v) id → after ≡ before → IsWhy e (asking_in d v) → IfOk r (λ _. e ≢ reason.Memory)
    → IfOk r (λ l. items l ≡ answer_line id (codes "refused") (compact_text (string (spec.text_of e))))
    → IfOk r (λ l. (line : List ℕ) → value_of line ≡ Ok v → IsAnsweredAs o said d before line after (items l))
misreads (Err x) items o said d before after v id e is same cause known says = tt
misreads (Ok l) items o said d before after v id e is same (inl m) known says = absurd (known m)
misreads (Ok l) items o said d before after v id e is same (inr bad) known says = λ line j. misread_as o said d before line v (spec.text_of e) after (items l) j bad same (id, is, says)

-- the answer to a request that is refused
pub refuses : {V E : Type 0} (r : Result V E) (items : V → List ℕ) (d : Defaults) (before after : List File) (id : List ℕ) (a : Asking) (e : ServeError) (text : List ℕ)
    → after ≡ before → IsRefusalOf before a e → text ≡ text_of e
    → IfOk r (λ l. items l ≡ answer_line id (codes "refused") (compact_text (string text)))
    → IfOk r (λ l. (line : List ℕ) (v : Data) → IsIdText (id_in v) id → asking_in d v ≡ Ok a → value_of line ≡ Ok v → IsAnswered d before line after (items l))
refuses (Err x) items d before after id a e text same of named says = tt
refuses (Ok l) items d before after id a e text same of named says =
    λ line v is asks j. refused d before line v a e after (items l) j asks same of
    (id, is, says ∙ ap (λ t. answer_line id (codes "refused") (compact_text (string t))) named)

-- the value of a line that was read whole
value_ready : (kind : Line) (bytes whole : List ℕ) (v : Data) → kind ≡ line.Ready → json_of bytes ≡ Some v → IsPiece kind bytes whole → value_of whole ≡ Ok v
value_ready kind bytes whole v is j piece =
    let all : IsPiece line.Ready bytes whole = subst (λ k. IsPiece k bytes whole) is piece in
    value_is whole v all.1 (ap json_of (sym all.0) ∙ j)

pub ready : {V E : Type 0} (r : Result V E) (items : V → List ℕ) (o : Origin) (said : Said) (d : Defaults) (before after : List File) (kind : Line) (bytes : List ℕ) (v : Data) → kind ≡ line.Ready → json_of bytes ≡ Some v
    → IfOk r (λ l. (line : List ℕ) → value_of line ≡ Ok v → IsAnsweredAs o said d before line after (items l))
    → IfOk r (λ l. (whole : List ℕ) → IsPiece kind bytes whole → IsAnsweredAs o said d before whole after (items l))
ready (Err x) items o said d before after kind bytes v is j h = tt
ready (Ok l) items o said d before after kind bytes v is j h = λ whole piece. h whole (value_ready kind bytes whole v is j piece)

pub unread : {V E : Type 0} (r : Result V E) (items : V → List ℕ) (o : Origin) (said : Said) (d : Defaults) (before after : List File) (kind : Line) (bytes : List ℕ) (e : RequestError) → kind ≡ line.Ready → after ≡ before
    → IsWhy e (there_or not_object (json_of bytes)) → IfOk r (λ _. e ≢ reason.Memory) → IfOk r (λ l. IsRefusal null (spec.text_of e) (items l))
    → IfOk r (λ l. (whole : List ℕ) → IsPiece kind bytes whole → IsAnsweredAs o said d before whole after (items l))
unread (Err x) items o said d before after kind bytes e is same cause known says = tt
unread (Ok l) items o said d before after kind bytes e is same (inl m) known says = absurd (known m)
unread (Ok l) items o said d before after kind bytes e is same (inr bad) known says = λ whole piece.
    let all : IsPiece line.Ready bytes whole = subst (λ k. IsPiece k bytes whole) is piece in
    unreadable_as o said d before whole (spec.text_of e) after (items l) (no_value whole (spec.text_of e) all.1 (ap (λ t. there_or not_object (json_of t)) (sym all.0) ∙ bad)) same says

pub long : {V E : Type 0} (r : Result V E) (items : V → List ℕ) (o : Origin) (said : Said) (d : Defaults) (before after : List File) (kind : Line) (bytes : List ℕ) → kind ≡ line.TooLong → after ≡ before
    → IfOk r (λ l. IsRefusal null line_too_long (items l))
    → IfOk r (λ l. (whole : List ℕ) → IsPiece kind bytes whole → IsAnsweredAs o said d before whole after (items l))
long (Err x) items o said d before after kind bytes is same says = tt
long (Ok l) items o said d before after kind bytes is same says = λ whole piece.
    unreadable_as o said d before whole line_too_long after (items l) (no_room whole (subst (λ k. IsPiece k bytes whole) is piece)) same says

-- a refusal of a line that has no id
pub null_refusal : {V E : Type 0} (r : Result V E) (items : V → List ℕ) (id text : List ℕ) → IsIdText null id
    → IfOk r (λ l. items l ≡ answer_line id (codes "refused") (compact_text (string text))) → IfOk r (λ l. IsRefusal null text (items l))
null_refusal (Err x) items id text is says = tt
null_refusal (Ok l) items id text is says = (id, is, says)

-- the answer to a value, where memory ran out
pub lost_misreads : {V E : Type 0} (r : Result V E) (o : Origin) (said : Said) (d : Defaults) (before after : List File) (v : Data) → after ≡ before
    → IfErr r (λ _. (line : List ℕ) → value_of line ≡ Ok v → IsAnsweredAs o said d before line after no_memory_line)
lost_misreads (Ok l) o said d before after v same = tt
lost_misreads (Err x) o said d before after v same = λ line j. lost_as o said d before line after same

pub lost_ready : {V E : Type 0} (r : Result V E) (o : Origin) (said : Said) (d : Defaults) (before after : List File) (kind : Line) (bytes : List ℕ) (v : Data) → kind ≡ line.Ready → json_of bytes ≡ Some v
    → IfErr r (λ _. (line : List ℕ) → value_of line ≡ Ok v → IsAnsweredAs o said d before line after no_memory_line)
    → IfErr r (λ _. (whole : List ℕ) → IsPiece kind bytes whole → IsAnsweredAs o said d before whole after no_memory_line)
lost_ready (Ok l) o said d before after kind bytes v is j h = tt
lost_ready (Err x) o said d before after kind bytes v is j h = λ whole piece. h whole (value_ready kind bytes whole v is j piece)

pub lost_line : {V E : Type 0} (r : Result V E) (o : Origin) (said : Said) (d : Defaults) (before after : List File) (kind : Line) (bytes : List ℕ) → after ≡ before
    → IfErr r (λ _. (whole : List ℕ) → IsPiece kind bytes whole → IsAnsweredAs o said d before whole after no_memory_line)
lost_line (Ok l) o said d before after kind bytes same = tt
lost_line (Err x) o said d before after kind bytes same = λ whole piece. lost_as o said d before whole after same

-- the answer to a request, by where the files come from
pub by_sent : {V E : Type 0} (r : Result V E) (items : V → List ℕ) (o : Origin) (said : Said) (d : Defaults) (before after : List File) (id : List ℕ) (a : Asking) → o ≡ origin.Sent
    → IfOk r (λ l. (line : List ℕ) (v : Data) → IsIdText (id_in v) id → asking_in d v ≡ Ok a → value_of line ≡ Ok v → IsAnswered d before line after (items l))
    → IfOk r (λ l. (line : List ℕ) (v : Data) → IsIdText (id_in v) id → asking_in d v ≡ Ok a → value_of line ≡ Ok v → IsAnsweredAs o said d before line after (items l))
by_sent (Err x) items o said d before after id a is h = tt
by_sent (Ok l) items o said d before after id a is h = λ line v text asks j.
    subst (λ p. IsAnsweredAs p said d before line after (items l)) (sym is) (h line v text asks j)

pub lost_sent : {V E : Type 0} (r : Result V E) (o : Origin) (said : Said) (d : Defaults) (before after : List File) (a : Asking)
    → IfErr r (λ _. after ≡ before)
    → IfErr r (λ _. (line : List ℕ) (v : Data) → asking_in d v ≡ Ok a → value_of line ≡ Ok v → IsAnsweredAs o said d before line after no_memory_line)
lost_sent (Ok l) o said d before after a h = tt
lost_sent (Err x) o said d before after a h = λ line v asks j. lost_as o said d before line after h

pub by_folder : {V E : Type 0} (r : Result V E) (items : V → List ℕ) (o : Origin) (said : Said) (d : Defaults) (before after : List File) (id : List ℕ) (a : Asking) → o ≡ origin.Folder
    → IfOk r (λ l. (i : Data) → IsIdText i id → IsAnsweredBy said before i a after (items l))
    → IfOk r (λ l. (line : List ℕ) (v : Data) → IsIdText (id_in v) id → asking_in d v ≡ Ok a → value_of line ≡ Ok v → IsAnsweredAs o said d before line after (items l))
by_folder (Err x) items o said d before after id a is h = tt
by_folder (Ok l) items o said d before after id a is h = λ line v text asks j.
    subst (λ p. IsAnsweredAs p said d before line after (items l)) (sym is) (answered_from said d before line v a after (items l) j asks (h (id_in v) text))

pub lost_folder : {V E : Type 0} (r : Result V E) (o : Origin) (said : Said) (d : Defaults) (before after : List File) (a : Asking) → o ≡ origin.Folder
    → IfErr r (λ _. IsKnown said before a after)
    → IfErr r (λ _. (line : List ℕ) (v : Data) → asking_in d v ≡ Ok a → value_of line ≡ Ok v → IsAnsweredAs o said d before line after no_memory_line)
lost_folder (Ok l) o said d before after a is h = tt
lost_folder (Err x) o said d before after a is h = λ line v asks j.
    subst (λ p. IsAnsweredAs p said d before line after no_memory_line) (sym is) (lost_from said d before line v a after j asks h)

-- the answer to a request is the answer to its value
pub of_request : {V E : Type 0} (r : Result V E) (P : V → List ℕ → Type 0) (Id : Data → Type 0) (v : Data) (asks : Data → Type 0) → Id v → asks v
    → IfOk r (λ l. (line : List ℕ) (u : Data) → Id u → asks u → value_of line ≡ Ok u → P l line) → IfOk r (λ l. (line : List ℕ) → value_of line ≡ Ok v → P l line)
of_request (Err x) P Id v asks id a h = tt
of_request (Ok l) P Id v asks id a h = λ line j. h line v id a j

pub lost_request : {V E : Type 0} (r : Result V E) (P : List ℕ → Type 0) (v : Data) (asks : Data → Type 0) → asks v
    → IfErr r (λ _. (line : List ℕ) (u : Data) → asks u → value_of line ≡ Ok u → P line) → IfErr r (λ _. (line : List ℕ) → value_of line ≡ Ok v → P line)
lost_request (Ok l) P v asks a h = tt
lost_request (Err x) P v asks a h = λ line j. h line v a j

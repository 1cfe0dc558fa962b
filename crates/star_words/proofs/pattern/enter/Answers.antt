use Rattle.std.proofs.Common.{◌≡◌, ◌∙◌, ◌∷◌, ◌++◌, [], ap, inl, inr, subst, sym, string_bytes}
use Rattle.std.proofs.lemmas.List.{map-append}
use Rattle.star_label.specs.Label.{label_text}
use Rattle.star_label.specs.View.{text_of}
use Rattle.star_words.specs.Below.{IsFileBelow, IsThere, left_out}
use Rattle.star_words.specs.Named.{labels_of, texts_of}
use Rattle.star_words.specs.Rows.{IsIn}
use Rattle.star_words.proofs.Inside.{places_more, there_more}
use Rattle.star_words.proofs.Members.{key_from}
use Rattle.star_words.proofs.pattern.enter.Goals as goal

pub returns-in_ok-insert-in-File-clause-walked : goal.returns-in_ok-insert-in-File-clause-walked
returns-in_ok-insert-in-File-clause-walked c = λ top here walked.
    let label = c.in-Some.label in
    let filter = c.args.filter in
    let is : text_of label ≡ label_text c.args.path.now c.args.name.now = rw c.in-Some.is at c.in_ok-label-in-File.ensures in
    let found : IsFileBelow top filter (text_of label) = (c.args.path.now, c.args.name.now, is, here, c.in_ok-is_asked_for-in-File.ensures.named c.if-branch.true, c.in_ok-is_asked_for-in-File.ensures.kept c.if-branch.true) in
    record {
      places = walked.places;
      found = λ l i. elim (key_from c.args.walk.now.found.keys label l (subst (λ ks. IsIn l (labels_of ks)) c.in_ok-insert-in-File.ensures.keys i)) [
        | inl j ↦ walked.found l j
        | inr e ↦ subst (IsFileBelow top filter) e found
      ];
    }

pub returns-in_ok-push-in-Folder-clause-walked : goal.returns-in_ok-push-in-Folder-clause-walked
returns-in_ok-push-in-Folder-clause-walked c = λ top here walked.
    let path = c.in_ok-inside-in-Folder.field-0 in
    let patterns = left_out c.args.filter in
    let deeper : IsThere patterns top (string_bytes path) = subst (IsThere patterns top) (sym c.in_ok-inside-in-Folder.ensures) (there_more patterns top c.args.path.now c.args.name.now (c.in_ok-is_entered-in-Folder.ensures c.if-branch-2.true) here) in
    let pushed : texts_of c.push.new.self.items ≡ texts_of c.args.walk.now.places.items ++ string_bytes path ∷ [] = ap texts_of c.in_ok-push-in-Folder.ensures.items ∙ map-append string_bytes c.args.walk.now.places.items (path ∷ []) in
    record {
      places = λ q i. places_more patterns top (texts_of c.args.walk.now.places.items) (string_bytes path) walked.places deeper q (subst (IsIn q) pushed i);
      found = walked.found;
    }

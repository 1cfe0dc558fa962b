-- Pairs of actions that do the same over two shelves: the methods of strings.
use Rattle.std.proofs.Common.{◌≡◌, ℕ, List, [], ◌∷◌, length, map, Option, Some, None, Bool, not, nat_eq, pos, refl, ap, ◌∙◌}
use Rattle.std.specs.List.{list_any}
use Rattle.star_store.specs.declared.values.Value.{Value}
use Rattle.star_store.specs.declared.values.Value.TheVariants as value
use Rattle.star_store.specs.declared.values.Cell.TheVariants as cell
use Rattle.star_meaning.specs.declared.fault.FaultCode.TheVariants as code
use Rattle.star_meaning.specs.declared.given.Arguments.{Arguments}
use Rattle.star_meaning.specs.Arguments.{before_all}
use Rattle.star_meaning.specs.Run.{State}
use Rattle.star_meaning.specs.Program.{Setting}
use Rattle.star_meaning.specs.Values.{Content, Held, content, text_of}
use Rattle.star_meaning.specs.Operators.{place_between}
use Rattle.star_meaning.specs.Texts.{is_blank, is_in, parts, joined}
use Rattle.star_meaning.specs.Format.{Outside, Unused}
use Rattle.star_meaning.specs.TextMethods.{pay_for_bytes, texts_of, choices_in, want_choices, call_edge, Search, one_to_three, place_or_none, end_of, call_find, call_join, cuts_of, want_cuts, one_and_maybe, call_split, want_set, stripped, call_strip, call_case, Exchange, two_or_three, call_replace, call_format}
use Rattle.star_unseen.specs.Veil.{AreVisible, Hides, IsVisible, VisibleIfThere}
use Rattle.star_unseen.specs.Shelves.{Veil, with_other}
use Rattle.star_unseen.proofs.Looks.{ContentIsVisible, visible_content, same_content}
use Rattle.star_unseen.proofs.Visible.{ArgumentsAreVisible, WithMaybe}
use Rattle.star_unseen.proofs.Alike.{Alike, Any, alike_check, alike_each, alike_fail, alike_finds, alike_give, alike_pay, alike_seeing, alike_then}
use Rattle.star_unseen.proofs.Values.{any_found, alike-want_int, alike-want_text, alike-new_text, alike-new_list, alike-count_of, alike-take_items}
use Rattle.star_unseen.proofs.Subscript.{alike-want_part}
use Rattle.star_unseen.proofs.Arguments.{alike-positional, alike-no_value}
use Rattle.star_unseen.proofs.BuiltIns.{every_any, maybe_of, one_of}
use Rattle.star_unseen.proofs.Format.{alike-formatted}

pub alike-pay_for_bytes : {w : Setting} (k : Veil w) (line : ℕ) (t : List ℕ) → Alike k Any (pay_for_bytes line t) (pay_for_bytes line t)
alike-pay_for_bytes k line t = alike_pay line (length t)

pub same-texts_of : {w : Setting} (k : Veil w) (s : State) (xs : List Value) → AreVisible k.hides xs → texts_of w s xs ≡ texts_of (with_other k.other w) s xs
same-texts_of k s [] h = refl
same-texts_of {w = w} k s (x ∷ xs) h =
    ap (λ c. before_all (text_of c) (texts_of w s xs)) (same_content k s x h.0)
    ∙ ap (λ o. before_all (text_of (content (with_other k.other w) s x)) o) (same-texts_of k s xs h.1)

pub same-choices_in : {w : Setting} (k : Veil w) (s : State) (c : Content) → ContentIsVisible k.hides c → choices_in w s c ≡ choices_in (with_other k.other w) s c
same-choices_in k s (Held (cell.Text t)) h = refl
same-choices_in k s (Held (cell.Tuple xs)) h = same-texts_of k s xs h
same-choices_in k s _ h = refl

pub alike-want_choices : {w : Setting} (k : Veil w) (line : ℕ) (v : Value) → IsVisible k.hides v → Alike k Any (want_choices w line v) (want_choices (with_other k.other w) line v)
alike-want_choices {w = w} k line v h = alike_seeing {A = List (List ℕ)} Any _ _ (λ s c.
    alike_finds Any code.BadType line _ _ (same-choices_in k s (content w s v) (visible_content k s v c h) ∙ ap (choices_in (with_other k.other w) s) (same_content k s v h)) (any_found _))

pub alike-call_edge : {w : Setting} (k : Veil w) (line : ℕ) (test : List ℕ → List ℕ → Bool) (t : List ℕ) (g : Arguments) → ArgumentsAreVisible k.hides g → Alike k (IsVisible k.hides) (call_edge w line test t g) (call_edge (with_other k.other w) line test t g)
alike-call_edge k line test t g h =
    alike_then (one_of k line g h) (λ p l. alike_then (alike-want_choices k line p l) (λ us _. alike_then (alike-pay_for_bytes k line t) (λ _ _.
    alike_give (IsVisible k.hides) (value.Bool (list_any (test t) us)) tt)))

-- ---- find

abbrev pub SearchIsVisible : Hides → Search → Type 0
SearchIsVisible hides q = IsVisible hides q.what × VisibleIfThere hides q.from × VisibleIfThere hides q.to

pub alike-one_to_three : {w : Setting} (k : Veil w) (line : ℕ) (xs : List Value) → AreVisible k.hides xs → Alike k (SearchIsVisible k.hides) (one_to_three line xs) (one_to_three line xs)
alike-one_to_three k line (x ∷ []) h = alike_give (SearchIsVisible k.hides) (record { what = x; from = None; to = None }) (h.0, tt, tt)
alike-one_to_three k line (x ∷ a ∷ []) h = alike_give (SearchIsVisible k.hides) (record { what = x; from = Some a; to = None }) (h.0, h.1.0, tt)
alike-one_to_three k line (x ∷ a ∷ b ∷ []) h = alike_give (SearchIsVisible k.hides) (record { what = x; from = Some a; to = Some b }) (h.0, h.1.0, h.1.1.0)
alike-one_to_three k line _ h = alike_fail Search (SearchIsVisible k.hides) code.Args line

pub alike-call_find : {w : Setting} (k : Veil w) (line : ℕ) (t : List ℕ) (g : Arguments) → ArgumentsAreVisible k.hides g → Alike k (IsVisible k.hides) (call_find w line t g) (call_find (with_other k.other w) line t g)
alike-call_find k line t g h =
    alike_then (alike_then (alike-positional k line g h) (λ xs l. alike-one_to_three k line xs l)) (λ q l. alike_then (alike-want_text k line q.what l.0) (λ u _.
    alike_then (alike-want_part k line q.from l.1) (λ a _. alike_then (alike-want_part k line q.to l.2) (λ b _. alike_then (alike-pay_for_bytes k line t) (λ _ _.
    alike_give (IsVisible k.hides) (value.Int (place_or_none (place_between t u (end_of (length t) (pos 0) a) (end_of (length t) (pos (length t)) b)))) tt)))))

-- ---- join and split

pub alike-call_join : {w : Setting} (k : Veil w) (line : ℕ) (t : List ℕ) (g : Arguments) → ArgumentsAreVisible k.hides g → Alike k (IsVisible k.hides) (call_join w line t g) (call_join (with_other k.other w) line t g)
alike-call_join k line t g h =
    alike_then (one_of k line g h) (λ it l. alike_then (alike-count_of k line it l) (λ n _. alike_then (alike-pay_for_bytes k line t) (λ _ _.
    alike_then (alike-take_items k line it n l) (λ xs r. alike_then (alike_seeing {A = List (List ℕ)} Any _ _ (λ s _. alike_finds Any code.BadType line _ _ (same-texts_of k s xs r) (any_found _))) (λ us _.
    alike-new_text k line (joined t us))))))

pub alike-want_cuts : {w : Setting} (k : Veil w) (line : ℕ) (o : Option Value) → VisibleIfThere k.hides o → Alike k Any (want_cuts w line o) (want_cuts (with_other k.other w) line o)
alike-want_cuts k line None h = alike_give {A = Option ℕ} Any None tt
alike-want_cuts k line (Some v) h = alike_then (alike-want_int k line v h) (λ z _. alike_give Any (cuts_of z) tt)

pub alike-one_and_maybe : {w : Setting} (k : Veil w) (line : ℕ) (xs : List Value) → AreVisible k.hides xs → Alike k (WithMaybe k.hides) (one_and_maybe line xs) (one_and_maybe line xs)
alike-one_and_maybe k line (x ∷ []) h = alike_give (WithMaybe k.hides) (x, None) (h.0, tt)
alike-one_and_maybe k line (x ∷ n ∷ []) h = alike_give (WithMaybe k.hides) (x, Some n) (h.0, h.1.0)
alike-one_and_maybe k line _ h = alike_fail (Value × Option Value) (WithMaybe k.hides) code.Args line

pub alike-call_split : {w : Setting} (k : Veil w) (line : ℕ) (t : List ℕ) (g : Arguments) → ArgumentsAreVisible k.hides g → Alike k (IsVisible k.hides) (call_split w line t g) (call_split (with_other k.other w) line t g)
alike-call_split k line t g h =
    alike_then (alike_then (alike-positional k line g h) (λ xs l. alike-one_and_maybe k line xs l)) (λ a l. alike_then (alike-want_text k line a.0 l.0) (λ by _.
    alike_then (alike-want_cuts k line a.1 l.1) (λ n _. alike_then (alike-pay_for_bytes k line t) (λ _ _. alike_then (alike_check code.BadValue line (not (nat_eq (length by) 0))) (λ _ _.
    alike_then (alike_each {A = List ℕ} Any (IsVisible k.hides) _ _ (parts t by n) (every_any _) (λ u _. alike-new_text k line u)) (λ vs r. alike-new_list k line vs r))))))

-- ---- strip, lower and upper

pub alike-want_set : {w : Setting} (k : Veil w) (line : ℕ) (o : Option Value) → VisibleIfThere k.hides o → Alike k Any (want_set w line o) (want_set (with_other k.other w) line o)
alike-want_set k line None h = alike_give {A = List ℕ → Bool} Any is_blank tt
alike-want_set k line (Some v) h = alike_then (alike-want_text k line v h) (λ c _. alike_give {A = List ℕ → Bool} Any (is_in c) tt)

pub alike-call_strip : {w : Setting} (k : Veil w) (line : ℕ) (front back : Bool) (t : List ℕ) (g : Arguments) → ArgumentsAreVisible k.hides g → Alike k (IsVisible k.hides) (call_strip w line front back t g) (call_strip (with_other k.other w) line front back t g)
alike-call_strip k line front back t g h =
    alike_then (maybe_of k line g h) (λ c l. alike_then (alike-want_set k line c l) (λ test _. alike_then (alike-pay_for_bytes k line t) (λ _ _. alike-new_text k line (stripped front back test t))))

pub alike-call_case : {w : Setting} (k : Veil w) (line : ℕ) (f : ℕ → ℕ) (t : List ℕ) (g : Arguments) → ArgumentsAreVisible k.hides g → Alike k (IsVisible k.hides) (call_case line f t g) (call_case line f t g)
alike-call_case k line f t g h =
    alike_then (alike_then (alike-positional k line g h) (λ xs l. alike-no_value k line xs l)) (λ _ _. alike_then (alike-pay_for_bytes k line t) (λ _ _. alike-new_text k line (map f t)))

-- ---- replace and format

abbrev pub ExchangeIsVisible : Hides → Exchange → Type 0
ExchangeIsVisible hides q = IsVisible hides q.old × IsVisible hides q.new × VisibleIfThere hides q.cuts

pub alike-two_or_three : {w : Setting} (k : Veil w) (line : ℕ) (xs : List Value) → AreVisible k.hides xs → Alike k (ExchangeIsVisible k.hides) (two_or_three line xs) (two_or_three line xs)
alike-two_or_three k line (a ∷ b ∷ []) h = alike_give (ExchangeIsVisible k.hides) (record { old = a; new = b; cuts = None }) (h.0, h.1.0, tt)
alike-two_or_three k line (a ∷ b ∷ n ∷ []) h = alike_give (ExchangeIsVisible k.hides) (record { old = a; new = b; cuts = Some n }) (h.0, h.1.0, h.1.1.0)
alike-two_or_three k line _ h = alike_fail Exchange (ExchangeIsVisible k.hides) code.Args line

pub alike-call_replace : {w : Setting} (k : Veil w) (line : ℕ) (t : List ℕ) (g : Arguments) → ArgumentsAreVisible k.hides g → Alike k (IsVisible k.hides) (call_replace w line t g) (call_replace (with_other k.other w) line t g)
alike-call_replace k line t g h =
    alike_then (alike_then (alike-positional k line g h) (λ xs l. alike-two_or_three k line xs l)) (λ q l. alike_then (alike-want_text k line q.old l.0) (λ u _.
    alike_then (alike-want_text k line q.new l.1) (λ v _. alike_then (alike-want_cuts k line q.cuts l.2) (λ n _. alike_then (alike-pay_for_bytes k line t) (λ _ _.
    alike_then (alike_check code.BadValue line (not (nat_eq (length u) 0))) (λ _ _. alike-new_text k line (joined v (parts t u n))))))))

pub alike-call_format : {w : Setting} (k : Veil w) (levels line : ℕ) (t : List ℕ) (g : Arguments) → ArgumentsAreVisible k.hides g → Alike k (IsVisible k.hides) (call_format w levels line t g) (call_format (with_other k.other w) levels line t g)
alike-call_format k levels line t g h =
    alike_then (alike-pay_for_bytes k line t) (λ _ _. alike_then (alike-formatted k levels line g t Outside Unused [] h) (λ out _. alike-new_text k line out))

-- Items whose keys are ints, or strings, have the order of their keys' contents.
use Rattle.std.proofs.Common.{◌≡◌, List, [], ◌∷◌, map, Bool, true, false, ◌&&◌, ◌||◌, refl, sym, ap, ◌∙◌}
use Rattle.std.specs.List.{list_all}
use Rattle.std.specs.Cmp.{IsStrictWeakOrder}
use Rattle.std.specs.Ordering.{is_lt}
use Rattle.std.proofs.lemmas.Cmp.{int_cmp_total, nat_list_cmp_total, on_total, then_total}
use Rattle.std.proofs.lemmas.List.Sorted.{ranks_by}
use Rattle.star_store.specs.declared.values.Value.{Value}
use Rattle.star_meaning.specs.Run.{State}
use Rattle.star_meaning.specs.Values.{Content, content}
use Rattle.star_meaning.specs.Orders.{is_int, is_text, can_sort, is_before_by, sorted_free}
use Rattle.star_store.specs.Sorting.{in_order}
use Rattle.star_machine.specs.Kinds.{bytes_of}
use Rattle.star_meaning.specs.Program.{Setting}
use Rattle.star_builtin.specs.Orders.{by_contents, by_keys, int_in, turned_by}
use Rattle.star_builtin.proofs.Contents.{ints_alike, order_alike, texts_alike}

ints_turned : (b : Bool) (c d : Content) → is_int c ≡ true → is_int d ≡ true → is_before_by b c d ≡ is_lt (turned_by b c d)
ints_turned true c d h k = ints_alike d c k h
ints_turned false c d h k = ints_alike c d h k

texts_turned : (b : Bool) (c d : Content) → is_text c ≡ true → is_text d ≡ true → is_before_by b c d ≡ is_lt (turned_by b c d)
texts_turned true c d h k = texts_alike d c k h
texts_turned false c d h k = texts_alike c d h k

keys_map : (q : Content → Bool) (f : Value → Content) (ps : List (Value × Value)) → list_all q (map (λ p. f p.0) ps) ≡ list_all (λ (p : Value × Value). q (f p.0)) ps
keys_map q f [] = refl
keys_map q f (p ∷ ps) = ap (λ b. q (f p.0) && b) (keys_map q f ps)

-- the contents of keys
pub contents_of_keys : (f : Value → Content) (ps : List (Value × Value)) → map f (map (λ p. p.0) ps) ≡ map (λ p. f p.0) ps
contents_of_keys f [] = refl
contents_of_keys f (p ∷ ps) = ap (λ cs. f p.0 ∷ cs) (contents_of_keys f ps)

module _ (w : Setting) (s : State) (backwards : Bool) where
  abbrev key : Value × Value → Content
  key p = content w s p.0

  keyed_by : (ps : List (Value × Value)) (a b : Bool) → list_all (λ p. is_int (key p)) ps ≡ a → list_all (λ p. is_text (key p)) ps ≡ b → (a || b) ≡ true → in_order (λ p q. is_before_by backwards (key p) (key q)) ps ≡ in_order (λ p q. is_lt (by_keys w s backwards p q)) ps
  keyed_by ps true b h k e = order_alike (λ p. is_int (key p)) (λ p q. is_before_by backwards (key p) (key q)) (λ p q. is_lt (by_keys w s backwards p q)) (λ p q x y. ints_turned backwards (key p) (key q) x y) ps h
  keyed_by ps false b h k e = order_alike (λ p. is_text (key p)) (λ p q. is_before_by backwards (key p) (key q)) (λ p q. is_lt (by_keys w s backwards p q)) (λ p q x y. texts_turned backwards (key p) (key q) x y) ps (k ∙ e)

  -- items whose keys can be sorted are in the order of their keys' contents
  pub keyed_same : (ps : List (Value × Value)) → can_sort (map (λ p. content w s p.0) ps) ≡ true → sorted_free w s backwards ps ≡ in_order (λ p q. is_lt (by_keys w s backwards p q)) ps
  keyed_same ps h = keyed_by ps (list_all (λ p. is_int (key p)) ps) (list_all (λ p. is_text (key p)) ps) refl refl (ap (λ b. b || list_all (λ p. is_text (key p)) ps) (sym (keys_map is_int (content w s) ps)) ∙ ap (λ b. list_all is_int (map (λ p. content w s p.0) ps) || b) (sym (keys_map is_text (content w s) ps)) ∙ h)

  ranked : (b : Bool) → IsStrictWeakOrder (λ p q. is_lt (turned_by b (key p) (key q)))
  ranked true = turned_rank (λ p q. is_lt (by_contents (key p) (key q))) (ranks_by (then_total (on_total int_in int_cmp_total) (on_total bytes_of nat_list_cmp_total)) key)
    where
      turned_rank : (lt : Value × Value → Value × Value → Bool) → IsStrictWeakOrder lt → IsStrictWeakOrder (λ p q. lt q p)
      turned_rank lt r = record { one_way = λ x y h. r.one_way y x h; chain = λ x y z h k. r.chain z y x k h }
  ranked false = ranks_by (then_total (on_total int_in int_cmp_total) (on_total bytes_of nat_list_cmp_total)) key

  -- the order of keys compares any two items
  pub keyed_rank : IsStrictWeakOrder (λ p q. is_lt (by_keys w s backwards p q))
  keyed_rank = ranked backwards

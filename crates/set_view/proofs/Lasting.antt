-- Lists and maps still suit their fields when they take further values.
use Rattle.std.proofs.Common.{◌≡◌, ℕ, suc, Bool, List, [], ◌∷◌, ◌++◌, Option, Some, refl, sym, subst}
use Rattle.std.specs.List.{AllByRecursion}
use Rattle.protobuf_model.specs.Meaning.{if_any, if_some, items, pairs, put_all}
use Rattle.protobuf_model.specs.Typed.{IsEntryOf, IsFieldOf, IsHeldOf, IsOf, IsTyped}
use Rattle.protobuf_model.specs.Types.{Field, Key, Label, Name, Part, Types, keyed, many}
use Rattle.protobuf_model.specs.Values.{Content, Held, Message, Single, content, dictionary, list, more_contents, more_entries, records}
use Rattle.protobuf_model.proofs.Arranged.{all_append}
use Rattle.protobuf_model.proofs.Pieces.{listed, paired}
use Rattle.protobuf_model.proofs.Typing.{IsMap, put_all_map}

module _ (inner : Name → Message → Type 0) (levels : ℕ) where
  -- by the label of the field
  abbrev Suiting : Part → Label → Held → Type 0
  Suiting part l (records ps) = ps ≡ []
  Suiting part l (content c) = IsFieldOf inner part l c

  of_field : (f : Field) (l : Label) → f.label ≡ l → (h : Held) → IsHeldOf inner levels (Some f) h → Suiting f.part l h
  of_field f l is (records ps) s = s
  of_field f l is (content c) s = subst (λ l. IsFieldOf inner f.part l c) is s

  in_field : (f : Field) (l : Label) → f.label ≡ l → (h : Held) → Suiting f.part l h → IsHeldOf inner levels (Some f) h
  in_field f l is (records ps) s = s
  in_field f l is (content c) s = subst (λ l. IsFieldOf inner f.part l c) (sym is) s

  -- lists
  items_suit : (part : Part) (packed : Bool) (h : Held) → Suiting part (many packed) h → AllByRecursion (IsOf inner part.kind) (items h)
  items_suit part packed (records ps) s = tt
  items_suit part packed (content (list (more_contents c cs))) s = s
  items_suit part packed (content c) s = absurd s

  if_any_suits : (part : Part) (packed : Bool) (cs : List Content) → AllByRecursion (IsOf inner part.kind) cs → Suiting part (many packed) (if_any cs)
  if_any_suits part packed [] all = refl
  if_any_suits part packed (c ∷ cs) all = (all.0, subst (AllByRecursion (IsOf inner part.kind)) (sym (listed cs)) all.1)

  -- maps
  pairs_suit : (key : Key) (part : Part) (h : Held) → Suiting part (keyed key) h → IsMap inner key part (pairs h)
  pairs_suit key part (records ps) s = (tt, tt)
  pairs_suit key part (content (dictionary (more_entries k c es))) s = s
  pairs_suit key part (content c) s = absurd s

  if_some_suits : (key : Key) (part : Part) (es : List (Single × Content)) → IsMap inner key part es → Suiting part (keyed key) (if_some es)
  if_some_suits key part [] all = refl
  if_some_suits key part (e ∷ es) all = subst (IsMap inner key part) (sym (paired (e ∷ es))) all

  -- fields
  longer_suits : (o : Option Field) (f : Field) (packed : Bool) (h : Held) (cs : List Content) → o ≡ Some f → f.label ≡ many packed → IsHeldOf inner levels o h
      → AllByRecursion (IsOf inner f.part.kind) cs → IsHeldOf inner levels o (if_any (items h ++ cs))
  longer_suits o f packed h cs there is suits all =
      let before = items_suit f.part packed h (of_field f (many packed) is h (subst (λ o. IsHeldOf inner levels o h) there suits)) in
      let after = if_any_suits f.part packed (items h ++ cs) (all_append (IsOf inner f.part.kind) (items h) cs before all) in
      subst (λ o. IsHeldOf inner levels o (if_any (items h ++ cs))) (sym there) (in_field f (many packed) is (if_any (items h ++ cs)) after)

  fuller_suits : (o : Option Field) (f : Field) (key : Key) (h : Held) (es : List (Single × Content)) → o ≡ Some f → f.label ≡ keyed key → IsHeldOf inner levels o h
      → AllByRecursion (IsEntryOf inner key f.part) es → IsHeldOf inner levels o (if_some (put_all (pairs h) es))
  fuller_suits o f key h es there is suits all =
      let before = pairs_suit key f.part h (of_field f (keyed key) is h (subst (λ o. IsHeldOf inner levels o h) there suits)) in
      let after = if_some_suits key f.part (put_all (pairs h) es) (put_all_map inner key f.part (pairs h) es before all) in
      subst (λ o. IsHeldOf inner levels o (if_some (put_all (pairs h) es))) (sym there) (in_field f (keyed key) is (if_some (put_all (pairs h) es)) after)

pub list_suits : (levels : ℕ) (types : Types) (t : Name) (n : ℕ) (f : Field) (packed : Bool) (h : Held) (cs : List Content) → types t n ≡ Some f → f.label ≡ many packed
    → IsHeldOf (IsTyped levels types) (suc levels) (types t n) h → AllByRecursion (IsOf (IsTyped levels types) f.part.kind) cs → IsHeldOf (IsTyped levels types) (suc levels) (types t n) (if_any (items h ++ cs))
list_suits levels types t n f packed h cs there is suits all = longer_suits (IsTyped levels types) (suc levels) (types t n) f packed h cs there is suits all

pub map_suits : (levels : ℕ) (types : Types) (t : Name) (n : ℕ) (f : Field) (key : Key) (h : Held) (es : List (Single × Content)) → types t n ≡ Some f → f.label ≡ keyed key
    → IsHeldOf (IsTyped levels types) (suc levels) (types t n) h → AllByRecursion (IsEntryOf (IsTyped levels types) key f.part) es → IsHeldOf (IsTyped levels types) (suc levels) (types t n) (if_some (put_all (pairs h) es))
map_suits levels types t n f key h es there is suits all = fuller_suits (IsTyped levels types) (suc levels) (types t n) f key h es there is suits all

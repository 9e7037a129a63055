-- A value that says the same as another is of its sort, and an entry that is alike to another of its.
use Rattle.std.proofs.Common.{◌≡◌, ℕ, Bool, List, [], ◌∷◌, Option, Some, None, unwrap_or, refl, sym, ap, ◌∙◌, subst}
use Rattle.reflect_tables.specs.Types.{FieldType, PoolType}
use Rattle.reflect_wire.specs.Records.{Payload}
use Rattle.reflect_scalar.specs.Singles.{Single}
use Rattle.reflect_scalar.specs.declared.map_key.MapKey.{MapKey}
use Rattle.reflect_message.specs.Lists.{list_items}
use Rattle.reflect_message.specs.Maps.{map_entries}
use Rattle.reflect_message.specs.Messages.{message_in}
use Rattle.reflect_message.specs.Names.{DynamicMessage, Value}
use Rattle.reflect_message.specs.Singles as singles
use Rattle.print_parts.specs.Entries.{Entry, extension, field, undeclared}
use Rattle.print_parts.specs.Pairwise.{Pairwise}
use Rattle.reflect_print.specs.MessageTexts.{any_behind, before_value}
use Rattle.message_view.proofs.Seen.{list_seen, map_seen, message_seen, single_seen}
use Rattle.print_view.proofs.Alike.{AlikeOnes, AlikePairs, AlikeValues, Likeness, alike_lists, alike_maps, alike_messages, alike_ones, one_single, one_value}
use Rattle.print_view.proofs.AlikeRows.{AlikeEntries, AreAlike, one_extension, one_field, one_record}

module _ (A : Likeness) (itself : A.same → (m : DynamicMessage) → A.messages m m) where
  pub as_single : (v w : Value) → AlikeValues A v w → (s : Single) → singles.single v ≡ Some s → singles.single w ≡ Some s
  as_single v w (alike_ones (one_value x same)) s is = ap singles.single (sym same) ∙ is
  as_single v w (alike_ones (one_single t at also)) s is = also ∙ sym at ∙ is
  as_single v w (alike_ones (alike_messages m n at also r)) s is = absurd (cc (sym (single_seen v s is) ∙ message_seen v m at))
  as_single v w (alike_lists vs ws at also alike) s is = absurd (cc (sym (single_seen v s is) ∙ list_seen v vs at))
  as_single v w (alike_maps es gs at also alike) s is = absurd (cc (sym (single_seen v s is) ∙ map_seen v es at))

  pub as_message : (v w : Value) → AlikeValues A v w → (m : DynamicMessage) → message_in v ≡ Some m → (n : DynamicMessage) × (message_in w ≡ Some n) × A.messages m n
  as_message v w (alike_ones (one_value x same)) m is = (m, ap message_in (sym same) ∙ is, itself x m)
  as_message v w (alike_ones (one_single s at also)) m is = absurd (cc (sym (single_seen v s at) ∙ message_seen v m is))
  as_message v w (alike_ones (alike_messages k n at also r)) m is = (n, also, subst (λ a. A.messages a n) (ap (λ o. unwrap_or o k) (sym at ∙ is)) r)
  as_message v w (alike_lists vs ws at also alike) m is = absurd (cc (sym (list_seen v vs at) ∙ message_seen v m is))
  as_message v w (alike_maps es gs at also alike) m is = absurd (cc (sym (map_seen v es at) ∙ message_seen v m is))

  -- values that are one
  values_themselves : A.same → (vs : List Value) → Pairwise (AlikeOnes A) vs vs
  values_themselves x [] = refl
  values_themselves x (v ∷ vs) = (v, vs, one_value x refl, values_themselves x vs, refl)

  entries_themselves : A.same → (es : List (MapKey × Value)) → Pairwise (AlikePairs A) es es
  entries_themselves x [] = refl
  entries_themselves x (e ∷ es) = (e, es, (refl, one_value x refl), entries_themselves x es, refl)

  pub as_list : (v w : Value) → AlikeValues A v w → (vs : List Value) → list_items v ≡ Some vs → (ws : List Value) × (list_items w ≡ Some ws) × Pairwise (AlikeOnes A) vs ws
  as_list v w (alike_ones (one_value x same)) vs is = (vs, ap list_items (sym same) ∙ is, values_themselves x vs)
  as_list v w (alike_ones (one_single s at also)) vs is = absurd (cc (sym (single_seen v s at) ∙ list_seen v vs is))
  as_list v w (alike_ones (alike_messages m n at also r)) vs is = absurd (cc (sym (message_seen v m at) ∙ list_seen v vs is))
  as_list v w (alike_lists us ws at also alike) vs is = (ws, also, subst (λ a. Pairwise (AlikeOnes A) a ws) (ap (λ o. unwrap_or o us) (sym at ∙ is)) alike)
  as_list v w (alike_maps es gs at also alike) vs is = absurd (cc (sym (map_seen v es at) ∙ list_seen v vs is))

  pub as_map : (v w : Value) → AlikeValues A v w → (es : List (MapKey × Value)) → map_entries v ≡ Some es → (gs : List (MapKey × Value)) × (map_entries w ≡ Some gs) × Pairwise (AlikePairs A) es gs
  as_map v w (alike_ones (one_value x same)) es is = (es, ap map_entries (sym same) ∙ is, entries_themselves x es)
  as_map v w (alike_ones (one_single s at also)) es is = absurd (cc (sym (single_seen v s at) ∙ map_seen v es is))
  as_map v w (alike_ones (alike_messages m n at also r)) es is = absurd (cc (sym (message_seen v m at) ∙ map_seen v es is))
  as_map v w (alike_lists vs ws at also alike) es is = absurd (cc (sym (list_seen v vs at) ∙ map_seen v es is))
  as_map v w (alike_maps ds gs at also alike) es is = (gs, also, subst (λ a. Pairwise (AlikePairs A) a gs) (ap (λ o. unwrap_or o ds) (sym at ∙ is)) alike)

  -- what is no single value is none
  pub as_none : (v w : Value) → AlikeValues A v w → singles.single v ≡ None → singles.single w ≡ None
  as_none v w alike none = by (singles.single w) refl alike where
    by : (o : Option Single) → singles.single w ≡ o → AlikeValues A v w → o ≡ None
    by None is h = refl
    by (Some s) is (alike_ones (one_value x same)) = sym is ∙ ap singles.single (sym same) ∙ none
    by (Some s) is (alike_ones (one_single t at also)) = absurd (cc (sym none ∙ at))
    by (Some s) is (alike_ones (alike_messages m n at also r)) = absurd (cc (sym (single_seen w s is) ∙ message_seen w n also))
    by (Some s) is (alike_lists vs ws at also more) = absurd (cc (sym (single_seen w s is) ∙ list_seen w ws also))
    by (Some s) is (alike_maps es gs at also more) = absurd (cc (sym (single_seen w s is) ∙ map_seen w gs also))

  -- so the same stands before it
  no_message : (v : Value) → ((m : DynamicMessage) → message_in v ≡ Some m → ⊥) → message_in v ≡ None
  no_message v none = by (message_in v) refl where
    by : (o : Option DynamicMessage) → message_in v ≡ o → o ≡ None
    by None is = refl
    by (Some m) is = absurd (none m is)

  pub one_before : (pretty : Bool) (v w : Value) → AlikeValues A v w → before_value pretty (message_in v) ≡ before_value pretty (message_in w)
  one_before pretty v w (alike_ones (one_value x same)) = ap (λ u. before_value pretty (message_in u)) same
  one_before pretty v w (alike_ones (one_single s at also)) =
      ap (before_value pretty) (no_message v (λ m is. cc (sym (single_seen v s at) ∙ message_seen v m is)) ∙ sym (no_message w (λ m is. cc (sym (single_seen w s also) ∙ message_seen w m is))))
  one_before pretty v w (alike_ones (alike_messages m n at also r)) = ap (before_value pretty) at ∙ sym (ap (before_value pretty) also)
  one_before pretty v w (alike_lists vs ws at also alike) =
      ap (before_value pretty) (no_message v (λ m is. cc (sym (list_seen v vs at) ∙ message_seen v m is)) ∙ sym (no_message w (λ m is. cc (sym (list_seen w ws also) ∙ message_seen w m is))))
  one_before pretty v w (alike_maps es gs at also alike) =
      ap (before_value pretty) (no_message v (λ m is. cc (sym (map_seen v es at) ∙ message_seen v m is)) ∙ sym (no_message w (λ m is. cc (sym (map_seen w gs also) ∙ message_seen w m is))))

  -- an entry that is alike to a field's, to an extension's, and to a record
  pub as_field : (pool : PoolType) (f : FieldType) (v : Value) (e : Entry) → AlikeEntries A (field pool f v) e → (w : Value) × (e ≡ field pool f w) × AlikeValues A v w
  as_field pool f v e (one_record r is also) = absurd (cc is)
  as_field pool f v e (one_field p g u w is also alike) =
      let its_pool : pool ≡ p = cc is in
      let its_field : f ≡ g = cc is in
      let its_value : v ≡ u = cc is in
      (w, also ∙ ap (λ p. field p g w) (sym its_pool) ∙ ap (λ g. field pool g w) (sym its_field), subst (λ u. AlikeValues A u w) (sym its_value) alike)
  as_field pool f v e (one_extension p g u w is also alike) = absurd (cc is)

  pub as_extension : (pool : PoolType) (f : FieldType) (v : Value) (e : Entry) → AlikeEntries A (extension pool f v) e → (w : Value) × (e ≡ extension pool f w) × AlikeValues A v w
  as_extension pool f v e (one_record r is also) = absurd (cc is)
  as_extension pool f v e (one_field p g u w is also alike) = absurd (cc is)
  as_extension pool f v e (one_extension p g u w is also alike) =
      let its_pool : pool ≡ p = cc is in
      let its_field : f ≡ g = cc is in
      let its_value : v ≡ u = cc is in
      (w, also ∙ ap (λ p. extension p g w) (sym its_pool) ∙ ap (λ g. extension pool g w) (sym its_field), subst (λ u. AlikeValues A u w) (sym its_value) alike)

  pub as_record : (r : ℕ × Payload) (e : Entry) → AlikeEntries A (undeclared r) e → e ≡ undeclared r
  as_record r e (one_record s is also) =
      let same : r ≡ s = cc is in
      also ∙ ap undeclared (sym same)
  as_record r e (one_field p g u w is also alike) = absurd (cc is)
  as_record r e (one_extension p g u w is also alike) = absurd (cc is)

  pub any_alike : (any : Bool) (ds es : List Entry) → AreAlike A ds es → any_behind any ds ≡ any_behind any es
  any_alike any [] es none = sym (ap (any_behind any) none)
  any_alike any (d ∷ ds) es (e, rest, one, more, is) = sym (ap (any_behind any) is)

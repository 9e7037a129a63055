-- Messages of one type that hold the same, and values that say the same, wherever they lie in memory, at each depth.
use Rattle.std.proofs.Common.{◌≡◌, ◌||◌, ℕ, zero, suc, Bool, true, false, true≢false, List, [], ◌∷◌, map, Option, Some, None, refl, sym, ap, ◌∙◌, subst}
use Rattle.reflect_tables.specs.Types.{FieldType, PoolType}
use Rattle.reflect_pool.specs.Shapes.{holds_list, holds_map}
use Rattle.reflect_decode.specs.Ordered.{IsOrdered}
use Rattle.reflect_decode.proofs.Ordering.{nothing_ordered}
use Rattle.reflect_entries.specs.Entries.{value_at}
use Rattle.reflect_scalar.specs.Keys.{key_view}
use Rattle.reflect_scalar.specs.Singles as held
use Rattle.reflect_scalar.specs.declared.map_key.MapKey.{MapKey}
use Rattle.reflect_message.specs.Bytes.{form_of, is_set, list_form, map_form}
use Rattle.reflect_message.specs.Contents.{Content, content_of, nothing}
use Rattle.reflect_message.specs.Defaults.{IsDefault}
use Rattle.reflect_message.specs.Held.{extensions_of, fields_of, unknown_of}
use Rattle.reflect_message.specs.Known.{holds_floats, known_extension, known_field}
use Rattle.reflect_message.specs.Lists.{items_held, list_items}
use Rattle.reflect_message.specs.Maps.{entries_held, map_entries}
use Rattle.reflect_message.specs.Messages.{message_in}
use Rattle.reflect_message.specs.Names.{DynamicMessage, Value}
use Rattle.reflect_message.specs.Present.{is_held}
use Rattle.reflect_message.specs.Shown.{IsHeldOrDefault}
use Rattle.reflect_message.specs.Singles as singles
use Rattle.print_parts.specs.Pairwise.{Pairwise}
use Rattle.message_view.proofs.Accepting.{extension_known_whole, known_whole, not_float}
use Rattle.message_view.proofs.Entries.{Sort, floating, message_type, plain, some_default, sort_of}
use Rattle.message_view.proofs.Forms.{forms_of, list_form_seen, map_form_seen, message_form_seen, single_form_seen}

-- by what messages are alike, and whether values are that are one, whatever they are
pub record Likeness : Type 1 where
  pub same : Type 0
  pub messages : DynamicMessage → DynamicMessage → Type 0

-- ---- values

pub data AlikeOnes (A : Likeness) (v w : Value) : Type 0 where
  one_value : A.same → v ≡ w → AlikeOnes A v w
  one_single : (s : held.Single) → singles.single v ≡ Some s → singles.single w ≡ Some s → AlikeOnes A v w
  alike_messages : (m n : DynamicMessage) → message_in v ≡ Some m → message_in w ≡ Some n → A.messages m n → AlikeOnes A v w

abbrev pub AlikePairs : Likeness → MapKey × Value → MapKey × Value → Type 0
AlikePairs A e g = (key_view e.0 ≡ key_view g.0) × AlikeOnes A e.1 g.1

pub data AlikeValues (A : Likeness) (v w : Value) : Type 0 where
  alike_ones : AlikeOnes A v w → AlikeValues A v w
  alike_lists : (vs ws : List Value) → list_items v ≡ Some vs → list_items w ≡ Some ws → Pairwise (AlikeOnes A) vs ws → AlikeValues A v w
  alike_maps : (es gs : List (MapKey × Value)) → map_entries v ≡ Some es → map_entries w ≡ Some gs → Pairwise (AlikePairs A) es gs → AlikeValues A v w

-- what stands under the number of a field: it is printed or not alike, and what is printed is alike
pub record FieldAlike (A : Likeness) (pool : PoolType) (f : FieldType) (o p : Option Value) : Type 0 where
  pub held : is_held pool f o ≡ is_held pool f p
  pub values : (v w : Value) → IsHeldOrDefault pool f o v → IsHeldOrDefault pool f p w → AlikeValues A v w

-- messages of one type of the pool: where no field has the number nothing stands
pub record AlikeHeld (A : Likeness) (pool : PoolType) (m n : DynamicMessage) : Type 0 where
  pub first : m.descriptor.pool.now ≡ pool
  pub second : n.descriptor.pool.now ≡ pool
  pub index : m.descriptor.index ≡ n.descriptor.index
  pub ordered : IsOrdered (content_of m)
  pub order : IsOrdered (content_of n)
  pub fields : (k : ℕ) (f : FieldType) → known_field pool m.descriptor.index k ≡ Some f → FieldAlike A pool f (value_at (fields_of m) k) (value_at (fields_of n) k)
  pub unowned : (k : ℕ) → known_field pool m.descriptor.index k ≡ None → (value_at (fields_of m) k ≡ None) × (value_at (fields_of n) k ≡ None)
  pub extensions : (k : ℕ) (f : FieldType) → known_extension pool m.descriptor.index k ≡ Some f → FieldAlike A pool f (value_at (extensions_of m) k) (value_at (extensions_of n) k)
  pub unknown : unknown_of m ≡ unknown_of n

-- messages in which nothing is set
pub record AreBare (pool : PoolType) (m n : DynamicMessage) : Type 0 where
  pub first : m.descriptor.pool.now ≡ pool
  pub second : n.descriptor.pool.now ≡ pool
  pub index : m.descriptor.index ≡ n.descriptor.index
  pub one : content_of m ≡ nothing
  pub other : content_of n ≡ nothing

-- with so many levels of messages in them: the last hold nothing
abbrev pub AlikeMessages : PoolType → ℕ → DynamicMessage → DynamicMessage → Type 0
AlikeMessages pool zero m n = AreBare pool m n
AlikeMessages pool (suc levels) m n = AlikeHeld (record { same = ⊥; messages = AlikeMessages pool levels }) pool m n

abbrev pub Within : PoolType → ℕ → Likeness
Within pool levels = record { same = ⊥; messages = AlikeMessages pool levels }

abbrev pub below : ℕ → ℕ
below zero = zero
below (suc levels) = levels

-- ---- what is asked of a value by its form

module _ (A : Likeness) (pool : PoolType) (f : FieldType) where
  both_filled : {X : Type 0} (S : X → X → Type 0) (count : List X → Bool) → count [] ≡ false → ((x : X) (xs : List X) → count (x ∷ xs) ≡ true) → (xs ys : List X) → Pairwise S xs ys → count xs ≡ count ys
  both_filled S count none some [] ys is = sym (ap count is)
  both_filled S count none some (x ∷ xs) ys (y, rest, one, more, is) = some x xs ∙ sym (some y rest) ∙ sym (ap count is)

  -- it is set or not alike
  set_alike : (v w : Value) → AlikeValues A v w → is_set pool f (form_of v) ≡ is_set pool f (form_of w)
  set_alike v w (alike_ones (one_value s same)) = ap (λ u. is_set pool f (form_of u)) same
  set_alike v w (alike_ones (one_single s at also)) = ap (is_set pool f) (single_form_seen v s at ∙ sym (single_form_seen w s also))
  set_alike v w (alike_ones (alike_messages m n at also r)) = ap (is_set pool f) (message_form_seen v m at) ∙ sym (ap (is_set pool f) (message_form_seen w n also))
  set_alike v w (alike_lists vs ws at also alike) =
      ap (is_set pool f) (list_form_seen v vs at)
      ∙ ap (λ b. f.presence || b) (both_filled (AlikeOnes A) (λ us. (list_form (map form_of us)).filled) refl (λ u us. refl) vs ws alike)
      ∙ sym (ap (is_set pool f) (list_form_seen w ws also))
  set_alike v w (alike_maps es gs at also alike) =
      ap (is_set pool f) (map_form_seen v es at)
      ∙ ap (λ b. f.presence || b) (both_filled (AlikePairs A) (λ ds. (map_form (forms_of ds)).filled) refl (λ d ds. refl) es gs alike)
      ∙ sym (ap (is_set pool f) (map_form_seen w gs also))

  pub some_alike : (v w : Value) → AlikeValues A v w → FieldAlike A pool f (Some v) (Some w)
  some_alike v w alike = record {
    held = set_alike v w alike;
    values = λ a b one two. subst (λ a. AlikeValues A a b) (sym one) (subst (AlikeValues A v) (sym two) alike);
  }

  -- an empty list, or map, is not set, and is what stands for it where nothing does
  module _ (unset : f.presence ≡ false) where
    empty_list : (w : Value) → list_items w ≡ Some [] → is_set pool f (form_of w) ≡ false
    empty_list w at = ap (is_set pool f) (list_form_seen w [] at) ∙ ap (λ b. b || false) unset

    empty_map : (w : Value) → map_entries w ≡ Some [] → is_set pool f (form_of w) ≡ false
    empty_map w at = ap (is_set pool f) (map_form_seen w [] at) ∙ ap (λ b. b || false) unset

    none_items : (us : List Value) → Pairwise (AlikeOnes A) us [] → us ≡ []
    none_items [] h = refl
    none_items (a ∷ us) (y, rest, one, more, is) = absurd (cc is)

    none_entries : (us : List (MapKey × Value)) → Pairwise (AlikePairs A) us [] → us ≡ []
    none_entries [] h = refl
    none_entries (a ∷ us) (y, rest, one, more, is) = absurd (cc is)

    pub lists_alike : FieldAlike A pool f None None → holds_list pool f ≡ true → (o p : Option Value) (us bs : List Value) → items_held o ≡ Some us → items_held p ≡ Some bs → Pairwise (AlikeOnes A) us bs → FieldAlike A pool f o p
    lists_alike neither many None None us bs at also pairs = neither
    lists_alike neither many None (Some w) us bs at also pairs =
        let first : us ≡ [] = cc at in
        let second : bs ≡ [] = subst (λ l. Pairwise (AlikeOnes A) l bs) first pairs in
        let items : list_items w ≡ Some [] = also ∙ ap Some second in
        record {
          held = sym (empty_list w items);
          values = λ a b one two. alike_lists [] [] (one.0 many) (ap list_items two ∙ items) refl;
        }
    lists_alike neither many (Some v) None us bs at also pairs =
        let second : bs ≡ [] = cc also in
        let first : us ≡ [] = none_items us (subst (Pairwise (AlikeOnes A) us) second pairs) in
        let items : list_items v ≡ Some [] = at ∙ ap Some first in
        record {
          held = empty_list v items;
          values = λ a b one two. alike_lists [] [] (ap list_items one ∙ items) (two.0 many) refl;
        }
    lists_alike neither many (Some v) (Some w) us bs at also pairs = some_alike v w (alike_lists us bs at also pairs)

    pub maps_alike : FieldAlike A pool f None None → holds_map pool f ≡ true → (o p : Option Value) (us bs : List (MapKey × Value)) → entries_held o ≡ Some us → entries_held p ≡ Some bs → Pairwise (AlikePairs A) us bs → FieldAlike A pool f o p
    maps_alike neither is_map None None us bs at also pairs = neither
    maps_alike neither is_map None (Some w) us bs at also pairs =
        let first : us ≡ [] = cc at in
        let second : bs ≡ [] = subst (λ l. Pairwise (AlikePairs A) l bs) first pairs in
        let entries : map_entries w ≡ Some [] = also ∙ ap Some second in
        record {
          held = sym (empty_map w entries);
          values = λ a b one two. alike_maps [] [] (one.1 is_map) (ap map_entries two ∙ entries) refl;
        }
    maps_alike neither is_map (Some v) None us bs at also pairs =
        let second : bs ≡ [] = cc also in
        let first : us ≡ [] = none_entries us (subst (Pairwise (AlikePairs A) us) second pairs) in
        let entries : map_entries v ≡ Some [] = at ∙ ap Some first in
        record {
          held = empty_map v entries;
          values = λ a b one two. alike_maps [] [] (ap map_entries one ∙ entries) (two.1 is_map) refl;
        }
    maps_alike neither is_map (Some v) (Some w) us bs at also pairs = some_alike v w (alike_maps us bs at also pairs)

-- ---- where nothing is set, if messages in which nothing is set are alike
module _ (A : Likeness) (pool : PoolType) (bare : (m n : DynamicMessage) → AreBare pool m n → A.messages m n) where
  default_alike : (f : FieldType) → holds_floats pool f ≡ false → (v w : Value) → IsDefault pool f v → IsDefault pool f w → AlikeValues A v w
  default_alike f whole v w one two = by (holds_map pool f) refl (holds_list pool f) refl where
    within : holds_list pool f ≡ false → holds_map pool f ≡ false → Sort f.kind → AlikeValues A v w
    within no_list no_map (floating e) = absurd (true≢false (sym e ∙ not_float pool f whole))
    within no_list no_map (plain type) =
        let d = some_default pool f type in
        alike_ones (one_single d.0 ((one.2 no_list no_map).0 type ∙ d.1) ((two.2 no_list no_map).0 type ∙ d.1))
    within no_list no_map (message_type type) =
        let m = (one.2 no_list no_map).1 type in
        let n = (two.2 no_list no_map).1 type in
        let place : m.0.descriptor.index ≡ n.0.descriptor.index = cc (sym m.2.0.1 ∙ n.2.0.1) in
        alike_ones (alike_messages m.0 n.0 m.1 n.1 (bare m.0 n.0 (record { first = m.2.0.0; second = n.2.0.0; index = place; one = m.2.1; other = n.2.1 })))

    by : (b : Bool) → holds_map pool f ≡ b → (c : Bool) → holds_list pool f ≡ c → AlikeValues A v w
    by true map c list = alike_maps [] [] (one.1 map) (two.1 map) refl
    by false map true list = alike_lists [] [] (one.0 list) (two.0 list) refl
    by false map false list = within list map (sort_of f.kind)

  pub none_alike : (f : FieldType) → holds_floats pool f ≡ false → FieldAlike A pool f None None
  none_alike f whole = record { held = refl; values = default_alike f whole }

  bare_held : (m n : DynamicMessage) → AreBare pool m n → AlikeHeld A pool m n
  bare_held m n h = record {
    first = h.first;
    second = h.second;
    index = h.index;
    ordered = subst IsOrdered (sym h.one) nothing_ordered;
    order = subst IsOrdered (sym h.other) nothing_ordered;
    fields = λ k f is. unset (λ (c : Content). c.fields) k f refl (none_alike f (whole_field k f is));
    unowned = λ k none. (ap (λ (c : Content). value_at c.fields k) h.one, ap (λ (c : Content). value_at c.fields k) h.other);
    extensions = λ k f is. unset (λ (c : Content). c.extensions) k f refl (none_alike f (whole_extension k f is));
    unknown = ap (λ (c : Content). c.unknown) (h.one ∙ sym h.other);
  } where
    unset : (part : Content → List (ℕ × Value)) (k : ℕ) (f : FieldType) → part nothing ≡ [] → FieldAlike A pool f None None → FieldAlike A pool f (value_at (part (content_of m)) k) (value_at (part (content_of n)) k)
    unset part k f empty neither =
        let first : value_at (part (content_of m)) k ≡ None = ap (λ c. value_at (part c) k) h.one ∙ ap (λ es. value_at es k) empty in
        let second : value_at (part (content_of n)) k ≡ None = ap (λ c. value_at (part c) k) h.other ∙ ap (λ es. value_at es k) empty in
        subst (λ o. FieldAlike A pool f o (value_at (part (content_of n)) k)) (sym first) (subst (FieldAlike A pool f None) (sym second) neither)

    whole_field : (k : ℕ) (f : FieldType) → known_field pool m.descriptor.index k ≡ Some f → holds_floats pool f ≡ false
    whole_field k f is = subst (λ p. known_field p m.descriptor.index k ≡ Some f → holds_floats p f ≡ false) h.first (known_whole m.descriptor k f) is

    whole_extension : (k : ℕ) (f : FieldType) → known_extension pool m.descriptor.index k ≡ Some f → holds_floats pool f ≡ false
    whole_extension k f is = subst (λ p. known_extension p m.descriptor.index k ≡ Some f → holds_floats p f ≡ false) h.first (extension_known_whole m.descriptor k f) is

pub bare_alike : (pool : PoolType) (levels : ℕ) (m n : DynamicMessage) → AreBare pool m n → AlikeMessages pool levels m n
bare_alike pool zero m n h = h
bare_alike pool (suc levels) m n h = bare_held (Within pool levels) pool (bare_alike pool levels) m n h

-- what alike messages hold, one level below
pub as_held : (pool : PoolType) (levels : ℕ) (m n : DynamicMessage) → AlikeMessages pool levels m n → AlikeHeld (Within pool (below levels)) pool m n
as_held pool zero m n h = bare_held (Within pool zero) pool (λ m n h. h) m n h
as_held pool (suc levels) m n h = h

-- What holds of the messages inside values.
use Rattle.std.proofs.Common.{◌≡◌, Bool, true, false, true≢false, List, [], Some, unwrap_or, refl, sym, ap, ◌∙◌, subst}
use Rattle.std.specs.List.{AllByRecursion}
use Rattle.reflect_tables.specs.Types.{PoolType, FieldType}
use Rattle.reflect_pool.specs.Shapes.{is_repeated, holds_list, holds_map}
use Rattle.reflect_scalar.specs.Singles as held
use Rattle.reflect_scalar.specs.declared.map_key.MapKey.{MapKey}
use Rattle.reflect_message.specs.Defaults.{IsDefault}
use Rattle.reflect_message.specs.KindTypes.{IsMessageType}
use Rattle.reflect_message.specs.Known.{is_float}
use Rattle.reflect_message.specs.Lists.{list_items}
use Rattle.reflect_message.specs.Maps.{map_entries}
use Rattle.reflect_message.specs.Messages.{message_in}
use Rattle.reflect_message.specs.Names.{DynamicMessage, Value}
use Rattle.reflect_message.specs.Singles as singles
use Rattle.print_parts.specs.Entries.{Entry, field, extension, undeclared}
use Rattle.message_view.proofs.Entries.{Sort, plain, floating, message_type, sort_of, some_default}
use Rattle.message_view.proofs.Seen.{single_seen, message_seen, list_seen, map_seen}
use Rattle.print_view.proofs.Defaults.{single_field}

module _ (inner : DynamicMessage → Type 0) where
  -- a value that is no list and no map; if it is a message, this has the property
  pub record OneValue (v : Value) : Type 0 where
    pub message : (m : DynamicMessage) → message_in v ≡ Some m → inner m
    pub no_list : (vs : List Value) → list_items v ≡ Some vs → ⊥
    pub no_map : (es : List (MapKey × Value)) → map_entries v ≡ Some es → ⊥

  -- a value, a list of them or a map to them
  pub record EachValue (v : Value) : Type 0 where
    pub message : (m : DynamicMessage) → message_in v ≡ Some m → inner m
    pub items : (vs : List Value) → list_items v ≡ Some vs → AllByRecursion OneValue vs
    pub entries : (es : List (MapKey × Value)) → map_entries v ≡ Some es → AllByRecursion (λ (e : MapKey × Value). OneValue e.1) es

  -- an entry of a field or of an extension, with such a value
  abbrev pub EachEntry : Entry → Type 0
  EachEntry (field pool f v) = EachValue v
  EachEntry (extension pool f v) = EachValue v
  EachEntry (undeclared r) = ⊥

  pub by_itself : (v : Value) → OneValue v → EachValue v
  by_itself v h = record {
    message = h.message;
    items = λ vs is. absurd (h.no_list vs is);
    entries = λ es is. absurd (h.no_map es is);
  }

  -- ---- values of each sort

  pub single_value : (v : Value) (w : held.Single) → singles.single v ≡ Some w → OneValue v
  single_value v w is = record {
    message = λ m other. absurd (cc (sym (single_seen v w is) ∙ message_seen v m other));
    no_list = λ vs other. cc (sym (single_seen v w is) ∙ list_seen v vs other);
    no_map = λ es other. cc (sym (single_seen v w is) ∙ map_seen v es other);
  }

  pub message_value : (v : Value) (m : DynamicMessage) → message_in v ≡ Some m → inner m → OneValue v
  message_value v m is h = record {
    message = λ n there. subst inner (ap (λ o. unwrap_or o n) (sym is ∙ there)) h;
    no_list = λ vs other. cc (sym (message_seen v m is) ∙ list_seen v vs other);
    no_map = λ es other. cc (sym (message_seen v m is) ∙ map_seen v es other);
  }

  pub list_value : (v : Value) (vs : List Value) → list_items v ≡ Some vs → AllByRecursion OneValue vs → EachValue v
  list_value v vs is h = record {
    message = λ m other. absurd (cc (sym (list_seen v vs is) ∙ message_seen v m other));
    items = λ us there. subst (AllByRecursion OneValue) (ap (λ o. unwrap_or o us) (sym is ∙ there)) h;
    entries = λ es other. absurd (cc (sym (list_seen v vs is) ∙ map_seen v es other));
  }

  pub map_value : (v : Value) (es : List (MapKey × Value)) → map_entries v ≡ Some es → AllByRecursion (λ (e : MapKey × Value). OneValue e.1) es → EachValue v
  map_value v es is h = record {
    message = λ m other. absurd (cc (sym (map_seen v es is) ∙ message_seen v m other));
    items = λ vs other. absurd (cc (sym (map_seen v es is) ∙ list_seen v vs other));
    entries = λ fs there. subst (AllByRecursion (λ (e : MapKey × Value). OneValue e.1)) (ap (λ o. unwrap_or o fs) (sym is ∙ there)) h;
  }

  -- a default holds no message, if its field holds none by itself
  pub default_value : (pool : PoolType) (f : FieldType) (v : Value) → is_float f.kind ≡ false → (IsMessageType f.kind → is_repeated f.cardinality ≡ false → ⊥) → IsDefault pool f v → EachValue v
  default_value pool f v whole no_message is = by (holds_map pool f) refl (holds_list pool f) refl where
    by : (b : Bool) → holds_map pool f ≡ b → (c : Bool) → holds_list pool f ≡ c → EachValue v
    by true map c k = map_value v [] (is.1 map) tt
    by false map true list = list_value v [] (is.0 list) tt
    by false map false list = within (sort_of f.kind) where
      within : Sort f.kind → EachValue v
      within (floating e) = absurd (true≢false (sym e ∙ whole))
      within (message_type type) = absurd (no_message type (single_field pool f map list))
      within (plain type) = let d = some_default pool f type in by_itself v (single_value v d.0 ((is.2 list map).0 type ∙ d.1))

-- How values are written, one level at a time.
use Rattle.std.proofs.Common.{◌≡◌, ℕ, List, [], map, Some, unwrap_or, refl, ap, ◌∙◌, subst}
use Rattle.reflect_tables.specs.Types.{PoolType}
use Rattle.reflect_scalar.specs.Singles as held
use Rattle.reflect_scalar.specs.declared.map_key.MapKey.{MapKey}
use Rattle.reflect_message.specs.Bytes.{Form, single_form, message_form, list_form, map_form, form_of, forms, content, held_bytes, message_bytes, value_step, message_step, held_step, parts_step}
use Rattle.reflect_message.specs.Held.{fields_in, extensions_in, unknown_in}
use Rattle.reflect_message.specs.Lists.{list_items}
use Rattle.reflect_message.specs.Maps.{map_entries}
use Rattle.reflect_message.specs.Messages.{message_in}
use Rattle.reflect_message.specs.Singles as singles
use Rattle.reflect_message.specs.Contents.{content_of}
use Rattle.reflect_message.specs.Names.{DynamicMessage, Parts, Value}
use Rattle.reflect_message.specs.declared.parts.HeldOf.{out-HeldOf}
use Rattle.reflect_message.specs.Names as blocks
use Rattle.reflect_message.specs.declared.parts.HeldOf.TheFolds.{map-ValueOf, map-HeldOf, fold-HeldOf, fold-ValueOf, fold-MessageOf, fold-PartsOf, fold_out-ValueOf, fold_out-HeldOf, fold_out-PartsOf, fold_out-MessageOf}
use Rattle.reflect_message.specs.declared.parts.HeldOf.TheOpen.{HeldOf-F, ValueOf-F}
use Rattle.reflect_message.specs.declared.parts.HeldOf.TheViews.{out-ValueOf}
use Rattle.reflect_copies.proofs.Alike.{Open, entries_in, items_in, message_of}
use Rattle.message_view.proofs.Seen.{IsSeenAs, single_in, entries_opened, extensions_opened, unknown_opened}
use Rattle.reflect_pool.specs.declared.message.MessageDescriptor.{MessageDescriptor}

abbrev Placed : Type 0
Placed = PoolType → ℕ → List ℕ

abbrev stepped : Open → Form
stepped o = value_step (map-ValueOf MessageDescriptor blocks.Held Value DynamicMessage Parts Placed Form (List ℕ) Placed
    (fold-HeldOf MessageDescriptor Placed Form (List ℕ) Placed held_step value_step message_step parts_step)
    (fold-ValueOf MessageDescriptor Placed Form (List ℕ) Placed held_step value_step message_step parts_step)
    (fold-MessageOf MessageDescriptor Placed Form (List ℕ) Placed held_step value_step message_step parts_step)
    (fold-PartsOf MessageDescriptor Placed Form (List ℕ) Placed held_step value_step message_step parts_step) o)

opened : (v : Value) → form_of v ≡ stepped (out-ValueOf MessageDescriptor v)
opened v = fold_out-ValueOf MessageDescriptor Placed Form (List ℕ) Placed held_step value_step message_step parts_step v

pub single_form_seen : (v : Value) (w : held.Single) → singles.single v ≡ Some w → form_of v ≡ single_form w
single_form_seen v w e = opened v ∙ subst (IsSeenAs single_form (stepped (out-ValueOf MessageDescriptor v))) e (by (out-ValueOf MessageDescriptor v)) where
  by : (o : Open) → IsSeenAs single_form (stepped o) (single_in o)
  by (ValueOf-F.Message m) = refl
  by o = refl

-- a message that is a value is written as the message that it is
folded : (m : DynamicMessage) → fold-MessageOf MessageDescriptor Placed Form (List ℕ) Placed held_step value_step message_step parts_step m ≡ message_bytes m
folded m = fold_out-MessageOf MessageDescriptor Placed Form (List ℕ) Placed held_step value_step message_step parts_step m

pub message_form_seen : (v : Value) (m : DynamicMessage) → message_in v ≡ Some m → form_of v ≡ message_form (message_bytes m)
message_form_seen v m e = opened v ∙ by (out-ValueOf MessageDescriptor v) e where
  by : (o : Open) → message_of o ≡ Some m → stepped o ≡ message_form (message_bytes m)
  by (ValueOf-F.Message n) e = ap message_form (folded n) ∙ ap (λ o. message_form (message_bytes (unwrap_or o n))) e
  by o e = absurd (cc e)

pub list_form_seen : (v : Value) (vs : List Value) → list_items v ≡ Some vs → form_of v ≡ list_form (map form_of vs)
list_form_seen v vs e = opened v ∙ by (out-ValueOf MessageDescriptor v) e where
  by : (o : Open) → items_in o ≡ Some vs → stepped o ≡ list_form (map form_of vs)
  by (ValueOf-F.List ws) e = ap (λ o. list_form (map form_of (unwrap_or o []))) e
  by o e = absurd (cc e)

abbrev pub forms_of : List (MapKey × Value) → List (MapKey × Form)
forms_of es = map (λ e. (e.0, form_of e.1)) es

pub map_form_seen : (v : Value) (es : List (MapKey × Value)) → map_entries v ≡ Some es → form_of v ≡ map_form (forms_of es)
map_form_seen v es e = opened v ∙ by (out-ValueOf MessageDescriptor v) e where
  by : (o : Open) → entries_in o ≡ Some es → stepped o ≡ map_form (forms_of es)
  by (ValueOf-F.Map fs) e = ap (λ o. map_form (forms_of (unwrap_or o []))) e
  by o e = absurd (cc e)

held_seen : (h : blocks.Held) (pool : PoolType) (i : ℕ) → held_bytes h pool i ≡ content pool i (forms (fields_in h)) (forms (extensions_in h)) (unknown_in h)
held_seen h pool i = ap (λ s. s pool i) (fold_out-HeldOf MessageDescriptor Placed Form (List ℕ) Placed held_step value_step message_step parts_step h) ∙ by (out-HeldOf MessageDescriptor h) where
  by : (o : HeldOf-F MessageDescriptor blocks.Held Value DynamicMessage Parts)
      → held_step (map-HeldOf MessageDescriptor blocks.Held Value DynamicMessage Parts Placed Form (List ℕ) Placed
      (fold-HeldOf MessageDescriptor Placed Form (List ℕ) Placed held_step value_step message_step parts_step)
      (fold-ValueOf MessageDescriptor Placed Form (List ℕ) Placed held_step value_step message_step parts_step)
      (fold-MessageOf MessageDescriptor Placed Form (List ℕ) Placed held_step value_step message_step parts_step)
      (fold-PartsOf MessageDescriptor Placed Form (List ℕ) Placed held_step value_step message_step parts_step) o) pool i
      ≡ content pool i (forms (entries_opened o)) (forms (extensions_opened o)) (unknown_opened o)
  by HeldOf-F.Nothing = refl
  by (HeldOf-F.Block b) = ap (λ s. s pool i) (fold_out-PartsOf MessageDescriptor Placed Form (List ℕ) Placed held_step value_step message_step parts_step b.value)

-- the bytes of a message, by what it holds
pub bytes_opened : (m : DynamicMessage) → message_bytes m ≡ content m.descriptor.pool.now m.descriptor.index (forms (content_of m).fields) (forms (content_of m).extensions) (content_of m).unknown
bytes_opened m = held_seen m.held m.descriptor.pool.now m.descriptor.index

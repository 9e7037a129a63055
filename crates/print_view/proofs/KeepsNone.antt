-- Contents in which no record is kept: they are plain, where they hold bytes and each Any in them holds the one form of a message.
use Rattle.std.proofs.Common.{◌≡◌, ℕ, suc, Bool, true, false, sym, subst}
use Rattle.std.specs.List.{AllByRecursion}
use Rattle.protox_lex.specs.Class.{Text}
use Rattle.reflect_tables.specs.Types.{PoolType, FieldType}
use Rattle.reflect_message.specs.Names.{Value}
use Rattle.print_parts.specs.Entries.{Entry, field, extension, undeclared}
use Rattle.protobuf_model.specs.Bytes.{bytes_of}
use Rattle.protobuf_model.specs.Types.{Name, Kind, Types}
use Rattle.protobuf_model.specs.Values.{Single, Content, single, Contents, Entries, Message, list_of, pairs_of}
use Rattle.text_model.specs.Expansions.{HoldsMessage}
use Rattle.text_model.specs.Plain.{IsPlain, IsPlainContent, ArePlainContents, ArePlainEntries}
use Rattle.text_model.specs.Printed.{text_in}
use Rattle.text_model.specs.Schemas.{Schema, shape_of}
use Rattle.text_model.proofs.InBytes.{HasBytes, HaveBytes, EntriesHaveBytes, IsInBytes}
use Rattle.message_view.specs.Types.{kind_in, types_of, values_of}
use Rattle.message_view.specs.Views.{content_view}
use Rattle.print_view.proofs.Contents.{OneContent, EachContent, Forms, form_here, one_of_each}
use Rattle.print_view.proofs.HeldAlone.{held_alone}

-- where `Q` is what is asked of the Anys in a message
module _ (types : Types) (Q : Name → Message → Type 0) where
  abbrev pub MessageKeepsNone : Name → Message → Type 0
  MessageKeepsNone t m = IsInBytes m → Q t m → IsPlain types t m

  abbrev pub KeepsNone : Kind → Content → Type 0
  KeepsNone k c = HasBytes c → EachContent Q k c → IsPlainContent types k c

  -- a content that is no list and no map
  abbrev pub OneKeepsNone : Kind → Content → Type 0
  OneKeepsNone k c = HasBytes c → OneContent Q k c → IsPlainContent types k c

  abbrev pub ListKeepsNone : Kind → Contents → Type 0
  ListKeepsNone k cs = HaveBytes cs → AllByRecursion (OneContent Q k) (list_of cs) → ArePlainContents types k cs

  abbrev pub MapKeepsNone : Kind → Entries → Type 0
  MapKeepsNone k es = EntriesHaveBytes es → AllByRecursion (λ (e : Single × Content). OneContent Q k e.1) (pairs_of es) → ArePlainEntries types k es

-- what a field holds, by whether that is a map, and whether a list
module _ (pool : PoolType) (Q : Name → Message → Type 0) where
  abbrev kind : FieldType → Kind
  kind f = kind_in pool f.group f.kind

  abbrev pub FieldKeepsNone : FieldType → Value → Type 0
  FieldKeepsNone f v = KeepsNone (types_of pool) Q (kind (values_of pool f)) (content_view v)

  abbrev pub ValueKeepsNone : (map_too repeated : Bool) → FieldType → Value → Type 0
  ValueKeepsNone true repeated f v = FieldKeepsNone f v
  ValueKeepsNone false true f v = KeepsNone (types_of pool) Q (kind f) (content_view v)
  ValueKeepsNone false false f v = OneKeepsNone (types_of pool) Q (kind f) (content_view v)

  pub single_keeps_none : (b c : Bool) (f : FieldType) (v : Value) (s : Single) → content_view v ≡ single s → ValueKeepsNone b c f v
  single_keeps_none true c f v s seen = subst (KeepsNone (types_of pool) Q (kind (values_of pool f))) (sym seen) (λ bytes forms. bytes)
  single_keeps_none false true f v s seen = subst (KeepsNone (types_of pool) Q (kind f)) (sym seen) (λ bytes forms. bytes)
  single_keeps_none false false f v s seen = subst (OneKeepsNone (types_of pool) Q (kind f)) (sym seen) (λ bytes forms. bytes)

  -- a field that is no map is of its own type
  pub list_keeps_none : (f : FieldType) (v : Value) → values_of pool f ≡ f → ValueKeepsNone false true f v → FieldKeepsNone f v
  list_keeps_none f v is none = subst (λ g. KeepsNone (types_of pool) Q (kind g) (content_view v)) (sym is) none

  pub one_keeps_none : (f : FieldType) (v : Value) → values_of pool f ≡ f → ValueKeepsNone false false f v → FieldKeepsNone f v
  one_keeps_none f v is none = list_keeps_none f v is (λ bytes forms. none bytes (one_of_each Q (kind f) (content_view v) forms))

  -- a field or an extension that keeps none; a record is one
  abbrev pub EntryKeepsNone : Entry → Type 0
  EntryKeepsNone (field q f v) = FieldKeepsNone f v
  EntryKeepsNone (extension q f v) = FieldKeepsNone f v
  EntryKeepsNone (undeclared r) = ⊥

-- an Any that is expanded
pub any_keeps_none : (w : Schema) (more levels : ℕ) (t : Name) (m : Message) (url : Text × Text) (u : Name) (held : Message) → HoldsMessage w t m url u held → MessageKeepsNone w.types (Forms w true (suc more) (suc levels)) t m
any_keeps_none w more levels t m url u held holds bytes forms =
    let here = form_here w more levels t m forms in
    let one = here url u held holds in
    held_alone w.types (shape_of w t) (text_in (m 1)) (bytes_of w.types u held) m one.0.alone bytes

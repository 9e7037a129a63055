-- Two pools that say the same to texts, and whose messages, with their fields, and extensions have the same names and
-- numbers at the same places: what is found in the one by them is found in the other.
use Rattle.std.proofs.Common.{◌≡◌, ◌<◌, ◌≤◌, ◌∙◌, ℕ, zero, suc, List, [], ◌∷◌, length, map, Option, None, Some, slice_index_or, refl, sym, ap, subst, arith}
use Rattle.std.proofs.lemmas.List.{length-map}
use Rattle.message_view.specs.Sound.{IsSound}
use Rattle.message_view.specs.Types.{name_at, types_of}
use Rattle.protobuf_model.specs.Types.{Name}
use Rattle.protobuf_model.specs.Values.{Message}
use Rattle.protox_lex.specs.Class.{Text}
use Rattle.reflect_tables.specs.Finding.{IsFirst}
use Rattle.reflect_tables.specs.Types.{ExtensionType, FieldType, MessageType, PoolType, extension_at, no_extension, no_field, no_type, type_at, type_of_field}
use Rattle.text_model.specs.Schemas.{Schema}
use Rattle.text_view.specs.Schemas.{schema_of}

-- ---- lists of which something is the same

-- what is told of the elements is told at each place
mapped_at : {X Y : Type 0} (f : X → Y) (xs : List X) (i : ℕ) (d : X) → f (slice_index_or xs i d) ≡ slice_index_or (map f xs) i (f d)
mapped_at f [] i d = refl
mapped_at f (x ∷ xs) zero d = refl
mapped_at f (x ∷ xs) (suc i) d = mapped_at f xs i d

as_long : {X Y : Type 0} (f : X → Y) (xs ys : List X) → map f xs ≡ map f ys → length xs ≡ length ys
as_long f xs ys same = sym (length-map xs f) ∙ ap length same ∙ length-map ys f

-- so it is of what stands there, whatever else would
same_at : {X Y : Type 0} (f : X → Y) (xs ys : List X) → map f xs ≡ map f ys → (k : ℕ) (d : X) → f (slice_index_or xs k d) ≡ f (slice_index_or ys k d)
same_at f xs ys same k d = mapped_at f xs k d ∙ ap (λ zs. slice_index_or zs k (f d)) same ∙ sym (mapped_at f ys k d)

-- what is first by this in the one is first by it in the other
pub first_there : {X Y : Type 0} (f : X → Y) (P : Y → Type 0) (xs ys : List X) → map f xs ≡ map f ys → (o : Option ℕ) → IsFirst (λ x. P (f x)) xs o → IsFirst (λ x. P (f x)) ys o
first_there f P xs ys same None none = λ k d less holds. (
    let long : length xs ≡ length ys = as_long f xs ys same in
    none k d (omega (arith, less, long)) (subst P (sym (same_at f xs ys same k d)) holds))
first_there {X} {Y} f P xs ys same (Some i) first = (near, ((λ d. subst P (same_at f xs ys same i d) (first.1.0 d)), before)) where
  long : length xs ≡ length ys
  long = as_long f xs ys same

  near : i < length ys
  near = let less = first.0 in let all : length xs ≡ length ys = long in omega (arith, less, all)

  before : (k : ℕ) (d : X) → 0 ≤ k → k < i → P (f (slice_index_or ys k d)) → ⊥
  before k d low below holds =
      let less = first.0 in
      let there : k < length xs = omega (arith, less, below) in
      first.1.1 k d low below (subst P (sym (same_at f xs ys same k d)) holds)

-- ---- what names are looked up by

-- of a field
pub record Called : Type 0 where
  pub name : Text
  pub number : ℕ

abbrev pub called : FieldType → Called
called f = record { name = f.name; number = f.number }

-- of a message
pub record Outline : Type 0 where
  pub full_name : Text
  pub fields : List Called

abbrev pub outline : MessageType → Outline
outline m = record { full_name = m.full_name; fields = map called m.fields }

-- of an extension
pub record Outside : Type 0 where
  pub extendee : ℕ
  pub full_name : Text
  pub number : ℕ

abbrev pub outside : ExtensionType → Outside
outside x = record { extendee = x.extendee; full_name = x.field.full_name; number = x.field.number }

-- ---- the two pools

-- bytes of texts are not asked for
pub none_decoded : Name → Text → Option Message
none_decoded t bytes = None

pub record AreTwinPools (p q : PoolType) : Type 0 where
  pub sound : IsSound p
  pub also : IsSound q
  pub schema : schema_of p none_decoded ≡ schema_of q none_decoded
  pub messages : map outline p.messages ≡ map outline q.messages
  pub extensions : map outside p.extensions ≡ map outside q.extensions

pub twins_itself : (p : PoolType) → IsSound p → AreTwinPools p p
twins_itself p sound = record { sound = sound; also = sound; schema = refl; messages = refl; extensions = refl }

pub twins_back : (p q : PoolType) → AreTwinPools p q → AreTwinPools q p
twins_back p q twins = record {
  sound = twins.also;
  also = twins.sound;
  schema = sym twins.schema;
  messages = sym twins.messages;
  extensions = sym twins.extensions;
}

pub twins_moved : (p q x y : PoolType) → x ≡ p → y ≡ q → AreTwinPools p q → AreTwinPools x y
twins_moved p q x y first second twins = subst (λ z. AreTwinPools x z) (sym second) (subst (λ z. AreTwinPools z q) (sym first) twins)

-- the message of a full name is found in both
pub message_there : (p q : PoolType) → map outline p.messages ≡ map outline q.messages → (name : Text) (o : Option ℕ)
    → IsFirst (λ (m : MessageType). m.full_name ≡ name) p.messages o → IsFirst (λ (m : MessageType). m.full_name ≡ name) q.messages o
message_there p q same name o first = first_there outline (λ (x : Outline). x.full_name ≡ name) p.messages q.messages same o first

module _ (p q : PoolType) (twins : AreTwinPools p q) where
  pub types_same : types_of p ≡ types_of q
  types_same = ap (λ (w : Schema). w.types) twins.schema

  -- ---- a message at a place

  outline_same : (i j : ℕ) → i ≡ j → outline (type_at p i) ≡ outline (type_at q j)
  outline_same i j place =
      mapped_at outline p.messages i no_type
      ∙ (λ k. slice_index_or (twins.messages k) (place k) (outline no_type))
      ∙ sym (mapped_at outline q.messages j no_type)

  pub name_same : (i j : ℕ) → i ≡ j → name_at p i ≡ name_at q j
  name_same i j place = ap (λ (x : Outline). x.full_name) (outline_same i j place)

  -- messages of one name stand at one place
  pub one_place : (i j : ℕ) → i < length p.messages → j < length q.messages → name_at p i ≡ name_at q j → i ≡ j
  one_place i j less near same =
      let long : length p.messages ≡ length q.messages = as_long outline p.messages q.messages twins.messages in
      twins.also.names i j (omega (arith, less, long)) near (sym (name_same i i refl) ∙ same)

  pub type_same : (i j : ℕ) → i ≡ j → types_of p (name_at p i) ≡ types_of q (name_at q j)
  type_same i j place = λ k. types_same k (name_same i j place k)

  -- ---- its fields

  fields_same : (i j : ℕ) → i ≡ j → map called (type_at p i).fields ≡ map called (type_at q j).fields
  fields_same i j place = ap (λ (x : Outline). x.fields) (outline_same i j place)

  pub called_there : (i j : ℕ) → i ≡ j → (name : Text) (o : Option ℕ)
      → IsFirst (λ (f : FieldType). f.name ≡ name) (type_at p i).fields o → IsFirst (λ (f : FieldType). f.name ≡ name) (type_at q j).fields o
  called_there i j place name o first = first_there called (λ (c : Called). c.name ≡ name) (type_at p i).fields (type_at q j).fields (fields_same i j place) o first

  pub field_number : (i j : ℕ) → i ≡ j → (k : ℕ) → (type_of_field p i k).number ≡ (type_of_field q j k).number
  field_number i j place k =
      ap (λ (c : Called). c.number)
      (mapped_at called (type_at p i).fields k no_field
      ∙ ap (λ cs. slice_index_or cs k (called no_field)) (fields_same i j place)
      ∙ sym (mapped_at called (type_at q j).fields k no_field))

  -- ---- extensions

  pub own_there : (i j : ℕ) → i ≡ j → (full : Text) (o : Option ℕ)
      → IsFirst (λ (x : ExtensionType). (x.extendee ≡ i) × (x.field.full_name ≡ full)) p.extensions o
      → IsFirst (λ (x : ExtensionType). (x.extendee ≡ j) × (x.field.full_name ≡ full)) q.extensions o
  own_there i j place full o first =
      subst (λ k. IsFirst (λ (x : ExtensionType). (x.extendee ≡ k) × (x.field.full_name ≡ full)) q.extensions o) place
      (first_there outside (λ (x : Outside). (x.extendee ≡ i) × (x.full_name ≡ full)) p.extensions q.extensions twins.extensions o first)

  pub extension_number : (k : ℕ) → (extension_at p k).field.number ≡ (extension_at q k).field.number
  extension_number k =
      ap (λ (x : Outside). x.number)
      (mapped_at outside p.extensions k no_extension
      ∙ ap (λ xs. slice_index_or xs k (outside no_extension)) twins.extensions
      ∙ sym (mapped_at outside q.extensions k no_extension))

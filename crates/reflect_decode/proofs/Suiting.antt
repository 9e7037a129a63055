-- What suits a message's type stays so while records are taken in.
use Rattle.std.proofs.Common.{◌≡◌, ◌⊎◌, inl, inr, ℕ, zero, suc, Bool, true, false, List, [], ◌∷◌, Option, None, Some, option_map, ◌+◌, refl, sym, ap, ◌∙◌, subst, arith}
use Rattle.std.specs.Option.{IsSome, is_some}
use Rattle.reflect_entries.specs.Entries.{value_at}
use Rattle.reflect_tables.specs.Types.{PoolType, FieldType, KindType, double, float, int32, int64, uint32, uint64, sint32, sint64, fixed32, fixed64, sfixed32, sfixed64, bool, string, bytes, message, enumeration}
use Rattle.reflect_pool.specs.FieldsLeft.{field_type}
use Rattle.reflect_pool.specs.Kinds.{IsKind}
use Rattle.reflect_pool.specs.Shapes.{holds_list, holds_map}
use Rattle.reflect_pool.specs.declared.kind.Kind.TheVariants as kinds
use Rattle.reflect_pool.specs.declared.message.MessageDescriptor.{MessageDescriptor}
use Rattle.reflect_pool.specs.declared.field.FieldDescriptor.{FieldDescriptor}
use Rattle.reflect_wire.specs.Records.{Payload}
use Rattle.reflect_scalar.specs.FieldTypes.{field_pool, extension_pool, extension_type}
use Rattle.reflect_scalar.specs.Floats.{IsFloat, HoldsFloats}
use Rattle.reflect_message.specs.Contents.{Content, content_of, nothing}
use Rattle.reflect_copies.specs.Copies.{IsCopy}
use Rattle.reflect_message.specs.Declares.{Owns}
use Rattle.reflect_message.specs.KindTypes.{IsScalarType, IsMessageType}
use Rattle.reflect_message.specs.Messages.{message_in, IsStart}
use Rattle.reflect_message.specs.Oneofs.{AreChosen}
use Rattle.reflect_copies.specs.Trees.{tree}
use Rattle.reflect_message.specs.Names.{DynamicMessage, Value}
use Rattle.reflect_copies.proofs.Alike.{content_alike, list_alike, map_alike, message_alike}
use Rattle.reflect_copies.proofs.Copying.{chosen_copied}
use Rattle.reflect_decode.specs.Fields.{LeavesField}
use Rattle.reflect_decode.specs.Levels.{TakenAt, TakesAt, MergesAt}
use Rattle.reflect_decode.specs.Maps.{ChangesPart}
use Rattle.reflect_decode.specs.Messages.{MergesMessage}
use Rattle.reflect_decode.specs.Scalars.{LeavesAs}
use Rattle.reflect_decode.specs.Spares.{FillsExtensions, FillsFields}
use Rattle.reflect_decode.specs.Suits.{Suiting, IsSuiting, SuitsAs, HeldSuits, SuitsBy, SuitsBelow, PartSuits}
use Rattle.reflect_decode.specs.Taking.{TakesAs, Leaves}

-- a kind that is no fraction is a scalar or a message
scalar_or_message : (t : KindType) → (IsFloat t → ⊥) → IsScalarType t ⊎ IsMessageType t
scalar_or_message double whole = absurd (whole tt)
scalar_or_message float whole = absurd (whole tt)
scalar_or_message int32 whole = inl tt
scalar_or_message int64 whole = inl tt
scalar_or_message uint32 whole = inl tt
scalar_or_message uint64 whole = inl tt
scalar_or_message sint32 whole = inl tt
scalar_or_message sint64 whole = inl tt
scalar_or_message fixed32 whole = inl tt
scalar_or_message fixed64 whole = inl tt
scalar_or_message sfixed32 whole = inl tt
scalar_or_message sfixed64 whole = inl tt
scalar_or_message bool whole = inl tt
scalar_or_message string whole = inl tt
scalar_or_message bytes whole = inl tt
scalar_or_message (message i) whole = inr tt
scalar_or_message (enumeration i) whole = inl tt

is_there : {X : Type 0} (o : Option X) (x : X) → o ≡ Some x → IsSome o
is_there o x e = ap is_some e

-- where nothing is held or noted
nothing_chosen : (m : MessageDescriptor) (choices : List (ℕ × ℕ)) (held : List (ℕ × Value)) → choices ≡ [] → held ≡ [] → AreChosen m choices held
nothing_chosen m choices held none empty = subst (λ l. AreChosen m choices l) (sym empty) (subst (λ l. AreChosen m l []) (sym none) (record { member = λ first n e. absurd (cc e); noted = λ f owns first is stands. absurd (cc stands) }))

pub nothing_suits : (inner : Suiting) (m : MessageDescriptor) → SuitsBy inner m nothing
nothing_suits inner m = record {
  chosen = nothing_chosen m [] [] refl refl;
  fields = λ f owns. tt;
  extensions = λ x owns free. tt;
}

pub nothing_below : (levels : ℕ) (m : MessageDescriptor) → SuitsBelow levels m nothing
nothing_below zero m = tt
nothing_below (suc levels) m = nothing_suits (SuitsBelow levels) m

-- messages in which nothing is held
pub empty_suits : (levels : ℕ) (m : MessageDescriptor) (c : Content) → c ≡ nothing → SuitsBelow levels m c
empty_suits levels m c none = subst (SuitsBelow levels m) (sym none) (nothing_below levels m)

module _ (levels : ℕ) (pool : PoolType) where
  -- the message that takes in the records
  abbrev pub Begins : KindType → DynamicMessage → Type 0
  Begins t m = IsKind pool (kinds.Message m.descriptor) t × SuitsBelow levels m.descriptor (content_of m)

  fresh : (t : KindType) (m : DynamicMessage) → IsStart pool t None m → Begins t m
  fresh t m start = (start.0, empty_suits levels m.descriptor (content_of m) start.1)

  pub standing : (t : KindType) (v : Value) (m : DynamicMessage) → IsSuiting (SuitsBelow levels) pool t v → IsStart pool t (Some v) m → Begins t m
  standing t v m suits at =
      let same : suits.0 ≡ m = cc (suits.1, at) in
      subst (Begins t) same (suits.2, suits.3)

  pub begun : (f : FieldType) (old : Option Value) → holds_map pool f ≡ false → holds_list pool f ≡ false → IsMessageType f.kind → HeldSuits (SuitsBelow levels) pool f old → (m : DynamicMessage) → IsStart pool f.kind old m → Begins f.kind m
  begun f None no_map no_list type suits m start = fresh f.kind m start
  begun f (Some w) no_map no_list type suits m start =
      let by_map = subst (λ b. SuitsAs (SuitsBelow levels) pool f.kind b (holds_list pool f) w) no_map suits in
      let by_list = subst (λ b. SuitsAs (SuitsBelow levels) pool f.kind false b w) no_list by_map in
      standing f.kind w m (by_list type) start

module _ (levels : ℕ) (keeps : (grouped : Bool) (m : MessageDescriptor) (a b : Content) (ps : List Payload) → TakenAt levels grouped m a b ps → SuitsBelow levels m a → SuitsBelow levels m b) where
  module _ (pool : PoolType) (t : KindType) where
    message_stays : (grouped : Bool) (old : Option Value) (v : Value) (ps : List Payload) → ((m : DynamicMessage) → IsStart pool t old m → Begins levels pool t m) → MergesMessage (TakenAt levels grouped) pool t old (Some v) ps → IsSuiting (SuitsBelow levels) pool t v
    message_stays grouped old v ps begins h =
        let start = begins h.0 h.2 in
        let taken = keeps grouped h.0.descriptor (content_of h.0) (content_of h.1) ps h.5 start.1 in
        (h.1, h.3, subst (λ d. IsKind pool (kinds.Message d) t) (sym h.4) start.0, subst (λ d. SuitsBelow levels d (content_of h.1)) (sym h.4) taken)

  module _ (pool : PoolType) (f : FieldType) where
    held_stays : (old new : Option Value) (ps : List Payload) → (HoldsFloats pool f → ⊥) → Leaves (TakesAt levels) pool f old new ps → HeldSuits (SuitsBelow levels) pool f old → HeldSuits (SuitsBelow levels) pool f new
    held_stays old new [] whole h suits = subst (HeldSuits (SuitsBelow levels) pool f) (sym h) suits
    held_stays old None (p ∷ ps) whole h suits = tt
    held_stays old (Some v) (p ∷ ps) whole h suits = by (holds_map pool f) refl (holds_list pool f) refl where
      listed : holds_map pool f ≡ false → holds_list pool f ≡ true → IsScalarType f.kind ⊎ IsMessageType f.kind → SuitsAs (SuitsBelow levels) pool f.kind false true v
      listed no_map list (inl scalar) = let values = subst (λ b. LeavesAs b pool f.kind old (Some v) (p ∷ ps)) list (h.0 scalar) in is_there _ values.1 values.4
      listed no_map list (inr type) = let values = subst (λ b. TakesAs b (TakenAt levels f.group) pool f.kind old (Some v) (p ∷ ps)) list (h.1 type no_map) in is_there _ values.1 values.4

      by : (m : Bool) → holds_map pool f ≡ m → (l : Bool) → holds_list pool f ≡ l → SuitsAs (SuitsBelow levels) pool f.kind m l v
      by true map l is = let entries = h.2 map in is_there _ entries.1 entries.3
      by false no_map true list = listed no_map list (scalar_or_message f.kind (λ fraction. whole (inl fraction)))
      by false no_map false no_list = λ type.
          let taken = subst (λ b. TakesAs b (TakenAt levels f.group) pool f.kind old (Some v) (p ∷ ps)) no_list (h.1 type no_map) in
          message_stays pool f.kind f.group old v (p ∷ ps) (begun levels pool f old no_map no_list type suits) taken

    part_by : (old new : Value) (ps : List Payload) → ChangesPart (TakesAt levels) pool f old new ps → PartSuits levels pool f old → PartSuits levels pool f new
    part_by old new [] h suits = λ type. subst (IsSuiting (SuitsBelow levels) pool f.kind) (sym h) (suits type)
    part_by old new (p ∷ ps) h suits = λ type. message_stays pool f.kind f.group (Some old) new (p ∷ ps) (λ m start. standing levels pool f.kind old m (suits type) start) (h.1 type)

  field_stays : (m : MessageDescriptor) (f : FieldDescriptor) (old new : Option Value) (rs : List (ℕ × Payload)) → Owns m f → LeavesField (TakesAt levels) m f old new rs → HeldSuits (SuitsBelow levels) (field_pool f) (field_type f) old
      → HeldSuits (SuitsBelow levels) (field_pool f) (field_type f) new
  field_stays m f old new rs owns (inl h) suits = held_stays (field_pool f) (field_type f) old new _ owns.2 h.1 suits
  field_stays m f old new rs owns (inr h) suits = held_stays (field_pool f) (field_type f) None new _ owns.2 h.6 tt

  filled_stays : (m : MessageDescriptor) (a b : Content) (rs : List (ℕ × Payload)) → FillsFields (TakesAt levels) m a b rs → FillsExtensions (TakesAt levels) m a.extensions b.extensions rs
      → SuitsBy (SuitsBelow levels) m a → SuitsBy (SuitsBelow levels) m b
  filled_stays m a b rs filled extended suits = record {
    chosen = filled.chosen;
    fields = λ f owns. field_stays m f _ _ rs owns (filled.each f owns) (suits.fields f owns);
    extensions = λ x owns free. let n = (extension_type x).number in held_stays (extension_pool x) (extension_type x) (value_at a.extensions n) (value_at b.extensions n) _ owns.2 (extended.each x owns free) (suits.extensions x owns free);
  }

  stays_by : (m : MessageDescriptor) (a b : Content) (rs : List (ℕ × Payload)) → MergesAt levels m a b rs → SuitsBy (SuitsBelow levels) m a → SuitsBy (SuitsBelow levels) m b
  stays_by m a b rs h suits = filled_stays m a b rs (h.filled suits.chosen) h.extended suits

pub below_stays : (levels : ℕ) (grouped : Bool) (m : MessageDescriptor) (a b : Content) (ps : List Payload) → TakenAt levels grouped m a b ps → SuitsBelow levels m a → SuitsBelow levels m b
unfolding TakenAt
below_stays zero grouped m a b ps h suits = absurd h
below_stays (suc levels) grouped m a b ps h suits = stays_by levels (below_stays levels) m a b h.0 h.2 suits

-- records that leave their values leave what suits the type
pub filled_suits : (levels : ℕ) (m : MessageDescriptor) (a b : Content) (rs : List (ℕ × Payload)) → FillsFields (TakesAt levels) m a b rs → FillsExtensions (TakesAt levels) m a.extensions b.extensions rs
    → SuitsBy (SuitsBelow levels) m a → SuitsBy (SuitsBelow levels) m b
filled_suits levels = filled_stays levels (below_stays levels)

-- so do records that are taken in
pub suits_stay : (levels : ℕ) (m : MessageDescriptor) (a b : Content) (rs : List (ℕ × Payload)) → MergesAt levels m a b rs → SuitsBy (SuitsBelow levels) m a → SuitsBy (SuitsBelow levels) m b
suits_stay levels m a b rs h suits = stays_by levels (below_stays levels) m a b rs h suits

pub part_stays_suiting : (levels : ℕ) (pool : PoolType) (f : FieldType) (old new : Value) (ps : List Payload) → ChangesPart (TakesAt levels) pool f old new ps → PartSuits levels pool f old → PartSuits levels pool f new
part_stays_suiting levels pool f old new ps h suits = part_by levels (below_stays levels) pool f old new ps h suits

-- where nothing is set, an entry's key or value is an empty message, if it is a message
pub part_begins : (levels : ℕ) (pool : PoolType) (f : FieldType) (v : Value) → (IsMessageType f.kind → (m : DynamicMessage) × (message_in v ≡ Some m) × IsStart pool f.kind None m) → PartSuits levels pool f v
part_begins levels pool f v h = λ type. let start = h type in (start.0, start.1, start.2.0, empty_suits levels start.0.descriptor (content_of start.0) start.2.1)

-- what suits a message suits it as one below so many levels
pub suits_below : (below levels : ℕ) → below + 1 ≡ levels → (m : MessageDescriptor) (c : Content) → SuitsBelow levels m c → SuitsBy (SuitsBelow below) m c
suits_below below levels e m c h =
    let above : suc below ≡ levels = omega (arith, e) in
    subst (λ l. SuitsBelow l m c) (sym above) h

module _ (levels : ℕ)
    (keeps : (m : MessageDescriptor) (a b : Content) → IsCopy a b → SuitsBelow levels m a
    → SuitsBelow levels m b) where
  one_copied : (pool : PoolType) (t : KindType) (v w : Value) → tree w ≡ tree v
      → IsSuiting (SuitsBelow levels) pool t v → IsSuiting (SuitsBelow levels) pool t w
  one_copied pool t v w e (m, is, kind, suits) =
      let n = message_alike v w e m is in
      let copied = content_alike m n.0 n.3 in
      let inner = keeps m.descriptor (content_of m) (content_of n.0) copied suits in (
        n.0,
        n.1,
        subst (λ d. IsKind pool (kinds.Message d) t) (sym n.2) kind,
        subst (λ d. SuitsBelow levels d (content_of n.0)) (sym n.2) inner,
      )

  as_copied : (pool : PoolType) (t : KindType) (keyed listed : Bool) (v w : Value) → tree w ≡ tree v
      → SuitsAs (SuitsBelow levels) pool t keyed listed v
      → SuitsAs (SuitsBelow levels) pool t keyed listed w
  as_copied pool t true listed v w e suits = map_alike v w e ∙ suits
  as_copied pool t false true v w e suits = list_alike v w e ∙ suits
  as_copied pool t false false v w e suits = λ type. one_copied pool t v w e (suits type)

  held_copied : (pool : PoolType) (f : FieldType) (o p : Option Value)
      → option_map tree p ≡ option_map tree o → HeldSuits (SuitsBelow levels) pool f o → HeldSuits (SuitsBelow levels) pool f p
  held_copied pool f o None e suits = tt
  held_copied pool f None (Some w) e suits = absurd (cc e)
  held_copied pool f (Some v) (Some w) e suits =
      let same : tree w ≡ tree v = cc e in
      as_copied pool f.kind (holds_map pool f) (holds_list pool f) v w same suits

  copied_by : (m : MessageDescriptor) (a b : Content) → IsCopy a b → SuitsBy (SuitsBelow levels) m a
      → SuitsBy (SuitsBelow levels) m b
  copied_by m a b copied suits = record {
    chosen =
        chosen_copied m a.choices b.choices a.fields b.fields copied.choices copied.fields suits.chosen;
    fields = λ f owns.
        held_copied (field_pool f) (field_type f) _ _ (copied.fields (field_type f).number)
        (suits.fields f owns);
    extensions = λ x owns free.
        held_copied (extension_pool x) (extension_type x) _ _
        (copied.extensions (extension_type x).number) (suits.extensions x owns free);
  }

below_copied : (levels : ℕ) (m : MessageDescriptor) (a b : Content) → IsCopy a b
    → SuitsBelow levels m a → SuitsBelow levels m b
below_copied zero m a b copied suits = tt
below_copied (suc levels) m a b copied suits =
    copied_by levels (below_copied levels) m a b copied suits

-- what suits a type suits it in a copy
pub copy_suits : (levels : ℕ) (m : MessageDescriptor) (a b : Content) → IsCopy a b
    → SuitsBy (SuitsBelow levels) m a → SuitsBy (SuitsBelow levels) m b
copy_suits levels m a b copied suits = copied_by levels (below_copied levels) m a b copied suits

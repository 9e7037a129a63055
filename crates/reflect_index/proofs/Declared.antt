-- The entries of a batch's messages, fields and extensions, by their declarations.
use Rattle.std.proofs.Common.{◌≡◌, inl, inr, ◌+◌, ◌&&◌, ℕ, zero, suc, Bool, true, false, List, [], ◌∷◌, map, Option, None, Some, refl, sym, ap, subst, arith, slice_get}
use Rattle.descriptor_records.specs.declared.field.FieldDescriptorProto.{FieldDescriptorProto}
use Rattle.descriptor_records.specs.declared.file.FileDescriptorProto.{FileDescriptorProto}
use Rattle.reflect_declarations.specs.Batches.{batch_declarations}
use Rattle.reflect_declarations.specs.Declarations.{Declaration, Body, of_field, of_extension}
use Rattle.reflect_declarations.specs.declared.offsets.Offsets.{Offsets}
use Rattle.reflect_names.specs.declared.resolve_visitor.Reference.{Reference}
use Rattle.reflect_references.specs.Meanings.{meaning}
use Rattle.reflect_fields.specs.Fields.{IsField}
use Rattle.reflect_tables.specs.Types.{FieldType, KindType, ExtensionType}
use Rattle.reflect_tables.specs.Views.{field_of, message_of, extension_of}
use Rattle.reflect_tables.specs.declared.stored.StoredMessage.{StoredMessage}
use Rattle.reflect_index.specs.Along.{AtHand, Met, along, before_files, hand_behind, is_extension, is_field, is_parent, is_part, parts}
use Rattle.reflect_index.specs.BatchEntries.{IsBatchOf}
use Rattle.reflect_index.specs.Entries.{HasKind, DeclaredField, IsFieldBy, IsFieldOf, IsExtensionBy, IsExtensionOf}
use Rattle.reflect_index.specs.Grown.{declared_field, stored_fields, list_at}
use Rattle.reflect_index.specs.declared.batch.Batch.{Batch}
use Rattle.reflect_index.proofs.Among.{Among, of_filter, of_zip, of_place, place_of, zip_place, get_map, got_map}

-- what is met along a walk is one of the declarations
pub of_along : (h : AtHand) (ds : List Declaration) (m : Met) → Among m (along h ds)
    → Among m.declaration ds
of_along h [] m k = absurd k
of_along h (d ∷ ds) m (inl same) = inl (ap (λ (x : Met). x.declaration) same)
of_along h (d ∷ ds) m (inr later) = inr (of_along (hand_behind h d) ds m later)

pub both_true : (a b : Bool) → (a && b) ≡ true → (a ≡ true) × (b ≡ true)
both_true true b e = (refl, e)
both_true false b e = absurd (cc e)

pub parent_is : (i : ℕ) (o : Option ℕ) → is_parent i o ≡ true → o ≡ Some i
parent_is i None e = absurd (cc e)
parent_is i (Some j) e = let same : j ≡ i = grind (arith, e) in ap Some same

-- a field of the message of the index, at the place, by its declaration
pub record FieldDeclared (rs : List Reference) (ds : List Declaration) (i j : ℕ)
    (f : FieldType) : Type 0 where
  pub met : Met
  pub own : FieldDescriptorProto
  pub holds : KindType
  pub place : slice_get (parts is_field i (along (before_files rs) ds)) j ≡ Some met
  pub here : Among met (along (before_files rs) ds)
  pub parent : met.declaration.parent ≡ Some i
  pub body : met.declaration.body ≡ of_field own
  pub kind : HasKind own (meaning own.type_name met.hand.rest) holds
  pub says : IsField met.hand.syntax met.declaration.path met.declaration.name holds own f

-- an extension by its declaration
pub record ExtensionDeclared (rs : List Reference) (ds : List Declaration)
    (x : ExtensionType) : Type 0 where
  pub met : Met
  pub own : FieldDescriptorProto
  pub here : Among met (along (before_files rs) ds)
  pub body : met.declaration.body ≡ of_extension own
  pub by : IsExtensionBy met own x

-- the entry is that of a record
abbrev IsFieldFrom : Met → Body → DeclaredField → Type 0
IsFieldFrom m b f = elim b [ of_field r ↦ IsFieldBy m r f | _ ↦ ⊥ ]

abbrev IsExtensionFrom : Met → Body → ExtensionType → Type 0
IsExtensionFrom m b x = elim b [ of_extension r ↦ IsExtensionBy m r x | _ ↦ ⊥ ]

of_body : (m : Met) (b : Body) (f : DeclaredField) → IsFieldFrom m b f → (r : FieldDescriptorProto)
    × (b ≡ of_field r) × IsFieldBy m r f
of_body m (of_field r) f h = (r, refl, h)
of_body m b f h = absurd h

of_extension_body : (m : Met) (b : Body) (x : ExtensionType) → IsExtensionFrom m b x
    → (r : FieldDescriptorProto) × (b ≡ of_extension r) × IsExtensionBy m r x
of_extension_body m (of_extension r) x h = (r, refl, h)
of_extension_body m b x h = absurd h

pub list_of : {X Y : Type 0} (g : X → List Y) (xs : List X) (k : ℕ) (x : X) → slice_get xs k ≡ Some x
    → list_at (map g xs) k ≡ g x
list_of g [] k x e = absurd (cc e)
list_of g (y ∷ xs) zero x e = let same : y ≡ x = cc e in ap g same
list_of g (y ∷ xs) (suc k) x e = list_of g xs k x e

module _ (rs : List Reference) (before : Offsets) (first : ℕ) (files : List FileDescriptorProto)
    (b : Batch) (entries : IsBatchOf rs before first (batch_declarations before first files) b)
  where
    abbrev ds : List Declaration
    ds = batch_declarations before first files

    pub field_declared : (k : ℕ) (m : StoredMessage) (j : ℕ) (f : FieldType)
        → slice_get b.messages.items k ≡ Some m → slice_get (message_of m).fields j ≡ Some f
        → FieldDeclared rs ds (before.messages + k) j f
    field_declared k m j f at h =
        let stored = got_map field_of m.fields.list.items j f h in
        let listed : list_at (map stored_fields b.messages.items) k ≡ stored_fields m =
        list_of stored_fields b.messages.items k m at in
        let zipped = zip_place IsFieldOf
        (parts is_field (before.messages + k) (along (before_files rs) ds))
        (list_at (map stored_fields b.messages.items) k) j (declared_field stored.0)
        (entries.fields k)
        (subst (λ l. slice_get l j ≡ Some (declared_field stored.0)) (sym listed)
        (get_map declared_field m.fields.list.items j stored.0 stored.1)) in
        let whole = of_filter (is_part is_field (before.messages + k)) zipped.0
        (along (before_files rs) ds) (of_place zipped.0 _ j zipped.1) in
        let d = zipped.0.declaration in
        let part = both_true (is_field d.body) _ whole.1 in
        let read = of_body zipped.0 d.body (declared_field stored.0) zipped.2 in
        record {
          met = zipped.0;
          own = read.0;
          holds = read.2.0;
          place = zipped.1;
          here = whole.0;
          parent = parent_is (before.messages + k) d.parent part.1;
          body = read.1;
          kind = read.2.1;
          says = subst (IsField zipped.0.hand.syntax d.path d.name read.2.0 read.0) stored.2
              read.2.2;
        }

    -- where it stands among the fields does not matter to some
    pub field_among : (k : ℕ) (m : StoredMessage) (f : FieldType)
        → slice_get b.messages.items k ≡ Some m → Among f (message_of m).fields → (j : ℕ) × FieldDeclared rs ds (before.messages + k) j f
    field_among k m f at h = let p = place_of f (message_of m).fields h in
        (p.0, field_declared k m p.0 f at p.1)

    pub extension_declared : (x : ExtensionType) → Among x (map extension_of b.extensions.items)
        → ExtensionDeclared rs ds x
    extension_declared x h =
        let zipped = of_zip IsExtensionOf _ x (map extension_of b.extensions.items)
        entries.extensions h in
        let read = of_extension_body zipped.0 zipped.0.declaration.body x zipped.2 in
        record {
          met = zipped.0;
          own = read.0;
          here = (of_filter (λ (m : Met). is_extension m.declaration.body) zipped.0
              (along (before_files rs) ds) zipped.1).0;
          body = read.1;
          by = read.2;
        }

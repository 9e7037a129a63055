-- Pools that the same batches built, with the same records, say the same to texts, and their messages, with their fields, and
-- extensions have the same names and numbers at the same places.
use Rattle.std.proofs.Common.{◌≡◌, ◌∙◌, ℕ, suc, List, [], ◌∷◌, map, Option, None, Some, slice_get, refl, sym, ap, subst}
use Rattle.std.specs.List.{AllZip}
use Rattle.descriptor_records.specs.Content.{FileContent, file_view}
use Rattle.linked_view.specs.Extended.{HasWritten, WrittenKey, written_keys}
use Rattle.message_view.specs.Sound.{IsSound}
use Rattle.protobuf_model.specs.Types.{Name}
use Rattle.protobuf_model.specs.Values.{Message}
use Rattle.protox_lex.specs.Class.{Text}
use Rattle.reflect_known.specs.KnownNames.{known_of_files}
use Rattle.reflect_scope.specs.Known.{Known}
use Rattle.reflect_tables.specs.Names.{FullName, Sort, extension_name, extensions, found, messages, names_of}
use Rattle.reflect_tables.specs.Types.{ExtensionType, FieldType, MessageType, PoolType}
use Rattle.schema_view.specs.Declarations.{FieldFacts}
use Rattle.schema_view.specs.Views.{view_of}
use Rattle.schema_view.proofs.Batches.{one_built}
use Rattle.text_view.specs.Schemas.{schema_of}
use Rattle.texts_view.specs.Named.{schema_in}
use Rattle.texts_view.proofs.Settled.{settled_names}
use Rattle.types_view.specs.Fields.{IsListed, ListsFields, NamedMessage, written_messages}
use Rattle.types_view.specs.Pools.{IsPool}
use Rattle.types_view.specs.Typed.{IsTyped}
use Rattle.stored_options.proofs.SameScopes.{known_same}
use Rattle.stored_options.proofs.TwinPools.{AreTwinPools, called, none_decoded, outline, outside}

-- ---- messages and their fields

fields_once : (full : Text) (xs : List FieldFacts) (es gs : List FieldType) → AllZip (IsListed full) xs es → AllZip (IsListed full) xs gs → map called es ≡ map called gs
fields_once full [] [] [] a b = refl
fields_once full [] [] (g ∷ gs) a b = absurd b
fields_once full [] (e ∷ es) gs a b = absurd a
fields_once full (x ∷ xs) [] gs a b = absurd a
fields_once full (x ∷ xs) (e ∷ es) [] a b = absurd b
fields_once full (x ∷ xs) (e ∷ es) (g ∷ gs) a b =
    let name : e.name ≡ g.name = a.0.name ∙ sym b.0.name in
    let number : e.number ≡ g.number = a.0.number ∙ sym b.0.number in
    λ i. record { name = name i; number = number i } ∷ fields_once full xs es gs a.1 b.1 i

outlines_once : (ws : List NamedMessage) (ms ns : List MessageType) → AllZip ListsFields ws ms → AllZip ListsFields ws ns → map outline ms ≡ map outline ns
outlines_once [] [] [] a b = refl
outlines_once [] [] (n ∷ ns) a b = absurd b
outlines_once [] (m ∷ ms) ns a b = absurd a
outlines_once (w ∷ ws) [] ns a b = absurd a
outlines_once (w ∷ ws) (m ∷ ms) [] a b = absurd b
outlines_once (w ∷ ws) (m ∷ ms) (n ∷ ns) a b =
    let name : m.full_name ≡ n.full_name = a.0.full_name ∙ sym b.0.full_name in
    let fields : map called m.fields ≡ map called n.fields = fields_once w.0 w.1.fields m.fields n.fields a.0.fields b.0.fields in
    λ i. record { full_name = name i; fields = fields i } ∷ outlines_once ws ms ns a.1 b.1 i

-- ---- full names

-- lists that have the same at each place are one
same_places : (xs ys : List FullName) → ((k : ℕ) (x : FullName) → slice_get xs k ≡ Some x → slice_get ys k ≡ Some x) → ((k : ℕ) (y : FullName) → slice_get ys k ≡ Some y → slice_get xs k ≡ Some y) → xs ≡ ys
same_places [] [] to back = refl
same_places [] (y ∷ ys) to back = absurd (cc (back 0 y refl))
same_places (x ∷ xs) [] to back = absurd (cc (to 0 x refl))
same_places (x ∷ xs) (y ∷ ys) to back =
    let one : y ≡ x = cc (to 0 x refl) in
    let rest : xs ≡ ys = same_places xs ys (λ k z e. to (suc k) z e) (λ k z e. back (suc k) z e) in
    λ i. sym one i ∷ rest i

module _ (p q : PoolType) (whole : IsPool p) (whole_too : IsPool q) (one_known : known_of_files p.records ≡ known_of_files q.records) where
  -- what a name stands for it stands for in both
  names_once : (s : Sort) → names_of p s ≡ names_of q s
  names_once s =
      same_places (names_of p s) (names_of q s)
      (λ k x e. (whole_too.indexed.named.found s x.0 k x.1).0 (subst (λ (known : Known). found s known x.0 ≡ Some (k, x.1)) one_known ((whole.indexed.named.found s x.0 k x.1).1 e)))
      (λ k x e. (whole.indexed.named.found s x.0 k x.1).0 (subst (λ (known : Known). found s known x.0 ≡ Some (k, x.1)) (sym one_known) ((whole_too.indexed.named.found s x.0 k x.1).1 e)))

  -- a name stands for one place
  one_index : (s : Sort) (i j : ℕ) (x : FullName) (file : ℕ) → slice_get (names_of p s) i ≡ Some x → slice_get (names_of q s) j ≡ Some (x.0, file) → i ≡ j
  one_index s i j x file here there =
      let first : found s (known_of_files p.records) x.0 ≡ Some (i, x.1) = (whole.indexed.named.found s x.0 i x.1).1 here in
      let second : found s (known_of_files q.records) x.0 ≡ Some (j, file) = (whole_too.indexed.named.found s x.0 j file).1 there in
      let same : ◌≡◌ {A = Option (ℕ × ℕ)} (Some (i, x.1)) (Some (j, file)) = sym first ∙ ap (λ (known : Known). found s known x.0) one_known ∙ second in
      ap (λ (o : Option (ℕ × ℕ)). elim o [ None ↦ i | Some r ↦ r.0 ]) same

  -- ---- extensions

  outsides_once : (ks : List WrittenKey) (xs ys : List ExtensionType) → AllZip (HasWritten (names_of p messages)) ks xs → AllZip (HasWritten (names_of q messages)) ks ys
      → map extension_name xs ≡ map extension_name ys → map outside xs ≡ map outside ys
  outsides_once [] [] [] a b same = refl
  outsides_once [] [] (y ∷ ys) a b same = absurd b
  outsides_once [] (x ∷ xs) ys a b same = absurd a
  outsides_once (k ∷ ks) [] ys a b same = absurd a
  outsides_once (k ∷ ks) (x ∷ xs) [] a b same = absurd b
  outsides_once (k ∷ ks) (x ∷ xs) (y ∷ ys) a b same =
      let head : extension_name x ≡ extension_name y = cc same in
      let tail : map extension_name xs ≡ map extension_name ys = cc same in
      let full : a.0.full ≡ b.0.full = written (a.0.full) (b.0.full) (sym a.0.extendee ∙ b.0.extendee) in
      let there : slice_get (names_of q messages) y.extendee ≡ Some (a.0.full, b.0.file) = b.0.message ∙ ap (λ (n : Text). Some (n, b.0.file)) (sym full) in
      let extendee : x.extendee ≡ y.extendee = one_index messages x.extendee y.extendee (a.0.full, a.0.file) b.0.file a.0.message there in
      let name : x.field.full_name ≡ y.field.full_name = ap (λ (n : FullName). n.0) head in
      let number : x.field.number ≡ y.field.number = a.0.number ∙ sym b.0.number in
      λ i. record { extendee = extendee i; full_name = name i; number = number i } ∷ outsides_once ks xs ys a.1 b.1 tail i where
        written : (n m : Text) → ◌≡◌ {A = Option Text} (Some (46 ∷ n)) (Some (46 ∷ m)) → n ≡ m
        written n m e = cc e

-- ---- two pools

module _ (batches : List (List FileContent)) (p q : PoolType) (a : IsTyped batches p) (b : IsTyped batches q) (whole : IsPool p) (whole_too : IsPool q)
    (same : map file_view p.records ≡ map file_view q.records) where
  -- their files were linked to one content
  pub linked_once : map file_view a.but.linked.records ≡ map file_view b.but.linked.records
  linked_once = one_built batches (map file_view a.but.linked.records) (map file_view b.but.linked.records) a.but.built.built b.but.built.built

  one_known : known_of_files p.records ≡ known_of_files q.records
  one_known = known_same p.records q.records same

  abbrev first : PoolType
  first = a.but.linked

  abbrev second : PoolType
  second = b.but.linked

  messages_are : map outline p.messages ≡ map outline q.messages
  messages_are =
      ap (λ (r : PoolType). map outline r.messages) a.but.settles.settled
      ∙ outlines_once (written_messages (map file_view first.records)) first.messages second.messages a.tells.listed
      (subst (λ fs. AllZip ListsFields (written_messages fs) second.messages) (sym linked_once) b.tells.listed)
      ∙ sym (ap (λ (r : PoolType). map outline r.messages) b.but.settles.settled)

  extensions_are : map outside p.extensions ≡ map outside q.extensions
  extensions_are =
      outsides_once p q whole whole_too one_known (written_keys (map file_view first.records)) p.extensions q.extensions
      (subst (λ (r : PoolType). AllZip (HasWritten (names_of r messages)) (written_keys (map file_view first.records)) r.extensions) (sym a.but.settles.settled) a.but.built.extensions)
      (subst (λ (r : PoolType). AllZip (HasWritten (names_of r messages)) (written_keys (map file_view first.records)) r.extensions) (sym b.but.settles.settled)
      (subst (λ fs. AllZip (HasWritten (names_of second messages)) (written_keys fs) second.extensions) (sym linked_once) b.but.built.extensions))
      (names_once p q whole whole_too one_known extensions)

  -- so they say the same to texts
  pub schema_once : (decoded : Name → Text → Option Message) → schema_of p decoded ≡ schema_of q decoded
  schema_once decoded = settled_names batches p a whole.kept decoded ∙ ap (λ fs. schema_in (view_of fs) decoded) linked_once ∙ sym (settled_names batches q b whole_too.kept decoded)

  pub twins_built : IsSound p → IsSound q → AreTwinPools p q
  twins_built sound also = record {
    sound = sound;
    also = also;
    schema = schema_once none_decoded;
    messages = messages_are;
    extensions = extensions_are;
  }

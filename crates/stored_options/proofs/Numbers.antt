-- The numbers of the fields and extensions that a pool's types have, by what files declare.
use Rattle.std.proofs.Common.{◌≡◌, ◌∙◌, ℕ, zero, suc, List, [], ◌∷◌, Some, map, unwrap_or, slice_get, slice_index_or, ap, sym, subst, refl, arith}
use Rattle.std.specs.List.{AllZip, Contains}
use Rattle.descriptor_records.specs.Content.{FieldContent, FileContent, Text, file_view}
use Rattle.message_view.specs.Types.{name_at}
use Rattle.reflect_fields.specs.Fields.{natural}
use Rattle.reflect_format.specs.Takes.{target_type}
use Rattle.reflect_format.specs.declared.target.Target.TheVariants as targets
use Rattle.reflect_index.proofs.Among.{get_at}
use Rattle.reflect_pool.specs.declared.extension.ExtensionDescriptor.{ExtensionDescriptor}
use Rattle.reflect_pool.specs.declared.field.FieldDescriptor.{FieldDescriptor}
use Rattle.reflect_pool.specs.declared.message.MessageDescriptor.{MessageDescriptor}
use Rattle.reflect_tables.specs.Finding.{IsFirst}
use Rattle.reflect_tables.specs.Types.{FieldType, PoolType, extension_at, no_extension, no_field, no_type, type_at, type_of_field}
use Rattle.option_setter.specs.OptionNames.{FindsOwn}
use Rattle.schema_view.specs.Declarations.{Declaration, FieldFacts, MessageFacts, declarations, of_extension, of_message}
use Rattle.schema_view.proofs.Looking.{one_declaration}
use Rattle.schema_view.proofs.Road.{AreLinked}
use Rattle.linked_view.proofs.Places.{get_contains}
use Rattle.types_view.specs.Fields.{IsListed, TellsFields}
use Rattle.types_view.proofs.Told.{message_told}

-- ---- by files

-- files declare an extension of the full name that has the number
pub record NumbersExtension (fs : List FileContent) (full : Text) (n : ℕ) : Type 0 where
  pub file : FileContent
  pub content : FieldContent
  pub there : Contains fs file
  pub inside : Contains (declarations file) (record { name = full; body = of_extension content })
  pub number : n ≡ unwrap_or (natural content.number) 0

-- files declare a message of the full name, and entries stand for its fields, the first of which
-- that is called so has the number
pub record NumbersField (fs : List FileContent) (t name : Text) (n : ℕ) : Type 0 where
  pub file : FileContent
  pub facts : MessageFacts
  pub there : Contains fs file
  pub inside : Contains (declarations file) (record { name = t; body = of_message facts })
  pub entries : List FieldType
  pub listed : AllZip (IsListed t) facts.fields entries
  pub index : ℕ
  pub first : IsFirst (λ e. e.name ≡ name) entries (Some index)
  pub number : n ≡ (slice_index_or entries index no_field).number

-- ---- of one list

module _ (t name : Text) where
  abbrev IsCalled : FieldType → Type 0
  IsCalled e = e.name ≡ name

  -- what is first behind an element is first among the others
  behind : (e : FieldType) (es : List FieldType) (i : ℕ) → IsFirst IsCalled (e ∷ es) (Some (suc i))
      → IsFirst IsCalled es (Some i)
  behind e es i h =
      let lt = h.0 in (
        omega (arith, lt),
        (λ d. h.1.0 d, λ k d low less. h.1.1 (suc k) d (omega arith) (omega (arith, less))),
      )

  -- entries that stand for the same fields have the same numbers
  one_number : (xs : List FieldFacts) (es gs : List FieldType) → AllZip (IsListed t) xs es
      → AllZip (IsListed t) xs gs → (i j : ℕ) → IsFirst IsCalled es (Some i)
      → IsFirst IsCalled gs (Some j)
      → (slice_index_or es i no_field).number ≡ (slice_index_or gs j no_field).number
  one_number [] [] gs z y i j a b = let lt = a.0 in absurd (omega (arith, lt))
  one_number [] (e ∷ es) gs z y i j a b = absurd z
  one_number (x ∷ xs) [] gs z y i j a b = absurd z
  one_number (x ∷ xs) (e ∷ es) [] z y i j a b = absurd y
  one_number (x ∷ xs) (e ∷ es) (g ∷ gs) z y zero zero a b = z.0.number ∙ sym y.0.number
  one_number (x ∷ xs) (e ∷ es) (g ∷ gs) z y zero (suc j) a b =
      let called : g.name ≡ name = y.0.name ∙ sym z.0.name ∙ a.1.0 e in
      absurd (b.1.1 0 g (omega arith) (omega arith) called)
  one_number (x ∷ xs) (e ∷ es) (g ∷ gs) z y (suc i) zero a b =
      let called : e.name ≡ name = z.0.name ∙ sym y.0.name ∙ b.1.0 g in
      absurd (a.1.1 0 e (omega arith) (omega arith) called)
  one_number (x ∷ xs) (e ∷ es) (g ∷ gs) z y (suc i) (suc j) a b =
      one_number xs es gs z.1 y.1 i j (behind e es i a) (behind g gs j b)

-- ---- of two lists of files within one

module _ (all : List FileContent) (l : AreLinked all) (fs gs : List FileContent)
    (left : (f : FileContent) → Contains fs f → Contains all f)
    (right : (g : FileContent) → Contains gs g → Contains all g) where
  extension_body : (b c : FieldContent) → of_extension b ≡ of_extension c → b ≡ c
  extension_body b c e = cc e

  message_body : (b c : MessageFacts) → of_message b ≡ of_message c → b ≡ c
  message_body b c e = cc e

  pub one_extension : (full : Text) (n k : ℕ) → NumbersExtension fs full n
      → NumbersExtension gs full k → n ≡ k
  one_extension full n k a b =
      let same = one_declaration all l a.file b.file
      (record { name = full; body = of_extension a.content })
      (record { name = full; body = of_extension b.content }) (left a.file a.there)
      (right b.file b.there) a.inside b.inside refl in
      let content : a.content ≡ b.content =
      extension_body a.content b.content (ap (λ (d : Declaration). d.body) same.1) in
      a.number ∙ ap (λ (c : FieldContent). unwrap_or (natural c.number) 0) content ∙ sym b.number

  pub one_field : (t name : Text) (n k : ℕ) → NumbersField fs t name n → NumbersField gs t name k
      → n ≡ k
  one_field t name n k a b =
      let same = one_declaration all l a.file b.file
      (record { name = t; body = of_message a.facts })
      (record { name = t; body = of_message b.facts }) (left a.file a.there)
      (right b.file b.there) a.inside b.inside refl in
      let facts : a.facts ≡ b.facts =
      message_body a.facts b.facts (ap (λ (d : Declaration). d.body) same.1) in
      let listed : AllZip (IsListed t) a.facts.fields b.entries =
      subst (λ (x : MessageFacts). AllZip (IsListed t) x.fields b.entries) (sym facts) b.listed in
      a.number
      ∙ one_number t name a.facts.fields a.entries b.entries a.listed listed a.index b.index a.first
      b.first
      ∙ sym b.number

-- ---- of a pool whose entries tell of its files

module _ (linked : PoolType) (l : AreLinked (map file_view linked.records))
    (tells : TellsFields linked) (d : MessageDescriptor) where
  abbrev fs : List FileContent
  fs = map file_view linked.records

  -- the type's extension of the full name
  pub extension_number : d.pool.now.extensions ≡ linked.extensions → (x : ExtensionDescriptor)
      → x.pool.now ≡ d.pool.now → (full : Text) → FindsOwn d full (Some x)
      → NumbersExtension fs full (target_type (targets.Extension x)).number
  extension_number same x in_pool full is =
      let at : Contains d.pool.now.extensions (extension_at d.pool.now x.index) =
      get_contains d.pool.now.extensions x.index (extension_at d.pool.now x.index)
      (get_at d.pool.now.extensions x.index no_extension is.0) in
      let there : Contains linked.extensions (extension_at d.pool.now x.index) =
      subst (λ xs. Contains xs (extension_at d.pool.now x.index)) same at in
      let told = (tells.extensions (extension_at d.pool.now x.index) there).field in
      let named : (extension_at d.pool.now x.index).field.full_name ≡ full =
      (is.1.0 no_extension).1 in
      record {
        file = told.file;
        content = told.content;
        there = told.there;
        inside = subst (λ m. Contains (declarations told.file)
            (record { name = m; body = of_extension told.content })) named told.inside;
        number = ap (λ (q : PoolType). (extension_at q x.index).field.number) in_pool
            ∙ told.entry.number;
      }

  -- the first of its fields that is called so
  pub field_numbered : d.pool.now.messages ≡ linked.messages → (f : FieldDescriptor) → f.message ≡ d
      → (t name : Text) → name_at d.pool.now d.index ≡ t
      → IsFirst (λ e. e.name ≡ name) (type_at d.pool.now d.index).fields (Some f.index)
      → NumbersField fs t name (target_type (targets.Field f)).number
  field_numbered same f own t name called is =
      let at : slice_get d.pool.now.messages d.index ≡ Some (type_at d.pool.now d.index) =
      get_at d.pool.now.messages d.index no_type d.in_range in
      let there : slice_get linked.messages d.index ≡ Some (type_at d.pool.now d.index) =
      subst (λ ms. slice_get ms d.index ≡ Some (type_at d.pool.now d.index)) same at in
      let told = message_told linked l tells d.index (type_at d.pool.now d.index) there in
      record {
        file = told.declared.file;
        facts = told.facts;
        there = told.declared.there;
        inside = subst (λ m. Contains (declarations told.declared.file)
            (record { name = m; body = of_message told.facts })) called told.declared.inside;
        entries = (type_at d.pool.now d.index).fields;
        listed = subst (λ m. AllZip (IsListed m) told.facts.fields
            (type_at d.pool.now d.index).fields) called told.fields;
        index = f.index;
        first = is;
        number = ap (λ (m : MessageDescriptor).
            (type_of_field m.pool.now m.index f.index).number) own;
      }
